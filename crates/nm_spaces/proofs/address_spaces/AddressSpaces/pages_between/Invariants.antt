use Rattle.std.proofs.Common.{◌≡◌, ◌<◌, ◌++◌, drop}
use Rattle.std.specs.Prelude.{All, IfSome}
use Rattle.nm_types.specs.Layout.{node_count}
use Rattle.nm_model.specs.definitions.Seen.{IsOver}
use Rattle.nm_spaces.proofs.Spaces.ListedPages.{pages_in}
use Rattle.nm_spaces.proofs.address_spaces.AddressSpaces.pages_between.Given as goal

abbrev pub invariant-loop-vpn : goal.invariant-loop-vpn
invariant-loop-vpn g l = record {
  pages : l.pages.items ++ pages_in l.geometry l.self.place l.self.areas l.pid (drop l.vpn-index l.vpn-items) ≡ pages_in l.geometry l.self.place l.self.areas l.pid l.vpn-items;
  nodes : All (λ e. e.node < node_count l.geometry) l.pages.items;
  last : IfSome l.last (IsOver l.self.areas l.pid);
}
