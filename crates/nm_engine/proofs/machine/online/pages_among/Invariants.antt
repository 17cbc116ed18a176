use Rattle.std.proofs.Common.{◌≡◌, take}
use Rattle.std.specs.Prelude.{◌==◌}
use Rattle.std.specs.List.{filter}
use Rattle.std.specs.Map.{keys_of}
use Rattle.nm_types.specs.Layout.{node_of}
use Rattle.nm_engine.proofs.machine.online.pages_among.Given as goal

abbrev pub invariant-loop-page : goal.invariant-loop-page
invariant-loop-page g l = l.pages.items ≡ keys_of (filter (λ e. node_of l.geometry e.1 == l.node) (take l.page-index l.placed))
