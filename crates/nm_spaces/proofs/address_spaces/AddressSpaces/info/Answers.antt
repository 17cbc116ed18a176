use Rattle.std.proofs.Common.{◌∙◌}
use Rattle.nm_spaces.proofs.Boxed.{seen}
use Rattle.nm_spaces.proofs.Tied.Beginnings.{info_shown}
use Rattle.nm_spaces.proofs.address_spaces.AddressSpaces.info.Goals as goal

pub returns : goal.returns
returns g c =
    let x = c.deref-parts.result.now in
    c.info.ensures ∙ info_shown c.args.self.now x.tasks x.areas x.rmap c.args.pid (seen c.deref-parts.ensures c.self.view_is)
