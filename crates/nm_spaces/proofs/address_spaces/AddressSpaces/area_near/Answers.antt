use Rattle.std.proofs.Common.{subst}
use Rattle.std.specs.Prelude.{IfSome}
use Rattle.nm_spaces.specs.views.AddressSpaces.{AddressSpacesView}
use Rattle.nm_model.specs.definitions.Seen.{IsOver}
use Rattle.nm_spaces.proofs.Boxed.{seen}
use Rattle.nm_spaces.proofs.Spaces.AreaLookups.{found_here, found_over}
use Rattle.nm_spaces.proofs.address_spaces.AddressSpaces.area_near.Goals as goal

pub returns-else-is_over-clause-over : goal.returns-else-is_over-clause-over
returns-else-is_over-clause-over g c =
    subst (λ (y : AddressSpacesView). IfSome c.over.result (IsOver y.areas c.args.pid)) (seen c.deref-parts.ensures c.self.view_is)
    (found_over c.deref-parts.result.now.areas.areas c.args.pid c.args.vpn c.over.ensures.kept.indices c.over.result c.over.ensures.found c.over.ensures.over)

pub returns-in-None-clause-over : goal.returns-in-None-clause-over
returns-in-None-clause-over g c =
    subst (λ (y : AddressSpacesView). IfSome c.over-in-None.result (IsOver y.areas c.args.pid)) (seen c.deref-parts.ensures c.self.view_is)
    (found_over c.deref-parts.result.now.areas.areas c.args.pid c.args.vpn c.over-in-None.ensures.kept.indices c.over-in-None.result c.over-in-None.ensures.found c.over-in-None.ensures.over)

pub returns-else-is_over-clause-here : goal.returns-else-is_over-clause-here
returns-else-is_over-clause-here g c =
    found_here c.deref-parts.result.now.areas.areas c.args.pid c.args.vpn c.over.ensures.kept.indices c.over.result c.over.ensures.found

pub returns-in-None-clause-here : goal.returns-in-None-clause-here
returns-in-None-clause-here g c =
    found_here c.deref-parts.result.now.areas.areas c.args.pid c.args.vpn c.over-in-None.ensures.kept.indices c.over-in-None.result c.over-in-None.ensures.found
