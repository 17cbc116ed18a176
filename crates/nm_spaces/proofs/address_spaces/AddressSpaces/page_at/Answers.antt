use Rattle.std.proofs.Common.{ap, ◌∙◌}
use Rattle.std.specs.Prelude.{Some}
use Rattle.nm_types.specs.State.{page_at, page_shown}
use Rattle.nm_spaces.specs.views.AddressSpaces.{AddressSpacesView}
use Rattle.nm_spaces.proofs.Boxed.{seen}
use Rattle.nm_spaces.proofs.Spaces.AreaLookups.{found_below, found_index}
use Rattle.nm_spaces.proofs.address_spaces.AddressSpaces.page_at.Goals as goal

pub page_in-requires-clause-over : goal.page_in-requires-clause-over
page_in-requires-clause-over g c =
    found_below c.deref-parts.result.now.areas.areas c.args.pid c.args.vpn c.over.ensures.kept.indices (Some (c.in_ok-first.first, c.in_ok-first.area)) c.in_ok-first.ensures.found

pub page_in-requires-clause-index : goal.page_in-requires-clause-index
page_in-requires-clause-index g c =
    found_index c.deref-parts.result.now.areas.areas c.args.pid c.args.vpn c.over.ensures.kept.indices (Some (c.in_ok-first.first, c.in_ok-first.area)) c.in_ok-first.ensures.found

pub returns : goal.returns
returns g c =
    ap Some c.page_in.ensures ∙ ap (λ o. page_shown o c.args.vpn) c.in_ok-first.ensures.found
    ∙ ap (λ (y : AddressSpacesView). page_at y.areas c.args.pid c.args.vpn) (seen c.deref-parts.ensures c.self.view_is)
