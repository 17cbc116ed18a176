use Rattle.std.proofs.Common.{◌≡◌, List, sym, subst}
use Rattle.std.specs.Prelude.{All, Some}
use Rattle.nm_types.specs.Map.{get, page_cmp}
use Rattle.nm_types.specs.declared.located_page.LocatedPage.{LocatedPage}
use Rattle.nm_spaces.specs.views.AddressSpaces.{AddressSpacesView}
use Rattle.nm_calls.proofs.maps.count_pages.Goals as goal

pub tally_of-requires-clause-placed : goal.tally_of-requires-clause-placed
tally_of-requires-clause-placed g c κs within =
    subst (λ (ps : List LocatedPage). All (λ (page : LocatedPage). get page_cmp c.args.machine.now.place page.page ≡ Some page.frame) ps) (sym c.as_slice.ensures.value)
    (subst (λ (y : AddressSpacesView). All (λ (page : LocatedPage). get page_cmp y.place page.page ≡ Some page.frame) c.in_ok-pages.pages.items) c.spaces.ensures c.in_ok-pages.ensures.placed)
