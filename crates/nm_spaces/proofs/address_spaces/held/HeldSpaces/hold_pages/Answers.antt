use Rattle.std.proofs.Common.{[], ◌∷◌, ◌++◌, map, take, drop, ◌+◌, sym, subst, ap, ◌∙◌}
use Rattle.std.proofs.lemmas.List.{map-append, take_more}
use Rattle.nm_types.specs.declared.page.Page.{Page}
use Rattle.nm_types.specs.declared.page_move.PageMove.{PageMove}
use Rattle.nm_laws.proofs.Lists.{drop_item}
use Rattle.nm_spaces.specs.views.AddressSpaces.{AddressSpacesView}
use Rattle.nm_spaces.specs.views.Held.{HoldsPages}
use Rattle.nm_spaces.specs.definitions.Moves.{CanRemap, all_moved}
use Rattle.nm_spaces.proofs.address_spaces.held.HeldSpaces.hold_pages.Goals as goal

pub loop-taken-preserved : goal.loop-taken-preserved
loop-taken-preserved g c =
    let moves = c.args.moves.now in
    let k = c.loop-taken.taken-index in
    let t = c.taken-item.result in
    let rest = drop (k + 1) moves in
    let at = drop_item moves k t c.loop-taken-test.true c.taken-item.is in
    let is = c.hold_page.ensures.spaces in
    let page : PageMove → Page = λ t. t.page in
    let pages = ap (map page) (take_more moves k t c.loop-taken-test.true ∙ ap (λ u. take k moves ++ u ∷ []) (sym c.taken-item.is)) ∙ map-append page (take k moves) (t ∷ []) in
    record {
      can = subst (λ (z : AddressSpacesView). CanRemap z rest) (sym is) (subst (CanRemap c.loop-taken.self.spaces) at c.loop-taken.invariant.can).3;
      moved = ap (λ (z : AddressSpacesView). all_moved z rest) is ∙ sym (ap (all_moved c.loop-taken.self.spaces) at) ∙ c.loop-taken.invariant.moved;
      entries = subst (HoldsPages c.hold_page.new.self) (sym pages) (c.hold_page.ensures.entries (map page (take k moves)) c.loop-taken.invariant.entries);
    }
