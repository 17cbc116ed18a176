use Rattle.std.proofs.Common.{◌≡◌, ◌+◌, ◌<◌, ℕ, length, drop, subst, slice_set, slice_index_or, ap, sym, refl, ◌∙◌, arith}
use Rattle.std.specs.Prelude.{Some}
use Rattle.std.specs.Ordering.{nat_cmp, ord_max}
use Rattle.nm_types.specs.Layout.{node_count}
use Rattle.nm_types.specs.Map.{get, page_cmp}
use Rattle.nm_types.specs.declared.located_page.LocatedPage.{LocatedPage}
use Rattle.nm_model.specs.definitions.Seen.{users}
use Rattle.nm_spaces.specs.views.AddressSpaces.{AddressSpacesView}
use Rattle.nm_calls.proofs.Lines.Tallies.{Counted, none_counted, one_counted}
use Rattle.nm_laws.proofs.Lists.{drop_item}
use Rattle.nm_calls.proofs.maps.tally_of.Goals as goal

pub loop-page-init : goal.loop-page-init
loop-page-init g c = none_counted c.args.machine.now _ _ refl

pub users_in-users-requires : goal.users_in-users-requires
users_in-users-requires g c =
    let p = c.page-item.result in
    let placed = subst (λ (q : LocatedPage). get page_cmp c.args.machine.now.place q.page ≡ Some q.frame) (sym c.page-item.is) (c.requires.placed c.loop-page.page-index p c.loop-page-test.true) in
    (p.page, subst (λ (y : AddressSpacesView). get page_cmp y.place p.page ≡ Some p.frame) (sym c.spaces.ensures) placed)

pub loop-page-preserved : goal.loop-page-preserved
loop-page-preserved g c =
    let s = c.args.machine.now in
    let all = c.args.pages.now in
    let k = c.loop-page.page-index in
    let p = c.page-item.result in
    let low = c.loop-page-test.true in
    let rest = drop_item all k p low c.page-item.is in
    let below = subst (λ (q : LocatedPage). q.node < node_count s.layout) (sym c.page-item.is) (c.requires.nodes k p low) in
    let small : p.node < 64 = omega (arith, below, c.node_count.ensures.machine.few_nodes, ap node_count c.geometry.ensures.geometry) in
    let placed = subst (λ (q : LocatedPage). get page_cmp s.place q.page ≡ Some q.frame) (sym c.page-item.is) (c.requires.placed k p low) in
    let lent = subst (λ (y : AddressSpacesView). get page_cmp y.place p.page ≡ Some p.frame) (sym c.spaces.ensures) placed in
    let seen = c.users_in-users.ensures p.page lent ∙ ap (λ (y : AddressSpacesView). length (users y.processes p.page)) c.spaces.ensures in
    let most = c.max-most.ensures ∙ ap (ord_max nat_cmp c.loop-page.most) seen in
    subst (λ (i : ℕ). Counted s all (drop (k + 1) all) (c.loop-page.count + 1) c.max-most.result (slice_set c.loop-page.on i (slice_index_or c.loop-page.on i 0 + 1))) (sym c.index-node.ensures)
    (one_counted s all (drop k all) c.loop-page.count c.loop-page.most c.loop-page.on p (drop (k + 1) all) c.max-most.result rest small most c.loop-page.invariant)
