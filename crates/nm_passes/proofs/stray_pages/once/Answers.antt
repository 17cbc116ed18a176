use Rattle.std.proofs.Common.{◌+◌, List, [], ◌∷◌, length, drop, ap, sym, subst, ◌∙◌, arith, length-append}
use Rattle.nm_types.specs.declared.located_page.LocatedPage.{LocatedPage}
use Rattle.nm_passes.proofs.Policies.StrayPages.{HaveListed, one_listed, one_again, not_true, not_false}
use Rattle.nm_laws.proofs.Lists.{drop_item}
use Rattle.nm_passes.proofs.stray_pages.once.Goals as goal
use Rattle.nm_passes.proofs.stray_pages.once.Goals.{then-branch+in_ok-push, else-branch}

pub loop-page-preserved : goal.loop-page-preserved
loop-page-preserved g c =
    let all = c.args.pages.now in
    let k = c.loop-page.page-index in
    let x = c.page-item.result in
    let inv = c.loop-page.invariant in
    let some = drop_item all k x c.loop-page-test.true c.page-item.is in
    elim c.if-branch.branch [
      | then-branch+in_ok-push w ↦
          let first = not_true _ (sym c.in_ok-insert.ensures.added ∙ w.if-branch.true) in
          let listed = one_listed _ _ _ _ _ _ x inv.listed some c.in_ok-insert.ensures.updates first in
          let items = ap (λ v. v.items) w.all-is ∙ w.in_ok-push.ensures.items in
          let len = ap length items ∙ length-append c.loop-page.all.items (x ∷ []) in
          record {
            few = omega (arith, len, inv.few);
            listed = subst (λ (pages : List LocatedPage). HaveListed all (drop (k + 1) all) pages c.insert.new.self) (sym items) listed;
          }
      | else-branch w ↦
          let again = not_false _ (sym c.in_ok-insert.ensures.added ∙ w.if-branch.false) in
          let items = ap (λ v. v.items) w.all-is in
          record {
            few = omega (arith, ap length items, inv.few);
            listed = subst (λ (pages : List LocatedPage). HaveListed all (drop (k + 1) all) pages c.insert.new.self) (sym items) (one_again _ _ _ _ _ _ x inv.listed some c.in_ok-insert.ensures.updates again);
          }
    ]
