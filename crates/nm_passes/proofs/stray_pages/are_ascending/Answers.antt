use Rattle.std.proofs.Common.{◌≡◌, List, subst, rules}
use Rattle.std.specs.List.{IsAllAdjacentAnswer}
use Rattle.std.specs.Ordering.{is_lt}
use Rattle.std.proofs.lemmas.List.Sorted.{answers_always}
use Rattle.nm_types.specs.Map.{page_cmp}
use Rattle.nm_types.specs.declared.located_page.LocatedPage.{LocatedPage}
use Rattle.nm_passes.proofs.PageLists.Ascending.{ascending_once}
use Rattle.nm_passes.proofs.stray_pages.are_ascending.Goals as goal

pub returns-clause-once : goal.returns-clause-once
returns-clause-once c is =
    let pages : List LocatedPage = c.args.pages.now in
    let before = λ (x y : LocatedPage). is_lt (page_cmp x.page y.page) in
    ascending_once (λ (l : LocatedPage). l.page) pages
    (subst (λ b. IsAllAdjacentAnswer (λ x y b. b ≡ before x y) pages b) is (c.is_sorted_by.ensures.cases before (answers_always _ _ _ (λ f a r h called. search rules))))

pub returns-clause-answer : goal.returns-clause-answer
returns-clause-answer c =
    c.is_sorted_by.ensures.cases (λ (x y : LocatedPage). is_lt (page_cmp x.page y.page)) (answers_always _ _ _ (λ f a r h called. search rules))
