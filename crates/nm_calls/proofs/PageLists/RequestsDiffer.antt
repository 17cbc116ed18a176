-- No page is listed twice.
use Rattle.std.proofs.Common.{◌≡◌, Bool, true, false, cond, not, List, [], ◌∷◌, map, refl}
use Rattle.std.specs.List.{AllByRecursion, IsDistinct, filter}
use Rattle.nm_types.specs.declared.page.Page.{Page}
use Rattle.nm_types.specs.Map.{same_page}
use Rattle.nm_model.specs.definitions.Order.{follows}
use Rattle.nm_types.specs.declared.located_page.LocatedPage.{LocatedPage}
use Rattle.nm_model.specs.definitions.Seen.{located_between}
use Rattle.nm_calls.specs.definitions.Mbind.{NoStrayIsListedTwice}
use Rattle.nm_passes.proofs.Policies.StrayPages.{pages_once}

all_filtered : {X : Type 0} (P : X → Type 0) (test : X → Bool) (xs : List X) → AllByRecursion P xs → AllByRecursion P (filter test xs)
all_filtered P test [] h = tt
all_filtered P test (x ∷ xs) h =
    let rest = all_filtered P test xs h.1 in
    elim (test x) as (λ b. AllByRecursion P (cond b (x ∷ filter test xs) (filter test xs))) [
      | true ↦ (h.0, rest)
      | false ↦ rest
    ]

-- elements with a page each, which may be another one
module _ {X : Type 0} (of : X → Page) where
  abbrev pub Differs : X → X → Type 0
  Differs e f = same_page (of e) (of f) ≡ false

  -- each has another page than those after it
  abbrev pub AllDiffer : List X → Type 0
  AllDiffer [] = Unit {0}
  AllDiffer (e ∷ es) = AllByRecursion (Differs e) es × AllDiffer es

  pub differ_filtered : (test : X → Bool) (es : List X) → AllDiffer es → AllDiffer (filter test es)
  differ_filtered test [] h = tt
  differ_filtered test (e ∷ es) h =
      let rest = differ_filtered test es h.1 in
      elim (test e) as (λ b. AllDiffer (cond b (e ∷ filter test es) (filter test es))) [
        | true ↦ (all_filtered (Differs e) test es h.0, rest)
        | false ↦ rest
      ]

  -- what is left has another page
  pub left_differs : (e : X) (es : List X) → AllByRecursion (Differs e) (filter (λ f. not (same_page (of e) (of f))) es)
  left_differs e [] = tt
  left_differs e (f ∷ es) =
      let test : X → Bool = λ g. not (same_page (of e) (of g)) in
      let rest = left_differs e es in
      elim (same_page (of e) (of f)) as (λ b. same_page (of e) (of f) ≡ b → AllByRecursion (Differs e) (cond (not b) (f ∷ filter test es) (filter test es))) [
        | true ↦ λ h. rest
        | false ↦ λ h. (h, rest)
      ] refl

abbrev its_page : LocatedPage → Page
its_page l = l.page

once_differs : (es : List LocatedPage) → AllDiffer its_page (pages_once es)
once_differs [] = tt
once_differs (e ∷ es) = (left_differs its_page e (pages_once es), differ_filtered its_page (λ f. not (same_page e.page f.page)) (pages_once es) (once_differs es))

others_of : (e : LocatedPage) (es : List LocatedPage) → AllByRecursion (Differs its_page e) es → AllByRecursion (λ q. same_page e.page q ≡ false) (map {B = Page} (λ l. l.page) es)
others_of e [] h = tt
others_of e (f ∷ es) h = (h.0, others_of e es h.1)

pages_differ : (es : List LocatedPage) → AllDiffer its_page es → IsDistinct same_page (map {B = Page} (λ l. l.page) es)
unfolding IsDistinct
pages_differ [] h = tt
pages_differ (e ∷ es) h = (others_of e es h.0, pages_differ es h.1)

pub each_page_is_listed_once : NoStrayIsListedTwice
each_page_is_listed_once s b =
    let stray = filter (λ l. not (follows b.policy l.node)) (located_between s b.pid b.first b.end) in
    pages_differ (pages_once stray) (once_differs stray)
