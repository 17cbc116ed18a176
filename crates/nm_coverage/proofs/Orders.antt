-- The order of pages.
use Rattle.std.proofs.Common.{◌≡◌, true, false, not, refl, sym, ap, ◌∙◌, List, [], ◌∷◌}
use Rattle.std.specs.List.{AllByRecursion}
use Rattle.std.specs.Ordering.{is_eq, is_lt, is_le, is_gt, ordering_reverse}
use Rattle.std.specs.Cmp.{tied_itself}
use Rattle.std.specs.declared.cmp.Ordering.{Ordering}
use Rattle.std.specs.declared.cmp.Ordering.TheVariants.{Less, Equal, Greater}
use Rattle.std.proofs.lemmas.Bool.{false_from_ne_true}
use Rattle.std.proofs.lemmas.Cmp.{upto}
use Rattle.nm_types.specs.declared.page.Page.{Page}
use Rattle.nm_types.specs.Map.{page_cmp, same_page}
use Rattle.nm_types.proofs.Cases.{true_false}
use Rattle.nm_types.proofs.Maps.{equal, exact_page, page_cmp_total}

pub less_is : (r : Ordering) → is_lt r ≡ true → r ≡ Less
less_is Less h = refl
less_is Equal h = cc
less_is Greater h = cc

pub le_gt : (r : Ordering) → is_le r ≡ not (is_gt r)
le_gt Less = refl
le_gt Equal = refl
le_gt Greater = refl

pub le_is : (r : Ordering) → is_le r ≡ true → is_gt r ≡ false
le_is Less h = refl
le_is Equal h = refl
le_is Greater h = cc

pub is_le_from : (r : Ordering) → is_gt r ≡ false → is_le r ≡ true
is_le_from Less h = refl
is_le_from Equal h = refl
is_le_from Greater h = cc

pub lt_back : (r : Ordering) → is_lt (ordering_reverse r) ≡ is_gt r
lt_back Less = refl
lt_back Equal = refl
lt_back Greater = refl

pub gt_back : (r : Ordering) → is_gt (ordering_reverse r) ≡ is_lt r
gt_back Less = refl
gt_back Equal = refl
gt_back Greater = refl

-- one page before another
pub before_is : (p q : Page) → is_lt (page_cmp p q) ≡ is_gt (page_cmp q p)
before_is p q = ap is_lt (page_cmp_total.antisymm p q) ∙ lt_back (page_cmp q p)

-- a page that comes before another is not past it
pub up_to_less : (r : Ordering) → r ≡ Less → is_gt r ≡ false
up_to_less r h = ap is_gt h

pub le_trans : (a b p : Page) → is_gt (page_cmp a b) ≡ false → is_le (page_cmp b p) ≡ true → is_le (page_cmp a p) ≡ true
le_trans a b p low h = is_le_from (page_cmp a p) (upto page_cmp_total a b p low (le_is (page_cmp b p) h))

-- a page past another is past what comes before that
pub past_both : (e k p : Page) → page_cmp k e ≡ Greater → is_lt (page_cmp p k) ≡ false → is_lt (page_cmp p e) ≡ false
past_both e k p past behind =
    false_from_ne_true _ (λ h. true_false (sym (ap is_lt (page_cmp_total.trans p e k (less_is _ h) (page_cmp_total.antisymm e k ∙ ap ordering_reverse past))) ∙ behind))

pub all_later : (k h : Page) → page_cmp k h ≡ Less → (qs : List Page) → AllByRecursion (λ q. page_cmp h q ≡ Less) qs → AllByRecursion (λ q. page_cmp k q ≡ Less) qs
all_later k h less [] all = tt
all_later k h less (q ∷ qs) all = (page_cmp_total.trans k h q less all.0, all_later k h less qs all.1)

pub pages_same : (p q : Page) → same_page p q ≡ true → p ≡ q
pages_same p q h = exact_page p q (equal _ h)

pub page_itself : (p q : Page) → p ≡ q → same_page p q ≡ true
page_itself p q e = ap (λ (z : Page). same_page p z) (sym e) ∙ ap is_eq (tied_itself page_cmp_total p)
