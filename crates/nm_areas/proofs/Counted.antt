-- Numbers of areas, added up.
use Rattle.std.proofs.Common.{◌≡◌, ℕ, suc, ◌+◌, ◌-◌, ◌≤◌, ◌<◌, List, [], ◌∷◌, ◌++◌, Bool, true, false, not, ◌&&◌, ◌||◌, cond, refl, sym, ap, ◌∙◌, arith, inl, inr, length, eq-eqb}
use Rattle.std.specs.Prelude.{Some, None, Result, Ok, Err, OnErr, nat_lt, ◌==◌, if◌then◌else◌}
use Rattle.std.specs.List.{AllByRecursion, filter, flat_map}
use Rattle.std.specs.Ordering.{is_eq, match_ordering}
use Rattle.std.specs.declared.cmp.Ordering.TheVariants.{Less, Equal, Greater}
use Rattle.std.proofs.lemmas.Bool.{eqb-true, ltb-true, ltb-false, lt-ltb, and_parts, false_from_ne_true}
use Rattle.nm_types.specs.declared.page.Page.{Page}
use Rattle.nm_types.specs.declared.area.Area.{Area}
use Rattle.nm_types.specs.declared.area.Policy.{Policy}
use Rattle.nm_types.specs.Map.{Map, get, set, with_values, same_page, spot_cmp}
use Rattle.nm_types.specs.State.{PlacedArea, covers, area_over, page_of}
use Rattle.nm_types.proofs.Cases.{true_false, some_none, none_some, some_is}
use Rattle.nm_areas.specs.Coverage.{sum_over_areas, end_of, ends_of, covers_of, ends_at, covers_at, IsFlat, split_of, splits_at}
use Rattle.nm_model.specs.definitions.Areas.{AreasAreApart, IsSomePages}
use Rattle.nm_model.specs.definitions.Areas.{parts_outside, shows_page, covers_page, is_covered}
use Rattle.nm_model.specs.definitions.Areas.{split_at, with_policy_in}
use Rattle.nm_model.specs.definitions.Areas.{page_in, begins_in, is_own}
use Rattle.nm_coverage.specs.Shifted.{is_between}
use Rattle.nm_model.proofs.areas.Apart.{behind_last, covers_parts, covers_from}
use Rattle.nm_model.proofs.areas.Parted.{Among, All-among}
use Rattle.nm_model.proofs.areas.Cut.{shorter, later, cut_not, cut_mid}
use Rattle.nm_areas.proofs.Own.{same_test}
use Rattle.nm_model.proofs.areas.Repoliced.{split_some}
use Rattle.nm_coverage.proofs.Orders.{pages_same, page_itself}
use Rattle.nm_coverage.proofs.Between.{between_parts, between_from}

-- ---- sums

pub total_among : (f g : PlacedArea → ℕ) (areas : List PlacedArea) → ((a : PlacedArea) → Among a areas → f a ≡ g a) → sum_over_areas f areas ≡ sum_over_areas g areas
total_among f g [] h = refl
total_among f g (x ∷ areas) h =
    let first = h x (inl refl) in
    let rest = total_among f g areas (λ a m. h a (inr m)) in
    omega (arith, first, rest)

pub total_zero : (f : PlacedArea → ℕ) (areas : List PlacedArea) → ((a : PlacedArea) → Among a areas → f a ≡ 0) → sum_over_areas f areas ≡ 0
total_zero f [] h = refl
total_zero f (x ∷ areas) h =
    let first = h x (inl refl) in
    let rest = total_zero f areas (λ a m. h a (inr m)) in
    omega (arith, first, rest)

pub total_append : (f : PlacedArea → ℕ) (xs ys : List PlacedArea) → sum_over_areas f (xs ++ ys) ≡ sum_over_areas f xs + sum_over_areas f ys
total_append f [] ys = omega arith
total_append f (x ∷ xs) ys = let rest = total_append f xs ys in omega (arith, rest)

pub total_flat : (f : PlacedArea → ℕ) (g : PlacedArea → List PlacedArea) (areas : List PlacedArea) → sum_over_areas f (flat_map g areas) ≡ sum_over_areas (λ a. sum_over_areas f (g a)) areas
total_flat f g [] = refl
total_flat f g (x ∷ areas) =
    let parts = total_append f (g x) (flat_map g areas) in
    let rest = total_flat f g areas in
    omega (arith, parts, rest)

pub total_add : (f g : PlacedArea → ℕ) (areas : List PlacedArea) → sum_over_areas (λ a. f a + g a) areas ≡ sum_over_areas f areas + sum_over_areas g areas
total_add f g [] = refl
total_add f g (x ∷ areas) = let rest = total_add f g areas in omega (arith, rest)

pub total_few : (f : PlacedArea → ℕ) (areas : List PlacedArea) → ((a : PlacedArea) → Among a areas → f a ≤ 1) → sum_over_areas f areas ≤ length areas
total_few f [] h = omega arith
total_few f (x ∷ areas) h =
    let first = h x (inl refl) in
    let rest = total_few f areas (λ a m. h a (inr m)) in
    omega (arith, first, rest)

-- those that pass a test, and those that do not
pub total_parts : (f : PlacedArea → ℕ) (test : PlacedArea → Bool) (areas : List PlacedArea) → sum_over_areas f (filter (λ a. not (test a)) areas) + sum_over_areas f (filter test areas) ≡ sum_over_areas f areas
total_parts f test [] = refl
total_parts f test (x ∷ areas) =
    let rest = total_parts f test areas in
    elim (test x) as (λ b. sum_over_areas f (cond (not b) (x ∷ filter (λ a. not (test a)) areas) (filter (λ a. not (test a)) areas)) + sum_over_areas f (cond b (x ∷ filter test areas) (filter test areas)) ≡ f x + sum_over_areas f areas) [
      | true ↦ omega (arith, rest)
      | false ↦ omega (arith, rest)
    ]

-- with another area
pub total_set : (f : PlacedArea → ℕ) (areas : Map (ℕ × ℕ) Area) (s : ℕ × ℕ) (x : Area) → get spot_cmp areas s ≡ None → sum_over_areas f (set spot_cmp areas s x) ≡ sum_over_areas f areas + f (s, x)
total_set f [] s x h = omega arith
total_set f (e ∷ areas) s x h =
    elim (spot_cmp s e.0) as (λ r. cond (is_eq r) (Some e.1) (get spot_cmp areas s) ≡ None → sum_over_areas f (match_ordering r ((s, x) ∷ e ∷ areas) ((e.0, x) ∷ areas) (e ∷ set spot_cmp areas s x)) ≡ (f e + sum_over_areas f areas) + f (s, x)) [
      | Less ↦ λ k. omega arith
      | Equal ↦ λ k. absurd (some_none k)
      | Greater ↦ λ k. let rest = total_set f areas s x k in omega (arith, rest)
    ] h

-- of areas that do not overlap at most one covers a page number
module _ (f : PlacedArea → ℕ) (pid at : ℕ) (not_over : (a : PlacedArea) → covers a pid at ≡ false → f a ≡ 0) where
  pub total_over : (areas : Map (ℕ × ℕ) Area) → AreasAreApart areas → (a : PlacedArea) → area_over areas pid at ≡ Some a → sum_over_areas f areas ≡ f a
  total_over [] apart a h = absurd (none_some h)
  total_over (x ∷ areas) apart a h =
      elim (covers x pid at) as (λ b. covers x pid at ≡ b → cond b (Some x) (area_over areas pid at) ≡ Some a → f x + sum_over_areas f areas ≡ f a) [
        | true ↦ λ b k.
            let none = total_zero f areas (λ y m. not_over y (All-among (λ z. (q v : ℕ) → covers x q v ≡ true → covers z q v ≡ false) areas y apart.0 m pid at b)) in
            let same : f x ≡ f a = ap f (some_is k) in
            omega (arith, none, same)
        | false ↦ λ b k. let none = not_over x b in let rest = total_over areas apart.1 a k in omega (arith, none, rest)
      ] refl h

  pub total_over_none : (areas : Map (ℕ × ℕ) Area) → area_over areas pid at ≡ None → sum_over_areas f areas ≡ 0
  total_over_none [] h = refl
  total_over_none (x ∷ areas) h =
      elim (covers x pid at) as (λ b. covers x pid at ≡ b → cond b (Some x) (area_over areas pid at) ≡ None → f x + sum_over_areas f areas ≡ 0) [
        | true ↦ λ b k. absurd (some_none k)
        | false ↦ λ b k. let none = not_over x b in let rest = total_over_none areas k in omega (arith, none, rest)
      ] refl h

-- ---- the counts are flat between ends, and few

abbrev one : Bool → ℕ
one b = if b then 1 else 0

no_end : (b c : Bool) → one b + one c ≡ 0 → (b ≡ false) × (c ≡ false)
no_end false false h = (refl, refl)
no_end true c h = absurd (omega (arith, h))
no_end false true h = absurd (omega (arith, h))

one_if : (b c : Bool) → b ≡ c → one b ≡ one c
one_if b c e = ap one e

module _ (x : Area) where
  flat_next : (s i : ℕ) → ends_of (page_in s (suc i)) x ≡ 0 → covers_of (page_in s (suc i)) x ≡ covers_of (page_in s i) x
  flat_next s i h =
      let next = page_in s (suc i) in
      let none = no_end (same_page x.page next) (same_page (end_of x) next) h in
      let past = x.page.index + x.pages in
      one_if (shows_page next x) (shows_page (page_in s i) x) (same_test _ _
      (λ k.
      let parts = between_parts x.page.segment x.page.index past next k in
      elim (nat_lt i x.page.index) as (λ b. nat_lt i x.page.index ≡ b → shows_page (page_in s i) x ≡ true) [
        | true ↦ λ b.
            let low : i < x.page.index = ltb-true i x.page.index b in
            let here : x.page.index ≡ suc i = omega (arith, low, parts.1) in
            let path : x.page ≡ next = λ t. record { segment = parts.0 t; index = here t } in
            absurd (true_false (sym (page_itself x.page next path) ∙ none.0))
        | false ↦ λ b. between_from x.page.segment x.page.index past (page_in s i) parts.0 (ltb-false i x.page.index b) (omega (arith, parts.2))
      ] refl)
      (λ k.
      let parts = between_parts x.page.segment x.page.index past (page_in s i) k in
      elim (nat_lt (suc i) past) as (λ b. nat_lt (suc i) past ≡ b → shows_page next x ≡ true) [
        | true ↦ λ b. between_from x.page.segment x.page.index past next parts.0 (omega (arith, parts.1)) (ltb-true (suc i) past b)
        | false ↦ λ b.
            let high : past ≤ suc i = ltb-false (suc i) past b in
            let here : past ≡ suc i = omega (arith, high, parts.2) in
            let path : end_of x ≡ next = λ t. record { segment = parts.0 t; index = here t } in
            absurd (true_false (sym (page_itself (end_of x) next path) ∙ none.1))
      ] refl))

  flat_first : (s : ℕ) → ends_of (page_in s 0) x ≡ 0 → covers_of (page_in s 0) x ≡ 0
  flat_first s h =
      let none = no_end (same_page x.page (page_in s 0)) (same_page (end_of x) (page_in s 0)) h in
      one_if (shows_page (page_in s 0) x) false (false_from_ne_true _ (λ k.
      let parts = between_parts x.page.segment x.page.index (x.page.index + x.pages) (page_in s 0) k in
      let here : x.page.index ≡ 0 = omega (arith, parts.1) in
      let path : x.page ≡ page_in s 0 = λ t. record { segment = parts.0 t; index = here t } in
      true_false (sym (page_itself x.page (page_in s 0) path) ∙ none.0)))

  one_end_only : (p : Page) → 0 < x.pages → ends_of p x ≤ 1
  one_end_only p some =
      elim (same_page x.page p) as (λ b. same_page x.page p ≡ b → (if b then 1 else 0) + (if same_page (end_of x) p then 1 else 0) ≤ 1) [
        | true ↦ λ b. elim (same_page (end_of x) p) as (λ c. same_page (end_of x) p ≡ c → 1 + (if c then 1 else 0) ≤ 1) [
          | true ↦ λ c.
              let same : x.page.index ≡ x.page.index + x.pages = ap (λ (q : Page). q.index) (pages_same x.page p b ∙ sym (pages_same (end_of x) p c)) in
              absurd (omega (arith, same, some))
          | false ↦ λ c. omega arith
        ] refl
        | false ↦ λ b. elim (same_page (end_of x) p) as (λ c. 0 + (if c then 1 else 0) ≤ 1) [ true ↦ omega arith | false ↦ omega arith ]
      ] refl

  one_cover_only : (p : Page) → covers_of p x ≤ 1
  one_cover_only p = elim (shows_page p x) as (λ b. (if b then 1 else 0) ≤ 1) [ true ↦ omega arith | false ↦ omega arith ]

all_next : (areas : Map (ℕ × ℕ) Area) (s i : ℕ) → ends_at areas (page_in s (suc i)) ≡ 0 → covers_at areas (page_in s (suc i)) ≡ covers_at areas (page_in s i)
all_next [] s i h = refl
all_next (a ∷ areas) s i h =
    let first = flat_next a.1 s i (omega (arith, h)) in
    let rest = all_next areas s i (omega (arith, h)) in
    omega (arith, first, rest)

all_first : (areas : Map (ℕ × ℕ) Area) (s : ℕ) → ends_at areas (page_in s 0) ≡ 0 → covers_at areas (page_in s 0) ≡ 0
all_first [] s h = refl
all_first (a ∷ areas) s h =
    let first = flat_first a.1 s (omega (arith, h)) in
    let rest = all_first areas s (omega (arith, h)) in
    omega (arith, first, rest)

pub areas_flat : (areas : Map (ℕ × ℕ) Area) → IsFlat (ends_at areas) (covers_at areas)
areas_flat areas = (all_first areas, all_next areas)

pub areas_few : (areas : Map (ℕ × ℕ) Area) → AllByRecursion IsSomePages areas → (p : Page) → (ends_at areas p ≤ length areas) × (covers_at areas p ≤ length areas)
areas_few areas some p = (
  total_few (λ a. ends_of p a.1) areas (λ a m. one_end_only a.1 p (All-among IsSomePages areas a some m)),
  total_few (λ a. covers_of p a.1) areas (λ a m. one_cover_only a.1 p),
)

-- ---- whether some area covers a page

shown_or_not : (b : Bool) → one b ≡ 0 → b ≡ false
shown_or_not true h = absurd (omega (arith, h))
shown_or_not false h = refl

pub not_covered : (areas : Map (ℕ × ℕ) Area) (p : Page) → covers_at areas p ≡ 0 → is_covered areas p ≡ false
not_covered [] p h = refl
not_covered (a ∷ areas) p h =
    ap (λ b. b || is_covered areas p) (shown_or_not (covers_page p a) (omega (arith, h))) ∙ not_covered areas p (omega (arith, h))

pub some_cover : (areas : Map (ℕ × ℕ) Area) (p : Page) → (covers_at areas p ≡ 0 → ⊥) → is_covered areas p ≡ true
some_cover [] p h = absurd (h refl)
some_cover (a ∷ areas) p h =
    elim (covers_page p a) as (λ b. ((if b then 1 else 0) + covers_at areas p ≡ 0 → ⊥) → (b || is_covered areas p) ≡ true) [
      | true ↦ λ k. refl
      | false ↦ λ k. some_cover areas p (λ e. k (omega (arith, e)))
    ] h

-- ---- areas that are split at a page number

-- whether an area is split there
crossing : (pid at : ℕ) (a : PlacedArea) (P : Type 0) → (a.0.0 ≡ pid → a.0.1 < at → at < behind_last a → P) → ((a.0.0 ≡ pid → a.0.1 < at → at < behind_last a → ⊥) → P) → P
crossing pid at a P splits stays =
    elim (a.0.0 == pid) as (λ b. (a.0.0 == pid) ≡ b → P) [
      | false ↦ λ b. stays (λ own low high. true_false (sym (eq-eqb a.0.0 pid own) ∙ b))
      | true ↦ λ b. elim (nat_lt a.0.1 at) as (λ c. nat_lt a.0.1 at ≡ c → P) [
        | false ↦ λ c. stays (λ own low high. let k : at ≤ a.0.1 = ltb-false a.0.1 at c in omega (arith, low, k))
        | true ↦ λ c. elim (nat_lt at (behind_last a)) as (λ d. nat_lt at (behind_last a) ≡ d → P) [
          | false ↦ λ d. stays (λ own low high. let k : behind_last a ≤ at = ltb-false at (behind_last a) d in omega (arith, high, k))
          | true ↦ λ d. splits (eqb-true a.0.0 pid b) (ltb-true a.0.1 at c) (ltb-true at (behind_last a) d)
        ] refl
      ] refl
    ] refl

pub between_joined : (s a b c : ℕ) (p : Page) → a ≤ b → b ≤ c → (if is_between s a b p then 1 else 0) + (if is_between s b c p then 1 else 0) ≡ (if is_between s a c p then 1 else 0)
between_joined s a b c p low high =
    elim (is_between s a b p) as (λ x. is_between s a b p ≡ x → (if x then 1 else 0) + (if is_between s b c p then 1 else 0) ≡ (if is_between s a c p then 1 else 0)) [
      | true ↦ λ x.
          let parts = between_parts s a b p x in
          let not_behind : is_between s b c p ≡ false = false_from_ne_true _ (λ k. let others = between_parts s b c p k in absurd (omega (arith, parts.2, others.1))) in
          ap (λ y. 1 + (if y then 1 else 0)) not_behind ∙ sym (ap (λ y. if y then 1 else 0) (between_from s a c p parts.0 parts.1 (omega (arith, parts.2, high))))
      | false ↦ λ x.
          let same = one_if (is_between s b c p) (is_between s a c p) (same_test _ _
          (λ k. let parts = between_parts s b c p k in between_from s a c p parts.0 (omega (arith, parts.1, low)) parts.2)
          (λ k.
          let parts = between_parts s a c p k in
          elim (nat_lt p.index b) as (λ d. nat_lt p.index b ≡ d → is_between s b c p ≡ true) [
            | true ↦ λ d. absurd (true_false (sym (between_from s a b p parts.0 parts.1 (ltb-true p.index b d)) ∙ x))
            | false ↦ λ d. between_from s b c p parts.0 (ltb-false p.index b d) parts.2
          ] refl)) in
          omega (arith, same)
    ] refl

twice : (f e g : ℕ) (b : Bool) → g ≡ e → (f + (if b then 1 else 0)) + (((if b then 1 else 0) + g) + 0) ≡ (f + e) + (if b then 2 else 0)
twice f e g true h = omega (arith, h)
twice f e g false h = omega (arith, h)

split_nothing : (pid at : ℕ) (p : Page) (a : PlacedArea) → (a.0.0 ≡ pid → a.0.1 < at → at < behind_last a → ⊥) → split_of pid at p a ≡ 0
split_nothing pid at p a h =
    ap (λ b. if b then 2 else 0) (false_from_ne_true _ (λ k.
    let both = and_parts (covers a pid at) (nat_lt a.0.1 at && same_page (page_of a at) p) k in
    let cover = covers_parts a pid at both.0 in
    absurd (h cover.0 (ltb-true a.0.1 at (and_parts (nat_lt a.0.1 at) (same_page (page_of a at) p) both.1).0) cover.2)))

pub split_there : (pid at : ℕ) (p : Page) (a : PlacedArea) → a.0.0 ≡ pid → a.0.1 < at → at < behind_last a → split_of pid at p a ≡ (if same_page (page_of a at) p then 2 else 0)
split_there pid at p a own low high =
    ap (λ b. if b && (nat_lt a.0.1 at && same_page (page_of a at) p) then 2 else 0) (covers_from a pid at own (omega (arith, low)) high)
    ∙ ap (λ b. if b && same_page (page_of a at) p then 2 else 0) (lt-ltb a.0.1 at low)

-- an area that does not cover a page number, or begins there, is not split
pub not_over : (pid at : ℕ) (p : Page) (a : PlacedArea) → covers a pid at ≡ false → split_of pid at p a ≡ 0
not_over pid at p a h = ap (λ b. if b && (nat_lt a.0.1 at && same_page (page_of a at) p) then 2 else 0) h

pub begins_there : (pid at : ℕ) (p : Page) (a : PlacedArea) → at ≤ a.0.1 → split_of pid at p a ≡ 0
begins_there pid at p a h = split_nothing pid at p a (λ own low high. omega (arith, low, h))

split_few : (pid at : ℕ) (p : Page) (a : PlacedArea) → split_of pid at p a ≤ 2
split_few pid at p a = elim (covers a pid at && (nat_lt a.0.1 at && same_page (page_of a at) p)) as (λ b. (if b then 2 else 0) ≤ 2) [ true ↦ omega arith | false ↦ omega arith ]

pub splits_few : (areas : Map (ℕ × ℕ) Area) → AreasAreApart areas → (pid at : ℕ) (p : Page) → splits_at areas pid at p ≤ 2
splits_few areas apart pid at p =
    elim (area_over areas pid at) as (λ o. area_over areas pid at ≡ o → splits_at areas pid at p ≤ 2) [
      | None ↦ λ o. let none = total_over_none (split_of pid at p) pid at (not_over pid at p) areas o in omega (arith, none)
      | Some a ↦ λ o. let one = total_over (split_of pid at p) pid at (not_over pid at p) areas apart a o in let few = split_few pid at p a in omega (arith, one, few)
    ] refl

-- the second part of an area is split as the area is
split_back : (pid first at : ℕ) (p : Page) (a : PlacedArea) → a.0.0 ≡ pid → a.0.1 < first → first < behind_last a → first < at → split_of pid at p ((a.0.0, first), later first a) ≡ split_of pid at p a
split_back pid first at p a own low high less =
    let back : PlacedArea = ((a.0.0, first), later first a) in
    elim (nat_lt at (behind_last a)) as (λ b. nat_lt at (behind_last a) ≡ b → split_of pid at p back ≡ split_of pid at p a) [
      | true ↦ λ b.
          let last : at < behind_last a = ltb-true at (behind_last a) b in
          let same : (a.1.page.index + (first - a.0.1)) + (at - first) ≡ a.1.page.index + (at - a.0.1) = omega (arith, low, less) in
          split_there pid at p back own less (omega (arith, last, low, high))
          ∙ ap (λ n. if same_page (page_in a.1.page.segment n) p then 2 else 0) same
          ∙ sym (split_there pid at p a own (omega (arith, low, less)) last)
      | false ↦ λ b.
          let last : behind_last a ≤ at = ltb-false at (behind_last a) b in
          split_nothing pid at p back (λ o l h. omega (arith, last, low, high, h)) ∙ sym (split_nothing pid at p a (λ o l h. omega (arith, last, h)))
    ] refl

module _ (pid at : ℕ) (p : Page) (a : PlacedArea) where
  abbrev whole : ℕ
  whole = ends_of p a.1

  pub split_ends : 0 < a.1.pages → sum_over_areas (λ b. ends_of p b.1) (parts_outside pid at at a) ≡ ends_of p a.1 + split_of pid at p a
  split_ends some =
      crossing pid at a _
      (λ own low high.
      let k = at - a.0.1 in
      let back : (a.1.page.index + k) + (a.1.pages - k) ≡ a.1.page.index + a.1.pages = omega (arith, low, high) in
      ap (sum_over_areas (λ b. ends_of p b.1)) (cut_mid pid at a own low high)
      ∙ twice (if same_page a.1.page p then 1 else 0) (if same_page (end_of a.1) p then 1 else 0) (if same_page (end_of (later at a)) p then 1 else 0) (same_page (page_of a at) p)
      (ap (λ n. if same_page (page_in a.1.page.segment n) p then 1 else 0) back)
      ∙ ap (λ n. whole + n) (sym (split_there pid at p a own low high)))
      (λ other.
      let none = split_nothing pid at p a other in
      ap (sum_over_areas (λ b. ends_of p b.1)) (cut_not pid at a some other) ∙ ap (λ n. whole + n) (sym none))

  pub split_covers : 0 < a.1.pages → sum_over_areas (λ b. covers_of p b.1) (parts_outside pid at at a) ≡ covers_of p a.1
  split_covers some =
      crossing pid at a _
      (λ own low high.
      let k = at - a.0.1 in
      let i = a.1.page.index in
      let back : (i + k) + (a.1.pages - k) ≡ i + a.1.pages = omega (arith, low, high) in
      let nothing : covers_of p (later at a) + 0 ≡ covers_of p (later at a) = omega arith in
      ap (sum_over_areas (λ b. covers_of p b.1)) (cut_mid pid at a own low high)
      ∙ ap (λ n. covers_of p (shorter at a) + n) (nothing ∙ ap (λ n. if is_between a.1.page.segment (i + k) n p then 1 else 0) back)
      ∙ between_joined a.1.page.segment i (i + k) (i + a.1.pages) p (omega arith) (omega (arith, low, high)))
      (λ other.
      let nothing : covers_of p a.1 + 0 ≡ covers_of p a.1 = omega arith in
      ap (sum_over_areas (λ b. covers_of p b.1)) (cut_not pid at a some other) ∙ nothing)

  -- a split before a page number changes nothing there
  pub split_stays : (first : ℕ) → first < at → 0 < a.1.pages → sum_over_areas (split_of pid at p) (parts_outside pid first first a) ≡ split_of pid at p a
  split_stays first less some =
      crossing pid first a _
      (λ own low high.
      let front : PlacedArea = (a.0, shorter first a) in
      let back : PlacedArea = ((a.0.0, first), later first a) in
      let none : split_of pid at p front ≡ 0 = split_nothing pid at p front (λ o l h. omega (arith, low, less, h)) in
      let same : split_of pid at p back ≡ split_of pid at p a = split_back pid first at p a own low high less in
      let sum : split_of pid at p front + (split_of pid at p back + 0) ≡ split_of pid at p a = omega (arith, none, same) in
      ap (sum_over_areas (split_of pid at p)) (cut_mid pid first a own low high) ∙ sum)
      (λ other.
      let nothing : split_of pid at p a + 0 ≡ split_of pid at p a = omega arith in
      ap (sum_over_areas (split_of pid at p)) (cut_not pid first a some other) ∙ nothing)

-- ---- all areas of a process are split at two page numbers

module _ (pid at : ℕ) (areas : Map (ℕ × ℕ) Area) (some : AllByRecursion IsSomePages areas) (p : Page) where
  ends_split : ends_at (split_at pid at areas) p ≡ ends_at areas p + splits_at areas pid at p
  ends_split =
      total_flat (λ b. ends_of p b.1) (parts_outside pid at at) areas
      ∙ total_among _ (λ a. ends_of p a.1 + split_of pid at p a) areas (λ a m. split_ends pid at p a (All-among IsSomePages areas a some m))
      ∙ total_add (λ a. ends_of p a.1) (split_of pid at p) areas

  covers_split : covers_at (split_at pid at areas) p ≡ covers_at areas p
  covers_split =
      total_flat (λ b. covers_of p b.1) (parts_outside pid at at) areas
      ∙ total_among _ (λ a. covers_of p a.1) areas (λ a m. split_covers pid at p a (All-among IsSomePages areas a some m))

  splits_stay : (end : ℕ) → at < end → splits_at (split_at pid at areas) pid end p ≡ splits_at areas pid end p
  splits_stay end less =
      total_flat (split_of pid end p) (parts_outside pid at at) areas
      ∙ total_among _ (split_of pid end p) areas (λ a m. split_stays pid end p a at less (All-among IsSomePages areas a some m))

module _ (pid first end : ℕ) (less : first < end) (areas : Map (ℕ × ℕ) Area) (some : AllByRecursion IsSomePages areas) (p : Page) where
  pub both_ends : (ends_at areas p + splits_at areas pid first p) + splits_at areas pid end p ≡ ends_at (split_at pid end (split_at pid first areas)) p
  both_ends =
      let one = ends_split pid first areas some p in
      let two = ends_split pid end (split_at pid first areas) (split_some pid first areas some) p in
      let stay = splits_stay pid first areas some p end less in
      omega (arith, one, two, stay)

  pub both_cover : covers_at areas p ≡ covers_at (split_at pid end (split_at pid first areas)) p
  both_cover = sym (covers_split pid end (split_at pid first areas) (split_some pid first areas some) p ∙ covers_split pid first areas some p)

-- a policy changes no count
module _ (pid first end : ℕ) (policy : Policy) (p : Page) where
  pub painted_total : (number : Area → ℕ) → ((x : Area) → number (record x { policy = policy }) ≡ number x) → (areas : Map (ℕ × ℕ) Area)
      → sum_over_areas (λ a. number a.1) (with_values (with_policy_in pid first end policy) areas) ≡ sum_over_areas (λ a. number a.1) areas
  painted_total number same [] = refl
  painted_total number same (e ∷ areas) =
      let here : number (with_policy_in pid first end policy e.0 e.1) ≡ number e.1 = elim (begins_in pid first end e.0) as (λ b. number (cond b (record (e.1) { policy = policy }) e.1) ≡ number e.1) [ true ↦ same e.1 | false ↦ refl ] in
      let rest = painted_total number same areas in
      omega (arith, here, rest)

-- what holds anyway holds after an error
pub err_always : {T E P : Type 0} (r : Result T E) → P → OnErr r P
err_always (Ok x) p = tt
err_always (Err e) p = p

-- the first of the areas of a process, beside those after it
pub own_sum : (f : PlacedArea → ℕ) (left areas : Map (ℕ × ℕ) Area) (pid at s end behind : ℕ) (x : Area) → filter (is_own pid at end) areas ≡ ((pid, s), x) ∷ filter (is_own pid (s + 1) end) areas → behind ≡ s
    → sum_over_areas f left + sum_over_areas f (filter (is_own pid at end) areas) ≡ (sum_over_areas f left + sum_over_areas f (filter (is_own pid (behind + 1) end) areas)) + f ((pid, s), x)
own_sum f left areas pid at s end behind x next same =
    let here = ap (sum_over_areas f) next in
    let there = ap (λ (n : ℕ). sum_over_areas f (filter (is_own pid (n + 1) end) areas)) same in
    omega (arith, here, there)
