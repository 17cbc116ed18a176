-- Areas without a range of page numbers of a process.
use Rattle.std.proofs.Common.{◌≡◌, ℕ, ◌+◌, ◌-◌, ◌≤◌, ◌<◌, List, Bool, ◌||◌, [], ◌∷◌, ◌++◌, true, false, cond, refl, sym, ap, subst, ◌∙◌, arith, inl, inr}
use Rattle.std.specs.Prelude.{Some, nat_lt, ◌==◌, ◌⊎◌, min, max}
use Rattle.std.specs.List.{AllByRecursion, flat_map, list_any}
use Rattle.std.proofs.lemmas.Bool.{or_left, or_right, eqb-true, eqb-false, ltb-true, lt-ltb}
use Rattle.nm_types.specs.declared.page.Page.{Page}
use Rattle.nm_types.specs.declared.area.Area.{Area}
use Rattle.nm_types.specs.Map.{Map}
use Rattle.nm_types.specs.State.{PlacedArea, covers, area_over, page_of}
use Rattle.nm_types.proofs.Cases.{true_false}
use Rattle.nm_model.specs.definitions.Areas.{before, behind, parts_outside, AreasAreApart}
use Rattle.nm_model.proofs.areas.Apart.{behind_last, covers_parts, covers_from}

-- an area of the list
abbrev pub Among : PlacedArea → List PlacedArea → Type 0
Among a [] = ⊥
Among a (x ∷ areas) = (a ≡ x) ⊎ Among a areas

pub All-among : (P : PlacedArea → Type 0) (areas : List PlacedArea) (a : PlacedArea) → AllByRecursion P areas → Among a areas → P a
All-among P [] a h m = absurd m
All-among P (x ∷ areas) a h (inl e) = subst P (sym e) h.0
All-among P (x ∷ areas) a h (inr m) = All-among P areas a h.1 m

pub all_from_among : (P : PlacedArea → Type 0) (areas : List PlacedArea) → ((a : PlacedArea) → Among a areas → P a) → AllByRecursion P areas
all_from_among P [] h = tt
all_from_among P (x ∷ areas) h = (h x (inl refl), all_from_among P areas (λ a m. h a (inr m)))

pub among_over : (areas : Map (ℕ × ℕ) Area) (q w : ℕ) (a : PlacedArea) → area_over areas q w ≡ Some a → Among a areas × (covers a q w ≡ true)
among_over [] q w a h = cc
among_over (x ∷ areas) q w a h =
    elim (covers x q w) as (λ b. covers x q w ≡ b → cond b (Some x) (area_over areas q w) ≡ Some a → Among a (x ∷ areas) × (covers a q w ≡ true)) [
      | true ↦ λ b k. let is : a ≡ x = cc in (inl is, ap (λ y. covers y q w) is ∙ b)
      | false ↦ λ b k. let more = among_over areas q w a k in (inr more.0, more.1)
    ] refl h

pub over_among : (areas : Map (ℕ × ℕ) Area) (q w : ℕ) (a : PlacedArea) → AreasAreApart areas → Among a areas → covers a q w ≡ true → area_over areas q w ≡ Some a
over_among [] q w a d m c = absurd m
over_among (x ∷ areas) q w a d (inl e) c = ap (λ b. cond b (Some x) (area_over areas q w)) (ap (λ y. covers y q w) (sym e) ∙ c) ∙ ap Some (sym e)
over_among (x ∷ areas) q w a d (inr m) c =
    elim (covers x q w) as (λ b. covers x q w ≡ b → cond b (Some x) (area_over areas q w) ≡ Some a) [
      | true ↦ λ b. absurd (true_false (sym c ∙ All-among (λ y. (pid v : ℕ) → covers x pid v ≡ true → covers y pid v ≡ false) areas a d.0 m q w b))
      | false ↦ λ b. over_among areas q w a d.1 m c
    ] refl

pub among_left : (xs ys : List PlacedArea) (a : PlacedArea) → Among a xs → Among a (xs ++ ys)
among_left [] ys a m = absurd m
among_left (x ∷ xs) ys a (inl e) = inl e
among_left (x ∷ xs) ys a (inr m) = inr (among_left xs ys a m)

pub among_right : (xs ys : List PlacedArea) (a : PlacedArea) → Among a ys → Among a (xs ++ ys)
among_right [] ys a m = m
among_right (x ∷ xs) ys a m = inr (among_right xs ys a m)

pub among_either : (xs ys : List PlacedArea) (a : PlacedArea) → Among a (xs ++ ys) → Among a xs ⊎ Among a ys
among_either [] ys a m = inr m
among_either (x ∷ xs) ys a (inl e) = inl (inl e)
among_either (x ∷ xs) ys a (inr m) = elim (among_either xs ys a m) as (λ _. Among a (x ∷ xs) ⊎ Among a ys) [ inl k ↦ inl (inr k) | inr k ↦ inr k ]

pub among_flat : (f : PlacedArea → List PlacedArea) (areas : List PlacedArea) (b : PlacedArea) → Among b (flat_map f areas) → (a : PlacedArea) × Among a areas × Among b (f a)
among_flat f [] b m = absurd m
among_flat f (x ∷ areas) b m =
    elim (among_either (f x) (flat_map f areas) b m) as (λ _. (a : PlacedArea) × Among a (x ∷ areas) × Among b (f a)) [
      | inl k ↦ (x, inl refl, k)
      | inr k ↦ let more = among_flat f areas b k in (more.0, inr more.1, more.2)
    ]

pub flat_among : (f : PlacedArea → List PlacedArea) (areas : List PlacedArea) (a b : PlacedArea) → Among a areas → Among b (f a) → Among b (flat_map f areas)
flat_among f [] a b m k = absurd m
flat_among f (x ∷ areas) a b (inl e) k = among_left (f x) (flat_map f areas) b (subst (λ y. Among b (f y)) e k)
flat_among f (x ∷ areas) a b (inr m) k = among_right (f x) (flat_map f areas) b (flat_among f areas a b m k)

-- a part of an area, outside the range
pub record IsPart (pid first end : ℕ) (a b : PlacedArea) : Type 0 where
  pub process : b.0.0 ≡ a.0.0
  pub segment : b.1.page.segment ≡ a.1.page.segment
  pub index : b.1.page.index + a.0.1 ≡ a.1.page.index + b.0.1
  pub low : a.0.1 ≤ b.0.1
  pub high : behind_last b ≤ behind_last a
  pub some : 0 < b.1.pages
  pub outside : a.0.0 ≡ pid → (behind_last b ≤ first) ⊎ (end ≤ b.0.1)

module _ (pid first end : ℕ) (a : PlacedArea) (some : 0 < a.1.pages) where
  pub before_part : (b : PlacedArea) → Among b (before first a) → IsPart pid first end a b
  before_part b m =
      elim (nat_lt a.0.1 first) as (λ t. nat_lt a.0.1 first ≡ t → Among b (cond t ((a.0, record (a.1) { pages = min a.1.pages (first - a.0.1) }) ∷ []) []) → IsPart pid first end a b) [
        | true ↦ λ t m. elim m as (λ _. IsPart pid first end a b) [
          | inl e ↦
              let left : a.0.1 < first = ltb-true a.0.1 first t in
              let cut : PlacedArea = (a.0, record (a.1) { pages = min a.1.pages (first - a.0.1) }) in
              subst (IsPart pid first end a) (sym e) (record {
                process = refl;
                segment = refl;
                index = refl;
                low = omega arith;
                high = omega arith;
                some = omega arith;
                outside = λ _. inl (omega arith);
              })
          | inr k ↦ absurd k
        ]
        | false ↦ λ t m. absurd m
      ] refl m

  pub behind_part : (b : PlacedArea) → Among b (behind end a) → IsPart pid first end a b
  behind_part b m =
      let from = max end a.0.1 in
      let page : Page = record { segment = a.1.page.segment; index = a.1.page.index + (from - a.0.1) } in
      let rest : Area = record (a.1) { pages = (a.0.1 + a.1.pages) - from; page = page } in
      elim (nat_lt from (a.0.1 + a.1.pages)) as (λ t. nat_lt from (a.0.1 + a.1.pages) ≡ t → Among b (cond t (((a.0.0, from), rest) ∷ []) []) → IsPart pid first end a b) [
        | true ↦ λ t m. elim m as (λ _. IsPart pid first end a b) [
          | inl e ↦
              let left : from < a.0.1 + a.1.pages = ltb-true from (a.0.1 + a.1.pages) t in
              subst (IsPart pid first end a) (sym e) (record {
                process = refl;
                segment = refl;
                index = omega arith;
                low = omega arith;
                high = omega arith;
                some = omega arith;
                outside = λ _. inr (omega arith);
              })
          | inr k ↦ absurd k
        ]
        | false ↦ λ t m. absurd m
      ] refl m

  pub part_of : (b : PlacedArea) → Among b (parts_outside pid first end a) → IsPart pid first end a b
  part_of b m =
      elim (a.0.0 == pid) as (λ t. (a.0.0 == pid) ≡ t → Among b (cond t (before first a ++ behind end a) (a ∷ [])) → IsPart pid first end a b) [
        | true ↦ λ t m. elim (among_either (before first a) (behind end a) b m) as (λ _. IsPart pid first end a b) [ inl k ↦ before_part b k | inr k ↦ behind_part b k ]
        | false ↦ λ t m. elim m as (λ _. IsPart pid first end a b) [
          | inl e ↦ subst (IsPart pid first end a) (sym e) (record {
            process = refl;
            segment = refl;
            index = refl;
            low = omega arith;
            high = omega arith;
            some = some;
            outside = λ s. absurd (eqb-false a.0.0 pid t s);
          })
          | inr k ↦ absurd k
        ]
      ] refl m

-- where a part is, the area is, and shows the same page
pub part_covers : (pid first end : ℕ) (a b : PlacedArea) (q w : ℕ) → IsPart pid first end a b → covers b q w ≡ true → covers a q w ≡ true
part_covers pid first end a b q w p c =
    let parts = covers_parts b q w c in
    covers_from a q w (sym p.process ∙ parts.0) (omega (arith, p.low, parts.1)) (omega (arith, p.high, parts.2))

pub part_page : (pid first end : ℕ) (a b : PlacedArea) (q w : ℕ) → IsPart pid first end a b → covers b q w ≡ true → page_of b w ≡ page_of a w
part_page pid first end a b q w p c =
    let parts = covers_parts b q w c in
    let same : b.1.page.index + (w - b.0.1) ≡ a.1.page.index + (w - a.0.1) = omega (arith, p.index, p.low, parts.1) in
    λ i. record { segment = p.segment i; index = same i }

-- outside the range a part is still there
pub part_there : (pid first end : ℕ) (a : PlacedArea) (q w : ℕ) → covers a q w ≡ true → (q ≡ pid → (w < first) ⊎ (end ≤ w)) → (b : PlacedArea) × Among b (parts_outside pid first end a) × (covers b q w ≡ true)
part_there pid first end a q w c out =
    let parts = covers_parts a q w c in
    elim (a.0.0 == pid) as (λ t. (a.0.0 == pid) ≡ t → (b : PlacedArea) × Among b (cond t (before first a ++ behind end a) (a ∷ [])) × (covers b q w ≡ true)) [
      | true ↦ λ t. elim (out (sym parts.0 ∙ eqb-true a.0.0 pid t)) as (λ _. (b : PlacedArea) × Among b (before first a ++ behind end a) × (covers b q w ≡ true)) [
        | inl low ↦
            let cut : PlacedArea = (a.0, record (a.1) { pages = min a.1.pages (first - a.0.1) }) in
            let short : nat_lt a.0.1 first ≡ true = lt-ltb a.0.1 first (omega (arith, parts.1, low)) in
            (cut, among_left (before first a) (behind end a) cut (subst (λ t. Among cut (cond t (cut ∷ []) [])) (sym short) (inl refl)), covers_from cut q w parts.0 parts.1 (omega (arith, parts.1, parts.2, low)))
        | inr high ↦
            let from = max end a.0.1 in
            let page : Page = record { segment = a.1.page.segment; index = a.1.page.index + (from - a.0.1) } in
            let rest : Area = record (a.1) { pages = (a.0.1 + a.1.pages) - from; page = page } in
            let cut : PlacedArea = ((a.0.0, from), rest) in
            let long : nat_lt from (a.0.1 + a.1.pages) ≡ true = lt-ltb from (a.0.1 + a.1.pages) (omega (arith, parts.1, parts.2, high)) in
            (cut, among_right (before first a) (behind end a) cut (subst (λ t. Among cut (cond t (cut ∷ []) [])) (sym long) (inl refl)), covers_from cut q w parts.0 (omega (arith, parts.1, high)) (omega (arith, parts.1, parts.2, high)))
      ]
      | false ↦ λ t. (a, inl refl, c)
    ] refl

-- an area that passes a test
pub any_among : (test : PlacedArea → Bool) (areas : List PlacedArea) → list_any test areas ≡ true → (a : PlacedArea) × Among a areas × (test a ≡ true)
any_among test [] h = cc
any_among test (x ∷ areas) h =
    elim (test x) as (λ b. test x ≡ b → (b || list_any test areas) ≡ true → (a : PlacedArea) × Among a (x ∷ areas) × (test a ≡ true)) [
      | true ↦ λ b k. (x, inl refl, b)
      | false ↦ λ b k. let more = any_among test areas k in (more.0, inr more.1, more.2)
    ] refl h

pub among_any : (test : PlacedArea → Bool) (areas : List PlacedArea) (a : PlacedArea) → Among a areas → test a ≡ true → list_any test areas ≡ true
among_any test [] a m h = absurd m
among_any test (x ∷ areas) a (inl e) h = or_left _ _ (ap test (sym e) ∙ h)
among_any test (x ∷ areas) a (inr m) h = or_right _ _ (among_any test areas a m h)
