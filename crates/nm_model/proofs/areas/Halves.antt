-- The parts of areas are apart, and in order.
use Rattle.std.proofs.Common.{◌≡◌, ℕ, ◌+◌, ◌≤◌, ◌<◌, List, [], ◌∷◌, ◌++◌, true, false, cond, refl, sym, ap, subst, ◌∙◌, arith, inl, inr}
use Rattle.std.specs.Prelude.{nat_lt, ◌==◌, ◌⊎◌, min, max, ◌-◌}
use Rattle.std.specs.List.{AllByRecursion, flat_map}
use Rattle.std.specs.List.Sorted.{IsStrictlySortedBy}
use Rattle.std.specs.Map.{keys_of}
use Rattle.std.specs.Ordering.{nat_cmp, ordering_then}
use Rattle.std.specs.Cmp.{nat_cmp_is, ranked}
use Rattle.std.specs.declared.cmp.Ordering.TheVariants.{Less, Equal, Greater}
use Rattle.std.proofs.lemmas.Bool.{ltb-true, ltb-false, false_from_ne_true}
use Rattle.std.proofs.lemmas.Map.Keys.{sorted_head, sorted_tail}
use Rattle.nm_types.specs.declared.page.Page.{Page}
use Rattle.nm_types.specs.declared.area.Area.{Area}
use Rattle.nm_types.specs.Map.{Map, spot_cmp}
use Rattle.nm_types.specs.State.{PlacedArea, covers}
use Rattle.nm_types.proofs.Cases.{true_false}
use Rattle.nm_model.specs.definitions.Areas.{before, behind, parts_outside, AreasAreApart}
use Rattle.nm_model.proofs.areas.Apart.{behind_last, covers_parts, covers_from}
use Rattle.nm_model.proofs.areas.Parted.{Among, All-among, all_from_among, among_either, among_flat, IsPart, before_part, behind_part, part_of, part_covers}

-- never both cover one page number
abbrev Apart : PlacedArea → PlacedArea → Type 0
Apart b c = (q v : ℕ) → covers b q v ≡ true → covers c q v ≡ false

append_apart : (xs ys : List PlacedArea) → AreasAreApart xs → AreasAreApart ys → ((b c : PlacedArea) → Among b xs → Among c ys → Apart b c) → AreasAreApart (xs ++ ys)
append_apart [] ys h k cross = k
append_apart (x ∷ xs) ys h k cross = (
  all_from_among (Apart x) (xs ++ ys) (λ c m. elim (among_either xs ys c m) as (λ _. Apart x c) [
    | inl n ↦ All-among (Apart x) xs c h.0 n
    | inr n ↦ cross x c (inl refl) n
  ]),
  append_apart xs ys h.1 k (λ b c m n. cross b c (inr m) n),
)

-- one before the range, and one after it
two_apart : (b c : PlacedArea) (first end : ℕ) → behind_last b ≤ first → first ≤ end → end ≤ c.0.1 → Apart b c
two_apart b c first end low mid high = λ q v k. false_from_ne_true _ (λ j.
    let front = covers_parts b q v k in
    let back = covers_parts c q v j in
    absurd (omega (arith, front.2, back.1, low, mid, high)))

module _ (pid first end : ℕ) (range : first ≤ end) where
  before_apart : (a : PlacedArea) → AreasAreApart (before first a)
  before_apart a = elim (nat_lt a.0.1 first) as (λ t. AreasAreApart (cond t ((a.0, record (a.1) { pages = min a.1.pages (first - a.0.1) }) ∷ []) [])) [ true ↦ (tt, tt) | false ↦ tt ]

  behind_apart : (a : PlacedArea) → AreasAreApart (behind end a)
  behind_apart a =
      let from = max end a.0.1 in
      let page : Page = record { segment = a.1.page.segment; index = a.1.page.index + (from - a.0.1) } in
      let rest : Area = record (a.1) { pages = (a.0.1 + a.1.pages) - from; page = page } in
      elim (nat_lt from (a.0.1 + a.1.pages)) as (λ t. AreasAreApart (cond t (((a.0.0, from), rest) ∷ []) [])) [ true ↦ (tt, tt) | false ↦ tt ]

  before_ends : (a b : PlacedArea) → Among b (before first a) → behind_last b ≤ first
  before_ends a b m =
      elim (nat_lt a.0.1 first) as (λ t. nat_lt a.0.1 first ≡ t → Among b (cond t ((a.0, record (a.1) { pages = min a.1.pages (first - a.0.1) }) ∷ []) []) → behind_last b ≤ first) [
        | true ↦ λ t m. elim m as (λ _. behind_last b ≤ first) [
          | inl e ↦ let left : a.0.1 < first = ltb-true a.0.1 first t in subst (λ (y : PlacedArea). behind_last y ≤ first) (sym e) (omega arith)
          | inr k ↦ absurd k
        ]
        | false ↦ λ t m. absurd m
      ] refl m

  behind_begins : (a b : PlacedArea) → Among b (behind end a) → end ≤ b.0.1
  behind_begins a b m =
      let from = max end a.0.1 in
      let page : Page = record { segment = a.1.page.segment; index = a.1.page.index + (from - a.0.1) } in
      let rest : Area = record (a.1) { pages = (a.0.1 + a.1.pages) - from; page = page } in
      elim (nat_lt from (a.0.1 + a.1.pages)) as (λ t. Among b (cond t (((a.0.0, from), rest) ∷ []) []) → end ≤ b.0.1) [
        | true ↦ λ m. elim m as (λ _. end ≤ b.0.1) [ inl e ↦ subst (λ (y : PlacedArea). end ≤ y.0.1) (sym e) (omega arith) | inr k ↦ absurd k ]
        | false ↦ λ m. absurd m
      ] m

  parts_apart : (a : PlacedArea) → AreasAreApart (parts_outside pid first end a)
  parts_apart a =
      elim (a.0.0 == pid) as (λ t. AreasAreApart (cond t (before first a ++ behind end a) (a ∷ []))) [
        | true ↦ append_apart (before first a) (behind end a) (before_apart a) (behind_apart a) (λ b c m n. two_apart b c first end (before_ends a b m) range (behind_begins a c n))
        | false ↦ (tt, tt)
      ]

  -- parts of areas that are apart
  parts_of_two : (a y b c : PlacedArea) → Apart a y → IsPart pid first end a b → IsPart pid first end y c → Apart b c
  parts_of_two a y b c h p r = λ q v k. false_from_ne_true _ (λ j. true_false (sym (part_covers pid first end y c q v r j) ∙ h q v (part_covers pid first end a b q v p k)))

  pub flat_apart : (areas : Map (ℕ × ℕ) Area) → AllByRecursion (λ a. 0 < a.1.pages) areas → AreasAreApart areas → AreasAreApart (flat_map (parts_outside pid first end) areas)
  flat_apart [] some h = tt
  flat_apart (a ∷ areas) some h =
      append_apart (parts_outside pid first end a) (flat_map (parts_outside pid first end) areas) (parts_apart a) (flat_apart areas some.1 h.1)
      (λ b c m n.
      let from = among_flat (parts_outside pid first end) areas c n in
      parts_of_two a from.0 b c (All-among (Apart a) areas from.0 h.0 from.1) (part_of pid first end a some.0 b m)
      (part_of pid first end from.0 (All-among (λ x. 0 < x.1.pages) areas from.0 some.1 from.1) c from.2))

pub less_from : (a b : ℕ × ℕ) → (a.0 < b.0) ⊎ ((a.0 ≡ b.0) × (a.1 < b.1)) → spot_cmp a b ≡ Less
less_from a b (inl h) = ap (λ r. ordering_then r (nat_cmp a.1 b.1)) (sym (nat_cmp_is a.0 b.0 Less h))
less_from a b (inr h) = ap (λ r. ordering_then r (nat_cmp a.1 b.1)) (sym (nat_cmp_is a.0 b.0 Equal h.0)) ∙ sym (nat_cmp_is a.1 b.1 Less h.1)

greater_less : Greater ≡ Less → ⊥
greater_less e = cc

pub less_to : (a b : ℕ × ℕ) → spot_cmp a b ≡ Less → (a.0 < b.0) ⊎ ((a.0 ≡ b.0) × (a.1 < b.1))
less_to a b h =
    elim (nat_cmp a.0 b.0) as (λ r. r ≡ nat_cmp a.0 b.0 → ordering_then r (nat_cmp a.1 b.1) ≡ Less → (a.0 < b.0) ⊎ ((a.0 ≡ b.0) × (a.1 < b.1))) [
      | Less ↦ λ r k. inl (ranked a.0 b.0 Less r)
      | Equal ↦ λ r k. inr (ranked a.0 b.0 Equal r, ranked a.1 b.1 Less (sym k))
      | Greater ↦ λ r k. absurd (greater_less k)
    ] refl h

keys_from_among : (P : ℕ × ℕ → Type 0) (areas : List PlacedArea) → ((a : PlacedArea) → Among a areas → P a.0) → AllByRecursion P (keys_of areas)
keys_from_among P [] h = tt
keys_from_among P (x ∷ areas) h = (h x (inl refl), keys_from_among P areas (λ a m. h a (inr m)))

pub among_keys : (P : ℕ × ℕ → Type 0) (areas : List PlacedArea) (a : PlacedArea) → AllByRecursion P (keys_of areas) → Among a areas → P a.0
among_keys P [] a h m = absurd m
among_keys P (x ∷ areas) a h (inl e) = subst (λ (y : PlacedArea). P y.0) (sym e) h.0
among_keys P (x ∷ areas) a h (inr m) = among_keys P areas a h.1 m

append_sorted : (xs ys : List PlacedArea) → IsStrictlySortedBy spot_cmp (keys_of xs) → IsStrictlySortedBy spot_cmp (keys_of ys) → ((b c : PlacedArea) → Among b xs → Among c ys → spot_cmp b.0 c.0 ≡ Less) → IsStrictlySortedBy spot_cmp (keys_of (xs ++ ys))
unfolding IsStrictlySortedBy
append_sorted [] ys h k cross = k
append_sorted (x ∷ xs) ys h k cross = (
  keys_from_among (λ y. spot_cmp x.0 y ≡ Less) (xs ++ ys) (λ c m. elim (among_either xs ys c m) as (λ _. spot_cmp x.0 c.0 ≡ Less) [
    | inl n ↦ among_keys (λ y. spot_cmp x.0 y ≡ Less) xs c h.0 n
    | inr n ↦ cross x c (inl refl) n
  ]),
  append_sorted xs ys h.1 k (λ b c m n. cross b c (inr m) n),
)

module _ (pid first end : ℕ) (range : first ≤ end) where
  before_sorted : (a : PlacedArea) → IsStrictlySortedBy spot_cmp (keys_of (before first a))
  unfolding IsStrictlySortedBy
  before_sorted a = elim (nat_lt a.0.1 first) as (λ t. IsStrictlySortedBy spot_cmp (keys_of (cond t ((a.0, record (a.1) { pages = min a.1.pages (first - a.0.1) }) ∷ []) []))) [ true ↦ (tt, tt) | false ↦ tt ]

  behind_sorted : (a : PlacedArea) → IsStrictlySortedBy spot_cmp (keys_of (behind end a))
  unfolding IsStrictlySortedBy
  behind_sorted a =
      let from = max end a.0.1 in
      let page : Page = record { segment = a.1.page.segment; index = a.1.page.index + (from - a.0.1) } in
      let rest : Area = record (a.1) { pages = (a.0.1 + a.1.pages) - from; page = page } in
      elim (nat_lt from (a.0.1 + a.1.pages)) as (λ t. IsStrictlySortedBy spot_cmp (keys_of (cond t (((a.0.0, from), rest) ∷ []) []))) [ true ↦ (tt, tt) | false ↦ tt ]

  alone_sorted : (a : PlacedArea) → IsStrictlySortedBy spot_cmp (keys_of (a ∷ []))
  unfolding IsStrictlySortedBy
  alone_sorted a = (tt, tt)

  parts_sorted : (a : PlacedArea) → 0 < a.1.pages → IsStrictlySortedBy spot_cmp (keys_of (parts_outside pid first end a))
  parts_sorted a some =
      elim (a.0.0 == pid) as (λ t. (a.0.0 == pid) ≡ t → IsStrictlySortedBy spot_cmp (keys_of (cond t (before first a ++ behind end a) (a ∷ [])))) [
        | true ↦ λ t. append_sorted (before first a) (behind end a) (before_sorted a) (behind_sorted a) (λ b c m n.
            let p = before_part pid first end a some b m in
            let r = behind_part pid first end a some c n in
            let low = before_ends pid first end range a b m in
            let high = behind_begins pid first end range a c n in
            less_from b.0 c.0 (inr (p.process ∙ sym r.process, omega (arith, low, high, range, p.some))))
        | false ↦ λ t. alone_sorted a
      ] refl

  -- of two areas of a process the first ends before the second
  in_front : (a y b c : PlacedArea) → Apart a y → 0 < y.1.pages → IsPart pid first end a b → IsPart pid first end y c → a.0.0 ≡ y.0.0 → a.0.1 < y.0.1 → b.0.1 < c.0.1
  in_front a y b c h some p r same less =
      elim (nat_lt y.0.1 (behind_last a)) as (λ t. nat_lt y.0.1 (behind_last a) ≡ t → b.0.1 < c.0.1) [
        | true ↦ λ t.
            let over = covers_from a y.0.0 y.0.1 same (omega (arith, less)) (ltb-true y.0.1 (behind_last a) t) in
            absurd (true_false (sym (covers_from y y.0.0 y.0.1 refl (omega arith) (omega (arith, some))) ∙ h y.0.0 y.0.1 over))
        | false ↦ λ t.
            let past = ltb-false y.0.1 (behind_last a) t in
            omega (arith, past, p.high, p.some, r.low)
      ] refl

  -- parts of areas that are apart and in order
  parts_in_order : (a y b c : PlacedArea) → Apart a y → 0 < y.1.pages → spot_cmp a.0 y.0 ≡ Less → IsPart pid first end a b → IsPart pid first end y c → spot_cmp b.0 c.0 ≡ Less
  parts_in_order a y b c h some less p r =
      less_from b.0 c.0 (elim (less_to a.0 y.0 less) as (λ _. (b.0.0 < c.0.0) ⊎ ((b.0.0 ≡ c.0.0) × (b.0.1 < c.0.1))) [
        | inl k ↦ inl (omega (arith, k, p.process, r.process))
        | inr k ↦ inr (p.process ∙ k.0 ∙ sym r.process, in_front a y b c h some p r k.0 k.1)
      ])

  pub flat_sorted : (areas : Map (ℕ × ℕ) Area) → AllByRecursion (λ a. 0 < a.1.pages) areas → AreasAreApart areas → IsStrictlySortedBy spot_cmp (keys_of areas) → IsStrictlySortedBy spot_cmp (keys_of (flat_map (parts_outside pid first end) areas))
  flat_sorted [] some h sorted = sorted
  flat_sorted (a ∷ areas) some h sorted =
      append_sorted (parts_outside pid first end a) (flat_map (parts_outside pid first end) areas) (parts_sorted a some.0) (flat_sorted areas some.1 h.1 (sorted_tail spot_cmp a.0 (keys_of areas) sorted))
      (λ b c m n.
      let from = among_flat (parts_outside pid first end) areas c n in
      let fresh = All-among (λ x. 0 < x.1.pages) areas from.0 some.1 from.1 in
      parts_in_order a from.0 b c (All-among (Apart a) areas from.0 h.0 from.1) fresh (among_keys (λ k. spot_cmp a.0 k ≡ Less) areas from.0 (sorted_head spot_cmp a.0 (keys_of areas) sorted) from.1)
      (part_of pid first end a some.0 b m) (part_of pid first end from.0 fresh c from.2))
