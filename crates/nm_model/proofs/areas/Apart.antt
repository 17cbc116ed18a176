-- Areas after one more of them.
use Rattle.std.proofs.Common.{◌≡◌, ℕ, ◌+◌, ◌≤◌, ◌<◌, [], ◌∷◌, Bool, true, false, ◌||◌, cond, refl, sym, ap, subst, ◌∙◌, arith, eq-eqb}
use Rattle.std.specs.Prelude.{Some, nat_lt, nat_le, ◌==◌}
use Rattle.std.specs.List.{AllByRecursion, list_any}
use Rattle.std.specs.Ordering.{nat_cmp, match_ordering}
use Rattle.std.specs.declared.cmp.Ordering.TheVariants.{Less, Equal, Greater}
use Rattle.std.proofs.lemmas.Bool.{or_right, and_parts, and_from, leb-true, ltb-true, le-leb, lt-ltb, eqb-true, false_from_ne_true}
use Rattle.std.proofs.lemmas.Map.Lookups.{exact_unsigned, exact_pairs}
use Rattle.nm_types.specs.declared.page.Page.{Page}
use Rattle.nm_types.specs.declared.area.Area.{Area}
use Rattle.nm_types.specs.Map.{Map, set, spot_cmp}
use Rattle.nm_types.specs.State.{PlacedArea, covers, area_over}
use Rattle.nm_types.proofs.Cases.{true_false}
use Rattle.nm_model.specs.definitions.Areas.{covers_page, is_covered, AreasAreApart}
use Rattle.nm_model.specs.definitions.AreaRefusal.{overlaps}

-- from the first page number to before the last
abbrev pub behind_last : PlacedArea → ℕ
behind_last a = a.0.1 + a.1.pages

pub covers_parts : (a : PlacedArea) (pid v : ℕ) → covers a pid v ≡ true → (a.0.0 ≡ pid) × (a.0.1 ≤ v) × (v < behind_last a)
covers_parts a pid v h =
    let both = and_parts (a.0.0 == pid) _ h in
    let range = and_parts (nat_le a.0.1 v) (nat_lt v (behind_last a)) both.1 in
    (eqb-true a.0.0 pid both.0, leb-true a.0.1 v range.0, ltb-true v (behind_last a) range.1)

pub covers_from : (a : PlacedArea) (pid v : ℕ) → a.0.0 ≡ pid → a.0.1 ≤ v → v < behind_last a → covers a pid v ≡ true
covers_from a pid v e low high = and_from _ _ (eq-eqb a.0.0 pid e) (and_from _ _ (le-leb a.0.1 v low) (lt-ltb v (behind_last a) high))

-- two areas that cover one page number overlap
covered_twice : (a : PlacedArea) (pid first end q v : ℕ) → overlaps pid first end a ≡ false → covers a q v ≡ true → q ≡ pid → first ≤ v → v < end → ⊥
covered_twice a pid first end q v h c e low high =
    let parts = covers_parts a q v c in
    let before : a.0.1 < end = omega (arith, parts.1, high) in
    let after : first < behind_last a = omega (arith, parts.2, low) in
    true_false (sym (and_from _ _ (and_from _ _ (eq-eqb a.0.0 pid (parts.0 ∙ e)) (lt-ltb a.0.1 end before)) (lt-ltb first (behind_last a) after)) ∙ h)

module _ (pid first : ℕ) (new : Area) where
  abbrev pub one_more : PlacedArea
  one_more = ((pid, first), new)

  abbrev pub NoneOverlaps : Map (ℕ × ℕ) Area → Type 0
  NoneOverlaps areas = AllByRecursion (λ a. overlaps pid first (first + new.pages) a ≡ false) areas

  pub apart_from_new : (a : PlacedArea) (q v : ℕ) → overlaps pid first (first + new.pages) a ≡ false → covers a q v ≡ true → covers one_more q v ≡ false
  apart_from_new a q v h c = false_from_ne_true _ (λ k.
      let parts = covers_parts one_more q v k in
      covered_twice a pid first (first + new.pages) q v h c (sym parts.0) parts.1 parts.2)

  -- the key is new
  pub other_key : (a : PlacedArea) → 0 < a.1.pages → 0 < new.pages → overlaps pid first (first + new.pages) a ≡ false → spot_cmp (pid, first) a.0 ≡ Equal → ⊥
  other_key a some fresh h e =
      let same = exact_pairs nat_cmp nat_cmp exact_unsigned exact_unsigned (pid, first) a.0 e in
      let at : first ≡ a.0.1 = ap (λ (z : ℕ × ℕ). z.1) same in
      let of : pid ≡ a.0.0 = ap (λ (z : ℕ × ℕ). z.0) same in
      covered_twice a pid first (first + new.pages) pid first h (covers_from a pid first (sym of) (omega (arith, at)) (omega (arith, at, some))) refl (omega arith) (omega (arith, fresh))

  pub area_over-set : (areas : Map (ℕ × ℕ) Area) (q v : ℕ) → 0 < new.pages → AllByRecursion (λ a. 0 < a.1.pages) areas → NoneOverlaps areas
      → area_over (set spot_cmp areas (pid, first) new) q v ≡ cond (covers one_more q v) (Some one_more) (area_over areas q v)
  area_over-set [] q v fresh some h = refl
  area_over-set (a ∷ areas) q v fresh some h =
      elim (spot_cmp (pid, first) a.0) as (λ r. spot_cmp (pid, first) a.0 ≡ r → area_over (match_ordering r (one_more ∷ a ∷ areas) ((a.0, new) ∷ areas) (a ∷ set spot_cmp areas (pid, first) new)) q v
      ≡ cond (covers one_more q v) (Some one_more) (area_over (a ∷ areas) q v)) [
        | Less ↦ λ r. refl
        | Equal ↦ λ r. absurd (other_key a some.0 fresh h.0 r)
        | Greater ↦ λ r.
            elim (covers a q v) as (λ b. covers a q v ≡ b → cond b (Some a) (area_over (set spot_cmp areas (pid, first) new) q v) ≡ cond (covers one_more q v) (Some one_more) (cond b (Some a) (area_over areas q v))) [
              | true ↦ λ b. sym (ap (λ c. cond c (Some one_more) (Some a)) (apart_from_new a q v h.0 b))
              | false ↦ λ b. area_over-set areas q v fresh some.1 h.1
            ] refl
      ] refl

  pub is_covered-set : (areas : Map (ℕ × ℕ) Area) (p : Page) → 0 < new.pages → AllByRecursion (λ a. 0 < a.1.pages) areas → NoneOverlaps areas
      → is_covered areas p ≡ true → is_covered (set spot_cmp areas (pid, first) new) p ≡ true
  is_covered-set [] p fresh some h c = cc
  is_covered-set (a ∷ areas) p fresh some h c =
      elim (spot_cmp (pid, first) a.0) as (λ r. spot_cmp (pid, first) a.0 ≡ r → is_covered (match_ordering r (one_more ∷ a ∷ areas) ((a.0, new) ∷ areas) (a ∷ set spot_cmp areas (pid, first) new)) p ≡ true) [
        | Less ↦ λ r. or_right _ _ c
        | Equal ↦ λ r. absurd (other_key a some.0 fresh h.0 r)
        | Greater ↦ λ r. elim (covers_page p a) as (λ b. (b || is_covered areas p) ≡ true → (b || is_covered (set spot_cmp areas (pid, first) new) p) ≡ true) [
          | true ↦ λ k. refl
          | false ↦ λ k. is_covered-set areas p fresh some.1 h.1 k
        ] c
      ] refl

  -- what holds of an area and of all others holds of all
  pub each_set : (P : PlacedArea → Type 0) (areas : Map (ℕ × ℕ) Area) → ((a : PlacedArea) → spot_cmp (pid, first) a.0 ≡ Equal → P (a.0, new)) → P one_more → AllByRecursion P areas → AllByRecursion P (set spot_cmp areas (pid, first) new)
  each_set P [] same p h = (p, tt)
  each_set P (a ∷ areas) same p h =
      elim (spot_cmp (pid, first) a.0) as (λ r. spot_cmp (pid, first) a.0 ≡ r → AllByRecursion P (match_ordering r (one_more ∷ a ∷ areas) ((a.0, new) ∷ areas) (a ∷ set spot_cmp areas (pid, first) new))) [
        | Less ↦ λ r. (p, h)
        | Equal ↦ λ r. (same a r, h.1)
        | Greater ↦ λ r. (h.0, each_set P areas same p h.1)
      ] refl

  all_apart : (areas : Map (ℕ × ℕ) Area) → NoneOverlaps areas → AllByRecursion (λ b. (q v : ℕ) → covers one_more q v ≡ true → covers b q v ≡ false) areas
  all_apart [] h = tt
  all_apart (a ∷ areas) h = (λ q v c. false_from_ne_true _ (λ k. true_false (sym c ∙ apart_from_new a q v h.0 k)), all_apart areas h.1)

  pub same_key : (a : PlacedArea) → spot_cmp (pid, first) a.0 ≡ Equal → (a.0, new) ≡ one_more
  same_key a e = ap (λ (z : ℕ × ℕ). (z, new)) (sym (exact_pairs nat_cmp nat_cmp exact_unsigned exact_unsigned (pid, first) a.0 e))

  pub apart-set : (areas : Map (ℕ × ℕ) Area) → 0 < new.pages → AllByRecursion (λ a. 0 < a.1.pages) areas → NoneOverlaps areas → AreasAreApart areas → AreasAreApart (set spot_cmp areas (pid, first) new)
  apart-set [] fresh some h d = (tt, tt)
  apart-set (a ∷ areas) fresh some h d =
      elim (spot_cmp (pid, first) a.0) as (λ r. spot_cmp (pid, first) a.0 ≡ r → AreasAreApart (match_ordering r (one_more ∷ a ∷ areas) ((a.0, new) ∷ areas) (a ∷ set spot_cmp areas (pid, first) new))) [
        | Less ↦ λ r. (all_apart (a ∷ areas) h, d)
        | Equal ↦ λ r. absurd (other_key a some.0 fresh h.0 r)
        | Greater ↦ λ r.
            let Apart : PlacedArea → Type 0 = λ b. (q v : ℕ) → covers a q v ≡ true → covers b q v ≡ false in
            let new_too : Apart one_more = λ q v c. apart_from_new a q v h.0 c in
            (each_set Apart areas (λ b e. subst Apart (sym (same_key b e)) new_too) new_too d.0, apart-set areas fresh some.1 h.1 d.1)
      ] refl

-- what follows for each area
pub all_then : (areas : Map (ℕ × ℕ) Area) (P Q : PlacedArea → Type 0) → ((a : PlacedArea) → P a → Q a) → AllByRecursion P areas → AllByRecursion Q areas
all_then [] P Q f h = tt
all_then (a ∷ areas) P Q f h = (f a h.0, all_then areas P Q f h.1)

-- none of the areas passes
pub all_from_none : (areas : Map (ℕ × ℕ) Area) (test : PlacedArea → Bool) → list_any test areas ≡ false → AllByRecursion (λ a. test a ≡ false) areas
all_from_none [] test h = tt
all_from_none (a ∷ areas) test h =
    elim (test a) as (λ b. (b || list_any test areas) ≡ false → (b ≡ false) × AllByRecursion (λ a. test a ≡ false) areas) [
      | true ↦ λ k. cc
      | false ↦ λ k. (refl, all_from_none areas test k)
    ] h
