-- The area that is found over a page number.
use Rattle.std.proofs.Common.{◌≡◌, ℕ, ◌<◌, ◌≤◌, ◌+◌, ◌-◌, ◌^◌, [], ◌∷◌, true, false, cond, refl, sym, subst, arith}
use Rattle.std.specs.Prelude.{Option, Some, None, IfSome, nat_lt, nat_le, ◌==◌}
use Rattle.std.specs.Option.{option_map}
use Rattle.std.specs.List.{AllByRecursion}
use Rattle.std.proofs.lemmas.Bool.{and_parts, leb-true, ltb-true}
use Rattle.nm_types.specs.declared.area.Area.{Area}
use Rattle.nm_types.specs.Map.{Map}
use Rattle.nm_types.specs.State.{PlacedArea, covers, area_over}
use Rattle.nm_model.specs.definitions.Areas.{HasIndices}
use Rattle.nm_model.specs.definitions.Seen.{IsOver}

-- what holds of all areas holds of the one over a page number, which begins at it or before and ends after it
over_among : (areas : Map (ℕ × ℕ) Area) (pid v : ℕ) (a : PlacedArea) → AllByRecursion HasIndices areas → area_over areas pid v ≡ Some a → HasIndices a × (a.0.1 ≤ v) × (v < a.0.1 + a.1.pages)
over_among [] pid v a h e = cc
over_among (x ∷ areas) pid v a h e =
    elim (covers x pid v) as (λ b. covers x pid v ≡ b → cond b (Some x) (area_over areas pid v) ≡ Some a → HasIndices a × (a.0.1 ≤ v) × (v < a.0.1 + a.1.pages)) [
      | true ↦ λ b e.
          let is : x ≡ a = cc in
          let range = and_parts (nat_le x.0.1 v) (nat_lt v (x.0.1 + x.1.pages)) (and_parts (x.0.0 == pid) _ b).1 in
          subst (λ (a : PlacedArea). HasIndices a × (a.0.1 ≤ v) × (v < a.0.1 + a.1.pages)) is (h.0, leb-true x.0.1 v range.0, ltb-true v (x.0.1 + x.1.pages) range.1)
      | false ↦ λ b e. over_among areas pid v a h.1 e
    ] refl e

module _ (areas : Map (ℕ × ℕ) Area) (pid v : ℕ) (h : AllByRecursion HasIndices areas) where
  -- it begins at the page number or before
  pub found_below : (o : Option (ℕ × Area)) → option_map {U = PlacedArea} (λ found. ((pid, found.0), found.1)) o ≡ area_over areas pid v → IfSome o (λ a. a.0 ≤ v)
  found_below None e = tt
  found_below (Some a) e = (over_among areas pid v ((pid, a.0), a.1) h (sym e)).1

  -- the page there has an index below 2^64
  pub found_index : (o : Option (ℕ × Area)) → option_map {U = PlacedArea} (λ found. ((pid, found.0), found.1)) o ≡ area_over areas pid v → IfSome o (λ a. a.1.page.index + (v - a.0) < 2 ^ 64)
  found_index None e = tt
  found_index (Some a) e =
      let among = over_among areas pid v ((pid, a.0), a.1) h (sym e) in
      let within : v - a.0 < a.1.pages = omega (arith, among.1, among.2) in
      omega (arith, among.0, within)

  -- it covers the page number
  pub found_here : (o : Option (ℕ × Area)) → option_map {U = PlacedArea} (λ found. ((pid, found.0), found.1)) o ≡ area_over areas pid v → IfSome o (λ a. (a.0 ≤ v) × (v < a.0 + a.1.pages))
  found_here None e = tt
  found_here (Some a) e = let among = over_among areas pid v ((pid, a.0), a.1) h (sym e) in (among.1, among.2)

  -- it covers each of its page numbers, and its pages have indices
  pub found_over : (o : Option (ℕ × Area)) → option_map {U = PlacedArea} (λ found. ((pid, found.0), found.1)) o ≡ area_over areas pid v
      → IfSome o (λ a. (w : ℕ) → a.0 ≤ w → w < a.0 + a.1.pages → area_over areas pid w ≡ Some ((pid, a.0), a.1)) → IfSome o (IsOver areas pid)
  found_over None e over = tt
  found_over (Some a) e over = (over, (over_among areas pid v ((pid, a.0), a.1) h (sym e)).0)
