-- What an exchange of two places leaves, where one of them had nothing.
use Rattle.std.proofs.Common.{◌≡◌, ℕ, zero, suc, ◌<◌, true, false, List, [], ◌∷◌, length, get_or, refl, sym, ap, subst, ◌∙◌, arith}
use Rattle.std.specs.Prelude.{◌==◌}
use Rattle.std.proofs.lemmas.Bool.{eqb-true, eqb-false}
use Rattle.std.proofs.Math.ListN.{set}
use Rattle.std.specs.List.{swap}
use Rattle.std.proofs.lemmas.List.Edits.{swap_is}
use Rattle.nm_rmap.specs.Mappers.{Mappers, Mapper, IsUnused, carry}

-- writes to two places may be made in either order
set_apart : {X : Type 0} (xs : List X) (i j : ℕ) (x y : X) → (i ≡ j → ⊥) → set (set xs i x) j y ≡ set (set xs j y) i x
set_apart [] i j x y apart = refl
set_apart (z ∷ zs) zero zero x y apart = absurd (apart refl)
set_apart (z ∷ zs) zero (suc j) x y apart = refl
set_apart (z ∷ zs) (suc i) zero x y apart = refl
set_apart {X} (z ∷ zs) (suc i) (suc j) x y apart = ap (λ (ws : List X). z ∷ ws) (set_apart zs i j x y (λ e. apart (ap suc e)))

-- in the same place nothing was, and nothing is
carried_in_place : {X : Type 0} (xs : List X) (at : ℕ) (none : X) → get_or xs at none ≡ none → set (set xs at none) at (get_or xs at none) ≡ set (set xs at (get_or xs at none)) at none
carried_in_place {X} xs at none empty = ap (λ (x : X). set (set xs at none) at x) empty ∙ sym (ap (λ (x : X). set (set xs at x) at none) empty)

carried_by_swap : {X : Type 0} (xs : List X) (from to : ℕ) (none : X) → from < length xs → to < length xs → get_or xs to none ≡ none
    → swap xs from to ≡ set (set xs to (get_or xs from none)) from none
carried_by_swap {X} xs from to none from_in to_in empty =
    let exchanged : swap xs from to ≡ set (set xs from none) to (get_or xs from none) =
    sym (swap_is xs from to none from_in to_in) ∙ ap (λ (x : X). set (set xs from x) to (get_or xs from none)) empty in
    elim (from == to) as (λ b. (from == to) ≡ b → swap xs from to ≡ set (set xs to (get_or xs from none)) from none) [
      | true ↦ λ same.
          let at : from ≡ to = eqb-true from to same in
          exchanged ∙ subst (λ (k : ℕ). set (set xs from none) k (get_or xs from none) ≡ set (set xs k (get_or xs from none)) from none) at
          (carried_in_place xs from none (ap (λ (k : ℕ). get_or xs k none) at ∙ empty))
      | false ↦ λ apart. exchanged ∙ set_apart xs from to none (get_or xs from none) (eqb-false from to apart)
    ] refl

-- the same exchange, where the places have other names
pub swapped_at : {X : Type 0} (xs ys : List X) (i j from to : ℕ) → ys ≡ swap xs i j → i ≡ from → j ≡ to → ys ≡ swap xs from to
swapped_at xs ys i j from to is first second = is ∙ ap (λ (k : ℕ). swap xs k j) first ∙ ap (swap xs from) second

-- both lists of a map
pub carried_rows : (mappings : List (List Mapper)) (pins : List ℕ) (m : Mappers) (from to : ℕ) (new_spots : List (List Mapper)) (new_pins : List ℕ)
    → record { mappings = mappings; pins = pins } ≡ m → length pins ≡ length mappings → from < length m.mappings → to < length m.mappings → IsUnused m to
    → new_spots ≡ swap mappings from to → new_pins ≡ swap pins from to → record { mappings = new_spots; pins = new_pins } ≡ carry m from to
carried_rows mappings pins m from to new_spots new_pins is as_many from_in to_in unused spots_are pins_are =
    let same_spots : mappings ≡ m.mappings = ap (λ (n : Mappers). n.mappings) is in
    let same_pins : pins ≡ m.pins = ap (λ (n : Mappers). n.pins) is in
    let count : length m.pins ≡ length m.mappings = sym (ap (λ (ns : List ℕ). length ns) same_pins) ∙ as_many ∙ ap (λ (ss : List (List Mapper)). length ss) same_spots in
    let moved_spots = spots_are ∙ ap (λ (ss : List (List Mapper)). swap ss from to) same_spots ∙ carried_by_swap m.mappings from to [] from_in to_in unused.mappers in
    let moved_pins = pins_are ∙ ap (λ (ns : List ℕ). swap ns from to) same_pins ∙ carried_by_swap m.pins from to 0 (omega arith) (omega arith) unused.pins in
    let made : List (List Mapper) → List ℕ → Mappers = λ ss ns. record { mappings = ss; pins = ns } in
    ap (λ (ss : List (List Mapper)). made ss new_pins) moved_spots ∙ ap (made (carry m from to).mappings) moved_pins
