-- How many frames are pinned, as pins come and go.
use Rattle.std.proofs.Common.{◌≡◌, ℕ, ◌<◌, ◌+◌, true, false, cond, ◌||◌, List, [], ◌∷◌, length, refl, ap, ◌∙◌, arith}
use Rattle.std.specs.Prelude.{nat_lt}
use Rattle.std.specs.List.{list_any, swap}
use Rattle.std.proofs.lemmas.Bool.{lt-ltb}
use Rattle.std.proofs.lemmas.List.Sums.{sum_by-cons}
use Rattle.std.proofs.lemmas.List.Sorted.{sum_by-IsPermutation, IsPermutation-swap}
use Rattle.nm_rmap.specs.Mappers.{pinned_count}

-- an exchange of two frames changes nothing
pub count_swapped : (pins new_pins : List ℕ) (i j : ℕ) → i < length pins → j < length pins → new_pins ≡ swap pins i j → pinned_count new_pins ≡ pinned_count pins
count_swapped pins new_pins i j i_in j_in is = sum_by-IsPermutation (λ n. cond (nat_lt 0 n) 1 0) pins new_pins (IsPermutation-swap pins new_pins i j i_in j_in is)

-- the count is 0 exactly where no frame is pinned
pub count_tells : (pins : List ℕ) → nat_lt 0 (pinned_count pins) ≡ list_any (λ n. nat_lt 0 n) pins
count_tells [] = refl
count_tells (n ∷ pins) =
    let more : pinned_count (n ∷ pins) ≡ cond (nat_lt 0 n) 1 0 + pinned_count pins = sum_by-cons (λ n. cond (nat_lt 0 n) 1 0) n pins in
    elim (nat_lt 0 n) as (λ b. pinned_count (n ∷ pins) ≡ cond b 1 0 + pinned_count pins → nat_lt 0 (pinned_count (n ∷ pins)) ≡ (b || list_any (λ n. nat_lt 0 n) pins)) [
      | true ↦ λ e. lt-ltb 0 (pinned_count (n ∷ pins)) (omega (arith, e))
      | false ↦ λ e. let same : pinned_count (n ∷ pins) ≡ pinned_count pins = omega (arith, e) in ap (nat_lt 0) same ∙ count_tells pins
    ] more
