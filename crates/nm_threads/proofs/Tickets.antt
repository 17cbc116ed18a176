-- Tickets above those that were drawn.
use Rattle.std.proofs.Common.{◌≡◌, ℕ, ◌+◌, ◌<◌, ◌≤◌, List, [], ◌∷◌, ◌++◌, max, arith}
use Rattle.std.proofs.lemmas.Bool.Decides.{nat_tests}
use Rattle.nm_board.specs.Tickets.{ticket_times, hit}

-- one more than the greatest ticket of the list, and 0 where there is none
abbrev pub beyond : List ℕ → ℕ
beyond [] = 0
beyond (t ∷ ts) = max (t + 1) (beyond ts)

hit_same : (t : ℕ) → hit t t ≡ 1
hit_same t = grind (arith, nat_tests)

-- it is at most a ticket above all of them
pub beyond_at_most : (xs : List ℕ) (t : ℕ) → ((u : ℕ) → 0 < ticket_times u xs → u < t) → beyond xs ≤ t
beyond_at_most [] t above = omega arith
beyond_at_most (x ∷ xs) t above = let a = above x (omega (arith, hit_same x)) in let b = beyond_at_most xs t (λ u d. above u (omega arith)) in omega arith

-- and above the last
pub beyond_last : (xs : List ℕ) (t : ℕ) → t < beyond (xs ++ t ∷ [])
beyond_last [] t = omega arith
beyond_last (x ∷ xs) t = omega (arith, beyond_last xs t)
