-- What a comparison of two numbers says.
use Rattle.std.proofs.Common.{◌≡◌, ℕ, ◌≤◌, ◌<◌, Bool, true, false, arith}
use Rattle.std.specs.Ordering.{nat_cmp, is_lt}
use Rattle.std.proofs.lemmas.Grind.{common_steps}

pub is_below : (a b : ℕ) (r : Bool) → r ≡ is_lt (nat_cmp a b) → r ≡ true → a < b
is_below a b r e t = grind (arith, common_steps)

pub is_not_below : (a b : ℕ) (r : Bool) → r ≡ is_lt (nat_cmp a b) → r ≡ false → b ≤ a
is_not_below a b r e t = grind (arith, common_steps)
