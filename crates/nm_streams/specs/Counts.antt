-- How reads and writes are counted.
use Rattle.std.proofs.Common.{◌≡◌, ℕ, ◌+◌, arith}
use Rattle.std.specs.Prelude.{◌&&◌, ◌==◌, Bool, true, not, List, length, Result, Ok, Err}
use Rattle.std.specs.Io.Iter.{u64_saturate}

-- a write failed: with an error, or it took no byte although there was one
abbrev pub is_failed_write : {E : Type 0} → Result ℕ E → List ℕ → Bool
is_failed_write (Ok n) bytes = n == 0 && not (length bytes == 0)
is_failed_write (Err e) bytes = true

-- ---- a list that is read from its front

pub none_left : (a : ℕ) → a ≡ 0 + a
none_left a = omega arith

pub more_left : (a b c m n : ℕ) → a ≡ m + b → b ≡ n + c → a ≡ (m + n) + c
more_left a b c m n p q = omega (arith, p, q)

-- ---- a place that goes on

pub none_on : (a : ℕ) → a ≡ a + 0
none_on a = omega arith

pub more_on : (a b c m n : ℕ) → b ≡ a + m → c ≡ b + n → c ≡ a + (m + n)
more_on a b c m n p q = omega (arith, p, q)

-- ---- a reader of nothing

pub more_of_none : (m n : ℕ) → m ≡ 0 → n ≡ 0 → m + n ≡ 0
more_of_none m n p q = omega (arith, p, q)

-- ---- a counter that stops at the greatest number

pub none_counted : (a : ℕ) → u64_saturate a ≡ u64_saturate (a + 0)
none_counted a = omega arith

pub more_counted : (a b c m n : ℕ) → u64_saturate b ≡ u64_saturate (a + m) → u64_saturate c ≡ u64_saturate (b + n)
    → u64_saturate c ≡ u64_saturate (a + (m + n))
more_counted a b c m n p q = omega (arith, p, q)
