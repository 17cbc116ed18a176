-- What a writer that reports its failures says of the bytes that it took.
use Rattle.std.proofs.Common.{◌≡◌, ℕ, ◌<◌, ◌==◌, ◌||◌, ◌&&◌, not, List, length, Bool, true, false, arith}
use Rattle.std.proofs.lemmas.Bool.{ne_eqb}

-- no byte of some was taken
pub nothing_taken : (n : ℕ) (bytes : List ℕ) (before now : Bool) → n ≡ 0 → 0 < length bytes → now ≡ ((n == 0 && not (length bytes == 0)) || before) → now ≡ true
nothing_taken n bytes before now none some h =
    let ne : (length bytes == 0) ≡ false = ne_eqb (length bytes) 0 (λ e. omega (arith, some, e)) in
    rw (none, ne) at h

-- some were
pub some_taken : (n : ℕ) (bytes : List ℕ) (before now : Bool) → (n ≡ 0 → ⊥) → now ≡ ((n == 0 && not (length bytes == 0)) || before) → now ≡ before
some_taken n bytes before now some h =
    let ne : (n == 0) ≡ false = ne_eqb n 0 some in
    rw ne at h
