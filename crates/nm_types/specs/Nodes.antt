-- Sets of nodes, as lists of node numbers in ascending order.
use Rattle.std.specs.Prelude.{ℕ, zero, suc, ◌+◌, ◌^◌, ◌<◌, ◌==◌, Bool, not, List, [], ◌∷◌, All, if◌then◌else◌}
use Rattle.std.specs.List.Sorted.{IsStrictlyIncreasing}
use Rattle.std.specs.Int.{bit_at}
use Rattle.std.specs.List.{list_any, filter}

-- the `k` numbers from `n` on
abbrev pub up_from : ℕ → ℕ → List ℕ
up_from n zero = []
up_from n (suc k) = n ∷ up_from (n + 1) k

-- whether a number is in a list
abbrev pub is_in : List ℕ → ℕ → Bool
is_in ns n = list_any (λ m. m == n) ns

-- a set without this node
abbrev pub without_node : List ℕ → ℕ → List ℕ
without_node ns n = filter (λ m. not (m == n)) ns

-- those of the `k` numbers from `n` on whose bits are set
abbrev pub members_from : ℕ → ℕ → ℕ → List ℕ
members_from bits n zero = []
members_from bits n (suc k) = let rest = members_from bits (n + 1) k in if bit_at bits n == 1 then n ∷ rest else rest

-- the nodes of a 64-bit mask
unfoldable pub members : ℕ → List ℕ
members bits = members_from bits 0 64

-- the mask of a set of nodes
abbrev pub mask_of : List ℕ → ℕ
mask_of [] = 0
mask_of (n ∷ ns) = 2 ^ n + mask_of ns

-- node numbers below 64, in strictly ascending order
pub record IsNodeSet (ns : List ℕ) : Type 0 where
  pub upwards : IsStrictlyIncreasing ns
  pub below : All (λ n. n < 64) ns
