-- The places of a list of parts in order.
use Rattle.std.specs.Prelude.{◌≡◌, ℕ, ◌<◌, ◌≤◌, length, get_or, take, drop}
use Rattle.std.specs.List.{AllByRecursion}
use Rattle.std.specs.Map.{keys_of}
use Rattle.nm_types.specs.Map.{Map}

module _ {P : Type 0} where
  -- the part at this place has this number
  abbrev pub StandsAt : Map ℕ P → ℕ → ℕ → Type 0
  StandsAt parts number i = (i < length parts) × ((d : ℕ × P) → (get_or parts i d).0 ≡ number)

  -- a part with this number belongs at this place: those before it have lower numbers, and those from it on higher ones
  abbrev pub FitsAt : Map ℕ P → ℕ → ℕ → Type 0
  FitsAt parts number i =
      (i ≤ length parts) × AllByRecursion (λ k. k < number) (keys_of (take i parts))
      × AllByRecursion (λ k. number < k) (keys_of (drop i parts))

  -- the parts from this place on have this number or higher ones, and those before it lower ones
  abbrev pub BeginsAt : Map ℕ P → ℕ → ℕ → Type 0
  BeginsAt parts number i =
      (i ≤ length parts) × AllByRecursion (λ k. k < number) (keys_of (take i parts))
      × AllByRecursion (λ k. number ≤ k) (keys_of (drop i parts))
