-- The entries of a map from a key on.
use Rattle.std.specs.Prelude.{◌≡◌, false}
use Rattle.std.specs.List.{AllByRecursion}
use Rattle.std.specs.List.Sorted.{IsStrictlySortedBy}
use Rattle.std.specs.Map.{keys_of}
use Rattle.std.specs.Ordering.{is_gt}
use Rattle.std.specs.declared.cmp.Ordering.{Ordering}
use Rattle.nm_types.specs.Map.{Map, get}

-- entries in order, none before the key, and the same as the map's from the key on
pub record IsRest {K V : Type 0} (R : K → K → Ordering) (m : Map K V) (k : K) (rest : Map K V) : Type 0 where
  pub ordered : IsStrictlySortedBy R (keys_of rest)
  pub from : AllByRecursion (λ q. is_gt (R k q) ≡ false) (keys_of rest)
  pub same : (q : K) → is_gt (R k q) ≡ false → get R m q ≡ get R rest q
