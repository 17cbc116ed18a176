-- A single mapper.
use Rattle.std.proofs.Common.{◌≡◌, List, [], ◌∷◌, sym, ap, subst, ◌∙◌}
use Rattle.std.specs.Prelude.{Option, Some}
use Rattle.std.specs.List.Sorted.{IsStrictlySortedBy}
use Rattle.nm_types.specs.Map.{spot_cmp}
use Rattle.nm_rmap.specs.Mappers.{Mapper, spots_in}

-- it is in order
lone_sorted : (spot : Mapper) → IsStrictlySortedBy spot_cmp (spot ∷ [])
unfolding IsStrictlySortedBy
lone_sorted spot = (tt, tt)

-- so all mappers are, where there is a single one
pub lone_ordered : (o : Option Mapper) (set all : List Mapper) (spot : Mapper) → spots_in o set ≡ all → o ≡ Some spot → IsStrictlySortedBy spot_cmp all
lone_ordered o set all spot is alone = subst (IsStrictlySortedBy spot_cmp) (sym (ap (λ o. spots_in o set) alone) ∙ is) (lone_sorted spot)
