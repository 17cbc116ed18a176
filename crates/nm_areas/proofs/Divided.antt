-- Page numbers at which an area is split.
use Rattle.std.proofs.Common.{ℕ, ◌≡◌, subst, arith}
use Rattle.std.specs.Prelude.{◌⊎◌}
use Rattle.std.specs.List.{AllByRecursion}
use Rattle.nm_types.specs.declared.area.Area.{Area}
use Rattle.nm_types.specs.Map.{Map}
use Rattle.nm_model.specs.definitions.Areas.{AreasAreApart, IsSomePages, parts_outside, split_at}
use Rattle.nm_model.proofs.areas.Parted.{All-among, among_flat, among_over, over_among, part_covers, part_of}
use Rattle.nm_areas.specs.Splits.{HasSplit}

-- a split elsewhere makes no other area begin before the page number
pub still_split : (pid first at : ℕ) (areas : Map (ℕ × ℕ) Area) → AllByRecursion IsSomePages areas → AreasAreApart areas → HasSplit (split_at pid first areas) pid at → HasSplit areas pid at
still_split pid first at areas whole apart there =
    let over = among_over (split_at pid first areas) pid at there.0 there.1 in
    let from = among_flat (parts_outside pid first first) areas there.0 over.0 in
    let part = part_of pid first first from.0 (All-among IsSomePages areas from.0 whole from.1) there.0 from.2 in
    let low = part.low in
    let less = there.2 in
    (from.0, over_among areas pid at from.0 apart from.1 (part_covers pid first first from.0 there.0 pid at part over.1), omega (arith, low, less))

-- where areas are split, in numbers of the call
pub split_in : (areas own : Map (ℕ × ℕ) Area) (pid first end at past : ℕ) → areas ≡ own → first ≡ at → end ≡ past → HasSplit areas pid first ⊎ HasSplit areas pid end → HasSplit own pid at ⊎ HasSplit own pid past
split_in areas own pid first end at past same begin stop there =
    subst (λ (m : Map (ℕ × ℕ) Area). HasSplit m pid at ⊎ HasSplit m pid past) same
    (subst (λ n. HasSplit areas pid n ⊎ HasSplit areas pid past) begin (subst (λ n. HasSplit areas pid first ⊎ HasSplit areas pid n) stop there))
