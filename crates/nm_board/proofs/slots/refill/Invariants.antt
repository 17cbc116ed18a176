use Rattle.std.proofs.Common.{◌≡◌, ◌+◌, ◌≤◌, ◌++◌, map, vec_len, vec_capacity, Some}
use Rattle.std.specs.Prelude.{reverse}
use Rattle.nm_board.proofs.slots.refill.Given as goal

abbrev pub invariant-loop-slot : goal.invariant-loop-slot
invariant-loop-slot g l = (map Some l.laid.value.items ≡ map Some l.room.items ++ reverse l.slots.items)
    × (vec_len l.slots + vec_len l.room ≤ vec_capacity l.room)

abbrev pub decreases-loop-slot : goal.decreases-loop-slot
decreases-loop-slot g l = goal.left-loop-slot g l
