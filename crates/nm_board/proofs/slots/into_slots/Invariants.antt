use Rattle.std.proofs.Common.{◌≡◌, ◌+◌, ◌≤◌, ◌++◌, map, vec_len, vec_capacity, Some}
use Rattle.std.specs.Prelude.{reverse}
use Rattle.nm_board.proofs.slots.into_slots.Given as goal

abbrev pub invariant-loop-job : goal.invariant-loop-job
invariant-loop-job g l = (map Some l.fn.room.items ≡ map Some l.room.items ++ reverse l.slots.items)
    × (vec_len l.slots + vec_len l.room ≤ vec_capacity l.slots)
    × (vec_capacity l.room ≡ vec_capacity l.fn.room)

abbrev pub decreases-loop-job : goal.decreases-loop-job
decreases-loop-job g l = goal.left-loop-job g l
