-- Answers of the code, as the definitions have them.
use Rattle.std.specs.Prelude.{map}
use Rattle.nm_calls.specs.declared.answer.Answer as values
use Rattle.nm_calls.specs.declared.answer.Answer.TheVariants as answer
use Rattle.nm_passes.specs.declared.moved.Moved.{Moved}
use Rattle.nm_calls.specs.definitions.Answers.{Answer, Done, NewSegment, TheBytes, Statuses, Failed, Frames, Entries, TheTotals, Lines}
use Rattle.nm_pool.specs.views.Accesses.{answer_shown}
use Rattle.nm_calls.specs.definitions.Entries.{entries_mapped}
use Rattle.nm_calls.specs.definitions.Maps.{lines_shown}

-- the answer to a batch
abbrev pub moved_shown : {A : Type 0} → Moved A → Answer
moved_shown moved = Statuses moved.failed moved.statuses.items (map answer_shown moved.answers.items)

-- an answer, as the definitions have it
abbrev pub answer_of : {A : Type 0} → values.Answer A → Answer
answer_of answer.Done = Done
answer_of (answer.Segment segment) = NewSegment segment
answer_of (answer.Bytes bytes) = TheBytes bytes.items
answer_of (answer.Statuses moved) = moved_shown moved
answer_of (answer.Failed failed) = Failed failed
answer_of (answer.Frames frames) = Frames frames.items
answer_of (answer.Entries entries) = Entries (entries_mapped entries.items)
answer_of (answer.Totals totals) = TheTotals totals.moved totals.failed
answer_of (answer.Lines lines) = Lines (lines_shown lines.items)
