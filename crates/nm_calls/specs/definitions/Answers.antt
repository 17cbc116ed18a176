-- The answers of a system to its calls.
use Rattle.std.specs.Prelude.{ℕ, ℤ, List, Option}
use Rattle.nm_types.specs.declared.errno.Errno.{Errno}
use Rattle.nm_model.specs.definitions.Touch.{AccessAnswer}

-- the answers, by kind
pub data Answer : Type 0 where
  Refusal : Errno → Answer
  Done : Answer
  -- to an access to a page that moves
  Held : Answer
  NewSegment : (segment : ℕ) → Answer
  TheBytes : List ℕ → Answer
  -- how many requests failed
  Failed : (failed : ℕ) → Answer
  -- the same, with the status of each entry and the answers to the accesses during its runs
  Statuses : (failed : ℕ) → List ℤ → (answers : List AccessAnswer) → Answer
  -- frames, front first
  Frames : List ℕ → Answer
  -- page numbers with the frame at each, or none for the page of zeros
  Entries : List (ℕ × Option ℕ) → Answer
  -- how many pages moved, and how many requests failed
  TheTotals : (moved failed : ℕ) → Answer
  -- lines of text
  Lines : List (List ℕ) → Answer
