-- What a hand learns from the step that it makes.
use Rattle.std.specs.Prelude.{◌≡◌, ℕ, ◌-◌, ◌+◌, ◌<◌, ◌≤◌, ◌≢◌, true, false, List, [], ◌∷◌, ◌++◌, length, Option, Some, ◌||◌}
use mathlib.Core.Option.{some}
use lib.ListN.{get_elem?}
use Rattle.atomic_table.specs.Table.{Me, Step, rest}
use Rattle.nm_frames.specs.declared.job.CopyJob.{CopyJob}
use Rattle.nm_board.specs.declared.view.View.{View}
use Rattle.nm_board.specs.Tickets.{ticket_times, once_below}

-- what a hand knows, and the slots that it has out
abbrev pub Mine : Type 0 → Type 0
Mine A = Me (Option (CopyJob A)) (View A)

-- the ticket drawn last, if there is one
abbrev pub front : {A : Type 0} → List (ℕ × Option (CopyJob A)) → List ℕ
front [] = []
front (x ∷ xs) = x.0 ∷ []

-- the tickets that are out, the last first
abbrev pub tickets : {A : Type 0} → List (ℕ × Option (CopyJob A)) → List ℕ
tickets [] = []
tickets (x ∷ xs) = x.0 ∷ tickets xs

-- a hand with all shares that is past the end drew each ticket once
abbrev pub DrewEach : {A : Type 0} → View A → Type 0
DrewEach v = v.shares ≡ 64 → v.past_end ≡ true → (t : ℕ) → ticket_times t v.drawn ≡ once_below t (length v.jobs)

-- a drawn ticket that has a job comes with the job that was laid, and is above all that the hand drew before
pub record DrawsNext {A : Type 0} (m : Mine A) (found : ℕ) (r : Mine A) : Type 0 where
  pub job : CopyJob A
  pub laid : get_elem? m.0.jobs found ≡ some job
  pub now : r ≡ (record m.0 { drawn = m.0.drawn ++ found ∷ [] }, (found, Some job) ∷ m.1)
  pub above : (t : ℕ) → 0 < ticket_times t m.0.drawn → t < found

-- a draw that finds no job left puts the hand past the end
pub record DrawsNone {A : Type 0} (m r : Mine A) : Type 0 where
  pub now : r ≡ (record m.0 { past_end = true }, m.1)
  pub each : DrewEach r.0

pub record Draws {A : Type 0} (s : Step (Option (CopyJob A))) (m : Mine A) (found : ℕ) (r : Mine A) : Type 0 where
  pub below : found < length m.0.jobs → DrawsNext m found r
  pub past : length m.0.jobs ≤ found → DrawsNone m r

-- the ticket drawn last is given back
abbrev pub GivesBack : {A : Type 0} → Step (Option (CopyJob A)) → Mine A → ℕ → Mine A → Type 0
GivesBack s m found r = r ≡ (record m.0 { done = m.0.done ++ front m.1 }, rest m.1)

-- the step returns how many tickets were given back: as many as the hand gave back or more, and no more than there are
-- jobs; if that is all of them, the hand knows it
pub record Counts {A : Type 0} (s : Step (Option (CopyJob A))) (m : Mine A) (found : ℕ) (r : Mine A) : Type 0 where
  pub all : found ≡ length m.0.jobs → r ≡ (record m.0 { full = true }, m.1)
  pub some_out : found ≢ length m.0.jobs → r ≡ m
  pub own : length m.0.done ≤ found
  pub few : found ≤ length m.0.jobs
  pub whole : m.0.shares ≡ 64 → m.0.past_end ≡ true → length m.0.done ≡ length m.0.drawn → found ≡ length m.0.jobs

-- nothing changes; no hand has a ticket twice, or more shares than there are
pub record LooksAtBoard {A : Type 0} (s : Step (Option (CopyJob A))) (m : Mine A) (found : ℕ) (r : Mine A) : Type 0 where
  pub same : r ≡ m
  pub at_most : m.0.shares ≤ 64
  pub once : (t : ℕ) → ticket_times t m.0.drawn ≤ 1
  pub each : DrewEach m.0

-- what a hand keeps when shares are split off
abbrev pub less : {A : Type 0} → ℕ → View A → View A
less n v = record v { shares = v.shares - n }

-- the hand that gets them
abbrev pub part : {A : Type 0} → ℕ → View A → View A
part n v = record { shares = n; past_end = v.past_end; drawn = []; done = []; full = false; jobs = v.jobs }

-- two hands joined into one
abbrev pub both : {A : Type 0} → View A → View A → View A
both v w = record {
  shares = v.shares + w.shares;
  past_end = v.past_end || w.past_end;
  drawn = v.drawn ++ w.drawn;
  done = v.done ++ w.done;
  full = v.full;
  jobs = v.jobs;
}
