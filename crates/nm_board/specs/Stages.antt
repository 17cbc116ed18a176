-- A board's words and hands show how far each job is.
use Rattle.std.specs.Prelude.{◌≡◌, ◌≢◌, ℕ, ◌+◌, ◌<◌, ◌≤◌, Bool, List, [], ◌∷◌, ◌++◌, length, slice_index, slice_set, Option, Some, slice_get}
use mathlib.Core.Option.{some}
use lib.ListN.{get_elem?}
use Rattle.atomic_table.specs.Table.{State, Step, rest}
use Rattle.nm_model.specs.definitions.Events.{draw_job, give_job}
use Rattle.nm_model.specs.definitions.RunMachine.{Job, Stage, Laid, InHand, Given}
use Rattle.nm_frames.specs.declared.job.CopyJob.{CopyJob}
use Rattle.nm_board.specs.declared.view.View.{View}
use Rattle.nm_board.specs.Tickets.{ticket_times}
use Rattle.nm_board.specs.Rule.{sum_over_hands, IsBoardRule, spent_view}
use Rattle.nm_board.specs.Steps.{Mine, Draws, GivesBack, less, part, both}
use Rattle.nm_board.specs.Shown.{Fits}

-- a board at one moment: its words, its slots and what its hands know
abbrev pub Moment : Type 0 → Type 0
Moment A = State (Option (CopyJob A)) (View A)

-- the draws so far, and the tickets given back so far
abbrev pub next_of : {A : Type 0} → Moment A → ℕ
next_of s = slice_index s.words 0

abbrev pub given_of : {A : Type 0} → Moment A → ℕ
given_of s = slice_index s.words 8

-- what a board shows of the job of ticket t: it lies there if no draw has reached it; it is in a hand that drew it and
-- has not given it back; it was given back if some hand did so
abbrev pub IsAt : {A : Type 0} → Moment A → ℕ → Stage → Type 0
IsAt s t Laid = next_of s ≤ t
IsAt {A} s t (InHand hand) = (v : View A) × (get_elem? s.views hand ≡ some v) × (0 < ticket_times t v.drawn) × (ticket_times t v.done ≡ 0)
IsAt s t Given = 0 < sum_over_hands (λ v. ticket_times t v.done) s.views

-- at each moment each job is at exactly one stage
abbrev pub EachIsAtOneStage : Type 0 → Type 0
EachIsAtOneStage A = (jobs : List (CopyJob A)) (s : Moment A) → IsBoardRule jobs s → (t : ℕ) → t < length jobs
    → (stage : Stage) × IsAt s t stage × ((other : Stage) → IsAt s t other → other ≡ stage)

-- the job of ticket t goes from one stage to another, and every other job stays at its stage
pub record Turns {A : Type 0} (old new : Moment A) (t : ℕ) (from to : Stage) : Type 0 where
  pub was : IsAt old t from
  pub is : IsAt new t to
  pub others : (u : ℕ) (stage : Stage) → u ≢ t → IsAt old u stage → IsAt new u stage

-- each job stays at its stage
abbrev pub Stays : {A : Type 0} → List (CopyJob A) → Moment A → Moment A → Type 0
Stays jobs old new = (t : ℕ) (stage : Stage) → t < length jobs → IsAt old t stage → IsAt new t stage

-- a hand makes a step: one word gets this number, the hand knows what it knows after the step, and nothing else changes
pub record MakesStep {A : Type 0} (jobs : List (CopyJob A)) (hand word number : ℕ) (old new : Moment A) (me now : Mine A) : Type 0 where
  pub kept : IsBoardRule jobs old
  pub shares : ℕ
  pub past : Bool
  pub fits : Fits me shares past
  pub mine : get_elem? old.views hand ≡ some me.0
  pub words : new.words ≡ slice_set old.words word number
  pub views : new.views ≡ slice_set old.views hand now.0

-- a draw moves the first job that lies on the board into the hand
abbrev pub DrawTakesTheFirst : Type 0 → Type 0
DrawTakesTheFirst A = (jobs : List (CopyJob A)) (hand : ℕ) (old new : Moment A) (me now : Mine A) (s : Step (Option (CopyJob A)))
    → MakesStep jobs hand 0 (next_of old + 1) old new me now → Draws s me (next_of old) now → next_of old < length jobs
    → Turns old new (next_of old) Laid (InHand hand) × ((t : ℕ) → IsAt old t Laid → next_of old ≤ t)

-- if no job is left, a draw moves none
abbrev pub LateDrawTakesNone : Type 0 → Type 0
LateDrawTakesNone A = (jobs : List (CopyJob A)) (hand : ℕ) (old new : Moment A) (me now : Mine A) (s : Step (Option (CopyJob A)))
    → MakesStep jobs hand 0 (next_of old + 1) old new me now → Draws s me (next_of old) now → length jobs ≤ next_of old
    → Stays jobs old new

-- a hand gives back the job that it drew last
abbrev pub GiveReturnsTheLast : Type 0 → Type 0
GiveReturnsTheLast A = (jobs : List (CopyJob A)) (hand t : ℕ) (job : Option (CopyJob A)) (old new : Moment A) (me now : Mine A)
    → (s : Step (Option (CopyJob A)))
    → MakesStep jobs hand 8 (given_of old + 1) old new me now → GivesBack s me (given_of old) now → me.1 ≡ (t, job) ∷ rest me.1
    → Turns old new t (InHand hand) Given

-- a board shows jobs of the run machine: as many as it has, each at the stage that it is at
pub record Shows {A : Type 0} (jobs : List (CopyJob A)) (s : Moment A) (shown : List Job) : Type 0 where
  pub as_many : length shown ≡ length jobs
  pub stages : (t : ℕ) (job : Job) → slice_get shown t ≡ Some job → IsAt s t job.stage

-- a draw, even one that comes when no job is left, is the run machine's
abbrev pub DrawIsTheMachines : Type 0 → Type 0
DrawIsTheMachines A = (jobs : List (CopyJob A)) (hand : ℕ) (old new : Moment A) (me now : Mine A) (s : Step (Option (CopyJob A)))
    → (shown : List Job) → MakesStep jobs hand 0 (next_of old + 1) old new me now → Draws s me (next_of old) now
    → Shows jobs old shown → Shows jobs new (draw_job hand shown)

-- giving a job back is the run machine's
abbrev pub GiveIsTheMachines : Type 0 → Type 0
GiveIsTheMachines A = (jobs : List (CopyJob A)) (hand t : ℕ) (job : Option (CopyJob A)) (old new : Moment A) (me now : Mine A)
    → (s : Step (Option (CopyJob A))) (shown : List Job)
    → MakesStep jobs hand 8 (given_of old + 1) old new me now → GivesBack s me (given_of old) now → me.1 ≡ (t, job) ∷ rest me.1
    → Shows jobs old shown → Shows jobs new (give_job t shown)

-- a split changes no job's stage
abbrev pub SplitChangesNone : Type 0 → Type 0
SplitChangesNone A = (jobs : List (CopyJob A)) (hand n : ℕ) (old new : Moment A) (v : View A)
    → get_elem? old.views hand ≡ some v → new.words ≡ old.words → new.views ≡ slice_set old.views hand (less n v) ++ part n v ∷ []
    → Stays jobs old new

-- nor does a join of two hands that have given back all that they drew
abbrev pub JoinChangesNone : Type 0 → Type 0
JoinChangesNone A = (jobs : List (CopyJob A)) (hand other : ℕ) (old new : Moment A) (v w : View A)
    → get_elem? old.views hand ≡ some v → get_elem? old.views other ≡ some w → other ≢ hand
    → ((t : ℕ) → ticket_times t v.drawn ≡ ticket_times t v.done) → ((t : ℕ) → ticket_times t w.drawn ≡ ticket_times t w.done)
    → new.words ≡ old.words → new.views ≡ slice_set (slice_set old.views hand (both v w)) other spent_view
    → Stays jobs old new
