-- What holds of a board between any two steps: of its words, its slots and what its hands know.
use Rattle.std.specs.Prelude.{◌≡◌, ℕ, ◌+◌, ◌^◌, ◌<◌, ◌≤◌, true, false, List, [], ◌∷◌, length, Option, Some, min, if◌then◌else◌}
use mathlib.Core.Option.{some}
use mathlib.Core.Option as Opt
use lib.ListN.{get_elem?}
use Rattle.atomic_table.specs.Table.{State}
use Rattle.nm_frames.specs.declared.job.CopyJob.{CopyJob}
use Rattle.nm_frames.specs.Job.{job_after_copy}
use Rattle.nm_board.specs.declared.view.View.{View}
use Rattle.nm_board.specs.Tickets.{ticket_times, once_below}

-- the sum over all hands
abbrev pub sum_over_hands : {A : Type 0} → (View A → ℕ) → List (View A) → ℕ
sum_over_hands f [] = 0
sum_over_hands f (v ∷ vs) = f v + sum_over_hands f vs

-- the shares of a hand that is past the end, 0 for any other
abbrev pub past_shares : {A : Type 0} → View A → ℕ
past_shares v = if v.past_end then v.shares else 0

-- what holds of each hand, including dropped ones
pub record IsHand {A : Type 0} (jobs : List (CopyJob A)) (next given : ℕ) (v : View A) : Type 0 where
  pub jobs_are : 0 < v.shares → v.jobs ≡ jobs
  -- it drew every ticket that it gave back
  pub within : (t : ℕ) → ticket_times t v.done ≤ ticket_times t v.drawn
  pub fewer : length v.done ≤ length v.drawn
  -- it is past the end only if no ticket is left
  pub none_left : v.past_end ≡ true → length jobs ≤ next
  pub all_given : v.full ≡ true → given ≡ length jobs
  -- a hand that was joined into another has no shares and no tickets
  pub spent : v.shares ≡ 0 → (v.drawn ≡ []) × (v.done ≡ [])

-- the words: `next` first and `given` last, 64 bytes apart, so that they do not share a cache line
abbrev pub words_of : ℕ → ℕ → List ℕ
words_of next given = next ∷ 0 ∷ 0 ∷ 0 ∷ 0 ∷ 0 ∷ 0 ∷ 0 ∷ given ∷ []

-- what holds of the words `next` and `given`, the slots at home and the hands
pub record RuleHolds {A : Type 0} (jobs : List (CopyJob A)) (words : List ℕ) (homes : List (Opt.Option (Option (CopyJob A))))
    (views : List (View A)) (next given : ℕ) : Type 0 where
  pub words_are : words ≡ words_of next given
  pub few : length jobs < 2 ^ 63
  pub slots : length homes ≡ length jobs
  pub shares : sum_over_hands (λ v. v.shares) views ≡ 64
  -- each ticket below `next` that has a job was drawn by exactly one hand, once, and no other was drawn
  pub once : (t : ℕ) → sum_over_hands (λ v. ticket_times t v.drawn) views ≡ once_below t (min next (length jobs))
  pub drawn : sum_over_hands (λ v. length v.drawn) views ≡ min next (length jobs)
  -- `given` counts the tickets that were given back
  pub returned : sum_over_hands (λ v. length v.done) views ≡ given
  -- each share past the end drew in vain at most once
  pub ahead : next ≤ length jobs + sum_over_hands past_shares views
  pub hands : (id : ℕ) (v : View A) → get_elem? views id ≡ some v → IsHand jobs next given v
  -- a job is as it was laid until it is drawn, and is its copy once it was given back
  pub laid : (t : ℕ) (job : CopyJob A) → next ≤ t → get_elem? jobs t ≡ some job → get_elem? homes t ≡ some (some (Some job))
  pub back : (t : ℕ) (job : CopyJob A) → 0 < sum_over_hands (λ v. ticket_times t v.done) views → get_elem? jobs t ≡ some job
      → get_elem? homes t ≡ some (some (Some (job_after_copy job)))

-- the board's rule
abbrev pub IsBoardRule : {A : Type 0} → List (CopyJob A) → State (Option (CopyJob A)) (View A) → Type 0
IsBoardRule jobs state = (next : ℕ) × (given : ℕ) × RuleHolds jobs state.words state.homes state.views next given

-- the first hand, with all shares
abbrev pub first_view : {A : Type 0} → List (CopyJob A) → View A
first_view jobs = record { shares = 64; past_end = false; drawn = []; done = []; full = false; jobs = jobs }

-- a hand that was joined into another
abbrev pub spent_view : {A : Type 0} → View A
spent_view = record { shares = 0; past_end = false; drawn = []; done = []; full = false; jobs = [] }
