-- Passes over nodes without a free frame.
use Rattle.std.specs.Prelude.{◌≡◌, ℕ, ◌+◌, ◌<◌, ◌/◌, ◌%◌, min, pos, true, All, Any, List, [], length}
use Rattle.std.specs.List.{AllByRecursion}
use Rattle.nm_types.specs.declared.page.Page.{Page}
use Rattle.nm_types.specs.Nodes.{is_in}
use Rattle.nm_types.specs.State.{State, free_list}
use Rattle.nm_types.specs.declared.request.Class.TheVariants.{Status, Move}
use Rattle.nm_types.specs.declared.request.Wanted.{Wanted}
use Rattle.nm_model.specs.definitions.Status.{status_or_move}
use Rattle.nm_model.specs.definitions.Cut.{all_to}
use Rattle.nm_model.specs.definitions.Cut.{cut_within}
use Rattle.nm_model.specs.definitions.Run.{RunResult, with_counts, batch}
use Rattle.nm_passes.specs.definitions.Passes.{short_of_frames}

-- this asks for a page that is on this node
abbrev pub StandsOn : State → ℕ → Wanted → Type 0
StandsOn s node w = status_or_move s node w ≡ Status (pos node)

-- this asks for a page that would move to this node
abbrev pub WouldMove : State → ℕ → Wanted → Type 0
WouldMove s node w = (page : Page) × (from : ℕ) × (status_or_move s node w ≡ Move page from)

-- the state and the statuses after a pass over a node
abbrev pub pass : ℕ → State → ℕ → List Wanted → RunResult
pass limit s node wanted = batch limit s (all_to node wanted) []

-- how many runs a batch of this many requests for one node has: their number divided by the limit, rounded up
abbrev pub rounded_up : ℕ → ℕ → ℕ
rounded_up n limit = n / limit + min 1 (n % limit)

-- a pass over a node without a free frame, for pages that would move to it, only adds their number to the total of
-- failures, and leaves all of them
abbrev pub FullNodeTakesNone : Type 0
FullNodeTakesNone =
    (limit : ℕ) (s : State) (node : ℕ) (wanted : List Wanted) → 0 < limit → 0 < length wanted → free_list s node ≡ []
    → AllByRecursion (WouldMove s node) wanted →
    let made = pass limit s node wanted in
    (made.state ≡ with_counts s 0 (length wanted)) × (short_of_frames wanted made.statuses ≡ wanted)

-- the pages that a pass leaves without a frame would still move to its node
abbrev pub LeftWouldMove : Type 0
LeftWouldMove =
    (limit : ℕ) (s : State) (node : ℕ) (wanted : List Wanted) → 0 < limit →
    let made = pass limit s node wanted in
    AllByRecursion (WouldMove made.state node) (short_of_frames wanted made.statuses)

-- a page that would move to one node would move to any node that it is not on
abbrev pub MovesElsewhere : Type 0
MovesElsewhere =
    (s : State) (node next : ℕ) (w : Wanted) → WouldMove s node w → (StandsOn s next w → ⊥) → WouldMove s next w

-- the number of runs of a batch for one node depends on its length alone
abbrev pub RunsGoByLength : Type 0
RunsGoByLength =
    (limit node : ℕ) (wanted : List Wanted) → 0 < limit → length (cut_within limit (all_to node wanted)) ≡ rounded_up (length wanted) limit

-- so after a pass, another one over a node that has no free frame and none of the pages left leaves the same pages, and
-- fails for each
abbrev pub NextPassTakesNone : Type 0
NextPassTakesNone =
    (limit : ℕ) (s : State) (node next : ℕ) (wanted : List Wanted) → 0 < limit →
    let first = pass limit s node wanted in
    let left = short_of_frames wanted first.statuses in
    0 < length left → free_list first.state next ≡ [] → AllByRecursion (λ w. StandsOn first.state next w → ⊥) left →
    let made = pass limit first.state next left in
    (made.state ≡ with_counts first.state 0 (length left)) × (short_of_frames left made.statuses ≡ left)

-- a pass has found no free frame for any of these
abbrev pub HasFailed : State → List Wanted → Type 0
HasFailed s wanted = (node : ℕ) × AllByRecursion (WouldMove s node) wanted

-- each node below 64 that some of these pages are on is in this set
abbrev pub StandAmong : State → List ℕ → List Wanted → Type 0
StandAmong s nodes wanted = All (λ w. (node : ℕ) → node < 64 → StandsOn s node w → is_in nodes node ≡ true) wanted

-- on each of these nodes some of this stands
abbrev pub EachHasSome : State → List ℕ → List Wanted → Type 0
EachHasSome s nodes wanted = (node : ℕ) → is_in nodes node ≡ true → Any (StandsOn s node) wanted

-- these are the nodes below 64 on which some of this stands, and no other
pub record AreStanding (s : State) (nodes : List ℕ) (wanted : List Wanted) : Type 0 where
  pub all : StandAmong s nodes wanted
  pub some : EachHasSome s nodes wanted
