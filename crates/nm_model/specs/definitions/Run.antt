-- Runs and batches: one request after another.
use Rattle.std.specs.Prelude.{◌≡◌, Bool, true, ℕ, ◌+◌, ◌-◌, ◌^◌, min, ℤ, pos, ◌||◌, List, [], ◌∷◌, ◌++◌, map, length, count_by, slice_set}
use Rattle.std.specs.List.{fold, AllByRecursion, filter}
use Rattle.std.specs.Ordering.{int_eq}
use Rattle.nm_types.specs.declared.errno.Errno.TheVariants.{Enomem, Ebusy}
use Rattle.nm_types.specs.declared.page.Page.{Page}
use Rattle.nm_types.specs.Map.{set, page_cmp}
use Rattle.nm_types.specs.Layout.{node_of}
use Rattle.nm_types.specs.State.{State, free_list}
use Rattle.nm_types.specs.declared.request.Class.{Class}
use Rattle.nm_types.specs.declared.request.Class.TheVariants.{Status, Move}
use Rattle.nm_types.specs.declared.request.Wanted.{Wanted}
use Rattle.nm_types.specs.declared.request.Wanted.TheVariants.{At as Spot, Whole}
use Rattle.nm_model.specs.definitions.Status.{code, status_or_move}
use Rattle.nm_types.specs.declared.page_move.PageMove.{PageMove}
use Rattle.nm_model.specs.definitions.Touch.{Access, AccessAnswer, all_in_flight}
use Rattle.std.specs.Prelude.{◌==◌}
use Rattle.nm_model.specs.definitions.Cut.{Request, Stretch, cut_within}

-- the state after a request, its status, and its move if there is one
pub record Decision : Type 0 where
  pub state : State
  pub status : ℤ
  pub taken : List PageMove

-- the page takes the front of the target's free list; the frame that it leaves is not free yet
abbrev pub moved_page : State → ℕ → Page → ℕ → List ℕ → Decision
moved_page s target page from [] = record { state = s; status = code Enomem; taken = [] }
moved_page s target page from (frame ∷ rest) =
    let t = record s { place = set page_cmp s.place page frame; free = slice_set s.free target rest } in
    record { state = t; status = pos target; taken = record { page = page; from = from; to = frame } ∷ [] }

-- a request of this class is carried out
abbrev pub decision : State → ℕ → Class → Decision
decision s target (Status status) = record { state = s; status = status; taken = [] }
decision s target (Move page from) = moved_page s target page from (free_list s target)

-- one request is decided and carried out
abbrev pub one_request : State → ℕ → Wanted → Decision
one_request s target w = decision s target (status_or_move s target w)

-- the state after requests, their statuses, and the moves
pub record Progress : Type 0 where
  pub state : State
  pub statuses : List ℤ
  pub taken : List PageMove

-- one request after another
abbrev pub each_request : State → ℕ → List Wanted → Progress
each_request s target [] = record { state = s; statuses = []; taken = [] }
each_request s target (w ∷ ws) =
    let now = one_request s target w in
    let rest = each_request now.state target ws in
    record { state = rest.state; statuses = now.status ∷ rest.statuses; taken = now.taken ++ rest.taken }

-- a frame is appended to its own node's free list
abbrev pub with_free : State → ℕ → State
with_free s frame =
    let node = node_of s.layout frame in
    record s { free = slice_set s.free node (free_list s node ++ frame ∷ []) }

-- one frame after another becomes free
abbrev pub with_all_free : State → List ℕ → State
with_all_free s frames = fold with_free s frames

-- the frames that the moves leave, in order
abbrev pub frames_left : List PageMove → List ℕ
frames_left taken = map (λ t. t.from) taken

-- how many requests failed because of a pin or for lack of a free frame
abbrev pub failures : List ℤ → ℕ
failures statuses = count_by (λ status. int_eq status (code Ebusy) || int_eq status (code Enomem)) statuses

-- a total, which stays at its greatest value
abbrev pub total_after : ℕ → ℕ → ℕ
total_after total n = min (total + n) (2 ^ 64 - 1)

-- the totals with these numbers added
abbrev pub with_counts : State → ℕ → ℕ → State
with_counts s moved failed = record s { moved = total_after s.moved moved; failed = total_after s.failed failed }

-- whether a request moves a page even if other processes see it
abbrev pub moves_all : Wanted → Bool
moves_all (Spot pid v all) = all
moves_all (Whole page) = true

-- requests with one `all`: all of them move pages that other processes see, as requests by page do, or none does
abbrev pub HasOneAll : List Wanted → Type 0
HasOneAll ws = (all : Bool) × AllByRecursion (λ w. moves_all w ≡ all) ws

-- the state after a run or a batch, the statuses and the answers
pub record RunResult : Type 0 where
  pub state : State
  pub statuses : List ℤ
  -- each run's answers to its accesses
  pub answers : List (List AccessAnswer)

-- a run: the requests, the accesses in flight, then the frames left become free, then the totals
abbrev pub run : State → ℕ → List Wanted → List Access → RunResult
run s target ws accesses =
    let moves = each_request s target ws in
    let during = all_in_flight moves.state (map (λ t. t.page) moves.taken) accesses in
    let freed = with_all_free during.state (frames_left moves.taken) in
    let t = with_counts freed (length moves.taken) (failures moves.statuses) in
    record { state = t; statuses = moves.statuses; answers = during.answers ∷ [] }

-- the accesses that name this run, in order
abbrev pub accesses_of : ℕ → List (ℕ × Access) → List Access
accesses_of k accesses = map (λ a. a.1) (filter (λ a. a.0 == k) accesses)

-- one run after another, numbered from k on, each with its accesses
abbrev pub runs_from : ℕ → State → List Stretch → List (ℕ × Access) → RunResult
runs_from k s [] accesses = record { state = s; statuses = []; answers = [] }
runs_from k s (r ∷ rs) accesses =
    let now = run s r.target r.wanted (accesses_of k accesses) in
    let rest = runs_from (k + 1) now.state rs accesses in
    record { state = rest.state; statuses = now.statuses ++ rest.statuses; answers = now.answers ++ rest.answers }

-- a batch under a limit: its runs one after another, with accesses by the number of their run
abbrev pub batch : ℕ → State → List Request → List (ℕ × Access) → RunResult
batch limit s requests accesses = runs_from 0 s (cut_within limit requests) accesses

-- the answer of a batch
abbrev pub batch_answer : RunResult → ℕ
batch_answer r = failures r.statuses
