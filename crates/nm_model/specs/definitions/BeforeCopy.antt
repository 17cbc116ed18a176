-- Accesses in flight whose touches are all made first: the state after the touches, and what is left to do.
use Rattle.std.specs.Prelude.{◌≡◌, ◌+◌, ◌≤◌, IsSome, ℕ, ◌/◌, ◌%◌, false, true, List, [], ◌∷◌, ◌++◌, map, length, drop, replicate, slice_set, Option, Some, None, Result, Ok, Err, if◌then◌else◌}
use Rattle.std.specs.Option.{unwrap_or}
use Rattle.std.specs.List.{fold, list_any}
use Rattle.nm_types.specs.declared.page.Page.{Page}
use Rattle.nm_types.specs.declared.errno.Errno.{Errno}
use Rattle.nm_types.specs.declared.sight.Sight.{Sight}
use Rattle.nm_types.specs.declared.sight.Sight.TheVariants.{ZeroPage, Sees}
use Rattle.nm_types.specs.Map.{get, page_cmp, same_page, with_values}
use Rattle.nm_types.specs.State.{State, free_list}
use Rattle.nm_model.specs.definitions.Seen.{sight_at}
use Rattle.nm_model.specs.definitions.Frames.{overwrite}
use Rattle.nm_types.specs.declared.page_move.PageMove.{PageMove}
use Rattle.nm_model.specs.definitions.Memory.{stretch_of}
use Rattle.nm_model.specs.definitions.Touch.{Access, Read, Write, AccessAnswer, Bytes, Done, Held, Refused, touch}
use Rattle.nm_model.specs.definitions.Touch.{AccessResults, is_held, site_of_access}

-- what is left to do for an access after its touch
pub data PendingAccess : Type 0 where
  -- nothing: its answer is known
  Known : (answer : AccessAnswer) → PendingAccess
  -- `len` bytes of the page from index `at` on are to be read
  ToRead : (page : Page) (at len : ℕ) → PendingAccess
  -- these bytes are to be written there
  ToWrite : (page : Page) (at : ℕ) (new : List ℕ) → PendingAccess

-- the state after a touch, and what is left to do
pub record BeforeCopy : Type 0 where
  pub state : State
  pub due : PendingAccess

-- a read of the page that is seen, or zeros if no page is seen
abbrev pub pending_read : Option Sight → ℕ → ℕ → PendingAccess
pending_read None at len = Known (Bytes (replicate len 0))
pending_read (Some ZeroPage) at len = Known (Bytes (replicate len 0))
pending_read (Some (Sees page)) at len = ToRead page at len

abbrev pub pending_write : Option Sight → ℕ → List ℕ → PendingAccess
pending_write None at new = Known Done
pending_write (Some ZeroPage) at new = Known Done
pending_write (Some (Sees page)) at new = ToWrite page at new

-- what is left of a read after its touch, or its refusal
abbrev pub read_before_copy : State → ℕ → ℕ → ℕ → Result State Errno → BeforeCopy
read_before_copy s pid address len (Err e) = record { state = s; due = Known (Refused e) }
read_before_copy s pid address len (Ok t) =
    record { state = t; due = pending_read (sight_at t pid (address / 4096)) (address % 4096) len }

-- what is left of a write after its touch, or its refusal
abbrev pub write_before_copy : State → ℕ → ℕ → List ℕ → Result State Errno → BeforeCopy
write_before_copy s pid address new (Err e) = record { state = s; due = Known (Refused e) }
write_before_copy s pid address new (Ok t) =
    record { state = t; due = pending_write (sight_at t pid (address / 4096)) (address % 4096) new }

-- the touch of an access that is not held
abbrev pub access_before_copy : State → Access → BeforeCopy
access_before_copy s (Read pid address len) = read_before_copy s pid address len (touch s pid address len false)
access_before_copy s (Write pid address new) = write_before_copy s pid address new (touch s pid address (length new) true)

-- an access that is held touches nothing
abbrev pub held_before_copy : State → BeforeCopy
held_before_copy s = record { state = s; due = Known Held }

-- the touch of an access while these pages move
abbrev pub before_copy : State → List Page → Access → BeforeCopy
before_copy s moved a = if is_held moved (site_of_access s a) then held_before_copy s else access_before_copy s a

pub record AllBeforeCopy : Type 0 where
  pub state : State
  pub all_due : List PendingAccess

-- one touch after another
abbrev pub all_before_copy : State → List Page → List Access → AllBeforeCopy
all_before_copy s moved [] = record { state = s; all_due = [] }
all_before_copy s moved (a ∷ accesses) =
    let now = before_copy s moved a in
    let rest = all_before_copy now.state moved accesses in
    record { state = rest.state; all_due = now.due ∷ rest.all_due }

-- changes the value of one page
abbrev pub at_page : {V : Type 0} → Page → (V → V) → Page → V → V
at_page page change q v = if same_page q page then change v else v

-- these bytes are written to a page from an index on
abbrev pub with_written : State → Page → ℕ → List ℕ → State
with_written s page at new =
    record s { bytes = with_values (at_page page (λ old. overwrite old at new)) s.bytes }

-- the state after what was left is done
abbrev pub after_copy : State → PendingAccess → State
after_copy s (Known answer) = s
after_copy s (ToRead page at len) = s
after_copy s (ToWrite page at new) = with_written s page at new

-- the answer of what was left to do
abbrev pub answer_after_copy : State → PendingAccess → AccessAnswer
answer_after_copy s (Known answer) = answer
answer_after_copy s (ToRead page at len) = Bytes (stretch_of (unwrap_or (get page_cmp s.bytes page) []) at len)
answer_after_copy s (ToWrite page at new) = Done

-- one after another
abbrev pub all_after_copy : State → List PendingAccess → AccessResults
all_after_copy s [] = record { state = s; answers = [] }
all_after_copy s (d ∷ all_due) =
    let rest = all_after_copy (after_copy s d) all_due in
    record { state = rest.state; answers = answer_after_copy s d ∷ rest.answers }

-- a page is in the frame that it takes
abbrev pub with_place : State → PageMove → State
with_place s t = record s { place = with_values (at_page t.page (λ from. t.to)) s.place }

-- so are all of these
abbrev pub with_places : State → List PageMove → State
with_places s taken = fold with_place s taken

-- the first `count` free frames of a node are taken
abbrev pub without_fronts : State → ℕ → ℕ → State
without_fronts s node count = record s { free = slice_set s.free node (drop count (free_list s node)) }

-- these frames are put back at the front of a node's free list
abbrev pub with_fronts : State → ℕ → List ℕ → State
with_fronts s node frames = record s { free = slice_set s.free node (frames ++ free_list s node) }

-- the frames that moves take
abbrev pub frames_taken : List PageMove → List ℕ
frames_taken taken = map (λ t. t.to) taken

-- what is left to do concerns a page that has a frame, if any
abbrev pub ConcernsPage : State → PendingAccess → Type 0
ConcernsPage s (Known answer) = Unit {0}
ConcernsPage s (ToRead page at len) = IsSome (get page_cmp s.place page)
ConcernsPage s (ToWrite page at new) = IsSome (get page_cmp s.place page)

-- its page is none of these
abbrev pub IsBeside : List Page → PendingAccess → Type 0
IsBeside moved (Known answer) = Unit {0}
IsBeside moved (ToRead page at len) = list_any (same_page page) moved ≡ false
IsBeside moved (ToWrite page at new) = list_any (same_page page) moved ≡ false

-- its bytes end within the page
abbrev pub IsInside : PendingAccess → Type 0
IsInside (Known answer) = Unit {0}
IsInside (ToRead page at len) = at + len ≤ 4096
IsInside (ToWrite page at new) = at + length new ≤ 4096

-- what is left to do is inside a page that has a frame and is none of these
abbrev pub IsPending : List Page → State → PendingAccess → Type 0
IsPending moved s d = ConcernsPage s d × IsBeside moved d × IsInside d
