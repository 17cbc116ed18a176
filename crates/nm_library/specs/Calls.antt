-- What a call on numbers returns, shows and leaves.
use Rattle.std.specs.Prelude.{◌≡◌, ◌⊎◌, ℕ, ℤ, pos, List, [], ◌∷◌, ◌++◌, length, map, MatchResult, Option, Some, None, Result, String}
use Rattle.std.specs.List.{flat_map}
use Rattle.std.specs.declared.alloc.Global.{Global}
use Rattle.std.specs.declared.vec.Vec.{Vec}
use Rattle.nm_model.specs.definitions.Status.{code}
use Rattle.nm_pool.specs.views.Accesses.{answer_shown}
use Rattle.nm_requests.specs.Calls.{Call, ReadBytes, WriteBytes, FreeList, Pagemap, NumaMaps}
use Rattle.nm_calls.specs.declared.answer.Answer as values
use Rattle.nm_passes.specs.declared.moved.Moved.{Moved}
use Rattle.nm_calls.specs.declared.answer.PagemapEntry.{PagemapEntry}
use Rattle.nm_passes.specs.declared.call_error.CallError.{CallError}
use Rattle.nm_passes.specs.declared.call_error.CallError.TheVariants.{Refused, HostMemory}
use Rattle.nm_calls.specs.definitions.Answers.{Answer, Done, NewSegment, TheBytes, Statuses, Failed, Frames, Entries, Lines}
use Rattle.nm_calls.specs.definitions.Does.{Does}
use Rattle.nm_calls.specs.definitions.Entries.{entries_mapped}
use Rattle.nm_calls.specs.definitions.Maps.{lines_shown}
use Rattle.nm_calls.specs.views.Answers.{answer_of}
use Rattle.nm_library.specs.Entries.{pagemap_entry}
use Rattle.nm_library.specs.Rooms.{at_front, FillsRoom}
use Rattle.nm_library.specs.declared.entry.Entry.{Entry}
use Rattle.nm_library.specs.declared.handle.OpenSession.{OpenSession}

-- this holds of the session before and after the call; if there is none, the status is that of a bad argument
abbrev pub OfSession : (ℤ → OpenSession → OpenSession → Type 0) → ℤ → Option OpenSession → Option OpenSession → Type 0
OfSession Holds status None new = (status ≡ pos 1) × (new ≡ None)
OfSession Holds status (Some old) None = ⊥
OfSession Holds status (Some old) (Some new) = Holds status old new

-- the status for why a call failed: its errno with a minus sign, or that the host is out of memory
abbrev pub error_status : CallError → ℤ
error_status (Refused e) = code e
error_status (HostMemory runs policy_set) = pos 3

-- ---- calls that change the machine

-- the system makes the call: with a value, the status is 0 and `Shown` holds of it, and else it is the error's
abbrev pub MakesCall : (V : Type 0) → (V → Answer) → Call → (V → Type 0) → Type 0 → ℤ → OpenSession → OpenSession → Type 0
MakesCall V view call Shown Unwritten status old new =
    (r : Result V CallError) × Does view r old.session.system new.session.system call
    × MatchResult r (λ v. (status ≡ pos 0) × Shown v) (λ e. (status ≡ error_status e) × Unwritten)
    × (new.session.steps ≡ old.session.steps) × (new.lines ≡ old.lines)

-- a call that returns nothing but its status
abbrev pub Completes : Call → ℤ → OpenSession → OpenSession → Type 0
Completes call = MakesCall (values.Answer Global) answer_of call (λ _. Unit {0}) (Unit {0})

-- a new area, whose segment is written
abbrev pub Maps : Call → ℕ → ℕ → ℤ → OpenSession → OpenSession → Type 0
Maps call before segment = MakesCall ℕ NewSegment call (λ n. segment ≡ n) (segment ≡ before)

-- as many bytes as the room has are read into it
abbrev pub Reads : ℕ → ℕ → List ℕ → List ℕ → ℤ → OpenSession → OpenSession → Type 0
Reads pid addr before room =
    MakesCall (Vec ℕ Global) (λ v. TheBytes v.items) (ReadBytes pid addr (length before))
    (λ v. room ≡ at_front v.items before) (room ≡ before)

abbrev pub WritesBytes : ℕ → ℕ → List ℕ → ℤ → OpenSession → OpenSession → Type 0
WritesBytes pid addr bytes = MakesCall (Unit {0}) (λ _. Done) (WriteBytes pid addr bytes) (λ _. Unit {0}) (Unit {0})

-- how many pages failed is written
abbrev pub Migrates : Call → ℕ → ℕ → ℤ → OpenSession → OpenSession → Type 0
Migrates call before failed = MakesCall ℕ Failed call (λ n. failed ≡ n) (failed ≡ before)

-- the statuses are written as far as there is room, and how many pages failed
abbrev pub MovesPages : Call → List ℤ → List ℤ → ℕ → ℕ → ℤ → OpenSession → OpenSession → Type 0
MovesPages call before statuses before_failed failed =
    MakesCall (Moved Global) (λ m. Statuses m.failed m.statuses.items (map answer_shown m.answers.items)) call
    (λ m. (statuses ≡ at_front m.statuses.items before) × (failed ≡ m.failed))
    ((statuses ≡ before) × (failed ≡ before_failed))

-- there is no memory to make a call with, and nothing changes
abbrev pub Lacks : Type 0 → ℤ → OpenSession → OpenSession → Type 0
Lacks Unwritten status old new = (status ≡ pos 3) × Unwritten × (new ≡ old)

abbrev pub MovesListed : Call → List ℤ → List ℤ → ℕ → ℕ → ℤ → OpenSession → OpenSession → Type 0
MovesListed call before statuses before_failed failed status old new =
    MovesPages call before statuses before_failed failed status old new
    ⊎ Lacks ((statuses ≡ before) × (failed ≡ before_failed)) status old new

-- ---- calls that only look

-- the system is asked: with a value, `Written` says what is written and with which status, and else the status is the
-- error's; or there is no memory for the answer
abbrev pub AsksSystem : (V : Type 0) → (V → Answer) → Call → (V → ℤ → Type 0) → Type 0 → ℤ → OpenSession → Type 0
AsksSystem V view call Written Unwritten status kept =
    ((r : Result V CallError) × Does view r kept.session.system kept.session.system call
    × MatchResult r (λ v. Written v status) (λ e. (status ≡ error_status e) × Unwritten))
    ⊎ ((status ≡ pos 3) × Unwritten)

-- the same of a session that stays as it was
abbrev pub LooksOnly : (ℤ → OpenSession → Type 0) → ℤ → OpenSession → OpenSession → Type 0
LooksOnly Holds status old new = (new ≡ old) × Holds status old

-- the statuses are written as far as there is room
abbrev pub Queries : Call → List ℤ → List ℤ → ℤ → OpenSession → Type 0
Queries call before statuses =
    AsksSystem (Vec ℤ Global) (λ v. Statuses 0 v.items []) call
    (λ v status. (status ≡ pos 0) × (statuses ≡ at_front v.items before)) (statuses ≡ before)

abbrev pub ListsFree : ℕ → List ℕ → List ℕ → ℕ → ℕ → ℤ → OpenSession → Type 0
ListsFree node before frames before_needed needed =
    AsksSystem (Vec ℕ Global) (λ v. Frames v.items) (FreeList node) (λ v status. FillsRoom v.items status before frames needed)
    ((frames ≡ before) × (needed ≡ before_needed))

abbrev pub ListsEntries : ℕ → List Entry → List Entry → ℕ → ℕ → ℤ → OpenSession → Type 0
ListsEntries pid before entries before_needed needed =
    AsksSystem (Vec PagemapEntry Global) (λ v. Entries (entries_mapped v.items)) (Pagemap pid)
    (λ v status. FillsRoom (map pagemap_entry v.items) status before entries needed)
    ((entries ≡ before) × (needed ≡ before_needed))

-- lines, each with a line feed at its end
abbrev pub with_line_feeds : List (List ℕ) → List ℕ
with_line_feeds lines = flat_map (λ line. line ++ 10 ∷ []) lines

abbrev pub ListsAreas : ℕ → List ℕ → List ℕ → ℕ → ℕ → ℤ → OpenSession → Type 0
ListsAreas pid before text before_needed needed =
    AsksSystem (Vec (String Global) Global) (λ v. Lines (lines_shown v.items)) (NumaMaps pid)
    (λ v status. FillsRoom (with_line_feeds (lines_shown v.items)) status before text needed)
    ((text ≡ before) × (needed ≡ before_needed))

-- how many pages moved, and how many requests failed
abbrev pub Totals : ℕ → ℕ → ℤ → OpenSession → Type 0
Totals moved failed status kept =
    (status ≡ pos 0) × (moved ≡ kept.session.system.state.moved) × (failed ≡ kept.session.system.state.failed)
