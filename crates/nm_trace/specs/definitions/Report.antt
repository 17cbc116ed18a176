-- The report on calls, and the state after them.
use Rattle.std.specs.Prelude.{ℕ, ◌+◌, List, [], ◌∷◌, ◌++◌, length, Option, codes, decimal}
use Rattle.std.specs.Fmt.{signed_decimal}
use Rattle.std.specs.List.{flat_map}
use Rattle.std.specs.Option.{unwrap_or, option_map}
use Rattle.hex.specs.Hex.{encode_lower}
use Rattle.nm_types.specs.Names.{name_of}
use Rattle.nm_model.specs.definitions.Touch.{Access, AccessAnswer}
use Rattle.nm_calls.specs.definitions.Maps.{address_text}
use Rattle.nm_calls.specs.definitions.Systems.{SystemState}
use Rattle.nm_requests.specs.Calls.{Call, Spawn, MapPages, Attach, Unmap, Exit, Pin, Unpin, ReadBytes, WriteBytes, MovePages, MigratePages, Query, FreeList, Pagemap, Vmstat, NumaMaps, Mbind, Offline, Online}
use Rattle.nm_steps.specs.Form.{access_step}
use Rattle.nm_calls.specs.definitions.Answers.{Answer, Refusal, Done, Held, NewSegment, TheBytes, Statuses, Failed, Frames, Entries, TheTotals, Lines}
use Rattle.nm_calls.specs.definitions.Outcome.{accesses_asked, outcome, access_answer}

-- the word for a call
abbrev pub word_of : Call → List ℕ
word_of (Spawn pid uid home allowed privileged) = codes "spawn"
word_of (MapPages pid addr pages shared) = codes "map"
word_of (Attach pid addr segment offset pages) = codes "attach"
word_of (Unmap pid addr pages) = codes "unmap"
word_of (Exit pid) = codes "exit"
word_of (Pin pid addr) = codes "pin"
word_of (Unpin pid addr) = codes "unpin"
word_of (ReadBytes pid addr len) = codes "read"
word_of (WriteBytes pid addr bytes) = codes "write"
word_of (MovePages caller pid pages nodes flags during) = codes "move_pages"
word_of (MigratePages caller pid old new) = codes "migrate_pages"
word_of (Query caller pid pages flags) = codes "query"
word_of (Mbind caller addr len mode nodes flags) = codes "mbind"
word_of (Offline node) = codes "offline"
word_of (Online node) = codes "online"
word_of (FreeList node) = codes "free"
word_of (Pagemap pid) = codes "pagemap"
word_of Vmstat = codes "vmstat"
word_of (NumaMaps pid) = codes "numa_maps"

-- items, each after a space
abbrev pub each_after_space : {X : Type 0} → (X → List ℕ) → List X → List ℕ
each_after_space text xs = flat_map (λ x. 32 ∷ text x) xs

-- an entry: its address, and its frame or `zero`
abbrev pub entry_text : ℕ × Option ℕ → List ℕ
entry_text e = address_text e.0 ++ codes "=" ++ unwrap_or (option_map decimal e.1) (codes "zero")

-- an answer as text; the two totals have their names in /proc/vmstat, and each line comes after a line feed
unfoldable pub answer_text : Answer → List ℕ
answer_text (Refusal errno) = codes "error " ++ name_of errno
answer_text Done = codes "ok"
answer_text Held = codes "held"
answer_text (NewSegment segment) = codes "segment=" ++ decimal segment
answer_text (TheBytes bytes) = encode_lower bytes
answer_text (Failed failed) = decimal failed
answer_text (Statuses failed statuses answers) = decimal failed ++ codes ":" ++ each_after_space signed_decimal statuses
answer_text (Frames frames) = decimal (length frames) ++ codes ":" ++ each_after_space decimal frames
answer_text (Entries entries) = decimal (length entries) ++ codes ":" ++ each_after_space entry_text entries
answer_text (TheTotals moved failed) =
    (codes "pgmigrate_success " ++ decimal moved) ++ (codes " pgmigrate_fail " ++ decimal failed)
answer_text (Lines lines) = decimal (length lines) ++ flat_map (λ line. 10 ∷ line) lines

-- the line of step k, followed by those of an answer of several lines
unfoldable pub line_of : ℕ → Call → Answer → List ℕ
line_of k call answer = decimal k ++ codes " " ++ word_of call ++ codes " " ++ answer_text answer ++ codes "\n"

-- the line of access j of step k: the number of step k and a dot, and then the line that a step j would have that makes
-- the access
unfoldable pub access_line : ℕ → ℕ → Access → AccessAnswer → List ℕ
access_line k j access answer = decimal k ++ codes "." ++ line_of j (access_step access) (access_answer answer)

-- the lines of the accesses of step k, each with the answer at its index, numbered from j on; if each access names a
-- run that is made, there are as many answers as accesses
abbrev pub access_lines : ℕ → ℕ → List (ℕ × Access) → List AccessAnswer → List ℕ
access_lines k j (flight ∷ during) (answer ∷ answers) =
    access_line k j flight.1 answer ++ access_lines k (j + 1) during answers
access_lines k j during answers = []

-- the answers to accesses in flight; none if the call is refused
abbrev pub answers_in : Answer → List AccessAnswer
answers_in (Statuses failed statuses answers) = answers
answers_in answer = []

-- the lines of step k: its own, and those of its accesses in flight
unfoldable pub text_of : ℕ → Call → Answer → List ℕ
text_of k call answer = line_of k call answer ++ access_lines k 0 (accesses_asked call) (answers_in answer)

-- the report on calls made one after another from this state: the lines of each, numbered from k on
abbrev pub report_from : ℕ → SystemState → List Call → List ℕ
report_from k s [] = []
report_from k s (call ∷ calls) =
    text_of k call (outcome s call).answer ++ report_from (k + 1) (outcome s call).system calls

-- the state after these calls
abbrev pub state_after : SystemState → List Call → SystemState
state_after s [] = s
state_after s (call ∷ calls) = state_after (outcome s call).system calls
