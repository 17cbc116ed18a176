-- How the reply to a line changes the session, and what is written of it.
use Rattle.std.specs.Prelude.{◌≡◌, ◌==◌, ℕ, ◌-◌, ◌<◌, ◌≤◌, ◌⊎◌, Bool, true, List, [], ◌∷◌, ◌++◌, length, take, codes, decimal, Option, Some, None, IfSome, Result, Ok, Err, OnOk}
use Rattle.std.specs.List.{AllByRecursion, list_any}
use Rattle.std.specs.Io.{StopsAt}
use Rattle.std.specs.Io.BufRead.{take_through, drop_through}
use Rattle.std.specs.Io.KnownBytes.{Appends, Consumes, IsAtEnd}
use Rattle.nm_requests.specs.Calls.{Call}
use Rattle.nm_steps.specs.declared.trace_error.TraceError.{TraceError}
use Rattle.nm_steps.specs.declared.trace_error.TraceError.TheVariants.{BadStep}
use Rattle.nm_steps.specs.declared.trace_error.TraceError.TheVariants as trace
use Rattle.nm_streams.specs.Waiting.{BreaksOff}
use Rattle.nm_trace.specs.definitions.Session.{SessionState, StopsShort, next_call, next, next_lines, session_of}
use Rattle.numatrace_session.specs.declared.End.{End}
use Rattle.numatrace_session.specs.declared.End.TheVariants.{BadTop, HostMemory, Stream}

-- the reply to a line that is no JSON
abbrev pub not_json_reply : List ℕ
not_json_reply = codes "fault: not JSON\n\n"

-- the reply to a line that is JSON, but not this step
abbrev pub bad_step_reply : ℕ → List ℕ
bad_step_reply k = codes "fault: bad step " ++ decimal k ++ codes "\n\n"

-- the reply to a line with this fault
abbrev pub fault_reply : TraceError → List ℕ
fault_reply (BadStep k) = bad_step_reply k
fault_reply fault = not_json_reply

-- the reply to a line: its lines of the report and an empty line; or, if it is no step, what is wrong and an empty line
abbrev pub reply_of : SessionState → Result Call TraceError → List ℕ
reply_of s (Ok call) = next_lines s call ++ 10 ∷ []
reply_of s (Err fault) = fault_reply fault

-- the session after a line: its call is made, and a line that is no step leaves it as it was
abbrev pub session_after : SessionState → Result Call TraceError → SessionState
session_after s (Ok call) = next s call
session_after s (Err fault) = s

-- a text is written; or the stream fails, and it breaks off
abbrev pub Writes : Option (List ℕ) → Option (List ℕ) → Bool → Bool → List ℕ → Result (Unit {0}) End → Type 0
Writes old new failed fails text (Ok done) = Appends old new text × (fails ≡ failed)
Writes old new failed fails text (Err (BadTop fault)) = ⊥
Writes old new failed fails text (Err HostMemory) = ⊥
Writes old new failed fails text (Err Stream) = BreaksOff old new text × (fails ≡ true)

-- the reply to a fault is written; lack of memory is returned, and nothing is written
abbrev pub RepliesFault : TraceError → Option (List ℕ) → Option (List ℕ) → Bool → Bool → Result (Unit {0}) End → Type 0
RepliesFault (trace.HostMemory k) old new failed fails result =
    (result ≡ Err HostMemory) × Appends old new [] × (fails ≡ failed)
RepliesFault fault old new failed fails result = Writes old new failed fails (fault_reply fault) result

-- the reply to a line is written, and its call made; if the host has no memory, nothing is written, and the call may
-- have been made in part
abbrev pub Replies : SessionState → SessionState → List ℕ → Option (List ℕ) → Option (List ℕ) → Bool → Bool
    → Result (Unit {0}) End → Type 0
Replies s t line old new failed fails (Err HostMemory) = StopsShort s line t × Appends old new [] × (fails ≡ failed)
Replies s t line old new failed fails result =
    Writes old new failed fails (reply_of s (next_call s line)) result × (t ≡ session_after s (next_call s line))

-- ---- lines, one after another

-- the session after lines
abbrev pub after_lines : SessionState → List (List ℕ) → SessionState
after_lines s [] = s
after_lines s (line ∷ lines) = after_lines (session_after s (next_call s line)) lines

-- the replies to them
abbrev pub replies_to : SessionState → List (List ℕ) → List ℕ
replies_to s [] = []
replies_to s (line ∷ lines) = reply_of s (next_call s line) ++ replies_to (session_after s (next_call s line)) lines

-- bytes are these lines, each up to and with its line feed, and then a rest
abbrev pub AreLines : List ℕ → List (List ℕ) → List ℕ → Type 0
AreLines bytes [] rest = bytes ≡ rest
AreLines bytes (line ∷ lines) rest = (line ≡ take_through 10 bytes) × AreLines (drop_through 10 bytes) lines rest

-- lines are read: the next ones, where the bytes are known
abbrev pub ReadsLines : Option (List ℕ) → Option (List ℕ) → List (List ℕ) → Type 0
ReadsLines None new lines = Unit {0}
ReadsLines (Some bytes) None lines = ⊥
ReadsLines (Some bytes) (Some rest) lines = AreLines bytes lines rest

-- a line has a byte: at the end of the input there is none to reply to
abbrev pub HasByte : List ℕ → Type 0
HasByte line = 0 < length line

-- lines are read, and each has its reply
abbrev pub RepliesToLines : SessionState → SessionState → Option (List ℕ) → Option (List ℕ) → Option (List ℕ) → Option (List ℕ) → Type 0
RepliesToLines s t left left_then old new =
    (lines : List (List ℕ)) × ReadsLines left left_then lines × (t ≡ after_lines s lines) × Appends old new (replies_to s lines)
    × AllByRecursion HasByte lines

-- a first line begins a session, and each further one has its reply
abbrev pub Talks : Option (List ℕ) → Option (List ℕ) → Option (List ℕ) → Option (List ℕ) → Type 0
Talks left left_then old new =
    (top : List ℕ) × (s : SessionState) × (lines : List (List ℕ)) × (session_of top ≡ Ok s) × ReadsLines left left_then (top ∷ lines)
    × Appends old new (replies_to s lines) × AllByRecursion HasByte lines

-- without a fault, bytes that are known are read to their end
abbrev pub ReachesEnd : Result (Unit {0}) End → Option (List ℕ) → Option (List ℕ) → Type 0
ReachesEnd result left left_then = OnOk result (IfSome left (λ _. IsAtEnd left_then))

-- the first line begins none, and nothing is written
abbrev pub IsRefused : Option (List ℕ) → Option (List ℕ) → Option (List ℕ) → Option (List ℕ) → TraceError → Type 0
IsRefused left left_then old new fault =
    (top : List ℕ) × (session_of top ≡ Err fault) × ReadsLines left left_then (top ∷ []) × Appends old new []

-- ---- where a session ends before its input does

-- a line feed is among these bytes
abbrev pub has_line : List ℕ → Bool
has_line bytes = list_any (λ b. b == 10) bytes

-- some bytes are read, up to the end of a line at most
abbrev pub ReadsUpToLine : Option (List ℕ) → Option (List ℕ) → Type 0
ReadsUpToLine left left_then = (bytes : List ℕ) × Consumes left left_then bytes × StopsAt bytes 10

-- lines are read, and at most one after them
abbrev pub ReadsBeyond : Option (List ℕ) → Option (List ℕ) → List (List ℕ) → Type 0
ReadsBeyond left left_then lines = (between : Option (List ℕ)) × ReadsLines left between lines × ReadsUpToLine between left_then

-- lines without the last one
abbrev pub but_last : List (List ℕ) → List (List ℕ)
but_last lines = take (length lines - 1) lines

-- after lines that are read: the reader has failed, and all replies to them are written; or the writer has failed, a
-- front of the replies is written, which has all of them but the last, and nothing was read after these lines
abbrev pub WritesReplies : SessionState → List (List ℕ) → Option (List ℕ) → Option (List ℕ) → Option (List ℕ)
    → Option (List ℕ) → Bool → Bool → Bool → Type 0
WritesReplies s lines left left_then old new reader failed fails =
    (Appends old new (replies_to s lines) × (fails ≡ failed) × (reader ≡ true))
    ⊎ ((front : List ℕ) × (rest : List ℕ) × (front ++ rest ≡ replies_to s lines) × Appends old new front × (fails ≡ true)
    × (length (replies_to s (but_last lines)) ≤ length front) × ReadsLines left left_then lines)

-- replies to lines end early: for lack of memory, with all replies to the lines before; or where the reader or the writer has
-- failed
abbrev pub EndsEarly : End → SessionState → Option (List ℕ) → Option (List ℕ) → Option (List ℕ) → Option (List ℕ) → Bool → Bool
    → Bool → Type 0
EndsEarly (BadTop fault) s left left_then old new reader failed fails = ⊥
EndsEarly HostMemory s left left_then old new reader failed fails =
    (lines : List (List ℕ)) × ReadsBeyond left left_then lines × AllByRecursion HasByte lines
    × Appends old new (replies_to s lines) × (fails ≡ failed)
EndsEarly Stream s left left_then old new reader failed fails =
    (lines : List (List ℕ)) × ReadsBeyond left left_then lines × AllByRecursion HasByte lines
    × WritesReplies s lines left left_then old new reader failed fails

-- a first line begins a session, and the replies to further lines end early
abbrev pub EndsBegun : End → Option (List ℕ) → Option (List ℕ) → Option (List ℕ) → Option (List ℕ) → Bool → Bool → Bool → Type 0
EndsBegun end left left_then old new reader failed fails =
    (top : List ℕ) × (s : SessionState) × (between : Option (List ℕ)) × (session_of top ≡ Ok s) × ReadsLines left between (top ∷ [])
    × EndsEarly end s between left_then old new reader failed fails

-- nothing is written, and no more than a first line was read
abbrev pub EndsAtOnce : Option (List ℕ) → Option (List ℕ) → Option (List ℕ) → Option (List ℕ) → Bool → Bool → Type 0
EndsAtOnce left left_then old new failed fails = ReadsUpToLine left left_then × Appends old new [] × (fails ≡ failed)

-- how a session ends early, and what it leaves of the reader and of the writer: the first line begins none; or the host
-- has no memory for that line or the session, or the reader has failed before the line was read; or replies to further
-- lines end early
abbrev pub EndsTalk : End → Option (List ℕ) → Option (List ℕ) → Option (List ℕ) → Option (List ℕ) → Bool → Bool → Bool → Type 0
EndsTalk (BadTop fault) left left_then old new reader failed fails =
    IsRefused left left_then old new fault × (fails ≡ failed)
EndsTalk HostMemory left left_then old new reader failed fails =
    EndsAtOnce left left_then old new failed fails ⊎ EndsBegun HostMemory left left_then old new reader failed fails
EndsTalk Stream left left_then old new reader failed fails =
    (EndsAtOnce left left_then old new failed fails × (reader ≡ true))
    ⊎ EndsBegun Stream left left_then old new reader failed fails

-- a session has ended, early or not, and then the writer has failed to flush the replies that wait
abbrev pub IsUnflushed : Option (List ℕ) → Option (List ℕ) → Option (List ℕ) → Option (List ℕ) → Bool → Bool → Bool → Type 0
IsUnflushed left left_then old new reader failed fails =
    (fails ≡ true) × (Talks left left_then old new
    ⊎ ((end : End) × (fails_then : Bool) × EndsTalk end left left_then old new reader failed fails_then))

-- a session ends early, and the replies that wait are flushed; or they could not be
abbrev pub EndsFlushed : End → Option (List ℕ) → Option (List ℕ) → Option (List ℕ) → Option (List ℕ) → Bool → Bool → Bool → Type 0
EndsFlushed Stream left left_then old new reader failed fails =
    EndsTalk Stream left left_then old new reader failed fails ⊎ IsUnflushed left left_then old new reader failed fails
EndsFlushed end left left_then old new reader failed fails = EndsTalk end left left_then old new reader failed fails
