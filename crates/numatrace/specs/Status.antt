-- Exit statuses, and how the program ends.
use Rattle.std.specs.Prelude.{◌≡◌, ◌⊎◌, ◌||◌, ℕ, Bool, true, List, [], codes, Option, Result, Ok, Err}
use Rattle.std.specs.declared.io.ErrorKind.{ErrorKind}
use Rattle.std.specs.declared.io.ErrorKind.TheVariants.{OutOfMemory}
use Rattle.std.specs.Io.KnownBytes.{Appends}
use Rattle.clap.specs.Words.{IsAmong, Kinds}
use Rattle.clap.specs.declared.error.kind.ErrorKind.{ErrorKind as ParseKind}
use Rattle.clap.specs.declared.error.kind.ErrorKind.TheVariants as parse
use Rattle.nm_steps.specs.declared.trace_error.TraceError.{TraceError}
use Rattle.nm_steps.specs.declared.trace_error.TraceError.TheVariants.{NotJson, BadMachine, BadStep, ReadFault, WriteFault, HostMemory}
use Rattle.nm_steps.specs.Faults.{TraceContents}
use Rattle.nm_trace.specs.definitions.Headline.{PlaysWhole, Runs}
use Rattle.nm_trace.specs.definitions.Reporting.{GivesTrace, is_write_fault}
use Rattle.nm_trace.specs.declared.playing.Summary.{Summary}

-- the exit status of a fault
abbrev pub status_of : TraceError → ℕ
status_of NotJson = 2
status_of BadMachine = 2
status_of (BadStep k) = 2
status_of (HostMemory k) = 3
status_of ReadFault = 4
status_of WriteFault = 4

-- the exit status of a run: 0 after a whole report, and else that of the fault
abbrev pub status_after : Result Summary TraceError → ℕ
status_after (Ok summary) = 0
status_after (Err fault) = status_of fault

-- the exit status if the program's words could not be read
abbrev pub words_status : ErrorKind → ℕ
words_status OutOfMemory = 3
words_status kind = 2

-- the exit status of words that clap refuses
abbrev pub refused_status : ParseKind → ℕ
refused_status parse.OutOfMemory = 3
refused_status kind = 2

-- ---- what standard error has

-- the line where the host has no memory for the words
abbrev pub memory_line : List ℕ
memory_line = codes "numatrace: host memory refused after 0 steps\n"

-- the line if the program's words could not be read
abbrev pub words_text : ErrorKind → List ℕ
words_text OutOfMemory = memory_line
words_text kind = codes "numatrace: a word is not UTF-8\n"

-- a text was written, or a write has failed
abbrev pub WritesText : Option (List ℕ) → Option (List ℕ) → Bool → List ℕ → Type 0
WritesText old new failed text = Appends old new text ⊎ (failed ≡ true)

-- why words were refused; clap has texts of its own for all causes but lack of memory
abbrev pub PrintsRefusal : ParseKind → Option (List ℕ) → Option (List ℕ) → Bool → Type 0
PrintsRefusal parse.OutOfMemory old new failed = WritesText old new failed memory_line
PrintsRefusal kind old new failed = Unit {0}

-- ---- how the program ends, if its words are refused for these causes, or for none: its exit status, and what it
-- leaves of the reader of the trace, of the writer of the report and of the writer of faults

-- the words are refused for one of the causes, or the host has no memory for them: nothing is read and no report is written
pub record RefusesWords {R W E : Type 0} (printed : E → Option (List ℕ)) (printing_failed : E → Bool) (refusals : Kinds) (status : ℕ)
    (r s : R) (w v : W) (e f : E) : Type 0 where
  pub kind : ParseKind
  pub cause : (kind ≡ parse.OutOfMemory) ⊎ IsAmong kind refusals
  pub ends : status ≡ refused_status kind
  pub prints : PrintsRefusal kind (printed e) (printed f) (printing_failed f)
  pub unread : s ≡ r
  pub unwritten : v ≡ w

-- the words are accepted, and the trace that the reader gives is run; a fault is printed, and success is not
pub record RunsTrace {R W E : Type 0} (remaining : R → Option (List ℕ)) (read_failed : R → Bool) (gave : R → R → ℕ → Type 0)
    (contents : W → Option (List ℕ)) (write_failed : W → Bool) (refusals : Kinds) (status : ℕ)
    (r s : R) (w v : W) (e f : E) : Type 0 where
  pub accepted : refusals ≡ []
  pub result : Result Summary TraceError
  pub ends : status ≡ status_after result
  pub runs : (trace : Result TraceContents TraceError) × GivesTrace (remaining r) (read_failed r) (read_failed s) (gave r s) trace
      × Runs (PlaysWhole (contents w) (contents v)) trace (contents w) (contents v) result
  pub writes : write_failed v ≡ (is_write_fault result || write_failed w)
  pub quiet : status ≡ 0 → f ≡ e

-- one of these
abbrev pub Ends : {R W E : Type 0} → (R → Option (List ℕ)) → (R → Bool) → (R → R → ℕ → Type 0) → (W → Option (List ℕ)) → (W → Bool)
    → (E → Option (List ℕ)) → (E → Bool) → Kinds → ℕ → R → R → W → W → E → E → Type 0
Ends remaining read_failed gave contents write_failed printed printing_failed refusals status r s w v e f =
    RefusesWords printed printing_failed refusals status r s w v e f
    ⊎ RunsTrace remaining read_failed gave contents write_failed refusals status r s w v e f
