-- What holds for every call.
use Rattle.std.specs.Prelude.{◌≡◌, ◌⊎◌, ℕ, ◌<◌, ◌≤◌, ℤ, Bool, true, false, List, [], length, take, slice_index_or, Option, Some, None, if◌then◌else◌}
use Rattle.std.specs.List.{AllByRecursion}
use Rattle.std.specs.Map.{keys_of}
use Rattle.nm_types.specs.declared.errno.Errno.{Errno}
use Rattle.nm_types.specs.State.{State}
use Rattle.nm_model.specs.definitions.Cut.{Stretch, requests_of}
use Rattle.nm_model.specs.definitions.Memory.{mem}
use Rattle.nm_model.specs.definitions.Touch.{Access, AccessAnswer}
use Rattle.nm_model.specs.definitions.Run.{runs_from, batch, batch_answer}
use Rattle.nm_model.specs.definitions.Sound.{IsSound}
use Rattle.nm_laws.specs.Laws.{runs_written}
use Rattle.nm_requests.specs.Calls.{Call, MapPages, Attach, Unmap, Exit, WriteBytes, MovePages, MigratePages, Mbind, Offline}
use Rattle.nm_calls.specs.definitions.Answers.{Refusal, Statuses, Failed}
use Rattle.nm_passes.specs.definitions.Batch.{answers_in_order, by_place}
use Rattle.nm_calls.specs.definitions.Systems.{SystemState}
use Rattle.nm_calls.specs.definitions.Outcome.{refusal_of, leaves, start, state_before_runs, outcome, runs_of, accesses_asked, trail}
use Rattle.nm_calls.specs.definitions.Mbind.{checks_after_moves}
use Rattle.nm_calls.specs.definitions.Migrate.{migration}
use Rattle.nm_passes.specs.definitions.Permission.{owner_of, has_move_all}
use Rattle.nm_types.specs.declared.errno.Errno.TheVariants.{Eio, Ebusy}

-- the refusal that may come after a call's runs
abbrev pub late_refusal : Call → Option Errno
late_refusal (Mbind caller addr len mode nodes flags) = if checks_after_moves flags then Some Eio else None
late_refusal (Offline node) = Some Ebusy
late_refusal call = None

-- a call that is refused leaves the system as it was, except for EIO of mbind with MPOL_MF_STRICT and a flag to move,
-- and EBUSY of offline
abbrev pub RefusalsChangeNothing : Type 0
RefusalsChangeNothing =
    (y : SystemState) (call : Call) (e : Errno) → (outcome y call).answer ≡ Refusal e →
    ((outcome y call).system ≡ y) ⊎ (late_refusal call ≡ Some e)

-- move_pages, where it is not refused, is one batch under the limit of the system: what it answers, and the state after it
abbrev pub MovePagesIsABatch : Type 0
MovePagesIsABatch =
    (y : SystemState) (caller pid : ℕ) (pages nodes : List ℕ) (flags : ℕ) (during : List (ℕ × Access)) →
    let call = MovePages caller pid pages nodes flags during in
    refusal_of y.state call ≡ None →
    let made = batch y.run_limit y.state (requests_of (owner_of caller pid) (has_move_all flags) pages nodes) during in
    outcome y call ≡ leaves y (Statuses (batch_answer made) made.statuses (answers_in_order (keys_of during) made.answers)) made.state

-- so is migrate_pages, of the pages that it lists
abbrev pub MigrationIsABatch : Type 0
MigrationIsABatch =
    (y : SystemState) (caller pid : ℕ) (old new : List ℕ) →
    let call = MigratePages caller pid old new in
    refusal_of y.state call ≡ None →
    let made = batch y.run_limit y.state (migration y.state caller pid old new) [] in
    outcome y call ≡ leaves y (Failed (batch_answer made)) made.state

-- the state at index `n` of the trail is that after the first `n` runs, made one after another
abbrev pub TrailIsAfterRuns : Type 0
TrailIsAfterRuns =
    (y : SystemState) (call : Call) (n : ℕ) (d : State) → n ≤ length (runs_of y call) →
    let first = state_before_runs y call in
    slice_index_or (trail y call) n d ≡ (runs_from 0 first (take n (runs_of y call)) (accesses_asked call)).state

-- the answers to accesses in flight can be found by counting
abbrev pub AnswersGoByPlace : Type 0
AnswersGoByPlace =
    (runs : List ℕ) (answers : List (List AccessAnswer)) → answers_in_order runs answers ≡ by_place [] runs answers

-- if each access in flight names a run that is made, each is answered
abbrev pub EachAccessIsAnswered : Type 0
EachAccessIsAnswered =
    (y : SystemState) (caller pid : ℕ) (pages nodes : List ℕ) (flags : ℕ) (during : List (ℕ × Access)) →
    (failed : ℕ) (statuses : List ℤ) (answers : List AccessAnswer) →
    let call = MovePages caller pid pages nodes flags during in
    AllByRecursion (λ run. run < length (runs_of y call)) (keys_of during) →
    (outcome y call).answer ≡ Statuses failed statuses answers → length answers ≡ length during

-- a sound system stays sound, whatever call is made, and whether or not it is refused
abbrev pub CallsStaySound : Type 0
CallsStaySound = (y : SystemState) (call : Call) → IsSound y.state → IsSound (outcome y call).system.state

-- whether a call writes bytes of its own, or adds or removes areas
abbrev pub writes_or_maps : Call → Bool
writes_or_maps (MapPages pid addr pages shared) = true
writes_or_maps (Attach pid addr segment offset pages) = true
writes_or_maps (Unmap pid addr pages) = true
writes_or_maps (Exit pid) = true
writes_or_maps (WriteBytes pid addr bytes) = true
writes_or_maps call = false

-- the byte that a process has after some runs of a call: that of the last write in flight made there, or else the same
-- as before the call
abbrev pub byte_after : SystemState → Call → List Stretch → ℕ → ℕ → Option ℕ
byte_after y call runs q at =
    let made = runs_from 0 (start y call) runs (accesses_asked call) in
    runs_written y.state.areas q at (mem y.state q at) (accesses_asked call) 0 made.answers

-- every other call changes no byte of any process except by writes in flight ...
abbrev pub CallsKeepMemory : Type 0
CallsKeepMemory =
    (y : SystemState) (call : Call) (q at : ℕ) → IsSound y.state → writes_or_maps call ≡ false →
    mem (outcome y call).system.state q at ≡ byte_after y call (runs_of y call) q at

-- ... also in the states in which running out of host memory may leave it
abbrev pub TrailKeepsMemory : Type 0
TrailKeepsMemory =
    (y : SystemState) (call : Call) (n : ℕ) (d : State) (q at : ℕ) → IsSound y.state → writes_or_maps call ≡ false →
    n ≤ length (runs_of y call) →
    mem (slice_index_or (trail y call) n d) q at ≡ byte_after y call (take n (runs_of y call)) q at

-- and without accesses in flight it changes none
abbrev pub WithoutAccessesNone : Type 0
WithoutAccessesNone =
    (y : SystemState) (call : Call) (runs : List Stretch) (q at : ℕ) → accesses_asked call ≡ [] →
    byte_after y call runs q at ≡ mem y.state q at
