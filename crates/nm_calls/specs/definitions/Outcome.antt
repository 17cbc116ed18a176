-- Which calls are refused, the answers of the others, and the state after each, also if the host runs out of memory.
use Rattle.std.specs.Prelude.{ℕ, ℤ, ◌/◌, Bool, true, false, ◌&&◌, if◌then◌else◌, List, [], map, slice_index_or, Option, Some, None}
use Rattle.std.specs.Map.{keys_of}
use Rattle.std.specs.Option.{is_some}
use Rattle.nm_types.specs.declared.errno.Errno.{Errno}
use Rattle.nm_types.specs.State.{State, free_list}
use Rattle.nm_model.specs.definitions.Cut.{Stretch, cut_within, requests_of}
use Rattle.nm_model.specs.definitions.Touch.{Access, read, write, site_refusal}
use Rattle.nm_model.specs.definitions.Touch as engine
use Rattle.nm_model.specs.definitions.Effect.{set_online, spawn, map_new, attach, unmap, exit, pin, unpin, spawn_refusal, map_refusal, attach_refusal, unmap_refusal, exit_refusal, pin_refusal, unpin_refusal, list_refusal, entries_refusal}
use Rattle.nm_model.specs.definitions.Run.{RunResult, failures, runs_from}
use Rattle.nm_model.specs.definitions.Status.{node_status}
use Rattle.nm_requests.specs.Calls.{Call, Spawn, MapPages, Attach, Unmap, Exit, Pin, Unpin, ReadBytes, WriteBytes, MovePages, MigratePages, Query, FreeList, Pagemap, Vmstat, NumaMaps, Mbind, Offline, Online}
use Rattle.nm_calls.specs.definitions.Answers.{Answer, Refusal, Done, Held, NewSegment, TheBytes, Statuses, Failed, Frames, Entries, TheTotals, Lines}
use Rattle.nm_calls.specs.definitions.Entries.{pagemap}
use Rattle.nm_calls.specs.definitions.Maps.{numa_maps}
use Rattle.nm_passes.specs.definitions.Permission.{query_refusal, has_move_all, owner_of}
use Rattle.nm_types.specs.declared.errno.Errno.TheVariants.{Eio, Ebusy}
use Rattle.nm_passes.specs.definitions.Batch.{move_refusal, answers_in_order}
use Rattle.nm_calls.specs.definitions.Migrate.{migrate_refusal, migration}
use Rattle.nm_calls.specs.definitions.Mbind.{mbind_refusal, with_binding, binding, mbind_runs, has_stray, checks_after_moves}
use Rattle.nm_calls.specs.definitions.Offline.{offline_refusal, offline_runs, still_on}
use Rattle.nm_calls.specs.definitions.Systems.{SystemState, in_state}
use Rattle.nm_passes.specs.definitions.Moves.{states_from}

-- why an access is refused, if it is
abbrev pub refusal_in : engine.AccessAnswer → Option Errno
refusal_in (engine.Refused e) = Some e
refusal_in answer = None

-- the answer to an access
abbrev pub access_answer : engine.AccessAnswer → Answer
access_answer (engine.Bytes bytes) = TheBytes bytes
access_answer engine.Done = Done
access_answer engine.Held = Held
access_answer (engine.Refused e) = Refusal e

-- where the pages at these addresses of a process are
abbrev pub statuses_of : State → ℕ → List ℕ → List ℤ
statuses_of s pid addresses = map (λ address. node_status s pid (address / 4096)) addresses

-- the error with which a call is refused before it changes anything, if it is
unfoldable pub refusal_of : State → Call → Option Errno
refusal_of s (Spawn pid uid home allowed privileged) = spawn_refusal s pid home allowed
refusal_of s (MapPages pid addr pages shared) = map_refusal s pid addr pages
refusal_of s (Attach pid addr segment offset pages) = attach_refusal s pid addr segment offset pages
refusal_of s (Unmap pid addr pages) = unmap_refusal s pid addr pages
refusal_of s (Exit pid) = exit_refusal s pid
refusal_of s (Pin pid addr) = pin_refusal s pid addr
refusal_of s (Unpin pid addr) = unpin_refusal s pid addr
refusal_of s (ReadBytes pid addr len) = refusal_in (read s pid addr len).answer
refusal_of s (WriteBytes pid addr bytes) = refusal_in (write s pid addr bytes).answer
refusal_of s (MovePages caller pid pages nodes flags during) = move_refusal s caller pid nodes flags
refusal_of s (MigratePages caller pid old new) = migrate_refusal s caller pid old new
refusal_of s (Query caller pid pages flags) = query_refusal s caller pid flags
refusal_of s (Mbind caller addr len mode nodes flags) = mbind_refusal s caller addr len mode nodes flags
refusal_of s (Offline node) = offline_refusal s node
refusal_of s (Online node) = list_refusal s node
refusal_of s (FreeList node) = list_refusal s node
refusal_of s (Pagemap pid) = entries_refusal s pid
refusal_of s Vmstat = None
refusal_of s (NumaMaps pid) = entries_refusal s pid

-- the refusals that a call checks before it allocates: all except the lack of a free frame for a read
unfoldable pub refused_at_once : State → Call → Option Errno
refused_at_once s (ReadBytes pid addr len) = site_refusal s pid addr len
refused_at_once s call = refusal_of s call

-- the state before the first run of a call that is not refused, with the policy of mbind set
unfoldable pub start : SystemState → Call → State
start y (Mbind caller addr len mode nodes flags) = with_binding y.state caller addr len mode nodes
start y call = y.state

-- whether a call sets a policy
unfoldable pub sets_policy : Call → Bool
sets_policy (Mbind caller addr len mode nodes flags) = true
sets_policy call = false

-- the runs that a call makes if it is not refused; none if it moves no pages
unfoldable pub runs_asked : SystemState → Call → List Stretch
runs_asked y (MovePages caller pid pages nodes flags during) =
    cut_within y.run_limit (requests_of (owner_of caller pid) (has_move_all flags) pages nodes)
runs_asked y (MigratePages caller pid old new) = cut_within y.run_limit (migration y.state caller pid old new)
runs_asked y (Mbind caller addr len mode nodes flags) =
    let set = with_binding y.state caller addr len mode nodes in
    mbind_runs y.run_limit set (binding y.state caller addr len mode nodes) flags
runs_asked y (Offline node) = offline_runs y.run_limit y.state node
runs_asked y call = []

-- the accesses made while pages move, each with the number of its run
unfoldable pub accesses_asked : Call → List (ℕ × Access)
accesses_asked (MovePages caller pid pages nodes flags during) = during
accesses_asked call = []

-- an answer, and the system after the call
pub record Outcome : Type 0 where
  pub answer : Answer
  pub system : SystemState

-- an answer, and the system in this state
abbrev pub leaves : SystemState → Answer → State → Outcome
leaves y answer s = record { answer = answer; system = in_state y s }

-- a node that a page stays on is still online; otherwise it is offline
abbrev pub offline_outcome : SystemState → ℕ → State → Bool → Outcome
offline_outcome y node s stays = if stays then leaves y (Refusal Ebusy) s else leaves y Done (set_online s node false)

-- the answer after the runs of a call that is not refused before them, and the system then: mbind reports a page that
-- does not follow its policy, and offline a page that stays, and the moves remain
unfoldable pub end_of_call : SystemState → Call → RunResult → Outcome
end_of_call y (Spawn pid uid home allowed privileged) made = leaves y Done (spawn y.state pid uid home allowed privileged)
end_of_call y (MapPages pid addr pages shared) made =
    leaves y (NewSegment y.state.next_segment) (map_new y.state pid addr pages shared)
end_of_call y (Attach pid addr segment offset pages) made = leaves y Done (attach y.state pid addr segment offset pages)
end_of_call y (Unmap pid addr pages) made = leaves y Done (unmap y.state pid addr pages)
end_of_call y (Exit pid) made = leaves y Done (exit y.state pid)
end_of_call y (Pin pid addr) made = leaves y Done (pin y.state pid addr)
end_of_call y (Unpin pid addr) made = leaves y Done (unpin y.state pid addr)
end_of_call y (ReadBytes pid addr len) made =
    let access = read y.state pid addr len in leaves y (access_answer access.answer) access.state
end_of_call y (WriteBytes pid addr bytes) made =
    let access = write y.state pid addr bytes in leaves y (access_answer access.answer) access.state
end_of_call y (MovePages caller pid pages nodes flags during) made =
    leaves y (Statuses (failures made.statuses) made.statuses (answers_in_order (keys_of during) made.answers)) made.state
end_of_call y (MigratePages caller pid old new) made = leaves y (Failed (failures made.statuses)) made.state
end_of_call y (Query caller pid pages flags) made =
    leaves y (Statuses 0 (statuses_of y.state (owner_of caller pid) pages) []) y.state
end_of_call y (Mbind caller addr len mode nodes flags) made =
    let strays = has_stray y.state made.state (binding y.state caller addr len mode nodes) in
    leaves y (if checks_after_moves flags && strays then Refusal Eio else Failed 0) made.state
end_of_call y (Offline node) made = offline_outcome y node made.state (still_on y.state made.state node)
end_of_call y (Online node) made = leaves y Done (set_online y.state node true)
end_of_call y (FreeList node) made = leaves y (Frames (free_list y.state node)) y.state
end_of_call y (Pagemap pid) made = leaves y (Entries (pagemap y.state pid)) y.state
end_of_call y Vmstat made = leaves y (TheTotals y.state.moved y.state.failed) y.state
end_of_call y (NumaMaps pid) made = leaves y (Lines (numa_maps y.state pid)) y.state

-- the refusal, with the system as it was; or this outcome if there is no refusal
abbrev pub unless : Option Errno → SystemState → Outcome → Outcome
unless (Some e) y o = record { answer = Refusal e; system = y }
unless None y o = o

-- the answer of a call, and the system after it; a call refused before its runs changes nothing
abbrev pub outcome : SystemState → Call → Outcome
outcome y call =
    let made = runs_from 0 (start y call) (runs_asked y call) (accesses_asked call) in
    unless (refusal_of y.state call) y (end_of_call y call made)

-- the runs of a call; none if it is refused
abbrev pub runs_of : SystemState → Call → List Stretch
runs_of y call = if is_some (refusal_of y.state call) then [] else runs_asked y call

-- the state before the first run of a call, with the policy of mbind set; as it was if the call is refused
abbrev pub state_before_runs : SystemState → Call → State
state_before_runs y call = if is_some (refusal_of y.state call) then y.state else start y call

-- the trail of a call: the states from before its first run, with the policy set, to after its last
abbrev pub trail : SystemState → Call → List State
trail y call = states_from 0 (state_before_runs y call) (runs_of y call) (accesses_asked call)

-- the system after the first `runs` runs of a call
abbrev pub after_runs : SystemState → Call → ℕ → SystemState
after_runs y call runs = in_state y (slice_index_or (trail y call) runs y.state)
