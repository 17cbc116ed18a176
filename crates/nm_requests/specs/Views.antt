-- Calls of the code, as the definitions have them.
use Rattle.std.specs.Prelude.{ℕ, List, map}
use Rattle.nm_model.specs.definitions.Touch.{Access}
use Rattle.nm_model.specs.views.Asked.{access_shown}
use Rattle.nm_requests.specs.declared.call.Attachment.{Attachment}
use Rattle.nm_requests.specs.declared.call.InFlight.{InFlight}
use Rattle.nm_requests.specs.declared.call.MbindRequest.{MbindRequest}
use Rattle.nm_requests.specs.declared.call.MigrateRequest.{MigrateRequest}
use Rattle.nm_requests.specs.declared.call.MoveRequest.{MoveRequest}
use Rattle.nm_requests.specs.declared.call.NewArea.{NewArea}
use Rattle.nm_requests.specs.declared.call.NewProcess.{NewProcess}
use Rattle.nm_requests.specs.declared.call.Question.{Question}
use Rattle.nm_requests.specs.declared.call.Call as values
use Rattle.nm_requests.specs.declared.call.Call.TheVariants as call
use Rattle.nm_requests.specs.Calls.{Call, Spawn, MapPages, Attach, Unmap, Exit, Pin, Unpin, ReadBytes, WriteBytes, MovePages, MigratePages, Mbind, Offline, Online, Query, FreeList, Pagemap, Vmstat, NumaMaps}

-- accesses, each with the number of the run in which it is made
abbrev pub shown_during : {A : Type 0} → List (InFlight A) → List (ℕ × Access)
shown_during during = map (λ d. (d.run, access_shown d.access)) during

-- ---- the call that each request is

abbrev pub spawn_call : NewProcess → Call
spawn_call process = Spawn process.pid process.uid process.home process.allowed process.privileged

abbrev pub map_call : NewArea → Call
map_call area = MapPages area.pid area.addr area.pages area.shared

abbrev pub attach_call : Attachment → Call
attach_call area = Attach area.pid area.addr area.segment area.offset area.pages

abbrev pub move_call : {A : Type 0} → MoveRequest A → Call
move_call request =
    MovePages request.caller request.pid request.batch.pages.items request.batch.nodes.items request.flags
    (shown_during request.during.items)

abbrev pub migrate_call : MigrateRequest → Call
migrate_call request = MigratePages request.caller request.pid request.old request.new

abbrev pub mbind_call : MbindRequest → Call
mbind_call request = Mbind request.caller request.addr request.len request.mode request.nodes request.flags

abbrev pub query_call : {A : Type 0} → Question A → Call
query_call question = Query question.caller question.pid question.pages.items question.flags

-- a call, as the definitions have it
abbrev pub call_of : {A : Type 0} → values.Call A → Call
call_of (call.Spawn process) = spawn_call process
call_of (call.Map area) = map_call area
call_of (call.Attach area) = attach_call area
call_of (call.Unmap pid addr pages) = Unmap pid addr pages
call_of (call.Exit pid) = Exit pid
call_of (call.Pin pid addr) = Pin pid addr
call_of (call.Unpin pid addr) = Unpin pid addr
call_of (call.Read pid addr len) = ReadBytes pid addr len
call_of (call.Write pid addr bytes) = WriteBytes pid addr bytes.items
call_of (call.MovePages request) = move_call request
call_of (call.MigratePages request) = migrate_call request
call_of (call.Mbind request) = mbind_call request
call_of (call.Offline node) = Offline node
call_of (call.Online node) = Online node
call_of (call.Query question) = query_call question
call_of (call.FreeList node) = FreeList node
call_of (call.Pagemap pid) = Pagemap pid
call_of call.Vmstat = Vmstat
call_of (call.NumaMaps pid) = NumaMaps pid
