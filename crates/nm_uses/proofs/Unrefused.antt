-- The calls by which a page moves are not refused, and the page is then where it should be.
use Rattle.std.proofs.Common.{◌≡◌, ℕ, ℤ, List, [], ◌∷◌, Bool, true, false, Result, Ok, Err, OnOk, Some, sym, ap, subst, ◌∙◌, pos}
use Rattle.std.specs.Prelude.{IfErr}
use Rattle.nm_model.specs.definitions.Memory.{mem}
use Rattle.nm_model.specs.definitions.Status.{node_status}
use Rattle.nm_requests.specs.Calls.{Call}
use Rattle.nm_passes.specs.declared.call_error.CallError.{CallError}
use Rattle.nm_passes.specs.declared.call_error.CallError.TheVariants.{Refused, HostMemory}
use Rattle.nm_calls.specs.definitions.Answers.{Answer, Refusal, Done, Held, NewSegment, TheBytes, Statuses, Failed, Frames, Entries, TheTotals, Lines}
use Rattle.nm_calls.specs.definitions.Does.{Does}
use Rattle.nm_calls.specs.definitions.Outcome.{Outcome, outcome, refusal_of, end_of_call, runs_asked, accesses_asked, start}
use Rattle.nm_calls.specs.definitions.Systems.{SystemState, new_system}
use Rattle.nm_uses.specs.Moving.{asking, after_map, mapping, after_move, request_to_move, reading, after_spawn, spawning, nodes_to_use, after_write, writing, IsMemory}

abbrev is_refusal : Answer → Bool
is_refusal Done = false
is_refusal Held = false
is_refusal (NewSegment k) = false
is_refusal (TheBytes bytes) = false
is_refusal (Statuses failed statuses answers) = false
is_refusal (Failed k) = false
is_refusal (Frames frames) = false
is_refusal (Entries entries) = false
is_refusal (TheTotals after_move failed) = false
is_refusal (Lines lines) = false
is_refusal (Refusal e) = true

-- a call that is not refused fails only where the host is out of memory
memory_only : {T : Type 0} (view : T → Answer) (r : Result T CallError) (old new : SystemState) (call : Call)
    → is_refusal (outcome old call).answer ≡ false → Does view r old new call → IfErr r IsMemory
memory_only view (Ok x) old new call fine h = tt
memory_only view (Err (Refused e)) old new call fine h =
    let bad : true ≡ false = sym (ap (λ (o : Outcome). is_refusal o.answer) h) ∙ fine in absurd (cc)
memory_only view (Err (HostMemory runs set)) old new call fine h = tt

module _ {T : Type 0} (view : T → Answer) (r : Result T CallError) (old new : SystemState) (call : Call) (does : Does view r old new call) where
  pub spawn_memory : old ≡ new_system nodes_to_use → call ≡ spawning → IfErr r IsMemory
  unfolding refusal_of end_of_call runs_asked accesses_asked start
  spawn_memory from is = memory_only view r old new call (ap (λ (y : SystemState). is_refusal (outcome y call).answer) from ∙ ap (λ (k : Call). is_refusal (outcome (new_system nodes_to_use) k).answer) is) does

  pub map_memory : old ≡ after_spawn → call ≡ mapping → IfErr r IsMemory
  unfolding refusal_of end_of_call runs_asked accesses_asked start
  map_memory from is = memory_only view r old new call (ap (λ (y : SystemState). is_refusal (outcome y call).answer) from ∙ ap (λ (k : Call). is_refusal (outcome after_spawn k).answer) is) does

  pub write_memory : old ≡ after_map → call ≡ writing → IfErr r IsMemory
  unfolding refusal_of end_of_call runs_asked accesses_asked start
  write_memory from is = memory_only view r old new call (ap (λ (y : SystemState). is_refusal (outcome y call).answer) from ∙ ap (λ (k : Call). is_refusal (outcome after_map k).answer) is) does

  pub move_memory : old ≡ after_write → call ≡ request_to_move → IfErr r IsMemory
  unfolding refusal_of end_of_call runs_asked accesses_asked start
  move_memory from is = memory_only view r old new call (ap (λ (y : SystemState). is_refusal (outcome y call).answer) from ∙ ap (λ (k : Call). is_refusal (outcome after_write k).answer) is) does

  pub query_memory : old ≡ after_move → call ≡ asking → IfErr r IsMemory
  unfolding refusal_of end_of_call runs_asked accesses_asked start
  query_memory from is = memory_only view r old new call (ap (λ (y : SystemState). is_refusal (outcome y call).answer) from ∙ ap (λ (k : Call). is_refusal (outcome after_move k).answer) is) does

  pub read_memory : old ≡ after_move → call ≡ reading → IfErr r IsMemory
  unfolding refusal_of end_of_call runs_asked accesses_asked start
  read_memory from is = memory_only view r old new call (ap (λ (y : SystemState). is_refusal (outcome y call).answer) from ∙ ap (λ (k : Call). is_refusal (outcome after_move k).answer) is) does

-- the page is on node 1, and reads as before
pub on_its_node : {E : Type 0} (r : Result (Unit {0}) E) (new : SystemState) → OnOk r (new ≡ after_move) → OnOk r (node_status new.state 1 16 ≡ pos 1)
unfolding refusal_of end_of_call runs_asked accesses_asked start
on_its_node (Ok done) new is = ap (λ (y : SystemState). node_status y.state 1 16) is
on_its_node (Err e) new is = tt

pub with_its_byte : {E : Type 0} (r : Result (Unit {0}) E) (new : SystemState) → OnOk r (new ≡ after_move) → OnOk r (mem new.state 1 65536 ≡ Some 97)
unfolding refusal_of end_of_call runs_asked accesses_asked start
with_its_byte (Ok done) new is = ap (λ (y : SystemState). mem y.state 1 65536) is
with_its_byte (Err e) new is = tt

-- what a look finds
abbrev statuses_in : Answer → List ℤ
statuses_in (Statuses failed statuses answers) = statuses
statuses_in answer = []

abbrev bytes_in : Answer → List ℕ
bytes_in (TheBytes bytes) = bytes
bytes_in answer = []

module _ (old new : SystemState) (call : Call) (from : old ≡ after_move) where
  pub status_found : (xs : List ℤ) → call ≡ asking → outcome old call ≡ record { answer = Statuses 0 xs []; system = new } → xs ≡ pos 1 ∷ []
  unfolding refusal_of end_of_call runs_asked accesses_asked start
  status_found xs is h =
      sym (ap (λ (o : Outcome). statuses_in o.answer) h)
      ∙ ap (λ (y : SystemState). statuses_in (outcome y call).answer) from
      ∙ ap (λ (k : Call). statuses_in (outcome after_move k).answer) is

  pub byte_found : (xs : List ℕ) → call ≡ reading → outcome old call ≡ record { answer = TheBytes xs; system = new } → xs ≡ 97 ∷ []
  unfolding refusal_of end_of_call runs_asked accesses_asked start
  byte_found xs is h =
      sym (ap (λ (o : Outcome). bytes_in o.answer) h)
      ∙ ap (λ (y : SystemState). bytes_in (outcome y call).answer) from
      ∙ ap (λ (k : Call). bytes_in (outcome after_move k).answer) is

-- an error that is handed on
pub handed_on : {T U : Type 0} (r : Result T CallError) (s : Result U CallError) (e : CallError) → r ≡ Err e → s ≡ Err e → IfErr r IsMemory → IfErr s IsMemory
handed_on r s e is it h = subst (λ (x : Result _ CallError). IfErr x IsMemory) (sym it) (subst (λ (x : Result _ CallError). IfErr x IsMemory) is h)
