-- The outcome of a call: where it is refused, where it is not, and where the host has no memory for it.
use Rattle.std.proofs.Common.{◌≡◌, ℕ, suc, ◌≤◌, Bool, true, false, List, [], ◌∷◌, length, map, refl, sym, ap, subst, ◌∙◌, inl, inr, arith, slice_index_or, Option, Some, None, Result, Ok, Err}
use Rattle.std.specs.Prelude.{◌⊎◌, ◌<◌, ◌-◌, not, option_and_then}
use Rattle.std.specs.Option.{is_some, option_map}
use Rattle.std.specs.Result.{result_err, IsErr, IsErrAnd}
use Rattle.std.proofs.lemmas.Bool.{false≢true}
use Rattle.nm_types.specs.declared.errno.Errno.{Errno}
use Rattle.nm_types.specs.declared.errno.Errno.TheVariants.{Esrch}
use Rattle.nm_types.specs.declared.machine_error.MachineError.{MachineError}
use Rattle.nm_types.specs.declared.machine_error.MachineError.TheVariants as machine
use Rattle.nm_types.specs.declared.process.ProcessInfo.{ProcessInfo}
use Rattle.nm_types.specs.Does.{Returns, AsksLast}
use Rattle.nm_types.specs.Layout.{node_count}
use Rattle.nm_runs.specs.Targets.{earlier, first_refusal}
use Rattle.nm_types.specs.State.{State, Process}
use Rattle.nm_model.specs.definitions.Effect.{info_of, first_error}
use Rattle.nm_model.specs.definitions.Cut.{Stretch, requests_of}
use Rattle.nm_model.specs.definitions.Run.{runs_from}
use Rattle.nm_model.specs.definitions.Touch.{Access, touch, write, write_after}
use Rattle.nm_pool.specs.views.Accesses.{answer_shown}
use Rattle.nm_requests.specs.Calls.{Call, MovePages, MigratePages}
use Rattle.nm_passes.specs.declared.call_error.CallError.{CallError}
use Rattle.nm_passes.specs.declared.call_error.CallError.TheVariants.{Refused, HostMemory}
use Rattle.nm_passes.specs.declared.moved.Moved.{Moved}
use Rattle.nm_calls.specs.definitions.Answers.{Answer, Refusal, Done, Statuses, Failed}
use Rattle.nm_passes.specs.definitions.Permission.{owner_of, has_move_all, query_refusal, allowed_at}
use Rattle.nm_passes.specs.definitions.Batch.{move_refusal}
use Rattle.nm_calls.specs.definitions.Migrate.{migrate_refusal, migration}
use Rattle.nm_passes.specs.views.Errors.{out_of_memory, of_machine}
use Rattle.nm_calls.specs.definitions.Systems.{SystemState, in_state}
use Rattle.nm_calls.specs.definitions.Outcome.{Outcome, refusal_in, refusal_of, refused_at_once, start, sets_policy, runs_asked, runs_of, accesses_asked, end_of_call, outcome, trail, after_runs}
use Rattle.nm_passes.specs.definitions.Moves.{states_from}
use Rattle.nm_calls.specs.definitions.Does.{HostLeaves, Does}
use Rattle.nm_passes.specs.definitions.Moves.{Moves}
use Rattle.nm_calls.proofs.Trails.{runs_unless, state_unless}

-- what a call that runs out of host memory leaves
abbrev pub LeavesSome : SystemState → Call → ℕ → Bool → SystemState → Type 0
LeavesSome old call runs policy_set new =
    ((runs ≡ 0) × (policy_set ≡ false) × (new ≡ old))
    ⊎ ((runs < length (runs_of old call)) × (policy_set ≡ sets_policy call) × (new ≡ after_runs old call runs))

pub answers : (y : SystemState) (call : Call) (o : Outcome) → refusal_of y.state call ≡ None → end_of_call y call (runs_from 0 (start y call) (runs_asked y call) (accesses_asked call)) ≡ o → outcome y call ≡ o
answers y call o none is = rw none is

pub refuses : (y : SystemState) (call : Call) (e : Errno) → refusal_of y.state call ≡ Some e → outcome y call ≡ record { answer = Refusal e; system = y }
refuses y call e is = rw is refl

-- a write whose touch is not refused is not refused
pub write_goes : (s : State) (pid addr : ℕ) (bytes : List ℕ) → result_err (touch s pid addr (length bytes) true) ≡ None → refusal_in (write s pid addr bytes).answer ≡ None
write_goes s pid addr bytes h =
    elim (touch s pid addr (length bytes) true) as (λ t. result_err t ≡ None → refusal_in (write_after s pid addr bytes t).answer ≡ None) [
      | Ok t ↦ λ none. refl
      | Err e ↦ λ none. cc
    ] h

-- nothing has changed
pub unchanged : (y : SystemState) (call : Call) (runs : ℕ) (policy_set : Bool) (new : SystemState) → refused_at_once y.state call ≡ None → runs ≡ 0 → policy_set ≡ false → new ≡ y → HostLeaves y call runs policy_set new
unchanged y call runs policy_set new at_once none unset same = (at_once, inl (none, unset, same))

some_left : (y : SystemState) (call : Call) (rs : List Stretch) (runs : ℕ) (s : State) → refusal_of y.state call ≡ None → runs_asked y call ≡ rs → start y call ≡ y.state → sets_policy call ≡ false → runs ≤ length rs - 1 → s ≡ slice_index_or (states_from 0 y.state rs (accesses_asked call)) runs y.state → LeavesSome y call runs false (in_state y s)
some_left y call [] runs s none asked from unset few is =
    let zero_is : runs ≡ 0 = omega (arith, few) in
    inl (zero_is, refl, ap (in_state y) (is ∙ ap (λ n. slice_index_or (states_from 0 y.state [] (accesses_asked call)) n y.state) zero_is))
some_left y call (r ∷ rs) runs s none asked from unset few is =
    let n : length (runs_of y call) ≡ suc (length rs) = ap (λ o. length (runs_unless o (runs_asked y call))) none ∙ ap length asked in
    let during = accesses_asked call in
    let there : slice_index_or (states_from 0 y.state (r ∷ rs) during) runs y.state ≡ slice_index_or (trail y call) runs y.state =
    sym (ap (λ o. slice_index_or (states_from 0 (state_unless o y.state (start y call)) (runs_unless o (runs_asked y call)) during) runs y.state) none
    ∙ ap (λ s. slice_index_or (states_from 0 s (runs_asked y call) during) runs y.state) from ∙ ap (λ rs. slice_index_or (states_from 0 y.state rs during) runs y.state) asked) in
    inr (omega (arith, n, few), sym unset, ap (in_state y) (is ∙ there))

pub host_leaves : (y : SystemState) (call : Call) (runs : ℕ) (policy_set : Bool) (s : State) → refusal_of y.state call ≡ None → refused_at_once y.state call ≡ None → start y call ≡ y.state → sets_policy call ≡ false → policy_set ≡ false → runs ≤ length (runs_asked y call) - 1 → s ≡ slice_index_or (states_from 0 y.state (runs_asked y call) (accesses_asked call)) runs y.state → HostLeaves y call runs policy_set (in_state y s)
host_leaves y call runs policy_set s none at_once from unset given few is = (at_once, subst (λ b. LeavesSome y call runs b (in_state y s)) (sym given) (some_left y call (runs_asked y call) runs s none refl from unset few is))

-- the error that a question mark hands on
err_is : {T : Type 0} (r : Result T CallError) (e : CallError) → IsErr r × IsErrAnd r (λ x. x ≡ e) → r ≡ Err e
err_is (Ok value) e h = absurd (false≢true h.0)
err_is (Err x) e h = ap (λ (x : CallError). Err x) h.1

-- .. leaves what the call that returned it left
pub error_does : {T : Type 0} (to : T → Answer) (old new : SystemState) (call : Call) (e : CallError) (r : Result T CallError) → Does {T = Unit {0}} (λ done. Done) (Err e) old new call → IsErr r × IsErrAnd r (λ x. x ≡ e) → Does to r old new call
error_does to old new call e r does is = subst (λ r. Does to r old new call) (sym (err_is r e is)) does

-- .. as a refusal
pub refusal_does : {T : Type 0} (to : T → Answer) (old new : SystemState) (call : Call) (e : Errno) (r : Result T CallError) → outcome old call ≡ record { answer = Refusal e; system = new } → IsErr r × IsErrAnd r (λ x. x ≡ Refused e) → Does to r old new call
refusal_does to old new call e r does is = subst (λ r. Does to r old new call) (sym (err_is r (Refused e) is)) does

-- .. and is lack of memory where that was
pub lack_of : {T : Type 0} (r : Result T CallError) (e : CallError) (f : CallError) → IsErr r × IsErrAnd r (λ x. x ≡ e) → r ≡ Err f → e ≡ f
lack_of r e f is lack = let is_so : r ≡ Err e = err_is r e is in cc

-- a refusal is no lack of memory
pub no_lack : {T P : Type 0} (r : Result T CallError) (e : Errno) (runs : ℕ) (policy_set : Bool) → IsErr r × IsErrAnd r (λ x. x ≡ Refused e) → r ≡ Err (HostMemory runs policy_set) → P
no_lack r e runs policy_set is lack = let is_so : r ≡ Err (Refused e) = err_is r (Refused e) is in absurd (cc)

module _ {T : Type 0} (view : T → Answer) (y : SystemState) (call : Call) (r : Result T CallError) where
  -- a call that is refused
  pub refuses_by : (e : Errno) → refusal_of y.state call ≡ Some e → IsErr r × IsErrAnd r (λ x. x ≡ Refused e) → Does view r y y call
  refuses_by e h is = subst (λ r. Does view r y y call) (sym (err_is r (Refused e) is)) (refuses y call e h)

  -- the host has no memory before the first run
  pub out_at_once : refused_at_once y.state call ≡ None → IsErr r × IsErrAnd r (λ x. x ≡ out_of_memory 0) → Does view r y y call
  out_at_once none is = subst (λ r. Does view r y y call) (sym (err_is r (out_of_memory 0) is)) (none, inl (refl, refl, refl))

-- a call that only tells something, and is refused or without memory
pub returns_error : {S T : Type 0} (view : T → Answer) (y : SystemState) (call : Call) (r : Result T CallError) (e : MachineError) (Holds : S → Type 0) → refused_at_once y.state call ≡ refusal_of y.state call → Returns (Err e) (refusal_of y.state call) Holds → AsksLast {T = S} (Err e) (refusal_of y.state call)
    → IsErr r × IsErrAnd r (λ x. x ≡ of_machine e) → Does view r y y call
returns_error view y call r (machine.Refused e) Holds same is_so last is = refuses_by view y call r e is_so is
returns_error view y call r machine.HostMemory Holds same is_so last is = out_at_once view y call r (same ∙ last) is

-- the machine had no memory
pub machine_lacks : {T : Type 0} (r : Result T CallError) (e : MachineError) (runs : ℕ) (policy_set : Bool) → IsErr r × IsErrAnd r (λ x. x ≡ of_machine e) → r ≡ Err (HostMemory runs policy_set) → e ≡ machine.HostMemory
machine_lacks r (machine.Refused e) runs policy_set is lack = no_lack r e runs policy_set is lack
machine_lacks r machine.HostMemory runs policy_set is lack = refl

-- a process without information is unknown
pub unlisted : (o : Option Process) (info : Option ProcessInfo) (none : Bool) → info ≡ option_map info_of o → is_some info ≡ not none → first_error ((not (is_some o), Esrch) ∷ []) ≡ first_error ((none, Esrch) ∷ [])
unlisted None info true is at = refl
unlisted None info false is at = let there = ap is_some is in absurd (cc)
unlisted (Some p) info true is at = let there = ap is_some is in absurd (cc)
unlisted (Some p) info false is at = refl

module _ (s : State) (caller pid : ℕ) (nodes : List ℕ) (flags : ℕ) where
  -- a move by who may not act
  pub move_unasked : (e : Errno) → query_refusal s caller pid flags ≡ Some e → move_refusal s caller pid nodes flags ≡ Some e
  move_unasked e h = ap (λ o. earlier o (option_and_then (λ allowed. first_refusal (node_count s.layout) s.online allowed nodes) (allowed_at s (owner_of caller pid)))) h

  -- .. and otherwise to these nodes
  pub move_checked : (allowed : List ℕ) → query_refusal s caller pid flags ≡ None → allowed_at s (owner_of caller pid) ≡ Some allowed → move_refusal s caller pid nodes flags ≡ first_refusal (node_count s.layout) s.online allowed nodes
  move_checked allowed h is =
      ap (λ o. earlier o (option_and_then (λ allowed. first_refusal (node_count s.layout) s.online allowed nodes) (allowed_at s (owner_of caller pid)))) h
      ∙ ap (option_and_then (λ allowed. first_refusal (node_count s.layout) s.online allowed nodes)) is

-- a call that moves a batch
pub moves_does : {A : Type 0} (y : SystemState) (caller pid : ℕ) (pages nodes : List ℕ) (flags : ℕ) (during : List (ℕ × Access)) (r : Result (Moved A) CallError) (new : State) → move_refusal y.state caller pid nodes flags ≡ None
    → Moves r y.state new y.run_limit (requests_of (owner_of caller pid) (has_move_all flags) pages nodes) during → Does (λ moved. Statuses moved.failed moved.statuses.items (map answer_shown moved.answers.items)) r y (in_state y new) (MovePages caller pid pages nodes flags during)
unfolding refusal_of refused_at_once start sets_policy runs_asked accesses_asked end_of_call
moves_does y caller pid pages nodes flags during (Ok moved) new none m =
    answers y (MovePages caller pid pages nodes flags during) (record { answer = Statuses moved.failed moved.statuses.items (map answer_shown moved.answers.items); system = in_state y new }) none (rw (m.0, m.1, m.2, m.3) refl)
moves_does y caller pid pages nodes flags during (Err (Refused e)) new none m = absurd m
moves_does y caller pid pages nodes flags during (Err (HostMemory runs policy_set)) new none m =
    host_leaves y (MovePages caller pid pages nodes flags during) runs policy_set new none none refl refl m.0 m.1 m.2

-- a call that moves the pages of nodes
pub migrates_does : {A : Type 0} (y : SystemState) (caller pid : ℕ) (from to : List ℕ) (r : Result (Moved A) CallError) (new : State) → migrate_refusal y.state caller pid from to ≡ None → Moves r y.state new y.run_limit (migration y.state caller pid from to) []
    → Does (λ (moved : Moved A). Failed moved.failed) r y (in_state y new) (MigratePages caller pid from to)
unfolding refusal_of refused_at_once start sets_policy runs_asked accesses_asked end_of_call
migrates_does y caller pid from to (Ok moved) new none m = answers y (MigratePages caller pid from to) (record { answer = Failed moved.failed; system = in_state y new }) none (rw (m.1, m.3) refl)
migrates_does y caller pid from to (Err (Refused e)) new none m = absurd m
migrates_does y caller pid from to (Err (HostMemory runs policy_set)) new none m = host_leaves y (MigratePages caller pid from to) runs policy_set new none none refl refl m.0 m.1 m.2
