-- A call that neither writes nor adds or removes areas changes no byte of any process except by writes in flight.
use Rattle.std.proofs.Common.{◌≡◌, ℕ, zero, suc, ◌+◌, ◌-◌, ◌/◌, Bool, true, false, List, [], ◌∷◌, take, refl, sym, ap, ◌∙◌}
use Rattle.std.specs.Prelude.{Option, Some, None}
use Rattle.nm_types.specs.declared.area.Area.{Area}
use Rattle.nm_types.specs.declared.errno.Errno.{Errno}
use Rattle.nm_types.specs.declared.sight.Sight.{Sight}
use Rattle.nm_types.specs.declared.sight.Sight.TheVariants.{ZeroPage, Sees}
use Rattle.nm_types.specs.Map.{Map}
use Rattle.nm_types.specs.State.{State}
use Rattle.nm_model.specs.definitions.Cut.{Stretch}
use Rattle.nm_model.specs.definitions.Seen.{sight_at}
use Rattle.nm_model.specs.definitions.Memory.{mem}
use Rattle.nm_model.specs.definitions.Touch.{Access, AccessAnswer}
use Rattle.nm_model.specs.definitions.Effect.{page_count, with_pins}
use Rattle.nm_model.specs.definitions.Run.{RunResult}
use Rattle.nm_model.specs.definitions.Run.{runs_from}
use Rattle.nm_model.specs.definitions.Sound.{IsSound}
use Rattle.nm_laws.specs.Laws.{runs_written}
use Rattle.nm_laws.proofs.OneByOne.Memory.{runs_keep}
use Rattle.nm_laws.proofs.Seen.Rewritten.{runs_write}
use Rattle.nm_laws.proofs.Soundness.Policed.{policy_keeps}
use Rattle.nm_laws.proofs.Soundness.Touched.{reading_keeps}
use Rattle.nm_requests.specs.Calls.{Call, Spawn, MapPages, Attach, Unmap, Exit, Pin, Unpin, ReadBytes, WriteBytes, MovePages, MigratePages, Query, FreeList, Pagemap, Vmstat, NumaMaps, Mbind, Offline, Online}
use Rattle.nm_calls.specs.definitions.Mbind.{binding, with_binding}
use Rattle.nm_calls.specs.definitions.Offline.{still_on}
use Rattle.nm_calls.specs.definitions.Systems.{SystemState}
use Rattle.nm_calls.specs.definitions.Outcome.{refusal_of, start, runs_asked, accesses_asked, offline_outcome, end_of_call, unless}
use Rattle.nm_calls.specs.laws.Calls.{writes_or_maps, CallsKeepMemory, TrailKeepsMemory, WithoutAccessesNone}
use Rattle.nm_calls.proofs.Trails.{trail_is_after_runs, runs_unless, state_unless}

-- where no access is made, none is written
none_written : (areas : Map (ℕ × ℕ) Area) (q at : ℕ) (byte : Option ℕ) (k : ℕ) (answers : List (List AccessAnswer)) → runs_written areas q at byte [] k answers ≡ byte
none_written areas q at byte k [] = refl
none_written areas q at byte k (some ∷ answers) = none_written areas q at byte (k + 1) answers

none_taken : (n : ℕ) → let none : List Stretch = [] in take n none ≡ none
none_taken zero = refl
none_taken (suc n) = refl

module _ (y : SystemState) (q at : ℕ) where
  -- runs from a state with the bytes of the call's start
  Writes : State → List Stretch → List (ℕ × Access) → Type 0
  Writes s runs accesses = mem (runs_from 0 s runs accesses).state q at ≡ runs_written y.state.areas q at (mem y.state q at) accesses 0 (runs_from 0 s runs accesses).answers

  quiet : (s : State) (runs : List Stretch) → mem s q at ≡ mem y.state q at → Writes s runs []
  unfolding Writes
  quiet s runs same = runs_keep 0 s runs q at ∙ (same ∙ sym (none_written y.state.areas q at (mem y.state q at) 0 (runs_from 0 s runs []).answers))

  runs_kept : (call : Call) (runs : List Stretch) → IsSound y.state → writes_or_maps call ≡ false → Writes (start y call) runs (accesses_asked call)
  unfolding Writes start accesses_asked
  runs_kept (Spawn pid uid home allowed privileged) runs h k = quiet y.state runs refl
  runs_kept (MapPages pid addr pages shared) runs h k = cc
  runs_kept (Attach pid addr segment offset pages) runs h k = cc
  runs_kept (Unmap pid addr pages) runs h k = cc
  runs_kept (Exit pid) runs h k = cc
  runs_kept (Pin pid addr) runs h k = quiet y.state runs refl
  runs_kept (Unpin pid addr) runs h k = quiet y.state runs refl
  runs_kept (ReadBytes pid addr len) runs h k = quiet y.state runs refl
  runs_kept (WriteBytes pid addr bytes) runs h k = cc
  runs_kept (MovePages caller pid pages nodes flags during) runs h k = runs_write y.state runs during q at h
  runs_kept (MigratePages caller pid old new) runs h k = quiet y.state runs refl
  runs_kept (Query caller pid pages flags) runs h k = quiet y.state runs refl
  runs_kept (Mbind caller addr len mode nodes flags) runs h k =
      quiet (with_binding y.state caller addr len mode nodes) runs (policy_keeps y.state [] caller (addr / 4096) (addr / 4096 + page_count len) (binding y.state caller addr len mode nodes).policy q at h)
  runs_kept (Offline node) runs h k = quiet y.state runs refl
  runs_kept (Online node) runs h k = quiet y.state runs refl
  runs_kept (FreeList node) runs h k = quiet y.state runs refl
  runs_kept (Pagemap pid) runs h k = quiet y.state runs refl
  runs_kept Vmstat runs h k = quiet y.state runs refl
  runs_kept (NumaMaps pid) runs h k = quiet y.state runs refl

  -- runs that are asked for, and made where the call is not refused
  made_of : Call → RunResult
  made_of call = runs_from 0 (start y call) (runs_asked y call) (accesses_asked call)

  emptied_kept : (node : ℕ) (s : State) (stays : Bool) → mem (offline_outcome y node s stays).system.state q at ≡ mem s q at
  emptied_kept node s true = refl
  emptied_kept node s false = refl

  pins_kept : (s : State) (f : ℕ → ℕ) (o : Option Sight) → mem (with_pins s o f) q at ≡ mem s q at
  pins_kept s f None = refl
  pins_kept s f (Some ZeroPage) = refl
  pins_kept s f (Some (Sees page)) = refl

  -- what comes after the runs changes no byte
  ended_kept : (call : Call) → IsSound y.state → writes_or_maps call ≡ false → mem (end_of_call y call (made_of call)).system.state q at ≡ mem (made_of call).state q at
  unfolding made_of start runs_asked accesses_asked end_of_call
  ended_kept (Spawn pid uid home allowed privileged) h k = refl
  ended_kept (MapPages pid addr pages shared) h k = cc
  ended_kept (Attach pid addr segment offset pages) h k = cc
  ended_kept (Unmap pid addr pages) h k = cc
  ended_kept (Exit pid) h k = cc
  ended_kept (Pin pid addr) h k = pins_kept y.state (λ n. n + 1) (sight_at y.state pid (addr / 4096))
  ended_kept (Unpin pid addr) h k = pins_kept y.state (λ n. n - 1) (sight_at y.state pid (addr / 4096))
  ended_kept (ReadBytes pid addr len) h k = reading_keeps y.state [] pid addr len h q at
  ended_kept (WriteBytes pid addr bytes) h k = cc
  ended_kept (MovePages caller pid pages nodes flags during) h k = refl
  ended_kept (MigratePages caller pid old new) h k = refl
  ended_kept (Query caller pid pages flags) h k = refl
  ended_kept (Mbind caller addr len mode nodes flags) h k = refl
  ended_kept (Offline node) h k = let made = made_of (Offline node) in emptied_kept node made.state (still_on y.state made.state node)
  ended_kept (Online node) h k = refl
  ended_kept (FreeList node) h k = refl
  ended_kept (Pagemap pid) h k = refl
  ended_kept Vmstat h k = refl
  ended_kept (NumaMaps pid) h k = refl

  call_kept : (call : Call) (o : Option Errno) → IsSound y.state → writes_or_maps call ≡ false → mem (unless o y (end_of_call y call (made_of call))).system.state q at ≡ runs_written y.state.areas q at (mem y.state q at) (accesses_asked call) 0 (runs_from 0 (start y call) (runs_unless o (runs_asked y call)) (accesses_asked call)).answers
  unfolding Writes made_of
  call_kept call (Some e) h k = refl
  call_kept call None h k = ended_kept call h k ∙ runs_kept call (runs_asked y call) h k

  way_kept : (call : Call) (n : ℕ) (o : Option Errno) (runs : List Stretch) → IsSound y.state → writes_or_maps call ≡ false → mem (runs_from 0 (state_unless o y.state (start y call)) (take n (runs_unless o runs)) (accesses_asked call)).state q at ≡ runs_written y.state.areas q at (mem y.state q at) (accesses_asked call) 0 (runs_from 0 (start y call) (take n (runs_unless o runs)) (accesses_asked call)).answers
  unfolding Writes
  way_kept call n (Some e) runs h k = ap (λ rs. mem (runs_from 0 y.state rs (accesses_asked call)).state q at) (none_taken n) ∙ sym (ap (λ rs. runs_written y.state.areas q at (mem y.state q at) (accesses_asked call) 0 (runs_from 0 (start y call) rs (accesses_asked call)).answers) (none_taken n))
  way_kept call n None runs h k = runs_kept call (take n runs) h k

pub calls_keep_memory : CallsKeepMemory
unfolding made_of
calls_keep_memory y call q at h k = call_kept y q at call (refusal_of y.state call) h k

pub trail_keeps_memory : TrailKeepsMemory
trail_keeps_memory y call n d q at h k few =
    ap (λ s. mem s q at) (trail_is_after_runs y call n d few) ∙ way_kept y q at call n (refusal_of y.state call) (runs_asked y call) h k

pub without_accesses : WithoutAccessesNone
without_accesses y call runs q at none =
    let first = start y call in
    ap (λ accesses. runs_written y.state.areas q at (mem y.state q at) accesses 0 (runs_from 0 first runs accesses).answers) none
    ∙ none_written y.state.areas q at (mem y.state q at) 0 (runs_from 0 first runs []).answers
