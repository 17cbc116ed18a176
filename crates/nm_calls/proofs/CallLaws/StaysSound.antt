-- A sound system stays sound, whatever call is made.
use Rattle.std.proofs.Common.{◌≡◌, ℕ, ◌+◌, ◌/◌, ◌<◌, Bool, true, false, List, [], ◌∷◌, refl, sym, ap, ◌∙◌, arith, if◌then◌else◌}
use Rattle.std.proofs.lemmas.Bool.{leb-false}
use Rattle.std.proofs.lemmas.List.Elements.{All-from_recursion, recursion_from_All, All-filter}
use Rattle.std.proofs.lemmas.List.Kept.{IsStrictlySortedBy-filter}
use Rattle.std.specs.BTreeSet.{insert_key}
use Rattle.std.specs.Cmp.{nat_cmp_is, ranked}
use Rattle.std.specs.List.{AllByRecursion}
use Rattle.std.specs.List.Sorted.{IsStrictlySortedBy}
use Rattle.std.specs.Ordering.{nat_cmp, match_ordering}
use Rattle.std.specs.declared.cmp.Ordering.TheVariants.{Less, Equal, Greater}
use Rattle.std.specs.Prelude.{Option, Some, None, nat_le, not, ◌==◌}
use Rattle.nm_types.specs.declared.errno.Errno.{Errno}
use Rattle.nm_types.specs.declared.errno.Errno.TheVariants.{Einval}
use Rattle.nm_types.specs.Layout.{node_count}
use Rattle.nm_types.specs.Nodes.{without_node}
use Rattle.nm_types.specs.State.{State}
use Rattle.nm_types.proofs.Cases.{some_none}
use Rattle.nm_model.specs.definitions.Cut.{Stretch}
use Rattle.nm_model.specs.definitions.Run.{accesses_of, runs_from}
use Rattle.nm_model.specs.definitions.Effect.{list_refusal, page_count, set_online}
use Rattle.nm_model.specs.definitions.Run.{RunResult, run}
use Rattle.nm_model.specs.definitions.Sound.{IsSound}
use Rattle.nm_model.specs.definitions.Touch.{Access, Read, Write}
use Rattle.nm_laws.proofs.Soundness.Called.{spawn_sound, map_sound, attach_sound, pin_sound, unpin_sound}
use Rattle.nm_laws.proofs.Soundness.Dropped.{unmap_sound, exit_sound}
use Rattle.nm_laws.proofs.Soundness.Online.{online_sound, changed_below}
use Rattle.nm_laws.proofs.Soundness.Policed.{policy_sound}
use Rattle.nm_laws.proofs.Soundness.Ran.{run_sound}
use Rattle.nm_laws.proofs.Soundness.Touched.{access_sound}
use Rattle.nm_requests.specs.Calls.{Call, Spawn, MapPages, Attach, Unmap, Exit, Pin, Unpin, ReadBytes, WriteBytes, MovePages, MigratePages, Query, FreeList, Pagemap, Vmstat, NumaMaps, Mbind, Offline, Online}
use Rattle.nm_calls.specs.definitions.Mbind.{binding}
use Rattle.nm_calls.specs.definitions.Offline.{still_on}
use Rattle.nm_calls.specs.definitions.Systems.{SystemState}
use Rattle.nm_calls.specs.definitions.Outcome.{refusal_of, start, runs_asked, accesses_asked, offline_outcome, end_of_call, unless}
use Rattle.nm_calls.specs.laws.Calls.{CallsStaySound}

-- ---- a node more, or one less

above : (k x : ℕ) (xs : List ℕ) → k < x → AllByRecursion (λ y. nat_cmp x y ≡ Less) xs → AllByRecursion (λ y. nat_cmp k y ≡ Less) xs
above k x [] low h = tt
above k x (y ∷ xs) low h =
    let higher : x < y = ranked x y Less (sym h.0) in (sym (nat_cmp_is k y Less (omega (arith, low, higher))), above k x xs low h.1)

inserted : (nodes : List ℕ) (k : ℕ) → IsStrictlySortedBy nat_cmp nodes → IsStrictlySortedBy nat_cmp (insert_key nat_cmp nodes k)
unfolding IsStrictlySortedBy
inserted [] k h = (tt, tt)
inserted (x ∷ xs) k h =
    elim (nat_cmp k x) as (λ r. nat_cmp k x ≡ r → IsStrictlySortedBy nat_cmp (match_ordering r (k ∷ x ∷ xs) (x ∷ xs) (x ∷ insert_key nat_cmp xs k))) [
      | Less ↦ λ e. ((e, above k x xs (ranked k x Less (sym e)) h.0), h)
      | Equal ↦ λ e. h
      | Greater ↦ λ e. (changed_below (λ y. nat_cmp x y ≡ Less) xs k true (sym (nat_cmp_is x k Less (ranked k x Greater (sym e)))) h.0, inserted xs k h.1)
    ] refl

added_sound : (s : State) (node : ℕ) → IsSound s → node < node_count s.layout → IsSound (set_online s node true)
added_sound s node h low =
    online_sound s [] (insert_key nat_cmp s.online node)
    (record {
      upwards = inserted s.online node h.online.upwards;
      below = changed_below (λ n. n < node_count s.layout) s.online node true low h.online.below;
    }) h

removed_sound : (s : State) (node : ℕ) → IsSound s → IsSound (set_online s node false)
removed_sound s node h =
    let P : ℕ → Type 0 = λ n. n < node_count s.layout in
    online_sound s [] (without_node s.online node)
    (record {
      upwards = IsStrictlySortedBy-filter nat_cmp (λ n. not (n == node)) s.online h.online.upwards;
      below = recursion_from_All P (without_node s.online node) (All-filter (λ n. not (n == node)) P s.online (All-from_recursion P s.online h.online.below));
    }) h

known_node : (s : State) (node : ℕ) → list_refusal s node ≡ None → node < node_count s.layout
known_node s node h =
    elim (nat_le (node_count s.layout) node) as (λ b. nat_le (node_count s.layout) node ≡ b → node < node_count s.layout) [
      | true ↦ λ b. absurd (let none : Some Einval ≡ None = sym (ap (λ c. if c then Some Einval else None) b) ∙ h in some_none none)
      | false ↦ λ b. leb-false (node_count s.layout) node b
    ] refl

-- ---- calls

pub runs_sound : (k : ℕ) (s : State) (runs : List Stretch) (accesses : List (ℕ × Access)) → IsSound s → IsSound (runs_from k s runs accesses).state
runs_sound k s [] accesses h = h
runs_sound k s (r ∷ runs) accesses h =
    runs_sound (k + 1) (run s r.target r.wanted (accesses_of k accesses)).state runs accesses (run_sound s r.target r.wanted (accesses_of k accesses) h)

module _ (y : SystemState) (h : IsSound y.state) where
  start_sound : (call : Call) → IsSound (start y call)
  unfolding start
  start_sound (Mbind caller addr len mode nodes flags) = policy_sound y.state [] caller (addr / 4096) (addr / 4096 + page_count len) (binding y.state caller addr len mode nodes).policy h
  start_sound call = h

  made_of : Call → RunResult
  made_of call = runs_from 0 (start y call) (runs_asked y call) (accesses_asked call)

  made_sound : (call : Call) → IsSound (made_of call).state
  unfolding made_of
  made_sound call = runs_sound 0 (start y call) (runs_asked y call) (accesses_asked call) (start_sound call)

  emptied_sound : (node : ℕ) (s : State) (stays : Bool) → IsSound s → IsSound (offline_outcome y node s stays).system.state
  emptied_sound node s true k = k
  emptied_sound node s false k = removed_sound s node k

  ended_sound : (call : Call) → refusal_of y.state call ≡ None → IsSound (end_of_call y call (made_of call)).system.state
  unfolding refusal_of end_of_call
  ended_sound (Spawn pid uid home allowed privileged) k = spawn_sound y.state pid uid home allowed privileged h k
  ended_sound (MapPages pid addr pages shared) k = map_sound y.state pid addr pages shared h k
  ended_sound (Attach pid addr segment offset pages) k = attach_sound y.state pid addr segment offset pages h k
  ended_sound (Unmap pid addr pages) k = unmap_sound y.state pid addr pages h
  ended_sound (Exit pid) k = exit_sound y.state h pid
  ended_sound (Pin pid addr) k = pin_sound y.state pid addr h k
  ended_sound (Unpin pid addr) k = unpin_sound y.state pid addr h
  ended_sound (ReadBytes pid addr len) k = access_sound y.state [] (Read pid addr len) h
  ended_sound (WriteBytes pid addr bytes) k = access_sound y.state [] (Write pid addr bytes) h
  ended_sound (MovePages caller pid pages nodes flags during) k = made_sound (MovePages caller pid pages nodes flags during)
  ended_sound (MigratePages caller pid old new) k = made_sound (MigratePages caller pid old new)
  ended_sound (Query caller pid pages flags) k = h
  ended_sound (Mbind caller addr len mode nodes flags) k = made_sound (Mbind caller addr len mode nodes flags)
  ended_sound (Offline node) k =
      let made = made_of (Offline node) in emptied_sound node made.state (still_on y.state made.state node) (made_sound (Offline node))
  ended_sound (Online node) k = added_sound y.state node h (known_node y.state node k)
  ended_sound (FreeList node) k = h
  ended_sound (Pagemap pid) k = h
  ended_sound Vmstat k = h
  ended_sound (NumaMaps pid) k = h

  call_sound : (call : Call) (o : Option Errno) → refusal_of y.state call ≡ o → IsSound (unless o y (end_of_call y call (made_of call))).system.state
  call_sound call (Some e) k = h
  call_sound call None k = ended_sound call k

pub calls_stay_sound : CallsStaySound
unfolding made_of
calls_stay_sound y call h = call_sound y h call (refusal_of y.state call) refl
