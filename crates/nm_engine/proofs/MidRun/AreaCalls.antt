-- What the calls that change processes and areas keep of the parts of a machine.
use Rattle.std.proofs.Common.{◌≡◌, ℕ, zero, suc, ◌+◌, ◌<◌, ◌≤◌, List, [], ◌∷◌, Bool, true, false, refl, sym, ap, subst, ◌∙◌, arith}
use Rattle.std.specs.Prelude.{Option, Some, None, IsTrue, nat_le, not, length, ◌||◌, ◌==◌, if◌then◌else◌}
use Rattle.std.specs.Option.{is_some, option_map}
use Rattle.std.specs.List.{list_any}
use Rattle.std.proofs.lemmas.Bool.{false≢true, false_from_ne_true, eqb-true, lt-leb, le-leb}
use Rattle.std.specs.Ordering.{nat_cmp, match_ordering}
use Rattle.std.specs.declared.cmp.Ordering.TheVariants.{Greater}
use Rattle.std.specs.Cmp.{nat_cmp_is}
use Rattle.std.specs.BTreeSet.{insert_key}
use Rattle.nm_types.specs.declared.errno.Errno.TheVariants.{Einval, Enomem}
use Rattle.nm_types.specs.Map.{Map, get, set}
use Rattle.nm_types.specs.Layout.{Layout, node_count, frame_count}
use Rattle.nm_types.specs.Nodes.{up_from}
use Rattle.nm_types.specs.State.{Process, State}
use Rattle.nm_types.proofs.Cases.{true_false}
use Rattle.nm_model.specs.definitions.Frames.{all_frames}
use Rattle.nm_model.specs.definitions.Effect.{spawn, new_machine}
use Rattle.nm_model.specs.definitions.Effect.{first_error, is_unknown, spawn_refusal, list_refusal}
use Rattle.nm_types.specs.declared.process.ProcessInfo.{ProcessInfo}
use Rattle.nm_model.specs.definitions.Sound.{IsSoundInFlight, IsSound}
use Rattle.nm_model.specs.views.Table.{Table}
use Rattle.nm_pool.specs.views.Frames.{FramesView}
use Rattle.nm_engine.specs.views.Shown.{PagedFrames}
use Rattle.nm_spaces.specs.views.AddressSpaces.{AddressSpacesView, no_spaces}
use Rattle.nm_engine.specs.views.Shown.{state_of_parts, shown_by}
use Rattle.nm_engine.specs.views.RunState.{IsSoundMachine}
use Rattle.nm_model.specs.definitions.Effect.{info_of}
use Rattle.nm_laws.proofs.Soundness.Called.{spawn_sound}
use Rattle.nm_laws.proofs.Soundness.New.{new_sound}

-- the next number goes to the end
pub insert_next : (k n m : ℕ) → m ≡ n + k → insert_key nat_cmp (up_from n k) m ≡ up_from n (suc k)
insert_next zero n m e = let same : m ≡ n = omega (arith, e) in ap (λ x. x ∷ []) same
insert_next (suc k) n m e =
    let past : n < m = omega (arith, e) in
    ap (λ r. match_ordering r (m ∷ n ∷ up_from (n + 1) k) (n ∷ up_from (n + 1) k) (n ∷ insert_key nat_cmp (up_from (n + 1) k) m)) (sym (nat_cmp_is m n Greater past))
    ∙ ap (λ ns. n ∷ ns) (insert_next k (n + 1) m (omega (arith, e)))

-- a state that is shown
module _ (tasks : Map ℕ Process) (areas : Table) (paged : PagedFrames) (online : List ℕ) (moved failed : ℕ) where
  abbrev pub seen : State
  seen = state_of_parts tasks areas paged online moved failed

  pub kept_spawned : {c : ℕ} (now : Map ℕ Process) (pid : ℕ) (p : Process) → paged.vacated ≡ [] → IsSoundMachine seen paged.vacated c → spawn_refusal seen pid p.home p.allowed ≡ None → p.sees ≡ [] → now ≡ set nat_cmp tasks pid p
      → IsSoundMachine (state_of_parts now areas paged online moved failed) paged.vacated c
  kept_spawned now pid p none h fine bare e =
      let sound : IsSound seen = subst (λ l. IsSoundInFlight seen l) none h.sound in
      let after : IsSound (spawn seen pid p.uid p.home p.allowed p.privileged) = spawn_sound seen pid p.uid p.home p.allowed p.privileged sound fine in
      let same : spawn seen pid p.uid p.home p.allowed p.privileged ≡ state_of_parts now areas paged online moved failed =
      ap (λ ss. state_of_parts (set nat_cmp tasks pid (record { uid = p.uid; privileged = p.privileged; home = p.home; allowed = p.allowed; sees = ss })) areas paged online moved failed) (sym bare)
      ∙ ap (λ m. state_of_parts m areas paged online moved failed) (sym e) in
      record {
        sound = subst (λ l. IsSoundInFlight (state_of_parts now areas paged online moved failed) l) (sym none) (subst IsSound same after);
        as_many = h.as_many;
      }

  -- other areas
  pub kept_mapped : {c : ℕ} (now : Table) → paged.vacated ≡ [] → IsSoundMachine seen paged.vacated c → (IsSound seen → IsSound (state_of_parts tasks now paged online moved failed)) → IsSoundMachine (state_of_parts tasks now paged online moved failed) paged.vacated c
  kept_mapped now none h keeps =
      record {
        sound = subst (λ l. IsSoundInFlight (state_of_parts tasks now paged online moved failed) l) (sym none) (keeps (subst (λ l. IsSoundInFlight seen l) none h.sound));
        as_many = h.as_many;
      }

-- nothing but nodes and free frames
pub shown_new : (g : Layout) (y : AddressSpacesView) (k : FramesView) (online : List ℕ) (n : ℕ) → y ≡ no_spaces n → k.layout ≡ g → k.free ≡ all_frames 0 g.sizes → online ≡ up_from 0 (node_count g) → shown_by y k online 0 0 ≡ new_machine g
shown_new g y k online n e l f o =
    let of : Layout → List (List ℕ) → FramesView = λ layout free. record k { layout = layout; free = free } in
    ap (λ y. shown_by y k online 0 0) e
    ∙ ap (λ layout. shown_by (no_spaces n) (of layout k.free) online 0 0) l
    ∙ ap (λ free. shown_by (no_spaces n) (of g free) online 0 0) f
    ∙ ap (λ nodes. shown_by (no_spaces n) (of g (all_frames 0 g.sizes)) nodes 0 0) o

-- conditions of which none holds
none_holds : (a b c d e f : Bool) → a ≡ false → b ≡ false → c ≡ false → d ≡ false → e ≡ false → f ≡ false → first_error (((a || b) || (c || d || e), Einval) ∷ (f, Enomem) ∷ []) ≡ None
none_holds a b c d e f ha hb hc hd he hf =
    let all = λ (u v w x y z : Bool). first_error (((u || v) || (w || x || y), Einval) ∷ (z, Enomem) ∷ []) in
    ap (λ u. all u b c d e f) ha ∙ ap (λ v. all false v c d e f) hb ∙ ap (λ w. all false false w d e f) hc ∙ ap (λ x. all false false false x e f) hd
    ∙ ap (λ y. all false false false false y f) he ∙ ap (λ z. all false false false false false z) hf

-- .. and the last alone
last_holds : (a b c d e f : Bool) → a ≡ false → b ≡ false → c ≡ false → d ≡ false → e ≡ false → f ≡ true → first_error (((a || b) || (c || d || e), Einval) ∷ (f, Enomem) ∷ []) ≡ Some Enomem
last_holds a b c d e f ha hb hc hd he hf =
    let all = λ (u v w x y z : Bool). first_error (((u || v) || (w || x || y), Einval) ∷ (z, Enomem) ∷ []) in
    ap (λ u. all u b c d e f) ha ∙ ap (λ v. all false v c d e f) hb ∙ ap (λ w. all false false w d e f) hc ∙ ap (λ x. all false false false x e f) hd
    ∙ ap (λ y. all false false false false y f) he ∙ ap (λ z. all false false false false false z) hf

no_process : (o : Option Process) → is_some (option_map info_of o) ≡ false → not (not (is_some o)) ≡ false
no_process None h = refl
no_process (Some p) h = absurd (true_false h)

-- a process of which something is fixed is there
pub known_there : (o : Option Process) (r : Option ProcessInfo) (b : Bool) → r ≡ option_map info_of o → is_some r ≡ not b → b ≡ false → not (is_some o) ≡ false
known_there None r b e n f = absurd (false≢true (sym (ap is_some e) ∙ n ∙ ap not f))
known_there (Some p) r b e n f = refl

untrue : IsTrue false → ⊥
untrue h = cc

some_nodes : (ns : List ℕ) → (ns ≡ [] → IsTrue false) → (length ns == 0) ≡ false
some_nodes [] h = absurd (untrue (h refl))
some_nodes (n ∷ ns) h = false_from_ne_true _ (λ e. let none = eqb-true (length (n ∷ ns)) 0 e in absurd (omega (arith, none)))

pub spawn_fine : (s : State) (pid home : ℕ) (allowed : List ℕ) (o : Option ProcessInfo) → (pid ≡ 0 → ⊥) → o ≡ option_map info_of (get nat_cmp s.processes pid) → is_some o ≡ false → home < node_count s.layout
    → (allowed ≡ [] → IsTrue false) → list_any (nat_le (node_count s.layout)) allowed ≡ false → length s.processes < 1024 → spawn_refusal s pid home allowed ≡ None
spawn_fine s pid home allowed o some e unknown there nodes below few =
    none_holds (pid == 0) (not (is_unknown s pid)) (nat_le (node_count s.layout) home) (length allowed == 0) (list_any (nat_le (node_count s.layout)) allowed) (nat_le 1024 (length s.processes))
    (false_from_ne_true _ (λ h. some (eqb-true pid 0 h))) (no_process (get nat_cmp s.processes pid) (ap is_some (sym e) ∙ unknown)) (lt-leb _ _ there) (some_nodes allowed nodes) below (lt-leb _ _ few)

pub spawn_full : (s : State) (pid home : ℕ) (allowed : List ℕ) (o : Option ProcessInfo) → (pid ≡ 0 → ⊥) → o ≡ option_map info_of (get nat_cmp s.processes pid) → is_some o ≡ false → home < node_count s.layout
    → (allowed ≡ [] → IsTrue false) → list_any (nat_le (node_count s.layout)) allowed ≡ false → 1024 ≤ length s.processes → spawn_refusal s pid home allowed ≡ Some Enomem
spawn_full s pid home allowed o some e unknown there nodes below full =
    last_holds (pid == 0) (not (is_unknown s pid)) (nat_le (node_count s.layout) home) (length allowed == 0) (list_any (nat_le (node_count s.layout)) allowed) (nat_le 1024 (length s.processes))
    (false_from_ne_true _ (λ h. some (eqb-true pid 0 h))) (no_process (get nat_cmp s.processes pid) (ap is_some (sym e) ∙ unknown)) (lt-leb _ _ there) (some_nodes allowed nodes) below (le-leb _ _ full)

pub list_fine : (s : State) (node : ℕ) → node < node_count s.layout → list_refusal s node ≡ None
list_fine s node h = ap (λ b. if b then Some Einval else None) (lt-leb (node_count s.layout) node h)

pub kept_new : (g : Layout) (s : State) (left : List ℕ) (frames : ℕ) → s ≡ new_machine g → left ≡ [] → frames ≡ frame_count g → IsSoundMachine s left frames
kept_new g s left frames e none count =
    let sound : IsSound s = subst IsSound (sym e) (new_sound g) in
    record {
      sound = subst (λ l. IsSoundInFlight s l) (sym none) sound;
      as_many = count ∙ sym (ap (λ (t : State). frame_count t.layout) e);
    }
