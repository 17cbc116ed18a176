-- Page tables and the reverse map when entries or whole processes are removed.
use Rattle.std.proofs.Common.{◌≡◌, ℕ, ◌+◌, ◌-◌, ◌≤◌, ◌<◌, List, [], ◌∷◌, Bool, true, false, not, ◌&&◌, ◌||◌, cond, refl, sym, ap, subst, ◌∙◌, arith, length-set, eq-eqb}
use Rattle.std.specs.Prelude.{Option, Some, None, IsSome, length, ◌==◌, nat_lt, nat_le, if◌then◌else◌}
use Rattle.std.specs.Option.{option_map}
use Rattle.std.specs.BTreeMap.{is_at}
use Rattle.std.specs.Set.{remove_key}
use Rattle.std.specs.List.{AllByRecursion, filter}
use Rattle.std.specs.List.Sorted.{IsStrictlySortedBy}
use Rattle.std.specs.Map.{keys_of}
use Rattle.std.specs.Ordering.{nat_cmp, is_eq}
use Rattle.std.specs.declared.cmp.Ordering.TheVariants.{Less}
use Rattle.std.specs.Cmp.{nat_cmp_total, eq_by_cmp_equiv, tied_itself}
use Rattle.std.proofs.lemmas.Bool.{and_parts, and_from, eqb-true, eqb-false, ltb-true, ltb-false, leb-true, leb-false, lt-ltb, le-leb, false_from_ne_true}
use Rattle.std.proofs.lemmas.Map.{lookup-remove_entry}
use Rattle.std.proofs.lemmas.Map.Entries.{lookup-filter-keys}
use Rattle.std.proofs.lemmas.Map.Keys.{IsDistinct-from_sorted, sorted_head, sorted_tail}
use Rattle.std.proofs.lemmas.Map.Lookups.{exact_unsigned}
use Rattle.nm_types.specs.declared.area.Area.{Area}
use Rattle.nm_types.specs.Map.{Map, get, replace, without, with_values, spot_cmp}
use Rattle.nm_types.specs.State.{Process}
use Rattle.nm_types.proofs.Cases.{true_false, none_some}
use Rattle.nm_types.specs.declared.entry.Entry.{Entry}
use Rattle.nm_types.specs.declared.entry.Entry.TheVariants.{Zero}
use Rattle.nm_model.specs.definitions.Areas.{Mapping}
use Rattle.nm_rmap.specs.Mappers.{Mappers, mappers_of, without_mapper}
use Rattle.nm_model.specs.definitions.PageTables.{Task, entry_at, entry_in}
use Rattle.nm_spaces.specs.views.ProcessTable.{frame_named, names, without_entry, cleared_between, without_entries}
use Rattle.nm_spaces.proofs.ProcessTable.NamedFrames.{names_alone}
use Rattle.nm_spaces.specs.views.AddressSpaces.{AddressSpacesView, spaces_view}
use Rattle.nm_model.specs.definitions.PageTables.{process_of, sight_of}
use Rattle.nm_spaces.specs.definitions.Tied.{IsTied, IsCleared, IsLess, IsWithout, has_spot, is_in_range}
use Rattle.nm_types.proofs.Maps.{equal, agree, get-values, get-replace, spot_cmp_total, with_values-without}
use Rattle.nm_types.proofs.Keys.{keys-replace, sorted-without, All-get}
use Rattle.nm_spaces.proofs.ProcessTable.Changes.{same_tables}
use Rattle.nm_spaces.proofs.Held.ReplacedEntries.{same_spot, flip_spot, exact_spot, TableInOrder}
use Rattle.nm_spaces.proofs.Moves.OnePage.{get_or-set}

-- ---- a process goes

pub get_left : {V : Type 0} (m : Map ℕ V) (k q : ℕ) → IsStrictlySortedBy nat_cmp (keys_of m) → get nat_cmp (without nat_cmp m k) q ≡ cond (is_eq (nat_cmp k q)) None (get nat_cmp m q)
get_left m k q s = lookup-remove_entry (eq_by_cmp_equiv nat_cmp_total) (is_at (nat_cmp k)) (λ x y h. ap is_eq (nat_cmp_total.congr k x y (equal _ h))) q m (IsDistinct-from_sorted nat_cmp (keys_of m) s)

all_left : {V : Type 0} (P : V → Type 0) (m : Map ℕ V) (k : ℕ) → AllByRecursion (λ e. P e.1) m → AllByRecursion (λ e. P e.1) (without nat_cmp m k)
all_left P [] k h = tt
all_left P (e ∷ m) k h = elim (is_eq (nat_cmp k e.0)) as (λ b. AllByRecursion (λ e. P e.1) (cond b m (e ∷ without nat_cmp m k))) [ true ↦ h.1 | false ↦ (h.0, all_left P m k h.1) ]

-- a table that shows nothing has nothing
empty_table : (areas : Map (ℕ × ℕ) Area) (pid v : ℕ) (table : Map ℕ Entry) → with_values (sight_of areas pid) table ≡ [] → get nat_cmp table v ≡ None
empty_table areas pid v [] h = refl
empty_table areas pid v (e ∷ table) h = cc

module _ (y : AddressSpacesView) (tasks : Map ℕ Task) (m : Mapping) (r : Mappers) (pid : ℕ) (t : IsTied tasks m r) (is : spaces_view tasks m r ≡ y) (blind : (p : Process) → get nat_cmp y.processes pid ≡ Some p → p.sees ≡ []) where
  nothing_in : (o : Option Task) → get nat_cmp tasks pid ≡ o → (v : ℕ) → entry_in o v ≡ None
  nothing_in None h v = refl
  nothing_in (Some task) h v =
      empty_table m.areas pid v task.table
      (blind (process_of m.areas pid task) (ap (λ (y : AddressSpacesView). get nat_cmp y.processes pid) (sym is) ∙ get-values exact_unsigned (process_of m.areas) tasks pid ∙ ap (option_map (process_of m.areas pid)) h))

  entry_left : (q v : ℕ) → entry_at (without nat_cmp tasks pid) q v ≡ entry_at tasks q v
  entry_left q v =
      ap (λ o. entry_in o v) (get_left tasks pid q t.pids)
      ∙ elim (is_eq (nat_cmp pid q)) as (λ b. is_eq (nat_cmp pid q) ≡ b → entry_in (cond b None (get nat_cmp tasks q)) v ≡ entry_at tasks q v) [
        | true ↦ λ b. sym (ap (λ q. entry_at tasks q v) (sym (exact_unsigned pid q (equal _ b))) ∙ nothing_in (get nat_cmp tasks pid) refl v)
        | false ↦ λ b. refl
      ] refl

  -- they stay tied
  pub left_tied : IsTied (without nat_cmp tasks pid) m r
  left_tied = record {
    pids = sorted-without nat_cmp tasks pid t.pids;
    tables = all_left TableInOrder tasks pid t.tables;
    places = t.places;
    mappers = λ f q v. t.mappers f q v ∙ ap (names f) (sym (entry_left q v));
    shows = λ f q v h. t.shows f q v (ap (names f) (sym (entry_left q v)) ∙ h);
    apart = t.apart;
    pinned = t.pinned;
    in_range = t.in_range;
    as_many = t.as_many;
    settled = λ f q v h. t.settled f q v (sym (entry_left q v) ∙ h);
  }

  pub left_shows : spaces_view (without nat_cmp tasks pid) m r ≡ record y { processes = without nat_cmp y.processes pid }
  left_shows =
      ap (λ ps. record (spaces_view tasks m r) { processes = ps }) (with_values-without nat_cmp (process_of m.areas) tasks pid)
      ∙ ap (λ (y : AddressSpacesView). record y { processes = without nat_cmp y.processes pid }) is

-- ---- entries in a range go

-- whether a page number is before a range or after it
abbrev pub out : ℕ → ℕ → ℕ → Bool
out a b w = nat_lt w a || nat_le b w

out_front : (a b w : ℕ) → w < a → out a b w ≡ true
out_front a b w h = ap (λ c. c || nat_le b w) (lt-ltb w a h)

out_behind : (a b w : ℕ) → b ≤ w → out a b w ≡ true
out_behind a b w h = ap (λ c. nat_lt w a || c) (le-leb b w h) ∙ elim (nat_lt w a) as (λ c. (c || true) ≡ true) [ true ↦ refl | false ↦ refl ]

pub out_not : (a b w : ℕ) → a ≤ w → w < b → out a b w ≡ false
out_not a b w low high =
    let front : nat_lt w a ≡ false = false_from_ne_true _ (λ h. let less = ltb-true w a h in omega (arith, less, low)) in
    let behind : nat_le b w ≡ false = false_from_ne_true _ (λ h. let less = leb-true b w h in omega (arith, less, high)) in
    ap (λ c. c || nat_le b w) front ∙ behind

not_out : (a b w : ℕ) → out a b w ≡ false → (a ≤ w) × (w < b)
not_out a b w h =
    elim (nat_lt w a) as (λ c. nat_lt w a ≡ c → (c || nat_le b w) ≡ false → (a ≤ w) × (w < b)) [
      | true ↦ λ c k. absurd (true_false k)
      | false ↦ λ c k. (ltb-false w a c, leb-false b w k)
    ] refl h

pub between_parts : (pid a b q w : ℕ) → is_in_range pid a b (q, w) ≡ true → (q ≡ pid) × (a ≤ w) × (w < b)
between_parts pid a b q w h =
    let both = and_parts (q == pid) _ h in
    let range = and_parts (nat_le a w) _ both.1 in
    (eqb-true q pid both.0, leb-true a w range.0, ltb-true w b range.1)

between_from : (pid a b q w : ℕ) → q ≡ pid → a ≤ w → w < b → is_in_range pid a b (q, w) ≡ true
between_from pid a b q w e low high = and_from _ _ (eq-eqb q pid e) (and_from _ _ (le-leb a w low) (lt-ltb w b high))

not_between : (pid a b q w : ℕ) → b ≤ w → is_in_range pid a b (q, w) ≡ false
not_between pid a b q w h = false_from_ne_true _ (λ k. let parts = between_parts pid a b q w k in let less = parts.2 in omega (arith, less, h))

between_out : (a b w : ℕ) → out a b w ≡ not (nat_le a w && nat_lt w b)
between_out a b w =
    elim (out a b w) as (λ o. out a b w ≡ o → o ≡ not (nat_le a w && nat_lt w b)) [
      | true ↦ λ o. sym (ap not (false_from_ne_true _ (λ h.
          let range = and_parts (nat_le a w) _ h in
          true_false (sym o ∙ out_not a b w (leb-true a w range.0) (ltb-true w b range.1)))))
      | false ↦ λ o. let range = not_out a b w o in sym (ap not (and_from _ _ (le-leb a w range.0) (lt-ltb w b range.1)))
    ] refl

module _ {V : Type 0} where
  kept_keys : (P : ℕ → Type 0) (test : ℕ → Bool) (m : Map ℕ V) → AllByRecursion P (keys_of m) → AllByRecursion P (keys_of (filter (λ e. test e.0) m))
  kept_keys P test [] h = tt
  kept_keys P test (e ∷ m) h =
      elim (test e.0) as (λ b. AllByRecursion P (keys_of (cond b (e ∷ filter (λ e. test e.0) m) (filter (λ e. test e.0) m)))) [ true ↦ (h.0, kept_keys P test m h.1) | false ↦ kept_keys P test m h.1 ]

  pub sorted_kept : (test : ℕ → Bool) (m : Map ℕ V) → IsStrictlySortedBy nat_cmp (keys_of m) → IsStrictlySortedBy nat_cmp (keys_of (filter (λ e. test e.0) m))
  unfolding IsStrictlySortedBy
  sorted_kept test [] h = tt
  sorted_kept test (e ∷ m) h =
      elim (test e.0) as (λ b. IsStrictlySortedBy nat_cmp (keys_of (cond b (e ∷ filter (λ e. test e.0) m) (filter (λ e. test e.0) m)))) [ true ↦ (kept_keys _ test m h.0, sorted_kept test m h.1) | false ↦ sorted_kept test m h.1 ]

  pub get_kept : (test : ℕ → Bool) (m : Map ℕ V) (w : ℕ) → get nat_cmp (filter (λ e. test e.0) m) w ≡ cond (test w) (get nat_cmp m w) None
  get_kept test m w = lookup-filter-keys (is_at (nat_cmp w)) test (test w) (λ k h. ap test (sym (exact_unsigned w k (equal _ h)))) m

  kept_all : (test : ℕ → Bool) (m : Map ℕ V) → ((w : ℕ) → test w ≡ true) → filter (λ e. test e.0) m ≡ m
  kept_all test [] h = refl
  kept_all test (e ∷ m) h = ap (λ b. cond b (e ∷ filter (λ e. test e.0) m) (filter (λ e. test e.0) m)) (h e.0) ∙ ap (λ es. e ∷ es) (kept_all test m h)

  pub keys-values : {W : Type 0} (F : ℕ → V → W) (m : Map ℕ V) → keys_of (with_values F m) ≡ keys_of m
  keys-values F [] = refl
  keys-values F (e ∷ m) = ap (λ ks. e.0 ∷ ks) (keys-values F m)

-- one entry fewer, with none before it
table_step : (m : Map ℕ Entry) (a at v : ℕ) → IsStrictlySortedBy nat_cmp (keys_of m) → a ≤ at → at ≤ v
    → ((w : ℕ) → at ≤ w → w < v → get nat_cmp (filter (λ e. out a at e.0) m) w ≡ None) → without nat_cmp (filter (λ e. out a at e.0) m) v ≡ filter (λ e. out a (v + 1) e.0) m
table_step m a at v s low high none =
    let now = filter (λ (e : ℕ × Entry). out a at e.0) m in
    let sorted = sorted_kept (out a at) m s in
    same_tables _ _ (sorted-without nat_cmp now v sorted) (sorted_kept (out a (v + 1)) m s) (λ w.
    get_left now v w sorted
    ∙ elim (is_eq (nat_cmp v w)) as (λ b. is_eq (nat_cmp v w) ≡ b → cond b None (get nat_cmp now w) ≡ cond (out a (v + 1) w) (get nat_cmp m w) None) [
      | true ↦ λ b.
          let same : v ≡ w = exact_unsigned v w (equal _ b) in
          sym (ap (λ c. cond c (get nat_cmp m w) None) (out_not a (v + 1) w (omega (arith, same, low, high)) (omega (arith, same))))
      | false ↦ λ b. elim (out a (v + 1) w) as (λ c. out a (v + 1) w ≡ c → get nat_cmp now w ≡ cond c (get nat_cmp m w) None) [
        | true ↦ λ c. get_kept (out a at) m w ∙ ap (λ d. cond d (get nat_cmp m w) None)
            (elim (nat_lt w a) as (λ d. nat_lt w a ≡ d → out a at w ≡ true) [
              | true ↦ λ d. out_front a at w (ltb-true w a d)
              | false ↦ λ d. elim (nat_le at w) as (λ f. nat_le at w ≡ f → out a at w ≡ true) [
                | true ↦ λ f. out_behind a at w (leb-true at w f)
                | false ↦ λ f. let less = leb-false at w f in absurd (true_false (sym c ∙ out_not a (v + 1) w (ltb-false w a d) (omega (arith, less, high))))
              ] refl
            ] refl)
        | false ↦ λ c.
            let range = not_out a (v + 1) w c in
            let past = range.1 in
            elim (nat_lt w at) as (λ d. nat_lt w at ≡ d → get nat_cmp now w ≡ None) [
              | true ↦ λ d. get_kept (out a at) m w ∙ ap (λ d. cond d (get nat_cmp m w) None) (out_not a at w range.0 (ltb-true w at d))
              | false ↦ λ d. elim (v == w) as (λ f. (v == w) ≡ f → get nat_cmp now w ≡ None) [
                | true ↦ λ f. absurd (true_false (sym (subst (λ w. is_eq (nat_cmp v w) ≡ true) (eqb-true v w f) (ap is_eq (tied_itself nat_cmp_total v))) ∙ b))
                | false ↦ λ f. let apart = eqb-false v w f in none w (ltb-false w at d) (omega (arith, apart, past))
              ] refl
            ] refl
      ] refl
    ] refl
    ∙ sym (get_kept (out a (v + 1)) m w))

-- no entry is left in the range
table_end : (m : Map ℕ Entry) (a at end : ℕ) → IsStrictlySortedBy nat_cmp (keys_of m) → at ≤ a + (end - a)
    → ((w : ℕ) → at ≤ w → w < end → get nat_cmp (filter (λ e. out a at e.0) m) w ≡ None) → filter (λ e. out a at e.0) m ≡ filter (λ e. out a end e.0) m
table_end m a at end s up none =
    same_tables _ _ (sorted_kept (out a at) m s) (sorted_kept (out a end) m s) (λ w.
    elim (out a end w) as (λ c. out a end w ≡ c → get nat_cmp (filter (λ e. out a at e.0) m) w ≡ cond c (get nat_cmp m w) None) [
      | true ↦ λ c. get_kept (out a at) m w ∙ ap (λ d. cond d (get nat_cmp m w) None)
          (elim (out a at w) as (λ d. out a at w ≡ d → d ≡ true) [
            | true ↦ λ d. refl
            | false ↦ λ d.
                let range = not_out a at w d in
                let low = range.0 in
                let less = range.1 in
                absurd (true_false (sym c ∙ out_not a end w low (omega (arith, low, less, up))))
          ] refl)
      | false ↦ λ c.
          let range = not_out a end w c in
          elim (nat_lt w at) as (λ d. nat_lt w at ≡ d → get nat_cmp (filter (λ e. out a at e.0) m) w ≡ None) [
            | true ↦ λ d. get_kept (out a at) m w ∙ ap (λ d. cond d (get nat_cmp m w) None) (out_not a at w range.0 (ltb-true w at d))
            | false ↦ λ d. none w (ltb-false w at d) range.1
          ] refl
    ] refl
    ∙ sym (get_kept (out a end) m w))

-- a task of a table of processes
abbrev pub one_cleared : ℕ → ℕ → ℕ → ℕ → Task → Task
one_cleared pid a b q t = if q == pid then cleared_between a b t else t

pub keys-cleared : (ts : Map ℕ Task) (pid a b : ℕ) → keys_of (without_entries ts pid a b) ≡ keys_of ts
keys-cleared ts pid a b = keys-values (one_cleared pid a b) ts

sorted_cleared : (ts : Map ℕ Task) (pid a b : ℕ) → IsStrictlySortedBy nat_cmp (keys_of ts) → IsStrictlySortedBy nat_cmp (keys_of (without_entries ts pid a b))
sorted_cleared ts pid a b s = subst (IsStrictlySortedBy nat_cmp) (sym (keys-cleared ts pid a b)) s

pub tables-cleared : (ts : Map ℕ Task) (pid a b : ℕ) → AllByRecursion (λ e. TableInOrder e.1) ts → AllByRecursion (λ e. TableInOrder e.1) (without_entries ts pid a b)
tables-cleared [] pid a b h = tt
tables-cleared (e ∷ ts) pid a b h = (
  elim (e.0 == pid) as (λ c. TableInOrder (if c then cleared_between a b e.1 else e.1)) [ true ↦ sorted_kept (out a b) e.1.table h.0 | false ↦ h.0 ],
  tables-cleared ts pid a b h.1,
)

get_cleared : (ts : Map ℕ Task) (pid a b : ℕ) (t : Task) → get nat_cmp ts pid ≡ Some t → get nat_cmp (without_entries ts pid a b) pid ≡ Some (cleared_between a b t)
get_cleared ts pid a b t h =
    get-values exact_unsigned (one_cleared pid a b) ts pid ∙ ap (option_map (one_cleared pid a b pid)) h ∙ ap (λ c. Some (if c then cleared_between a b t else t)) (eq-eqb pid pid refl)

same_option : (q pid a b : ℕ) (o : Option Task) → (q == pid) ≡ false → option_map (one_cleared pid a b q) o ≡ o
same_option q pid a b None h = refl
same_option q pid a b (Some t) h = ap (λ c. Some (if c then cleared_between a b t else t)) h

get_other : (ts : Map ℕ Task) (pid a b q : ℕ) → (q == pid) ≡ false → get nat_cmp (without_entries ts pid a b) q ≡ get nat_cmp ts q
get_other ts pid a b q h = get-values exact_unsigned (one_cleared pid a b) ts q ∙ same_option q pid a b (get nat_cmp ts q) h

entry_in_cleared : (pid a b q w : ℕ) (o : Option Task) → entry_in (option_map (one_cleared pid a b q) o) w ≡ cond (is_in_range pid a b (q, w)) None (entry_in o w)
entry_in_cleared pid a b q w None = let nothing : Option Entry = None in elim (is_in_range pid a b (q, w)) as (λ c. nothing ≡ cond c nothing nothing) [ true ↦ refl | false ↦ refl ]
entry_in_cleared pid a b q w (Some t) =
    elim (q == pid) as (λ c. entry_in (Some (if c then cleared_between a b t else t)) w ≡ cond (c && (nat_le a w && nat_lt w b)) None (get nat_cmp t.table w)) [
      | true ↦
          get_kept (out a b) t.table w ∙ ap (λ c. cond c (get nat_cmp t.table w) None) (between_out a b w)
          ∙ elim (nat_le a w && nat_lt w b) as (λ c. cond (not c) (get nat_cmp t.table w) None ≡ cond c None (get nat_cmp t.table w)) [ true ↦ refl | false ↦ refl ]
      | false ↦ refl
    ]

-- what is found after the entries in a range were removed
pub entry_cleared : (ts : Map ℕ Task) (pid a b q w : ℕ) → entry_at (without_entries ts pid a b) q w ≡ cond (is_in_range pid a b (q, w)) None (entry_at ts q w)
entry_cleared ts pid a b q w = ap (λ o. entry_in o w) (get-values exact_unsigned (one_cleared pid a b) ts q) ∙ entry_in_cleared pid a b q w (get nat_cmp ts q)

-- after the range entries are as they were
pub entry_behind : (ts : Map ℕ Task) (pid a b w : ℕ) → b ≤ w → entry_at (without_entries ts pid a b) pid w ≡ entry_at ts pid w
entry_behind ts pid a b w h = entry_cleared ts pid a b pid w ∙ ap (λ c. cond c None (entry_at ts pid w)) (not_between pid a b pid w h)

task_of_entry : (ts : Map ℕ Task) (pid w : ℕ) (e : Entry) → entry_at ts pid w ≡ Some e → (t : Task) × (get nat_cmp ts pid ≡ Some t)
task_of_entry ts pid w e h =
    elim (get nat_cmp ts pid) as (λ o. entry_in o w ≡ Some e → (t : Task) × (o ≡ Some t)) [ None ↦ λ k. absurd (none_some k) | Some t ↦ λ k. (t, refl) ] h

pub cleared_none : (ts : Map ℕ Task) (pid a : ℕ) → without_entries ts pid a a ≡ ts
cleared_none [] pid a = refl
cleared_none (e ∷ ts) pid a =
    ap (λ (x : Task). (e.0, x) ∷ without_entries ts pid a a)
    (elim (e.0 == pid) as (λ c. (if c then cleared_between a a e.1 else e.1) ≡ e.1) [
      | true ↦ ap (λ m. record (e.1) { table = m }) (kept_all (out a a) e.1.table (λ w. between_out a a w ∙ ap not (false_from_ne_true _ (λ h.
          let range = and_parts (nat_le a w) _ h in
          let low = leb-true a w range.0 in
          let high = ltb-true w a range.1 in
          omega (arith, low, high)))))
      | false ↦ refl
    ])
    ∙ ap (λ es. e ∷ es) (cleared_none ts pid a)

module _ (ts now : Map ℕ Task) (pid a at : ℕ) (s : IsStrictlySortedBy nat_cmp (keys_of ts)) (tables : AllByRecursion (λ e. TableInOrder e.1) ts) (is : now ≡ without_entries ts pid a at) (low : a ≤ at) where
  -- the entry that is found was there
  pub entry_was : (v : ℕ) (o : Option Entry) → at ≤ v → entry_at now pid v ≡ o → entry_at ts pid v ≡ o
  entry_was v o h found = sym (entry_behind ts pid a at v h) ∙ ap (λ ts. entry_at ts pid v) (sym is) ∙ found

  table_now : (t : Task) (w : ℕ) → get nat_cmp ts pid ≡ Some t → entry_at now pid w ≡ None → get nat_cmp (filter (λ e. out a at e.0) t.table) w ≡ None
  table_now t w h none = ap (λ o. entry_in o w) (sym (get_cleared ts pid a at t h)) ∙ ap (λ ts. entry_at ts pid w) (sym is) ∙ none

  -- the entry is removed
  pub tasks_step : (v : ℕ) (e : Entry) (new : Map ℕ Task) → at ≤ v → entry_at now pid v ≡ Some e → ((w : ℕ) → at ≤ w → w < v → entry_at now pid w ≡ None)
      → ((t : Task) → get nat_cmp now pid ≡ Some t → new ≡ replace nat_cmp now pid (without_entry t v)) → new ≡ without_entries ts pid a (v + 1)
  tasks_step v e new high found none gone =
      let t = task_of_entry ts pid v e (entry_was v (Some e) high found) in
      let there : get nat_cmp now pid ≡ Some (cleared_between a at t.0) = ap (λ ts. get nat_cmp ts pid) is ∙ get_cleared ts pid a at t.0 t.1 in
      let shorter = without_entry (cleared_between a at t.0) v in
      let same : shorter ≡ cleared_between a (v + 1) t.0 =
      ap (λ m. record (t.0) { table = m }) (table_step t.0.table a at v (All-get nat_cmp TableInOrder ts pid t.0 tables t.1) low high (λ w l h. table_now t.0 w t.1 (none w l h))) in
      let sorted : IsStrictlySortedBy nat_cmp (keys_of now) = subst (λ ts. IsStrictlySortedBy nat_cmp (keys_of ts)) (sym is) (sorted_cleared ts pid a at s) in
      gone (cleared_between a at t.0) there
      ∙ same_tables (replace nat_cmp now pid shorter) (without_entries ts pid a (v + 1)) (subst (IsStrictlySortedBy nat_cmp) (sym (keys-replace nat_cmp now pid shorter)) sorted) (sorted_cleared ts pid a (v + 1) s) (λ q.
      get-replace nat_cmp_total exact_unsigned now pid shorter q (subst IsSome (sym there) refl)
      ∙ elim (is_eq (nat_cmp pid q)) as (λ b. is_eq (nat_cmp pid q) ≡ b → cond b (Some shorter) (get nat_cmp now q) ≡ get nat_cmp (without_entries ts pid a (v + 1)) q) [
        | true ↦ λ b. ap Some same ∙ sym (get_cleared ts pid a (v + 1) t.0 t.1) ∙ ap (get nat_cmp (without_entries ts pid a (v + 1))) (exact_unsigned pid q (equal _ b))
        | false ↦ λ b.
            let other : (q == pid) ≡ false = false_from_ne_true _ (λ h. true_false (sym (subst (λ q. is_eq (nat_cmp pid q) ≡ true) (sym (eqb-true q pid h)) (ap is_eq (tied_itself nat_cmp_total pid))) ∙ b)) in
            ap (λ ts. get nat_cmp ts q) is ∙ get_other ts pid a at q other ∙ sym (get_other ts pid a (v + 1) q other)
      ] refl)

  -- none is left
  pub tasks_end : (end : ℕ) → at ≤ a + (end - a) → ((w : ℕ) → at ≤ w → w < end → entry_at now pid w ≡ None) → now ≡ without_entries ts pid a end
  tasks_end end up none =
      is ∙ agree nat_cmp_total exact_unsigned (one_cleared pid a at) (one_cleared pid a end) ts s (λ q t found.
      elim (q == pid) as (λ c. (q == pid) ≡ c → (if c then cleared_between a at t else t) ≡ (if c then cleared_between a end t else t)) [
        | true ↦ λ c.
            let here : get nat_cmp ts pid ≡ Some t = ap (get nat_cmp ts) (sym (eqb-true q pid c)) ∙ found in
            ap (λ m. record t { table = m }) (table_end t.table a at end (All-get nat_cmp TableInOrder ts pid t tables here) up (λ w l h. table_now t w here (none w l h)))
        | false ↦ λ c. refl
      ] refl)

-- ---- mappers

less_apart : (q : ℕ × ℕ) (l : List (ℕ × ℕ)) → AllByRecursion (λ y. spot_cmp q y ≡ Less) l → has_spot l q ≡ false
less_apart q [] h = refl
less_apart q (x ∷ l) h = ap (λ r. is_eq r || has_spot l q) h.0 ∙ less_apart q l h.1

pub and_true : (b : Bool) → b ≡ (b && true)
and_true true = refl
and_true false = refl

-- one place fewer
has-remove : (l : List (ℕ × ℕ)) (s q : ℕ × ℕ) → IsStrictlySortedBy spot_cmp l → has_spot (remove_key (is_at (spot_cmp s)) l) q ≡ (has_spot l q && not (same_spot q s))
has-remove [] s q h = refl
has-remove (x ∷ l) s q h =
    elim (same_spot s x) as (λ b. same_spot s x ≡ b → has_spot (cond b l (x ∷ remove_key (is_at (spot_cmp s)) l)) q ≡ ((same_spot q x || has_spot l q) && not (same_spot q s))) [
      | true ↦ λ b.
          let is : s ≡ x = exact_spot s x b in
          elim (same_spot q s) as (λ c. same_spot q s ≡ c → has_spot l q ≡ ((same_spot q x || has_spot l q) && not c)) [
            | true ↦ λ c.
                let at : q ≡ x = exact_spot q s c ∙ is in
                ap (has_spot l) at ∙ less_apart x l (sorted_head spot_cmp x l h) ∙ elim (same_spot q x || has_spot l q) as (λ d. false ≡ (d && false)) [ true ↦ refl | false ↦ refl ]
            | false ↦ λ c. and_true (has_spot l q) ∙ ap (λ d. (d || has_spot l q) && true) (sym (ap (same_spot q) (sym is) ∙ c))
          ] refl
      | false ↦ λ b.
          ap (λ d. same_spot q x || d) (has-remove l s q (sorted_tail spot_cmp x l h))
          ∙ elim (same_spot q x) as (λ d. same_spot q x ≡ d → (d || (has_spot l q && not (same_spot q s))) ≡ ((d || has_spot l q) && not (same_spot q s))) [
            | true ↦ λ d. sym (ap not (ap (λ q. same_spot q s) (exact_spot q x d) ∙ flip_spot x s ∙ b))
            | false ↦ λ d. refl
          ] refl
    ] refl

less_false : (b c : Bool) → b ≡ (b && not (c && false))
less_false true true = refl
less_false true false = refl
less_false false c = refl

pub less_zero : (r t : Mappers) (spot : ℕ × ℕ) (e : Entry) → e ≡ Zero → t ≡ r → IsWithout r t spot (Some e)
less_zero r t spot e entry is =
    subst (λ e. IsWithout r t spot (Some e)) (sym entry)
    (subst (λ t. IsWithout r t spot (Some Zero)) (sym is) (record { less = λ g s. less_false (has_spot (mappers_of r g) s) (same_spot s spot); frames = refl; pins = refl }))

less_by : (r : Mappers) (f : ℕ) (spot : ℕ × ℕ) → f < length r.mappings → IsStrictlySortedBy spot_cmp (mappers_of r f) → (g : ℕ) (s : ℕ × ℕ)
    → has_spot (mappers_of (without_mapper r f spot) g) s ≡ (has_spot (mappers_of r g) s && not (same_spot s spot && (f == g)))
less_by r f spot below sorted g s =
    let l = remove_key (is_at (spot_cmp spot)) (mappers_of r f) in
    ap (λ l. has_spot l s) (get_or-set r.mappings f g l [] below)
    ∙ elim (g == f) as (λ b. (g == f) ≡ b → has_spot (cond b l (mappers_of r g)) s ≡ (has_spot (mappers_of r g) s && not (same_spot s spot && (f == g)))) [
      | true ↦ λ b.
          let is : g ≡ f = eqb-true g f b in
          has-remove (mappers_of r f) spot s sorted
          ∙ ap (λ k. has_spot (mappers_of r k) s && not (same_spot s spot)) (sym is)
          ∙ ap (λ c. has_spot (mappers_of r g) s && not c) (and_true (same_spot s spot))
          ∙ ap (λ c. has_spot (mappers_of r g) s && not (same_spot s spot && c)) (sym (eq-eqb f g (sym is)))
      | false ↦ λ b.
          less_false (has_spot (mappers_of r g) s) (same_spot s spot)
          ∙ ap (λ c. has_spot (mappers_of r g) s && not (same_spot s spot && c)) (sym (false_from_ne_true (f == g) (λ h. eqb-false g f b (sym (eqb-true f g h)))))
    ] refl

dropped_less : (r : Mappers) (f : ℕ) (spot : ℕ × ℕ) (o : Option Entry) → ((g : ℕ) → names g o ≡ (f == g)) → f < length r.mappings → IsStrictlySortedBy spot_cmp (mappers_of r f) → IsWithout r (without_mapper r f spot) spot o
dropped_less r f spot o is below sorted = record {
  less = λ g s. less_by r f spot below sorted g s ∙ ap (λ c. has_spot (mappers_of r g) s && not (same_spot s spot && c)) (sym (is g));
  frames = length-set r.mappings f _;
  pins = refl;
}

pub less_named : (r t : Mappers) (f : ℕ) (spot : ℕ × ℕ) (e : Entry) → frame_named e ≡ Some f → f < length r.mappings → IsStrictlySortedBy spot_cmp (mappers_of r f) → t ≡ without_mapper r f spot → IsWithout r t spot (Some e)
less_named r t f spot e named below sorted is =
    subst (λ t. IsWithout r t spot (Some e)) (sym is) (dropped_less r f spot (Some e) (names_alone e f named) below sorted)

pub mappers_none : (r : Mappers) (pid a : ℕ) (ts : Map ℕ Task) → IsCleared r r pid a a ts
mappers_none r pid a ts = record {
  mappings = λ g s. and_true (has_spot (mappers_of r g) s) ∙ ap (λ c. has_spot (mappers_of r g) s && not (c && names g (entry_at ts s.0 s.1)))
      (sym (false_from_ne_true (is_in_range pid a a s) (λ h. let parts = between_parts pid a a s.0 s.1 h in let low = parts.1 in let high = parts.2 in omega (arith, low, high))));
  frames = refl;
  pins = refl;
}

-- which entries were in a range after one more is
between_step : (ts : Map ℕ Task) (pid a at v g : ℕ) (s : ℕ × ℕ) → a ≤ at → at ≤ v → ((w : ℕ) → at ≤ w → w < v → entry_at ts pid w ≡ None) → same_spot s (pid, v) ≡ false
    → (is_in_range pid a at s && names g (entry_at ts s.0 s.1)) ≡ (is_in_range pid a (v + 1) s && names g (entry_at ts s.0 s.1))
between_step ts pid a at v g s low high none other =
    elim (is_in_range pid a at s) as (λ b. is_in_range pid a at s ≡ b → (b && names g (entry_at ts s.0 s.1)) ≡ (is_in_range pid a (v + 1) s && names g (entry_at ts s.0 s.1))) [
      | true ↦ λ b.
          let parts = between_parts pid a at s.0 s.1 b in
          let less = parts.2 in
          sym (ap (λ c. c && names g (entry_at ts s.0 s.1)) (between_from pid a (v + 1) s.0 s.1 parts.0 parts.1 (omega (arith, less, high))))
      | false ↦ λ b. elim (is_in_range pid a (v + 1) s) as (λ c. is_in_range pid a (v + 1) s ≡ c → false ≡ (c && names g (entry_at ts s.0 s.1))) [
        | true ↦ λ c.
            let parts = between_parts pid a (v + 1) s.0 s.1 c in
            let past = parts.2 in
            elim (nat_lt s.1 at) as (λ d. nat_lt s.1 at ≡ d → false ≡ names g (entry_at ts s.0 s.1)) [
              | true ↦ λ d. absurd (true_false (sym (between_from pid a at s.0 s.1 parts.0 parts.1 (ltb-true s.1 at d)) ∙ b))
              | false ↦ λ d. elim (s.1 == v) as (λ e. (s.1 == v) ≡ e → false ≡ names g (entry_at ts s.0 s.1)) [
                | true ↦ λ e.
                    let is : s ≡ (pid, v) = λ i. (parts.0 i, eqb-true s.1 v e i) in
                    absurd (true_false (sym (ap is_eq (tied_itself spot_cmp_total (pid, v))) ∙ sym (ap (λ s. same_spot s (pid, v)) is) ∙ other))
                | false ↦ λ e.
                    let apart = eqb-false s.1 v e in
                    sym (ap (λ q. names g (entry_at ts q s.1)) parts.0 ∙ ap (names g) (none s.1 (ltb-false s.1 at d) (omega (arith, apart, past))))
              ] refl
            ] refl
        | false ↦ λ c. refl
      ] refl
    ] refl

-- the mapper that an entry was is removed
pub mappers_step : (r t u : Mappers) (pid a at v : ℕ) (ts : Map ℕ Task) (o : Option Entry) → IsCleared r t pid a at ts → a ≤ at → at ≤ v → ((w : ℕ) → at ≤ w → w < v → entry_at ts pid w ≡ None)
    → entry_at ts pid v ≡ o → IsLess t u (pid, v) o → length u.mappings ≡ length t.mappings → u.pins ≡ t.pins → IsCleared r u pid a (v + 1) ts
mappers_step r t u pid a at v ts o h low high none found less frames pins = record {
  mappings = λ g s.
      let had = has_spot (mappers_of r g) s in
      let named = names g (entry_at ts s.0 s.1) in
      less g s ∙ ap (λ c. c && not (same_spot s (pid, v) && names g o)) (h.mappings g s)
      ∙ elim (same_spot s (pid, v)) as (λ b. same_spot s (pid, v) ≡ b → ((had && not (is_in_range pid a at s && named)) && not (b && names g o)) ≡ (had && not (is_in_range pid a (v + 1) s && named))) [
        | true ↦ λ b.
            let is : s ≡ (pid, v) = exact_spot s (pid, v) b in
            let this : names g o ≡ named = sym (ap (λ (s : ℕ × ℕ). names g (entry_at ts s.0 s.1)) is ∙ ap (names g) found) in
            let before : is_in_range pid a at s ≡ false = ap (is_in_range pid a at) is ∙ not_between pid a at pid v high in
            let after : is_in_range pid a (v + 1) s ≡ true = ap (is_in_range pid a (v + 1)) is ∙ between_from pid a (v + 1) pid v refl (omega (arith, low, high)) (omega arith) in
            ap (λ c. (had && not (c && named)) && not (names g o)) before
            ∙ ap (λ c. c && not (names g o)) (sym (and_true had))
            ∙ ap (λ c. had && not c) this
            ∙ ap (λ c. had && not (c && named)) (sym after)
        | false ↦ λ b. sym (and_true (had && not (is_in_range pid a at s && named))) ∙ ap (λ c. had && not c) (between_step ts pid a at v g s low high none b)
      ] refl;
  frames = frames ∙ h.frames;
  pins = pins ∙ h.pins;
}

-- the entries of a range when none is left there
between_end : (ts : Map ℕ Task) (pid a at end g : ℕ) (s : ℕ × ℕ) → at ≤ a + (end - a) → ((w : ℕ) → at ≤ w → w < end → entry_at ts pid w ≡ None)
    → (is_in_range pid a at s && names g (entry_at ts s.0 s.1)) ≡ (is_in_range pid a end s && names g (entry_at ts s.0 s.1))
between_end ts pid a at end g s up none =
    elim (is_in_range pid a at s) as (λ b. is_in_range pid a at s ≡ b → (b && names g (entry_at ts s.0 s.1)) ≡ (is_in_range pid a end s && names g (entry_at ts s.0 s.1))) [
      | true ↦ λ b.
          let parts = between_parts pid a at s.0 s.1 b in
          let from = parts.1 in
          let less = parts.2 in
          sym (ap (λ c. c && names g (entry_at ts s.0 s.1)) (between_from pid a end s.0 s.1 parts.0 from (omega (arith, from, less, up))))
      | false ↦ λ b. elim (is_in_range pid a end s) as (λ c. is_in_range pid a end s ≡ c → false ≡ (c && names g (entry_at ts s.0 s.1))) [
        | true ↦ λ c.
            let parts = between_parts pid a end s.0 s.1 c in
            elim (nat_lt s.1 at) as (λ d. nat_lt s.1 at ≡ d → false ≡ names g (entry_at ts s.0 s.1)) [
              | true ↦ λ d. absurd (true_false (sym (between_from pid a at s.0 s.1 parts.0 parts.1 (ltb-true s.1 at d)) ∙ b))
              | false ↦ λ d. sym (ap (λ q. names g (entry_at ts q s.1)) parts.0 ∙ ap (names g) (none s.1 (ltb-false s.1 at d) parts.2))
            ] refl
        | false ↦ λ c. refl
      ] refl
    ] refl

-- none is left
pub mappers_end : (r t : Mappers) (pid a at end : ℕ) (ts : Map ℕ Task) → IsCleared r t pid a at ts → at ≤ a + (end - a) → ((w : ℕ) → at ≤ w → w < end → entry_at ts pid w ≡ None) → IsCleared r t pid a end ts
mappers_end r t pid a at end ts h up none = record {
  mappings = λ g s. h.mappings g s ∙ ap (λ c. has_spot (mappers_of r g) s && not c) (between_end ts pid a at end g s up none);
  frames = h.frames;
  pins = h.pins;
}

-- entries and mappers, when those of a range are removed up to a page number
pub record IsClearing (ts now : Map ℕ Task) (r t : Mappers) (pid a at end : ℕ) : Type 0 where
  pub pids : IsStrictlySortedBy nat_cmp (keys_of ts)
  pub tables : AllByRecursion (λ e. TableInOrder e.1) ts
  pub tasks : now ≡ without_entries ts pid a at
  pub rmap : IsCleared r t pid a at ts
  pub from : a ≤ at
  pub up : at ≤ a + (end - a)

-- the same of the page number under another name
pub clearing : (ts now : Map ℕ Task) (r t : Mappers) (pid a at end n : ℕ) → n ≡ at → IsStrictlySortedBy nat_cmp (keys_of ts) → AllByRecursion (λ e. TableInOrder e.1) ts
    → now ≡ without_entries ts pid a at → IsCleared r t pid a at ts → a ≤ at → at ≤ a + (end - a) → IsClearing ts now r t pid a n end
clearing ts now r t pid a at end n is pids tables tasks rmap from up =
    subst (λ n. IsClearing ts now r t pid a n end) (sym is) (record { pids = pids; tables = tables; tasks = tasks; rmap = rmap; from = from; up = up })

module _ (ts now : Map ℕ Task) (r t : Mappers) (pid a at end : ℕ) (k : IsClearing ts now r t pid a at end) where
  was : (v : ℕ) (o : Option Entry) → at ≤ v → entry_at now pid v ≡ o → entry_at ts pid v ≡ o
  was = entry_was ts now pid a at k.pids k.tables k.tasks k.from

  -- where none is left, all are removed
  pub cleared_all : ((w : ℕ) → at ≤ w → w < end → entry_at now pid w ≡ None) → (now ≡ without_entries ts pid a end) × IsCleared r t pid a end ts
  cleared_all none = (
    tasks_end ts now pid a at k.pids k.tables k.tasks k.from end k.up none,
    mappers_end r t pid a at end ts k.rmap k.up (λ w l h. was w None l (none w l h)),
  )

  -- a frame that an entry names is one of the map
  pub names_below : (v f : ℕ) (e : Entry) → ((f v : ℕ) → names f (entry_at ts pid v) ≡ true → f < length r.mappings) → at ≤ v → entry_at now pid v ≡ Some e → names f (Some e) ≡ true → f < length t.mappings
  names_below v f e frames low found name = subst (λ n. f < n) (sym k.rmap.frames) (frames f v (ap (names f) (was v (Some e) low found) ∙ name))

  -- one entry is removed, and the mapper that it was
  pub cleared_one : (v : ℕ) (e : Entry) (new : Map ℕ Task) (u : Mappers) → at ≤ v → entry_at now pid v ≡ Some e → ((w : ℕ) → at ≤ w → w < v → entry_at now pid w ≡ None)
      → ((t : Task) → get nat_cmp now pid ≡ Some t → new ≡ replace nat_cmp now pid (without_entry t v)) → IsWithout t u (pid, v) (Some e)
      → (new ≡ without_entries ts pid a (v + 1)) × IsCleared r u pid a (v + 1) ts
  cleared_one v e new u low found none gone less = (
    tasks_step ts now pid a at k.pids k.tables k.tasks k.from v e new low found none gone,
    mappers_step r t u pid a at v ts (Some e) k.rmap k.from low (λ w l h. was w None l (none w l h)) (was v (Some e) low found) less.less less.frames less.pins,
  )

-- the page number and the entry that were found
abbrev pub number_found : (n : ℕ) {v : ℕ} → n ≤ v → ℕ
number_found n {v = v} h = v

abbrev pub entry_found : (o : Option Entry) {e : Entry} → o ≡ Some e → Entry
entry_found o {e = e} h = e
