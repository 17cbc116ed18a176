-- Going through what a process sees, from one entry to the next.
use Rattle.std.proofs.Common.{arith, ◌≡◌, ℕ, ◌+◌, ◌-◌, ◌<◌, ◌≤◌, nat_lt, ◌&&◌, Bool, true, false, cond, [], ◌∷◌, refl, sym, ap, subst, ◌∙◌, inl, inr, lt-ltb, length}
use Rattle.std.proofs.lemmas.Bool.{cases_order}
use Rattle.std.specs.Prelude.{nat_le, not, Option, Some, None}
use Rattle.std.specs.List.{AllByRecursion}
use Rattle.std.specs.List.Sorted.{IsStrictlySortedBy}
use Rattle.std.specs.Map.{keys_of}
use Rattle.std.specs.Ordering.{nat_cmp, is_eq, is_le}
use Rattle.std.specs.Cmp.{nat_cmp_total, nat_cmp_is, ranked}
use Rattle.std.specs.declared.cmp.Ordering.TheVariants.{Less, Equal, Greater}
use Rattle.std.specs.declared.ops.Bound.TheVariants.{Included, Excluded}
use Rattle.std.specs.BTreeMap.Range.{entries_between}
use Rattle.std.specs.BTreeMap.{is_at}
use Rattle.std.proofs.lemmas.Map.{lookup-none}
use Rattle.std.proofs.lemmas.Map.Entries.{none_below_head}
use Rattle.std.proofs.lemmas.Map.Keys.{sorted_head, sorted_tail}
use Rattle.nm_types.specs.Map.{Map, get, with_values}
use Rattle.nm_types.proofs.Maps.{found_first, get-values}
use Rattle.nm_types.proofs.Cases.{none_some, some_none, some_is}
use Rattle.std.specs.Option.{unwrap_or, option_map}
use Rattle.std.proofs.lemmas.Map.Lookups.{exact_unsigned}
use Rattle.nm_types.specs.declared.area.Area.{Area}
use Rattle.nm_types.specs.declared.sight.Sight.{Sight}
use Rattle.nm_types.specs.State.{Process}
use Rattle.nm_types.proofs.Keys.{All-get}
use Rattle.nm_types.specs.declared.entry.Entry.{Entry}
use Rattle.nm_model.specs.definitions.Areas.{Mapping}
use Rattle.nm_rmap.specs.Mappers.{Mappers}
use Rattle.nm_model.specs.definitions.PageTables.{Task, entry_in, entry_at}
use Rattle.nm_spaces.specs.views.ProcessTable.{task_table, entries_in}
use Rattle.nm_spaces.specs.views.AddressSpaces.{AddressSpacesView, spaces_view}
use Rattle.nm_model.specs.definitions.PageTables.{sight_of, process_of}
use Rattle.nm_spaces.specs.definitions.Tied.{IsTied}
use Rattle.nm_model.specs.definitions.Seen.{between, sights}

is_low : (first k : ℕ) → first ≤ k → nat_le first k ≡ true
is_low first k h = grind (arith, h)

is_past : (first k : ℕ) → k < first → nat_le first k ≡ false
is_past first k h = grind (arith, h)

is_out : (first k : ℕ) → (first ≤ k → ⊥) → nat_le first k ≡ false
is_out first k h = elim (cases_order first k) [
  | inl e ↦ absurd (h (omega (arith, e)))
  | inr o ↦ elim o [ inl lt ↦ absurd (h (omega (arith, lt))) | inr gt ↦ grind (arith, gt) ]
]

both : (a b : Bool) → (a && b) ≡ true → (a ≡ true) × (b ≡ true)
both true true h = (refl, refl)
both true false h = cc
both false b h = cc

in_low : (first k end : ℕ) → (nat_le first k && nat_lt k end) ≡ true → first ≤ k
in_low first k end h = let le : nat_le first k ≡ true = (both (nat_le first k) (nat_lt k end) h).0 in grind (arith, le)

in_high : (first k end : ℕ) → (nat_le first k && nat_lt k end) ≡ true → k < end
in_high first k end h = let lt : nat_lt k end ≡ true = (both (nat_le first k) (nat_lt k end) h).1 in grind (arith, lt)

module _ {V : Type 0} where
  not_head : (e : ℕ × V) (m : Map ℕ V) (v : ℕ) → e.0 < v → get nat_cmp m v ≡ get nat_cmp (e ∷ m) v
  not_head e m v gt = ap (λ r. cond (is_eq r) (Some e.1) (get nat_cmp m v)) (nat_cmp_is v e.0 Greater gt)

  none_behind : (e : ℕ × V) (m : Map ℕ V) (w : ℕ) → get nat_cmp (e ∷ m) w ≡ None → get nat_cmp m w ≡ None
  none_behind e m w h =
      elim (is_eq (nat_cmp w e.0)) as (λ b. cond b (Some e.1) (get nat_cmp m w) ≡ None → get nat_cmp m w ≡ None) [
        | true ↦ λ h. absurd (some_none h)
        | false ↦ λ h. h
      ] h

  below_head : (e : ℕ × V) (m : Map ℕ V) (v : ℕ) → IsStrictlySortedBy nat_cmp (keys_of (e ∷ m)) → v < e.0 → get nat_cmp (e ∷ m) v ≡ None
  below_head e m v s lt = lookup-none (is_at (nat_cmp v)) (e ∷ m) (none_below_head nat_cmp_total v e m s (sym (nat_cmp_is v e.0 Less lt)))

  -- past the numbers of a list it does not matter where a range begins
  same_above : (first next end : ℕ) (m : Map ℕ V) → AllByRecursion (λ k. (first ≤ k) × (next ≤ k)) (keys_of m) → between first end m ≡ between next end m
  same_above first next end [] h = refl
  same_above first next end (e ∷ m) h =
      let rest = same_above first next end m h.1 in
      let one : nat_le first e.0 ≡ true = is_low first e.0 h.0.0 in
      let other : nat_le next e.0 ≡ true = is_low next e.0 h.0.1 in
      rw one (rw other (ap (λ (es : Map ℕ V). cond (nat_lt e.0 end) (e ∷ es) es) rest))

  above : (m : Map ℕ V) (first k : ℕ) → first ≤ k → AllByRecursion (λ y. nat_cmp k y ≡ Less) (keys_of m) → AllByRecursion (λ y. (first ≤ y) × (k + 1 ≤ y)) (keys_of m)
  above [] first k le h = tt
  above (e ∷ m) first k le h =
      let lt : k < e.0 = ranked k e.0 Less (sym h.0) in
      ((omega (arith, le, lt), omega (arith, lt)), above m first k le h.1)

  -- the first entry of a range, and those after it
  pub next_between : (m : Map ℕ V) (first end v : ℕ) (x : V) → IsStrictlySortedBy nat_cmp (keys_of m) → get nat_cmp m v ≡ Some x → first ≤ v → v < end → ((w : ℕ) → first ≤ w → w < v → get nat_cmp m w ≡ None)
      → between first end m ≡ (v, x) ∷ between (v + 1) end m
  next_between [] first end v x s there low high none = cc
  next_between (e ∷ m) first end v x s there low high none =
      let tail = sorted_tail nat_cmp e.0 (keys_of m) s in
      elim (cases_order v e.0) [
        | inl is ↦
            let found : get nat_cmp (e ∷ m) v ≡ Some e.1 = ap (get nat_cmp (e ∷ m)) is ∙ found_first nat_cmp_total exact_unsigned e m in
            let value : x ≡ e.1 = some_is (sym there ∙ found) in
            let in_low : nat_le first e.0 ≡ true = is_low first e.0 (omega (arith, is, low)) in
            let in_high : nat_lt e.0 end ≡ true = lt-ltb e.0 end (omega (arith, is, high)) in
            let past : nat_le (v + 1) e.0 ≡ false = is_past (v + 1) e.0 (omega (arith, is)) in
            let rest = same_above first (v + 1) end m (subst (λ k. AllByRecursion (λ y. (first ≤ y) × (k + 1 ≤ y)) (keys_of m)) (sym is) (above m first e.0 (omega (arith, is, low)) (sorted_head nat_cmp e.0 (keys_of m) s))) in
            let head : (e.0, e.1) ≡ (v, x) = λ j. (sym is j, sym value j) in
            rw in_low (rw in_high (rw past (ap (λ es. e ∷ es) rest ∙ ap (λ (y : ℕ × V). y ∷ between (v + 1) end m) head)))
        | inr o ↦ elim o [
          | inl lt ↦ absurd (none_some (sym (below_head e m v s lt) ∙ there))
          | inr gt ↦
              let out : nat_le first e.0 ≡ false = is_out first e.0 (λ le. none_some (sym (none e.0 le gt) ∙ found_first nat_cmp_total exact_unsigned e m)) in
              let past : nat_le (v + 1) e.0 ≡ false = is_past (v + 1) e.0 (omega (arith, gt)) in
              rw out (rw past (next_between m first end v x tail (not_head e m v gt ∙ there) low high (λ w a b. none_behind e m w (none w a b))))
        ]
      ]

  -- nothing is in a range where nothing is found in it
  pub none_between : (m : Map ℕ V) (first end : ℕ) → IsStrictlySortedBy nat_cmp (keys_of m) → ((w : ℕ) → first ≤ w → w < end → get nat_cmp m w ≡ None) → between first end m ≡ []
  none_between [] first end s none = refl
  none_between (e ∷ m) first end s none =
      let rest = none_between m first end (sorted_tail nat_cmp e.0 (keys_of m) s) (λ w a b. none_behind e m w (none w a b)) in
      elim (nat_le first e.0 && nat_lt e.0 end) as (λ b. (nat_le first e.0 && nat_lt e.0 end) ≡ b → cond b (e ∷ between first end m) (between first end m) ≡ []) [
        | true ↦ λ b. absurd (none_some (sym (none e.0 (in_low first e.0 end b) (in_high first e.0 end b)) ∙ found_first nat_cmp_total exact_unsigned e m))
        | false ↦ λ b. rest
      ] refl

  -- a range has no more entries than numbers
  pub few_between : (m : Map ℕ V) (first end : ℕ) → IsStrictlySortedBy nat_cmp (keys_of m) → length (between first end m) ≤ end - first
  few_between [] first end s = omega arith
  few_between (e ∷ m) first end s =
      let tail = sorted_tail nat_cmp e.0 (keys_of m) s in
      elim (nat_le first e.0 && nat_lt e.0 end) as (λ b. (nat_le first e.0 && nat_lt e.0 end) ≡ b → length (cond b (e ∷ between first end m) (between first end m)) ≤ end - first) [
        | true ↦ λ b.
            let low = in_low first e.0 end b in
            let high = in_high first e.0 end b in
            let rest = few_between m (e.0 + 1) end tail in
            let same = ap length (same_above first (e.0 + 1) end m (above m first e.0 low (sorted_head nat_cmp e.0 (keys_of m) s))) in
            omega (arith, low, high, rest, same)
        | false ↦ λ b. few_between m first end tail
      ] refl

-- a range as maps have it
low_same : (a v : ℕ) → is_le (nat_cmp a v) ≡ nat_le a v
low_same a v = elim (cases_order a v) [
  | inl e ↦ ap is_le (sym (nat_cmp_is a v Equal e)) ∙ sym (is_low a v (omega (arith, e)))
  | inr o ↦ elim o [
    | inl lt ↦ ap is_le (sym (nat_cmp_is a v Less lt)) ∙ sym (is_low a v (omega (arith, lt)))
    | inr gt ↦ ap is_le (sym (nat_cmp_is a v Greater gt)) ∙ sym (is_past a v gt)
  ]
]

high_same : (v b : ℕ) → not (nat_le b v) ≡ nat_lt v b
high_same v b = elim (cases_order v b) [
  | inl e ↦ ap not (is_low b v (omega (arith, e))) ∙ sym (let out : nat_lt v b ≡ false = grind (arith, e) in out)
  | inr o ↦ elim o [
    | inl lt ↦ ap not (is_past b v lt) ∙ sym (lt-ltb v b lt)
    | inr gt ↦ ap not (is_low b v (omega (arith, gt))) ∙ sym (let out : nat_lt v b ≡ false = grind (arith, gt) in out)
  ]
]

pub ranged : {V : Type 0} (m : Map ℕ V) (first end : ℕ) → entries_between nat_cmp (Included first) (Excluded end) m ≡ between first end m
ranged [] first end = refl
ranged (e ∷ m) first end =
    let test : (is_le (nat_cmp first e.0) && not (is_le (nat_cmp end e.0))) ≡ (nat_le first e.0 && nat_lt e.0 end) = λ j. low_same first e.0 j && (ap not (low_same end e.0) ∙ high_same e.0 end) j in
    ap (λ b. cond b (e ∷ entries_between nat_cmp (Included first) (Excluded end) m) (entries_between nat_cmp (Included first) (Excluded end) m)) test
    ∙ ap (λ es. cond (nat_le first e.0 && nat_lt e.0 end) (e ∷ es) es) (ranged m first end)

pub found_in : (o : Option Task) (v : ℕ) → entry_in o v ≡ get nat_cmp (unwrap_or (option_map task_table o) []) v
found_in None v = refl
found_in (Some t) v = refl

abbrev sights_in : Option Process → Map ℕ Sight
sights_in o = unwrap_or (option_map (λ (p : Process). p.sees) o) []

shown_of : (areas : Map (ℕ × ℕ) Area) (pid : ℕ) (o : Option Task) → sights_in (option_map (process_of areas pid) o) ≡ with_values (sight_of areas pid) (unwrap_or (option_map task_table o) [])
shown_of areas pid None = refl
shown_of areas pid (Some t) = refl

pub sorted_of : (tasks : Map ℕ Task) (pid : ℕ) (o : Option Task) → AllByRecursion (λ e. IsStrictlySortedBy nat_cmp (keys_of e.1.table)) tasks → get nat_cmp tasks pid ≡ o → IsStrictlySortedBy nat_cmp (keys_of (unwrap_or (option_map task_table o) []))
unfolding IsStrictlySortedBy
sorted_of tasks pid None h e = tt
sorted_of tasks pid (Some t) h e = All-get nat_cmp (λ (t : Task). IsStrictlySortedBy nat_cmp (keys_of t.table)) tasks pid t h e

between_values : {V W : Type 0} (F : ℕ → V → W) (m : Map ℕ V) (first end : ℕ) → between first end (with_values F m) ≡ with_values F (between first end m)
between_values F [] first end = refl
between_values F (e ∷ m) first end =
    let rest = between_values F m first end in
    elim (nat_le first e.0 && nat_lt e.0 end) as (λ b. cond b ((e.0, F e.0 e.1) ∷ between first end (with_values F m)) (between first end (with_values F m)) ≡ with_values F (cond b (e ∷ between first end m) (between first end m))) [
      | true ↦ ap (λ es. (e.0, F e.0 e.1) ∷ es) rest
      | false ↦ rest
    ]

module _ (y : AddressSpacesView) (tasks : Map ℕ Task) (m : Mapping) (r : Mappers) (pid : ℕ) (is : spaces_view tasks m r ≡ y) (h : IsTied tasks m r) where
  pub sees_shown : sights y.processes pid ≡ with_values (sight_of m.areas pid) (entries_in tasks pid)
  sees_shown =
      ap (λ (y : AddressSpacesView). sights y.processes pid) (sym is)
      ∙ ap sights_in (get-values exact_unsigned (process_of m.areas) tasks pid)
      ∙ shown_of m.areas pid (get nat_cmp tasks pid)

  pub range_shown : (first end : ℕ) → between first end (sights y.processes pid) ≡ with_values (sight_of m.areas pid) (between first end (entries_in tasks pid))
  range_shown first end = ap (between first end) sees_shown ∙ between_values (sight_of m.areas pid) (entries_in tasks pid) first end

  -- what is seen first, by the first entry
  pub next_sight : (first end v : ℕ) (e : Entry) (sight : Sight) → first ≤ v → v < end → entry_at tasks pid v ≡ Some e → ((w : ℕ) → first ≤ w → w < v → entry_at tasks pid w ≡ None) → sight_of m.areas pid v e ≡ sight
      → between first end (sights y.processes pid) ≡ (v, sight) ∷ between (v + 1) end (sights y.processes pid)
  next_sight first end v e sight low high there none shows =
      range_shown first end
      ∙ ap (with_values (sight_of m.areas pid)) (next_between (entries_in tasks pid) first end v e (sorted_of tasks pid (get nat_cmp tasks pid) h.tables refl)
      (sym (found_in (get nat_cmp tasks pid) v) ∙ there) low high (λ w a b. sym (found_in (get nat_cmp tasks pid) w) ∙ none w a b))
      ∙ ap (λ s. (v, s) ∷ with_values (sight_of m.areas pid) (between (v + 1) end (entries_in tasks pid))) shows
      ∙ ap (λ es. (v, sight) ∷ es) (sym (range_shown (v + 1) end))

  -- nothing is seen where no entry is
  pub no_sight : (first end : ℕ) → ((w : ℕ) → first ≤ w → w < end → entry_at tasks pid w ≡ None) → between first end (sights y.processes pid) ≡ []
  no_sight first end none =
      range_shown first end
      ∙ ap (with_values (sight_of m.areas pid)) (none_between (entries_in tasks pid) first end (sorted_of tasks pid (get nat_cmp tasks pid) h.tables refl)
      (λ w a b. sym (found_in (get nat_cmp tasks pid) w) ∙ none w a b))
