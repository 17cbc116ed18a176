-- Entries that are changed to name another frame.
use Rattle.std.proofs.Common.{◌≡◌, ℕ, List, [], ◌∷◌, Bool, true, false, cond, refl, sym, ap, subst, ◌∙◌}
use Rattle.std.specs.Prelude.{Option, Some, None, IsSome, ◌||◌, ◌&&◌}
use Rattle.std.specs.BTreeMap.{is_at}
use Rattle.std.specs.List.{AllByRecursion}
use Rattle.std.specs.List.Sorted.{IsStrictlySortedBy}
use Rattle.std.specs.Map.{keys_of}
use Rattle.std.specs.Ordering.{nat_cmp, is_eq}
use Rattle.std.specs.Cmp.{nat_cmp_total, tied_then, tied_itself, eq_by_cmp_equiv}
use Rattle.std.proofs.lemmas.Bool.{or_left, or_right}
use Rattle.std.proofs.lemmas.Map.Lookups.{exact_unsigned, exact_pairs}
use Rattle.nm_types.specs.declared.area.Area.{Area}
use Rattle.nm_types.specs.Map.{Map, get, replace, with_values, spot_cmp}
use Rattle.nm_types.specs.declared.entry.Entry.{Entry}
use Rattle.nm_types.specs.declared.entry.Entry.TheVariants.{Zero, Frame, Held}
use Rattle.nm_model.specs.definitions.PageTables.{Task, entry_at, entry_in}
use Rattle.nm_spaces.specs.views.ProcessTable.{names, IsThere, with_other_entry, put_entry, replaced_in, with_frame_at_all}
use Rattle.nm_model.specs.definitions.PageTables.{process_of, sight_of}
use Rattle.nm_spaces.specs.definitions.Tied.{has_spot}
use Rattle.nm_types.proofs.Maps.{equal, spot_cmp_total, with_values-replace_alike, get-replace}
use Rattle.nm_types.proofs.Keys.{keys-replace, All-replace, All-get}

-- whether an entry names a frame
abbrev pub is_mapped : Option Entry → Bool
is_mapped None = false
is_mapped (Some Zero) = false
is_mapped (Some (Frame g)) = true
is_mapped (Some (Held g)) = true

-- whether two places are the same
abbrev pub same_spot : ℕ × ℕ → ℕ × ℕ → Bool
same_spot q s = is_at (spot_cmp q) s

pub flip_spot : (a b : ℕ × ℕ) → same_spot a b ≡ same_spot b a
flip_spot a b = (eq_by_cmp_equiv spot_cmp_total).symm a b

pub exact_spot : (a b : ℕ × ℕ) → same_spot a b ≡ true → a ≡ b
exact_spot a b h = exact_pairs nat_cmp nat_cmp exact_unsigned exact_unsigned a b (equal _ h)

there : (o : Option Entry) → is_mapped o ≡ true → IsSome o
there None h = cc
there (Some e) h = refl

table_shows : (areas : Map (ℕ × ℕ) Area) (pid : ℕ) (table : Map ℕ Entry) (v to : ℕ) (o : Option Entry) → get nat_cmp table v ≡ o → is_mapped o ≡ true
    → with_values (sight_of areas pid) (replace nat_cmp table v (Frame to)) ≡ with_values (sight_of areas pid) table
table_shows areas pid table v to None e h = cc
table_shows areas pid table v to (Some Zero) e h = cc
table_shows areas pid table v to (Some (Frame g)) e h = with_values-replace_alike nat_cmp (sight_of areas pid) table v (Frame g) (Frame to) e (λ q. refl)
table_shows areas pid table v to (Some (Held g)) e h = with_values-replace_alike nat_cmp (sight_of areas pid) table v (Held g) (Frame to) e (λ q. refl)

replaced_in_shows : (areas : Map (ℕ × ℕ) Area) (tasks : Map ℕ Task) (pid v to : ℕ) (o : Option Task) → get nat_cmp tasks pid ≡ o → is_mapped (entry_in o v) ≡ true
    → with_values (process_of areas) (replaced_in tasks o pid v (Frame to)) ≡ with_values (process_of areas) tasks
replaced_in_shows areas tasks pid v to None e h = refl
replaced_in_shows areas tasks pid v to (Some t) e h =
    with_values-replace_alike nat_cmp (process_of areas) tasks pid t (with_other_entry t v (Frame to)) e
    (λ q. ap (λ s. record { uid = t.info.uid; privileged = t.info.privileged; home = t.info.home; allowed = t.info.allowed; sees = s }) (table_shows areas q t.table v to (get nat_cmp t.table v) refl h))

-- an entry that names another frame shows what it showed
pub replaced_shows : (areas : Map (ℕ × ℕ) Area) (tasks : Map ℕ Task) (q : ℕ × ℕ) (to : ℕ) → is_mapped (entry_at tasks q.0 q.1) ≡ true
    → with_values (process_of areas) (put_entry tasks (Frame to) q) ≡ with_values (process_of areas) tasks
replaced_shows areas tasks q to h = replaced_in_shows areas tasks q.0 q.1 to (get nat_cmp tasks q.0) refl h

in_replaced : (tasks : Map ℕ Task) (e : Entry) (p v : ℕ) (o : Option Task) (q w : ℕ) → get nat_cmp tasks p ≡ o → IsSome (entry_in o v)
    → entry_at (replaced_in tasks o p v e) q w ≡ cond (is_eq (nat_cmp p q) && is_eq (nat_cmp v w)) (Some e) (entry_at tasks q w)
in_replaced tasks e p v None q w g h = cc
in_replaced tasks e p v (Some t) q w g h =
    let new : Task = with_other_entry t v e in
    ap (λ o. entry_in o w) (get-replace nat_cmp_total exact_unsigned tasks p new q (subst IsSome (sym g) refl))
    ∙ elim (is_eq (nat_cmp p q)) as (λ b. is_eq (nat_cmp p q) ≡ b → entry_in (cond b (Some new) (get nat_cmp tasks q)) w ≡ cond (b && is_eq (nat_cmp v w)) (Some e) (entry_in (get nat_cmp tasks q) w)) [
      | true ↦ λ b. get-replace nat_cmp_total exact_unsigned t.table v e w h
          ∙ ap (λ o. cond (is_eq (nat_cmp v w)) (Some e) (entry_in o w)) (sym g ∙ ap (get nat_cmp tasks) (exact_unsigned p q (equal _ b)))
      | false ↦ λ b. refl
    ] refl

-- what is found after another entry is put where there is one
pub entry_at-replaced : (tasks : Map ℕ Task) (e : Entry) (s q : ℕ × ℕ) → IsThere tasks s
    → entry_at (put_entry tasks e s) q.0 q.1 ≡ cond (same_spot q s) (Some e) (entry_at tasks q.0 q.1)
entry_at-replaced tasks e s q h =
    in_replaced tasks e s.0 s.1 (get nat_cmp tasks s.0) q.0 q.1 refl h
    ∙ ap (λ b. cond b (Some e) (entry_at tasks q.0 q.1)) (tied_then (nat_cmp s.0 q.0) (nat_cmp s.1 q.1) ∙ flip_spot s q)

there_stays : (tasks : Map ℕ Task) (e : Entry) (s q : ℕ × ℕ) → IsThere tasks s → IsThere tasks q → IsThere (put_entry tasks e s) q
there_stays tasks e s q h k = subst IsSome (sym (entry_at-replaced tasks e s q h)) (elim (same_spot q s) as (λ b. IsSome (cond b (Some e) (entry_at tasks q.0 q.1))) [ true ↦ refl | false ↦ k ])

-- entries that are there stay there
pub all_there_stay : (tasks : Map ℕ Task) (e : Entry) (s : ℕ × ℕ) (mappings : List (ℕ × ℕ)) → IsThere tasks s → AllByRecursion (IsThere tasks) mappings → AllByRecursion (IsThere (put_entry tasks e s)) mappings
all_there_stay tasks e s [] h k = tt
all_there_stay tasks e s (q ∷ mappings) h k = (there_stays tasks e s q h k.0, all_there_stay tasks e s mappings h k.1)

-- the entries at these places name frames
abbrev pub AllMapped : Map ℕ Task → List (ℕ × ℕ) → Type 0
AllMapped tasks mappings = AllByRecursion (λ q. is_mapped (entry_at tasks q.0 q.1) ≡ true) mappings

mapped_stays : (tasks : Map ℕ Task) (s q : ℕ × ℕ) (to : ℕ) → is_mapped (entry_at tasks s.0 s.1) ≡ true → is_mapped (entry_at tasks q.0 q.1) ≡ true → is_mapped (entry_at (put_entry tasks (Frame to) s) q.0 q.1) ≡ true
mapped_stays tasks s q to h k =
    ap is_mapped (entry_at-replaced tasks (Frame to) s q (there _ h)) ∙ elim (same_spot q s) as (λ b. is_mapped (cond b (Some (Frame to)) (entry_at tasks q.0 q.1)) ≡ true) [ true ↦ refl | false ↦ k ]

all_stay : (tasks : Map ℕ Task) (s : ℕ × ℕ) (to : ℕ) (mappings : List (ℕ × ℕ)) → is_mapped (entry_at tasks s.0 s.1) ≡ true → AllMapped tasks mappings → AllMapped (put_entry tasks (Frame to) s) mappings
all_stay tasks s to [] h k = tt
all_stay tasks s to (q ∷ mappings) h k = (mapped_stays tasks s q to h k.0, all_stay tasks s to mappings h k.1)

-- what processes see stays
pub remapped_shows : (areas : Map (ℕ × ℕ) Area) (tasks : Map ℕ Task) (mappings : List (ℕ × ℕ)) (to : ℕ) → AllMapped tasks mappings → with_values (process_of areas) (with_frame_at_all tasks mappings to) ≡ with_values (process_of areas) tasks
remapped_shows areas tasks [] to h = refl
remapped_shows areas tasks (s ∷ mappings) to h = remapped_shows areas (put_entry tasks (Frame to) s) mappings to (all_stay tasks s to mappings h.0 h.1) ∙ replaced_shows areas tasks s to h.0

-- what is found after the entries at some places name another frame
pub entry_at-remapped : (tasks : Map ℕ Task) (mappings : List (ℕ × ℕ)) (to : ℕ) (q : ℕ × ℕ) → AllMapped tasks mappings
    → entry_at (with_frame_at_all tasks mappings to) q.0 q.1 ≡ cond (has_spot mappings q) (Some (Frame to)) (entry_at tasks q.0 q.1)
entry_at-remapped tasks [] to q h = refl
entry_at-remapped tasks (s ∷ mappings) to q h =
    entry_at-remapped (put_entry tasks (Frame to) s) mappings to q (all_stay tasks s to mappings h.0 h.1)
    ∙ ap (cond (has_spot mappings q) (Some (Frame to))) (entry_at-replaced tasks (Frame to) s q (there _ h.0))
    ∙ elim (same_spot q s) as (λ a. cond (has_spot mappings q) (Some (Frame to)) (cond a (Some (Frame to)) (entry_at tasks q.0 q.1)) ≡ cond (a || has_spot mappings q) (Some (Frame to)) (entry_at tasks q.0 q.1)) [
      | true ↦ elim (has_spot mappings q) as (λ b. cond b (Some (Frame to)) (Some (Frame to)) ≡ Some (Frame to)) [ true ↦ refl | false ↦ refl ]
      | false ↦ refl
    ]

-- what holds at the places that a list has holds of all in it
pub all_from_has : (P : ℕ × ℕ → Type 0) (mappings : List (ℕ × ℕ)) → ((q : ℕ × ℕ) → has_spot mappings q ≡ true → P q) → AllByRecursion P mappings
all_from_has P [] h = tt
all_from_has P (s ∷ mappings) h =
    (h s (or_left _ _ (ap is_eq (tied_itself spot_cmp_total s))), all_from_has P mappings (λ q k. h q (or_right _ _ k)))

pub mapped_from_names : (f : ℕ) (o : Option Entry) → names f o ≡ true → is_mapped o ≡ true
mapped_from_names f None h = h
mapped_from_names f (Some Zero) h = h
mapped_from_names f (Some (Frame g)) h = refl
mapped_from_names f (Some (Held g)) h = refl

-- the mappers of a frame name one
pub mappers_mapped : (tasks : Map ℕ Task) (mappings : List (ℕ × ℕ)) (f : ℕ) → ((pid v : ℕ) → has_spot mappings (pid, v) ≡ names f (entry_at tasks pid v)) → AllMapped tasks mappings
mappers_mapped tasks mappings f h = all_from_has (λ q. is_mapped (entry_at tasks q.0 q.1) ≡ true) mappings (λ q k. mapped_from_names f _ (sym (h q.0 q.1) ∙ k))

-- the mappers of a frame are entries
pub mappers_there : (tasks : Map ℕ Task) (mappings : List (ℕ × ℕ)) (f : ℕ) → ((pid v : ℕ) → has_spot mappings (pid, v) ≡ names f (entry_at tasks pid v)) → AllByRecursion (IsThere tasks) mappings
mappers_there tasks mappings f h = all_from_has (IsThere tasks) mappings (λ q k. there _ (mapped_from_names f _ (sym (h q.0 q.1) ∙ k)))

keys-replaced_in : (tasks : Map ℕ Task) (o : Option Task) (p v : ℕ) (e : Entry) → keys_of (replaced_in tasks o p v e) ≡ keys_of tasks
keys-replaced_in tasks None p v e = refl
keys-replaced_in tasks (Some t) p v e = keys-replace nat_cmp tasks p (with_other_entry t v e)

pub keys-remapped : (tasks : Map ℕ Task) (mappings : List (ℕ × ℕ)) (to : ℕ) → keys_of (with_frame_at_all tasks mappings to) ≡ keys_of tasks
keys-remapped tasks [] to = refl
keys-remapped tasks (s ∷ mappings) to = keys-remapped (put_entry tasks (Frame to) s) mappings to ∙ keys-replaced_in tasks (get nat_cmp tasks s.0) s.0 s.1 (Frame to)

-- every table has its page numbers in order
abbrev pub TablesInOrder : Map ℕ Task → Type 0
TablesInOrder tasks = AllByRecursion (λ e. IsStrictlySortedBy nat_cmp (keys_of e.1.table)) tasks

abbrev pub TableInOrder : Task → Type 0
TableInOrder t = IsStrictlySortedBy nat_cmp (keys_of t.table)

order-replaced_in : (tasks : Map ℕ Task) (o : Option Task) (p v : ℕ) (e : Entry) → get nat_cmp tasks p ≡ o → TablesInOrder tasks → TablesInOrder (replaced_in tasks o p v e)
order-replaced_in tasks None p v e g h = h
order-replaced_in tasks (Some t) p v e g h =
    All-replace nat_cmp TableInOrder tasks p (with_other_entry t v e) h
    (subst (IsStrictlySortedBy nat_cmp) (sym (keys-replace nat_cmp t.table v e)) (All-get nat_cmp TableInOrder tasks p t h g))

pub order-remapped : (tasks : Map ℕ Task) (mappings : List (ℕ × ℕ)) (to : ℕ) → TablesInOrder tasks → TablesInOrder (with_frame_at_all tasks mappings to)
order-remapped tasks [] to h = h
order-remapped tasks (s ∷ mappings) to h =
    order-remapped (put_entry tasks (Frame to) s) mappings to (order-replaced_in tasks (get nat_cmp tasks s.0) s.0 s.1 (Frame to) refl h)
