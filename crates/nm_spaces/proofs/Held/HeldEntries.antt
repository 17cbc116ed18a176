-- Entries that are held while pages are on their way, and name the new frames afterwards.
use Rattle.std.proofs.Common.{◌≡◌, ◌<◌, ℕ, Bool, map, List, [], ◌∷◌, ◌++◌, true, false, ◌||◌, cond, refl, sym, ap, subst, ◌∙◌, eq-eqb}
use Rattle.std.specs.Prelude.{Option, Some, None, IsSome, ◌==◌, if◌then◌else◌}
use Rattle.std.specs.Option.{option_map, unwrap_or}
use Rattle.std.specs.List.{AllByRecursion, list_any}
use Rattle.std.specs.List.Sorted.{IsStrictlySortedBy}
use Rattle.std.specs.Ordering.{nat_cmp, is_eq}
use Rattle.std.specs.Cmp.{nat_cmp_total, tied_itself}
use Rattle.std.proofs.lemmas.Bool.{eqb-true, ne_eqb, both_ways, or_left, or_right}
use Rattle.std.proofs.lemmas.Map.Lookups.{exact_unsigned}
use Rattle.nm_types.specs.declared.page.Page.{Page}
use Rattle.nm_types.specs.declared.area.Area.{Area}
use Rattle.nm_types.specs.declared.sight.Sight.{Sight}
use Rattle.nm_types.specs.declared.sight.Sight.TheVariants.{ZeroPage, Sees}
use Rattle.nm_types.specs.Map.{Map, get, set, replace, page_cmp, same_page}
use Rattle.nm_types.specs.declared.entry.Entry.{Entry}
use Rattle.nm_types.specs.declared.entry.Entry.TheVariants.{Zero, Frame, Held}
use Rattle.nm_types.specs.declared.page_move.PageMove.{PageMove}
use Rattle.nm_types.proofs.Cases.{some_is}
use Rattle.nm_types.proofs.Keys.{All-get}
use Rattle.nm_types.proofs.Maps.{agree, equal, exact_page, get-set, get-values, keys-values, page_cmp_total, with_values-replace}
use Rattle.nm_model.specs.definitions.Areas.{Mapping, with_frame}
use Rattle.nm_model.specs.definitions.Events.{arrival_of, with_changed, with_entries}
use Rattle.nm_model.specs.definitions.PageTables.{Task, entry_at, entry_in, entry_of, sight_of}
use Rattle.nm_model.specs.definitions.Seen.{sight_in}
use Rattle.nm_laws.proofs.InFlight.Values.{values_same, entries_show, changed_at}
use Rattle.nm_rmap.specs.Mappers.{Mappers, mappers_of, carry}
use Rattle.nm_spaces.specs.views.AddressSpaces.{AddressSpacesView, spaces_view, with_moved}
use Rattle.nm_spaces.specs.views.Held.{is_taken}
use Rattle.nm_laws.specs.InFlight.{entry_in_flight, hold_entry}
use Rattle.nm_spaces.specs.definitions.Moves.{CanRemap, all_moved}
use Rattle.nm_spaces.specs.views.ProcessTable.{names, IsThere, with_other_entry, put_entry, replaced_in, all_replaced, with_frame_at_all}
use Rattle.nm_spaces.specs.definitions.Tied.{IsTied, AreInOrder, has_spot}
use Rattle.nm_spaces.proofs.Tied.Beginnings.{entry_again, seen_here}
use Rattle.nm_spaces.proofs.Moves.OnePage.{IsSpare, frame_held, move_tied, move_shows}
use Rattle.nm_spaces.proofs.Held.ReplacedEntries.{TableInOrder, same_spot, all_from_has, all_there_stay, entry_at-replaced}

-- ---- entries that are replaced, and then changed

changed_replaced : (c : Entry → Entry) (tasks : Map ℕ Task) (p v : ℕ) (e : Entry) (o : Option Task)
    → with_entries c (replaced_in tasks o p v e) ≡ replaced_in (with_entries c tasks) (option_map (with_changed c) o) p v (c e)
changed_replaced c tasks p v e None = refl
changed_replaced c tasks p v e (Some t) =
    with_values-replace exact_unsigned (λ pid. with_changed c) tasks p (with_other_entry t v e)
    ∙ ap (λ (table : Map ℕ Entry). replace nat_cmp (with_entries c tasks) p (record t { table = table })) (with_values-replace exact_unsigned (λ v e. c e) t.table v e)

changed_one : (c : Entry → Entry) (tasks : Map ℕ Task) (e : Entry) (s : ℕ × ℕ) → with_entries c (put_entry tasks e s) ≡ put_entry (with_entries c tasks) (c e) s
changed_one c tasks e s =
    changed_replaced c tasks s.0 s.1 e (get nat_cmp tasks s.0)
    ∙ ap (λ (o : Option Task). replaced_in (with_entries c tasks) o s.0 s.1 (c e)) (sym (get-values exact_unsigned (λ pid. with_changed c) tasks s.0))

changed_all : (c : Entry → Entry) (tasks : Map ℕ Task) (l : List (ℕ × ℕ)) (e : Entry) → with_entries c (all_replaced tasks l e) ≡ all_replaced (with_entries c tasks) l (c e)
changed_all c tasks [] e = refl
changed_all c tasks (s ∷ l) e = changed_all c (put_entry tasks e s) l e ∙ ap (λ (ts : Map ℕ Task). all_replaced ts l (c e)) (changed_one c tasks e s)

-- what is found after other entries
entry_at-all_replaced : (tasks : Map ℕ Task) (l : List (ℕ × ℕ)) (e : Entry) (q : ℕ × ℕ) → AllByRecursion (IsThere tasks) l
    → entry_at (all_replaced tasks l e) q.0 q.1 ≡ cond (has_spot l q) (Some e) (entry_at tasks q.0 q.1)
entry_at-all_replaced tasks [] e q h = refl
entry_at-all_replaced tasks (s ∷ l) e q h =
    entry_at-all_replaced (put_entry tasks e s) l e q (all_there_stay tasks e s l h.0 h.1)
    ∙ ap (cond (has_spot l q) (Some e)) (entry_at-replaced tasks e s q h.0)
    ∙ elim (same_spot q s) as (λ a. cond (has_spot l q) (Some e) (cond a (Some e) (entry_at tasks q.0 q.1)) ≡ cond (a || has_spot l q) (Some e) (entry_at tasks q.0 q.1)) [
      | true ↦ elim (has_spot l q) as (λ b. cond b (Some e) (Some e) ≡ Some e) [ true ↦ refl | false ↦ refl ]
      | false ↦ refl
    ]

-- ---- entries that are replaced by what is there

replace_same : {V : Type 0} (m : Map ℕ V) (k : ℕ) (v : V) → get nat_cmp m k ≡ Some v → replace nat_cmp m k v ≡ m
replace_same [] k v h = refl
replace_same (e ∷ m) k v h =
    elim (is_eq (nat_cmp k e.0)) as (λ b. cond b (Some e.1) (get nat_cmp m k) ≡ Some v → cond b ((e.0, v) ∷ m) (e ∷ replace nat_cmp m k v) ≡ e ∷ m) [
      | true ↦ λ h. ap (λ x. (e.0, x) ∷ m) (sym (some_is h))
      | false ↦ λ h. ap (λ es. e ∷ es) (replace_same m k v h)
    ] h

replaced_in_same : (tasks : Map ℕ Task) (p v : ℕ) (e : Entry) (o : Option Task) → get nat_cmp tasks p ≡ o → entry_in o v ≡ Some e → replaced_in tasks o p v e ≡ tasks
replaced_in_same tasks p v e None g h = refl
replaced_in_same tasks p v e (Some t) g h =
    ap (λ (table : Map ℕ Entry). replace nat_cmp tasks p (record t { table = table })) (replace_same t.table v e h) ∙ replace_same tasks p t g

all_same : (tasks : Map ℕ Task) (l : List (ℕ × ℕ)) (e : Entry) → AllByRecursion (λ s. entry_at tasks s.0 s.1 ≡ Some e) l → all_replaced tasks l e ≡ tasks
all_same tasks [] e h = refl
all_same tasks (s ∷ l) e h =
    ap (λ (ts : Map ℕ Task). all_replaced ts l e) (replaced_in_same tasks s.0 s.1 e (get nat_cmp tasks s.0) refl h.0) ∙ all_same tasks l e h.1

-- ---- entries that have arrived

some_mapped : {X Y : Type 0} (f : X → Y) (o : Option X) → IsSome (option_map f o) → IsSome o
some_mapped f (Some x) h = refl
some_mapped f None h = h

arrived_alike : (areas : Map (ℕ × ℕ) Area) (pid v : ℕ) (e : Entry) → sight_of areas pid v (arrival_of e) ≡ sight_of areas pid v e
arrived_alike areas pid v Zero = refl
arrived_alike areas pid v (Frame f) = refl
arrived_alike areas pid v (Held f) = refl

-- what processes see does not depend on whether entries have arrived
pub shown_arrived : (tasks : Map ℕ Task) (m : Mapping) (r : Mappers) → spaces_view (with_entries arrival_of tasks) m r ≡ spaces_view tasks m r
shown_arrived tasks m r = λ i. record (spaces_view tasks m r) { processes = entries_show arrival_of arrived_alike m.areas tasks i }

arrived_named : (f : ℕ) (o : Option Entry) → names f (option_map arrival_of o) ≡ true → option_map arrival_of o ≡ Some (Frame f)
arrived_named f None h = cc
arrived_named f (Some Zero) h = cc
arrived_named f (Some (Frame g)) h = ap (λ n. Some (Frame n)) (eqb-true g f h)
arrived_named f (Some (Held g)) h = ap (λ n. Some (Frame n)) (eqb-true g f h)

arrived_is : (e : Entry) → ((f : ℕ) → e ≡ Held f → ⊥) → arrival_of e ≡ e
arrived_is Zero h = refl
arrived_is (Frame f) h = refl
arrived_is (Held f) h = absurd (h f refl)

tables_before : (c : Entry → Entry) (tasks : Map ℕ Task) → AllByRecursion (λ e. TableInOrder e.1) (with_entries c tasks) → AllByRecursion (λ e. TableInOrder e.1) tasks
tables_before c [] h = tt
tables_before c (e ∷ tasks) h = (subst (IsStrictlySortedBy nat_cmp) (keys-values (λ v x. c x) e.1.table) h.0, tables_before c tasks h.1)

-- the order is that of what is there once entries have arrived
pub order_before : (tasks : Map ℕ Task) → AreInOrder (with_entries arrival_of tasks) → AreInOrder tasks
order_before tasks h = record {
  pids = subst (IsStrictlySortedBy nat_cmp) (keys-values (λ pid. with_changed arrival_of) tasks) h.pids;
  tables = tables_before arrival_of tasks h.tables;
}

-- where no entry is held, all have arrived
pub all_arrived : (tasks : Map ℕ Task) → AreInOrder tasks → ((f pid v : ℕ) → entry_at tasks pid v ≡ Some (Held f) → ⊥) → with_entries arrival_of tasks ≡ tasks
all_arrived tasks h none =
    agree nat_cmp_total exact_unsigned (λ pid. with_changed arrival_of) (λ pid t. t) tasks h.pids (λ pid t found.
    ap (λ (table : Map ℕ Entry). record t { table = table })
    (agree nat_cmp_total exact_unsigned (λ v e. arrival_of e) (λ v e. e) t.table (All-get nat_cmp TableInOrder tasks pid t h.tables found)
    (λ v e k. arrived_is e (λ f is. none f pid v (ap (λ (o : Option Task). entry_in o v) found ∙ k ∙ ap Some is))) ∙ values_same t.table))
    ∙ values_same tasks

pub order_in : (tasks : Map ℕ Task) (m : Mapping) (r : Mappers) → IsTied tasks m r → AreInOrder tasks
order_in tasks m r h = record { pids = h.pids; tables = h.tables }

-- ---- a page is on its way

-- an entry that names the frame that a page leaves is held, on its way to the frame that the page takes
abbrev pub held_for : ℕ → ℕ → Entry → Entry
held_for from to Zero = Zero
held_for from to (Frame f) = if f == from then Held to else Frame f
held_for from to (Held f) = if f == from then Held to else Held f

held_entry : (from to : ℕ) (o : Option Entry) → cond (names from (option_map arrival_of o)) (Some (Held to)) o ≡ option_map (held_for from to) o
held_entry from to None = refl
held_entry from to (Some Zero) = refl
held_entry from to (Some (Frame g)) = elim (g == from) as (λ b. cond b (Some (Held to)) (Some (Frame g)) ≡ Some (cond b (Held to) (Frame g))) [ true ↦ refl | false ↦ refl ]
held_entry from to (Some (Held g)) = elim (g == from) as (λ b. cond b (Some (Held to)) (Some (Held g)) ≡ Some (cond b (Held to) (Held g))) [ true ↦ refl | false ↦ refl ]

-- the entries that name a frame once they have arrived are there
module _ (tasks : Map ℕ Task) (l : List (ℕ × ℕ)) (f : ℕ) (named : (pid v : ℕ) → has_spot l (pid, v) ≡ names f (entry_at (with_entries arrival_of tasks) pid v)) where
  named_at : (q : ℕ × ℕ) → has_spot l q ≡ true → names f (option_map arrival_of (entry_at tasks q.0 q.1)) ≡ true
  named_at q k = ap (names f) (sym (changed_at arrival_of tasks q.0 q.1)) ∙ sym (named q.0 q.1) ∙ k

  pub named_there : AllByRecursion (IsThere tasks) l
  named_there = all_from_has (IsThere tasks) l (λ q k. some_mapped arrival_of (entry_at tasks q.0 q.1) (subst IsSome (sym (arrived_named f (entry_at tasks q.0 q.1) (named_at q k))) refl))

  named_here : AllByRecursion (λ s. entry_at (with_entries arrival_of tasks) s.0 s.1 ≡ Some (Frame f)) l
  named_here = all_from_has (λ s. entry_at (with_entries arrival_of tasks) s.0 s.1 ≡ Some (Frame f)) l (λ q k. changed_at arrival_of tasks q.0 q.1 ∙ arrived_named f (entry_at tasks q.0 q.1) (named_at q k))

  -- those of one frame arrive
  pub arrive_same : with_entries arrival_of (all_replaced tasks l (Frame f)) ≡ with_entries arrival_of tasks
  arrive_same = changed_all arrival_of tasks l (Frame f) ∙ all_same (with_entries arrival_of tasks) l (Frame f) named_here

  -- .. and are not held any more
  pub arrive_fewer : (g pid v : ℕ) → entry_at (all_replaced tasks l (Frame f)) pid v ≡ Some (Held g) → (entry_at tasks pid v ≡ Some (Held g)) × (f ≡ g → ⊥)
  arrive_fewer g pid v h =
      elim (has_spot l (pid, v)) as (λ b. has_spot l (pid, v) ≡ b → cond b (Some (Frame f)) (entry_at tasks pid v) ≡ Some (Held g) → (entry_at tasks pid v ≡ Some (Held g)) × (f ≡ g → ⊥)) [
        | true ↦ λ b k. absurd (frame_held k)
        | false ↦ λ b k. (k, λ e. both_ways _ b (named pid v ∙ ap (names f) (changed_at arrival_of tasks pid v ∙ ap (option_map arrival_of) k) ∙ eq-eqb g f (sym e)))
      ] refl (sym (entry_at-all_replaced tasks l (Frame f) (pid, v) named_there) ∙ h)

module _ (tasks : Map ℕ Task) (m : Mapping) (r : Mappers) (p : Page) (from to : ℕ) (t : IsTied (with_entries arrival_of tasks) m r) (placed : get page_cmp m.place p ≡ Some from) (spare : IsSpare m r to) where
  arrives : with_entries arrival_of (all_replaced tasks (mappers_of r from) (Held to)) ≡ with_frame_at_all (with_entries arrival_of tasks) (mappers_of r from) to
  arrives = changed_all arrival_of tasks (mappers_of r from) (Held to)

  pub hold_tied : IsTied (with_entries arrival_of (all_replaced tasks (mappers_of r from) (Held to))) (with_frame m p to) (carry r from to)
  hold_tied = subst (λ (ts : Map ℕ Task). IsTied ts (with_frame m p to) (carry r from to)) (sym arrives) (move_tied (with_entries arrival_of tasks) m r p from to t placed spare)

  pub hold_shows : spaces_view (all_replaced tasks (mappers_of r from) (Held to)) (with_frame m p to) (carry r from to) ≡ with_moved (spaces_view tasks m r) p to
  hold_shows =
      sym (shown_arrived (all_replaced tasks (mappers_of r from) (Held to)) (with_frame m p to) (carry r from to))
      ∙ ap (λ (ts : Map ℕ Task). spaces_view ts (with_frame m p to) (carry r from to)) arrives
      ∙ move_shows (with_entries arrival_of tasks) m r p from to t placed spare
      ∙ ap (λ (y : AddressSpacesView). with_moved y p to) (shown_arrived tasks m r)

  pub hold_entries : (pid v : ℕ) → entry_at (all_replaced tasks (mappers_of r from) (Held to)) pid v ≡ option_map (held_for from to) (entry_at tasks pid v)
  hold_entries pid v =
      entry_at-all_replaced tasks (mappers_of r from) (Held to) (pid, v) (named_there tasks (mappers_of r from) from (t.mappers from))
      ∙ ap (λ b. cond b (Some (Held to)) (entry_at tasks pid v)) (t.mappers from pid v ∙ ap (names from) (changed_at arrival_of tasks pid v))
      ∙ held_entry from to (entry_at tasks pid v)

-- pages that are held, and frames
held_held : {f g : ℕ} → Held f ≡ Held g → f ≡ g
held_held e = cc

frame_is_held : {f g : ℕ} → Frame f ≡ Held g → ⊥
frame_is_held e = cc

zero_is_held : {g : ℕ} → Zero ≡ Held g → ⊥
zero_is_held e = cc

-- ---- pages on their way, one after another

-- while no page is on its way, an entry names the frame of the page
pub none_moving : (place : Map Page ℕ) (o : Option Sight) → option_map (entry_of place) o ≡ option_map (entry_in_flight place []) o
none_moving place None = refl
none_moving place (Some ZeroPage) = refl
none_moving place (Some (Sees p)) = refl

-- whether a page is one of these or the next
among_more : (q p : Page) (pages : List Page) → list_any (same_page q) (pages ++ p ∷ []) ≡ (list_any (same_page q) pages || same_page q p)
among_more q p [] = elim (same_page q p) as (λ b. (b || false) ≡ b) [ true ↦ refl | false ↦ refl ]
among_more q p (x ∷ pages) =
    ap (λ b. same_page q x || b) (among_more q p pages)
    ∙ elim (same_page q x) as (λ b. (b || (list_any (same_page q) pages || same_page q p)) ≡ ((b || list_any (same_page q) pages) || same_page q p)) [ true ↦ refl | false ↦ refl ]

-- an entry that names another frame, held or not, stays
stays_other : (from to g : ℕ) (b : Bool) → (g ≡ from → ⊥) → held_for from to (cond b (Held g) (Frame g)) ≡ cond b (Held g) (Frame g)
stays_other from to g true apart = ap (λ c. cond c (Held to) (Held g)) (ne_eqb g from apart)
stays_other from to g false apart = ap (λ c. cond c (Held to) (Frame g)) (ne_eqb g from apart)

goes_there : (from to : ℕ) (b : Bool) → held_for from to (cond b (Held from) (Frame from)) ≡ Held to
goes_there from to true = ap (λ c. cond c (Held to) (Held from)) (eq-eqb from from refl)
goes_there from to false = ap (λ c. cond c (Held to) (Frame from)) (eq-eqb from from refl)

module _ (place : Map Page ℕ) (pages : List Page) (page : Page) (from to : ℕ) (placed : get page_cmp place page ≡ Some from)
    (apart : (p q : Page) (f : ℕ) → get page_cmp place p ≡ Some f → get page_cmp place q ≡ Some f → p ≡ q) where
  -- the entry of a page with this frame, if it has one
  abbrev here : Bool → Option ℕ → Entry
  here b o = let e = unwrap_or (option_map Frame o) Zero in cond b (hold_entry e) e

  next_other : (p : Page) (o : Option ℕ) → get page_cmp place p ≡ o → (p ≡ page → ⊥) → (b : Bool) → held_for from to (here b o) ≡ here b o
  next_other p None at other true = refl
  next_other p None at other false = refl
  next_other p (Some g) at other true = stays_other from to g true (λ e. other (apart p page g at (placed ∙ ap Some (sym e))))
  next_other p (Some g) at other false = stays_other from to g false (λ e. other (apart p page g at (placed ∙ ap Some (sym e))))

  next_same : (b : Bool) → held_for from to (here b (Some from)) ≡ Held to
  next_same true = goes_there from to true
  next_same false = goes_there from to false

  -- once another page is on its way, its entry is held
  pub next_moving : (o : Option Sight) → option_map (held_for from to) (option_map (entry_in_flight place pages) o) ≡ option_map (entry_in_flight (set page_cmp place page to) (pages ++ page ∷ [])) o
  next_moving None = refl
  next_moving (Some ZeroPage) = refl
  next_moving (Some (Sees p)) =
      let now = get-set page_cmp_total place page to p in
      let more = among_more p page pages in
      ap Some (elim (same_page p page) as (λ b. same_page p page ≡ b → held_for from to (here (list_any (same_page p) pages) (get page_cmp place p)) ≡ here (list_any (same_page p) (pages ++ page ∷ [])) (get page_cmp (set page_cmp place page to) p)) [
        | true ↦ λ b.
            let same : p ≡ page = exact_page p page (equal _ b) in
            ap (λ o. held_for from to (here (list_any (same_page p) pages) o)) (ap (get page_cmp place) same ∙ placed)
            ∙ next_same (list_any (same_page p) pages)
            ∙ sym ((λ i. here (more i) (now i)) ∙ ap (λ c. here (list_any (same_page p) pages || c) (cond c (Some to) (get page_cmp place p))) b ∙ held_to (list_any (same_page p) pages))
        | false ↦ λ b.
            next_other p (get page_cmp place p) refl (λ e. both_ways _ b (ap (λ q. same_page p q) (sym e) ∙ ap is_eq (tied_itself page_cmp_total p))) (list_any (same_page p) pages)
            ∙ sym ((λ i. here (more i) (now i)) ∙ ap (λ c. here (list_any (same_page p) pages || c) (cond c (Some to) (get page_cmp place p))) b ∙ ap (λ c. here c (get page_cmp place p)) (or_false (list_any (same_page p) pages)))
      ] refl)
    where
      or_false : (b : Bool) → (b || false) ≡ b
      or_false true = refl
      or_false false = refl

      held_to : (b : Bool) → here (b || true) (Some to) ≡ Held to
      held_to true = refl
      held_to false = refl

-- a page that is none of those that move stays
moved_beside : (moves : List PageMove) (y : AddressSpacesView) (p : Page) → list_any (same_page p) (map (λ (t : PageMove). t.page) moves) ≡ false → get page_cmp (all_moved y moves).place p ≡ get page_cmp y.place p
moved_beside [] y p h = refl
moved_beside (t ∷ moves) y p h =
    let both = or_both (same_page p t.page) (list_any (same_page p) (map (λ (t : PageMove). t.page) moves)) h in
    moved_beside moves (with_moved y t.page t.to) p both.1
    ∙ get-set page_cmp_total y.place t.page t.to p ∙ ap (λ c. cond c (Some t.to) (get page_cmp y.place p)) both.0
  where
    or_both : (a b : Bool) → (a || b) ≡ false → (a ≡ false) × (b ≡ false)
    or_both false b h = (refl, h)
    or_both true b h = absurd (both_ways true h refl)

-- a page that moves is in a frame that one of them takes
moved_among : (moves : List PageMove) (y : AddressSpacesView) (p : Page) (f : ℕ) → list_any (same_page p) (map (λ (t : PageMove). t.page) moves) ≡ true
    → get page_cmp (all_moved y moves).place p ≡ Some f → is_taken moves f ≡ true
moved_among [] y p f h at = cc
moved_among (t ∷ moves) y p f h at =
    let z = with_moved y t.page t.to in
    elim (list_any (same_page p) (map (λ (t : PageMove). t.page) moves)) as (λ b. list_any (same_page p) (map (λ (t : PageMove). t.page) moves) ≡ b → is_taken (t ∷ moves) f ≡ true) [
      | true ↦ λ b. or_right (t.to == f) (is_taken moves f) (moved_among moves z p f b at)
      | false ↦ λ b.
          let here : (same_page p t.page || false) ≡ true = ap (λ c. same_page p t.page || c) (sym b) ∙ h in
          let is : Some t.to ≡ Some f = sym (get-set page_cmp_total y.place t.page t.to p ∙ ap (λ c. cond c (Some t.to) (get page_cmp y.place p)) (or_here (same_page p t.page) here)) ∙ sym (moved_beside moves z p b) ∙ at in
          or_left (t.to == f) (is_taken moves f) (eq-eqb t.to f (some_is is))
    ] refl
  where
    or_here : (a : Bool) → (a || false) ≡ true → a ≡ true
    or_here true h = refl
    or_here false h = h

entry_to : (o : Option ℕ) (b : Bool) (f : ℕ) → cond b (hold_entry (unwrap_or (option_map Frame o) Zero)) (unwrap_or (option_map Frame o) Zero) ≡ Held f → (b ≡ true) × (o ≡ Some f)
entry_to None true f h = absurd (zero_is_held h)
entry_to None false f h = absurd (zero_is_held h)
entry_to (Some g) true f h = (refl, ap Some (held_held h))
entry_to (Some g) false f h = absurd (frame_is_held h)

-- an entry that is held is on its way to a frame that one of the pages takes
pub held_is_taken : (y : AddressSpacesView) (moves : List PageMove) (o : Option Sight) (f : ℕ)
    → option_map (entry_in_flight (all_moved y moves).place (map (λ (t : PageMove). t.page) moves)) o ≡ Some (Held f) → is_taken moves f ≡ true
held_is_taken y moves None f h = cc
held_is_taken y moves (Some ZeroPage) f h = absurd (zero_is_held (some_is h))
held_is_taken y moves (Some (Sees p)) f h =
    let both = entry_to (get page_cmp (all_moved y moves).place p) (list_any (same_page p) (map (λ (t : PageMove). t.page) moves)) f (some_is h) in
    moved_among moves y p f both.0 both.1

-- a frame that one of the pages takes, and not the first, is taken by another
pub still_taken : (t : PageMove) (moves : List PageMove) (f : ℕ) → (t.to ≡ f → ⊥) → is_taken (t ∷ moves) f ≡ true → is_taken moves f ≡ true
still_taken t moves f apart h =
    elim (t.to == f) as (λ b. (t.to == f) ≡ b → (b || is_taken moves f) ≡ true → is_taken moves f ≡ true) [
      | true ↦ λ b k. absurd (apart (eqb-true t.to f b))
      | false ↦ λ b k. k
    ] refl h

-- ---- entries while no page is on its way

module _ (tasks : Map ℕ Task) (m : Mapping) (r : Mappers) (t : IsTied tasks m r) where
  pub settled_arrived : IsTied (with_entries arrival_of tasks) m r
  settled_arrived = subst (λ (ts : Map ℕ Task). IsTied ts m r) (sym (all_arrived tasks (order_in tasks m r t) t.settled)) t

  again_one : (pid v : ℕ) (o : Option Entry) → entry_at tasks pid v ≡ o → o ≡ option_map (entry_of m.place) (option_map (sight_of m.areas pid v) o)
  again_one pid v None k = refl
  again_one pid v (Some e) k = ap Some (sym (entry_again tasks m r t pid v e k))

  -- an entry names the frame of the page that is seen there
  pub entry_shown : (y : AddressSpacesView) → spaces_view tasks m r ≡ y → (pid v : ℕ) → entry_at tasks pid v ≡ option_map (entry_of y.place) (sight_in (get nat_cmp y.processes pid) v)
  entry_shown y is pid v =
      again_one pid v (entry_at tasks pid v) refl
      ∙ ap (option_map (entry_of m.place)) (seen_here y tasks m r pid v (entry_at tasks pid v) is refl)
      ∙ ap (λ (z : AddressSpacesView). option_map (entry_of z.place) (sight_in (get nat_cmp y.processes pid) v)) is

-- ---- the frames that pages take

pub takes_below : (moves : List PageMove) (y : AddressSpacesView) → CanRemap y moves → AllByRecursion (λ t. t.to < y.frames) moves
takes_below [] y can = tt
takes_below (t ∷ moves) y can = (can.1, takes_below moves (with_moved y t.page t.to) can.3)

pub frames_stay : (moves : List PageMove) (y : AddressSpacesView) → (all_moved y moves).frames ≡ y.frames
frames_stay [] y = refl
frames_stay (t ∷ moves) y = frames_stay moves (with_moved y t.page t.to)
