-- Page tables, areas and the reverse map when what a process sees is removed again.
use Rattle.std.proofs.Common.{◌≡◌, ℕ, ◌<◌, Bool, true, false, not, ◌&&◌, cond, refl, sym, ap, subst, ◌∙◌}
use Rattle.std.specs.Prelude.{Option, Some, None, IsSome, length, ◌==◌}
use Rattle.std.specs.Option.{option_map, unwrap_or}
use Rattle.std.specs.List.{AllByRecursion}
use Rattle.std.specs.List.Sorted.{IsStrictlySortedBy}
use Rattle.std.specs.Map.{keys_of}
use Rattle.std.specs.Ordering.{nat_cmp, is_eq}
use Rattle.std.specs.Cmp.{nat_cmp_total, eq_by_cmp_equiv, tied_then}
use Rattle.std.proofs.lemmas.Bool.{eqb-true, eqb-false}
use Rattle.std.proofs.lemmas.Map.Lookups.{exact_unsigned}
use Rattle.nm_types.specs.declared.page.Page.{Page}
use Rattle.nm_types.specs.declared.area.Area.{Area}
use Rattle.nm_types.specs.declared.sight.Sight.TheVariants.{ZeroPage, Sees}
use Rattle.nm_types.specs.Map.{Map, get, replace, without, with_values, page_cmp}
use Rattle.nm_types.proofs.Cases.{true_false, none_some, some_is}
use Rattle.nm_types.proofs.Maps.{equal, get-replace, replace_is_set, with_values-replace, with_values-without}
use Rattle.nm_types.proofs.Keys.{keys-replace, All-replace, All-get, sorted-set, sorted-without}
use Rattle.nm_model.specs.definitions.Seen.{sight_in}
use Rattle.nm_types.specs.declared.entry.Entry.{Entry}
use Rattle.nm_types.specs.declared.entry.Entry.TheVariants.{Zero, Frame, Held}
use Rattle.nm_model.specs.definitions.Areas.{Mapping}
use Rattle.nm_model.specs.definitions.Areas.{without_frame}
use Rattle.nm_rmap.specs.Mappers.{Mappers, mappers_of, frame_pins}
use Rattle.nm_model.specs.definitions.PageTables.{Task, entry_at, entry_in, with_entry}
use Rattle.nm_spaces.specs.views.ProcessTable.{names, without_entry, put_entry, replaced_in}
use Rattle.nm_spaces.specs.views.AddressSpaces.{AddressSpacesView, spaces_view, pins_in, with_seen, without_seen, without_page}
use Rattle.nm_model.specs.definitions.PageTables.{process_of, sight_of, page_here}
use Rattle.nm_spaces.specs.definitions.Tied.{IsTied, IsWithout, has_spot}
use Rattle.nm_laws.proofs.Soundness.Released.{get-without, other_placed}
use Rattle.nm_spaces.proofs.Tied.ClearedEntries.{get_left, and_true}
use Rattle.nm_spaces.proofs.Held.ReplacedEntries.{same_spot, exact_spot, TableInOrder}
use Rattle.nm_laws.proofs.Seen.Shown.{sight_shown}
use Rattle.nm_spaces.proofs.Tied.Touches.{entry_at-set, set_entry_shows}

zero_held : {g : ℕ} → Some Zero ≡ Some (Held g) → ⊥
zero_held e = cc

not_both : (b : Bool) → (b && not (true && b)) ≡ false
not_both true = refl
not_both false = refl

-- nothing is a mapper where there is no entry
pub without_none : (r : Mappers) (spot : ℕ × ℕ) (o : Option Entry) → o ≡ None → IsWithout r r spot o
without_none r spot o is =
    subst (λ o. IsWithout r r spot o) (sym is)
    (record {
      less = λ g s. and_true (has_spot (mappers_of r g) s) ∙ ap (λ c. has_spot (mappers_of r g) s && not c) (elim (same_spot s spot) as (λ b. false ≡ (b && false)) [ true ↦ refl | false ↦ refl ]);
      frames = refl;
      pins = refl;
    })

-- the entry at a page number is changed to name no frame, and is no mapper
module _ (tasks now : Map ℕ Task) (m : Mapping) (r u : Mappers) (pid v : ℕ) (o : Option Entry) (h : IsTied tasks m r) (less : IsWithout r u (pid, v) (entry_at tasks pid v))
    (after : (q w : ℕ) → entry_at now q w ≡ cond (same_spot (q, w) (pid, v)) o (entry_at tasks q w)) (bare : (f : ℕ) → names f o ≡ false) where
  mappers_bare : (f q w : ℕ) → has_spot (mappers_of u f) (q, w) ≡ names f (entry_at now q w)
  mappers_bare f q w =
      less.less f (q, w)
      ∙ ap (λ b. b && not (same_spot (q, w) (pid, v) && names f (entry_at tasks pid v))) (h.mappers f q w)
      ∙ elim (same_spot (q, w) (pid, v)) as (λ b. same_spot (q, w) (pid, v) ≡ b → (names f (entry_at tasks q w) && not (b && names f (entry_at tasks pid v))) ≡ names f (cond b o (entry_at tasks q w))) [
        | true ↦ λ b.
            ap (λ (s : ℕ × ℕ). names f (entry_at tasks s.0 s.1) && not (true && names f (entry_at tasks pid v))) (exact_spot (q, w) (pid, v) b)
            ∙ not_both (names f (entry_at tasks pid v)) ∙ sym (bare f)
        | false ↦ λ b. sym (and_true (names f (entry_at tasks q w)))
      ] refl
      ∙ sym (ap (names f) (after q w))

  shows_bare : (f q w : ℕ) → names f (entry_at now q w) ≡ true → names f (entry_at tasks q w) ≡ true
  shows_bare f q w n =
      elim (same_spot (q, w) (pid, v)) as (λ b. names f (cond b o (entry_at tasks q w)) ≡ true → names f (entry_at tasks q w) ≡ true) [
        | true ↦ λ n. absurd (true_false (sym n ∙ bare f))
        | false ↦ λ n. n
      ] (sym (ap (names f) (after q w)) ∙ n)

  settled_bare : ((f : ℕ) → o ≡ Some (Held f) → ⊥) → (f q w : ℕ) → entry_at now q w ≡ Some (Held f) → ⊥
  settled_bare not_held f q w k =
      elim (same_spot (q, w) (pid, v)) as (λ b. cond b o (entry_at tasks q w) ≡ Some (Held f) → ⊥) [ true ↦ λ k. not_held f k | false ↦ λ k. h.settled f q w k ]
      (sym (after q w) ∙ k)

  bare_tied : IsStrictlySortedBy nat_cmp (keys_of now) → AllByRecursion (λ e. TableInOrder e.1) now → ((f : ℕ) → o ≡ Some (Held f) → ⊥) → IsTied now m u
  bare_tied pids tables not_held = record {
    pids = pids;
    tables = tables;
    places = h.places;
    mappers = mappers_bare;
    shows = λ f q w n. h.shows f q w (shows_bare f q w n);
    apart = h.apart;
    pinned = λ f k. ap (λ pins. frame_pins (record { mappings = u.mappings; pins = pins }) f) less.pins ∙ h.pinned f k;
    in_range = λ p f k. subst (λ n. f < n) (sym less.frames) (h.in_range p f k);
    as_many = ap length less.pins ∙ h.as_many ∙ sym less.frames;
    settled = settled_bare not_held;
  }

-- a process that has a table
module _ (tasks : Map ℕ Task) (m : Mapping) (r u : Mappers) (pid v : ℕ) (t : Task) (h : IsTied tasks m r) (task : get nat_cmp tasks pid ≡ Some t) (less : IsWithout r u (pid, v) (entry_at tasks pid v)) where
  in_order : TableInOrder t
  in_order = All-get nat_cmp TableInOrder tasks pid t h.tables task

  pids_with : (new : Task) → IsStrictlySortedBy nat_cmp (keys_of (replace nat_cmp tasks pid new))
  pids_with new = subst (IsStrictlySortedBy nat_cmp) (sym (keys-replace nat_cmp tasks pid new)) h.pids

  other_rmap : (ts : Map ℕ Task) → spaces_view ts m u ≡ spaces_view ts m r
  other_rmap ts = λ i. record {
    processes = with_values (process_of m.areas) ts;
    areas = m.areas;
    segments = m.segments;
    next = m.next;
    place = m.place;
    pins = ap (λ pins. pins_in (record { mappings = u.mappings; pins = pins }) m.place) less.pins i;
    frames = less.frames i;
  }

  -- its entry is removed
  entry_at-clear : (q w : ℕ) → entry_at (replace nat_cmp tasks pid (without_entry t v)) q w ≡ cond (same_spot (q, w) (pid, v)) None (entry_at tasks q w)
  entry_at-clear q w =
      let new : Task = without_entry t v in
      ap (λ o. entry_in o w) (get-replace nat_cmp_total exact_unsigned tasks pid new q (subst IsSome (sym task) refl) ∙ ap (λ b. cond b (Some new) (get nat_cmp tasks q)) ((eq_by_cmp_equiv nat_cmp_total).symm pid q))
      ∙ elim (is_eq (nat_cmp q pid)) as (λ b. is_eq (nat_cmp q pid) ≡ b → entry_in (cond b (Some new) (get nat_cmp tasks q)) w ≡ cond (b && is_eq (nat_cmp w v)) None (entry_in (get nat_cmp tasks q) w)) [
        | true ↦ λ b. get_left t.table v w in_order
            ∙ ap (λ b. cond b None (get nat_cmp t.table w)) ((eq_by_cmp_equiv nat_cmp_total).symm v w)
            ∙ ap (λ o. cond (is_eq (nat_cmp w v)) None (entry_in o w)) (sym task ∙ ap (get nat_cmp tasks) (sym (exact_unsigned q pid (equal _ b))))
        | false ↦ λ b. refl
      ] refl
      ∙ ap (λ b. cond b None (entry_at tasks q w)) (tied_then (nat_cmp q pid) (nat_cmp w v))

  pub clear_tied : IsTied (replace nat_cmp tasks pid (without_entry t v)) m u
  clear_tied =
      bare_tied tasks (replace nat_cmp tasks pid (without_entry t v)) m r u pid v None h less entry_at-clear (λ f. refl) (pids_with (without_entry t v))
      (All-replace nat_cmp TableInOrder tasks pid (without_entry t v) h.tables (sorted-without nat_cmp t.table v in_order)) (λ f k. none_some k)

  pub clear_shows : spaces_view (replace nat_cmp tasks pid (without_entry t v)) m u ≡ without_seen (spaces_view tasks m r) pid (process_of m.areas pid t) v
  clear_shows =
      let areas = m.areas in
      other_rmap (replace nat_cmp tasks pid (without_entry t v))
      ∙ ap (λ ps. record (spaces_view tasks m r) { processes = ps })
      (with_values-replace exact_unsigned (process_of areas) tasks pid (without_entry t v)
      ∙ ap (λ s. replace nat_cmp (with_values (process_of areas) tasks) pid (record { uid = t.info.uid; privileged = t.info.privileged; home = t.info.home; allowed = t.info.allowed; sees = s }))
      (with_values-without nat_cmp (sight_of areas pid) t.table v))

  -- it shows the page of zeros
  replaced_set : IsSome (entry_at tasks pid v) → put_entry tasks Zero (pid, v) ≡ replace nat_cmp tasks pid (with_entry t v Zero)
  replaced_set there =
      ap (λ o. replaced_in tasks o pid v Zero) task
      ∙ ap (λ table. replace nat_cmp tasks pid (record t { table = table }))
      (replace_is_set nat_cmp_total exact_unsigned t.table v Zero in_order (subst IsSome (ap (λ o. entry_in o v) task) there))

  pub zero_tied : IsSome (entry_at tasks pid v) → IsTied (put_entry tasks Zero (pid, v)) m u
  zero_tied there =
      subst (λ ts. IsTied ts m u) (sym (replaced_set there))
      (bare_tied tasks (replace nat_cmp tasks pid (with_entry t v Zero)) m r u pid v (Some Zero) h less (λ q w. entry_at-set tasks pid t v Zero q w task) (λ f. refl) (pids_with (with_entry t v Zero))
      (All-replace nat_cmp TableInOrder tasks pid (with_entry t v Zero) h.tables (sorted-set nat_cmp nat_cmp_total t.table v Zero in_order)) (λ f k. zero_held k))

  pub zero_shows : IsSome (entry_at tasks pid v) → spaces_view (put_entry tasks Zero (pid, v)) m u ≡ with_seen (spaces_view tasks m r) pid (process_of m.areas pid t) v ZeroPage
  zero_shows there =
      ap (λ ts. spaces_view ts m u) (replaced_set there)
      ∙ other_rmap (replace nat_cmp tasks pid (with_entry t v Zero))
      ∙ ap (λ ps. record (spaces_view tasks m r) { processes = ps }) (set_entry_shows m.areas tasks pid t v Zero)

-- where something is seen, there is an entry
some_mapped : {V W : Type 0} (f : V → W) (o : Option V) → IsSome (option_map f o) → IsSome o
some_mapped f None h = cc
some_mapped f (Some x) h = refl

pub entry_there : (y : AddressSpacesView) (tasks : Map ℕ Task) (m : Mapping) (r : Mappers) (pid v : ℕ) → spaces_view tasks m r ≡ y → IsSome (sight_in (get nat_cmp y.processes pid) v) → IsSome (entry_at tasks pid v)
entry_there y tasks m r pid v is h =
    some_mapped (sight_of m.areas pid v) (entry_at tasks pid v)
    (subst IsSome (ap (λ (y : AddressSpacesView). sight_in (get nat_cmp y.processes pid) v) (sym is) ∙ sight_shown m.areas tasks pid v) h)

-- a frame that an entry names is one of the map
pub named_below : (tasks : Map ℕ Task) (m : Mapping) (r : Mappers) (pid v f : ℕ) → IsTied tasks m r → names f (entry_at tasks pid v) ≡ true → f < length r.mappings
named_below tasks m r pid v f h n = let s = h.shows f pid v n in h.in_range s.0 f s.2

names_sees : (areas : Map (ℕ × ℕ) Area) (pid v f : ℕ) (o : Option Entry) → names f o ≡ true → option_map (sight_of areas pid v) o ≡ Some (Sees (page_here areas pid v))
names_sees areas pid v f None n = absurd (true_false (sym n))
names_sees areas pid v f (Some Zero) n = absurd (true_false (sym n))
names_sees areas pid v f (Some (Frame g)) n = refl
names_sees areas pid v f (Some (Held g)) n = refl

-- a page that nobody sees loses its frame
module _ (y : AddressSpacesView) (tasks : Map ℕ Task) (m : Mapping) (r : Mappers) (p : Page) (f : ℕ) (h : IsTied tasks m r) (is : spaces_view tasks m r ≡ y) (placed : get page_cmp m.place p ≡ Some f) (free : frame_pins r f ≡ 0)
    (unseen : (q w : ℕ) → sight_in (get nat_cmp y.processes q) w ≡ Some (Sees p) → ⊥) where
  unnamed : (q w : ℕ) → names f (entry_at tasks q w) ≡ true → ⊥
  unnamed q w n =
      let s = h.shows f q w n in
      let same : s.0 ≡ p = h.apart s.0 p f s.2 placed in
      unseen q w
      (ap (λ (y : AddressSpacesView). sight_in (get nat_cmp y.processes q) w) (sym is) ∙ sight_shown m.areas tasks q w ∙ names_sees m.areas q w f (entry_at tasks q w) n
      ∙ ap (λ o. Some (Sees (unwrap_or o (record { segment = 0; index = 0 })))) s.1 ∙ ap (λ q. Some (Sees q)) same)

  had : (q : Page) (g : ℕ) → get page_cmp (without page_cmp m.place p) q ≡ Some g → get page_cmp m.place q ≡ Some g
  had q g k =
      elim (is_eq (page_cmp p q)) as (λ b. cond b None (get page_cmp m.place q) ≡ Some g → get page_cmp m.place q ≡ Some g) [ true ↦ λ k. absurd (none_some k) | false ↦ λ k. k ]
      (sym (get-without m.place p q h.places) ∙ k)

  still : (q : Page) (g : ℕ) → (g ≡ f → ⊥) → get page_cmp m.place q ≡ Some g → get page_cmp (without page_cmp m.place p) q ≡ Some g
  still q g other k = other_placed m.place p q h.places (λ e. other (some_is (sym k ∙ ap (get page_cmp m.place) (sym e) ∙ placed))) ∙ k

  pub unplaced_tied : IsTied tasks (without_frame m p) r
  unplaced_tied = record {
    pids = h.pids;
    tables = h.tables;
    places = sorted-without page_cmp m.place p h.places;
    mappers = h.mappers;
    shows = λ g q w n. let s = h.shows g q w n in (s.0, s.1, still s.0 g (λ e. unnamed q w (subst (λ k. names k (entry_at tasks q w) ≡ true) e n)) s.2);
    apart = λ q s g a b. h.apart q s g (had q g a) (had s g b);
    pinned = λ g k. elim (g == f) as (λ b. (g == f) ≡ b → frame_pins r g ≡ 0) [
      | true ↦ λ b. ap (frame_pins r) (eqb-true g f b) ∙ free
      | false ↦ λ b. h.pinned g (λ q e. k q (still q g (eqb-false g f b) e))
    ] refl;
    in_range = λ q g k. h.in_range q g (had q g k);
    as_many = h.as_many;
    settled = h.settled;
  }

  pub unplaced_shows : spaces_view tasks (without_frame m p) r ≡ without_page y p
  unplaced_shows =
      ap (λ pins. record (spaces_view tasks m r) { place = without page_cmp m.place p; pins = pins }) (with_values-without page_cmp (λ q g. frame_pins r g) m.place p)
      ∙ ap (λ (y : AddressSpacesView). without_page y p) is

pub placed_some : (o : Option ℕ) → IsSome o → (f : ℕ) × (o ≡ Some f)
placed_some None h = cc
placed_some (Some f) h = (f, refl)
