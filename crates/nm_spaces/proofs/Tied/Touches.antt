-- Page tables, areas and the reverse map when a process sees something new at a page number.
use Rattle.std.proofs.Common.{◌≡◌, ℕ, ◌<◌, List, [], ◌∷◌, true, false, cond, refl, sym, ap, subst, ◌∙◌, length-set, inl, inr, eq-eqb}
use Rattle.std.specs.Prelude.{Option, Some, None, IsSome, length, slice_set, ◌==◌, ◌||◌, ◌&&◌}
use Rattle.std.specs.Option.{option_map, unwrap_or}
use Rattle.std.specs.BTreeMap.{is_at}
use Rattle.std.specs.BTreeSet.{insert_key}
use Rattle.std.specs.Set.{remove_key}
use Rattle.std.specs.Ordering.{is_eq, nat_cmp, match_ordering}
use Rattle.std.specs.declared.cmp.Ordering.TheVariants.{Less, Equal, Greater}
use Rattle.std.specs.List.Sorted.{IsStrictlySortedBy}
use Rattle.std.specs.Map.{keys_of}
use Rattle.std.specs.Cmp.{nat_cmp_total, tied_then, tied_itself, eq_by_cmp_equiv}
use Rattle.std.proofs.lemmas.Bool.{eqb-true, eqb-false, ne_eqb}
use Rattle.std.proofs.lemmas.List.{get_or-set_same, set-set, set-get_or}
use Rattle.std.proofs.lemmas.Map.Lookups.{exact_unsigned, exact_pairs}
use Rattle.nm_types.specs.declared.page.Page.{Page}
use Rattle.nm_types.specs.declared.area.Area.{Area}
use Rattle.nm_types.specs.declared.sight.Sight.TheVariants.{ZeroPage, Sees}
use Rattle.nm_types.specs.Map.{Map, get, set, replace, with_values, page_cmp, spot_cmp}
use Rattle.nm_types.specs.State.{Process, page_at}
use Rattle.nm_types.proofs.Cases.{some_none, some_is}
use Rattle.nm_model.specs.definitions.Seen.{sight_in}
use Rattle.nm_types.specs.declared.entry.Entry.{Entry}
use Rattle.nm_types.specs.declared.entry.Entry.TheVariants.{Zero, Frame, Held}
use Rattle.nm_model.specs.definitions.Areas.{Mapping, with_frame, without_frame}
use Rattle.nm_rmap.specs.Mappers.{Mappers, mappers_of, frame_pins, with_mapper, without_mapper, with_spot, without_spot}
use Rattle.nm_model.specs.definitions.Effect.{seeing}
use Rattle.nm_model.specs.definitions.PageTables.{Task, entry_at, entry_in, with_entry, process_of, sight_of, page_here}
use Rattle.nm_spaces.specs.views.ProcessTable.{names}
use Rattle.nm_spaces.specs.views.AddressSpaces.{AddressSpacesView, spaces_view, pins_in, with_seen}
use Rattle.nm_spaces.specs.definitions.Tied.{IsTied, has_spot}
use Rattle.nm_types.proofs.Maps.{equal, get-set, get-replace, get-values, page_cmp_total, exact_page, spot_cmp_total, with_values-set, with_values-replace, without-set}
use Rattle.nm_types.proofs.Keys.{keys-replace, All-replace, All-get, sorted-set}
use Rattle.nm_spaces.proofs.Held.ReplacedEntries.{is_mapped, same_spot, exact_spot, TableInOrder}
use Rattle.nm_spaces.proofs.Moves.OnePage.{IsSpare, get_or-set, place_after, place_other}
use Rattle.nm_laws.proofs.Seen.Shown.{sight_shown}

frame_held : {f g : ℕ} → Some (Frame f) ≡ Some (Held g) → ⊥
frame_held e = cc

zero_held : {g : ℕ} → Some Zero ≡ Some (Held g) → ⊥
zero_held e = cc

unmap_some : {A B : Type 0} (f : A → B) (o : Option A) → IsSome (option_map f o) → (a : A) × (o ≡ Some a)
unmap_some f None h = cc
unmap_some f (Some a) h = (a, refl)

-- a process that is shown has a table
pub task_at : (y : AddressSpacesView) (tasks : Map ℕ Task) (m : Mapping) (r : Mappers) (pid : ℕ) → spaces_view tasks m r ≡ y → IsSome (get nat_cmp y.processes pid) → (t : Task) × (get nat_cmp tasks pid ≡ Some t)
task_at y tasks m r pid is h =
    unmap_some (process_of m.areas pid) (get nat_cmp tasks pid)
    (subst IsSome (ap (λ (y : AddressSpacesView). get nat_cmp y.processes pid) (sym is) ∙ get-values exact_unsigned (process_of m.areas) tasks pid) h)

pub process_at : (y : AddressSpacesView) (tasks : Map ℕ Task) (m : Mapping) (r : Mappers) (pid : ℕ) (t : Task) (p : Process) → spaces_view tasks m r ≡ y → get nat_cmp tasks pid ≡ Some t → get nat_cmp y.processes pid ≡ Some p → process_of m.areas pid t ≡ p
process_at y tasks m r pid t p is h k =
    some_is (sym (ap (option_map (process_of m.areas pid)) h) ∙ sym (get-values exact_unsigned (process_of m.areas) tasks pid) ∙ ap (λ (y : AddressSpacesView). get nat_cmp y.processes pid) is ∙ k)

-- where no page is seen, no entry names a frame
entry_unmapped : (areas : Map (ℕ × ℕ) Area) (pid v : ℕ) (o : Option Entry) → ((q : Page) → option_map (sight_of areas pid v) o ≡ Some (Sees q) → ⊥) → is_mapped o ≡ false
entry_unmapped areas pid v None h = refl
entry_unmapped areas pid v (Some Zero) h = refl
entry_unmapped areas pid v (Some (Frame g)) h = absurd (h (page_here areas pid v) refl)
entry_unmapped areas pid v (Some (Held g)) h = absurd (h (page_here areas pid v) refl)

pub unmapped_at : (y : AddressSpacesView) (tasks : Map ℕ Task) (m : Mapping) (r : Mappers) (pid v : ℕ) → spaces_view tasks m r ≡ y → ((q : Page) → sight_in (get nat_cmp y.processes pid) v ≡ Some (Sees q) → ⊥) → is_mapped (entry_at tasks pid v) ≡ false
unmapped_at y tasks m r pid v is h =
    entry_unmapped m.areas pid v (entry_at tasks pid v) (λ q k. h q (ap (λ (y : AddressSpacesView). sight_in (get nat_cmp y.processes pid) v) (sym is) ∙ sight_shown m.areas tasks pid v ∙ k))

mapped_names : (f : ℕ) (o : Option Entry) → is_mapped o ≡ false → names f o ≡ false
mapped_names f None h = refl
mapped_names f (Some Zero) h = refl
mapped_names f (Some (Frame g)) h = cc
mapped_names f (Some (Held g)) h = cc

-- one more place
has-insert : (l : List (ℕ × ℕ)) (s q : ℕ × ℕ) → has_spot (insert_key spot_cmp l s) q ≡ (same_spot q s || has_spot l q)
has-insert [] s q = refl
has-insert (x ∷ l) s q =
    elim (spot_cmp s x) as (λ r. spot_cmp s x ≡ r → has_spot (match_ordering r (s ∷ x ∷ l) (x ∷ l) (x ∷ insert_key spot_cmp l s)) q ≡ (same_spot q s || (same_spot q x || has_spot l q))) [
      | Less ↦ λ r. refl
      | Equal ↦ λ r.
          let is : s ≡ x = exact_pairs nat_cmp nat_cmp exact_unsigned exact_unsigned s x r in
          elim (same_spot q x) as (λ b. same_spot q x ≡ b → (b || has_spot l q) ≡ (same_spot q s || (b || has_spot l q))) [
            | true ↦ λ b. ap (λ c. c || true) (sym (ap (same_spot q) is ∙ b))
            | false ↦ λ b. ap (λ c. c || has_spot l q) (sym (ap (same_spot q) is ∙ b))
          ] refl
      | Greater ↦ λ r.
          ap (λ b. same_spot q x || b) (has-insert l s q)
          ∙ elim (same_spot q x) as (λ a. (a || (same_spot q s || has_spot l q)) ≡ (same_spot q s || (a || has_spot l q))) [
            | true ↦ elim (same_spot q s) as (λ c. true ≡ (c || true)) [ true ↦ refl | false ↦ refl ]
            | false ↦ refl
          ]
    ] refl

-- a place that was not there is removed again
remove-insert : (l : List (ℕ × ℕ)) (s : ℕ × ℕ) → has_spot l s ≡ false → remove_key (is_at (spot_cmp s)) (insert_key spot_cmp l s) ≡ l
remove-insert [] s h = ap (λ r. cond (is_eq r) [] (s ∷ [])) (tied_itself spot_cmp_total s)
remove-insert (x ∷ l) s h =
    elim (spot_cmp s x) as (λ r. spot_cmp s x ≡ r → (is_eq r || has_spot l s) ≡ false → remove_key (is_at (spot_cmp s)) (match_ordering r (s ∷ x ∷ l) (x ∷ l) (x ∷ insert_key spot_cmp l s)) ≡ x ∷ l) [
      | Less ↦ λ r k. ap (λ r. cond (is_eq r) (x ∷ l) (s ∷ remove_key (is_at (spot_cmp s)) (x ∷ l))) (tied_itself spot_cmp_total s)
      | Equal ↦ λ r k. cc
      | Greater ↦ λ r k. ap (λ r. cond (is_eq r) (insert_key spot_cmp l s) (x ∷ remove_key (is_at (spot_cmp s)) (insert_key spot_cmp l s))) r ∙ ap (λ l. x ∷ l) (remove-insert l s k)
    ] refl h

-- a mapper that was added is removed again
pub dropped_again : (r : Mappers) (f : ℕ) (s : ℕ × ℕ) → f < length r.mappings → has_spot (mappers_of r f) s ≡ false → without_mapper (with_mapper r f s) f s ≡ r
dropped_again r f s below none =
    let more = with_spot (mappers_of r f) s in
    ap (λ l. record r { mappings = l })
    (ap (λ l. slice_set (slice_set r.mappings f more) f (without_spot l s)) (get_or-set_same r.mappings f more [] below)
    ∙ ap (slice_set (slice_set r.mappings f more) f) (remove-insert (mappers_of r f) s none)
    ∙ set-set r.mappings f more (mappers_of r f)
    ∙ set-get_or r.mappings f [])

-- a table whose entry is set is a process whose sight is set
pub set_entry_shows : (areas : Map (ℕ × ℕ) Area) (tasks : Map ℕ Task) (pid : ℕ) (t : Task) (v : ℕ) (e : Entry)
    → with_values (process_of areas) (replace nat_cmp tasks pid (with_entry t v e)) ≡ replace nat_cmp (with_values (process_of areas) tasks) pid (seeing (process_of areas pid t) v (sight_of areas pid v e))
set_entry_shows areas tasks pid t v e =
    with_values-replace exact_unsigned (process_of areas) tasks pid (with_entry t v e)
    ∙ ap (λ s. replace nat_cmp (with_values (process_of areas) tasks) pid (record { uid = t.info.uid; privileged = t.info.privileged; home = t.info.home; allowed = t.info.allowed; sees = s }))
    (with_values-set exact_unsigned (sight_of areas pid) t.table v e)

-- what is found after an entry is set
pub entry_at-set : (tasks : Map ℕ Task) (pid : ℕ) (t : Task) (v : ℕ) (e : Entry) (q w : ℕ) → get nat_cmp tasks pid ≡ Some t
    → entry_at (replace nat_cmp tasks pid (with_entry t v e)) q w ≡ cond (same_spot (q, w) (pid, v)) (Some e) (entry_at tasks q w)
entry_at-set tasks pid t v e q w g =
    let new : Task = with_entry t v e in
    ap (λ o. entry_in o w) (get-replace nat_cmp_total exact_unsigned tasks pid new q (subst IsSome (sym g) refl) ∙ ap (λ b. cond b (Some new) (get nat_cmp tasks q)) ((eq_by_cmp_equiv nat_cmp_total).symm pid q))
    ∙ elim (is_eq (nat_cmp q pid)) as (λ b. is_eq (nat_cmp q pid) ≡ b → entry_in (cond b (Some new) (get nat_cmp tasks q)) w ≡ cond (b && is_eq (nat_cmp w v)) (Some e) (entry_in (get nat_cmp tasks q) w)) [
      | true ↦ λ b. get-set nat_cmp_total t.table v e w
          ∙ ap (λ o. cond (is_eq (nat_cmp w v)) (Some e) (entry_in o w)) (sym g ∙ ap (get nat_cmp tasks) (sym (exact_unsigned q pid (equal _ b))))
      | false ↦ λ b. refl
    ] refl
    ∙ ap (λ b. cond b (Some e) (entry_at tasks q w)) (tied_then (nat_cmp q pid) (nat_cmp w v))

-- an entry is set where none names a frame
module _ (tasks : Map ℕ Task) (m : Mapping) (r : Mappers) (pid : ℕ) (t : Task) (v : ℕ) (h : IsTied tasks m r) (task : get nat_cmp tasks pid ≡ Some t) (unmapped : is_mapped (entry_at tasks pid v) ≡ false) where
  -- nothing is named where the entry is set
  free_there : (g q w : ℕ) → same_spot (q, w) (pid, v) ≡ true → names g (entry_at tasks q w) ≡ false
  free_there g q w e = mapped_names g (entry_at tasks q w) (ap (λ (s : ℕ × ℕ). is_mapped (entry_at tasks s.0 s.1)) (exact_spot (q, w) (pid, v) e) ∙ unmapped)

  -- it is no mapper of a frame
  pub no_mapper : (g : ℕ) → has_spot (mappers_of r g) (pid, v) ≡ false
  no_mapper g = h.mappers g pid v ∙ mapped_names g (entry_at tasks pid v) unmapped

  pids_after : (e : Entry) → IsStrictlySortedBy nat_cmp (keys_of (replace nat_cmp tasks pid (with_entry t v e)))
  pids_after e = subst (IsStrictlySortedBy nat_cmp) (sym (keys-replace nat_cmp tasks pid (with_entry t v e))) h.pids

  settled_after : (e : Entry) → ((f : ℕ) → Some e ≡ Some (Held f) → ⊥) → (f q w : ℕ) → entry_at (replace nat_cmp tasks pid (with_entry t v e)) q w ≡ Some (Held f) → ⊥
  settled_after e not f q w k =
      elim (same_spot (q, w) (pid, v)) as (λ b. cond b (Some e) (entry_at tasks q w) ≡ Some (Held f) → ⊥) [ true ↦ λ k. not f k | false ↦ λ k. h.settled f q w k ]
      (sym (entry_at-set tasks pid t v e q w task) ∙ k)

  zero_names : (f q w : ℕ) → names f (entry_at (replace nat_cmp tasks pid (with_entry t v Zero)) q w) ≡ names f (entry_at tasks q w)
  zero_names f q w =
      ap (names f) (entry_at-set tasks pid t v Zero q w task)
      ∙ elim (same_spot (q, w) (pid, v)) as (λ b. same_spot (q, w) (pid, v) ≡ b → names f (cond b (Some Zero) (entry_at tasks q w)) ≡ names f (entry_at tasks q w)) [
        | true ↦ λ b. sym (free_there f q w b)
        | false ↦ λ b. refl
      ] refl

  -- they stay tied when the page of zeros is seen
  pub zero_tied : IsTied (replace nat_cmp tasks pid (with_entry t v Zero)) m r
  zero_tied = record {
    pids = pids_after Zero;
    tables = All-replace nat_cmp TableInOrder tasks pid (with_entry t v Zero) h.tables (sorted-set nat_cmp nat_cmp_total t.table v Zero (All-get nat_cmp TableInOrder tasks pid t h.tables task));
    places = h.places;
    mappers = λ f q w. h.mappers f q w ∙ sym (zero_names f q w);
    shows = λ f q w k. h.shows f q w (sym (zero_names f q w) ∙ k);
    apart = h.apart;
    pinned = h.pinned;
    in_range = h.in_range;
    as_many = h.as_many;
    settled = settled_after Zero (λ f k. zero_held k);
  }

  pub zero_shows : spaces_view (replace nat_cmp tasks pid (with_entry t v Zero)) m r ≡ with_seen (spaces_view tasks m r) pid (process_of m.areas pid t) v ZeroPage
  zero_shows = ap (λ ps. record (spaces_view tasks m r) { processes = ps }) (set_entry_shows m.areas tasks pid t v Zero)

  -- a page that has a frame is seen
  module _ (p : Page) (f : ℕ) (at : page_at m.areas pid v ≡ Some p) (placed : get page_cmp m.place p ≡ Some f) where
    below : f < length r.mappings
    below = h.in_range p f placed

    entry_after : (q w : ℕ) → entry_at (replace nat_cmp tasks pid (with_entry t v (Frame f))) q w ≡ cond (same_spot (q, w) (pid, v)) (Some (Frame f)) (entry_at tasks q w)
    entry_after q w = entry_at-set tasks pid t v (Frame f) q w task

    mapped_after : (g q w : ℕ) → has_spot (mappers_of (with_mapper r f (pid, v)) g) (q, w) ≡ names g (entry_at (replace nat_cmp tasks pid (with_entry t v (Frame f))) q w)
    mapped_after g q w =
        let o = entry_at tasks q w in
        let more = with_spot (mappers_of r f) (pid, v) in
        ap (λ l. has_spot l (q, w)) (get_or-set r.mappings f g more [] below)
        ∙ elim (g == f) as (λ c. (g == f) ≡ c → has_spot (cond c more (mappers_of r g)) (q, w) ≡ names g (cond (same_spot (q, w) (pid, v)) (Some (Frame f)) o)) [
          | true ↦ λ c.
              has-insert (mappers_of r f) (pid, v) (q, w) ∙ ap (λ b. same_spot (q, w) (pid, v) || b) (h.mappers f q w)
              ∙ elim (same_spot (q, w) (pid, v)) as (λ b. (b || names f o) ≡ names g (cond b (Some (Frame f)) o)) [
                | true ↦ sym (eq-eqb f g (sym (eqb-true g f c)))
                | false ↦ ap (λ k. names k o) (sym (eqb-true g f c))
              ]
          | false ↦ λ c.
              h.mappers g q w
              ∙ elim (same_spot (q, w) (pid, v)) as (λ b. same_spot (q, w) (pid, v) ≡ b → names g o ≡ names g (cond b (Some (Frame f)) o)) [
                | true ↦ λ b. free_there g q w b ∙ sym (ne_eqb f g (λ e. eqb-false g f c (sym e)))
                | false ↦ λ b. refl
              ] refl
        ] refl
        ∙ sym (ap (names g) (entry_after q w))

    shown_after : (g q w : ℕ) → names g (entry_at (replace nat_cmp tasks pid (with_entry t v (Frame f))) q w) ≡ true → (s : Page) × (page_at m.areas q w ≡ Some s) × (get page_cmp m.place s ≡ Some g)
    shown_after g q w k =
        let o = entry_at tasks q w in
        elim (same_spot (q, w) (pid, v)) as (λ b. same_spot (q, w) (pid, v) ≡ b → names g (cond b (Some (Frame f)) o) ≡ true → (s : Page) × (page_at m.areas q w ≡ Some s) × (get page_cmp m.place s ≡ Some g)) [
          | true ↦ λ b n. (p, ap (λ (s : ℕ × ℕ). page_at m.areas s.0 s.1) (exact_spot (q, w) (pid, v) b) ∙ at, placed ∙ ap Some (eqb-true f g n))
          | false ↦ λ b n. h.shows g q w n
        ] refl (sym (ap (names g) (entry_after q w)) ∙ k)

    frames_after : length (with_mapper r f (pid, v)).mappings ≡ length r.mappings
    frames_after = length-set r.mappings f (with_spot (mappers_of r f) (pid, v))

    pub page_tied : IsTied (replace nat_cmp tasks pid (with_entry t v (Frame f))) m (with_mapper r f (pid, v))
    page_tied = record {
      pids = pids_after (Frame f);
      tables = All-replace nat_cmp TableInOrder tasks pid (with_entry t v (Frame f)) h.tables (sorted-set nat_cmp nat_cmp_total t.table v (Frame f) (All-get nat_cmp TableInOrder tasks pid t h.tables task));
      places = h.places;
      mappers = mapped_after;
      shows = shown_after;
      apart = h.apart;
      pinned = h.pinned;
      in_range = λ q g k. subst (λ n. g < n) (sym frames_after) (h.in_range q g k);
      as_many = h.as_many ∙ sym frames_after;
      settled = settled_after (Frame f) (λ g k. frame_held k);
    }

    pub page_shows : spaces_view (replace nat_cmp tasks pid (with_entry t v (Frame f))) m (with_mapper r f (pid, v)) ≡ with_seen (spaces_view tasks m r) pid (process_of m.areas pid t) v (Sees p)
    page_shows = λ i. record {
      processes =
          (set_entry_shows m.areas tasks pid t v (Frame f)
          ∙ ap (λ o. replace nat_cmp (with_values (process_of m.areas) tasks) pid (seeing (process_of m.areas pid t) v (Sees (unwrap_or o (record { segment = 0; index = 0 }))))) at) i;
      areas = m.areas;
      segments = m.segments;
      next = m.next;
      place = m.place;
      pins = pins_in r m.place;
      frames = frames_after i;
    }

-- a page gets a spare frame
module _ (tasks : Map ℕ Task) (m : Mapping) (r : Mappers) (p : Page) (f : ℕ) (h : IsTied tasks m r) (spare : IsSpare m r f) (unplaced : get page_cmp m.place p ≡ None) where
  -- the page is none of those that had a frame
  other : (q : Page) (g : ℕ) → get page_cmp m.place q ≡ Some g → q ≡ p → ⊥
  other q g k e = some_none (sym k ∙ ap (get page_cmp m.place) e ∙ unplaced)

  apart_placed : (q s : Page) (g : ℕ) → get page_cmp (set page_cmp m.place p f) q ≡ Some g → get page_cmp (set page_cmp m.place p f) s ≡ Some g → q ≡ s
  apart_placed q s g a b =
      elim (place_after m.place p q f g a) as (λ _. q ≡ s) [
        | inl a ↦ elim (place_after m.place p s f g b) as (λ _. q ≡ s) [ inl b ↦ a.0 ∙ sym b.0 | inr b ↦ absurd (spare.place s (b.1 ∙ ap Some a.1)) ]
        | inr a ↦ elim (place_after m.place p s f g b) as (λ _. q ≡ s) [ inl b ↦ absurd (spare.place q (a.1 ∙ ap Some b.1)) | inr b ↦ h.apart q s g a.1 b.1 ]
      ]

  in_range_placed : (q : Page) (g : ℕ) → get page_cmp (set page_cmp m.place p f) q ≡ Some g → g < length r.mappings
  in_range_placed q g k =
      elim (place_after m.place p q f g k) as (λ _. g < length r.mappings) [
        | inl a ↦ subst (λ k. k < length r.mappings) (sym a.1) spare.frame
        | inr a ↦ h.in_range q g a.1
      ]

  pub place_tied : IsTied tasks (with_frame m p f) r
  place_tied = record {
    pids = h.pids;
    tables = h.tables;
    places = sorted-set page_cmp page_cmp_total m.place p f h.places;
    mappers = h.mappers;
    shows = λ g q w k. let s = h.shows g q w k in (s.0, s.1, place_other m.place p s.0 f g (other s.0 g s.2) s.2);
    apart = apart_placed;
    pinned = λ g k. h.pinned g (λ q e. k q (place_other m.place p q f g (other q g e) e));
    in_range = in_range_placed;
    as_many = h.as_many;
    settled = h.settled;
  }

  pub place_shows : spaces_view tasks (with_frame m p f) r ≡ record (spaces_view tasks m r) { place = set page_cmp m.place p f; pins = set page_cmp (pins_in r m.place) p 0 }
  place_shows =
      ap (λ pins. record (spaces_view tasks m r) { place = set page_cmp m.place p f; pins = pins })
      (with_values-set exact_page (λ q g. frame_pins r g) m.place p f ∙ ap (set page_cmp (pins_in r m.place) p) (h.pinned f spare.place))

-- a mapper that was added where no page was seen is removed again
pub mapper_undone : (y : AddressSpacesView) (tasks : Map ℕ Task) (m : Mapping) (r : Mappers) (pid v f : ℕ) → spaces_view tasks m r ≡ y → IsTied tasks m r → IsSome (get nat_cmp y.processes pid)
    → ((q : Page) → sight_in (get nat_cmp y.processes pid) v ≡ Some (Sees q) → ⊥) → f < length r.mappings → without_mapper (with_mapper r f (pid, v)) f (pid, v) ≡ r
mapper_undone y tasks m r pid v f is h known unseen below =
    let t = task_at y tasks m r pid is known in
    dropped_again r f (pid, v) below (no_mapper tasks m r pid t.0 v h t.1 (unmapped_at y tasks m r pid v is unseen) f)

-- a frame that was given is taken back
pub place_undone : (m : Mapping) (p : Page) (f : ℕ) → IsStrictlySortedBy page_cmp (keys_of m.place) → get page_cmp m.place p ≡ None → without_frame (with_frame m p f) p ≡ m
place_undone m p f s h = ap (λ place. record m { place = place }) (without-set page_cmp_total exact_page m.place p f s h)
