-- Page tables, areas and the reverse map when a page goes to another frame.
use Rattle.std.proofs.Common.{◌≡◌, ℕ, ◌<◌, List, [], ◌∷◌, true, false, cond, refl, sym, ap, subst, ◌∙◌, arith, length-set, inl, inr, eq-eqb}
use Rattle.std.specs.Prelude.{Option, Some, None, length, slice_index_or, slice_set, ◌==◌, ◌⊎◌}
use Rattle.std.specs.Ordering.{is_eq, nat_cmp}
use Rattle.std.specs.List.Sorted.{IsStrictlySortedBy}
use Rattle.std.specs.Cmp.{tied_itself}
use Rattle.std.proofs.lemmas.Bool.{eqb-true, eqb-false, false_from_ne_true, both_ways, ne_eqb, or_left}
use Rattle.std.proofs.lemmas.List.{get_or-set_same, get_or-set_other}
use Rattle.nm_types.specs.declared.page.Page.{Page}
use Rattle.nm_types.specs.Map.{Map, get, set, page_cmp}
use Rattle.nm_types.specs.State.{page_at}
use Rattle.nm_types.proofs.Cases.{some_is}
use Rattle.nm_types.specs.declared.entry.Entry.{Entry}
use Rattle.nm_types.specs.declared.entry.Entry.TheVariants.{Zero, Frame, Held}
use Rattle.nm_model.specs.definitions.Areas.{Mapping}
use Rattle.nm_model.specs.definitions.Areas.{with_frame}
use Rattle.nm_rmap.specs.Mappers.{Mappers, mappers_of, frame_pins, carry}
use Rattle.nm_model.specs.definitions.PageTables.{Task, entry_at}
use Rattle.nm_spaces.specs.views.ProcessTable.{names, with_frame_at_all}
use Rattle.nm_spaces.specs.views.AddressSpaces.{AddressSpacesView, spaces_view, pins_in, with_moved}
use Rattle.nm_spaces.specs.definitions.Tied.{IsTied, has_spot}
use Rattle.nm_types.proofs.Maps.{equal, get-set, page_cmp_total, exact_page, spot_cmp_total, with_values-moved, keys-set}
use Rattle.nm_spaces.proofs.Held.ReplacedEntries.{mappers_mapped, entry_at-remapped, remapped_shows, keys-remapped, order-remapped}

pub frame_held : {f g : ℕ} → Some (Frame f) ≡ Some (Held g) → ⊥
frame_held e = cc

-- a frame that no page has
pub record IsSpare (m : Mapping) (r : Mappers) (f : ℕ) : Type 0 where
  pub place : (q : Page) → get page_cmp m.place q ≡ Some f → ⊥
  pub frame : f < length r.mappings

names_one : (f g : ℕ) (o : Option Entry) → names f o ≡ true → names g o ≡ true → f ≡ g
names_one f g None h k = cc
names_one f g (Some Zero) h k = cc
names_one f g (Some (Frame n)) h k = sym (eqb-true n f h) ∙ eqb-true n g k
names_one f g (Some (Held n)) h k = sym (eqb-true n f h) ∙ eqb-true n g k

-- the frame of a page after one of the pages got a frame
pub place_after : (m : Map Page ℕ) (p q : Page) (to f : ℕ) → get page_cmp (set page_cmp m p to) q ≡ Some f → ((q ≡ p) × (f ≡ to)) ⊎ ((q ≡ p → ⊥) × (get page_cmp m q ≡ Some f))
place_after m p q to f h =
    elim (is_eq (page_cmp q p)) as (λ b. is_eq (page_cmp q p) ≡ b → cond b (Some to) (get page_cmp m q) ≡ Some f → ((q ≡ p) × (f ≡ to)) ⊎ ((q ≡ p → ⊥) × (get page_cmp m q ≡ Some f))) [
      | true ↦ λ b c. inl (exact_page q p (equal _ b), sym (some_is c))
      | false ↦ λ b c. inr (λ e. both_ways _ b (ap is_eq (ap (λ r. page_cmp r p) e ∙ tied_itself page_cmp_total p)), c)
    ] refl (sym (get-set page_cmp_total m p to q) ∙ h)

pub place_new : (m : Map Page ℕ) (p : Page) (to : ℕ) → get page_cmp (set page_cmp m p to) p ≡ Some to
place_new m p to = get-set page_cmp_total m p to p ∙ ap (λ r. cond (is_eq r) (Some to) (get page_cmp m p)) (tied_itself page_cmp_total p)

pub place_other : (m : Map Page ℕ) (p q : Page) (to f : ℕ) → (q ≡ p → ⊥) → get page_cmp m q ≡ Some f → get page_cmp (set page_cmp m p to) q ≡ Some f
place_other m p q to f apart h =
    get-set page_cmp_total m p to q ∙ ap (λ b. cond b (Some to) (get page_cmp m q)) (false_from_ne_true _ (λ b. apart (exact_page q p (equal _ b)))) ∙ h

-- an item after one was set
pub get_or-set : {A : Type 0} (xs : List A) (i f : ℕ) (a d : A) → i < length xs → slice_index_or (slice_set xs i a) f d ≡ cond (f == i) a (slice_index_or xs f d)
get_or-set xs i f a d h =
    elim (f == i) as (λ b. (f == i) ≡ b → slice_index_or (slice_set xs i a) f d ≡ cond b a (slice_index_or xs f d)) [
      | true ↦ λ b. ap (λ k. slice_index_or (slice_set xs i a) k d) (eqb-true f i b) ∙ get_or-set_same xs i a d h
      | false ↦ λ b. get_or-set_other xs i f a d (eqb-false f i b)
    ] refl

no_spot : (l : List (ℕ × ℕ)) → ((q : ℕ × ℕ) → has_spot l q ≡ false) → l ≡ []
no_spot [] h = refl
no_spot (s ∷ l) h = absurd (both_ways _ (h s) (or_left _ _ (ap is_eq (tied_itself spot_cmp_total s))))

-- nothing names a spare frame
pub spare_unnamed : (tasks : Map ℕ Task) (m : Mapping) (r : Mappers) (f : ℕ) → IsTied tasks m r → IsSpare m r f → (pid v : ℕ) → names f (entry_at tasks pid v) ≡ false
spare_unnamed tasks m r f t spare pid v = false_from_ne_true _ (λ h. let p = t.shows f pid v h in spare.place p.0 p.2)

-- a spare frame has no mappers
pub spare_without : (tasks : Map ℕ Task) (m : Mapping) (r : Mappers) (f : ℕ) → IsTied tasks m r → IsSpare m r f → mappers_of r f ≡ []
spare_without tasks m r f t spare = no_spot (mappers_of r f) (λ q. t.mappers f q.0 q.1 ∙ spare_unnamed tasks m r f t spare q.0 q.1)

-- what an entry names after the entries that named a frame name another one
names_after : (f from to : ℕ) (o : Option Entry) → (to ≡ from → ⊥) → names to o ≡ false
    → names f (cond (names from o) (Some (Frame to)) o) ≡ cond (f == from) false (cond (f == to) (names from o) (names f o))
names_after f from to o apart unnamed =
    elim (names from o) as (λ b. names from o ≡ b → names f (cond b (Some (Frame to)) o) ≡ cond (f == from) false (cond (f == to) b (names f o))) [
      | true ↦ λ b. elim (f == from) as (λ c. (f == from) ≡ c → (to == f) ≡ cond c false (cond (f == to) true (names f o))) [
        | true ↦ λ c. ne_eqb to f (λ e. apart (e ∙ eqb-true f from c))
        | false ↦ λ c. elim (f == to) as (λ d. (f == to) ≡ d → (to == f) ≡ cond d true (names f o)) [
          | true ↦ λ d. eq-eqb to f (sym (eqb-true f to d))
          | false ↦ λ d. ne_eqb to f (λ e. eqb-false f to d (sym e)) ∙ sym (false_from_ne_true _ (λ n. eqb-false f from c (names_one f from o n b)))
        ] refl
      ] refl
      | false ↦ λ b. elim (f == from) as (λ c. (f == from) ≡ c → names f o ≡ cond c false (cond (f == to) false (names f o))) [
        | true ↦ λ c. ap (λ g. names g o) (eqb-true f from c) ∙ b
        | false ↦ λ c. elim (f == to) as (λ d. (f == to) ≡ d → names f o ≡ cond d false (names f o)) [
          | true ↦ λ d. ap (λ g. names g o) (eqb-true f to d) ∙ unnamed
          | false ↦ λ d. refl
        ] refl
      ] refl
    ] refl

module _ (tasks : Map ℕ Task) (m : Mapping) (r : Mappers) (p : Page) (from to : ℕ) (t : IsTied tasks m r) (placed : get page_cmp m.place p ≡ Some from) (spare : IsSpare m r to) where
  pub frames_apart : from ≡ to → ⊥
  frames_apart e = spare.place p (placed ∙ ap Some e)

  entry_after : (pid v : ℕ) → entry_at (with_frame_at_all tasks (mappers_of r from) to) pid v ≡ cond (names from (entry_at tasks pid v)) (Some (Frame to)) (entry_at tasks pid v)
  entry_after pid v =
      entry_at-remapped tasks (mappers_of r from) to (pid, v) (mappers_mapped tasks (mappers_of r from) from (t.mappers from))
      ∙ ap (λ b. cond b (Some (Frame to)) (entry_at tasks pid v)) (t.mappers from pid v)

  pub below : from < length r.mappings
  below = t.in_range p from placed

  mappers_after : (f : ℕ) → mappers_of (carry r from to) f ≡ cond (f == from) [] (cond (f == to) (mappers_of r from) (mappers_of r f))
  mappers_after f =
      get_or-set (slice_set r.mappings to (mappers_of r from)) from f [] [] (omega (arith, below, length-set r.mappings to (mappers_of r from)))
      ∙ ap (cond (f == from) []) (get_or-set r.mappings to f (mappers_of r from) [] spare.frame)

  pins_after : (f : ℕ) → frame_pins (carry r from to) f ≡ cond (f == from) 0 (cond (f == to) (frame_pins r from) (frame_pins r f))
  pins_after f =
      get_or-set (slice_set r.pins to (frame_pins r from)) from f 0 0 (omega (arith, below, t.as_many, length-set r.pins to (frame_pins r from)))
      ∙ ap (cond (f == from) 0) (get_or-set r.pins to f (frame_pins r from) 0 (omega (arith, spare.frame, t.as_many)))

  mapped_after : (f pid v : ℕ) → has_spot (mappers_of (carry r from to) f) (pid, v) ≡ names f (entry_at (with_frame_at_all tasks (mappers_of r from) to) pid v)
  mapped_after f pid v =
      let o = entry_at tasks pid v in
      ap (λ l. has_spot l (pid, v)) (mappers_after f)
      ∙ elim (f == from) as (λ b. has_spot (cond b [] (cond (f == to) (mappers_of r from) (mappers_of r f))) (pid, v) ≡ cond b false (cond (f == to) (names from o) (names f o))) [
        | true ↦ refl
        | false ↦ elim (f == to) as (λ b. has_spot (cond b (mappers_of r from) (mappers_of r f)) (pid, v) ≡ cond b (names from o) (names f o)) [ true ↦ t.mappers from pid v | false ↦ t.mappers f pid v ]
      ]
      ∙ sym (ap (names f) (entry_after pid v) ∙ names_after f from to o (λ e. frames_apart (sym e)) (spare_unnamed tasks m r to t spare pid v))

  shown_after : (f pid v : ℕ) → names f (entry_at (with_frame_at_all tasks (mappers_of r from) to) pid v) ≡ true → (q : Page) × (page_at m.areas pid v ≡ Some q) × (get page_cmp (set page_cmp m.place p to) q ≡ Some f)
  shown_after f pid v h =
      let o = entry_at tasks pid v in
      elim (names from o) as (λ b. names from o ≡ b → names f (cond b (Some (Frame to)) o) ≡ true → (q : Page) × (page_at m.areas pid v ≡ Some q) × (get page_cmp (set page_cmp m.place p to) q ≡ Some f)) [
        | true ↦ λ b n. let s = t.shows from pid v b in
            (s.0, s.1, subst (λ q. get page_cmp (set page_cmp m.place p to) q ≡ Some f) (t.apart p s.0 from placed s.2) (place_new m.place p to ∙ ap Some (eqb-true to f n)))
        | false ↦ λ b n. let s = t.shows f pid v n in
            (s.0, s.1, place_other m.place p s.0 to f (λ e. both_ways _ b (subst (λ g. names g o ≡ true) (some_is (sym s.2 ∙ ap (get page_cmp m.place) e ∙ placed)) n)) s.2)
      ] refl (sym (ap (names f) (entry_after pid v)) ∙ h)

  apart_after : (q s : Page) (f : ℕ) → get page_cmp (set page_cmp m.place p to) q ≡ Some f → get page_cmp (set page_cmp m.place p to) s ≡ Some f → q ≡ s
  apart_after q s f h k =
      elim (place_after m.place p q to f h) as (λ _. q ≡ s) [
        | inl a ↦ elim (place_after m.place p s to f k) as (λ _. q ≡ s) [ inl b ↦ a.0 ∙ sym b.0 | inr b ↦ absurd (spare.place s (b.1 ∙ ap Some a.1)) ]
        | inr a ↦ elim (place_after m.place p s to f k) as (λ _. q ≡ s) [ inl b ↦ absurd (spare.place q (a.1 ∙ ap Some b.1)) | inr b ↦ t.apart q s f a.1 b.1 ]
      ]

  pinned_after : (f : ℕ) → ((q : Page) → get page_cmp (set page_cmp m.place p to) q ≡ Some f → ⊥) → frame_pins (carry r from to) f ≡ 0
  pinned_after f h =
      pins_after f
      ∙ elim (f == from) as (λ b. (f == from) ≡ b → cond b 0 (cond (f == to) (frame_pins r from) (frame_pins r f)) ≡ 0) [
        | true ↦ λ b. refl
        | false ↦ λ b. elim (f == to) as (λ c. (f == to) ≡ c → cond c (frame_pins r from) (frame_pins r f) ≡ 0) [
          | true ↦ λ c. absurd (h p (place_new m.place p to ∙ ap Some (sym (eqb-true f to c))))
          | false ↦ λ c. t.pinned f (λ q k. h q (place_other m.place p q to f (λ e. eqb-false f from b (some_is (sym k ∙ ap (get page_cmp m.place) e ∙ placed))) k))
        ] refl
      ] refl

  frames_after : length (carry r from to).mappings ≡ length r.mappings
  frames_after = length-set (slice_set r.mappings to (mappers_of r from)) from [] ∙ length-set r.mappings to (mappers_of r from)

  in_range_after : (q : Page) (f : ℕ) → get page_cmp (set page_cmp m.place p to) q ≡ Some f → f < length (carry r from to).mappings
  in_range_after q f h =
      subst (λ n. f < n) (sym frames_after)
      (elim (place_after m.place p q to f h) as (λ _. f < length r.mappings) [
        | inl a ↦ subst (λ g. g < length r.mappings) (sym a.1) spare.frame
        | inr a ↦ t.in_range q f a.1
      ])

  settled_after : (f pid v : ℕ) → entry_at (with_frame_at_all tasks (mappers_of r from) to) pid v ≡ Some (Held f) → ⊥
  settled_after f pid v h =
      elim (names from (entry_at tasks pid v)) as (λ b. cond b (Some (Frame to)) (entry_at tasks pid v) ≡ Some (Held f) → ⊥) [
        | true ↦ λ k. frame_held k
        | false ↦ λ k. t.settled f pid v k
      ] (sym (entry_after pid v) ∙ h)

  -- they stay tied
  pub move_tied : IsTied (with_frame_at_all tasks (mappers_of r from) to) (with_frame m p to) (carry r from to)
  move_tied = record {
    pids = subst (λ ks. IsStrictlySortedBy nat_cmp ks) (sym (keys-remapped tasks (mappers_of r from) to)) t.pids;
    tables = order-remapped tasks (mappers_of r from) to t.tables;
    places = subst (λ ks. IsStrictlySortedBy page_cmp ks) (sym (keys-set page_cmp_total exact_page p m.place to from t.places placed)) t.places;
    mappers = mapped_after;
    shows = shown_after;
    apart = apart_after;
    pinned = pinned_after;
    in_range = in_range_after;
    as_many = length-set (slice_set r.pins to (frame_pins r from)) from 0 ∙ length-set r.pins to (frame_pins r from) ∙ t.as_many ∙ sym frames_after;
    settled = settled_after;
  }

  pins_move : pins_in (carry r from to) (set page_cmp m.place p to) ≡ pins_in r m.place
  pins_move =
      let pins = slice_set r.pins to (frame_pins r from) in
      with_values-moved page_cmp_total exact_page (frame_pins (carry r from to)) (frame_pins r) m.place p from to t.places placed
      (get_or-set_other pins from to 0 0 (λ e. frames_apart (sym e)) ∙ get_or-set_same r.pins to _ 0 (omega (arith, spare.frame, t.as_many)))
      (λ q f found apart.
      get_or-set_other pins from f 0 0 (λ e. both_ways _ apart (ap is_eq (ap (λ r. page_cmp r p) (t.apart q p from (found ∙ ap Some e) placed) ∙ tied_itself page_cmp_total p)))
      ∙ get_or-set_other r.pins to f _ 0 (λ e. spare.place q (found ∙ ap Some e)))

  -- what is seen and how often pages are pinned stays
  pub move_shows : spaces_view (with_frame_at_all tasks (mappers_of r from) to) (with_frame m p to) (carry r from to) ≡ with_moved (spaces_view tasks m r) p to
  move_shows = λ i. record {
    processes = remapped_shows m.areas tasks (mappers_of r from) to (mappers_mapped tasks (mappers_of r from) from (t.mappers from)) i;
    areas = m.areas;
    segments = m.segments;
    next = m.next;
    place = set page_cmp m.place p to;
    pins = pins_move i;
    frames = frames_after i;
  }

-- what is known of what is shown is known of the parts
pub placed_in : (y : AddressSpacesView) (tasks : Map ℕ Task) (m : Mapping) (r : Mappers) (p : Page) (f : ℕ) → spaces_view tasks m r ≡ y → get page_cmp y.place p ≡ Some f → get page_cmp m.place p ≡ Some f
placed_in y tasks m r p f is h = subst (λ (y : AddressSpacesView). get page_cmp y.place p ≡ Some f) (sym is) h

pub spare_in : (y : AddressSpacesView) (tasks : Map ℕ Task) (m : Mapping) (r : Mappers) (f : ℕ) → spaces_view tasks m r ≡ y → f < y.frames → ((q : Page) → get page_cmp y.place q ≡ Some f → ⊥) → IsSpare m r f
spare_in y tasks m r f is below none = record {
  place = subst (λ (y : AddressSpacesView). (q : Page) → get page_cmp y.place q ≡ Some f → ⊥) (sym is) none;
  frame = subst (λ (y : AddressSpacesView). f < y.frames) (sym is) below;
}
