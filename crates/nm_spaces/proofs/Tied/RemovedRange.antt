-- Page tables, areas and the reverse map when a process unmaps a range of page numbers.
use Rattle.std.proofs.Common.{◌≡◌, ℕ, ◌<◌, List, [], ◌∷◌, ◌++◌, Bool, true, false, not, ◌&&◌, ◌||◌, cond, refl, sym, ap, subst, ◌∙◌, arith, inl, inr}
use Rattle.std.specs.Prelude.{Some, None, length, ◌==◌, ◌⊎◌, nat_lt, nat_le, if◌then◌else◌}
use Rattle.std.specs.Option.{option_map, unwrap_or}
use Rattle.std.specs.BTreeMap.{is_at}
use Rattle.std.specs.List.{filter, list_any, flat_map, fold}
use Rattle.std.specs.List.Sorted.{IsStrictlySortedBy}
use Rattle.std.specs.Map.{keys_of}
use Rattle.std.specs.Ordering.{nat_cmp, is_eq}
use Rattle.std.specs.Cmp.{nat_cmp_total, eq_by_cmp_equiv}
use Rattle.std.proofs.lemmas.Bool.{eqb-true, eqb-false, ltb-false, false_from_ne_true}
use Rattle.std.proofs.lemmas.Map.{lookup-remove_entry}
use Rattle.std.proofs.lemmas.Map.Keys.{IsDistinct-from_sorted}
use Rattle.std.proofs.lemmas.Map.Lookups.{exact_unsigned}
use Rattle.nm_types.specs.declared.page.Page.{Page}
use Rattle.nm_types.specs.declared.area.Area.{Area}
use Rattle.nm_types.specs.declared.sight.Sight.{Sight}
use Rattle.nm_types.specs.declared.sight.Sight.TheVariants.{Sees}
use Rattle.nm_types.specs.Map.{Map, get, without, with_values, page_cmp}
use Rattle.nm_types.specs.State.{Process, PlacedArea, area_over, page_shown, page_at}
use Rattle.nm_types.proofs.Cases.{true_false, none_some, some_is}
use Rattle.nm_types.specs.declared.entry.Entry.{Entry}
use Rattle.nm_types.specs.declared.entry.Entry.TheVariants.{Zero, Frame, Held}
use Rattle.nm_model.specs.definitions.Areas.{Mapping}
use Rattle.nm_model.specs.definitions.Areas.{pages_between, is_covered}
use Rattle.nm_model.specs.definitions.Areas.{areas_left, segments_left, pages_gone, place_left, after_removal, page_outside}
use Rattle.nm_rmap.specs.Mappers.{Mappers, mappers_of, frame_pins}
use Rattle.nm_model.specs.definitions.Effect.{shows_pinned}
use Rattle.nm_model.specs.definitions.Effect.{blind_between}
use Rattle.nm_model.specs.definitions.PageTables.{Task, entry_at}
use Rattle.nm_spaces.specs.views.ProcessTable.{names, cleared_between, without_entries}
use Rattle.nm_spaces.specs.views.AddressSpaces.{AddressSpacesView, spaces_view, pins_in, without_range}
use Rattle.nm_model.specs.definitions.PageTables.{process_of, sight_of}
use Rattle.nm_spaces.specs.definitions.Tied.{IsTied, IsCleared, has_spot, is_in_range}
use Rattle.nm_types.proofs.Maps.{equal, agree, get-values, exact_page, page_cmp_total, with_values-without}
use Rattle.nm_types.proofs.Keys.{sorted-without, All-get}
use Rattle.nm_laws.proofs.Soundness.Allocated.{area_covers}
use Rattle.nm_laws.proofs.Soundness.Released.{Listed}
use Rattle.nm_spaces.proofs.Held.ReplacedEntries.{TableInOrder}
use Rattle.nm_spaces.proofs.Tied.ClearedEntries.{out, out_not, between_parts, sorted_kept, get_kept, one_cleared, and_true, keys-cleared, tables-cleared, entry_cleared}

-- ---- places of pages

get_left : {V : Type 0} (m : Map Page V) (p q : Page) → IsStrictlySortedBy page_cmp (keys_of m) → get page_cmp (without page_cmp m p) q ≡ cond (is_eq (page_cmp p q)) None (get page_cmp m q)
get_left m p q s = lookup-remove_entry (eq_by_cmp_equiv page_cmp_total) (is_at (page_cmp p)) (λ x y h. ap is_eq (page_cmp_total.congr p x y (equal _ h))) q m (IsDistinct-from_sorted page_cmp (keys_of m) s)

module _ (areas : Map (ℕ × ℕ) Area) where
  one_sorted : (place : Map Page ℕ) (p : Page) → IsStrictlySortedBy page_cmp (keys_of place) → IsStrictlySortedBy page_cmp (keys_of (place_left areas place p))
  one_sorted place p s = elim (is_covered areas p) as (λ b. IsStrictlySortedBy page_cmp (keys_of (cond b place (without page_cmp place p)))) [ true ↦ s | false ↦ sorted-without page_cmp place p s ]

  places_sorted : (pages : List Page) (place : Map Page ℕ) → IsStrictlySortedBy page_cmp (keys_of place) → IsStrictlySortedBy page_cmp (keys_of (fold (place_left areas) place pages))
  places_sorted [] place s = s
  places_sorted (p ∷ pages) place s = places_sorted pages (place_left areas place p) (one_sorted place p s)

  one_had : (place : Map Page ℕ) (p q : Page) (f : ℕ) → IsStrictlySortedBy page_cmp (keys_of place) → get page_cmp (place_left areas place p) q ≡ Some f → get page_cmp place q ≡ Some f
  one_had place p q f s h =
      elim (is_covered areas p) as (λ b. get page_cmp (cond b place (without page_cmp place p)) q ≡ Some f → get page_cmp place q ≡ Some f) [
        | true ↦ λ k. k
        | false ↦ λ k.
            elim (is_eq (page_cmp p q)) as (λ b. cond b None (get page_cmp place q) ≡ Some f → get page_cmp place q ≡ Some f) [ true ↦ λ k. absurd (none_some k) | false ↦ λ k. k ] (sym (get_left place p q s) ∙ k)
      ] h

  -- a page that has a frame had it
  places_had : (pages : List Page) (place : Map Page ℕ) (q : Page) (f : ℕ) → IsStrictlySortedBy page_cmp (keys_of place) → get page_cmp (fold (place_left areas) place pages) q ≡ Some f → get page_cmp place q ≡ Some f
  places_had [] place q f s h = h
  places_had (p ∷ pages) place q f s h = one_had place p q f s (places_had pages (place_left areas place p) q f (one_sorted place p s) h)

  one_kept : (place : Map Page ℕ) (p q : Page) (f : ℕ) → IsStrictlySortedBy page_cmp (keys_of place) → is_covered areas q ≡ true → get page_cmp place q ≡ Some f → get page_cmp (place_left areas place p) q ≡ Some f
  one_kept place p q f s c h =
      elim (is_covered areas p) as (λ b. is_covered areas p ≡ b → get page_cmp (cond b place (without page_cmp place p)) q ≡ Some f) [
        | true ↦ λ b. h
        | false ↦ λ b.
            get_left place p q s
            ∙ ap (λ d. cond d None (get page_cmp place q)) (false_from_ne_true _ (λ e. true_false (sym (ap (is_covered areas) (exact_page p q (equal _ e)) ∙ c) ∙ b)))
            ∙ h
      ] refl

  -- a page that an area covers keeps its frame
  places_kept : (pages : List Page) (place : Map Page ℕ) (q : Page) (f : ℕ) → IsStrictlySortedBy page_cmp (keys_of place) → is_covered areas q ≡ true → get page_cmp place q ≡ Some f → get page_cmp (fold (place_left areas) place pages) q ≡ Some f
  places_kept [] place q f s c h = h
  places_kept (p ∷ pages) place q f s c h = places_kept pages (place_left areas place p) q f (one_sorted place p s) c (one_kept place p q f s c h)

  one_lost : (place : Map Page ℕ) (p q : Page) (f : ℕ) → IsStrictlySortedBy page_cmp (keys_of place) → get page_cmp place q ≡ Some f → get page_cmp (place_left areas place p) q ≡ None → q ≡ p
  one_lost place p q f s h k =
      elim (is_covered areas p) as (λ b. get page_cmp (cond b place (without page_cmp place p)) q ≡ None → q ≡ p) [
        | true ↦ λ k. absurd (none_some (sym k ∙ h))
        | false ↦ λ k.
            elim (is_eq (page_cmp p q)) as (λ b. is_eq (page_cmp p q) ≡ b → cond b None (get page_cmp place q) ≡ None → q ≡ p) [
              | true ↦ λ b l. sym (exact_page p q (equal _ b))
              | false ↦ λ b l. absurd (none_some (sym l ∙ h))
            ] refl (sym (get_left place p q s) ∙ k)
      ] k

  -- a page that has lost its frame is one of the list
  places_lost : (pages : List Page) (place : Map Page ℕ) (q : Page) (f : ℕ) → IsStrictlySortedBy page_cmp (keys_of place) → get page_cmp place q ≡ Some f → get page_cmp (fold (place_left areas) place pages) q ≡ None → Listed q pages
  places_lost [] place q f s h k = absurd (none_some (sym k ∙ h))
  places_lost (p ∷ pages) place q f s h k =
      elim (get page_cmp (place_left areas place p) q) as (λ o. get page_cmp (place_left areas place p) q ≡ o → Listed q (p ∷ pages)) [
        | None ↦ λ o. inl (one_lost place p q f s h o)
        | Some g ↦ λ o. inr (places_lost pages (place_left areas place p) q g (one_sorted place p s) o k)
      ] refl

  -- what is shown of the places
  values_left : (F : Page → ℕ → ℕ) (pages : List Page) (place : Map Page ℕ) → with_values F (fold (place_left areas) place pages) ≡ fold (place_left areas) (with_values F place) pages
  values_left F [] place = refl
  values_left F (p ∷ pages) place =
      values_left F pages (place_left areas place p)
      ∙ ap (λ place. fold (place_left areas) place pages)
      (elim (is_covered areas p) as (λ b. with_values F (cond b place (without page_cmp place p)) ≡ cond b (with_values F place) (without page_cmp (with_values F place) p)) [
        | true ↦ refl
        | false ↦ with_values-without page_cmp F place p
      ])

-- what is shown is covered
covered_at : (areas : Map (ℕ × ℕ) Area) (q v : ℕ) (p : Page) → page_at areas q v ≡ Some p → is_covered areas p ≡ true
covered_at areas q v p e =
    elim (area_over areas q v) as (λ o. area_over areas q v ≡ o → page_shown o v ≡ Some p → is_covered areas p ≡ true) [
      | None ↦ λ o k. absurd (none_some k)
      | Some a ↦ λ o k. subst (λ r. is_covered areas r ≡ true) (some_is k) (area_covers areas q v a o)
    ] refl e

-- ---- pages without pins

or_parts : (a b : Bool) → (a || b) ≡ false → (a ≡ false) × (b ≡ false)
or_parts true b h = absurd (true_false h)
or_parts false b h = (refl, h)

listed_none : (test : Page → Bool) (pages : List Page) (p : Page) → list_any test pages ≡ false → Listed p pages → test p ≡ false
listed_none test [] p h m = absurd m
listed_none test (x ∷ pages) p h (inl e) = ap test e ∙ (or_parts _ _ h).0
listed_none test (x ∷ pages) p h (inr m) = listed_none test pages p (or_parts _ _ h).1 m

listed_split : (xs ys : List Page) (p : Page) → Listed p (xs ++ ys) → Listed p xs ⊎ Listed p ys
listed_split [] ys p m = inr m
listed_split (x ∷ xs) ys p (inl e) = inl (inl e)
listed_split (x ∷ xs) ys p (inr m) = elim (listed_split xs ys p m) as (λ _. Listed p (x ∷ xs) ⊎ Listed p ys) [ inl l ↦ inl (inr l) | inr l ↦ inr l ]

none_gone : (test : Page → Bool) (pid first end : ℕ) (areas : Map (ℕ × ℕ) Area) (p : Page) → list_any (λ (a : PlacedArea). (a.0.0 == pid) && list_any test (pages_between first end a)) areas ≡ false
    → Listed p (pages_gone areas pid first end) → test p ≡ false
none_gone test pid first end [] p h m = absurd m
none_gone test pid first end (a ∷ areas) p h m =
    let here = pages_between first end a in
    let own = filter (λ (a : PlacedArea). a.0.0 == pid) areas in
    let parts = or_parts ((a.0.0 == pid) && list_any test here) _ h in
    elim (a.0.0 == pid) as (λ b. (b && list_any test here) ≡ false → Listed p (flat_map (pages_between first end) (cond b (a ∷ own) own)) → test p ≡ false) [
      | true ↦ λ k m. elim (listed_split here (flat_map (pages_between first end) own) p m) as (λ _. test p ≡ false) [ inl l ↦ listed_none test here p k l | inr l ↦ none_gone test pid first end areas p parts.1 l ]
      | false ↦ λ k m. none_gone test pid first end areas p parts.1 m
    ] parts.0 m

-- a page that is unmapped has no pins
pub unpinned_pages : (y : AddressSpacesView) (tasks : Map ℕ Task) (m : Mapping) (r : Mappers) (pid first end : ℕ) → spaces_view tasks m r ≡ y → shows_pinned y.areas y.pins pid first end ≡ false
    → (p : Page) (f : ℕ) → Listed p (pages_gone m.areas pid first end) → get page_cmp m.place p ≡ Some f → frame_pins r f ≡ 0
unpinned_pages y tasks m r pid first end is h p f listed found =
    let free = none_gone (λ p. nat_lt 0 (unwrap_or (get page_cmp (pins_in r m.place) p) 0)) pid first end m.areas p (ap (λ (y : AddressSpacesView). shows_pinned y.areas y.pins pid first end) is ∙ h) listed in
    let pins : unwrap_or (get page_cmp (pins_in r m.place) p) 0 ≡ frame_pins r f = ap (λ o. unwrap_or o 0) (get-values exact_page (λ p f. frame_pins r f) m.place p ∙ ap (option_map (λ f. frame_pins r f)) found) in
    let none = ltb-false 0 (frame_pins r f) (ap (nat_lt 0) (sym pins) ∙ free) in
    omega (arith, none)

-- ---- what is left

values_twice : {V W X : Type 0} (F : ℕ → W → X) (G : ℕ → V → W) (m : Map ℕ V) → with_values F (with_values G m) ≡ with_values (λ q v. F q (G q v)) m
values_twice F G [] = refl
values_twice F G (e ∷ m) = ap (λ es. (e.0, F e.0 (G e.0 e.1)) ∷ es) (values_twice F G m)

filter_values : {V W : Type 0} (F : ℕ → V → W) (test : ℕ → Bool) (m : Map ℕ V) → with_values F (filter (λ e. test e.0) m) ≡ filter (λ e. test e.0) (with_values F m)
filter_values F test [] = refl
filter_values F test (e ∷ m) =
    elim (test e.0) as (λ b. with_values F (cond b (e ∷ filter (λ e. test e.0) m) (filter (λ e. test e.0) m)) ≡ cond b ((e.0, F e.0 e.1) ∷ filter (λ e. test e.0) (with_values F m)) (filter (λ e. test e.0) (with_values F m))) [
      | true ↦ ap (λ es. (e.0, F e.0 e.1) ∷ es) (filter_values F test m)
      | false ↦ filter_values F test m
    ]

out_between : (pid a b q w : ℕ) → out a b w ≡ true → is_in_range pid a b (q, w) ≡ false
out_between pid a b q w h = false_from_ne_true _ (λ k. let parts = between_parts pid a b q w k in true_false (sym h ∙ out_not a b w parts.1 parts.2))

both_not : (b : Bool) → (b && not b) ≡ false
both_not true = refl
both_not false = refl

module _ (tasks : Map ℕ Task) (m : Mapping) (r u : Mappers) (pid first end : ℕ) (t : IsTied tasks m r) (pages : (q v : ℕ) → page_at (areas_left m.areas pid first end) q v ≡ page_outside m.areas pid first end q v)
    (gone : IsCleared r u pid first end tasks) where
  abbrev left : Map (ℕ × ℕ) Area
  left = areas_left m.areas pid first end

  abbrev listed : List Page
  listed = pages_gone m.areas pid first end

  abbrev kept : Map Page ℕ
  kept = fold (place_left left) m.place listed

  page_same : (q v : ℕ) → is_in_range pid first end (q, v) ≡ false → page_at left q v ≡ page_at m.areas q v
  page_same q v h = pages q v ∙ ap (λ c. cond c None (page_at m.areas q v)) h

  sight_same : (q v : ℕ) (e : Entry) → is_in_range pid first end (q, v) ≡ false → sight_of left q v e ≡ sight_of m.areas q v e
  sight_same q v Zero h = refl
  sight_same q v (Frame f) h = ap (λ o. Sees (unwrap_or o (record { segment = 0; index = 0 }))) (page_same q v h)
  sight_same q v (Held f) h = ap (λ o. Sees (unwrap_or o (record { segment = 0; index = 0 }))) (page_same q v h)

  task_left : (q : ℕ) (task : Task) → get nat_cmp tasks q ≡ Some task
      → process_of left q (one_cleared pid first end q task) ≡ (if q == pid then blind_between first end (process_of m.areas q task) else process_of m.areas q task)
  task_left q task found =
      let sorted = All-get nat_cmp TableInOrder tasks q task t.tables found in
      let with_sights : Map ℕ Sight → Process = λ s. record { uid = task.info.uid; privileged = task.info.privileged; home = task.info.home; allowed = task.info.allowed; sees = s } in
      elim (q == pid) as (λ b. (q == pid) ≡ b → process_of left q (if b then cleared_between first end task else task) ≡ (if b then blind_between first end (process_of m.areas q task) else process_of m.areas q task)) [
        | true ↦ λ b. ap with_sights
            (agree nat_cmp_total exact_unsigned (sight_of left q) (sight_of m.areas q) (filter (λ e. out first end e.0) task.table) (sorted_kept (out first end) task.table sorted) (λ v e k.
            elim (out first end v) as (λ c. out first end v ≡ c → cond c (get nat_cmp task.table v) None ≡ Some e → sight_of left q v e ≡ sight_of m.areas q v e) [
              | true ↦ λ c k. sight_same q v e (out_between pid first end q v c)
              | false ↦ λ c k. absurd (none_some k)
            ] refl (sym (get_kept (out first end) task.table v) ∙ k))
            ∙ filter_values (sight_of m.areas q) (out first end) task.table)
        | false ↦ λ b. ap with_sights
            (agree nat_cmp_total exact_unsigned (sight_of left q) (sight_of m.areas q) task.table sorted (λ v e k.
            sight_same q v e (ap (λ c. c && (nat_le first v && nat_lt v end)) b)))
      ] refl

  -- what processes see, and the areas, frames and pins
  pub removed_shows : spaces_view (without_entries tasks pid first end) (after_removal m pid first end) u ≡ without_range (spaces_view tasks m r) pid first end
  removed_shows = λ i. record {
    processes =
        (values_twice (process_of left) (one_cleared pid first end) tasks
        ∙ agree nat_cmp_total exact_unsigned (λ q task. process_of left q (one_cleared pid first end q task)) (λ q task. if q == pid then blind_between first end (process_of m.areas q task) else process_of m.areas q task) tasks t.pids task_left
        ∙ sym (values_twice (λ q p. if q == pid then blind_between first end p else p) (process_of m.areas) tasks)) i;
    areas = left;
    segments = segments_left m.segments left;
    next = m.next;
    place = kept;
    pins = (ap (λ pins. pins_in (record { mappings = u.mappings; pins = pins }) kept) gone.pins ∙ values_left left (λ p f. frame_pins r f) listed m.place) i;
    frames = gone.frames i;
  }

  mapped_left : (f q v : ℕ) → has_spot (mappers_of u f) (q, v) ≡ names f (entry_at (without_entries tasks pid first end) q v)
  mapped_left f q v =
      let o = entry_at tasks q v in
      let own = is_in_range pid first end (q, v) in
      gone.mappings f (q, v) ∙ ap (λ b. b && not (own && names f o)) (t.mappers f q v)
      ∙ elim own as (λ b. (names f o && not (b && names f o)) ≡ names f (cond b None o)) [ true ↦ both_not (names f o) | false ↦ sym (and_true (names f o)) ]
      ∙ sym (ap (names f) (entry_cleared tasks pid first end q v))

  shown_left : (f q v : ℕ) → names f (entry_at (without_entries tasks pid first end) q v) ≡ true → (p : Page) × (page_at left q v ≡ Some p) × (get page_cmp kept p ≡ Some f)
  shown_left f q v h =
      let o = entry_at tasks q v in
      elim (is_in_range pid first end (q, v)) as (λ b. is_in_range pid first end (q, v) ≡ b → names f (cond b None o) ≡ true → (p : Page) × (page_at left q v ≡ Some p) × (get page_cmp kept p ≡ Some f)) [
        | true ↦ λ b k. absurd (true_false (sym k))
        | false ↦ λ b k.
            let s = t.shows f q v k in
            let at = page_same q v b ∙ s.1 in
            (s.0, at, places_kept left listed m.place s.0 f t.places (covered_at left q v s.0 at) s.2)
      ] refl (sym (ap (names f) (entry_cleared tasks pid first end q v)) ∙ h)

  settled_left : (f q v : ℕ) → entry_at (without_entries tasks pid first end) q v ≡ Some (Held f) → ⊥
  settled_left f q v h =
      elim (is_in_range pid first end (q, v)) as (λ b. cond b None (entry_at tasks q v) ≡ Some (Held f) → ⊥) [ true ↦ λ k. none_some k | false ↦ λ k. t.settled f q v k ]
      (sym (entry_cleared tasks pid first end q v) ∙ h)

  had : (p : Page) (f : ℕ) → get page_cmp kept p ≡ Some f → get page_cmp m.place p ≡ Some f
  had p f h = places_had left listed m.place p f t.places h

  pinned_left : ((p : Page) (f : ℕ) → Listed p listed → get page_cmp m.place p ≡ Some f → frame_pins r f ≡ 0) → (f : ℕ) → ((p : Page) → get page_cmp kept p ≡ Some f → ⊥) → frame_pins u f ≡ 0
  pinned_left free f h =
      ap (λ pins. frame_pins (record { mappings = u.mappings; pins = pins }) f) gone.pins
      ∙ elim (frame_pins r f == 0) as (λ b. (frame_pins r f == 0) ≡ b → frame_pins r f ≡ 0) [
        | true ↦ λ b. eqb-true (frame_pins r f) 0 b
        | false ↦ λ b. t.pinned f (λ p k.
            elim (get page_cmp kept p) as (λ o. get page_cmp kept p ≡ o → ⊥) [
              | None ↦ λ o. eqb-false (frame_pins r f) 0 b (free p f (places_lost left listed m.place p f t.places k o) k)
              | Some g ↦ λ o. h p (o ∙ sym (had p g o) ∙ k)
            ] refl)
      ] refl

  -- they stay tied
  pub removed_tied : ((p : Page) (f : ℕ) → Listed p listed → get page_cmp m.place p ≡ Some f → frame_pins r f ≡ 0) → IsTied (without_entries tasks pid first end) (after_removal m pid first end) u
  removed_tied free = record {
    pids = subst (IsStrictlySortedBy nat_cmp) (sym (keys-cleared tasks pid first end)) t.pids;
    tables = tables-cleared tasks pid first end t.tables;
    places = places_sorted left listed m.place t.places;
    mappers = mapped_left;
    shows = shown_left;
    apart = λ p q f h k. t.apart p q f (had p f h) (had q f k);
    pinned = pinned_left free;
    in_range = λ p f h. subst (λ n. f < n) (sym gone.frames) (t.in_range p f (had p f h));
    as_many = ap length gone.pins ∙ t.as_many ∙ sym gone.frames;
    settled = settled_left;
  }
