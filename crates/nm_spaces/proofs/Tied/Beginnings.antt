-- Page tables, areas and the reverse map at the beginning, with one more process, and as they are listed.
use Rattle.std.proofs.Common.{◌≡◌, ℕ, List, [], ◌∷◌, suc, zero, eq-eqb, true, false, cond, refl, sym, ap, ◌∙◌}
use Rattle.std.specs.Prelude.{Option, Some, None, replicate, slice_index_or}
use Rattle.std.specs.Option.{option_map, unwrap_or}
use Rattle.std.specs.List.{AllByRecursion}
use Rattle.std.specs.List.Sorted.{IsStrictlySortedBy}
use Rattle.std.specs.Ordering.{nat_cmp, is_eq}
use Rattle.std.specs.Cmp.{nat_cmp_total}
use Rattle.std.proofs.lemmas.List.{length-replicate}
use Rattle.std.proofs.lemmas.Map.Lookups.{exact_unsigned}
use Rattle.nm_types.specs.declared.page.Page.{Page}
use Rattle.nm_types.specs.declared.area.Area.{Area}
use Rattle.nm_types.specs.declared.sight.Sight.TheVariants.{Sees}
use Rattle.nm_types.specs.Map.{Map, get, set, with_values, page_cmp}
use Rattle.nm_types.specs.State.{Process, page_at}
use Rattle.nm_types.proofs.Cases.{none_some}
use Rattle.nm_model.specs.definitions.Seen.{sight_in}
use Rattle.nm_types.specs.declared.entry.Entry.{Entry}
use Rattle.nm_types.specs.declared.entry.Entry.TheVariants.{Zero, Frame, Held}
use Rattle.nm_model.specs.definitions.Areas.{no_areas}
use Rattle.nm_model.specs.definitions.Areas.{Mapping}
use Rattle.nm_rmap.specs.Mappers.{Mappers, new_map}
use Rattle.nm_types.specs.declared.process.ProcessInfo.{ProcessInfo}
use Rattle.nm_model.specs.definitions.PageTables.{entry_of}
use Rattle.nm_model.specs.definitions.Effect.{info_of, new_process}
use Rattle.nm_model.specs.definitions.PageTables.{Task, entry_at, entry_in}
use Rattle.nm_spaces.specs.views.ProcessTable.{new_task, task_info, task_table, names}
use Rattle.nm_spaces.specs.views.AddressSpaces.{AddressSpacesView, spaces_view}
use Rattle.nm_model.specs.definitions.PageTables.{process_of, sight_of, page_here}
use Rattle.nm_spaces.specs.definitions.Tied.{IsTied, has_spot}
use Rattle.nm_types.proofs.Maps.{equal, get-set, get-values, all_from_get, with_values-set}
use Rattle.nm_types.proofs.Keys.{All-set, All-get, sorted-set}
use Rattle.nm_spaces.proofs.Held.ReplacedEntries.{TableInOrder}
use Rattle.nm_laws.proofs.Seen.Shown.{sight_shown}

none_of_all : {A : Type 0} (n i : ℕ) (d : A) → slice_index_or (replicate n d) i d ≡ d
none_of_all zero i d = refl
none_of_all (suc n) zero d = refl
none_of_all (suc n) (suc i) d = none_of_all n i d

false_true : false ≡ true → ⊥
false_true e = cc

-- nothing is tied to nothing
pub nothing_tied : (frames : ℕ) → IsTied [] no_areas (new_map frames)
unfolding IsStrictlySortedBy
nothing_tied frames = record {
  pids = tt;
  tables = tt;
  places = tt;
  mappers = λ f pid v. ap (λ l. has_spot l (pid, v)) (none_of_all {A = List (ℕ × ℕ)} frames f []);
  shows = λ f pid v h. absurd (false_true h);
  apart = λ p q f h k. absurd (none_some h);
  pinned = λ f h. none_of_all frames f 0;
  in_range = λ p f h. absurd (none_some h);
  as_many = length-replicate {A = ℕ} frames 0 ∙ sym (length-replicate {A = List (ℕ × ℕ)} frames []);
  settled = λ f pid v h. none_some h;
}

unmap_none : {A B : Type 0} (f : A → B) (o : Option A) → option_map f o ≡ None → o ≡ None
unmap_none f None h = refl
unmap_none f (Some a) h = cc

-- a process that is not shown has no table
pub no_task : (y : AddressSpacesView) (tasks : Map ℕ Task) (m : Mapping) (r : Mappers) (pid : ℕ) → spaces_view tasks m r ≡ y → get nat_cmp y.processes pid ≡ None → get nat_cmp tasks pid ≡ None
no_task y tasks m r pid is h =
    unmap_none (process_of m.areas pid) (get nat_cmp tasks pid) (sym (get-values exact_unsigned (process_of m.areas) tasks pid) ∙ ap (λ (y : AddressSpacesView). get nat_cmp y.processes pid) is ∙ h)

module _ (tasks : Map ℕ Task) (m : Mapping) (r : Mappers) (pid : ℕ) (info : ProcessInfo) (h : IsTied tasks m r) (absent : get nat_cmp tasks pid ≡ None) where
  entry_after : (q v : ℕ) → entry_at (set nat_cmp tasks pid (new_task info)) q v ≡ entry_at tasks q v
  entry_after q v =
      ap (λ o. entry_in o v) (get-set nat_cmp_total tasks pid (new_task info) q)
      ∙ elim (is_eq (nat_cmp q pid)) as (λ b. is_eq (nat_cmp q pid) ≡ b → entry_in (cond b (Some (new_task info)) (get nat_cmp tasks q)) v ≡ entry_in (get nat_cmp tasks q) v) [
        | true ↦ λ b. sym (ap (λ o. entry_in o v) (ap (get nat_cmp tasks) (exact_unsigned q pid (equal _ b)) ∙ absent))
        | false ↦ λ b. refl
      ] refl

  new_in_order : TableInOrder (new_task info)
  unfolding IsStrictlySortedBy
  new_in_order = tt

  -- a process that has touched nothing leaves them tied
  pub added_tied : IsTied (set nat_cmp tasks pid (new_task info)) m r
  added_tied = record {
    pids = sorted-set nat_cmp nat_cmp_total tasks pid (new_task info) h.pids;
    tables = All-set nat_cmp TableInOrder tasks pid (new_task info) h.tables new_in_order;
    places = h.places;
    mappers = λ f q v. h.mappers f q v ∙ sym (ap (names f) (entry_after q v));
    shows = λ f q v k. h.shows f q v (sym (ap (names f) (entry_after q v)) ∙ k);
    apart = h.apart;
    pinned = h.pinned;
    in_range = h.in_range;
    as_many = h.as_many;
    settled = λ f q v k. h.settled f q v (sym (entry_after q v) ∙ k);
  }

  pub added_shows : spaces_view (set nat_cmp tasks pid (new_task info)) m r ≡ record (spaces_view tasks m r) { processes = set nat_cmp (spaces_view tasks m r).processes pid (new_process info) }
  added_shows = ap (λ ps. record (spaces_view tasks m r) { processes = ps }) (with_values-set exact_unsigned (process_of m.areas) tasks pid (new_task info))

-- what is shown of a process that `spawn` fixed
info_in : (areas : Map (ℕ × ℕ) Area) (pid : ℕ) (o : Option Task) → option_map task_info o ≡ option_map info_of (option_map (process_of areas pid) o)
info_in areas pid None = refl
info_in areas pid (Some t) = refl

pub info_shown : (y : AddressSpacesView) (tasks : Map ℕ Task) (m : Mapping) (r : Mappers) (pid : ℕ) → spaces_view tasks m r ≡ y → option_map task_info (get nat_cmp tasks pid) ≡ option_map info_of (get nat_cmp y.processes pid)
info_shown y tasks m r pid is =
    info_in m.areas pid (get nat_cmp tasks pid) ∙ ap (option_map info_of) (sym (get-values exact_unsigned (process_of m.areas) tasks pid) ∙ ap (λ (y : AddressSpacesView). get nat_cmp y.processes pid) is)

-- what is seen there is what the entry shows
pub seen_here : (y : AddressSpacesView) (tasks : Map ℕ Task) (m : Mapping) (r : Mappers) (pid v : ℕ) (o : Option Entry) → spaces_view tasks m r ≡ y → o ≡ entry_at tasks pid v → option_map (sight_of m.areas pid v) o ≡ sight_in (get nat_cmp y.processes pid) v
seen_here y tasks m r pid v o is e = ap (option_map (sight_of m.areas pid v)) e ∙ sym (sight_shown m.areas tasks pid v) ∙ ap (λ (y : AddressSpacesView). sight_in (get nat_cmp y.processes pid) v) is

-- the entry of what it shows
module _ (tasks : Map ℕ Task) (m : Mapping) (r : Mappers) (h : IsTied tasks m r) where
  pub entry_again : (pid v : ℕ) (e : Entry) → entry_at tasks pid v ≡ Some e → entry_of m.place (sight_of m.areas pid v e) ≡ e
  entry_again pid v Zero k = refl
  entry_again pid v (Frame f) k =
      let s = h.shows f pid v (ap (names f) k ∙ eq-eqb f f refl) in
      ap (λ o. unwrap_or (option_map Frame (get page_cmp m.place (unwrap_or o (record { segment = 0; index = 0 })))) Zero) s.1
      ∙ ap (λ o. unwrap_or (option_map Frame o) Zero) s.2
  entry_again pid v (Held f) k = absurd (h.settled f pid v k)

  again : {V W : Type 0} (F : ℕ → V → W) (G : ℕ → W → V) (m : Map ℕ V) → AllByRecursion (λ e. G e.0 (F e.0 e.1) ≡ e.1) m → with_values G (with_values F m) ≡ m
  again F G [] h = refl
  again F G (e ∷ m) h = ap (λ x. (e.0, x) ∷ with_values G (with_values F m)) h.0 ∙ ap (λ es. e ∷ es) (again F G m h.1)

  table_again : (pid : ℕ) (o : Option Task) → get nat_cmp tasks pid ≡ o → option_map task_table o ≡ option_map (λ (p : Process). with_values (λ v sight. entry_of m.place sight) p.sees) (option_map (process_of m.areas pid) o)
  table_again pid None k = refl
  table_again pid (Some t) k =
      ap Some (sym (again (sight_of m.areas pid) (λ v sight. entry_of m.place sight) t.table
      (all_from_get nat_cmp_total exact_unsigned (λ v e. entry_of m.place (sight_of m.areas pid v e) ≡ e) t.table (All-get nat_cmp TableInOrder tasks pid t h.tables k)
      (λ v e found. entry_again pid v e (ap (λ o. entry_in o v) k ∙ found)))))

  -- the table of a process lists the frames of what it sees
  pub table_shown : (y : AddressSpacesView) (pid : ℕ) → spaces_view tasks m r ≡ y
      → option_map task_table (get nat_cmp tasks pid) ≡ option_map (λ (p : Process). with_values (λ v sight. entry_of y.place sight) p.sees) (get nat_cmp y.processes pid)
  table_shown y pid is =
      table_again pid (get nat_cmp tasks pid) refl
      ∙ ap (option_map (λ (p : Process). with_values (λ v sight. entry_of m.place sight) p.sees)) (sym (get-values exact_unsigned (process_of m.areas) tasks pid))
      ∙ ap (λ (y : AddressSpacesView). option_map (λ (p : Process). with_values (λ v sight. entry_of y.place sight) p.sees) (get nat_cmp y.processes pid)) is

-- a page that is seen
pub seen_page : (y : AddressSpacesView) (tasks : Map ℕ Task) (m : Mapping) (r : Mappers) (pid v : ℕ) (e : Entry) (page : Page) → spaces_view tasks m r ≡ y → Some e ≡ entry_at tasks pid v → sight_of m.areas pid v e ≡ Sees (page_here m.areas pid v)
    → Some page ≡ page_at y.areas pid v → Some (Sees page) ≡ sight_in (get nat_cmp y.processes pid) v
seen_page y tasks m r pid v e page is there sees at =
    ap (λ o. Some (Sees (unwrap_or o (record { segment = 0; index = 0 })))) (at ∙ ap (λ (y : AddressSpacesView). page_at y.areas pid v) (sym is))
    ∙ ap Some (sym sees)
    ∙ seen_here y tasks m r pid v (Some e) is there
