-- A new entry, and a new page, keep what holds while a run is under way.
use Rattle.std.proofs.Common.{◌≡◌, ℕ, ◌+◌, ◌<◌, ◌≢◌, List, [], ◌∷◌, true, false, cond, map, length, refl, sym, ap, subst, ◌∙◌, arith, eq-eqb, length-set}
use Rattle.std.specs.Prelude.{Option, Some, None, ◌==◌, slice_index, slice_index_or, slice_set, replicate}
use Rattle.std.specs.Option.{is_some, unwrap_or, option_map}
use Rattle.std.specs.List.{AllByRecursion, list_any}
use Rattle.std.specs.Ordering.{is_eq}
use Rattle.std.specs.Cmp.{tied_itself}
use Rattle.std.proofs.lemmas.Bool.{eqb-true}
use Rattle.std.proofs.lemmas.List.{get_or-set_other, get_or-set_same}
use Rattle.nm_types.specs.declared.page.Page.{Page}
use Rattle.nm_types.specs.declared.area.Area.{Area}
use Rattle.nm_types.specs.declared.sight.Sight.TheVariants.{Sees}
use Rattle.nm_types.specs.Layout.{frame_count}
use Rattle.nm_types.specs.Map.{Map, get, set, page_cmp, same_page, with_values}
use Rattle.nm_types.specs.State.{page_at, free_list}
use Rattle.nm_types.specs.declared.entry.Entry.{Entry}
use Rattle.nm_types.specs.declared.entry.Entry.TheVariants.{Zero, Frame, Held}
use Rattle.nm_model.specs.definitions.Seen.{sight_at}
use Rattle.nm_model.specs.definitions.PageTables.{entry_at, sight_of, page_here, entry_of}
use Rattle.nm_model.specs.definitions.Touch.{AccessSite, shown_at, with_sight, with_page, without_front_frame}
use Rattle.nm_model.specs.definitions.Sound.{times, IsSoundInFlight}
use Rattle.nm_types.proofs.Maps.{page_cmp_total, exact_page, equal, get-set, get-values, with_values-set, set_agree}
use Rattle.nm_laws.proofs.Seen.Sights.{IsSpot, is_here, here_parts, page_at_spot}
use Rattle.nm_laws.proofs.Soundness.Allocated.{placed_sound}
use Rattle.nm_model.specs.definitions.RunMachine.{RunMachine, Job, job_from, goes_to, content, state_of}
use Rattle.nm_model.specs.definitions.Events.{held_by, hands}
use Rattle.nm_model.specs.definitions.Accesses.{with_entry_at, with_cleared_page}
use Rattle.nm_laws.proofs.InFlight.Jobs.{sources, targets, goes_nowhere, content_home}
use Rattle.nm_laws.proofs.InFlight.Midway.{IsInFlight, CopiesPage, is_source, frames_of_job, at_home, hands_count}
use Rattle.nm_laws.proofs.InFlight.Ending.{in_order}
use Rattle.nm_laws.proofs.InFlight.Whereabouts.{front_below, front_stays, front_unplaced, front_in_no_job}
use Rattle.nm_laws.proofs.InFlight.Entering.{entered_is, entry_then}

some_is : {V : Type 0} {v w : V} → Some v ≡ Some w → v ≡ w
some_is e = cc

none_some : {V : Type 0} {v : V} → None ≡ Some v → ⊥
none_some e = cc

frame_zero : {f : ℕ} → Frame f ≡ Zero → ⊥
frame_zero e = cc

held_zero : {f : ℕ} → Held f ≡ Zero → ⊥
held_zero e = cc

-- an entry is what it should be, where the jobs and the places are these
abbrev pub Fitting : Map Page ℕ → Map (ℕ × ℕ) Area → List Job → ℕ → ℕ → Entry → Type 0
Fitting place areas jobs pid v e = e ≡ held_by jobs (entry_of place (sight_of areas pid v e))

-- all entries are, after one more that is
all_fit : (m : RunMachine) (at : AccessSite) (i : IsSpot (state_of m) at) (e : Entry) → Fitting m.place m.areas m.jobs at.pid at.vpn e
    → ((q w : ℕ) (x : Entry) → entry_at m.tasks q w ≡ Some x → Fitting m.place m.areas m.jobs q w x)
    → (q w : ℕ) (x : Entry) → entry_at (with_entry_at m at e).tasks q w ≡ Some x → Fitting m.place m.areas m.jobs q w x
all_fit m at i e fits old q w x h =
    elim (is_here at q w) as (λ b. is_here at q w ≡ b → cond b (Some e) (entry_at m.tasks q w) ≡ Some x → Fitting m.place m.areas m.jobs q w x) [
      | true ↦ λ b k.
          let same = here_parts at q w b in
          subst (λ (y : Entry). Fitting m.place m.areas m.jobs q w y) (some_is k) (subst (λ (z : ℕ × ℕ). Fitting m.place m.areas m.jobs z.0 z.1 e) (λ j. (sym same.0 j, sym same.1 j)) fits)
      | false ↦ λ b k. old q w x k
    ] refl (sym (entry_then m at i e q w) ∙ h)

-- the entry of a page that is not leaving
pub frame_fits : (place : Map Page ℕ) (areas : Map (ℕ × ℕ) Area) (jobs : List Job) (pid v f : ℕ) (p : Page) → page_at areas pid v ≡ Some p → get page_cmp place p ≡ Some f → is_some (job_from jobs f) ≡ false → Fitting place areas jobs pid v (Frame f)
frame_fits place areas jobs pid v f p shown placed none =
    sym (ap (λ o. held_by jobs (unwrap_or (option_map Frame (get page_cmp place (unwrap_or o (record { segment = 0; index = 0 })))) Zero)) shown
    ∙ ap (λ o. held_by jobs (unwrap_or (option_map Frame o) Zero)) placed
    ∙ stays (job_from jobs f) none)
  where
    stays : (o : Option Job) → is_some o ≡ false → unwrap_or (option_map (λ (job : Job). Held job.target.0) o) (Frame f) ≡ Frame f
    stays None h = refl
    stays (Some job) h = cc

module _ (m : RunMachine) (moved : List Page) (h : IsInFlight m moved) (at : AccessSite) (i : IsSpot (state_of m) at) where
  -- a new entry
  pub entered_midway : (e : Entry) → Fitting m.place m.areas m.jobs at.pid at.vpn e → IsSoundInFlight (with_sight (state_of m) at (sight_of m.areas at.pid at.vpn e)) (sources m.jobs) → IsInFlight (with_entry_at m at e) moved
  entered_midway e fits sound =
      record {
        moving = h.moving;
        sound = subst (λ s. IsSoundInFlight s (sources m.jobs)) (sym (entered_is m at i e)) sound;
        entries = all_fit m at i e fits h.entries;
        pages = h.pages;
        copies = h.copies;
        copied = h.copied;
        buffers = h.buffers;
        once = h.once;
      }

  pub page_here_is : page_here m.areas at.pid at.vpn ≡ shown_at at
  page_here_is = ap (λ o. unwrap_or o (record { segment = 0; index = 0 })) (page_at_spot (state_of m) at i)

  -- the front frame of a node for a page that has none
  module _ (node : ℕ) (some : (length (free_list (state_of m) node) == 0) ≡ false) (unplaced : get page_cmp m.place (shown_at at) ≡ None) where
    abbrev front : ℕ
    front = slice_index (slice_index_or m.free node []) 0

    abbrev zeros : List ℕ
    zeros = replicate 4096 0

    abbrev pub filled_machine : RunMachine
    filled_machine = with_cleared_page m (shown_at at) node

    place_then : (p : Page) → get page_cmp (set page_cmp m.place (shown_at at) front) p ≡ cond (is_eq (page_cmp p (shown_at at))) (Some front) (get page_cmp m.place p)
    place_then p = get-set page_cmp_total m.place (shown_at at) front p

    place_here : get page_cmp (set page_cmp m.place (shown_at at) front) (shown_at at) ≡ Some front
    place_here = place_then (shown_at at) ∙ ap (λ r. cond (is_eq r) (Some front) (get page_cmp m.place (shown_at at))) (tied_itself page_cmp_total (shown_at at))

    -- a page that has a place keeps it
    place_still : (p : Page) (f : ℕ) → get page_cmp m.place p ≡ Some f → get page_cmp (set page_cmp m.place (shown_at at) front) p ≡ Some f
    place_still p f placed =
        place_then p ∙ elim (is_eq (page_cmp p (shown_at at))) as (λ b. is_eq (page_cmp p (shown_at at)) ≡ b → cond b (Some front) (get page_cmp m.place p) ≡ Some f) [
          | true ↦ λ b. absurd (none_some (sym unplaced ∙ ap (get page_cmp m.place) (sym (exact_page p (shown_at at) (equal _ b))) ∙ placed))
          | false ↦ λ b. placed
        ] refl

    stays : is_some (job_from m.jobs front) ≡ false
    stays = front_stays m moved h node some

    inside : front < length m.buf
    inside = let lt = front_below m moved h node some in let len = h.buffers in omega (arith, lt, len)

    other_content : (f : ℕ) → f ≢ front → content (slice_set m.buf front (Some zeros)) m.jobs f ≡ content m.buf m.jobs f
    other_content f ne = ap (λ o. unwrap_or (option_map (λ (job : Job). job.source.1) (job_from m.jobs f)) (unwrap_or o [])) (get_or-set_other m.buf front f (Some zeros) None ne)

    new_content : content (slice_set m.buf front (Some zeros)) m.jobs front ≡ zeros
    new_content = content_home (slice_set m.buf front (Some zeros)) m.jobs front stays ∙ ap (λ o. unwrap_or o []) (get_or-set_same m.buf front (Some zeros) None inside)

    -- the state with the page in it
    filled_state : state_of filled_machine ≡ with_page (without_front_frame (state_of m) node) (shown_at at) front
    filled_state =
        let new : List ℕ → Map Page (List ℕ) = λ bytes. set page_cmp (with_values (λ (q : Page) f. content (slice_set m.buf front (Some zeros)) m.jobs f) m.place) (shown_at at) bytes in
        let place : with_values (λ (q : Page) f. goes_to m.jobs f) (set page_cmp m.place (shown_at at) front) ≡ set page_cmp (with_values (λ (q : Page) f. goes_to m.jobs f) m.place) (shown_at at) front =
        with_values-set exact_page (λ (q : Page) f. goes_to m.jobs f) m.place (shown_at at) front
        ∙ ap (set page_cmp (with_values (λ (q : Page) f. goes_to m.jobs f) m.place) (shown_at at)) (goes_nowhere m.jobs front stays) in
        let bytes : with_values (λ (q : Page) f. content (slice_set m.buf front (Some zeros)) m.jobs f) (set page_cmp m.place (shown_at at) front) ≡ set page_cmp (with_values (λ (q : Page) f. content m.buf m.jobs f) m.place) (shown_at at) zeros =
        with_values-set exact_page (λ (q : Page) f. content (slice_set m.buf front (Some zeros)) m.jobs f) m.place (shown_at at) front
        ∙ ap new new_content
        ∙ set_agree page_cmp_total exact_page (λ (q : Page) f. content (slice_set m.buf front (Some zeros)) m.jobs f) (λ (q : Page) f. content m.buf m.jobs f) m.place (shown_at at) zeros (in_order m moved h)
        (λ q f there apart. other_content f (λ e. front_unplaced m moved h node some q (there ∙ ap Some e))) in
        λ j. record (state_of filled_machine) { place = place j; bytes = bytes j }

    abbrev pub filled_and_seen : RunMachine
    filled_and_seen = with_entry_at filled_machine at (Frame front)

    spot_still : IsSpot (state_of filled_machine) at
    spot_still = record { process = i.process; area = i.area }

    pub filled_is : state_of filled_and_seen ≡ with_sight (with_page (without_front_frame (state_of m) node) (shown_at at) front) at (Sees (shown_at at))
    filled_is =
        entered_is filled_machine at spot_still (Frame front)
        ∙ (λ j. with_sight (filled_state j) at (Sees (page_here_is j)))

    -- an entry other than the page of zeros is not that of the page that gets the frame
    entry_still : (p : Page) (e : Entry) → (e ≡ Zero → ⊥) → e ≡ held_by m.jobs (unwrap_or (option_map Frame (get page_cmp m.place p)) Zero)
        → e ≡ held_by m.jobs (unwrap_or (option_map Frame (get page_cmp (set page_cmp m.place (shown_at at) front) p)) Zero)
    entry_still p e other fits =
        elim (is_eq (page_cmp p (shown_at at))) as (λ b. is_eq (page_cmp p (shown_at at)) ≡ b → e ≡ held_by m.jobs (unwrap_or (option_map Frame (get page_cmp (set page_cmp m.place (shown_at at) front) p)) Zero)) [
          | true ↦ λ b. absurd (other (fits ∙ ap (λ o. held_by m.jobs (unwrap_or (option_map Frame o) Zero)) (ap (get page_cmp m.place) (exact_page p (shown_at at) (equal _ b)) ∙ unplaced)))
          | false ↦ λ b. fits ∙ ap (λ o. held_by m.jobs (unwrap_or (option_map Frame o) Zero)) (sym (place_then p ∙ ap (λ c. cond c (Some front) (get page_cmp m.place p)) b))
        ] refl

    fits_still : (q w : ℕ) (e : Entry) → Fitting m.place m.areas m.jobs q w e → Fitting (set page_cmp m.place (shown_at at) front) m.areas m.jobs q w e
    fits_still q w Zero fits = refl
    fits_still q w (Frame f) fits = entry_still (page_here m.areas q w) (Frame f) frame_zero fits
    fits_still q w (Held f) fits = entry_still (page_here m.areas q w) (Held f) held_zero fits

    copies_still : (es : List (ℕ × ℕ)) → AllByRecursion (CopiesPage m m.jobs) es → AllByRecursion (CopiesPage filled_and_seen m.jobs) es
    copies_still [] all = tt
    copies_still (e ∷ es) all = ((all.0.0, place_still all.0.0 e.0 all.0.1, all.0.2), copies_still es all.1)

    pages_still : (p : Page) → list_any (same_page p) moved ≡ is_source m.jobs (get page_cmp (set page_cmp m.place (shown_at at) front) p)
    pages_still p =
        h.pages p ∙ elim (is_eq (page_cmp p (shown_at at))) as (λ b. is_eq (page_cmp p (shown_at at)) ≡ b → is_source m.jobs (get page_cmp m.place p) ≡ is_source m.jobs (cond b (Some front) (get page_cmp m.place p))) [
          | true ↦ λ b. ap (is_source m.jobs) (ap (get page_cmp m.place) (exact_page p (shown_at at) (equal _ b)) ∙ unplaced) ∙ sym stays
          | false ↦ λ b. refl
        ] refl ∙ ap (is_source m.jobs) (sym (place_then p))

    once_still : (f : ℕ) → f < frame_count m.layout → length (hands filled_and_seen f) ≡ 1
    once_still f below =
        hands_count filled_and_seen f ∙ elim (f == front) as (λ b. (f == front) ≡ b → at_home (slice_index_or (slice_set m.buf front (Some zeros)) f None) + (times f (sources m.jobs) + times f (targets m.jobs)) ≡ 1) [
          | true ↦ λ b.
              let is = eqb-true f front b in
              let home : at_home (slice_index_or (slice_set m.buf front (Some zeros)) f None) ≡ 1 = ap at_home (ap (λ k. slice_index_or (slice_set m.buf front (Some zeros)) k None) is ∙ get_or-set_same m.buf front (Some zeros) None inside) in
              let none : times f (sources m.jobs) + times f (targets m.jobs) ≡ 0 = ap (λ k. times k (sources m.jobs) + times k (targets m.jobs)) is ∙ front_in_no_job m moved h node some in
              omega (arith, home, none)
          | false ↦ λ b.
              ap (λ o. at_home o + (times f (sources m.jobs) + times f (targets m.jobs))) (get_or-set_other m.buf front f (Some zeros) None (λ e. no (sym b ∙ eq-eqb f front e)))
              ∙ sym (hands_count m f) ∙ h.once f below
        ] refl
      where
        no : false ≡ true → ⊥
        no e = cc

    pub filled_midway : ((p : Page) → sight_at (state_of m) at.pid at.vpn ≡ Some (Sees p) → ⊥) → IsInFlight filled_and_seen moved
    filled_midway unseen =
        let unplaced_now : get page_cmp (state_of m).place (shown_at at) ≡ None = get-values exact_page (λ (q : Page) f. goes_to m.jobs f) m.place (shown_at at) ∙ ap (option_map (goes_to m.jobs)) unplaced in
        record {
          moving = h.moving;
          sound = subst (λ s. IsSoundInFlight s (sources m.jobs)) (sym filled_is) (placed_sound (state_of m) (sources m.jobs) at node h.sound i unseen unplaced_now some);
          entries = all_fit filled_machine at spot_still (Frame front)
              (frame_fits (set page_cmp m.place (shown_at at) front) m.areas m.jobs at.pid at.vpn front (shown_at at) (page_at_spot (state_of m) at i) place_here stays)
              (λ q w e there. fits_still q w e (h.entries q w e there));
          pages = pages_still;
          copies = copies_still (map frames_of_job m.jobs) h.copies;
          copied = h.copied;
          buffers = length-set m.buf front (Some zeros) ∙ h.buffers;
          once = once_still;
        }
