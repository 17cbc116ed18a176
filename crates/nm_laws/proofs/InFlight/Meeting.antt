-- A touch of page tables is a touch of the state that is read.
use Rattle.std.proofs.Common.{◌≡◌, ℕ, ◌+◌, ◌/◌, ◌%◌, ◌≤◌, List, Bool, true, false, refl, sym, ap, subst, ◌∙◌, length, ◌||◌}
use Rattle.std.specs.Prelude.{Option, Some, None, ◌==◌, nat_lt, IsSome, Result, Ok, Err, if◌then◌else◌}
use Rattle.std.specs.Option.{option_map}
use Rattle.std.specs.Ordering.{nat_cmp}
use Rattle.std.proofs.lemmas.Bool.{or_right, ltb-false}
use Rattle.nm_types.specs.declared.page.Page.{Page}
use Rattle.nm_types.specs.declared.errno.Errno.{Errno}
use Rattle.nm_types.specs.declared.errno.Errno.TheVariants.{Einval}
use Rattle.nm_types.specs.declared.sight.Sight.TheVariants.{ZeroPage, Sees}
use Rattle.nm_types.specs.Map.{get, page_cmp}
use Rattle.nm_types.specs.State.{Process, State, PlacedArea, area_over, free_list}
use Rattle.nm_types.specs.declared.entry.Entry.{Entry}
use Rattle.nm_types.specs.declared.entry.Entry.TheVariants.{Zero, Frame, Held as OnItsWay}
use Rattle.nm_model.specs.definitions.Order.{first_touch_order}
use Rattle.nm_model.specs.definitions.Seen.{sight_in, sight_at}
use Rattle.nm_model.specs.definitions.PageTables.{entry_at, sight_of, page_here}
use Rattle.nm_model.specs.definitions.Touch as state
use Rattle.nm_model.specs.definitions.Touch.{AccessSite, shown_at, site, site_of, site_over, with_sight, first_free, is_held}
use Rattle.nm_model.specs.definitions.Areas.{is_shared}
use Rattle.nm_types.proofs.Maps.{exact_page, get-values}
use Rattle.nm_laws.proofs.Seen.Sights.{IsSpot, page_at_spot, with_sight_sound}
use Rattle.nm_laws.proofs.Soundness.Touched.{private_unplaced, has_front}
use Rattle.nm_model.specs.definitions.RunMachine.{RunMachine, goes_to, state_of}
use Rattle.nm_model.specs.definitions.Accesses.{is_held_by, is_held_at, with_entry_at, allocate_entry, fill_entry, share_entry, touch_entry, touch_entry_at}
use Rattle.nm_laws.proofs.InFlight.Jobs.{sources}
use Rattle.nm_laws.proofs.InFlight.Midway.{IsInFlight, is_source}
use Rattle.nm_laws.proofs.InFlight.Whereabouts.{sight_is, frame_there, held_there, leaving_is}
use Rattle.nm_laws.proofs.InFlight.Ending.{goes_now}
use Rattle.nm_laws.proofs.InFlight.Entering.{entered_is, entry_here}
use Rattle.nm_laws.proofs.InFlight.Filling.{frame_fits, entered_midway, page_here_is, filled_is, filled_midway, filled_machine}

some_is : {V : Type 0} {v w : V} → Some v ≡ Some w → v ≡ w
some_is e = cc

some_none : {V : Type 0} {v : V} → Some v ≡ None → ⊥
some_none e = cc

-- ---- where an access comes to

-- the process and the area are there, and the bytes are inside one page
pub record IsThere (s : State) (pid address len : ℕ) (at : AccessSite) : Type 0 where
  pub spot : IsSpot s at
  pub pid_is : at.pid ≡ pid
  pub vpn_is : at.vpn ≡ address / 4096
  pub fits : address % 4096 + len ≤ 4096

-- if it is not refused
unfoldable pub ComesTo : State → ℕ → ℕ → ℕ → Result AccessSite Errno → Type 0
ComesTo s pid address len (Err e) = Unit {0}
ComesTo s pid address len (Ok at) = IsThere s pid address len at

over_comes : (s : State) (pid address len : ℕ) (p : Process) (o : Option PlacedArea) → get nat_cmp s.processes pid ≡ Some p → area_over s.areas pid (address / 4096) ≡ o → address % 4096 + len ≤ 4096
    → ComesTo s pid address len (site_over pid p (address / 4096) o)
unfolding ComesTo
over_comes s pid address len p None known over fits = tt
over_comes s pid address len p (Some a) known over fits = record { spot = record { process = known; area = over }; pid_is = refl; vpn_is = refl; fits = fits }

process_comes : (s : State) (pid address len : ℕ) (o : Option Process) → get nat_cmp s.processes pid ≡ o → ComesTo s pid address len (site_of s o pid address len)
unfolding ComesTo
process_comes s pid address len None known = tt
process_comes s pid address len (Some p) known =
    elim (nat_lt 4096 (address % 4096 + len)) as (λ b. nat_lt 4096 (address % 4096 + len) ≡ b → ComesTo s pid address len (if (len == 0) || b then Err Einval else site_over pid p (address / 4096) (area_over s.areas pid (address / 4096)))) [
      | true ↦ λ b. subst (λ c. ComesTo s pid address len (if c then Err Einval else site_over pid p (address / 4096) (area_over s.areas pid (address / 4096)))) (sym (or_right (len == 0) true refl)) tt
      | false ↦ λ b. elim (len == 0) as (λ c. ComesTo s pid address len (if c || false then Err Einval else site_over pid p (address / 4096) (area_over s.areas pid (address / 4096)))) [
        | true ↦ tt
        | false ↦ over_comes s pid address len p (area_over s.areas pid (address / 4096)) known refl (ltb-false 4096 (address % 4096 + len) b)
      ]
    ] refl

pub comes_to : (s : State) (pid address len : ℕ) → ComesTo s pid address len (site s pid address len)
comes_to s pid address len = process_comes s pid address len (get nat_cmp s.processes pid) refl

-- ---- what it meets there

zero_sees : {p : Page} → Some ZeroPage ≡ Some (Sees p) → ⊥
zero_sees e = cc

none_sees : {p : Page} → None ≡ Some (Sees p) → ⊥
none_sees e = cc

map_none : {A B : Type 0} (f : A → B) (o : Option A) → option_map f o ≡ None → o ≡ None
map_none f None e = refl
map_none f (Some a) e = cc

-- an entry of which an access is made
abbrev pub IsUsed : Entry → Type 0
IsUsed Zero = Unit {0}
IsUsed (Frame f) = Unit {0}
IsUsed (OnItsWay f) = ⊥

-- the machine after a touch, read as this state
pub record Touched (m n : RunMachine) (moved : List Page) (t : State) (pid v : ℕ) : Type 0 where
  pub in_flight : IsInFlight n moved
  pub state : state_of n ≡ t
  pub answers : n.answers ≡ m.answers
  pub jobs : n.jobs ≡ m.jobs
  pub statuses : n.statuses ≡ m.statuses
  pub layout : n.layout ≡ m.layout
  pub entry : Entry
  pub there : entry_at n.tasks pid v ≡ Some entry
  pub used : IsUsed entry

-- both are refused alike, or both are done
unfoldable pub Both : RunMachine → List Page → ℕ → ℕ → Result RunMachine Errno → Result State Errno → Type 0
Both m moved pid v (Err e) (Err x) = e ≡ x
Both m moved pid v (Err e) (Ok t) = ⊥
Both m moved pid v (Ok n) (Err x) = ⊥
Both m moved pid v (Ok n) (Ok t) = Touched m n moved t pid v

module _ (m : RunMachine) (moved : List Page) (h : IsInFlight m moved) (at : AccessSite) (i : IsSpot (state_of m) at) where
  -- a page has a frame in the machine exactly if it has one in the state
  place_none : get page_cmp (state_of m).place (shown_at at) ≡ None → get page_cmp m.place (shown_at at) ≡ None
  place_none e = map_none (goes_to m.jobs) (get page_cmp m.place (shown_at at)) (sym (get-values exact_page (λ (q : Page) f. goes_to m.jobs f) m.place (shown_at at)) ∙ e)

  zero_unplaced : entry_at m.tasks at.pid at.vpn ≡ Some Zero → get page_cmp m.place (shown_at at) ≡ None
  zero_unplaced e =
      let sees : sight_at (state_of m) at.pid at.vpn ≡ Some ZeroPage = sight_is m moved h at.pid at.vpn ∙ ap (option_map (sight_of m.areas at.pid at.vpn)) e in
      let zero = h.sound.zeros at.pid at.vpn sees in
      let same : zero.0 ≡ shown_at at = some_is (sym zero.1 ∙ page_at_spot (state_of m) at i) in
      place_none (private_unplaced (state_of m) (sources m.jobs) at h.sound i (λ p k. zero_sees (sym sees ∙ k)) (subst (λ p. is_shared m.segments p.segment ≡ false) same zero.2))

  -- what holds an access holds it in the state
  held_is : (o : Option Entry) → entry_at m.tasks at.pid at.vpn ≡ o → is_held_by m at o ≡ is_source m.jobs (get page_cmp m.place (shown_at at))
  held_is None e = leaving_is m moved h (shown_at at) (get page_cmp m.place (shown_at at)) refl
  held_is (Some Zero) e = sym (ap (is_source m.jobs) (zero_unplaced e))
  held_is (Some (Frame f)) e = let there = frame_there m moved h at.pid at.vpn f (shown_at at) e (page_at_spot (state_of m) at i) in sym (ap (is_source m.jobs) there.0 ∙ there.1)
  held_is (Some (OnItsWay f)) e = sym (held_there m moved h at.pid at.vpn f (shown_at at) e (page_at_spot (state_of m) at i))

  pub held_alike : is_held_at m (Ok at) ≡ is_held moved (Ok at)
  held_alike = held_is (entry_at m.tasks at.pid at.vpn) refl ∙ sym (h.pages (shown_at at))

  -- nothing changes
  unchanged : (e : Entry) → entry_at m.tasks at.pid at.vpn ≡ Some e → IsUsed e → Touched m m moved (state_of m) at.pid at.vpn
  unchanged e there used = record { in_flight = h; state = refl; answers = refl; jobs = refl; statuses = refl; layout = refl; entry = e; there = there; used = used }

  -- a page gets a frame
  allocated_both : (o : Option ℕ) → ((node : ℕ) → o ≡ Some node → (length (free_list (state_of m) node) == 0) ≡ false) → get page_cmp m.place (shown_at at) ≡ None → ((p : Page) → sight_at (state_of m) at.pid at.vpn ≡ Some (Sees p) → ⊥)
      → Both m moved at.pid at.vpn (allocate_entry m at o) (state.allocate_page (state_of m) at o)
  unfolding Both
  allocated_both None some unplaced unseen = refl
  allocated_both (Some node) some unplaced unseen =
      record {
        in_flight = filled_midway m moved h at i node (some node refl) unplaced unseen;
        state = filled_is m moved h at i node (some node refl) unplaced;
        answers = refl;
        jobs = refl;
        statuses = refl;
        layout = refl;
        entry = _;
        there = entry_here (filled_machine m moved h at i node (some node refl) unplaced) at (record { process = i.process; area = i.area }) _;
        used = tt;
      }

  filled_both : get page_cmp m.place (shown_at at) ≡ None → ((p : Page) → sight_at (state_of m) at.pid at.vpn ≡ Some (Sees p) → ⊥) → Both m moved at.pid at.vpn (fill_entry m at) (state.fill_page (state_of m) at)
  filled_both unplaced unseen =
      let order = first_touch_order m.layout m.online at.process.home at.process.allowed at.area.1.policy (shown_at at).index in
      allocated_both (first_free m.free order) (λ node. has_front m.free order node) unplaced unseen

  -- the state's page is in this frame, or none
  joined_both : (o : Option ℕ) → get page_cmp m.place (shown_at at) ≡ o → is_source m.jobs o ≡ false → entry_at m.tasks at.pid at.vpn ≡ None
      → Both m moved at.pid at.vpn (share_entry m at o) (state.share_page (state_of m) at (option_map (goes_to m.jobs) o))
  unfolding Both
  joined_both None placed stays e = filled_both placed (λ p k. none_sees (sym (sight_is m moved h at.pid at.vpn ∙ ap (option_map (sight_of m.areas at.pid at.vpn)) e) ∙ k))
  joined_both (Some f) placed stays e =
      let unseen : (p : Page) → sight_at (state_of m) at.pid at.vpn ≡ Some (Sees p) → ⊥ = λ p k. none_sees (sym (sight_is m moved h at.pid at.vpn ∙ ap (option_map (sight_of m.areas at.pid at.vpn)) e) ∙ k) in
      let sees : state_of (with_entry_at m at (Frame f)) ≡ with_sight (state_of m) at (Sees (shown_at at)) = entered_is m at i (Frame f) ∙ ap (λ p. with_sight (state_of m) at (Sees p)) (page_here_is m moved h at i) in
      let sound = with_sight_sound (state_of m) (sources m.jobs) at (Sees (page_here m.areas at.pid at.vpn)) h.sound i
      (page_here_is m moved h at i, subst IsSome (sym (ap (get page_cmp (state_of m).place) (page_here_is m moved h at i) ∙ goes_now m moved h (shown_at at) f placed)) refl) unseen in
      record {
        in_flight = entered_midway m moved h at i (Frame f) (frame_fits m.place m.areas m.jobs at.pid at.vpn f (shown_at at) (page_at_spot (state_of m) at i) placed stays) sound;
        state = sees;
        answers = refl;
        jobs = refl;
        statuses = refl;
        layout = refl;
        entry = Frame f;
        there = entry_here m at i (Frame f);
        used = tt;
      }

  zero_both : is_shared m.segments (shown_at at).segment ≡ false → entry_at m.tasks at.pid at.vpn ≡ None → Both m moved at.pid at.vpn (Ok (with_entry_at m at Zero)) (Ok (with_sight (state_of m) at ZeroPage))
  unfolding Both
  zero_both private e =
      let unseen : (p : Page) → sight_at (state_of m) at.pid at.vpn ≡ Some (Sees p) → ⊥ = λ p k. none_sees (sym (sight_is m moved h at.pid at.vpn ∙ ap (option_map (sight_of m.areas at.pid at.vpn)) e) ∙ k) in
      record {
        in_flight = entered_midway m moved h at i Zero refl (with_sight_sound (state_of m) (sources m.jobs) at ZeroPage h.sound i private unseen);
        state = entered_is m at i Zero;
        answers = refl;
        jobs = refl;
        statuses = refl;
        layout = refl;
        entry = Zero;
        there = entry_here m at i Zero;
        used = tt;
      }

  absent_both : (writes : Bool) → is_source m.jobs (get page_cmp m.place (shown_at at)) ≡ false → entry_at m.tasks at.pid at.vpn ≡ None → Both m moved at.pid at.vpn (touch_entry m at writes None) (state.touch_sight (state_of m) at writes None)
  absent_both writes stays e =
      let unseen : (p : Page) → sight_at (state_of m) at.pid at.vpn ≡ Some (Sees p) → ⊥ = λ p k. none_sees (sym (sight_is m moved h at.pid at.vpn ∙ ap (option_map (sight_of m.areas at.pid at.vpn)) e) ∙ k) in
      elim (is_shared m.segments (shown_at at).segment) as (λ b. is_shared m.segments (shown_at at).segment ≡ b → Both m moved at.pid at.vpn
      (if b then share_entry m at (get page_cmp m.place (shown_at at)) else (if writes then fill_entry m at else Ok (with_entry_at m at Zero)))
      (if b then state.share_page (state_of m) at (get page_cmp (state_of m).place (shown_at at)) else (if writes then state.fill_page (state_of m) at else Ok (with_sight (state_of m) at ZeroPage)))) [
        | true ↦ λ b.
            subst (λ o. Both m moved at.pid at.vpn (share_entry m at (get page_cmp m.place (shown_at at))) (state.share_page (state_of m) at o)) (sym (get-values exact_page (λ (q : Page) f. goes_to m.jobs f) m.place (shown_at at)))
            (joined_both (get page_cmp m.place (shown_at at)) refl stays e)
        | false ↦ λ b. elim writes as (λ w. Both m moved at.pid at.vpn (if w then fill_entry m at else Ok (with_entry_at m at Zero)) (if w then state.fill_page (state_of m) at else Ok (with_sight (state_of m) at ZeroPage))) [
          | true ↦ filled_both (place_none (private_unplaced (state_of m) (sources m.jobs) at h.sound i unseen b)) unseen
          | false ↦ zero_both b e
        ]
      ] refl

  entry_both : (writes : Bool) (o : Option Entry) → entry_at m.tasks at.pid at.vpn ≡ o → is_held_by m at o ≡ false
      → Both m moved at.pid at.vpn (touch_entry m at writes o) (state.touch_sight (state_of m) at writes (option_map (sight_of m.areas at.pid at.vpn) o))
  unfolding Both
  entry_both writes None e free = absent_both writes (sym (held_is None e) ∙ free) e
  entry_both writes (Some (Frame f)) e free = unchanged (Frame f) e tt
  entry_both writes (Some (OnItsWay f)) e free = cc
  entry_both writes (Some Zero) e free =
      elim writes as (λ w. Both m moved at.pid at.vpn (if w then fill_entry m at else Ok m) (if w then state.fill_page (state_of m) at else Ok (state_of m))) [
        | true ↦ filled_both (zero_unplaced e) (λ p k. zero_sees (sym (sight_is m moved h at.pid at.vpn ∙ ap (option_map (sight_of m.areas at.pid at.vpn)) e) ∙ k))
        | false ↦ unchanged Zero e tt
      ]

  pub touched_both : (writes : Bool) → is_held_at m (Ok at) ≡ false → Both m moved at.pid at.vpn (touch_entry_at m writes (Ok at)) (state.touch_site (state_of m) writes (Ok at))
  touched_both writes free =
      subst (λ o. Both m moved at.pid at.vpn (touch_entry_at m writes (Ok at)) (state.touch_sight (state_of m) at writes o))
      (sym (ap (λ o. sight_in o at.vpn) (sym i.process) ∙ sight_is m moved h at.pid at.vpn))
      (entry_both writes (entry_at m.tasks at.pid at.vpn) refl free)
