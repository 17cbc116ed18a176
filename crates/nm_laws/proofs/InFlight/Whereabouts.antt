-- Where frames are while a run is under way.
use Rattle.std.proofs.Common.{◌≡◌, ℕ, zero, suc, ◌+◌, ◌≤◌, ◌<◌, List, [], ◌∷◌, Bool, true, false, cond, map, length, refl, sym, ap, ◌∙◌, arith, eq-eqb}
use Rattle.std.specs.Prelude.{Option, Some, None, ◌==◌, nat_lt, slice_index, slice_index_or}
use Rattle.std.specs.Option.{is_some, unwrap_or, option_map}
use Rattle.std.specs.List.{AllByRecursion, sum_by}
use Rattle.std.specs.Map.{values_of}
use Rattle.std.proofs.lemmas.List.Sums.{sum_by-cons}
use Rattle.std.proofs.lemmas.Bool.{eqb-true}
use Rattle.nm_types.specs.declared.page.Page.{Page}
use Rattle.nm_types.specs.declared.sight.Sight.TheVariants.{Sees}
use Rattle.nm_types.specs.Layout.{frame_count}
use Rattle.nm_types.specs.Map.{get, page_cmp}
use Rattle.nm_types.specs.State.{page_at, free_list}
use Rattle.nm_types.specs.declared.entry.Entry.{Entry}
use Rattle.nm_types.specs.declared.entry.Entry.TheVariants.{Zero, Frame, Held}
use Rattle.nm_model.specs.definitions.Seen.{sight_at}
use Rattle.nm_model.specs.definitions.PageTables.{entry_at, sight_of, page_here, entry_of}
use Rattle.nm_model.specs.definitions.Sound.{times}
use Rattle.nm_laws.proofs.Soundness.Frames.{here, times_cons}
use Rattle.nm_laws.proofs.Soundness.Once.{counted_place}
use Rattle.nm_laws.proofs.Soundness.Counted.{counted_below}
use Rattle.nm_laws.proofs.Seen.Shown.{sight_shown}
use Rattle.nm_model.specs.definitions.RunMachine.{RunMachine, Job, job_from, state_of}
use Rattle.nm_model.specs.definitions.Events.{held_by}
use Rattle.nm_model.specs.definitions.Accesses.{is_out, is_leaving}
use Rattle.nm_laws.proofs.InFlight.Jobs.{sources, targets, source_times, goes_nowhere}
use Rattle.nm_laws.proofs.InFlight.Midway.{IsInFlight, CopiesPage, is_source, frames_of_job, at_home, hands_count}
use Rattle.nm_laws.proofs.InFlight.Ending.{goes_now, not_in_jobs, ends_targets}

-- a front is counted among the free frames
front_counted : (free : List (List ℕ)) (node : ℕ) → (length (slice_index_or free node []) == 0) ≡ false → 1 ≤ sum_by (times (slice_index (slice_index_or free node []) 0)) free
front_counted [] node h = cc
front_counted ([] ∷ free) zero h = cc
front_counted ((f ∷ xs) ∷ free) zero h =
    let whole : sum_by (times f) ((f ∷ xs) ∷ free) ≡ times f (f ∷ xs) + sum_by (times f) free = sum_by-cons (times f) (f ∷ xs) free in
    let first = times_cons f f xs in
    let one : here f f ≡ 1 = ap (λ b. cond b 1 0) (eq-eqb f f refl) in
    omega (arith, whole, first, one)
front_counted (xs ∷ free) (suc node) h =
    let f = slice_index (slice_index_or free node []) 0 in
    let whole : sum_by (times f) (xs ∷ free) ≡ times f xs + sum_by (times f) free = sum_by-cons (times f) xs free in
    let rest = front_counted free node h in
    omega (arith, whole, rest)

one_at_most : (n : ℕ) (b : Bool) → n ≡ cond b 1 0 → n ≤ 1
one_at_most n true e = omega (arith, e)
one_at_most n false e = omega (arith, e)

out_is : (o : Option (List ℕ)) → at_home o ≡ 0 → is_out o ≡ true
out_is None h = refl
out_is (Some bytes) h = cc

home_is : (o : Option (List ℕ)) → at_home o ≡ 1 → is_out o ≡ false
home_is None h = cc
home_is (Some bytes) h = refl

some_is : {V : Type 0} {v w : V} → Some v ≡ Some w → v ≡ w
some_is e = cc

zero_frame : {f : ℕ} → Frame f ≡ Zero → ⊥
zero_frame e = cc

zero_held : {f : ℕ} → Held f ≡ Zero → ⊥
zero_held e = cc

frame_held : {f g : ℕ} → Frame f ≡ Held g → ⊥
frame_held e = cc

frame_is : {f g : ℕ} → Frame f ≡ Frame g → f ≡ g
frame_is e = cc

-- an entry that names a frame or is held
named : (jobs : List Job) (o : Option ℕ) (f : ℕ) → Frame f ≡ held_by jobs (unwrap_or (option_map Frame o) Zero) → (o ≡ Some f) × (is_some (job_from jobs f) ≡ false)
named jobs None f h = absurd (zero_frame h)
named jobs (Some g) f h =
    elim (job_from jobs g) as (λ o. job_from jobs g ≡ o → Frame f ≡ unwrap_or (option_map (λ (job : Job). Held job.target.0) o) (Frame g) → (Some g ≡ Some f) × (is_some (job_from jobs f) ≡ false)) [
      | None ↦ λ e k. let is : f ≡ g = frame_is k in (ap Some (sym is), ap (λ x. is_some (job_from jobs x)) is ∙ ap is_some e)
      | Some job ↦ λ e k. absurd (frame_held k)
    ] refl h

held : (jobs : List Job) (o : Option ℕ) (f : ℕ) → Held f ≡ held_by jobs (unwrap_or (option_map Frame o) Zero) → is_source jobs o ≡ true
held jobs None f h = absurd (zero_held h)
held jobs (Some g) f h =
    elim (job_from jobs g) as (λ o. Held f ≡ unwrap_or (option_map (λ (job : Job). Held job.target.0) o) (Frame g) → is_some o ≡ true) [
      | None ↦ λ k. absurd (frame_held (sym k))
      | Some job ↦ λ k. refl
    ] h

module _ (m : RunMachine) (moved : List Page) (h : IsInFlight m moved) where
  -- what a process sees is what its entry shows
  pub sight_is : (pid v : ℕ) → sight_at (state_of m) pid v ≡ option_map (sight_of m.areas pid v) (entry_at m.tasks pid v)
  sight_is pid v = sight_shown m.areas m.tasks pid v

  entry_is : (pid v : ℕ) (e : Entry) (p : Page) → entry_at m.tasks pid v ≡ Some e → page_at m.areas pid v ≡ Some p → sight_of m.areas pid v e ≡ Sees (page_here m.areas pid v) → e ≡ held_by m.jobs (unwrap_or (option_map Frame (get page_cmp m.place p)) Zero)
  entry_is pid v e p at shown sees =
      h.entries pid v e at ∙ ap (λ s. held_by m.jobs (entry_of m.place s)) sees
      ∙ ap (λ o. held_by m.jobs (entry_of m.place (Sees (unwrap_or o (record { segment = 0; index = 0 }))))) shown

  -- an entry that names a frame names that of its page, which is not leaving
  pub frame_there : (pid v f : ℕ) (p : Page) → entry_at m.tasks pid v ≡ Some (Frame f) → page_at m.areas pid v ≡ Some p → (get page_cmp m.place p ≡ Some f) × (is_some (job_from m.jobs f) ≡ false)
  frame_there pid v f p at shown = named m.jobs (get page_cmp m.place p) f (entry_is pid v (Frame f) p at shown refl)

  -- the page of a held entry is leaving
  pub held_there : (pid v f : ℕ) (p : Page) → entry_at m.tasks pid v ≡ Some (Held f) → page_at m.areas pid v ≡ Some p → is_source m.jobs (get page_cmp m.place p) ≡ true
  held_there pid v f p at shown = held m.jobs (get page_cmp m.place p) f (entry_is pid v (Held f) p at shown refl)

  at_most : (f : ℕ) → times f (values_of (state_of m).place) + sum_by (times f) m.free + times f (sources m.jobs) ≤ 1
  at_most f = one_at_most _ (nat_lt f (frame_count m.layout)) (h.sound.frames.once f)

  below : (f : ℕ) → 1 ≤ times f (values_of (state_of m).place) + sum_by (times f) m.free + times f (sources m.jobs) → f < frame_count m.layout
  below f some = counted_below (times f (values_of (state_of m).place)) (sum_by (times f) m.free) (times f (sources m.jobs)) f (frame_count m.layout) (h.sound.frames.once f) some

  -- a page's frame is the source of a job, and its buffer is out, or it is not
  pub leaving_is : (p : Page) (o : Option ℕ) → get page_cmp m.place p ≡ o → is_leaving m.buf o ≡ is_source m.jobs o
  leaving_is p None e = refl
  leaving_is p (Some f) e =
      elim (is_some (job_from m.jobs f)) as (λ b. is_some (job_from m.jobs f) ≡ b → is_out (slice_index_or m.buf f None) ≡ b) [
        | true ↦ λ b.
            let some = source_times m.jobs f b in
            let once = sym (hands_count m f) ∙ h.once f (below f (omega (arith, some))) in
            out_is (slice_index_or m.buf f None) (omega (arith, some, once))
        | false ↦ λ b.
            let none = not_in_jobs m moved h p f e b in
            let there : get page_cmp (state_of m).place p ≡ Some f = goes_now m moved h p f e ∙ ap Some (goes_nowhere m.jobs f b) in
            let some = counted_place (state_of m).place p f there in
            let once = sym (hands_count m f) ∙ h.once f (below f (omega (arith, some))) in
            home_is (slice_index_or m.buf f None) (omega (arith, none, once))
      ] refl

  -- the front frame of a node
  module _ (node : ℕ) (some : (length (free_list (state_of m) node) == 0) ≡ false) where
    abbrev pub front : ℕ
    front = slice_index (slice_index_or m.free node []) 0

    front_times : 1 ≤ sum_by (times front) m.free
    front_times = front_counted m.free node some

    pub front_below : front < frame_count m.layout
    front_below = let one = front_times in below front (omega (arith, one))

    no_front_source : times front (sources m.jobs) ≡ 0
    no_front_source = let one = front_times in let most = at_most front in omega (arith, one, most)

    pub front_stays : is_some (job_from m.jobs front) ≡ false
    front_stays =
        elim (is_some (job_from m.jobs front)) as (λ b. is_some (job_from m.jobs front) ≡ b → b ≡ false) [
          | true ↦ λ b. let one = source_times m.jobs front b in let none = no_front_source in absurd (omega (arith, one, none))
          | false ↦ λ b. refl
        ] refl

    -- no page goes there
    no_front_place : (p : Page) → get page_cmp (state_of m).place p ≡ Some front → ⊥
    no_front_place p e = let one = front_times in let two = counted_place (state_of m).place p front e in let most = at_most front in omega (arith, one, two, most)

    -- no page is there
    pub front_unplaced : (p : Page) → get page_cmp m.place p ≡ Some front → ⊥
    front_unplaced p e = no_front_place p (goes_now m moved h p front e ∙ ap Some (goes_nowhere m.jobs front front_stays))

    no_front_target : (es : List (ℕ × ℕ)) → AllByRecursion (CopiesPage m m.jobs) es → times front (map (λ (e : ℕ × ℕ). e.1) es) ≡ 0
    no_front_target [] all = refl
    no_front_target (e ∷ es) all =
        let t = times_cons front e.1 (map (λ (e : ℕ × ℕ). e.1) es) in
        let ih = no_front_target es all.1 in
        elim (e.1 == front) as (λ b. (e.1 == front) ≡ b → times front (e.1 ∷ map (λ (e : ℕ × ℕ). e.1) es) ≡ 0) [
          | true ↦ λ b. absurd (no_front_place all.0.0 (goes_now m moved h all.0.0 e.0 all.0.1 ∙ ap Some (all.0.2 ∙ eqb-true e.1 front b)))
          | false ↦ λ b. let none : here front e.1 ≡ 0 = ap (λ c. cond c 1 0) b in omega (arith, none, t, ih)
        ] refl

    -- its buffer is home
    pub front_in_no_job : times front (sources m.jobs) + times front (targets m.jobs) ≡ 0
    front_in_no_job =
        let t : times front (targets m.jobs) ≡ 0 = ap (times front) (sym (ends_targets m.jobs)) ∙ no_front_target (map frames_of_job m.jobs) h.copies in
        let s = no_front_source in
        omega (arith, s, t)
