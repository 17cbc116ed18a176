-- What the end of a run makes of the machine.
use Rattle.std.proofs.Common.{◌≡◌, ℕ, ◌+◌, ◌≤◌, ◌<◌, List, [], ◌∷◌, true, false, cond, map, length, refl, sym, ap, subst, ◌∙◌, arith, length-set, eq-eqb, ◌≢◌}
use Rattle.std.specs.Prelude.{Option, Some, None, IsSome, ◌==◌, slice_index_or, slice_set}
use Rattle.std.specs.Option.{is_some, unwrap_or, option_map}
use Rattle.std.specs.List.{AllByRecursion, fold, list_all}
use Rattle.std.specs.List.Sorted.{IsStrictlySortedBy}
use Rattle.std.specs.Map.{keys_of}
use Rattle.std.proofs.lemmas.Bool.{and_parts, eqb-true}
use Rattle.std.proofs.lemmas.List.{get_or-set_other, get_or-set_same}
use Rattle.nm_types.specs.declared.page.Page.{Page}
use Rattle.nm_types.specs.declared.area.Area.{Area}
use Rattle.nm_types.specs.Layout.{frame_count}
use Rattle.nm_types.specs.Map.{Map, get, page_cmp, with_values}
use Rattle.nm_types.specs.State.{State}
use Rattle.nm_types.specs.declared.entry.Entry.{Entry}
use Rattle.nm_types.specs.declared.entry.Entry.TheVariants.{Zero, Frame, Held}
use Rattle.nm_model.specs.definitions.Frames.{Store, bytes_of}
use Rattle.nm_types.specs.declared.sight.Sight.{Sight}
use Rattle.nm_types.specs.declared.sight.Sight.TheVariants.{ZeroPage, Sees}
use Rattle.nm_model.specs.definitions.PageTables.{entry_at, entry_of, sight_of, process_of}
use Rattle.nm_model.specs.definitions.Run.{with_free, with_all_free, with_counts, failures}
use Rattle.nm_model.specs.definitions.Sound.{times}
use Rattle.nm_laws.proofs.Soundness.Frames.{here, times_cons}
use Rattle.nm_types.proofs.Maps.{page_cmp_total, exact_page, agree, get-values, keys-values}
use Rattle.nm_laws.proofs.Seen.Frames.{place_in_range}
use Rattle.nm_model.specs.definitions.RunMachine.{RunMachine, Job, job_from, goes_to, content, state_of}
use Rattle.nm_model.specs.definitions.Events.{is_given, arrival_of, with_both, free_frame, end_run, with_entries, hands, held_by}
use Rattle.nm_laws.proofs.InFlight.Jobs.{sources, targets, AreCopied, no_source_times, goes_nowhere, content_home}
use Rattle.nm_laws.proofs.InFlight.Values.{values_twice, values_same, entries_show, changed_at}
use Rattle.nm_laws.specs.Interleavings.{IsSettled}
use Rattle.nm_laws.proofs.InFlight.Midway.{IsInFlight, CopiesPage, frames_of_job, at_home, hands_count}

arrived_alike : (areas : Map (ℕ × ℕ) Area) (pid v : ℕ) (e : Entry) → sight_of areas pid v (arrival_of e) ≡ sight_of areas pid v e
arrived_alike areas pid v Zero = refl
arrived_alike areas pid v (Frame f) = refl
arrived_alike areas pid v (Held f) = refl

-- the lists alone
freed_is : (frames : List ℕ) (s : State) → with_all_free s frames ≡ record s { free = fold (free_frame s.layout) s.free frames }
freed_is [] s = refl
freed_is (f ∷ frames) s = freed_is frames (with_free s f)

-- a frame that is none of the jobs' has the buffer that it had
back_other : (jobs : List Job) (buf : Store) (f : ℕ) → times f (sources jobs) + times f (targets jobs) ≡ 0 → slice_index_or (fold with_both buf jobs) f None ≡ slice_index_or buf f None
back_other [] buf f none = refl
back_other (job ∷ jobs) buf f none =
    let s = times_cons f job.source.0 (sources jobs) in
    let t = times_cons f job.target.0 (targets jobs) in
    let one : Store = slice_set buf job.source.0 (Some job.source.1) in
    back_other jobs (with_both buf job) f (omega (arith, s, t, none))
    ∙ get_or-set_other one job.target.0 f (Some job.target.1) None (other f job.target.0 (omega (arith, t, none)))
    ∙ get_or-set_other buf job.source.0 f (Some job.source.1) None (other f job.source.0 (omega (arith, s, none)))
  where
    other : (f g : ℕ) → here f g ≡ 0 → f ≢ g
    other f g h e = let one : here f g ≡ 1 = ap (λ b. cond b 1 0) (eq-eqb g f (sym e)) in absurd (omega (arith, one, h))

content_out : (buf other : Store) (jobs : List Job) (f : ℕ) → is_some (job_from jobs f) ≡ true → content buf jobs f ≡ content other jobs f
content_out buf other jobs f h =
    elim (job_from jobs f) as (λ o. is_some o ≡ true → unwrap_or (option_map (λ (job : Job). job.source.1) o) (bytes_of buf f) ≡ unwrap_or (option_map (λ (job : Job). job.source.1) o) (bytes_of other f)) [
      | None ↦ λ h. cc
      | Some job ↦ λ h. refl
    ] h

-- the target of a job has the job's bytes
back_target : (jobs : List Job) (buf : Store) (f : ℕ) → goes_to jobs f < length buf → (g : ℕ) → goes_to jobs f ≡ g → times g (sources jobs) + times g (targets jobs) ≤ 1 → is_some (job_from jobs f) ≡ true → AreCopied jobs → list_all (λ job. is_given job.stage) jobs ≡ true
    → slice_index_or (fold with_both buf jobs) g None ≡ Some (content buf jobs f)
back_target [] buf f below g goes once some copied all = cc
back_target (job ∷ jobs) buf f below g goes once some copied all =
    let given = and_parts (is_given job.stage) (list_all (λ (job : Job). is_given job.stage) jobs) all in
    let s = times_cons g job.source.0 (sources jobs) in
    let t = times_cons g job.target.0 (targets jobs) in
    let one : Store = slice_set buf job.source.0 (Some job.source.1) in
    let len : length (with_both buf job) ≡ length buf = length-set one job.target.0 (Some job.target.1) ∙ length-set buf job.source.0 (Some job.source.1) in
    elim (job.source.0 == f) as (λ b. unwrap_or (option_map (λ (j : Job). j.target.0) (cond b (Some job) (job_from jobs f))) f < length buf
    → unwrap_or (option_map (λ (j : Job). j.target.0) (cond b (Some job) (job_from jobs f))) f ≡ g
    → is_some (cond b (Some job) (job_from jobs f)) ≡ true
    → slice_index_or (fold with_both (with_both buf job) jobs) g None ≡ Some (unwrap_or (option_map (λ (j : Job). j.source.1) (cond b (Some job) (job_from jobs f))) (bytes_of buf f))) [
      | true ↦ λ below goes some.
          let mine : here g job.target.0 ≡ 1 = ap (λ c. cond c 1 0) (eq-eqb job.target.0 g goes) in
          let inside : job.target.0 < length one = omega (arith, below, length-set buf job.source.0 (Some job.source.1)) in
          back_other jobs (with_both buf job) g (omega (arith, s, t, once, mine))
          ∙ ap (λ k. slice_index_or (with_both buf job) k None) (sym goes)
          ∙ get_or-set_same one job.target.0 (Some job.target.1) None inside
          ∙ ap Some (copied.0 given.0)
      | false ↦ λ below goes some.
          back_target jobs (with_both buf job) f (omega (arith, below, len)) g goes (omega (arith, s, t, once)) some copied.1 given.1
          ∙ ap Some (content_out (with_both buf job) buf jobs f some)
    ] below goes some

home_now : (buf : Store) (g f : ℕ) (bytes : List ℕ) → f < length buf → at_home (slice_index_or buf f None) + here f g ≡ 1 → at_home (slice_index_or (slice_set buf g (Some bytes)) f None) ≡ 1
home_now buf g f bytes below once =
    elim (g == f) as (λ b. (g == f) ≡ b → at_home (slice_index_or buf f None) + cond b 1 0 ≡ 1 → at_home (slice_index_or (slice_set buf g (Some bytes)) f None) ≡ 1) [
      | true ↦ λ b once. ap at_home (ap (λ k. slice_index_or (slice_set buf k (Some bytes)) f None) (eqb-true g f b) ∙ get_or-set_same buf f (Some bytes) None below)
      | false ↦ λ b once. ap at_home (get_or-set_other buf g f (Some bytes) None (λ e. no (sym b ∙ eq-eqb g f (sym e)))) ∙ alone _ once
    ] refl once
  where
    no : false ≡ true → ⊥
    no e = cc

    alone : (n : ℕ) → n + 0 ≡ 1 → n ≡ 1
    alone n e = omega (arith, e)

home_still : (buf : Store) (g f : ℕ) (bytes : List ℕ) → f < length buf → at_home (slice_index_or buf f None) ≡ 1 → at_home (slice_index_or (slice_set buf g (Some bytes)) f None) ≡ 1
home_still buf g f bytes below home =
    elim (g == f) as (λ b. (g == f) ≡ b → at_home (slice_index_or (slice_set buf g (Some bytes)) f None) ≡ 1) [
      | true ↦ λ b. ap at_home (ap (λ k. slice_index_or (slice_set buf k (Some bytes)) f None) (eqb-true g f b) ∙ get_or-set_same buf f (Some bytes) None below)
      | false ↦ λ b. ap at_home (get_or-set_other buf g f (Some bytes) None (λ e. no (sym b ∙ eq-eqb g f (sym e)))) ∙ home
    ] refl
  where
    no : false ≡ true → ⊥
    no e = cc

all_still : (jobs : List Job) (buf : Store) (f : ℕ) → f < length buf → at_home (slice_index_or buf f None) ≡ 1 → at_home (slice_index_or (fold with_both buf jobs) f None) ≡ 1
all_still [] buf f below home = home
all_still (job ∷ jobs) buf f below home =
    let one : Store = slice_set buf job.source.0 (Some job.source.1) in
    let len = length-set buf job.source.0 (Some job.source.1) in
    let two = length-set one job.target.0 (Some job.target.1) in
    all_still jobs (with_both buf job) f (omega (arith, below, len, two)) (home_still one job.target.0 f job.target.1 (omega (arith, below, len)) (home_still buf job.source.0 f job.source.1 below home))

-- a frame whose buffer is in one place has it home when all are back
pub back_home : (jobs : List Job) (buf : Store) (f : ℕ) → f < length buf → at_home (slice_index_or buf f None) + (times f (sources jobs) + times f (targets jobs)) ≡ 1 → at_home (slice_index_or (fold with_both buf jobs) f None) ≡ 1
back_home [] buf f below once = omega (arith, once)
back_home (job ∷ jobs) buf f below once =
    let s = times_cons f job.source.0 (sources jobs) in
    let t = times_cons f job.target.0 (targets jobs) in
    let one : Store = slice_set buf job.source.0 (Some job.source.1) in
    let len = length-set buf job.source.0 (Some job.source.1) in
    let two = length-set one job.target.0 (Some job.target.1) in
    let below_one : f < length one = omega (arith, below, len) in
    let below_two : f < length (with_both buf job) = omega (arith, below, len, two) in
    elim (job.source.0 == f) as (λ b. (job.source.0 == f) ≡ b → at_home (slice_index_or (fold with_both (with_both buf job) jobs) f None) ≡ 1) [
      | true ↦ λ b.
          let here_now : here f job.source.0 ≡ 1 = ap (λ c. cond c 1 0) b in
          let none : at_home (slice_index_or buf f None) + here f job.source.0 ≡ 1 = omega (arith, here_now, once, s, t) in
          all_still jobs (with_both buf job) f below_two (home_still one job.target.0 f job.target.1 below_one (home_now buf job.source.0 f job.source.1 below none))
      | false ↦ λ b. let none : here f job.source.0 ≡ 0 = ap (λ c. cond c 1 0) b in
          elim (job.target.0 == f) as (λ c. (job.target.0 == f) ≡ c → at_home (slice_index_or (fold with_both (with_both buf job) jobs) f None) ≡ 1) [
            | true ↦ λ c.
                let put : slice_index_or (with_both buf job) f None ≡ Some job.target.1 = ap (λ k. slice_index_or (slice_set one k (Some job.target.1)) f None) (eqb-true job.target.0 f c) ∙ get_or-set_same one f (Some job.target.1) None below_one in
                all_still jobs (with_both buf job) f below_two (ap at_home put)
            | false ↦ λ c.
                let none_too : here f job.target.0 ≡ 0 = ap (λ c. cond c 1 0) c in
                let same : slice_index_or (with_both buf job) f None ≡ slice_index_or buf f None =
                get_or-set_other one job.target.0 f (Some job.target.1) None (λ e. no (sym c ∙ eq-eqb job.target.0 f (sym e)))
                ∙ get_or-set_other buf job.source.0 f (Some job.source.1) None (λ e. no (sym b ∙ eq-eqb job.source.0 f (sym e))) in
                back_home jobs (with_both buf job) f below_two (ap (λ o. at_home o + (times f (sources jobs) + times f (targets jobs))) same ∙ omega (arith, once, s, t, none, none_too))
          ] refl
    ] refl
  where
    no : false ≡ true → ⊥
    no e = cc

pub ends_sources : (jobs : List Job) → map (λ (e : ℕ × ℕ). e.0) (map frames_of_job jobs) ≡ sources jobs
ends_sources [] = refl
ends_sources (job ∷ jobs) = ap (λ xs. job.source.0 ∷ xs) (ends_sources jobs)

pub ends_targets : (jobs : List Job) → map (λ (e : ℕ × ℕ). e.1) (map frames_of_job jobs) ≡ targets jobs
ends_targets [] = refl
ends_targets (job ∷ jobs) = ap (λ xs. job.target.0 ∷ xs) (ends_targets jobs)

some_is : {V : Type 0} {v w : V} → Some v ≡ Some w → v ≡ w
some_is e = cc

back_length : (jobs : List Job) (buf : Store) → length (fold with_both buf jobs) ≡ length buf
back_length [] buf = refl
back_length (job ∷ jobs) buf = back_length jobs (with_both buf job) ∙ length-set (slice_set buf job.source.0 (Some job.source.1)) job.target.0 (Some job.target.1) ∙ length-set buf job.source.0 (Some job.source.1)

home_some : (o : Option (List ℕ)) → at_home o ≡ 1 → IsSome o
home_some None e = cc
home_some (Some bytes) e = refl

unmap_some : (f : Entry → Entry) (o : Option Entry) (b : Entry) → option_map f o ≡ Some b → (a : Entry) × (o ≡ Some a) × (f a ≡ b)
unmap_some f None b h = cc
unmap_some f (Some a) b h = (a, refl, some_is h)

-- a held entry that has arrived names the frame where its page is
arrived_frame : (o : Option Job) (f : ℕ) → arrival_of (unwrap_or (option_map (λ (job : Job). Held job.target.0) o) (Frame f)) ≡ Frame (unwrap_or (option_map (λ (job : Job). job.target.0) o) f)
arrived_frame None f = refl
arrived_frame (Some job) f = refl

arrived_place : (jobs : List Job) (o : Option ℕ) → arrival_of (held_by jobs (unwrap_or (option_map Frame o) Zero)) ≡ unwrap_or (option_map Frame (option_map (goes_to jobs) o)) Zero
arrived_place jobs None = refl
arrived_place jobs (Some f) = arrived_frame (job_from jobs f) f

arrived_entry : (jobs : List Job) (place : Map Page ℕ) (sight : Sight) → arrival_of (held_by jobs (entry_of place sight)) ≡ entry_of (with_values (λ (q : Page) f. goes_to jobs f) place) sight
arrived_entry jobs place ZeroPage = refl
arrived_entry jobs place (Sees p) =
    arrived_place jobs (get page_cmp place p)
    ∙ ap (λ o. unwrap_or (option_map Frame o) Zero) (sym (get-values exact_page (λ (q : Page) f. goes_to jobs f) place p))

module _ (m : RunMachine) (moved : List Page) (h : IsInFlight m moved) where
  -- where a page is in the state
  pub goes_now : (p : Page) (f : ℕ) → get page_cmp m.place p ≡ Some f → get page_cmp (state_of m).place p ≡ Some (goes_to m.jobs f)
  goes_now p f placed = get-values exact_page (λ (q : Page) g. goes_to m.jobs g) m.place p ∙ ap (option_map (goes_to m.jobs)) placed

  pub in_order : IsStrictlySortedBy page_cmp (keys_of m.place)
  in_order = subst (IsStrictlySortedBy page_cmp) (keys-values (λ (q : Page) g. goes_to m.jobs g) m.place) h.sound.order.place

  -- no page is in a target yet
  no_target : (p : Page) (f : ℕ) → get page_cmp m.place p ≡ Some f → is_some (job_from m.jobs f) ≡ false → (es : List (ℕ × ℕ)) → AllByRecursion (CopiesPage m m.jobs) es → times f (map (λ (e : ℕ × ℕ). e.0) es) ≡ 0 → times f (map (λ (e : ℕ × ℕ). e.1) es) ≡ 0
  no_target p f placed none [] all nil = refl
  no_target p f placed none (e ∷ es) all nil =
      let s = times_cons f e.0 (map (λ (e : ℕ × ℕ). e.0) es) in
      let t = times_cons f e.1 (map (λ (e : ℕ × ℕ). e.1) es) in
      let ih = no_target p f placed none es all.1 (omega (arith, s, nil)) in
      elim (e.1 == f) as (λ b. (e.1 == f) ≡ b → times f (e.1 ∷ map (λ (e : ℕ × ℕ). e.1) es) ≡ 0) [
        | true ↦ λ b.
            let there : get page_cmp (state_of m).place all.0.0 ≡ Some f = goes_now all.0.0 e.0 all.0.1 ∙ ap Some (all.0.2 ∙ eqb-true e.1 f b) in
            let here_too : get page_cmp (state_of m).place p ≡ Some f = goes_now p f placed ∙ ap Some (goes_nowhere m.jobs f none) in
            let same : all.0.0 ≡ p = h.sound.apart all.0.0 p f there here_too in
            let is : e.0 ≡ f = some_is (sym all.0.1 ∙ ap (get page_cmp m.place) same ∙ placed) in
            let one : here f e.0 ≡ 1 = ap (λ c. cond c 1 0) (eq-eqb e.0 f is) in
            absurd (omega (arith, one, s, nil))
        | false ↦ λ b. let none : here f e.1 ≡ 0 = ap (λ c. cond c 1 0) b in omega (arith, none, t, ih)
      ] refl

  pub not_in_jobs : (p : Page) (f : ℕ) → get page_cmp m.place p ≡ Some f → is_some (job_from m.jobs f) ≡ false → times f (sources m.jobs) + times f (targets m.jobs) ≡ 0
  not_in_jobs p f placed none =
      let s = no_source_times m.jobs f none in
      let t : times f (targets m.jobs) ≡ 0 = ap (times f) (sym (ends_targets m.jobs)) ∙ no_target p f placed none (map frames_of_job m.jobs) h.copies (ap (times f) (ends_sources m.jobs) ∙ s) in
      omega (arith, s, t)

  pub at_most_once : (f : ℕ) → f < frame_count m.layout → times f (sources m.jobs) + times f (targets m.jobs) ≤ 1
  at_most_once f below = let one = sym (hands_count m f) ∙ h.once f below in omega (arith, one)

  -- the bytes that are back
  back_bytes : list_all (λ job. is_given job.stage) m.jobs ≡ true → (p : Page) (f : ℕ) → get page_cmp m.place p ≡ Some f → content m.buf m.jobs f ≡ bytes_of (fold with_both m.buf m.jobs) (goes_to m.jobs f)
  back_bytes all p f placed =
      let below : goes_to m.jobs f < frame_count m.layout = place_in_range (state_of m) (sources m.jobs) p (goes_to m.jobs f) h.sound (goes_now p f placed) in
      elim (is_some (job_from m.jobs f)) as (λ b. is_some (job_from m.jobs f) ≡ b → content m.buf m.jobs f ≡ bytes_of (fold with_both m.buf m.jobs) (goes_to m.jobs f)) [
        | true ↦ λ b. ap (λ (o : Option (List ℕ)). unwrap_or o []) (sym (back_target m.jobs m.buf f (omega (arith, below, h.buffers)) (goes_to m.jobs f) refl (at_most_once (goes_to m.jobs f) below) b h.copied all))
        | false ↦ λ b.
            content_home m.buf m.jobs f b
            ∙ ap (λ (o : Option (List ℕ)). unwrap_or o []) (sym (back_other m.jobs m.buf f (not_in_jobs p f placed b)))
            ∙ ap (bytes_of (fold with_both m.buf m.jobs)) (sym (goes_nowhere m.jobs f b))
      ] refl

  -- the end of a run, read as a state
  pub ended_is : list_all (λ job. is_given job.stage) m.jobs ≡ true → state_of (end_run m) ≡ with_counts (with_all_free (state_of m) (sources m.jobs)) (length m.jobs) (failures m.statuses)
  ended_is all =
      let buf = fold with_both m.buf m.jobs in
      let processes : with_values (process_of m.areas) (with_entries arrival_of m.tasks) ≡ with_values (process_of m.areas) m.tasks = entries_show arrival_of arrived_alike m.areas m.tasks in
      let place : with_values (λ (q : Page) f. f) (with_values (λ (q : Page) f. goes_to m.jobs f) m.place) ≡ with_values (λ (q : Page) f. goes_to m.jobs f) m.place = values_same _ in
      let bytes : with_values (λ (q : Page) f. bytes_of buf f) (with_values (λ (q : Page) f. goes_to m.jobs f) m.place) ≡ with_values (λ (q : Page) f. content m.buf m.jobs f) m.place =
      values_twice (λ (q : Page) f. bytes_of buf f) (λ (q : Page) f. goes_to m.jobs f) m.place
      ∙ sym (agree page_cmp_total exact_page (λ (q : Page) f. content m.buf m.jobs f) (λ (q : Page) f. bytes_of buf (goes_to m.jobs f)) m.place in_order (back_bytes all)) in
      (λ i. record (state_of (end_run m)) { processes = processes i; place = place i; bytes = bytes i })
      ∙ ap (λ s. with_counts s (length m.jobs) (failures m.statuses)) (sym (freed_is (sources m.jobs) (state_of m)))

  -- every buffer is home
  pub ended_once : (f : ℕ) → f < frame_count m.layout → length (hands (end_run m) f) ≡ 1
  ended_once f below =
      let one = sym (hands_count m f) ∙ h.once f below in
      let all : at_home (slice_index_or (fold with_both m.buf m.jobs) f None) ≡ 1 = back_home m.jobs m.buf f (omega (arith, below, h.buffers)) one in
      let count = hands_count (end_run m) f in
      omega (arith, count, all)

  -- every entry names the frame of its page
  ended_entries : (pid v : ℕ) (e : Entry) → entry_at (end_run m).tasks pid v ≡ Some e → e ≡ entry_of (end_run m).place (sight_of m.areas pid v e)
  ended_entries pid v e there =
      let was = unmap_some arrival_of (entry_at m.tasks pid v) e (sym (changed_at arrival_of m.tasks pid v) ∙ there) in
      sym was.2 ∙ ap arrival_of (h.entries pid v was.0 was.1) ∙ arrived_entry m.jobs m.place (sight_of m.areas pid v was.0)
      ∙ ap (entry_of (end_run m).place) (sym (arrived_alike m.areas pid v was.0) ∙ ap (sight_of m.areas pid v) was.2)

  pub ended_settled : IsSettled (end_run m)
  ended_settled =
      record {
        idle = refl;
        buffers = back_length m.jobs m.buf ∙ h.buffers;
        home = λ f below. record {
          in_range = let len = back_length m.jobs m.buf in let all = h.buffers in omega (arith, below, len, all);
          here = home_some (slice_index_or (end_run m).buf f None) (let one = ended_once f below in let count = hands_count (end_run m) f in omega (arith, one, count));
        };
        entries = ended_entries;
      }
