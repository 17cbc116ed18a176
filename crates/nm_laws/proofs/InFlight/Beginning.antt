-- The beginning of a run is deciding one request after another.
use Rattle.std.proofs.Common.{◌≡◌, ℕ, suc, ◌+◌, ◌≤◌, ◌<◌, List, [], ◌∷◌, Bool, true, false, cond, map, length, drop, refl, sym, ap, subst, ◌∙◌, arith, eq-eqb, length-set}
use Rattle.std.specs.Prelude.{Option, Some, None, ℤ, ◌==◌, nat_lt, slice_index_or, slice_set}
use Rattle.std.specs.Option.{is_some, unwrap_or, option_map}
use Rattle.std.specs.List.{AllByRecursion, fold, sum_by}
use Rattle.std.specs.List.Sorted.{IsStrictlySortedBy}
use Rattle.std.specs.Map.{keys_of, values_of}
use Rattle.std.proofs.lemmas.Bool.{eqb-true, ltb-true, ltb-false}
use Rattle.std.proofs.lemmas.List.{get_or-set_other, get_or-set_same}
use Rattle.nm_types.specs.declared.page.Page.{Page}
use Rattle.nm_types.specs.declared.area.Area.{Area}
use Rattle.nm_types.specs.Layout.{node_of, frame_count}
use Rattle.nm_types.specs.Map.{Map, get, page_cmp, with_values}
use Rattle.nm_types.specs.declared.entry.Entry.{Entry}
use Rattle.nm_types.specs.declared.entry.Entry.TheVariants.{Zero, Frame, Held}
use Rattle.nm_model.specs.definitions.Frames.{Store, bytes_of}
use Rattle.nm_types.specs.declared.request.Wanted.{Wanted}
use Rattle.nm_types.specs.declared.page_move.PageMove.{PageMove}
use Rattle.nm_model.specs.definitions.PageTables.{entry_at, process_of, sight_of, entry_of}
use Rattle.nm_model.specs.definitions.Seen.{sight_at}
use Rattle.nm_model.specs.definitions.Run.{Progress, HasOneAll, each_request, frames_left}
use Rattle.nm_model.specs.definitions.Sound.{times, IsSound, IsSoundInFlight}
use Rattle.nm_laws.proofs.Seen.Shown.{sight_shown}
use Rattle.nm_laws.proofs.Soundness.Counted.{part_of}
use Rattle.nm_laws.proofs.Soundness.Frames.{here, times_cons}
use Rattle.nm_types.proofs.Maps.{page_cmp_total, exact_page, agree}
use Rattle.nm_laws.proofs.Soundness.Moved.{each_sound}
use Rattle.nm_laws.proofs.Soundness.Once.{counted_place}
use Rattle.nm_laws.proofs.OneByOne.Planned.{plan_agrees}
use Rattle.nm_model.specs.definitions.RunMachine.{RunMachine, Job, Moving, job_from, goes_to, content, state_of}
use Rattle.nm_model.specs.definitions.Events.{laid_for, without_buffers_of, held_by, with_entries, begin_run, plan, hands}
use Rattle.nm_laws.specs.Interleavings.{IsAtRest}
use Rattle.nm_laws.proofs.InFlight.Jobs.{sources, targets, AreCopied, no_source_times, content_home}
use Rattle.nm_laws.proofs.InFlight.Values.{values_same, entries_show, changed_at}
use Rattle.nm_laws.proofs.InFlight.Midway.{CopiesPage, is_source, frames_of_job, at_home, hands_count}
use Rattle.nm_laws.proofs.InFlight.Deciding.{jobs_of, CopiesFrom, IsDecided, each_decided}
use Rattle.nm_laws.proofs.InFlight.Entering.{unmap_some}
use Rattle.nm_laws.proofs.InFlight.Steps.{Begun}

no : false ≡ true → ⊥
no e = cc

-- ---- the jobs of moves

module _ (buf : Store) where
  sources_of : (taken : List PageMove) → sources (jobs_of buf taken) ≡ frames_left taken
  sources_of [] = refl
  sources_of (t ∷ taken) = ap (λ xs. t.from ∷ xs) (sources_of taken)

  targets_of : (taken : List PageMove) → targets (jobs_of buf taken) ≡ map (λ t. t.to) taken
  targets_of [] = refl
  targets_of (t ∷ taken) = ap (λ xs. t.to ∷ xs) (targets_of taken)

  ends_are : (taken : List PageMove) → map frames_of_job (jobs_of buf taken) ≡ map (λ t. (t.from, t.to)) taken
  ends_are [] = refl
  ends_are (t ∷ taken) = ap (λ xs. (t.from, t.to) ∷ xs) (ends_are taken)

  count_of : (taken : List PageMove) → length (jobs_of buf taken) ≡ length taken
  count_of [] = refl
  count_of (t ∷ taken) = ap suc (count_of taken)

  copied_of : (taken : List PageMove) → AreCopied (jobs_of buf taken)
  copied_of [] = tt
  copied_of (t ∷ taken) = (λ e. absurd (no e), copied_of taken)

  -- a job's source has the bytes that were in the frame
  content_of : (other : Store) (taken : List PageMove) (f : ℕ) → is_some (job_from (jobs_of buf taken) f) ≡ true → content other (jobs_of buf taken) f ≡ bytes_of buf f
  content_of other [] f h = absurd (no h)
  content_of other (t ∷ taken) f h =
      elim (t.from == f) as (λ b. (t.from == f) ≡ b → is_some (cond b (Some (laid_for buf t)) (job_from (jobs_of buf taken) f)) ≡ true
      → unwrap_or (option_map (λ (job : Job). job.source.1) (cond b (Some (laid_for buf t)) (job_from (jobs_of buf taken) f))) (bytes_of other f) ≡ bytes_of buf f) [
        | true ↦ λ b h. ap (bytes_of buf) (eqb-true t.from f b)
        | false ↦ λ b h. content_of other taken f h
      ] refl h

-- frames of one node are targets, and those of others are sources
source_elsewhere : (g : ℕ → ℕ) (target : ℕ) (taken : List PageMove) (f : ℕ) → AllByRecursion (λ t. (g t.from == target) ≡ false) taken → 1 ≤ times f (frames_left taken) → (g f == target) ≡ false
source_elsewhere g target [] f all some = absurd (omega (arith, some))
source_elsewhere g target (t ∷ taken) f all some =
    let s = times_cons f t.from (frames_left taken) in
    elim (t.from == f) as (λ b. (t.from == f) ≡ b → (g f == target) ≡ false) [
      | true ↦ λ b. subst (λ x. (g x == target) ≡ false) (eqb-true t.from f b) all.0
      | false ↦ λ b. let none : here f t.from ≡ 0 = ap (λ c. cond c 1 0) b in source_elsewhere g target taken f all.1 (omega (arith, none, s, some))
    ] refl

target_there : (g : ℕ → ℕ) (target : ℕ) (taken : List PageMove) (f : ℕ) → AllByRecursion (λ t. g t.to ≡ target) taken → 1 ≤ times f (map (λ (t : PageMove). t.to) taken) → g f ≡ target
target_there g target [] f all some = absurd (omega (arith, some))
target_there g target (t ∷ taken) f all some =
    let s = times_cons f t.to (map (λ (t : PageMove). t.to) taken) in
    elim (t.to == f) as (λ b. (t.to == f) ≡ b → g f ≡ target) [
      | true ↦ λ b. subst (λ x. g x ≡ target) (eqb-true t.to f b) all.0
      | false ↦ λ b. let none : here f t.to ≡ 0 = ap (λ c. cond c 1 0) b in target_there g target taken f all.1 (omega (arith, none, s, some))
    ] refl

-- ---- buffers that leave

out_length : (jobs : List Job) (buf : Store) → length (fold without_buffers_of buf jobs) ≡ length buf
out_length [] buf = refl
out_length (job ∷ jobs) buf = out_length jobs (without_buffers_of buf job) ∙ length-set (slice_set buf job.source.0 None) job.target.0 None ∙ length-set buf job.source.0 None

out_other : (jobs : List Job) (buf : Store) (f : ℕ) → times f (sources jobs) + times f (targets jobs) ≡ 0 → slice_index_or (fold without_buffers_of buf jobs) f None ≡ slice_index_or buf f None
out_other [] buf f none = refl
out_other (job ∷ jobs) buf f none =
    let s = times_cons f job.source.0 (sources jobs) in
    let t = times_cons f job.target.0 (targets jobs) in
    out_other jobs (without_buffers_of buf job) f (omega (arith, s, t, none))
    ∙ get_or-set_other (slice_set buf job.source.0 None) job.target.0 f None None (λ e. let one : here f job.target.0 ≡ 1 = ap (λ b. cond b 1 0) (eq-eqb job.target.0 f (sym e)) in absurd (omega (arith, one, t, none)))
    ∙ get_or-set_other buf job.source.0 f None None (λ e. let one : here f job.source.0 ≡ 1 = ap (λ b. cond b 1 0) (eq-eqb job.source.0 f (sym e)) in absurd (omega (arith, one, s, none)))

out_still : (buf : Store) (g f : ℕ) → f < length buf → slice_index_or buf f None ≡ None → slice_index_or (slice_set buf g None) f None ≡ None
out_still buf g f below gone =
    elim (g == f) as (λ b. (g == f) ≡ b → slice_index_or (slice_set buf g None) f None ≡ None) [
      | true ↦ λ b. ap (λ k. slice_index_or (slice_set buf k None) f None) (eqb-true g f b) ∙ get_or-set_same buf f None None below
      | false ↦ λ b. get_or-set_other buf g f None None (λ e. no (sym b ∙ eq-eqb g f (sym e))) ∙ gone
    ] refl

all_out : (jobs : List Job) (buf : Store) (f : ℕ) → f < length buf → slice_index_or buf f None ≡ None → slice_index_or (fold without_buffers_of buf jobs) f None ≡ None
all_out [] buf f below gone = gone
all_out (job ∷ jobs) buf f below gone =
    let one = length-set buf job.source.0 None in
    let two = length-set (slice_set buf job.source.0 None) job.target.0 None in
    all_out jobs (without_buffers_of buf job) f (omega (arith, below, one, two)) (out_still (slice_set buf job.source.0 None) job.target.0 f (omega (arith, below, one)) (out_still buf job.source.0 f below gone))

out_mine : (jobs : List Job) (buf : Store) (f : ℕ) → f < length buf → 1 ≤ times f (sources jobs) + times f (targets jobs) → slice_index_or (fold without_buffers_of buf jobs) f None ≡ None
out_mine [] buf f below some = absurd (omega (arith, some))
out_mine (job ∷ jobs) buf f below some =
    let s = times_cons f job.source.0 (sources jobs) in
    let t = times_cons f job.target.0 (targets jobs) in
    let one = length-set buf job.source.0 None in
    let two = length-set (slice_set buf job.source.0 None) job.target.0 None in
    let below_one : f < length (slice_set buf job.source.0 None) = omega (arith, below, one) in
    let below_two : f < length (without_buffers_of buf job) = omega (arith, below, one, two) in
    elim (job.source.0 == f) as (λ b. (job.source.0 == f) ≡ b → slice_index_or (fold without_buffers_of (without_buffers_of buf job) jobs) f None ≡ None) [
      | true ↦ λ b. all_out jobs (without_buffers_of buf job) f below_two (out_still (slice_set buf job.source.0 None) job.target.0 f below_one
          (ap (λ k. slice_index_or (slice_set buf k None) f None) (eqb-true job.source.0 f b) ∙ get_or-set_same buf f None None below))
      | false ↦ λ b. elim (job.target.0 == f) as (λ c. (job.target.0 == f) ≡ c → slice_index_or (fold without_buffers_of (without_buffers_of buf job) jobs) f None ≡ None) [
        | true ↦ λ c. all_out jobs (without_buffers_of buf job) f below_two
            (ap (λ k. slice_index_or (slice_set (slice_set buf job.source.0 None) k None) f None) (eqb-true job.target.0 f c) ∙ get_or-set_same (slice_set buf job.source.0 None) f None None below_one)
        | false ↦ λ c.
            let none : here f job.source.0 ≡ 0 = ap (λ c. cond c 1 0) b in
            let none_too : here f job.target.0 ≡ 0 = ap (λ c. cond c 1 0) c in
            out_mine jobs (without_buffers_of buf job) f below_two (omega (arith, s, t, none, none_too, some))
      ] refl
    ] refl

home_one : (o : Option (List ℕ)) → is_some o ≡ true → at_home o ≡ 1
home_one None e = absurd (no e)
home_one (Some bytes) e = refl

-- ---- held entries

held_alike : (jobs : List Job) (areas : Map (ℕ × ℕ) Area) (pid v : ℕ) (e : Entry) → sight_of areas pid v (held_by jobs e) ≡ sight_of areas pid v e
held_alike jobs areas pid v Zero = refl
held_alike jobs areas pid v (Held f) = refl
held_alike jobs areas pid v (Frame f) =
    elim (job_from jobs f) as (λ o. sight_of areas pid v (unwrap_or (option_map (λ (job : Job). Held job.target.0) o) (Frame f)) ≡ sight_of areas pid v (Frame f)) [ None ↦ refl | Some job ↦ refl ]

one_at_most : (n : ℕ) (b : Bool) → n ≡ cond b 1 0 → n ≤ 1
one_at_most n true e = omega (arith, e)
one_at_most n false e = omega (arith, e)

-- ---- the beginning

module _ (m : RunMachine) (target : ℕ) (wanted : List Wanted) (rest : IsAtRest m) (sound : IsSound (state_of m)) where
  abbrev p : Progress
  p = each_request (state_of m) target wanted

  abbrev jobs : List Job
  jobs = jobs_of m.buf p.taken

  -- the beginning by the moves and the statuses
  abbrev laid : List PageMove → List ℤ → RunMachine
  laid taken statuses = record m {
    phase = Moving;
    tasks = with_entries (held_by (jobs_of m.buf taken)) m.tasks;
    buf = fold without_buffers_of m.buf (jobs_of m.buf taken);
    free = slice_set m.free target (drop (length taken) (slice_index_or m.free target []));
    jobs = jobs_of m.buf taken;
    statuses = statuses;
  }

  decided_here : IsDecided (state_of m) target m.buf p
  decided_here = each_decided target m.buf wanted (state_of m) [] sound

  sound_then : IsSoundInFlight p.state (frames_left p.taken)
  sound_then = each_sound (state_of m) [] target wanted sound

  place_is : (state_of m).place ≡ m.place
  place_is = (λ i. with_values (λ (q : Page) f. goes_to (rest.settled.idle i) f) m.place) ∙ values_same m.place

  was_placed : (q : Page) (f : ℕ) → get page_cmp m.place q ≡ Some f → get page_cmp (state_of m).place q ≡ Some f
  was_placed q f e = ap (λ ps. get page_cmp ps q) place_is ∙ e

  free_times : (f : ℕ) → times f (values_of (state_of m).place) + sum_by (times f) m.free + times f [] ≤ 1
  free_times f = one_at_most _ (nat_lt f (frame_count m.layout)) (sound.frames.once f)

  target_times : (f : ℕ) → times f (targets jobs) ≤ sum_by (times f) m.free
  target_times f =
      let few : times f (map (λ (t : PageMove). t.to) p.taken) ≤ times f (slice_index_or m.free target []) = decided_here.few f in
      let is : times f (targets jobs) ≡ times f (map (λ (t : PageMove). t.to) p.taken) = ap (times f) (targets_of m.buf p.taken) in
      let free = part_of m.free target f in
      omega (arith, few, is, free)

  -- the bytes of pages stay
  content_stays : (q : Page) (f : ℕ) → get page_cmp m.place q ≡ Some f → content (fold without_buffers_of m.buf jobs) jobs f ≡ content m.buf m.jobs f
  content_stays q f placed =
      elim (is_some (job_from jobs f)) as (λ b. is_some (job_from jobs f) ≡ b → content (fold without_buffers_of m.buf jobs) jobs f ≡ bytes_of m.buf f) [
        | true ↦ λ b. content_of m.buf (fold without_buffers_of m.buf jobs) p.taken f b
        | false ↦ λ b.
            let s = no_source_times jobs f b in
            let t = target_times f in
            let one = counted_place (state_of m).place q f (was_placed q f placed) in
            let most = free_times f in
            content_home (fold without_buffers_of m.buf jobs) jobs f b
            ∙ ap (λ o. unwrap_or o []) (out_other jobs m.buf f (omega (arith, s, t, one, most)))
      ] refl
      ∙ sym (ap (λ js. content m.buf js f) rest.settled.idle)

  in_order : IsStrictlySortedBy page_cmp (keys_of m.place)
  in_order = subst (λ ps. IsStrictlySortedBy page_cmp (keys_of ps)) place_is sound.order.place

  laid_state : (statuses : List ℤ) → state_of (laid p.taken statuses) ≡ p.state
  laid_state statuses =
      let d = decided_here in
      let processes : with_values (process_of m.areas) (with_entries (held_by jobs) m.tasks) ≡ with_values (process_of m.areas) m.tasks = entries_show (held_by jobs) (held_alike jobs) m.areas m.tasks in
      let place : with_values (λ (q : Page) f. goes_to jobs f) m.place ≡ p.state.place = ap (with_values (λ (q : Page) f. goes_to jobs f)) (sym place_is) ∙ sym d.place in
      let bytes : with_values (λ (q : Page) f. content (fold without_buffers_of m.buf jobs) jobs f) m.place ≡ with_values (λ (q : Page) f. content m.buf m.jobs f) m.place =
      agree page_cmp_total exact_page (λ (q : Page) f. content (fold without_buffers_of m.buf jobs) jobs f) (λ (q : Page) f. content m.buf m.jobs f) m.place in_order content_stays in
      (λ i. record (state_of (laid p.taken statuses)) { processes = processes i; place = place i; bytes = bytes i }) ∙ sym d.state

  -- an entry names the frame of the page that is seen there
  entry_before : (pid v : ℕ) (o : Option Entry) → entry_at m.tasks pid v ≡ o → o ≡ option_map (entry_of (state_of m).place) (option_map (sight_of m.areas pid v) o)
  entry_before pid v None e = refl
  entry_before pid v (Some entry) e = ap Some (rest.settled.entries pid v entry e ∙ ap (λ ps. entry_of ps (sight_of m.areas pid v entry)) (sym place_is))

  laid_entries_are : (pid v : ℕ) → entry_at (with_entries (held_by jobs) m.tasks) pid v ≡ option_map (held_by jobs) (option_map (entry_of (state_of m).place) (sight_at (state_of m) pid v))
  laid_entries_are pid v =
      changed_at (held_by jobs) m.tasks pid v
      ∙ ap (option_map (held_by jobs)) (entry_before pid v (entry_at m.tasks pid v) refl ∙ ap (option_map (entry_of (state_of m).place)) (sym (sight_shown m.areas m.tasks pid v)))

  laid_entries : (pid v : ℕ) (e : Entry) → entry_at (with_entries (held_by jobs) m.tasks) pid v ≡ Some e → e ≡ held_by jobs (entry_of m.place (sight_of m.areas pid v e))
  laid_entries pid v e there =
      let was = unmap_some (held_by jobs) (entry_at m.tasks pid v) e (sym (changed_at (held_by jobs) m.tasks pid v) ∙ there) in
      sym was.2 ∙ ap (held_by jobs) (rest.settled.entries pid v was.0 was.1)
      ∙ ap (λ s. held_by jobs (entry_of m.place s)) (sym (held_alike jobs m.areas pid v was.0) ∙ ap (sight_of m.areas pid v) was.2)

  laid_copies : (statuses : List ℤ) (es : List (ℕ × ℕ)) → AllByRecursion (CopiesFrom (state_of m) target jobs) es → AllByRecursion (CopiesPage (laid p.taken statuses) jobs) es
  laid_copies statuses [] c = tt
  laid_copies statuses (e ∷ es) c = ((c.0.0, sym (ap (λ ps. get page_cmp ps c.0.0) place_is) ∙ c.0.1, c.0.2), laid_copies statuses es c.1)

  once_each : (f : ℕ) → times f (sources jobs) + times f (targets jobs) ≤ 1
  once_each f =
      let d = decided_here in
      let s : times f (sources jobs) ≡ times f (frames_left p.taken) = ap (times f) (sources_of m.buf p.taken) in
      let t : times f (targets jobs) ≡ times f (map (λ (t : PageMove). t.to) p.taken) = ap (times f) (targets_of m.buf p.taken) in
      let few = target_times f in
      let most = free_times f in
      let after : times f (values_of p.state.place) + sum_by (times f) p.state.free + times f (frames_left p.taken) ≤ 1 = one_at_most _ (nat_lt f (frame_count p.state.layout)) (sound_then.frames.once f) in
      elim (nat_lt 0 (times f (frames_left p.taken))) as (λ b. nat_lt 0 (times f (frames_left p.taken)) ≡ b → times f (sources jobs) + times f (targets jobs) ≤ 1) [
        | true ↦ λ b.
            let some : 1 ≤ times f (frames_left p.taken) = let lt = ltb-true 0 (times f (frames_left p.taken)) b in omega (arith, lt) in
            let off = source_elsewhere (node_of m.layout) target p.taken f d.from_elsewhere some in
            elim (nat_lt 0 (times f (map (λ (t : PageMove). t.to) p.taken))) as (λ c. nat_lt 0 (times f (map (λ (t : PageMove). t.to) p.taken)) ≡ c → times f (sources jobs) + times f (targets jobs) ≤ 1) [
              | true ↦ λ c.
                  let some_too : 1 ≤ times f (map (λ (t : PageMove). t.to) p.taken) = let lt = ltb-true 0 (times f (map (λ (t : PageMove). t.to) p.taken)) c in omega (arith, lt) in
                  absurd (no (sym off ∙ eq-eqb (node_of m.layout f) target (target_there (node_of m.layout) target p.taken f d.to_target some_too)))
              | false ↦ λ c. let none = ltb-false 0 (times f (map (λ (t : PageMove). t.to) p.taken)) c in omega (arith, none, s, t, after)
            ] refl
        | false ↦ λ b. let none = ltb-false 0 (times f (frames_left p.taken)) b in omega (arith, none, s, t, few, most)
      ] refl

  laid_once : (statuses : List ℤ) (f : ℕ) → f < frame_count m.layout → length (hands (laid p.taken statuses) f) ≡ 1
  laid_once statuses f below =
      let inside : f < length m.buf = let len = rest.settled.buffers in omega (arith, below, len) in
      let most = once_each f in
      hands_count (laid p.taken statuses) f
      ∙ elim (nat_lt 0 (times f (sources jobs) + times f (targets jobs))) as (λ b. nat_lt 0 (times f (sources jobs) + times f (targets jobs)) ≡ b → at_home (slice_index_or (fold without_buffers_of m.buf jobs) f None) + (times f (sources jobs) + times f (targets jobs)) ≡ 1) [
        | true ↦ λ b.
            let some = ltb-true 0 (times f (sources jobs) + times f (targets jobs)) b in
            let out : at_home (slice_index_or (fold without_buffers_of m.buf jobs) f None) ≡ 0 = ap at_home (out_mine jobs m.buf f inside (omega (arith, some))) in
            omega (arith, some, out, most)
        | false ↦ λ b.
            let none = ltb-false 0 (times f (sources jobs) + times f (targets jobs)) b in
            let zeros : times f (sources jobs) + times f (targets jobs) ≡ 0 = omega (arith, none) in
            let home : at_home (slice_index_or (fold without_buffers_of m.buf jobs) f None) ≡ 1 = ap at_home (out_other jobs m.buf f zeros) ∙ home_one (slice_index_or m.buf f None) (rest.settled.home f below).here in
            omega (arith, zeros, home)
      ] refl

  laid_begins : (statuses : List ℤ) → statuses ≡ p.statuses → Begun m (laid p.taken statuses) p
  laid_begins statuses same =
      record {
        in_flight = record {
          moving = refl;
          sound = subst (IsSoundInFlight (state_of (laid p.taken statuses))) (sym (sources_of m.buf p.taken)) (subst (λ s. IsSoundInFlight s (frames_left p.taken)) (sym (laid_state statuses)) sound_then);
          entries = laid_entries;
          pages = λ q. decided_here.pages q ∙ ap (λ ps. is_source jobs (get page_cmp ps q)) place_is;
          copies = laid_copies statuses (map frames_of_job jobs) decided_here.copies;
          copied = copied_of m.buf p.taken;
          buffers = out_length jobs m.buf ∙ rest.settled.buffers;
          once = laid_once statuses;
        };
        state = laid_state statuses;
        sources_are = sources_of m.buf p.taken;
        ends = ends_are m.buf p.taken;
        count = count_of m.buf p.taken;
        entries = laid_entries_are;
        statuses = same;
        answers = rest.unanswered;
        layout = refl;
      }

pub begun_is : (m : RunMachine) (target : ℕ) (wanted : List Wanted) → IsAtRest m → IsSound (state_of m) → HasOneAll wanted → Begun m (begin_run m target wanted) (each_request (state_of m) target wanted)
begun_is m target wanted rest sound alike =
    let agrees = plan_agrees (state_of m) target wanted sound.order.processes (sound.frames.own target) alike in
    let d = plan m target wanted in
    subst (λ taken. Begun m (laid m target wanted rest sound taken d.statuses) (each_request (state_of m) target wanted)) agrees.taken
    (laid_begins m target wanted rest sound d.statuses (sym agrees.statuses))
