-- What holds of the machine while a run is under way.
use Rattle.std.proofs.Common.{◌≡◌, ℕ, ◌+◌, List, [], ◌∷◌, map, length, refl, sym, ap, subst, ◌∙◌, length-append}
use Rattle.std.specs.Prelude.{Option, Some, None, slice_index_or}
use Rattle.std.specs.Option.{unwrap_or, option_map}
use Rattle.std.specs.List.{AllByRecursion, flat_map}
use Rattle.nm_types.specs.declared.page.Page.{Page}
use Rattle.nm_types.specs.Map.{get, page_cmp, with_values}
use Rattle.nm_types.specs.declared.entry.Entry.{Entry}
use Rattle.nm_types.specs.declared.entry.Entry.TheVariants.{Zero, Frame, Held}
use Rattle.nm_model.specs.definitions.PageTables.{sight_of, entry_of}
use Rattle.nm_model.specs.definitions.Sound.{times, IsSoundInFlight}
use Rattle.nm_model.specs.definitions.RunMachine.{RunMachine, Job, job_from, state_of}
use Rattle.nm_model.specs.definitions.Events.{held_by, hands, job_holds, home_hold}
pub use Rattle.nm_laws.specs.InFlight.{is_source, CopiesPage, frames_of_job, IsInFlight}
use Rattle.nm_laws.proofs.InFlight.Jobs.{Shape, shape, sources, targets, AreCopied, from_same, held_of_shape, goes_same, content_same, some_same, sources_same, targets_same, jobs_hold}

-- how many places hold the buffer of a frame
abbrev pub at_home : Option (List ℕ) → ℕ
at_home o = length (home_hold o)

pub hands_count : (m : RunMachine) (f : ℕ) → length (hands m f) ≡ at_home (slice_index_or m.buf f None) + (times f (sources m.jobs) + times f (targets m.jobs))
hands_count m f =
    length-append (home_hold (slice_index_or m.buf f None)) (flat_map (job_holds f) m.jobs)
    ∙ ap (λ n. at_home (slice_index_or m.buf f None) + n) (jobs_hold f m.jobs)

ends_of_shapes : (jobs : List Job) → map frames_of_job jobs ≡ map (λ (x : Shape). (x.0.0, x.1)) (map shape jobs)
ends_of_shapes [] = refl
ends_of_shapes (job ∷ jobs) = ap (λ xs. frames_of_job job ∷ xs) (ends_of_shapes jobs)

-- other jobs of the same frames and source bytes
module _ (m : RunMachine) (jobs : List Job) (same : map shape jobs ≡ map shape m.jobs) where
  pub same_state : state_of (record m { jobs = jobs }) ≡ state_of m
  same_state = λ i. record (state_of m) {
    place = with_values (λ page f. goes_same jobs m.jobs same f i) m.place;
    bytes = with_values (λ page f. content_same jobs m.jobs same m.buf f i) m.place;
  }

  same_held : (e : Entry) → held_by jobs e ≡ held_by m.jobs e
  same_held Zero = refl
  same_held (Held f) = refl
  same_held (Frame f) = held_of_shape (job_from jobs f) f ∙ ap (λ o. unwrap_or (option_map (λ (x : Shape). Held x.1) o) (Frame f)) (from_same jobs m.jobs same f) ∙ sym (held_of_shape (job_from m.jobs f) f)

  same_source : (o : Option ℕ) → is_source m.jobs o ≡ is_source jobs o
  same_source None = refl
  same_source (Some f) = sym (some_same jobs m.jobs same f)

  pub same_ends : map frames_of_job m.jobs ≡ map frames_of_job jobs
  same_ends = ends_of_shapes m.jobs ∙ ap (map (λ (x : Shape). (x.0.0, x.1))) (sym same) ∙ sym (ends_of_shapes jobs)

  same_copies : (es : List (ℕ × ℕ)) → AllByRecursion (CopiesPage m m.jobs) es → AllByRecursion (CopiesPage (record m { jobs = jobs }) jobs) es
  same_copies [] h = tt
  same_copies (e ∷ es) h = ((h.0.0, h.0.1, goes_same jobs m.jobs same e.0 ∙ h.0.2), same_copies es h.1)

  pub same_midway : (moved : List Page) → AreCopied jobs → IsInFlight m moved → IsInFlight (record m { jobs = jobs }) moved
  same_midway moved copied h =
      record {
        moving = h.moving;
        sound = subst (λ l. IsSoundInFlight (state_of (record m { jobs = jobs })) l) (sym (sources_same jobs m.jobs same)) (subst (λ s. IsSoundInFlight s (sources m.jobs)) (sym same_state) h.sound);
        entries = λ pid v e at. h.entries pid v e at ∙ sym (same_held (entry_of m.place (sight_of m.areas pid v e)));
        pages = λ p. h.pages p ∙ same_source (get page_cmp m.place p);
        copies = subst (AllByRecursion (CopiesPage (record m { jobs = jobs }) jobs)) same_ends (same_copies (map frames_of_job m.jobs) h.copies);
        copied = copied;
        buffers = h.buffers;
        once = λ f below.
            hands_count (record m { jobs = jobs }) f
            ∙ ap (λ n. at_home (slice_index_or m.buf f None) + (n + times f (targets jobs))) (ap (times f) (sources_same jobs m.jobs same))
            ∙ ap (λ n. at_home (slice_index_or m.buf f None) + (times f (sources m.jobs) + n)) (ap (times f) (targets_same jobs m.jobs same))
            ∙ sym (hands_count m f) ∙ h.once f below;
      }
