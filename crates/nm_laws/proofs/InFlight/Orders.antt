-- Every list of events from a beginning to an end is the run.
use Rattle.std.proofs.Common.{◌≡◌, ℕ, ◌<◌, List, [], ◌∷◌, ◌++◌, Bool, true, false, cond, map, length, refl, sym, ap, subst, ◌∙◌, append_assoc}
use Rattle.std.specs.Prelude.{Option, Some, None, ◌&&◌}
use Rattle.std.specs.Option.{unwrap_or, option_map}
use Rattle.std.specs.List.{slice_get, list_any, list_all}
use Rattle.std.proofs.lemmas.Bool.{and_parts}
use Rattle.nm_types.specs.declared.page.Page.{Page}
use Rattle.nm_types.specs.Layout.{frame_count}
use Rattle.nm_types.specs.State.{State}
use Rattle.nm_model.specs.definitions.Touch.{Access, access_during, all_in_flight, AccessResults}
use Rattle.nm_model.specs.definitions.Run.{each_request, with_all_free, with_counts, failures}
use Rattle.nm_model.specs.definitions.RunMachine.{RunMachine, Job, Moving, Ended, state_of}
use Rattle.nm_model.specs.definitions.Events.{Event, Begin, Draw, Give, Touch, End, after, accesses_in, draw_job, give_job, end_run, begin_run, hands, is_ready, is_moving, is_laid, is_given, is_with}
use Rattle.nm_model.specs.definitions.Accesses.{after_access}
use Rattle.nm_laws.specs.Interleavings.{IsSettled, EveryOrderIsTheRun, EveryBufferIsInOneHand, EveryEntryOfAMovingPageIsHeld}
use Rattle.nm_laws.proofs.InFlight.Jobs.{AreCopied, shape, sources, drawn_shape, drawn_copied, given_shape, given_copied, sources_same, length_same}
use Rattle.nm_laws.proofs.InFlight.Midway.{IsInFlight, frames_of_job, same_state, same_ends, same_midway}
use Rattle.nm_laws.proofs.InFlight.Ending.{ended_is, ended_once, ended_settled}
use Rattle.nm_laws.proofs.InFlight.Accessing.{accessed_is}
use Rattle.nm_laws.proofs.InFlight.Beginning.{begun_is}
use Rattle.nm_laws.proofs.InFlight.Entries.{entry_is}
use Rattle.nm_laws.proofs.InFlight.Progress.{one_more}

some_is : {V : Type 0} {v w : V} → Some v ≡ Some w → v ≡ w
some_is e = cc

-- what comes after an event that was allowed
pub allowed : (b : Bool) (o : Option RunMachine) (n : RunMachine) → cond b o None ≡ Some n → (b ≡ true) × (o ≡ Some n)
allowed true o n h = (refl, h)
allowed false o n h = cc

refused : (b : Bool) (o : Option RunMachine) (n : RunMachine) → b ≡ false → cond b o None ≡ Some n → ⊥
refused true o n e h = cc
refused false o n e h = cc

moving_ended : Moving ≡ Ended → ⊥
moving_ended e = cc

no_ticket : (w t : ℕ) → unwrap_or (option_map (λ (job : Job). is_with w job.stage) (slice_get [] t)) false ≡ false
no_ticket w t = refl

-- nothing comes after the end
after_end : (events : List Event) (m n : RunMachine) → m.phase ≡ Ended → m.jobs ≡ [] → after m events ≡ Some n → (accesses_in events ≡ []) × (m ≡ n)
after_end [] m n p j h = (refl, some_is h)
after_end (Begin target wanted ∷ events) m n p j h = absurd (refused _ _ n (ap is_ready p) h)
after_end (Draw w ∷ events) m n p j h = absurd (refused _ _ n (ap (list_any (λ (job : Job). is_laid job.stage)) j) h)
after_end (Give w t ∷ events) m n p j h = absurd (refused _ _ n (ap (λ (jobs : List Job). unwrap_or (option_map (λ (job : Job). is_with w job.stage) (slice_get jobs t)) false) j ∙ no_ticket w t) h)
after_end (Touch a ∷ events) m n p j h = absurd (refused _ _ n (ap is_moving p) h)
after_end (End ∷ events) m n p j h = absurd (refused _ _ n (ap (λ q. is_moving q && list_all (λ (job : Job). is_given job.stage) m.jobs) p) h)

-- what the rest of a run makes of a machine in which this one's accesses were made
record Finishes (m n : RunMachine) (d : AccessResults) : Type 0 where
  state : state_of n ≡ with_counts (with_all_free d.state (sources m.jobs)) (length m.jobs) (failures m.statuses)
  statuses : n.statuses ≡ m.statuses
  answers : n.answers ≡ m.answers ++ d.answers
  settled : IsSettled n

append-nil : {A : Type 0} (xs : List A) → xs ++ [] ≡ xs
append-nil [] = refl
append-nil (x ∷ xs) = ap (λ l. x ∷ l) (append-nil xs)

module _ (m n : RunMachine) (moved : List Page) (h : IsInFlight m moved) where
  -- other jobs of the same shape
  finish_same : (jobs : List Job) (events : List Event) → map shape jobs ≡ map shape m.jobs → AreCopied jobs
      → (IsInFlight (record m { jobs = jobs }) moved → Finishes (record m { jobs = jobs }) n (all_in_flight (state_of (record m { jobs = jobs })) moved (accesses_in events)))
      → Finishes m n (all_in_flight (state_of m) moved (accesses_in events))
  finish_same jobs events same copied go_on =
      let rest = go_on (same_midway m jobs same moved copied h) in
      let d : State → AccessResults = λ s. all_in_flight s moved (accesses_in events) in
      let s = same_state m jobs same in
      record {
        state = rest.state ∙ (λ i. with_counts (with_all_free (d (s i)).state (sources_same jobs m.jobs same i)) (length_same jobs m.jobs same i) (failures m.statuses));
        statuses = rest.statuses;
        settled = rest.settled;
        answers = rest.answers ∙ ap (λ t. m.answers ++ (d t).answers) s;
      }

finish : (events : List Event) (m n : RunMachine) (moved : List Page) → IsInFlight m moved → after m events ≡ Some n → n.phase ≡ Ended → Finishes m n (all_in_flight (state_of m) moved (accesses_in events))
finish [] m n moved h leads end = absurd (moving_ended (sym h.moving ∙ ap (λ (k : RunMachine). k.phase) (some_is leads) ∙ end))
finish (Begin target wanted ∷ events) m n moved h leads end = absurd (refused _ _ n (ap is_ready h.moving) leads)
finish (Draw w ∷ events) m n moved h leads end = finish_same m n moved h (draw_job w m.jobs) events (drawn_shape w m.jobs) (drawn_copied w m.jobs h.copied) (λ now. finish events (record m { jobs = draw_job w m.jobs }) n moved now (allowed _ _ n leads).1 end)
finish (Give w t ∷ events) m n moved h leads end = finish_same m n moved h (give_job t m.jobs) events (given_shape t m.jobs) (given_copied t m.jobs h.copied) (λ now. finish events (record m { jobs = give_job t m.jobs }) n moved now (allowed _ _ n leads).1 end)
finish (Touch a ∷ events) m n moved h leads end =
    let k = after_access m a in
    let made = accessed_is m moved h a in
    let rest = finish events k n moved made.in_flight (allowed _ _ n leads).1 end in
    let now = access_during (state_of m) moved a in
    let d : State → AccessResults = λ s. all_in_flight s moved (accesses_in events) in
    record {
      state = rest.state ∙ (λ i. with_counts (with_all_free (d (made.state i)).state (sources (made.jobs i))) (length (made.jobs i)) (failures (made.statuses i)));
      statuses = rest.statuses ∙ made.statuses;
      settled = rest.settled;
      answers = rest.answers ∙ (λ i. made.answers i ++ (d (made.state i)).answers) ∙ append_assoc m.answers (now.answer ∷ []) (d now.state).answers;
    }
finish (End ∷ events) m n moved h leads end =
    let both = allowed _ _ n leads in
    let all = (and_parts (is_moving m.phase) (list_all (λ (job : Job). is_given job.stage) m.jobs) both.0).1 in
    let is = after_end events (end_run m) n refl refl both.1 in
    let d : List Access → AccessResults = λ xs. all_in_flight (state_of m) moved xs in
    record {
      state = ap state_of (sym is.1) ∙ ended_is m moved h all ∙ ap (λ xs. with_counts (with_all_free (d xs).state (sources m.jobs)) (length m.jobs) (failures m.statuses)) (sym is.0);
      statuses = ap (λ (k : RunMachine). k.statuses) (sym is.1);
      settled = subst IsSettled is.1 (ended_settled m moved h);
      answers = ap (λ (k : RunMachine). k.answers) (sym is.1) ∙ sym (append-nil m.answers) ∙ ap (λ xs. m.answers ++ (d xs).answers) (sym is.0);
    }

pub every_order_is_the_run : EveryOrderIsTheRun
every_order_is_the_run m target wanted events n h end =
    let first = begun_is m target wanted h.rest h.sound h.alike in
    let k = begin_run m target wanted in
    let p = each_request (state_of m) target wanted in
    let pages = map (λ t. t.page) p.taken in
    let rest = finish events k n pages first.in_flight (allowed _ _ n h.leads).1 end in
    let d : State → AccessResults = λ s. all_in_flight s pages (accesses_in events) in
    record {
      state = rest.state ∙ (λ i. with_counts (with_all_free (d (first.state i)).state (first.sources_are i)) (first.count i) (failures (first.statuses i)));
      statuses = rest.statuses ∙ first.statuses;
      answers = ap (λ xs. xs ∷ []) (rest.answers ∙ (λ i. first.answers i ++ (d (first.state i)).answers));
      settled = rest.settled;
    }

-- each buffer is in one place after each event
once_after : (events : List Event) (m n : RunMachine) (moved : List Page) → IsInFlight m moved → after m events ≡ Some n → (f : ℕ) → f < frame_count m.layout → length (hands n f) ≡ 1
once_after [] m n moved h leads f below = ap (λ k. length (hands k f)) (sym (some_is leads)) ∙ h.once f below
once_after (Begin target wanted ∷ events) m n moved h leads f below = absurd (refused _ _ n (ap is_ready h.moving) leads)
once_after (Draw w ∷ events) m n moved h leads f below =
    once_after events (record m { jobs = draw_job w m.jobs }) n moved (same_midway m (draw_job w m.jobs) (drawn_shape w m.jobs) moved (drawn_copied w m.jobs h.copied) h) (allowed _ _ n leads).1 f below
once_after (Give w t ∷ events) m n moved h leads f below =
    once_after events (record m { jobs = give_job t m.jobs }) n moved (same_midway m (give_job t m.jobs) (given_shape t m.jobs) moved (given_copied t m.jobs h.copied) h) (allowed _ _ n leads).1 f below
once_after (Touch a ∷ events) m n moved h leads f below =
    let made = accessed_is m moved h a in
    once_after events (after_access m a) n moved made.in_flight (allowed _ _ n leads).1 f (subst (λ g. f < frame_count g) (sym made.layout) below)
once_after (End ∷ events) m n moved h leads f below =
    let is = after_end events (end_run m) n refl refl (allowed _ _ n leads).1 in
    ap (λ k. length (hands k f)) (sym is.1) ∙ ended_once m moved h f below

pub every_buffer_is_in_one_hand : EveryBufferIsInOneHand
every_buffer_is_in_one_hand m target wanted events n h f below =
    let first = begun_is m target wanted h.rest h.sound h.alike in
    once_after events (begin_run m target wanted) n (map (λ t. t.page) (each_request (state_of m) target wanted).taken) first.in_flight (allowed _ _ n h.leads).1 f (subst (λ g. f < frame_count g) (sym first.layout) below)

-- what a run that is under way, and does not end, makes of a machine
pub record Flies (m n : RunMachine) (moved : List Page) (d : AccessResults) : Type 0 where
  pub in_flight : IsInFlight n moved
  pub state : state_of n ≡ d.state
  pub answers : n.answers ≡ m.answers ++ d.answers
  pub ends : map frames_of_job n.jobs ≡ map frames_of_job m.jobs

module _ (m n : RunMachine) (moved : List Page) (h : IsInFlight m moved) where
  -- other jobs of the same shape
  flies_same : (jobs : List Job) (events : List Event) → map shape jobs ≡ map shape m.jobs → AreCopied jobs
      → (IsInFlight (record m { jobs = jobs }) moved → Flies (record m { jobs = jobs }) n moved (all_in_flight (state_of (record m { jobs = jobs })) moved (accesses_in events)))
      → Flies m n moved (all_in_flight (state_of m) moved (accesses_in events))
  flies_same jobs events same copied go_on =
      let rest = go_on (same_midway m jobs same moved copied h) in
      let d : State → AccessResults = λ s. all_in_flight s moved (accesses_in events) in
      let s = same_state m jobs same in
      record {
        in_flight = rest.in_flight;
        state = rest.state ∙ ap (λ t. (d t).state) s;
        answers = rest.answers ∙ ap (λ t. m.answers ++ (d t).answers) s;
        ends = rest.ends ∙ sym (same_ends m jobs same);
      }

pub flies : (events : List Event) (m n : RunMachine) (moved : List Page) → IsInFlight m moved → after m events ≡ Some n → n.phase ≡ Moving → Flies m n moved (all_in_flight (state_of m) moved (accesses_in events))
flies [] m n moved h leads on =
    let is = some_is leads in
    record {
      in_flight = subst (λ (k : RunMachine). IsInFlight k moved) is h;
      state = ap state_of (sym is);
      answers = ap (λ (k : RunMachine). k.answers) (sym is) ∙ sym (append-nil m.answers);
      ends = ap (λ (k : RunMachine). map frames_of_job k.jobs) (sym is);
    }
flies (Begin target wanted ∷ events) m n moved h leads on = absurd (refused _ _ n (ap is_ready h.moving) leads)
flies (Draw w ∷ events) m n moved h leads on = flies_same m n moved h (draw_job w m.jobs) events (drawn_shape w m.jobs) (drawn_copied w m.jobs h.copied) (λ now. flies events (record m { jobs = draw_job w m.jobs }) n moved now (allowed _ _ n leads).1 on)
flies (Give w t ∷ events) m n moved h leads on = flies_same m n moved h (give_job t m.jobs) events (given_shape t m.jobs) (given_copied t m.jobs h.copied) (λ now. flies events (record m { jobs = give_job t m.jobs }) n moved now (allowed _ _ n leads).1 on)
flies (Touch a ∷ events) m n moved h leads on =
    let made = accessed_is m moved h a in
    let rest = flies events (after_access m a) n moved made.in_flight (allowed _ _ n leads).1 on in
    let now = access_during (state_of m) moved a in
    let d : State → AccessResults = λ s. all_in_flight s moved (accesses_in events) in
    record {
      in_flight = rest.in_flight;
      state = rest.state ∙ ap (λ t. (d t).state) made.state;
      answers = rest.answers ∙ (λ i. made.answers i ++ (d (made.state i)).answers) ∙ append_assoc m.answers (now.answer ∷ []) (d now.state).answers;
      ends = rest.ends ∙ ap (map frames_of_job) made.jobs;
    }
flies (End ∷ events) m n moved h leads on =
    let is = after_end events (end_run m) n refl refl (allowed _ _ n leads).1 in
    absurd (moving_ended (sym on ∙ sym (ap (λ (k : RunMachine). k.phase) is.1)))

pub every_entry_of_a_moving_page_is_held : EveryEntryOfAMovingPageIsHeld
every_entry_of_a_moving_page_is_held m target wanted events n h on =
    let first = begun_is m target wanted h.rest h.sound h.alike in
    let moved = map (λ t. t.page) (each_request (state_of m) target wanted).taken in
    entry_is n moved (flies events (begin_run m target wanted) n moved first.in_flight (allowed _ _ n h.leads).1 on).in_flight

-- a run that ends has a last moment: every job is given back, and its accesses are made
pub record IsBeforeEnd (m : RunMachine) (events : List Event) (n : RunMachine) : Type 0 where
  pub till : List Event
  pub now : RunMachine
  pub leads : after m till ≡ Some now
  pub moving : now.phase ≡ Moving
  pub given : list_all (λ job. is_given job.stage) now.jobs ≡ true
  pub accesses : accesses_in till ≡ accesses_in events
  pub over : end_run now ≡ n

pub before_end : (events : List Event) (m n : RunMachine) (moved : List Page) → IsInFlight m moved → after m events ≡ Some n → n.phase ≡ Ended → IsBeforeEnd m events n
before_end [] m n moved h leads end = absurd (moving_ended (sym h.moving ∙ ap (λ (k : RunMachine). k.phase) (some_is leads) ∙ end))
before_end (Begin target wanted ∷ events) m n moved h leads end = absurd (refused _ _ n (ap is_ready h.moving) leads)
before_end (Draw w ∷ events) m n moved h leads end =
    let jobs = draw_job w m.jobs in
    let both = allowed _ _ n leads in
    let rest = before_end events (record m { jobs = jobs }) n moved (same_midway m jobs (drawn_shape w m.jobs) moved (drawn_copied w m.jobs h.copied) h) both.1 end in
    record { till = Draw w ∷ rest.till; now = rest.now; leads = one_more _ _ both.0 ∙ rest.leads; moving = rest.moving; given = rest.given; accesses = rest.accesses; over = rest.over }
before_end (Give w t ∷ events) m n moved h leads end =
    let jobs = give_job t m.jobs in
    let both = allowed _ _ n leads in
    let rest = before_end events (record m { jobs = jobs }) n moved (same_midway m jobs (given_shape t m.jobs) moved (given_copied t m.jobs h.copied) h) both.1 end in
    record { till = Give w t ∷ rest.till; now = rest.now; leads = one_more _ _ both.0 ∙ rest.leads; moving = rest.moving; given = rest.given; accesses = rest.accesses; over = rest.over }
before_end (Touch a ∷ events) m n moved h leads end =
    let both = allowed _ _ n leads in
    let rest = before_end events (after_access m a) n moved (accessed_is m moved h a).in_flight both.1 end in
    record { till = Touch a ∷ rest.till; now = rest.now; leads = one_more _ _ both.0 ∙ rest.leads; moving = rest.moving; given = rest.given; accesses = ap (λ xs. a ∷ xs) rest.accesses; over = rest.over }
before_end (End ∷ events) m n moved h leads end =
    let both = allowed _ _ n leads in
    let all = (and_parts (is_moving m.phase) (list_all (λ (job : Job). is_given job.stage) m.jobs) both.0).1 in
    let is = after_end events (end_run m) n refl refl both.1 in
    record { till = []; now = m; leads = refl; moving = h.moving; given = all; accesses = sym is.0; over = is.1 }
