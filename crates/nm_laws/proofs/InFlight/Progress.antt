-- A run can end: all accesses are made, and then one worker copies one job after another.
use Rattle.std.proofs.Common.{◌≡◌, ℕ, ◌+◌, List, [], ◌∷◌, ◌++◌, Bool, true, false, cond, map, length, refl, sym, ap, ◌∙◌, append_assoc, length-append, arith}
use Rattle.std.specs.Prelude.{Option, Some, None, ◌&&◌, ◌||◌}
use Rattle.std.specs.Option.{unwrap_or, option_map}
use Rattle.std.specs.List.{AllByRecursion, slice_get, list_any, list_all}
use Rattle.nm_types.specs.declared.page.Page.{Page}
use Rattle.nm_model.specs.definitions.Frames.{Store}
use Rattle.nm_types.specs.declared.page_move.PageMove.{PageMove}
use Rattle.nm_model.specs.definitions.Touch.{Access}
use Rattle.nm_model.specs.definitions.Run.{each_request}
use Rattle.nm_model.specs.definitions.RunMachine.{RunMachine, Job, InHand, Moving, Ended, state_of}
use Rattle.nm_model.specs.definitions.Events.{Event, Draw, Give, Touch, End, after, is_allowed, effect, accesses_in, draw_job, copy_job, give_job, end_run, begin_run, plan, laid_for, is_ready, is_moving, is_laid, is_given, is_with}
use Rattle.nm_model.specs.definitions.Accesses.{after_access}
use Rattle.nm_laws.specs.Interleavings.{EveryRunCanEnd}
use Rattle.nm_laws.proofs.InFlight.Midway.{IsInFlight}
use Rattle.nm_laws.proofs.InFlight.Accessing.{accessed_is}
use Rattle.nm_laws.proofs.InFlight.Beginning.{begun_is}

-- one event that is allowed
pub one_more : (b : Bool) (o : Option RunMachine) → b ≡ true → cond b o None ≡ o
one_more true o e = refl
one_more false o e = cc

after_both : (xs ys : List Event) (m k : RunMachine) → after m xs ≡ Some k → after m (xs ++ ys) ≡ after k ys
after_both [] ys m k h = let same : m ≡ k = cc in ap (λ n. after n ys) same
after_both (e ∷ xs) ys m k h =
    elim (is_allowed m e) as (λ b. cond b (after (effect m e) xs) None ≡ Some k → cond b (after (effect m e) (xs ++ ys)) None ≡ after k ys) [
      | true ↦ λ h. after_both xs ys (effect m e) k h
      | false ↦ λ h. cc
    ] h

-- ---- the accesses

-- after accesses the run is under way as before
record Touches (m n : RunMachine) (moved : List Page) (accesses : List Access) : Type 0 where
  made : after m (map Touch accesses) ≡ Some n
  in_flight : IsInFlight n moved
  jobs : n.jobs ≡ m.jobs

touch_all : (accesses : List Access) (m : RunMachine) (moved : List Page) → IsInFlight m moved → (n : RunMachine) × Touches m n moved accesses
touch_all [] m moved h = (m, record { made = refl; in_flight = h; jobs = refl })
touch_all (a ∷ accesses) m moved h =
    let one = accessed_is m moved h a in
    let rest = touch_all accesses (after_access m a) moved one.in_flight in
    (rest.0, record { made = one_more (is_moving m.phase) (after (after_access m a) (map Touch accesses)) (ap is_moving h.moving) ∙ rest.1.made; in_flight = rest.1.in_flight; jobs = rest.1.jobs ∙ one.jobs })

-- ---- the jobs

-- from a ticket on, each job is drawn and given
copying : ℕ → List Job → List Event
copying k [] = End ∷ []
copying k (job ∷ jobs) = Draw 0 ∷ Give 0 k ∷ copying (k + 1) jobs

AreGiven : List Job → Type 0
AreGiven jobs = AllByRecursion (λ job. (is_given job.stage ≡ true) × (is_laid job.stage ≡ false)) jobs

AreLaid : List Job → Type 0
AreLaid jobs = AllByRecursion (λ job. is_laid job.stage ≡ true) jobs

some_laid : (xs : List Job) (job : Job) (ys : List Job) → is_laid job.stage ≡ true → list_any (λ (j : Job). is_laid j.stage) (xs ++ job ∷ ys) ≡ true
some_laid [] job ys h = ap (λ b. b || list_any (λ (j : Job). is_laid j.stage) ys) h
some_laid (x ∷ xs) job ys h = ap (λ b. is_laid x.stage || b) (some_laid xs job ys h) ∙ either (is_laid x.stage)
  where
    either : (b : Bool) → (b || true) ≡ true
    either true = refl
    either false = refl

draw_next : (xs : List Job) (job : Job) (ys : List Job) → AreGiven xs → is_laid job.stage ≡ true → draw_job 0 (xs ++ job ∷ ys) ≡ xs ++ record job { stage = InHand 0 } ∷ ys
unfolding AreGiven
draw_next [] job ys g h = ap (λ b. cond b (record job { stage = InHand 0 } ∷ ys) (job ∷ draw_job 0 ys)) h
draw_next (x ∷ xs) job ys g h =
    ap (λ b. cond b (record x { stage = InHand 0 } ∷ (xs ++ job ∷ ys)) (x ∷ draw_job 0 (xs ++ job ∷ ys))) g.0.1
    ∙ ap (λ js. x ∷ js) (draw_next xs job ys g.1 h)

at_ticket : (xs : List Job) (job : Job) (ys : List Job) (k : ℕ) → k ≡ length xs → slice_get (xs ++ job ∷ ys) k ≡ Some job
at_ticket [] job ys k e = ap (slice_get (job ∷ ys)) e
at_ticket (x ∷ xs) job ys k e = ap (slice_get (x ∷ (xs ++ job ∷ ys))) e ∙ at_ticket xs job ys (length xs) refl

give_next : (xs : List Job) (job : Job) (ys : List Job) (k : ℕ) → k ≡ length xs → give_job k (xs ++ job ∷ ys) ≡ xs ++ copy_job job ∷ ys
give_next [] job ys k e = ap (λ n. give_job n (job ∷ ys)) e
give_next (x ∷ xs) job ys k e = ap (λ n. give_job n (x ∷ (xs ++ job ∷ ys))) e ∙ ap (λ js. x ∷ js) (give_next xs job ys (length xs) refl)

more_given : (xs : List Job) (job : Job) → AreGiven xs → AreGiven (xs ++ copy_job job ∷ [])
unfolding AreGiven
more_given [] job g = ((refl, refl), tt)
more_given (x ∷ xs) job g = (g.0, more_given xs job g.1)

all_given : (xs : List Job) → AreGiven xs → list_all (λ (job : Job). is_given job.stage) (xs ++ []) ≡ true
unfolding AreGiven
all_given [] g = refl
all_given (x ∷ xs) g = ap (λ b. b && list_all (λ (job : Job). is_given job.stage) (xs ++ [])) g.0.0 ∙ all_given xs g.1

copy_all : (ys xs : List Job) (m : RunMachine) (k : ℕ) → m.phase ≡ Moving → AreGiven xs → AreLaid ys → k ≡ length xs
    → (n : RunMachine) × (after (record m { jobs = xs ++ ys }) (copying k ys) ≡ Some n) × (n.phase ≡ Ended)
unfolding copying AreLaid
copy_all [] xs m k moving g l e = (
  end_run (record m { jobs = xs ++ [] }),
  one_more _ (Some (end_run (record m { jobs = xs ++ [] }))) (ap (λ p. is_moving p && list_all (λ (job : Job). is_given job.stage) (xs ++ [])) moving ∙ all_given xs g),
  refl,
)
copy_all (job ∷ ys) xs m k moving g l e =
    let taken = record job { stage = InHand 0 } in
    let more : k + 1 ≡ length (xs ++ copy_job taken ∷ []) = omega (arith, e, length-append xs (copy_job taken ∷ [])) in
    let rest = copy_all ys (xs ++ copy_job taken ∷ []) m (k + 1) moving (more_given xs taken g) l.1 more in
    let held : unwrap_or (option_map (λ (j : Job). is_with 0 j.stage) (slice_get (xs ++ taken ∷ ys) k)) false ≡ true = ap (λ o. unwrap_or (option_map (λ (j : Job). is_with 0 j.stage) o) false) (at_ticket xs taken ys k e) in (
      rest.0,
      one_more _ _ (some_laid xs job ys l.0)
          ∙ ap (λ js. after (record m { jobs = js }) (Give 0 k ∷ copying (k + 1) ys)) (draw_next xs job ys g l.0)
          ∙ one_more _ (after (record m { jobs = give_job k (xs ++ taken ∷ ys) }) (copying (k + 1) ys)) held
          ∙ ap (λ js. after (record m { jobs = js }) (copying (k + 1) ys)) (give_next xs taken ys k e ∙ sym (append_assoc xs (copy_job taken ∷ []) ys))
          ∙ rest.1,
      rest.2,
    )

laid_jobs : (buf : Store) (taken : List PageMove) → AreLaid (map (laid_for buf) taken)
unfolding AreLaid
laid_jobs buf [] = tt
laid_jobs buf (t ∷ taken) = (refl, laid_jobs buf taken)

-- ---- the accesses among them

no_access : (k : ℕ) (jobs : List Job) → accesses_in (copying k jobs) ≡ []
unfolding copying
no_access k [] = refl
no_access k (job ∷ jobs) = no_access (k + 1) jobs

accesses_are : (accesses : List Access) (ys : List Event) → accesses_in ys ≡ [] → accesses_in (map Touch accesses ++ ys) ≡ accesses
accesses_are [] ys h = h
accesses_are (a ∷ accesses) ys h = ap (λ xs. a ∷ xs) (accesses_are accesses ys h)

pub every_run_can_end : EveryRunCanEnd
unfolding AreGiven
every_run_can_end m target wanted accesses rest sound alike =
    let k = begin_run m target wanted in
    let first = begun_is m target wanted rest sound alike in
    let touched = touch_all accesses k (map (λ t. t.page) (each_request (state_of m) target wanted).taken) first.in_flight in
    let n = touched.0 in
    let jobs : List Job = map (laid_for m.buf) (plan m target wanted).taken in
    let last = copy_all jobs [] n 0 touched.1.in_flight.moving tt (laid_jobs m.buf (plan m target wanted).taken) refl in
    let events = map Touch accesses ++ copying 0 jobs in
    let leads : after k events ≡ Some last.0 =
    after_both (map Touch accesses) (copying 0 jobs) k n touched.1.made
    ∙ ap (λ js. after (record n { jobs = js }) (copying 0 jobs)) touched.1.jobs ∙ last.1 in (
      events,
      last.0,
      record { rest = rest; sound = sound; alike = alike; leads = one_more (is_ready m.phase) (after k events) (ap is_ready rest.ready) ∙ leads },
      last.2,
      accesses_are accesses (copying 0 jobs) (no_access 0 jobs),
    )
