-- The run machine while pages are on their way: what its events make of it is what the engine's run shows.
use Rattle.std.proofs.Common.{◌≡◌, ℕ, ℤ, List, [], ◌∷◌, ◌++◌, true, map, length, refl, sym, ap, subst, ◌∙◌}
use Rattle.std.specs.Prelude.{Option, Some}
use Rattle.std.specs.Option.{option_map}
use Rattle.std.specs.List.{list_all}
use Rattle.std.proofs.lemmas.List.{length-map}
use Rattle.nm_types.specs.State.{State}
use Rattle.nm_types.specs.declared.entry.Entry.{Entry}
use Rattle.nm_types.specs.declared.page.Page.{Page}
use Rattle.nm_types.specs.declared.request.Wanted.{Wanted}
use Rattle.nm_types.specs.declared.page_move.PageMove.{PageMove}
use Rattle.nm_frames.specs.declared.job.CopyJob.{CopyJob}
use Rattle.nm_model.specs.definitions.Accesses.{after_access}
use Rattle.nm_model.specs.definitions.BeforeCopy.{PendingAccess, after_copy, all_after_copy, answer_after_copy}
use Rattle.nm_model.specs.definitions.Decide.{RunPlan}
use Rattle.nm_model.specs.definitions.Events.{Event, accesses_in, after, begin_run, end_run, is_given}
use Rattle.nm_model.specs.definitions.Frames.{Store}
use Rattle.nm_model.specs.definitions.Run.{HasOneAll, each_request, failures, frames_left, with_all_free, with_counts}
use Rattle.nm_model.specs.definitions.RunMachine.{RunMachine, Job, Moving, state_of}
use Rattle.nm_model.specs.definitions.Seen.{sight_at}
use Rattle.nm_model.specs.definitions.Sound.{IsSound}
use Rattle.nm_model.specs.definitions.Touch.{Access, AccessAnswer, AccessResults, AccessResult, all_in_flight, access_during}
use Rattle.nm_laws.specs.Interleavings.{IsAtRest}
use Rattle.nm_laws.specs.Laws.{with_moves}
use Rattle.nm_laws.specs.Moves.{IsPlanOf}
use Rattle.nm_laws.proofs.InFlight.Accessing.{accessed_is}
use Rattle.nm_laws.proofs.InFlight.Beginning.{begun_is}
use Rattle.nm_laws.proofs.InFlight.Ending.{ended_is}
use Rattle.nm_laws.proofs.InFlight.Entries.{entry_is}
use Rattle.nm_laws.proofs.InFlight.Orders.{flies}
use Rattle.nm_laws.specs.InFlight.{IsInFlight, frames_of_job, entry_in_flight, sources}
use Rattle.nm_pool.specs.definitions.AfterCopy.{CanDo, all_stored_after_copy, answer_from_store, store_after_copy}
use Rattle.nm_engine.specs.views.Flights.{Flight, AreOutIn, HoldsMovingPages, IsFlightOf, state_in_flight, with_store}
use Rattle.nm_engine.proofs.InFlight.Flights.{answers_then, state_then}

abbrev pub pages_of : List PageMove → List Page
pages_of moves = map (λ t. t.page) moves

-- the frames that pages leave are the first ends of their jobs
first_ends : (jobs : List Job) → sources jobs ≡ map (λ (e : ℕ × ℕ). e.0) (map frames_of_job jobs)
first_ends [] = refl
first_ends (job ∷ jobs) = ap (λ fs. job.source.0 ∷ fs) (first_ends jobs)

left_first : (moves : List PageMove) → map (λ (e : ℕ × ℕ). e.0) (map (λ (t : PageMove). (t.from, t.to)) moves) ≡ frames_left moves
left_first [] = refl
left_first (t ∷ moves) = ap (λ fs. t.from ∷ fs) (left_first moves)

module _ {A : Type 0} (x : Flight) (jobs : List (CopyJob A)) where
  -- a run machine that is read as the run, and whose jobs are its moves, has its entries
  pub at_moment : (n : RunMachine) → HoldsMovingPages x → IsInFlight n (pages_of x.moves) → state_of n ≡ state_in_flight x jobs → map frames_of_job n.jobs ≡ map (λ t. (t.from, t.to)) x.moves → IsFlightOf n x jobs
  at_moment n holds in_flight state ends = record {
    in_flight = in_flight;
    state = state;
    entries = λ pid v. entry_is n (pages_of x.moves) in_flight pid v ∙ ap (λ (s : State). option_map (entry_in_flight s.place (pages_of x.moves)) (sight_at s pid v)) state ∙ sym (holds pid v);
    ends = ends;
  }

module _ {A : Type 0} (m : RunMachine) (x : Flight) (jobs : List (CopyJob A)) where
  -- a run begins: its plan's moves are those that are on their way
  pub begins : (target : ℕ) (wanted : List Wanted) (p : RunPlan) → HoldsMovingPages x
      → IsAtRest m → IsSound (state_of m) → HasOneAll wanted → IsPlanOf (state_of m) target wanted p → p.taken ≡ x.moves
      → state_in_flight x jobs ≡ with_moves (state_of m) target x.moves → IsFlightOf (begin_run m target wanted) x jobs
  begins target wanted p holds rest sound alike plan taken shows =
      let b = begun_is m target wanted rest sound alike in
      let moves : (each_request (state_of m) target wanted).taken ≡ x.moves = plan.agrees.taken ∙ taken in
      at_moment x jobs (begin_run m target wanted) holds (subst (λ (ts : List PageMove). IsInFlight (begin_run m target wanted) (pages_of ts)) moves b.in_flight)
      (b.state ∙ plan.agrees.state ∙ ap (with_moves (state_of m) target) taken ∙ sym shows)
      (b.ends ∙ ap (map (λ (t : PageMove). (t.from, t.to))) moves)

  -- events of which none ends the run change bytes alone
  stays : (n : RunMachine) (store : Store) (given : List (CopyJob A)) → IsFlightOf m x jobs → IsInFlight n (pages_of x.moves) → state_of n ≡ state_in_flight (with_store x store) given → map frames_of_job n.jobs ≡ map frames_of_job m.jobs → IsFlightOf n (with_store x store) given
  stays n store given now in_flight state ends =
      let entry : State → ℕ → ℕ → Option Entry = λ s pid v. option_map (entry_in_flight s.place (pages_of x.moves)) (sight_at s pid v) in
      record {
        in_flight = in_flight;
        state = state;
        entries = λ pid v.
            entry_is n (pages_of x.moves) in_flight pid v ∙ ap (λ (s : State). entry s pid v) state ∙ ap (λ (s : State). entry s pid v) (sym now.state)
            ∙ sym (entry_is m (pages_of x.moves) now.in_flight pid v) ∙ now.entries pid v;
        ends = ends ∙ now.ends;
      }

  -- an access that does what is left to do, and whatever the code returns for it
  pub makes : (a : Access) (d : PendingAccess) (y : Flight) (answer : AccessAnswer) → y ≡ with_store x (store_after_copy x.spaces.place x.frames.frames d) → answer ≡ answer_from_store x.spaces.place x.frames.frames d
      → AreOutIn x jobs → IsFlightOf m x jobs → CanDo x.spaces.place x.frames.frames d → access_during (state_of m) (pages_of x.moves) a ≡ record { state = after_copy (state_of m) d; answer = answer_after_copy (state_of m) d }
      → IsFlightOf (after_access m a) y jobs × ((after_access m a).answers ≡ m.answers ++ answer ∷ [])
  makes a d y answer is told out now can done =
      let made = accessed_is m (pages_of x.moves) now.in_flight a in
      let same : access_during (state_of m) (pages_of x.moves) a ≡ record { state = after_copy (state_in_flight x jobs) d; answer = answer_after_copy (state_in_flight x jobs) d } = done ∙ ap (λ (s : State). record { state = after_copy s d; answer = answer_after_copy s d }) now.state in
      let state = made.state ∙ ap (λ (z : AccessResult). z.state) same ∙ sym (state_then x jobs (d ∷ []) out (can, tt)) in (
        subst (λ (z : Flight). IsFlightOf (after_access m a) z jobs) (sym is) (stays (after_access m a) (store_after_copy x.spaces.place x.frames.frames d) jobs now made.in_flight state (ap (map frames_of_job) made.jobs)),
        made.answers ∙ ap (λ (z : AccessResult). m.answers ++ z.answer ∷ []) same ∙ ap (λ answers. m.answers ++ answers) (sym (answers_then x jobs (d ∷ []) out (can, tt))) ∙ ap (λ z. m.answers ++ z ∷ []) (sym told),
      )

  -- jobs are drawn and given back, and accesses are made
  pub flies_so : (n : RunMachine) (events : List Event) (all_due : List PendingAccess) (y : Flight) (given : List (CopyJob A)) (answers : List AccessAnswer) → y ≡ with_store x (all_stored_after_copy x.spaces.place x.frames.frames all_due).store
      → state_in_flight y given ≡ (all_after_copy (state_in_flight x jobs) all_due).state → answers ≡ (all_after_copy (state_in_flight x jobs) all_due).answers
      → IsFlightOf m x jobs → after m events ≡ Some n → n.phase ≡ Moving → all_in_flight (state_of m) (pages_of x.moves) (accesses_in events) ≡ all_after_copy (state_of m) all_due
      → IsFlightOf n y given × (n.answers ≡ m.answers ++ answers)
  flies_so n events all_due y given answers is shows told now leads on done =
      let store = (all_stored_after_copy x.spaces.place x.frames.frames all_due).store in
      let landed = flies events m n (pages_of x.moves) now.in_flight leads on in
      let same = done ∙ ap (λ (s : State). all_after_copy s all_due) now.state in
      let state = landed.state ∙ ap (λ (z : AccessResults). z.state) same ∙ sym shows ∙ ap (λ (z : Flight). state_in_flight z given) is in (
        subst (λ (z : Flight). IsFlightOf n z given) (sym is) (stays n store given now landed.in_flight state landed.ends),
        landed.answers ∙ ap (λ (z : AccessResults). m.answers ++ z.answers) same ∙ ap (λ zs. m.answers ++ zs) (sym told),
      )

  -- the run ends
  pub ends : (statuses : List ℤ) → IsFlightOf m x jobs → list_all (λ (job : Job). is_given job.stage) m.jobs ≡ true → m.statuses ≡ statuses
      → state_of (end_run m) ≡ with_counts (with_all_free (state_in_flight x jobs) (frames_left x.moves)) (length x.moves) (failures statuses)
  ends statuses now all told =
      let left = first_ends m.jobs ∙ ap (map (λ (e : ℕ × ℕ). e.0)) now.ends ∙ left_first x.moves in
      let count : length m.jobs ≡ length x.moves = sym (length-map m.jobs (λ (job : Job). job.source.0)) ∙ ap length left ∙ length-map x.moves (λ (t : PageMove). t.from) in
      ended_is m (pages_of x.moves) now.in_flight all
      ∙ (λ i. with_counts (with_all_free (now.state i) (left i)) (count i) (failures (told i)))
