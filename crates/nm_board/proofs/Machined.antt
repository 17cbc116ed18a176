-- The steps of a board are the events of the run machine.
use Rattle.std.proofs.Common.{◌≡◌, ◌≢◌, ℕ, zero, suc, ◌+◌, ◌<◌, ◌≤◌, true, false, cond, List, [], ◌∷◌, length, Option, Some, sym, refl, ap, subst, ◌∙◌, arith}
use Rattle.std.specs.Prelude.{slice_get}
use Rattle.std.proofs.Math.Decide.{dec_lt}
use Rattle.nm_types.proofs.Cases.{none_some, some_is}
use Rattle.atomic_table.specs.Table.{Step}
use Rattle.nm_frames.specs.declared.job.CopyJob.{CopyJob}
use Rattle.nm_model.specs.definitions.Events.{is_laid, draw_job, give_job, copy_job}
use Rattle.nm_model.specs.definitions.RunMachine.{Job, Stage, Laid, InHand, Given}
use Rattle.nm_board.specs.Rule.{IsBoardRule}
use Rattle.nm_board.specs.Steps.{Mine, Draws}
use Rattle.nm_board.specs.Stages.{Moment, next_of, IsAt, Turns, Stays, MakesStep, Shows, DrawIsTheMachines, GiveIsTheMachines}
use Rattle.nm_board.proofs.Staged.{one_stage, draw_takes, late_takes, give_returns}

laid_is : (stage : Stage) → is_laid stage ≡ true → stage ≡ Laid
laid_is Laid h = refl
laid_is (InHand w) h = cc
laid_is Given h = cc

laid_not : (stage : Stage) → is_laid stage ≡ false → stage ≡ Laid → ⊥
laid_not Laid h e = cc
laid_not (InHand w) h e = cc
laid_not Given h e = cc

length_drawn : (w : ℕ) (js : List Job) → length (draw_job w js) ≡ length js
length_drawn w [] = refl
length_drawn w (j ∷ js) = elim (is_laid j.stage) as (λ b. length (cond b (record j { stage = InHand w } ∷ js) (j ∷ draw_job w js)) ≡ suc (length js)) [ true ↦ refl | false ↦ ap suc (length_drawn w js) ]

length_given : (t : ℕ) (js : List Job) → length (give_job t js) ≡ length js
length_given zero [] = refl
length_given (suc t) [] = refl
length_given zero (j ∷ js) = refl
length_given (suc t) (j ∷ js) = ap suc (length_given t js)

module _ {A : Type 0} where
  -- the jobs from number k on
  abbrev From : Moment A → ℕ → List Job → Type 0
  From s k js = (t : ℕ) (job : Job) → slice_get js t ≡ Some job → IsAt s (k + t) job.stage

  nothing_from : (s : Moment A) (k : ℕ) → From s k []
  nothing_from s k t job e = absurd (none_some e)

  rest_from : (s : Moment A) (k : ℕ) (j : Job) (js : List Job) → From s k (j ∷ js) → From s (k + 1) js
  rest_from s k j js h t job e = subst (λ n. IsAt s n job.stage) (omega arith) (h (suc t) job e)

  here_from : (s : Moment A) (k : ℕ) (j : Job) (js : List Job) → From s k (j ∷ js) → IsAt s k j.stage
  here_from s k j js h = subst (λ n. IsAt s n j.stage) (omega arith) (h zero j refl)

  put_from : (s : Moment A) (k : ℕ) (j : Job) (js : List Job) → IsAt s k j.stage → From s (k + 1) js → From s k (j ∷ js)
  put_from s k j js here later zero job e = subst (λ n. IsAt s n job.stage) (omega arith) (subst (λ (x : Job). IsAt s k x.stage) (some_is e) here)
  put_from s k j js here later (suc t) job e = subst (λ n. IsAt s n job.stage) (omega arith) (later t job e)

  -- jobs that all stay at their stages
  all_stay : (old new : Moment A) (js : List Job) (k n : ℕ) → ((u : ℕ) (stage : Stage) → u ≢ n → IsAt old u stage → IsAt new u stage) → n < k → From old k js → From new k js
  all_stay old new js k n others below h t job e = others (k + t) job.stage (λ q. omega (arith, q, below)) (h t job e)

  module _ (jobs : List (CopyJob A)) (hand : ℕ) (old new : Moment A) (kept : IsBoardRule jobs old) (lt : next_of old < length jobs) (turns : Turns old new (next_of old) Laid (InHand hand)) where
    first_is_laid : (stage : Stage) → IsAt old (next_of old) stage → stage ≡ Laid
    first_is_laid stage at = let one = one_stage jobs old kept (next_of old) lt in one.2 stage at ∙ sym (one.2 Laid turns.was)

    draw_from : (js : List Job) (k : ℕ) → k ≤ next_of old → From old k js → From new k (draw_job hand js)
    draw_from [] k le h = nothing_from new k
    draw_from (j ∷ js) k le h =
        elim (is_laid j.stage) as (λ b. is_laid j.stage ≡ b → From new k (cond b (record j { stage = InHand hand } ∷ js) (j ∷ draw_job hand js))) [
          | true ↦ λ b.
              let at : next_of old ≤ k = subst (IsAt old k) (laid_is j.stage b) (here_from old k j js h) in
              let is : next_of old ≡ k = omega (arith, at, le) in
              put_from new k (record j { stage = InHand hand }) js (subst (λ n. IsAt new n (InHand hand)) is turns.is)
              (all_stay old new js (k + 1) (next_of old) turns.others (omega (arith, le)) (rest_from old k j js h))
          | false ↦ λ b.
              let at : IsAt old k j.stage = here_from old k j js h in
              let apart : k ≢ next_of old = λ e. laid_not j.stage b (first_is_laid j.stage (subst (λ n. IsAt old n j.stage) e at)) in
              put_from new k j (draw_job hand js) (turns.others k j.stage apart at) (draw_from js (k + 1) (omega (arith, le, apart)) (rest_from old k j js h))
        ] refl

  module _ (jobs : List (CopyJob A)) (hand : ℕ) (old new : Moment A) (stays : Stays jobs old new) (none : length jobs ≤ next_of old) where
    late_from : (js : List Job) (k : ℕ) → k + length js ≤ length jobs → From old k js → From new k (draw_job hand js)
    late_from [] k le h = nothing_from new k
    late_from (j ∷ js) k le h =
        elim (is_laid j.stage) as (λ b. is_laid j.stage ≡ b → From new k (cond b (record j { stage = InHand hand } ∷ js) (j ∷ draw_job hand js))) [
          | true ↦ λ b.
              let at : next_of old ≤ k = subst (IsAt old k) (laid_is j.stage b) (here_from old k j js h) in
              absurd (omega (arith, at, le, none))
          | false ↦ λ b.
              put_from new k j (draw_job hand js) (stays k j.stage (omega (arith, le)) (here_from old k j js h))
              (late_from js (k + 1) (omega (arith, le)) (rest_from old k j js h))
        ] refl

  give_from : (old new : Moment A) (n : ℕ) → ((u : ℕ) (stage : Stage) → u ≢ n → IsAt old u stage → IsAt new u stage) → IsAt new n Given
      → (js : List Job) (k t : ℕ) → k + t ≡ n → From old k js → From new k (give_job t js)
  give_from old new n others is [] k t e h = nothing_from new k
  give_from old new n others is (j ∷ js) k zero e h =
      put_from new k (copy_job j) js (subst (λ n. IsAt new n Given) (omega (arith, e)) is) (all_stay old new js (k + 1) n others (omega (arith, e)) (rest_from old k j js h))
  give_from old new n others is (j ∷ js) k (suc t) e h =
      put_from new k j (give_job t js) (others k j.stage (λ q. omega (arith, e, q)) (here_from old k j js h))
      (give_from old new n others is js (k + 1) t (omega (arith, e)) (rest_from old k j js h))

  from_start : (jobs : List (CopyJob A)) (s : Moment A) (js : List Job) → Shows jobs s js → From s 0 js
  from_start jobs s js h t job e = subst (λ n. IsAt s n job.stage) (omega arith) (h.stages t job e)

  shows_from : (jobs : List (CopyJob A)) (s : Moment A) (js : List Job) → length js ≡ length jobs → From s 0 js → Shows jobs s js
  shows_from jobs s js many h = record { as_many = many; stages = λ t job e. subst (λ n. IsAt s n job.stage) (omega arith) (h t job e) }

  drawn_from : (jobs : List (CopyJob A)) (hand : ℕ) (old new : Moment A) (me now : Mine A) (s : Step (Option (CopyJob A))) (shown : List Job)
      → MakesStep jobs hand 0 (next_of old + 1) old new me now → Draws s me (next_of old) now → Shows jobs old shown → Dec (next_of old < length jobs) → From new 0 (draw_job hand shown)
  drawn_from jobs hand old new me now s shown m told h (yes lt) =
      draw_from jobs hand old new m.kept lt (draw_takes jobs hand old new me now s m told lt).0 shown 0 (omega arith) (from_start jobs old shown h)
  drawn_from jobs hand old new me now s shown m told h (no ge) =
      let none : length jobs ≤ next_of old = omega (arith, ge) in
      late_from jobs hand old new (late_takes jobs hand old new me now s m told none) none shown 0 (omega (arith, h.as_many)) (from_start jobs old shown h)

  pub draw_is : DrawIsTheMachines A
  draw_is jobs hand old new me now s shown m told h =
      shows_from jobs new (draw_job hand shown) (length_drawn hand shown ∙ h.as_many) (drawn_from jobs hand old new me now s shown m told h (dec_lt (next_of old) (length jobs)))

  pub give_is : GiveIsTheMachines A
  give_is jobs hand t job old new me now s shown m told top h =
      let turns = give_returns jobs hand t job old new me now s m told top in
      shows_from jobs new (give_job t shown) (length_given t shown ∙ h.as_many) (give_from old new t turns.others turns.is shown 0 t (omega arith) (from_start jobs old shown h))
