-- How far the runs of a batch have come.
use Rattle.std.proofs.Common.{arith, ◌≡◌, ℕ, suc, ℤ, ◌+◌, ◌<◌, ◌≤◌, List, [], ◌∷◌, ◌++◌, length, take, refl, sym, ap, ◌∙◌, append_assoc}
use Rattle.std.proofs.lemmas.Grind.{common_steps}
use Rattle.std.proofs.lemmas.List.Sums.{sum_by-cons}
use Rattle.std.specs.List.{sum_by}
use Rattle.std.specs.Prelude.{◌-◌}
use Rattle.nm_types.specs.State.{State}
use Rattle.nm_runs.specs.declared.Run.{Run}
use Rattle.nm_model.specs.definitions.Cut.{Stretch}
use Rattle.nm_runs.specs.Stretches.{stretches_of}
use Rattle.nm_model.specs.definitions.Touch.{Access, AccessAnswer}
use Rattle.nm_model.specs.definitions.Run.{run}
use Rattle.nm_model.specs.definitions.Run.{accesses_of, runs_from}
use Rattle.nm_passes.proofs.Accesses.Loops.{append_none}

-- k runs of a batch are made, each with its accesses, and these are left
pub record HaveRun (start : State) (all left : List Stretch) (during : List (ℕ × Access)) (k : ℕ) (s : State) (statuses : List ℤ) (answers : List (List AccessAnswer)) : Type 0 where
  pub counted : k + length left ≡ length all
  pub statuses_are : statuses ++ (runs_from k s left during).statuses ≡ (runs_from 0 start all during).statuses
  pub answers_are : answers ++ (runs_from k s left during).answers ≡ (runs_from 0 start all during).answers
  pub state_is : (runs_from k s left during).state ≡ (runs_from 0 start all during).state
  pub front_is : (n : ℕ) → (runs_from k s (take n left) during).state ≡ (runs_from 0 start (take (k + n) all) during).state

pub none_run : (start : State) (all left : List Stretch) (during : List (ℕ × Access)) (k : ℕ) (statuses : List ℤ) (answers : List (List AccessAnswer)) → left ≡ all → k ≡ 0 → statuses ≡ [] → answers ≡ [] → HaveRun start all left during k start statuses answers
none_run start all left during k statuses answers hl hk hs ha = rw hl (rw hk (rw hs (rw ha (record { counted = omega arith; statuses_are = refl; answers_are = refl; state_is = refl; front_is = λ n. ap (λ j. (runs_from 0 start (take j all) during).state) (omega arith) }))))

pub one_more_run : (start : State) (all left : List Stretch) (during : List (ℕ × Access)) (k : ℕ) (s : State) (statuses : List ℤ) (answers : List (List AccessAnswer)) (r : Stretch) (rest : List Stretch) → left ≡ r ∷ rest → HaveRun start all left during k s statuses answers
    → let now = run s r.target r.wanted (accesses_of k during) in HaveRun start all rest during (k + 1) now.state (statuses ++ now.statuses) (answers ++ now.answers)
one_more_run start all left during k s statuses answers r rest e h =
    let now = run s r.target r.wanted (accesses_of k during) in
    let count : length left ≡ suc (length rest) = ap length e in
    let then = runs_from (k + 1) now.state rest during in
    record {
      counted = omega (arith, count, h.counted);
      statuses_are = append_assoc statuses now.statuses then.statuses ∙ ap (λ l. statuses ++ (runs_from k s l during).statuses) (sym e) ∙ h.statuses_are;
      answers_are = append_assoc answers now.answers then.answers ∙ ap (λ l. answers ++ (runs_from k s l during).answers) (sym e) ∙ h.answers_are;
      state_is = ap (λ l. (runs_from k s l during).state) (sym e) ∙ h.state_is;
      front_is = λ n. ap (λ l. (runs_from k s (take (suc n) l) during).state) (sym e) ∙ h.front_is (suc n) ∙ ap (λ j. (runs_from 0 start (take j all) during).state) (omega arith);
    }

-- where nothing is left
pub all_run : (start : State) (all left : List Stretch) (during : List (ℕ × Access)) (k : ℕ) (s : State) (statuses : List ℤ) (answers : List (List AccessAnswer)) → left ≡ [] → HaveRun start all left during k s statuses answers
    → let made = runs_from 0 start all during in (statuses ≡ made.statuses) × (answers ≡ made.answers) × (s ≡ made.state)
all_run start all left during k s statuses answers e h = (
  sym (append_none statuses) ∙ ap (λ l. statuses ++ (runs_from k s l during).statuses) (sym e) ∙ h.statuses_are,
  sym (append_none answers) ∙ ap (λ l. answers ++ (runs_from k s l during).answers) (sym e) ∙ h.answers_are,
  ap (λ l. (runs_from k s l during).state) (sym e) ∙ h.state_is,
)

-- the state after the first `k` runs
pub some_run : (start : State) (all left : List Stretch) (during : List (ℕ × Access)) (k : ℕ) (s : State) (statuses : List ℤ) (answers : List (List AccessAnswer)) → HaveRun start all left during k s statuses answers → s ≡ (runs_from 0 start (take k all) during).state
some_run start all left during k s statuses answers h = h.front_is 0 ∙ ap (λ j. (runs_from 0 start (take j all) during).state) (omega arith)

-- before the last of them
pub not_last : {A : Type 0} (runs : List (Run A)) (k : ℕ) → k < length runs → k ≤ length (stretches_of runs) - 1
not_last runs k lt =
    let n : length (stretches_of runs) ≡ length runs = grind (arith, common_steps) in
    omega (arith, lt, n)

-- how many requests the first one has, and those after it
pub entries_left : {A : Type 0} (runs rest : List (Run A)) (run : Run A) → runs ≡ run ∷ rest → sum_by (λ (r : Run A). length r.wanted.items) runs ≡ length run.wanted.items + sum_by (λ (r : Run A). length r.wanted.items) rest
entries_left runs rest run e = ap (λ rs. sum_by (λ r. length r.wanted.items) rs) e ∙ sum_by-cons (λ r. length r.wanted.items) run rest
