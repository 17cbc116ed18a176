-- The answers to accesses in flight go by place.
use Rattle.std.proofs.Common.{arith, ⊎_elim, ◌≡◌, ℕ, ◌+◌, ◌<◌, Bool, true, false, cond, List, [], ◌∷◌, ◌++◌, length, take, drop, refl, sym, ap, ◌∙◌}
use Rattle.std.specs.Prelude.{◌==◌, count_by, slice_set}
use Rattle.std.proofs.lemmas.Bool.{cases_lt, eqb-true}
use Rattle.std.proofs.lemmas.List.{get_or-set_same, get_or-set_other, get_or_past, set_past, drop-drop}
use Rattle.std.proofs.lemmas.List.Sums.{sum_by-cons}
use Rattle.nm_model.specs.definitions.Touch.{AccessAnswer}
use Rattle.nm_passes.specs.definitions.Batch.{list_at, answers_in_order, by_place}
use Rattle.nm_calls.specs.laws.Calls.{AnswersGoByPlace}
use Rattle.nm_passes.proofs.Accesses.Loops.{differ}

pub one_more : (k run : ℕ) (before : List ℕ) (b : Bool) → (run == k) ≡ b → count_by (λ r. r == k) (run ∷ before) ≡ cond b 1 0 + count_by (λ r. r == k) before
one_more k run before b h = sum_by-cons (λ r. cond (r == k) 1 0) run before ∙ ap (λ b. cond b 1 0 + count_by (λ r. r == k) before) h

-- once its front is given, the rest of a list is there
pub shorter : (left : List (List AccessAnswer)) (run : ℕ) → list_at (slice_set left run (drop 1 (list_at left run))) run ≡ drop 1 (list_at left run)
shorter left run =
    let rest = drop 1 (list_at left run) in
    ⊎_elim
    (λ (there : run < length left). get_or-set_same left run rest [] there)
    (λ past.
    let none : list_at left run ≡ [] = get_or_past left run [] past in
    ap (λ ls. list_at ls run) (set_past left run rest past) ∙ none ∙ sym (ap (drop 1) none))
    (cases_lt run (length left))

module _ (answers : List (List AccessAnswer)) where
  -- of each run's answers those are left that were not given
  abbrev IsLeft : List ℕ → List (List AccessAnswer) → Type 0
  IsLeft before left = (k : ℕ) → list_at left k ≡ drop (count_by (λ r. r == k) before) (list_at answers k)

  next_left : (before : List ℕ) (left : List (List AccessAnswer)) (run k : ℕ) (b : Bool) → (run == k) ≡ b → IsLeft before left
      → list_at (slice_set left run (drop 1 (list_at left run))) k ≡ drop (count_by (λ r. r == k) (run ∷ before)) (list_at answers k)
  next_left before left run k true h is =
      let e : run ≡ k = eqb-true run k h in
      let earlier = count_by (λ r. r == k) before in
      let n : earlier + 1 ≡ count_by (λ r. r == k) (run ∷ before) = let m = one_more k run before true h in omega (arith, m) in
      ap (λ j. list_at (slice_set left run (drop 1 (list_at left run))) j) (sym e) ∙ shorter left run
      ∙ ap (λ j. drop 1 (list_at left j)) e ∙ ap (drop 1) (is k) ∙ drop-drop 1 earlier (list_at answers k) ∙ ap (λ n. drop n (list_at answers k)) n
  next_left before left run k false h is =
      let earlier = count_by (λ r. r == k) before in
      let n : earlier ≡ count_by (λ r. r == k) (run ∷ before) = let m = one_more k run before false h in omega (arith, m) in
      get_or-set_other left run k (drop 1 (list_at left run)) [] (differ k run h) ∙ is k ∙ ap (λ n. drop n (list_at answers k)) n

  goes : (runs before : List ℕ) (left : List (List AccessAnswer)) → IsLeft before left → answers_in_order runs left ≡ by_place before runs answers
  goes [] before left is = refl
  goes (run ∷ runs) before left is =
      ap (λ l. take 1 l ++ answers_in_order runs (slice_set left run (drop 1 (list_at left run)))) (is run)
      ∙ ap (λ l. take 1 (drop (count_by (λ r. r == run) before) (list_at answers run)) ++ l)
      (goes runs (run ∷ before) (slice_set left run (drop 1 (list_at left run))) (λ k. next_left before left run k (run == k) refl is))

pub answers_go_by_place : AnswersGoByPlace
answers_go_by_place runs answers = goes answers runs [] answers (λ k. refl)
