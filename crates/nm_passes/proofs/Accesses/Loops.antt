-- What the loops over accesses in flight keep.
use Rattle.std.proofs.Common.{arith, ◌≡◌, ℕ, zero, suc, ◌<◌, ◌≤◌, Bool, true, false, cond, List, [], ◌∷◌, ◌++◌, length, map, take, drop, refl, sym, ap, ◌∙◌, append_assoc, slice_index_or}
use Rattle.std.specs.Prelude.{◌==◌, slice_set}
use Rattle.std.specs.List.{filter}
use Rattle.std.proofs.lemmas.Bool.{eqb-true, eq-eqb}
use Rattle.std.proofs.lemmas.List.{get_or-set_same, get_or-set_other, set_past, get_or_past, get_or-map, map-set}
use Rattle.nm_types.proofs.Cases.{true_false}
use Rattle.nm_model.specs.definitions.Touch.{Access, AccessAnswer}
use Rattle.nm_model.specs.definitions.Run.{accesses_of}
use Rattle.nm_passes.specs.definitions.Batch.{list_at, answers_in_order}

-- one access before others
pub first_asked : (k run : ℕ) (a : Access) (rest : List (ℕ × Access)) (b : Bool) → (run == k) ≡ b → accesses_of k ((run, a) ∷ rest) ≡ cond b (a ∷ accesses_of k rest) (accesses_of k rest)
first_asked k run a rest true h = ap (λ b. map (λ (d : ℕ × Access). d.1) (cond b ((run, a) ∷ filter (λ d. d.0 == k) rest) (filter (λ d. d.0 == k) rest))) h
first_asked k run a rest false h = ap (λ b. map (λ (d : ℕ × Access). d.1) (cond b ((run, a) ∷ filter (λ d. d.0 == k) rest) (filter (λ d. d.0 == k) rest))) h

pub differ : (k run : ℕ) → (run == k) ≡ false → k ≡ run → ⊥
differ k run h e = true_false (sym (eq-eqb run k (sym e)) ∙ h)

-- a list with one element more is still the one at its place, and the others stay
module _ (lists : List (List Access)) (rest all : List (ℕ × Access)) (run : ℕ) (a : Access) (k : ℕ) where
  by_sameness : (b : Bool) → (run == k) ≡ b → run < length lists → list_at lists k ++ accesses_of k ((run, a) ∷ rest) ≡ accesses_of k all
      → list_at (slice_set lists run (list_at lists run ++ a ∷ [])) k ++ accesses_of k rest ≡ accesses_of k all
  by_sameness true h lt is =
      let e : run ≡ k = eqb-true run k h in
      let new = list_at lists run ++ a ∷ [] in
      let here : list_at (slice_set lists run new) k ≡ list_at lists k ++ a ∷ [] =
      ap (λ j. list_at (slice_set lists run new) j) (sym e) ∙ get_or-set_same lists run new [] lt ∙ ap (λ j. list_at lists j ++ a ∷ []) e in
      ap (λ l. l ++ accesses_of k rest) here ∙ append_assoc (list_at lists k) (a ∷ []) (accesses_of k rest)
      ∙ ap (λ l. list_at lists k ++ l) (sym (first_asked k run a rest true h)) ∙ is
  by_sameness false h lt is =
      let new = list_at lists run ++ a ∷ [] in
      ap (λ l. l ++ accesses_of k rest) (get_or-set_other lists run k new [] (differ k run h))
      ∙ ap (λ l. list_at lists k ++ l) (sym (first_asked k run a rest false h)) ∙ is

  -- an access goes to the list of its run
  pub one_more_asked : run < length lists → list_at lists k ++ accesses_of k ((run, a) ∷ rest) ≡ accesses_of k all
      → list_at (slice_set lists run (list_at lists run ++ a ∷ [])) k ++ accesses_of k rest ≡ accesses_of k all
  one_more_asked = by_sameness (run == k) refl

  -- an access of a run that is not there goes to none
  pub none_asked : k < length lists → length lists ≤ run → list_at lists k ++ accesses_of k ((run, a) ∷ rest) ≡ accesses_of k all → list_at lists k ++ accesses_of k rest ≡ accesses_of k all
  none_asked few past is = ap (λ l. list_at lists k ++ l) (sym (first_asked k run a rest false (apart (run == k) refl))) ∙ is
    where
      apart : (b : Bool) → (run == k) ≡ b → (run == k) ≡ false
      apart false h = h
      apart true h = let e : run ≡ k = eqb-true run k h in absurd (omega (arith, e, few, past))

pub append_none : {X : Type 0} (xs : List X) → xs ++ [] ≡ xs
append_none [] = refl
append_none (x ∷ xs) = ap (λ l. x ∷ l) (append_none xs)

-- the answers that were given, and those of the other accesses by what is left, are all of them
module _ (given : List AccessAnswer) (left : List (List AccessAnswer)) (run : ℕ) (runs : List ℕ) (all : List AccessAnswer) where
  next_given : given ++ answers_in_order (run ∷ runs) left ≡ all → (given ++ take 1 (list_at left run)) ++ answers_in_order runs (slice_set left run (drop 1 (list_at left run))) ≡ all
  next_given is = append_assoc given (take 1 (list_at left run)) (answers_in_order runs (slice_set left run (drop 1 (list_at left run)))) ∙ is

  -- an access of a run that was not made
  pub unmade_given : length left ≤ run → given ++ answers_in_order (run ∷ runs) left ≡ all → given ++ answers_in_order runs left ≡ all
  unmade_given past is =
      let none : list_at left run ≡ [] = get_or_past left run [] past in
      sym (ap (λ l. (given ++ take 1 l) ++ answers_in_order runs (slice_set left run (drop 1 l))) none
      ∙ ap (λ l. l ++ answers_in_order runs (slice_set left run [])) (append_none given)
      ∙ ap (λ ls. given ++ answers_in_order runs ls) (set_past left run [] past)) ∙ next_given is

  -- an access of a run whose answers are all given
  pub none_given : (left' : List (List AccessAnswer)) → list_at left run ≡ [] → left' ≡ slice_set left run [] → given ++ answers_in_order (run ∷ runs) left ≡ all → given ++ answers_in_order runs left' ≡ all
  none_given left' none is' is =
      ap (λ ls. given ++ answers_in_order runs ls) is'
      ∙ sym (ap (λ l. (given ++ take 1 l) ++ answers_in_order runs (slice_set left run (drop 1 l))) none
      ∙ ap (λ l. l ++ answers_in_order runs (slice_set left run [])) (append_none given)) ∙ next_given is

  -- the next answer of its run
  pub one_given : (given' : List AccessAnswer) (left' : List (List AccessAnswer)) (x : AccessAnswer) (xs : List AccessAnswer) → list_at left run ≡ x ∷ xs → given' ≡ given ++ x ∷ [] → left' ≡ slice_set left run xs
      → given ++ answers_in_order (run ∷ runs) left ≡ all → given' ++ answers_in_order runs left' ≡ all
  one_given given' left' x xs some given_is left_is is =
      ap (λ l. l ++ answers_in_order runs left') given_is ∙ ap (λ ls. (given ++ x ∷ []) ++ answers_in_order runs ls) left_is
      ∙ sym (ap (λ l. (given ++ take 1 l) ++ answers_in_order runs (slice_set left run (drop 1 l))) some) ∙ next_given is

-- lists as they are seen
module _ {X Y : Type 0} (shown : X → List Y) (xs : List X) where
  -- the one at a place
  pub list_there : (k : ℕ) (x : X) → k < length xs → x ≡ slice_index_or xs k x → list_at (map shown xs) k ≡ shown x
  list_there k x lt is = get_or-map shown xs k x [] lt ∙ ap shown (sym is)

  -- another one is there
  pub list_after : (after : List X) (k : ℕ) (x : X) → after ≡ slice_set xs k x → map shown after ≡ slice_set (map shown xs) k (shown x)
  list_after after k x is = ap (map shown) is ∙ map-set shown xs k x

-- one more empty list
pub empty_more : {X : Type 0} (lists : List (List X)) → ((k : ℕ) → list_at lists k ≡ []) → (k : ℕ) → list_at (lists ++ [] ∷ []) k ≡ []
empty_more [] h zero = refl
empty_more [] h (suc k) = refl
empty_more (l ∷ ls) h zero = h 0
empty_more (l ∷ ls) h (suc k) = empty_more ls (λ j. h (suc j)) k
