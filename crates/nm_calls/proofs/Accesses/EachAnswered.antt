-- Each access in flight of a run that is made is answered.
use Rattle.std.proofs.Common.{arith, ◌≡◌, ℕ, zero, suc, ◌+◌, ◌<◌, Bool, true, false, cond, List, [], ◌∷◌, length, length-append, length-take, length-drop, map, take, drop, refl, sym, ap, subst, ◌∙◌, ℤ}
use Rattle.std.specs.Prelude.{◌==◌, count_by, slice_set, Option, Some, None}
use Rattle.std.specs.List.{AllByRecursion}
use Rattle.std.proofs.lemmas.Bool.{eqb-true, eq-eqb}
use Rattle.std.proofs.lemmas.List.{get_or-set_other, length-map, length-set}
use Rattle.nm_types.specs.declared.errno.Errno.{Errno}
use Rattle.nm_types.specs.declared.page.Page.{Page}
use Rattle.nm_types.specs.State.{State}
use Rattle.nm_model.specs.definitions.Cut.{Stretch}
use Rattle.nm_model.specs.definitions.Touch.{Access, AccessAnswer}
use Rattle.nm_model.specs.definitions.Touch.{access_during, all_in_flight}
use Rattle.nm_model.specs.definitions.Run.{each_request, run}
use Rattle.nm_model.specs.definitions.Run.{accesses_of, runs_from}
use Rattle.nm_requests.specs.Calls.{Call, MovePages}
use Rattle.nm_calls.specs.definitions.Answers.{Answer, Statuses}
use Rattle.std.specs.Map.{keys_of}
use Rattle.nm_passes.specs.definitions.Batch.{list_at, answers_in_order}
use Rattle.nm_calls.specs.definitions.Systems.{SystemState}
use Rattle.nm_calls.specs.definitions.Outcome.{refusal_of, start, runs_asked, accesses_asked, end_of_call, unless}
use Rattle.nm_calls.specs.laws.Calls.{EachAccessIsAnswered}
use Rattle.nm_passes.proofs.Accesses.Loops.{first_asked, differ}
use Rattle.nm_calls.proofs.Accesses.ByPlace.{one_more, shorter}
use Rattle.nm_calls.proofs.Trails.{runs_unless}

all_length : (s : State) (moved : List Page) (accesses : List Access) → length (all_in_flight s moved accesses).answers ≡ length accesses
all_length s moved [] = refl
all_length s moved (a ∷ accesses) = ap suc (all_length (access_during s moved a).state moved accesses)

-- there are answers for each run ..
runs_count : (k : ℕ) (s : State) (rs : List Stretch) (accesses : List (ℕ × Access)) → length (runs_from k s rs accesses).answers ≡ length rs
runs_count k s [] accesses = refl
runs_count k s (r ∷ rs) accesses = ap suc (runs_count (k + 1) (run s r.target r.wanted (accesses_of k accesses)).state rs accesses)

-- .. as many as it has accesses
each_has : (k : ℕ) (s : State) (rs : List Stretch) (accesses : List (ℕ × Access)) (j : ℕ) → j < length rs → length (list_at (runs_from k s rs accesses).answers j) ≡ length (accesses_of (k + j) accesses)
each_has k s [] accesses j lt = absurd (omega (arith, lt))
each_has k s (r ∷ rs) accesses zero lt =
    let moves = each_request s r.target r.wanted in
    let here : k ≡ k + 0 = omega arith in
    all_length moves.state (map (λ t. t.page) moves.taken) (accesses_of k accesses) ∙ ap (λ n. length (accesses_of n accesses)) here
each_has k s (r ∷ rs) accesses (suc j) lt =
    let there : (k + 1) + j ≡ k + suc j = omega arith in
    each_has (k + 1) (run s r.target r.wanted (accesses_of k accesses)).state rs accesses j (omega (arith, lt)) ∙ ap (λ n. length (accesses_of n accesses)) there

one_or_none : (b : Bool) (a : Access) (rest : List Access) → length (cond b (a ∷ rest) rest) ≡ cond b 1 0 + length rest
one_or_none true a rest = omega arith
one_or_none false a rest = omega arith

-- a run has as many accesses as name it
named_count : (k : ℕ) (during : List (ℕ × Access)) → length (accesses_of k during) ≡ count_by (λ r. r == k) (keys_of during)
named_count k [] = refl
named_count k ((run, a) ∷ rest) =
    ap length (first_asked k run a rest (run == k) refl)
    ∙ (one_or_none (run == k) a (accesses_of k rest)
    ∙ (ap (λ n. cond (run == k) 1 0 + n) (named_count k rest)
    ∙ sym (one_more k run (keys_of rest) (run == k) refl)))

-- answers that are as many for each run as accesses name it
abbrev IsEnough : List (List AccessAnswer) → List ℕ → Type 0
IsEnough left runs = (k : ℕ) → k < length left → length (list_at left k) ≡ count_by (λ r. r == k) runs

still_enough : (left : List (List AccessAnswer)) (run : ℕ) (runs : List ℕ) (k : ℕ) (b : Bool) → (run == k) ≡ b → IsEnough left (run ∷ runs) → k < length left
    → length (list_at (slice_set left run (drop 1 (list_at left run))) k) ≡ count_by (λ r. r == k) runs
still_enough left run runs k true h enough lt =
    let e : run ≡ k = eqb-true run k h in
    let now : list_at (slice_set left run (drop 1 (list_at left run))) k ≡ drop 1 (list_at left k) =
    ap (λ j. list_at (slice_set left run (drop 1 (list_at left run))) j) (sym e) ∙ shorter left run ∙ ap (λ j. drop 1 (list_at left j)) e in
    let many = enough k lt in
    let more = one_more k run runs true h in
    ap length now ∙ omega (arith, length-drop 1 (list_at left k), many, more)
still_enough left run runs k false h enough lt =
    let many = enough k lt in
    let more = one_more k run runs false h in
    ap length (get_or-set_other left run k (drop 1 (list_at left run)) [] (differ k run h)) ∙ omega (arith, many, more)

all_few : (n m : ℕ) (runs : List ℕ) → n ≡ m → AllByRecursion (λ r. r < n) runs → AllByRecursion (λ r. r < m) runs
all_few n m runs same few = subst (λ n. AllByRecursion (λ r. r < n) runs) same few

all_given : (runs : List ℕ) (left : List (List AccessAnswer)) → IsEnough left runs → AllByRecursion (λ r. r < length left) runs → length (answers_in_order runs left) ≡ length runs
all_given [] left enough few = refl
all_given (run ∷ runs) left enough few =
    let front = list_at left run in
    let next = slice_set left run (drop 1 front) in
    let size : length next ≡ length left = length-set left run (drop 1 front) in
    let many = enough run few.0 in
    let more = one_more run run runs true (eq-eqb run run refl) in
    let rest = all_given runs next
    (λ k lt. still_enough left run runs k (run == k) refl enough (omega (arith, lt, size)))
    (all_few (length left) (length next) runs (sym size) few.1) in
    length-append (take 1 front) (answers_in_order runs next) ∙ omega (arith, length-take 1 front, many, more, rest)

plus_zero : (k : ℕ) → 0 + k ≡ k
plus_zero k = omega arith

listed : Answer → List AccessAnswer
listed (Statuses failed statuses answers) = answers
listed answer = []

module _ (y : SystemState) (caller pid : ℕ) (pages nodes : List ℕ) (flags : ℕ) (during : List (ℕ × Access)) where
  abbrev asks : Call
  asks = MovePages caller pid pages nodes flags during

  answered : (o : Option Errno) (failed : ℕ) (statuses : List ℤ) (answers : List AccessAnswer)
      → AllByRecursion (λ run. run < length (runs_unless o (runs_asked y asks))) (keys_of during)
      → (unless o y (end_of_call y asks (runs_from 0 (start y asks) (runs_asked y asks) (accesses_asked asks)))).answer ≡ Statuses failed statuses answers
      → length answers ≡ length during
  unfolding end_of_call start runs_asked accesses_asked listed
  answered (Some e) failed statuses answers few is = cc
  answered None failed statuses answers few is =
      let runs = runs_asked y asks in
      let made = runs_from 0 y.state runs during in
      let size : length made.answers ≡ length runs = runs_count 0 y.state runs during in
      sym (ap (λ answer. length (listed answer)) is)
      ∙ (all_given (keys_of during) made.answers
      (λ k lt. each_has 0 y.state runs during k (omega (arith, lt, size)) ∙ named_count (0 + k) during ∙ ap (λ n. count_by (λ r. r == n) (keys_of during)) (plus_zero k))
      (all_few (length runs) (length made.answers) (keys_of during) (sym size) few)
      ∙ length-map during (λ (d : ℕ × Access). d.0))

pub each_access_is_answered : EachAccessIsAnswered
each_access_is_answered y caller pid pages nodes flags during failed statuses answers few is =
    answered y caller pid pages nodes flags during (refusal_of y.state (MovePages caller pid pages nodes flags during)) failed statuses answers few is
