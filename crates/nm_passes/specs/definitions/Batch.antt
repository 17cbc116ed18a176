-- Batches of pages to move: what is refused, and which accesses are made during them.
use Rattle.std.specs.Prelude.{ℕ, List, map, Option, option_and_then}
use Rattle.nm_types.specs.declared.errno.Errno.{Errno}
use Rattle.nm_types.specs.Layout.{node_count}
use Rattle.nm_types.specs.State.{State}
use Rattle.nm_runs.specs.Targets.{earlier, first_refusal}
use Rattle.nm_passes.specs.definitions.Permission.{owner_of, allowed_at, query_refusal}
use Rattle.std.specs.Prelude.{◌≡◌, ◌<◌, ◌==◌, count_by, [], ◌∷◌, ◌++◌, take, drop, length, slice_index_or, slice_set}
use Rattle.std.specs.declared.vec.IntoIter.{IntoIter}
use Rattle.nm_pool.specs.declared.answers.AccessAnswer.{AccessAnswer as Given}
use Rattle.nm_model.specs.definitions.Touch.{Access, AccessAnswer}
use Rattle.nm_pool.specs.views.Accesses.{answer_shown}
use Rattle.nm_model.specs.definitions.Run.{accesses_of}

-- the refusal of a move: that of a query, or else that of the first node that pages of the process may not go to
abbrev pub move_refusal : State → ℕ → ℕ → List ℕ → ℕ → Option Errno
move_refusal s caller pid nodes flags =
    let of_nodes = λ (allowed : List ℕ). first_refusal (node_count s.layout) s.online allowed nodes in
    earlier (query_refusal s caller pid flags) (option_and_then of_nodes (allowed_at s (owner_of caller pid)))

-- the list at an index, or an empty list if there is none
abbrev pub list_at : {X : Type 0} → List (List X) → ℕ → List X
list_at lists k = slice_index_or lists k []

-- the answers in the order of the accesses, from each run's answers in order: an access has the first answer of its run
-- that no earlier access has. An access of a run that is not made has no answer
abbrev pub answers_in_order : List ℕ → List (List AccessAnswer) → List AccessAnswer
answers_in_order [] answers = []
answers_in_order (run ∷ runs) answers =
    take 1 (list_at answers run) ++ answers_in_order runs (slice_set answers run (drop 1 (list_at answers run)))

-- the same by counting: an access has the answer of its run whose index is the number of earlier accesses that name the
-- run
abbrev pub by_place : List ℕ → List ℕ → List (List AccessAnswer) → List AccessAnswer
by_place before [] answers = []
by_place before (run ∷ runs) answers =
    take 1 (drop (count_by (λ r. r == run) before) (list_at answers run)) ++ by_place (run ∷ before) runs answers

-- these are the lists of the accesses of the first `count` runs
abbrev pub AreByRun : List (List Access) → ℕ → List (ℕ × Access) → Type 0
AreByRun lists count during =
    (length lists ≡ count) × ((k : ℕ) → k < count → list_at lists k ≡ accesses_of k during)

-- the answers of a run that are left
abbrev pub left_shown : {A : Type 0} → IntoIter (Given A) A → List AccessAnswer
left_shown left = map answer_shown left.rest.items
