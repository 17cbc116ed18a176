-- A run by its plan, with accesses, is the run.
use Rattle.std.proofs.Common.{◌≡◌, ℕ, ℤ, List, [], ◌∷◌, map, length, sym, ap, ◌∙◌}
use Rattle.std.proofs.lemmas.List.{length-map}
use Rattle.nm_types.specs.State.{State}
use Rattle.nm_types.specs.declared.request.Wanted.{Wanted}
use Rattle.nm_types.specs.declared.page_move.PageMove.{PageMove}
use Rattle.nm_model.specs.definitions.Decide.{RunPlan}
use Rattle.nm_model.specs.definitions.Touch.{Access, AccessAnswer, AccessResults, all_in_flight}
use Rattle.nm_laws.specs.Laws.{with_moves}
use Rattle.nm_laws.specs.Moves.{IsPlanOf}
use Rattle.nm_model.specs.definitions.Run.{each_request, frames_left, run, with_counts, with_all_free, failures}

module _ (s : State) (target : ℕ) (ws : List Wanted) (p : RunPlan) (moves : List PageMove) (accesses : List Access) (during : AccessResults) (h : IsPlanOf s target ws p) (taken : moves ≡ p.taken)
    (flight : all_in_flight (with_moves s target moves) (map (λ t. t.page) moves) accesses ≡ during) where
  same : moves ≡ (each_request s target ws).taken
  same = taken ∙ sym h.agrees.taken

  -- what the accesses of the run make of the state, and their answers
  landed : during ≡ all_in_flight (each_request s target ws).state (map (λ t. t.page) (each_request s target ws).taken) accesses
  landed =
      sym flight
      ∙ ap (λ (x : State). all_in_flight x (map (λ t. t.page) moves) accesses) (ap (with_moves s target) taken ∙ sym h.agrees.state)
      ∙ ap (λ (ts : List PageMove). all_in_flight (each_request s target ws).state (map (λ t. t.page) ts) accesses) same

  pub run_state : (t : State) (l : List ℕ) (statuses : List ℤ) → t ≡ during.state → l ≡ frames_left moves → statuses ≡ p.statuses
      → with_counts (with_all_free t l) (length l) (failures statuses) ≡ (run s target ws accesses).state
  run_state t l statuses is kept told =
      let now = each_request s target ws in
      let end : AccessResults = all_in_flight now.state (map (λ t. t.page) now.taken) accesses in
      ap (λ (u : State). with_counts (with_all_free u l) (length l) (failures statuses)) (is ∙ ap (λ (x : AccessResults). x.state) landed)
      ∙ ap (λ (xs : List ℕ). with_counts (with_all_free end.state xs) (length xs) (failures statuses)) (kept ∙ ap (λ (ts : List PageMove). frames_left ts) same)
      ∙ ap (λ n. with_counts (with_all_free end.state (frames_left now.taken)) n (failures statuses)) (length-map now.taken (λ (t : PageMove). t.from))
      ∙ ap (λ (ss : List ℤ). with_counts (with_all_free end.state (frames_left now.taken)) (length now.taken) (failures ss)) (told ∙ sym h.agrees.statuses)

  pub run_answers : (answers : List AccessAnswer) → answers ≡ during.answers → answers ∷ [] ≡ (run s target ws accesses).answers
  run_answers answers is = ap (λ (xs : List AccessAnswer). xs ∷ []) (is ∙ ap (λ (x : AccessResults). x.answers) landed)

  pub run_statuses : (statuses : List ℤ) → statuses ≡ p.statuses → statuses ≡ (run s target ws accesses).statuses
  run_statuses statuses told = told ∙ sym h.agrees.statuses
