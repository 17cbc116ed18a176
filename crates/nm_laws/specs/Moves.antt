-- The moves of a run, as its plan has them.
use Rattle.std.specs.Prelude.{◌≡◌, ◌≢◌, ℕ, List, [], ◌∷◌, Some, map, slice_get}
use Rattle.nm_types.specs.Layout.{node_of}
use Rattle.nm_types.specs.Map.{get, page_cmp}
use Rattle.nm_types.specs.State.{State, free_list}
use Rattle.nm_types.specs.declared.page_move.PageMove.{PageMove}
use Rattle.nm_model.specs.definitions.Decide.{RunPlan, plan_run}
use Rattle.nm_types.specs.declared.request.Wanted.{Wanted}
use Rattle.nm_model.specs.definitions.Status.{status_or_move}
use Rattle.nm_model.specs.definitions.Run.{each_request}
use Rattle.nm_laws.specs.Laws.{Agrees, with_move}

-- each of these pages in turn leaves its frame, which is on another node, for the front frame of the target
abbrev pub CanMove : State → ℕ → List PageMove → Type 0
CanMove s target [] = Unit {0}
CanMove s target (t ∷ taken) =
    (get page_cmp s.place t.page ≡ Some t.from) × (slice_get (free_list s target) 0 ≡ Some t.to)
    × (node_of s.layout t.from ≢ target) × CanMove (with_move target s t) target taken

-- the plan of requests from their classes at the start, which gives what deciding them one after another does
pub record IsPlanOf (s : State) (target : ℕ) (ws : List Wanted) (p : RunPlan) : Type 0 where
  pub planned : p ≡ plan_run (map (status_or_move s target) ws) (free_list s target) target
  pub agrees : Agrees s target (each_request s target ws) (record { statuses = p.statuses; taken = p.taken })
  pub can : CanMove s target p.taken
