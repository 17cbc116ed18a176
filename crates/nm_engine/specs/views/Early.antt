-- What is done for a run before it begins: its frames are taken, and the accesses during it are touched.
use Rattle.std.specs.Prelude.{◌≡◌, ℕ, ◌≤◌, List, map, length, vec_len}
use Rattle.std.specs.List.{AllByRecursion}
use Rattle.std.specs.declared.vec.Vec.{Vec}
use Rattle.nm_types.specs.declared.page.Page.{Page}
use Rattle.nm_types.specs.declared.page_move.PageMove.{PageMove}
use Rattle.nm_model.specs.definitions.BeforeCopy.{all_before_copy, before_copy, frames_taken, without_fronts}
use Rattle.nm_model.specs.definitions.Touch.{Access}
use Rattle.nm_pool.specs.declared.pending_access.PendingAccess.{PendingAccess as Left}
use Rattle.nm_pool.specs.views.Accesses.{HasRoom, pending_shown}
use Rattle.nm_engine.specs.views.RunState.{RunState, with_state}

-- the run has the frames that these moves take from a node, and room for those that its pages leave
pub record TakesFrames (old : RunState) (target : ℕ) (moves : List PageMove) (new : RunState) : Type 0 where
  pub state : new.state ≡ without_fronts old.state target (length moves)
  pub left : new.left ≡ frames_taken moves
  pub room : length moves ≤ new.room

module _ {A : Type 0} where
  -- the touch of an access is made, and nothing else; this is left to do for it
  pub record TouchesEarly (old : RunState) (moving : List Page) (a : Access) (new : RunState) (left : Left A) : Type 0 where
    pub touched : new ≡ with_state old ((before_copy old.state moving a).state)
    pub due : pending_shown left ≡ (before_copy old.state moving a).due
    pub room : HasRoom left

  -- so are those of accesses, one after another
  pub record TouchesEach (old : RunState) (moving : List Page) (accesses : List Access) (new : RunState)
      (left : Vec (Left A) A) : Type 0 where
    pub touched : new ≡ with_state old ((all_before_copy old.state moving accesses).state)
    pub all_due : map pending_shown left.items ≡ (all_before_copy old.state moving accesses).all_due
    pub room : AllByRecursion HasRoom left.items
    pub len : vec_len left ≡ length accesses

  -- a run of these moves to a node is prepared: first its frames are taken, and then the accesses are touched
  pub record Prepares (old : RunState) (target : ℕ) (moves : List PageMove) (accesses : List Access) (new : RunState)
      (all_due : Vec (Left A) A) : Type 0 where
    pub between : RunState
    pub frames : TakesFrames old target moves between
    pub touches : TouchesEach between (map (λ t. t.page) moves) accesses new all_due
