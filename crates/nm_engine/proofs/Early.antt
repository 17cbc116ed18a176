-- What a prepared run has.
use Rattle.std.proofs.Common.{◌≡◌, ◌≤◌, ℕ, List, Vec, map, length, ap, ◌∙◌, arith}
use Rattle.nm_types.specs.State.{State}
use Rattle.nm_types.specs.declared.page_move.PageMove.{PageMove}
use Rattle.nm_model.specs.definitions.BeforeCopy.{all_before_copy, frames_taken}
use Rattle.nm_model.specs.definitions.Touch.{Access}
use Rattle.nm_pool.specs.declared.pending_access.PendingAccess.{PendingAccess as Left}
use Rattle.nm_pool.specs.views.Accesses.{pending_shown}
use Rattle.nm_laws.proofs.Early.Phases.{pages_of, touched_all}
use Rattle.nm_engine.specs.views.Early.{Prepares}
use Rattle.nm_engine.specs.views.RunState.{RunState}

module _ {A : Type 0} (old : RunState) (target : ℕ) (moves : List PageMove) (accesses : List Access) (new : RunState) (all_due : Vec (Left A) A) (h : Prepares old target moves accesses new all_due) where
  -- the state once all touches are made, and what is then left to do
  pub early_state : new.state ≡ (touched_all old.state target moves accesses).state
  early_state = ap (λ (x : RunState). x.state) h.touches.touched ∙ ap (λ (s : State). (all_before_copy s (pages_of moves) accesses).state) h.frames.state

  pub early_dues : map pending_shown all_due.items ≡ (touched_all old.state target moves accesses).all_due
  early_dues = h.touches.all_due ∙ ap (λ (s : State). (all_before_copy s (pages_of moves) accesses).all_due) h.frames.state

  -- the run's frames, and room for those that its pages leave
  pub early_left : new.left ≡ frames_taken moves
  early_left = ap (λ (x : RunState). x.left) h.touches.touched ∙ h.frames.left

  pub early_room : length moves ≤ new.room
  early_room = omega (arith, ap (λ (x : RunState). x.room) h.touches.touched, h.frames.room)
