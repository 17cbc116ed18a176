-- What holds for accesses in flight whose touches are all made before a page moves.
use Rattle.std.specs.Prelude.{◌≡◌, ℕ, ◌<◌, List, map, length}
use Rattle.std.specs.List.{AllByRecursion}
use Rattle.nm_types.specs.declared.page.Page.{Page}
use Rattle.nm_types.specs.State.{State}
use Rattle.nm_types.specs.declared.page_move.PageMove.{PageMove}
use Rattle.nm_model.specs.definitions.Touch.{Access, all_in_flight}
use Rattle.nm_laws.specs.Laws.{with_moves}
use Rattle.nm_laws.specs.Moves.{CanMove}
use Rattle.nm_model.specs.definitions.Sound.{IsSound, IsSoundInFlight}
use Rattle.nm_model.specs.definitions.BeforeCopy.{all_before_copy, all_after_copy, without_fronts, with_fronts, frames_taken, IsPending}

-- touching all pages and then reading and writing the bytes is the same as making one access after another
abbrev pub TouchesComeFirst : Type 0
TouchesComeFirst =
    (s : State) (left : List ℕ) (moved : List Page) (accesses : List Access) →
    IsSoundInFlight s left →
    let early = all_before_copy s moved accesses in all_in_flight s moved accesses ≡ all_after_copy early.state early.all_due

-- the touches may also come before the moves, once the run's frames are taken: all that is left to do is inside pages
-- that have a frame and do not move
abbrev pub MovesComeLater : Type 0
MovesComeLater =
    (s : State) (target : ℕ) (taken : List PageMove) (accesses : List Access) →
    IsSound s → target < length s.free → CanMove s target taken →
    let pages = map (λ t. t.page) taken in
    let early = all_before_copy (without_fronts s target (length taken)) pages accesses in
    let back = with_fronts (early.state) target (frames_taken taken) in
    (all_in_flight (with_moves s target taken) pages accesses ≡ all_after_copy (with_moves back target taken) early.all_due)
    × AllByRecursion (IsPending pages (early.state)) early.all_due
