-- Frames that are taken for a run, and given back where it does not begin.
use Rattle.std.proofs.Common.{◌≡◌, ℕ, ◌<◌, List, [], ◌++◌, length, drop, sym, ap, subst, ◌∙◌}
use Rattle.std.specs.Prelude.{slice_set, slice_index_or}
use Rattle.std.proofs.lemmas.List.{get_or-set_same, set-set, set-get_or, take-append-drop}
use Rattle.nm_types.specs.State.{State, free_list}
use Rattle.nm_types.specs.declared.page_move.PageMove.{PageMove}
use Rattle.nm_spaces.specs.views.AddressSpaces.{AddressSpacesView}
use Rattle.nm_model.specs.definitions.BeforeCopy.{without_fronts, with_fronts, frames_taken}
use Rattle.nm_pool.specs.views.Frames.{FramesView, free_on}
use Rattle.nm_engine.specs.views.RunState.{IsSoundMachine}
use Rattle.nm_laws.specs.Moves.{CanMove}
use Rattle.nm_engine.specs.views.Shown.{shown_by}
use Rattle.nm_model.specs.definitions.Sound.{IsSoundInFlight}
use Rattle.nm_laws.proofs.Early.Fronts.{fronts_sound}
use Rattle.nm_laws.proofs.Early.Phases.{tos_are}

-- the machine is sound with the frames taken
pub taken_kept : (y : AddressSpacesView) (k w : FramesView) (online : List ℕ) (moved failed target : ℕ) (moves : List PageMove) → IsSoundMachine (shown_by y k online moved failed) k.vacated y.frames
    → k.vacated ≡ [] → target < length k.free → CanMove (shown_by y k online moved failed) target moves
    → w ≡ record k { free = slice_set k.free target (drop (length moves) (free_on k target)); vacated = k.vacated ++ frames_taken moves }
    → IsSoundMachine (shown_by y w online moved failed) w.vacated y.frames
taken_kept y k w online moved failed target moves kept none inside can is =
    let s = shown_by y k online moved failed in
    let n = length moves in
    let now : FramesView = record k { free = slice_set k.free target (drop n (free_on k target)); vacated = frames_taken moves } in
    let there : w ≡ now = is ∙ ap (λ (l : List ℕ). record now { vacated = l ++ frames_taken moves }) none in
    let sound = fronts_sound s target n inside (subst (IsSoundInFlight s) none kept.sound) in
    let known = subst (IsSoundInFlight (without_fronts s target n)) (sym (tos_are moves s target inside can)) sound in
    subst (λ (x : FramesView). IsSoundMachine (shown_by y x online moved failed) x.vacated y.frames) (sym there) (record { sound = known; as_many = kept.as_many })

-- frames that are given back are where they were
pub back_again : (s : State) (target : ℕ) (moves : List PageMove) → target < length s.free → CanMove s target moves → with_fronts (without_fronts s target (length moves)) target (frames_taken moves) ≡ s
back_again s target moves inside can =
    let l = free_list s target in
    let n = length moves in
    let rest = drop n l in
    ap (λ (free : List (List ℕ)). record s { free = free }) (
    set-set s.free target rest (frames_taken moves ++ slice_index_or (slice_set s.free target rest) target [])
    ∙ ap (λ (xs : List ℕ). slice_set s.free target xs) (
    ap (λ (xs : List ℕ). frames_taken moves ++ xs) (get_or-set_same s.free target rest [] inside)
    ∙ ap (λ (xs : List ℕ). xs ++ rest) (tos_are moves s target inside can) ∙ take-append-drop n l)
    ∙ set-get_or s.free target [])
