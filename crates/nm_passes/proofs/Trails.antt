-- The states between runs: each is that after the runs before it.
use Rattle.std.proofs.Common.{arith, ◌≡◌, ℕ, zero, suc, ◌+◌, ◌≤◌, List, [], ◌∷◌, length, take, refl, slice_index_or}
use Rattle.nm_types.specs.State.{State}
use Rattle.nm_model.specs.definitions.Cut.{Stretch}
use Rattle.nm_model.specs.definitions.Touch.{Access}
use Rattle.nm_model.specs.definitions.Run.{run, accesses_of, runs_from}
use Rattle.nm_passes.specs.definitions.Moves.{states_from}

-- .. whatever the number of the first of them
pub states_are : (k : ℕ) (s : State) (rs : List Stretch) (during : List (ℕ × Access)) (n : ℕ) (d : State) → n ≤ length rs → slice_index_or (states_from k s rs during) n d ≡ (runs_from k s (take n rs) during).state
states_are k s [] during zero d h = refl
states_are k s [] during (suc n) d h = absurd (omega (arith, h))
states_are k s (r ∷ rs) during zero d h = refl
states_are k s (r ∷ rs) during (suc n) d h = states_are (k + 1) (run s r.target r.wanted (accesses_of k during)).state rs during n d (omega (arith, h))

-- before the first run it is the state as it was
pub first_state : (s : State) (rs : List Stretch) (during : List (ℕ × Access)) → s ≡ slice_index_or (states_from 0 s rs during) 0 s
first_state s [] during = refl
first_state s (r ∷ rs) during = refl
