-- Runs and batches keep a machine sound, accesses in flight included.
use Rattle.std.proofs.Common.{ℕ, ◌+◌, List, [], ◌∷◌, true, false, map, length}
use Rattle.std.specs.Prelude.{if◌then◌else◌}
use Rattle.nm_types.specs.declared.page.Page.{Page}
use Rattle.nm_types.specs.State.{State}
use Rattle.nm_types.specs.declared.request.Wanted.{Wanted}
use Rattle.nm_model.specs.definitions.Cut.{Request, Stretch, cut_within}
use Rattle.nm_model.specs.definitions.Touch.{Access, Held, access, site_of_access, is_held, access_during, all_in_flight}
use Rattle.nm_model.specs.definitions.Run.{each_request, with_all_free, frames_left, failures, run, accesses_of, runs_from, batch}
use Rattle.nm_model.specs.definitions.Sound.{IsSoundInFlight, IsSound}
use Rattle.nm_laws.proofs.Soundness.Moved.{each_sound, freed_sound}
use Rattle.nm_laws.proofs.Soundness.Contents.{counted_sound}
use Rattle.nm_laws.proofs.Soundness.Touched.{access_sound}

pub in_flight_sound : (s : State) (l : List ℕ) (moved : List Page) (a : Access) → IsSoundInFlight s l → IsSoundInFlight (access_during s moved a).state l
in_flight_sound s l moved a h =
    elim (is_held moved (site_of_access s a)) as (λ b. IsSoundInFlight (if b then record { state = s; answer = Held } else access s a).state l) [
      | true ↦ h
      | false ↦ access_sound s l a h
    ]

all_in_flight_sound : (s : State) (l : List ℕ) (moved : List Page) (accesses : List Access) → IsSoundInFlight s l → IsSoundInFlight (all_in_flight s moved accesses).state l
all_in_flight_sound s l moved [] h = h
all_in_flight_sound s l moved (a ∷ accesses) h = all_in_flight_sound (access_during s moved a).state l moved accesses (in_flight_sound s l moved a h)

pub run_sound : (s : State) (target : ℕ) (ws : List Wanted) (accesses : List Access) → IsSound s → IsSound (run s target ws accesses).state
run_sound s target ws accesses h =
    let moves = each_request s target ws in
    let pages = map (λ t. t.page) moves.taken in
    let during = all_in_flight moves.state pages accesses in
    counted_sound (with_all_free during.state (frames_left moves.taken)) [] (length moves.taken) (failures moves.statuses)
    (freed_sound (frames_left moves.taken) during.state (all_in_flight_sound moves.state (frames_left moves.taken) pages accesses (each_sound s [] target ws h)))

runs_sound : (k : ℕ) (s : State) (rs : List Stretch) (accesses : List (ℕ × Access)) → IsSound s → IsSound (runs_from k s rs accesses).state
runs_sound k s [] accesses h = h
runs_sound k s (r ∷ rs) accesses h = runs_sound (k + 1) (run s r.target r.wanted (accesses_of k accesses)).state rs accesses (run_sound s r.target r.wanted (accesses_of k accesses) h)

pub batch_sound : (limit : ℕ) (s : State) (requests : List Request) (accesses : List (ℕ × Access)) → IsSound s → IsSound (batch limit s requests accesses).state
batch_sound limit s requests accesses h = runs_sound 0 s (cut_within limit requests) accesses h
