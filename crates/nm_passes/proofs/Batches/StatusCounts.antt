-- How many statuses a run gives, which keeps the nodes, and how many of them are of failed requests.
use Rattle.std.proofs.Common.{◌≡◌, ℕ, ℤ, suc, Bool, true, false, ◌+◌, ◌≤◌, ◌||◌, List, [], ◌∷◌, ◌++◌, length, length-append, map, Option, Some, None, Result, Ok, Err, refl, sym, ap, ◌∙◌}
use Rattle.std.specs.Prelude.{◌/◌, ◌%◌, if◌then◌else◌}
use Rattle.std.specs.List.{filter}
use Rattle.std.specs.Ordering.{int_eq}
use Rattle.std.proofs.lemmas.List.Elements.{filter-append}
use Rattle.std.proofs.lemmas.List.Sums.{length-filter, count_by-le-length}
use Rattle.nm_types.specs.declared.errno.Errno.{Errno}
use Rattle.nm_types.specs.declared.errno.Errno.TheVariants.{Ebusy, Enomem}
use Rattle.nm_types.specs.declared.sight.Sight.{Sight}
use Rattle.nm_types.specs.declared.sight.Sight.TheVariants.{ZeroPage, Sees}
use Rattle.nm_types.specs.declared.page.Page.{Page}
use Rattle.nm_types.specs.State.{State}
use Rattle.nm_types.specs.declared.request.Wanted.{Wanted}
use Rattle.nm_model.specs.definitions.Status.{code}
use Rattle.nm_model.specs.definitions.Seen.{sight_at}
use Rattle.nm_model.specs.definitions.Touch.{Access, Read, Write, Held, AccessResult, access, touch, read_after, write_after, with_bytes}
use Rattle.nm_model.specs.definitions.Touch.{is_held, site_of_access, access_during, all_in_flight}
use Rattle.nm_laws.proofs.Early.Seen.{Shows, touch_shows}
use Rattle.nm_model.specs.definitions.Run.{one_request, each_request, run, with_free, with_all_free, frames_left, failures}
use Rattle.nm_laws.proofs.Seen.Rewritten.{requests_keep}

-- whether a status is that of a failed request
abbrev is_failure : ℤ → Bool
is_failure status = int_eq status (code Ebusy) || int_eq status (code Enomem)

-- the failures of two lists in a row
pub failures-append : (xs ys : List ℤ) → failures (xs ++ ys) ≡ failures xs + failures ys
failures-append xs ys =
    let both = sym (length-filter is_failure (xs ++ ys)) ∙ ap length (filter-append is_failure xs ys) ∙ length-append (filter is_failure xs) (filter is_failure ys) in
    both ∙ (λ i. length-filter is_failure xs i + length-filter is_failure ys i)

pub failures-le-length : (xs : List ℤ) → failures xs ≤ length xs
failures-le-length xs = count_by-le-length is_failure xs

each_length : (s : State) (target : ℕ) (ws : List Wanted) → length (each_request s target ws).statuses ≡ length ws
each_length s target [] = refl
each_length s target (w ∷ ws) = ap suc (each_length (one_request s target w).state target ws)

-- a run gives a status for each request
pub run_length : (s : State) (target : ℕ) (ws : List Wanted) (accesses : List Access) → length (run s target ws accesses).statuses ≡ length ws
run_length s target ws accesses = each_length s target ws

pub each_layout : (s : State) (target : ℕ) (ws : List Wanted) → (each_request s target ws).state.layout ≡ s.layout
each_layout = requests_keep (λ s. s.layout) (λ s target page from frame rest. refl)

freed_layout : (s : State) (frames : List ℕ) → (with_all_free s frames).layout ≡ s.layout
freed_layout s [] = refl
freed_layout s (frame ∷ frames) = freed_layout (with_free s frame) frames

with_bytes_layout : (s : State) (o : Option Sight) (i : ℕ) (new : List ℕ) → (with_bytes s o i new).layout ≡ s.layout
with_bytes_layout s None i new = refl
with_bytes_layout s (Some ZeroPage) i new = refl
with_bytes_layout s (Some (Sees page)) i new = refl

read_layout : (s : State) (pid address len : ℕ) (r : Result State Errno) → Shows s pid (address / 4096) r → (read_after s pid address len r).state.layout ≡ s.layout
unfolding Shows
read_layout s pid address len (Err e) shows = refl
read_layout s pid address len (Ok t) shows = shows.2

write_layout : (s : State) (pid address : ℕ) (new : List ℕ) (r : Result State Errno) → Shows s pid (address / 4096) r → (write_after s pid address new r).state.layout ≡ s.layout
unfolding Shows
write_layout s pid address new (Err e) shows = refl
write_layout s pid address new (Ok t) shows = with_bytes_layout t (sight_at t pid (address / 4096)) (address % 4096) new ∙ shows.2

access_layout : (s : State) (a : Access) → (access s a).state.layout ≡ s.layout
access_layout s (Read pid address len) = read_layout s pid address len (touch s pid address len false) (touch_shows s pid address len false)
access_layout s (Write pid address new) = write_layout s pid address new (touch s pid address (length new) true) (touch_shows s pid address (length new) true)

abbrev state_of : AccessResult → State
state_of a = a.state

-- accesses in flight keep the nodes
flight_layout : (moved : List Page) (accesses : List Access) (s : State) → (all_in_flight s moved accesses).state.layout ≡ s.layout
flight_layout moved [] s = refl
flight_layout moved (a ∷ accesses) s =
    flight_layout moved accesses (access_during s moved a).state
    ∙ elim (is_held moved (site_of_access s a)) as (λ b. (state_of (if b then record { state = s; answer = Held } else access s a)).layout ≡ s.layout) [ true ↦ refl | false ↦ access_layout s a ]

-- a run keeps the nodes
pub run_layout : (s : State) (target : ℕ) (ws : List Wanted) (accesses : List Access) → (run s target ws accesses).state.layout ≡ s.layout
run_layout s target ws accesses =
    let moves = each_request s target ws in
    let moved = map (λ t. t.page) moves.taken in
    freed_layout (all_in_flight moves.state moved accesses).state (frames_left moves.taken) ∙ flight_layout moved accesses moves.state ∙ each_layout s target ws
