-- Where accesses are made while pages move, each byte is that of the last write made there, or else the same as before.
use Rattle.std.proofs.Common.{◌≡◌, ℕ, ◌+◌, ◌/◌, ◌%◌, List, [], ◌∷◌, true, false, refl, ap, ◌∙◌, length, map}
use Rattle.std.specs.Prelude.{Option, Some, None, Result, Ok, Err, if◌then◌else◌}
use Rattle.nm_types.specs.declared.errno.Errno.{Errno}
use Rattle.nm_types.specs.declared.page.Page.{Page}
use Rattle.nm_types.specs.declared.sight.Sight.{Sight}
use Rattle.nm_types.specs.declared.sight.Sight.TheVariants.{ZeroPage, Sees}
use Rattle.nm_types.specs.State.{State, free_list}
use Rattle.nm_types.specs.declared.request.Class.{Class}
use Rattle.nm_types.specs.declared.request.Class.TheVariants.{Status, Move}
use Rattle.nm_types.specs.declared.request.Wanted.{Wanted}
use Rattle.nm_model.specs.definitions.Status.{status_or_move}
use Rattle.nm_model.specs.definitions.Seen.{sight_at}
use Rattle.nm_model.specs.definitions.Cut.{Stretch}
use Rattle.nm_model.specs.definitions.Memory.{mem}
use Rattle.nm_model.specs.definitions.Touch.{Access, Read, Write, AccessAnswer, Done, Held, touch, read_after, with_bytes, write_after, access}
use Rattle.nm_model.specs.definitions.Touch.{site_of_access, is_held, access_during, all_in_flight}
use Rattle.nm_model.specs.definitions.Run.{moved_page, decision, one_request, each_request, with_free, with_all_free, frames_left, run}
use Rattle.nm_model.specs.definitions.Run.{accesses_of, runs_from}
use Rattle.nm_laws.specs.Laws.{byte_after_access, all_written, runs_written, RunKeepsMemory, RunsKeepMemory}
use Rattle.nm_model.specs.definitions.Sound.{IsSoundInFlight, IsSound}
use Rattle.nm_laws.proofs.Early.Seen.{touch_areas}
use Rattle.nm_laws.proofs.OneByOne.Memory.{each_keeps, frees_keep}
use Rattle.nm_laws.proofs.Seen.Written.{writing_is_exact}
use Rattle.nm_laws.proofs.Soundness.Moved.{each_sound}
use Rattle.nm_laws.proofs.Soundness.Ran.{in_flight_sound, run_sound}
use Rattle.nm_laws.proofs.Soundness.Touched.{reading_keeps}

-- ---- areas stay

-- what stays where one page moves stays where a list of requests is made
module _ {X : Type 0} (of : State → X) (stays : (s : State) (target : ℕ) (page : Page) (from frame : ℕ) (rest : List ℕ) → of (moved_page s target page from (frame ∷ rest)).state ≡ of s) where
  moved_keeps : (s : State) (target : ℕ) (page : Page) (from : ℕ) (front : List ℕ) → of (moved_page s target page from front).state ≡ of s
  moved_keeps s target page from [] = refl
  moved_keeps s target page from (frame ∷ rest) = stays s target page from frame rest

  decided_keeps : (s : State) (target : ℕ) (c : Class) → of (decision s target c).state ≡ of s
  decided_keeps s target (Status status) = refl
  decided_keeps s target (Move page from) = moved_keeps s target page from (free_list s target)

  pub requests_keep : (s : State) (target : ℕ) (ws : List Wanted) → of (each_request s target ws).state ≡ of s
  requests_keep s target [] = refl
  requests_keep s target (w ∷ ws) = requests_keep (one_request s target w).state target ws ∙ decided_keeps s target (status_or_move s target w)

each_areas : (s : State) (target : ℕ) (ws : List Wanted) → (each_request s target ws).state.areas ≡ s.areas
each_areas = requests_keep (λ s. s.areas) (λ s target page from frame rest. refl)

freed_areas : (frames : List ℕ) (s : State) → (with_all_free s frames).areas ≡ s.areas
freed_areas [] s = refl
freed_areas (frame ∷ frames) s = freed_areas frames (with_free s frame)

read_areas : (s : State) (pid address len : ℕ) (r : Result State Errno) → ((t : State) → r ≡ Ok t → t.areas ≡ s.areas) → (read_after s pid address len r).state.areas ≡ s.areas
read_areas s pid address len (Err e) stay = refl
read_areas s pid address len (Ok t) stay = stay t refl

bytes_areas : (t : State) (o : Option Sight) (i : ℕ) (new : List ℕ) → (with_bytes t o i new).areas ≡ t.areas
bytes_areas t None i new = refl
bytes_areas t (Some ZeroPage) i new = refl
bytes_areas t (Some (Sees page)) i new = refl

write_areas : (s : State) (pid address : ℕ) (new : List ℕ) (r : Result State Errno) → ((t : State) → r ≡ Ok t → t.areas ≡ s.areas) → (write_after s pid address new r).state.areas ≡ s.areas
write_areas s pid address new (Err e) stay = refl
write_areas s pid address new (Ok t) stay = bytes_areas t (sight_at t pid (address / 4096)) (address % 4096) new ∙ stay t refl

access_areas : (s : State) (a : Access) → (access s a).state.areas ≡ s.areas
access_areas s (Read pid address len) = read_areas s pid address len (touch s pid address len false) (λ t. touch_areas s t pid address len false)
access_areas s (Write pid address new) = write_areas s pid address new (touch s pid address (length new) true) (λ t. touch_areas s t pid address (length new) true)

flight_areas : (s : State) (moved : List Page) (a : Access) → (access_during s moved a).state.areas ≡ s.areas
flight_areas s moved a =
    elim (is_held moved (site_of_access s a)) as (λ b. (if b then record { state = s; answer = Held } else access s a).state.areas ≡ s.areas) [
      | true ↦ refl
      | false ↦ access_areas s a
    ]

flights_areas : (s : State) (moved : List Page) (accesses : List Access) → (all_in_flight s moved accesses).state.areas ≡ s.areas
flights_areas s moved [] = refl
flights_areas s moved (a ∷ accesses) = flights_areas (access_during s moved a).state moved accesses ∙ flight_areas s moved a

-- ---- the byte of a process at an address

module _ (q at : ℕ) where
  read_writes : (s : State) (pid address len : ℕ) (r : Result State Errno) → mem (read_after s pid address len r).state q at ≡ mem s q at → mem (read_after s pid address len r).state q at ≡ byte_after_access s.areas q at (mem s q at) (Read pid address len) (read_after s pid address len r).answer
  read_writes s pid address len (Err e) stays = stays
  read_writes s pid address len (Ok t) stays = stays

  write_writes : (s : State) (pid address : ℕ) (new : List ℕ) (r : Result State Errno)
      → ((write_after s pid address new r).answer ≡ Done → mem (write_after s pid address new r).state q at ≡ byte_after_access s.areas q at (mem s q at) (Write pid address new) Done)
      → mem (write_after s pid address new r).state q at ≡ byte_after_access s.areas q at (mem s q at) (Write pid address new) (write_after s pid address new r).answer
  write_writes s pid address new (Err e) exact = refl
  write_writes s pid address new (Ok t) exact = exact refl

  access_writes : (s : State) (l : List ℕ) (a : Access) → IsSoundInFlight s l → mem (access s a).state q at ≡ byte_after_access s.areas q at (mem s q at) a (access s a).answer
  access_writes s l (Read pid address len) h = read_writes s pid address len (touch s pid address len false) (reading_keeps s l pid address len h q at)
  access_writes s l (Write pid address new) h = write_writes s pid address new (touch s pid address (length new) true) (writing_is_exact s l pid address new q at h)

  held_writes : (s : State) (a : Access) → mem s q at ≡ byte_after_access s.areas q at (mem s q at) a Held
  held_writes s (Read pid address len) = refl
  held_writes s (Write pid address new) = refl

  flight_writes : (s : State) (l : List ℕ) (moved : List Page) (a : Access) → IsSoundInFlight s l → mem (access_during s moved a).state q at ≡ byte_after_access s.areas q at (mem s q at) a (access_during s moved a).answer
  flight_writes s l moved a h =
      elim (is_held moved (site_of_access s a)) as (λ b. let now = if b then record { state = s; answer = Held } else access s a in mem now.state q at ≡ byte_after_access s.areas q at (mem s q at) a now.answer) [
        | true ↦ held_writes s a
        | false ↦ access_writes s l a h
      ]

  flights_write : (s : State) (l : List ℕ) (moved : List Page) (accesses : List Access) → IsSoundInFlight s l → mem (all_in_flight s moved accesses).state q at ≡ all_written s.areas q at (mem s q at) accesses (all_in_flight s moved accesses).answers
  flights_write s l moved [] h = refl
  flights_write s l moved (a ∷ accesses) h =
      let now = access_during s moved a in
      let rest = all_in_flight now.state moved accesses in
      flights_write now.state l moved accesses (in_flight_sound s l moved a h)
      ∙ (ap (λ areas. all_written areas q at (mem now.state q at) accesses rest.answers) (flight_areas s moved a)
      ∙ ap (λ byte. all_written s.areas q at byte accesses rest.answers) (flight_writes s l moved a h))

  -- ---- a run, and a batch

  module _ (s : State) (target : ℕ) (ws : List Wanted) (accesses : List Access) where
    pages : List Page
    pages = map (λ t. t.page) (each_request s target ws).taken

    run_areas : (run s target ws accesses).state.areas ≡ s.areas
    unfolding pages
    run_areas =
        let moves = each_request s target ws in
        freed_areas (frames_left moves.taken) (all_in_flight moves.state pages accesses).state ∙ (flights_areas moves.state pages accesses ∙ each_areas s target ws)

    during_writes : IsSound s → mem (run s target ws accesses).state q at ≡ all_written s.areas q at (mem s q at) accesses (all_in_flight (each_request s target ws).state pages accesses).answers
    unfolding pages
    during_writes h =
        let moves = each_request s target ws in
        let during = all_in_flight moves.state pages accesses in
        frees_keep (frames_left moves.taken) during.state q at
        ∙ (flights_write moves.state (frames_left moves.taken) pages accesses (each_sound s [] target ws h)
        ∙ (ap (λ areas. all_written areas q at (mem moves.state q at) accesses during.answers) (each_areas s target ws)
        ∙ ap (λ byte. all_written s.areas q at byte accesses during.answers) (each_keeps s target ws q at)))

    only_answers : {answers : List AccessAnswer} → (run s target ws accesses).answers ≡ answers ∷ [] → (all_in_flight (each_request s target ws).state pages accesses).answers ≡ answers
    unfolding pages
    only_answers is = cc

  runs_from_write : (k : ℕ) (s : State) (rs : List Stretch) (accesses : List (ℕ × Access)) → IsSound s → mem (runs_from k s rs accesses).state q at ≡ runs_written s.areas q at (mem s q at) accesses k (runs_from k s rs accesses).answers
  unfolding pages
  runs_from_write k s [] accesses h = refl
  runs_from_write k s (r ∷ rs) accesses h =
      let mine = accesses_of k accesses in
      let now = run s r.target r.wanted mine in
      let rest = runs_from (k + 1) now.state rs accesses in
      runs_from_write (k + 1) now.state rs accesses (run_sound s r.target r.wanted mine h)
      ∙ (ap (λ areas. runs_written areas q at (mem now.state q at) accesses (k + 1) rest.answers) (run_areas s r.target r.wanted mine)
      ∙ ap (λ byte. runs_written s.areas q at byte accesses (k + 1) rest.answers) (during_writes s r.target r.wanted mine h))

pub run_writes : RunKeepsMemory
run_writes s target ws accesses answers q at h is =
    during_writes q at s target ws accesses h ∙ ap (all_written s.areas q at (mem s q at) accesses) (only_answers q at s target ws accesses is)

pub runs_write : RunsKeepMemory
runs_write s runs accesses q at h = runs_from_write q at 0 s runs accesses h
