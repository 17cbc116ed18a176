-- What the pages of a run make of a machine's parts.
use Rattle.std.proofs.Common.{◌≡◌, ℕ, suc, ◌+◌, ◌<◌, ◌≤◌, List, [], ◌∷◌, ◌++◌, length, drop, refl, sym, ap, subst, ◌∙◌, arith, append_assoc, length-append, ℤ}
use Rattle.std.specs.Prelude.{Some, slice_get, slice_index}
use Rattle.nm_types.specs.declared.page.Page.{Page}
use Rattle.nm_types.specs.Map.{Map, get, page_cmp}
use Rattle.nm_types.specs.Layout.{frame_count}
use Rattle.nm_types.specs.State.{Process, State, free_list}
use Rattle.nm_types.specs.declared.request.Class.{Class}
use Rattle.nm_types.specs.declared.request.Class.TheVariants.{Status, Move}
use Rattle.nm_types.specs.declared.request.Wanted.{Wanted}
use Rattle.nm_model.specs.definitions.Status.{status_or_move}
use Rattle.nm_model.specs.definitions.Run.{moved_page, decision, one_request, each_request, frames_left, failures, with_all_free, total_after, with_counts}
use Rattle.nm_engine.specs.views.Shown.{PagedFrames}
use Rattle.nm_engine.proofs.Shown.PagedFrames.{HasItsFrames, free_of, restock_page, free_all}
use Rattle.nm_model.specs.views.Table.{Table}
use Rattle.nm_engine.specs.views.Shown.{state_of_parts}
use Rattle.nm_model.specs.definitions.Sound.{IsSoundInFlight}
use Rattle.nm_engine.specs.views.RunState.{IsSoundMachine}
use Rattle.nm_laws.proofs.Soundness.Frames.{left-append}
use Rattle.nm_laws.proofs.Soundness.Moved.{decided_sound, freed_sound}
use Rattle.nm_laws.proofs.Soundness.Contents.{counted_sound}
use Rattle.nm_engine.proofs.Shown.FrameChanges.{restocked_shows, freed_shows}

front_there : (xs : List ℕ) → 0 < length xs → xs ≡ slice_index xs 0 ∷ drop 1 xs
front_there [] some = absurd (omega (arith, some))
front_there (x ∷ xs) some = refl

pub some_front : (xs : List ℕ) (x : ℕ) → slice_get xs 0 ≡ Some x → 0 < length xs
some_front [] x e = cc
some_front (y ∷ xs) x e = omega arith

-- the frame that a page leaves
pub move_left : (s : State) (page : Page) (from target : ℕ) → 0 < length (free_list s target) → from ∷ [] ≡ frames_left (decision s target (Move page from)).taken
move_left s page from target some = sym (ap (λ fs. frames_left (moved_page s target page from fs).taken) (front_there (free_list s target) some))

module _ (tasks : Map ℕ Process) (m : Table) (x : PagedFrames) (online : List ℕ) (moved failed : ℕ) where
  -- a run's end
  pub end_shows : (y : PagedFrames) (n k total failures : ℕ) → y ≡ free_all x → total ≡ total_after moved n → failures ≡ total_after failed k
      → state_of_parts tasks m y online total failures ≡ with_counts (with_all_free (state_of_parts tasks m x online moved failed) x.vacated) n k
  end_shows y n k total failures freed t f =
      let s = with_all_free (state_of_parts tasks m x online moved failed) x.vacated in
      let same : state_of_parts tasks m (free_all x) online moved failed ≡ s = freed_shows tasks m x online moved failed in
      ap (λ y. state_of_parts tasks m y online total failures) freed
      ∙ ap (λ (s : State). record s { moved = total; failed = failures }) same
      ∙ ap (λ n. record s { moved = n; failed = failures }) (t ∙ ap (λ (s : State). total_after s.moved n) same)
      ∙ ap (λ k. record s { moved = total_after s.moved n; failed = k }) (f ∙ ap (λ (s : State). total_after s.failed k) same)

  pub end_kept : {c : ℕ} (y : PagedFrames) (n k total failures : ℕ) → y ≡ free_all x → total ≡ total_after moved n → failures ≡ total_after failed k
      → IsSoundMachine (state_of_parts tasks m x online moved failed) x.vacated c → IsSoundMachine (state_of_parts tasks m y online total failures) y.vacated c
  end_kept y n k total failures freed t f h =
      let s = state_of_parts tasks m x online moved failed in
      record {
        sound = subst (λ l. IsSoundInFlight (state_of_parts tasks m y online total failures) l) (sym (ap (λ (y : PagedFrames). y.vacated) freed))
            (subst (λ s. IsSoundInFlight s []) (sym (end_shows y n k total failures freed t f)) (counted_sound (with_all_free s x.vacated) [] n k (freed_sound x.vacated s h.sound)));
        as_many = h.as_many ∙ sym (ap (λ (y : PagedFrames). frame_count y.layout) freed);
      }

  -- a page that moves
  pub move_shows : (y : PagedFrames) (page : Page) (from target : ℕ) → HasItsFrames x → get page_cmp x.place page ≡ Some from → 0 < length (free_of x target) → y ≡ restock_page x page from target
      → state_of_parts tasks m y online moved failed ≡ (decision (state_of_parts tasks m x online moved failed) target (Move page from)).state
  move_shows y page from target h placed some is =
      let front = front_there (free_of x target) some in
      ap (λ y. state_of_parts tasks m y online moved failed) is
      ∙ restocked_shows tasks m x online moved failed h page from target (slice_index (free_of x target) 0) (drop 1 (free_of x target)) placed front
      ∙ sym (ap (λ fs. (moved_page (state_of_parts tasks m x online moved failed) target page from fs).state) front)

  pub move_kept : {c : ℕ} (y : PagedFrames) (page : Page) (from target : ℕ) → HasItsFrames x → get page_cmp x.place page ≡ Some from → 0 < length (free_of x target) → y ≡ restock_page x page from target
      → IsSoundMachine (state_of_parts tasks m x online moved failed) x.vacated c → IsSoundMachine (state_of_parts tasks m y online moved failed) y.vacated c
  move_kept y page from target paged_frames placed some is h =
      let s = state_of_parts tasks m x online moved failed in
      let left_now : x.vacated ++ frames_left (decision s target (Move page from)).taken ≡ y.vacated =
      ap (λ l. x.vacated ++ l) (sym (move_left s page from target some)) ∙ sym (ap (λ (y : PagedFrames). y.vacated) is) in
      record {
        sound = subst (λ t. IsSoundInFlight t y.vacated) (sym (move_shows y page from target paged_frames placed some is))
            (subst (λ l. IsSoundInFlight (decision s target (Move page from)).state l) left_now (decided_sound s x.vacated target (Move page from) h.sound placed));
        as_many = h.as_many ∙ sym (ap (λ (y : PagedFrames). frame_count y.layout) is);
      }

-- a request leaves the nodes as they are, and at most one frame
page_layout : (s : State) (target : ℕ) (p : Page) (from : ℕ) (fs : List ℕ) → (moved_page s target p from fs).state.layout ≡ s.layout
page_layout s target p from [] = refl
page_layout s target p from (f ∷ fs) = refl

pub decided_layout : (s : State) (target : ℕ) (c : Class) → (decision s target c).state.layout ≡ s.layout
decided_layout s target (Status status) = refl
decided_layout s target (Move p from) = page_layout s target p from (free_list s target)

page_leaves : (s : State) (target : ℕ) (p : Page) (from : ℕ) (fs : List ℕ) → length (frames_left (moved_page s target p from fs).taken) ≤ 1
page_leaves s target p from [] = omega arith
page_leaves s target p from (f ∷ fs) = omega arith

pub decided_leaves : (s : State) (target : ℕ) (c : Class) → length (frames_left (decision s target c).taken) ≤ 1
decided_leaves s target (Status status) = omega arith
decided_leaves s target (Move p from) = page_leaves s target p from (free_list s target)

-- the first of several requests, and those after it
pub record Step (s : State) (l : List ℕ) (before : List ℤ) (target : ℕ) (ws rest : List Wanted) (t : State) (m : List ℕ) (told : List ℤ) : Type 0 where
  pub state : (each_request t target rest).state ≡ (each_request s target ws).state
  pub left : m ++ frames_left (each_request t target rest).taken ≡ l ++ frames_left (each_request s target ws).taken
  pub statuses : told ++ (each_request t target rest).statuses ≡ before ++ (each_request s target ws).statuses
  pub layout : t.layout ≡ s.layout
  pub frames : length m ≤ length l + 1
  pub one_less : length ws ≡ length rest + 1

pub step : (s : State) (l : List ℕ) (before : List ℤ) (target : ℕ) (ws : List Wanted) (w : Wanted) (rest : List Wanted) (t : State) (m : List ℕ) (told : List ℤ) (status : ℤ) → ws ≡ w ∷ rest
    → t ≡ (one_request s target w).state → m ≡ l ++ frames_left (one_request s target w).taken → told ≡ before ++ status ∷ [] → status ≡ (one_request s target w).status → Step s l before target ws rest t m told
step s l before target ws w rest t m told status first state kept pushed is =
    let now = one_request s target w in
    let later = each_request now.state target rest in
    record {
      state = ap (λ u. (each_request u target rest).state) state ∙ sym (ap (λ xs. (each_request s target xs).state) first);
      left = ap (λ u. m ++ frames_left (each_request u target rest).taken) state ∙ ap (λ xs. xs ++ frames_left later.taken) kept ∙ append_assoc l (frames_left now.taken) (frames_left later.taken)
          ∙ ap (λ xs. l ++ xs) (sym (left-append now.taken later.taken)) ∙ sym (ap (λ xs. l ++ frames_left (each_request s target xs).taken) first);
      statuses = ap (λ u. told ++ (each_request u target rest).statuses) state ∙ ap (λ xs. xs ++ later.statuses) pushed ∙ append_assoc before (status ∷ []) later.statuses
          ∙ ap (λ x. before ++ x ∷ later.statuses) is ∙ sym (ap (λ xs. before ++ (each_request s target xs).statuses) first);
      layout = ap (λ (u : State). u.layout) state ∙ decided_layout s target (status_or_move s target w);
      frames =
          let len : length m ≡ length l + length (frames_left now.taken) = ap length kept ∙ length-append l (frames_left now.taken) in
          let most = decided_leaves s target (status_or_move s target w) in
          omega (arith, len, most);
      one_less = let n : length ws ≡ suc (length rest) = ap length first in omega (arith, n);
    }
