-- Moves that are made all at once are moves that are made one after another.
use Rattle.std.proofs.Common.{◌≡◌, ◌≢◌, ℕ, zero, suc, ◌+◌, ◌<◌, ◌≤◌, Bool, true, false, cond, List, [], ◌∷◌, ◌++◌, map, length, take, drop, refl, sym, ap, subst, ◌∙◌, arith, append_assoc, length-set, eq-eqb}
use Rattle.std.specs.Prelude.{Some, slice_set}
use Rattle.std.specs.List.{fold, sum_by, AllByRecursion}
use Rattle.std.specs.Map.{values_of}
use Rattle.std.proofs.lemmas.List.{set-get_or, append-nil, take-append-drop}
use Rattle.std.proofs.lemmas.List.Sums.{sum_by_more_le, sum_by-append}
use Rattle.nm_types.specs.Layout.{Layout, frame_count, node_of}
use Rattle.nm_types.specs.State.{State, free_list}
use Rattle.nm_model.specs.definitions.Frames.{Store, IsHome, bytes_of}
use Rattle.nm_types.specs.declared.page_move.PageMove.{PageMove}
use Rattle.nm_spaces.specs.views.AddressSpaces.{AddressSpacesView, with_moved, table_of}
use Rattle.nm_pool.specs.views.Copies.{with_copy, with_copies, without_move, CanCopy}
use Rattle.nm_pool.specs.views.Frames.{FramesView, HasAllFrames, free_on}
use Rattle.nm_laws.specs.Laws.{with_move, with_moves}
use Rattle.nm_engine.specs.views.RunState.{IsSoundMachine}
use Rattle.nm_laws.specs.Moves.{CanMove}
use Rattle.nm_spaces.specs.definitions.Moves.{CanRemap, all_moved}
use Rattle.nm_model.specs.definitions.Run.{moved_page, frames_left}
use Rattle.nm_engine.specs.views.Shown.{shown_by, paged_frames}
use Rattle.nm_model.specs.definitions.Sound.{times, FramesAreOnce}
use Rattle.nm_laws.proofs.OneByOne.Planned.{list_now}
use Rattle.nm_laws.proofs.Soundness.Frames.{here, times_cons}
use Rattle.nm_pool.proofs.Copies.Copied.{home_set, stays_home}
use Rattle.nm_laws.proofs.Soundness.Counted.{front_is, counted_below}
use Rattle.nm_engine.proofs.Shown.BothParts.{kept_stocked, front_spare, restocked_both}
use Rattle.nm_engine.proofs.Shown.PagedFrames.{restock_page}
use Rattle.nm_engine.proofs.MidRun.RunPages.{move_shows, move_kept, some_front}
use Rattle.nm_pool.proofs.FreeLists.Fronts.{fronts_list}

-- the frames of one move, and of several
abbrev carried : ℕ → FramesView → PageMove → FramesView
carried target k t = record k { frames = with_copy k.frames t; free = slice_set k.free target (drop 1 (free_on k target)); vacated = k.vacated ++ t.from ∷ [] }

abbrev pub all_carried : ℕ → FramesView → List PageMove → FramesView
all_carried target k taken = fold (carried target) k taken

-- the frames of several moves, part by part
pub by_parts : (taken : List PageMove) (target : ℕ) (k : FramesView) → target < length k.free
    → all_carried target k taken ≡ record k { frames = with_copies k.frames taken; free = slice_set k.free target (drop (length taken) (free_on k target)); vacated = k.vacated ++ frames_left taken }
by_parts [] target k inside =
    sym (ap (λ (f : List (List ℕ)). record k { free = f; vacated = k.vacated ++ [] }) (set-get_or k.free target []) ∙ ap (λ (v : List ℕ). record k { vacated = v }) (append-nil k.vacated))
by_parts (t ∷ taken) target k inside =
    let copies = with_copies (with_copy k.frames t) taken in
    by_parts taken target (carried target k t) (omega (arith, inside, length-set k.free target (drop 1 (free_on k target))))
    ∙ ap (λ (f : List (List ℕ)). record k { frames = copies; free = f; vacated = (k.vacated ++ t.from ∷ []) ++ frames_left taken }) (fronts_list k.free target (length taken) (free_on k target) inside)
    ∙ ap (λ (v : List ℕ). record k { frames = copies; free = slice_set k.free target (drop (suc (length taken)) (free_on k target)); vacated = v }) (append_assoc k.vacated (t.from ∷ []) (frames_left taken))

carried_shelf : (k : FramesView) (target : ℕ) (t : PageMove) → HasAllFrames k → HasAllFrames (carried target k t)
carried_shelf k target t h = record {
  lists = length-set k.free target (drop 1 (free_on k target)) ∙ h.lists;
  buffers = length-set k.frames t.to (Some (bytes_of k.frames t.from)) ∙ h.buffers;
  home = λ f below. home_set k.frames t.to f (bytes_of k.frames t.from) (h.home f below);
}

-- what moves make of address spaces and frames together
pub record IsCarried (y : AddressSpacesView) (k : FramesView) (online : List ℕ) (moved failed target : ℕ) (taken : List PageMove) : Type 0 where
  pub shown : shown_by (all_moved y taken) (all_carried target k taken) online moved failed ≡ with_moves (shown_by y k online moved failed) target taken
  pub kept : IsSoundMachine (shown_by (all_moved y taken) (all_carried target k taken) online moved failed) (all_carried target k taken).vacated (all_moved y taken).frames
  pub remap : CanRemap y taken

pub is_carried : (taken : List PageMove) (y : AddressSpacesView) (k : FramesView) (online : List ℕ) (moved failed target : ℕ) → IsSoundMachine (shown_by y k online moved failed) k.vacated y.frames → HasAllFrames k
    → CanMove (shown_by y k online moved failed) target taken → IsCarried y k online moved failed target taken
is_carried [] y k online moved failed target kept shelf can = record { shown = refl; kept = kept; remap = tt }
is_carried (t ∷ taken) y k online moved failed target kept shelf can =
    let s = shown_by y k online moved failed in
    let y1 = with_moved y t.page t.to in
    let k1 = carried target k t in
    let free : FramesView = record k { free = slice_set k.free target (drop 1 (free_on k target)) } in
    let copied : FramesView = record free { frames = slice_set free.frames t.to (Some (bytes_of free.frames t.from)) } in
    let is : paged_frames y1 k1 ≡ restock_page (paged_frames y k) t.page t.from target = restocked_both y y1 k free copied k1 t.page target t.from t.to refl refl refl refl can.1 in
    let stocked = kept_stocked y k online moved failed kept shelf in
    let some = some_front (free_on k target) t.to can.1 in
    let shows : shown_by y1 k1 online moved failed ≡ with_move target s t =
    move_shows y.processes (table_of y) (paged_frames y k) online moved failed (paged_frames y1 k1) t.page t.from target stocked can.0 some is
    ∙ ap (λ (fs : List ℕ). (moved_page s target t.page t.from fs).state) (front_is (free_on k target) t.to can.1) in
    let spare = front_spare y k online moved failed kept shelf target t.to can.1 in
    let rest = is_carried taken y1 k1 online moved failed target
    (move_kept y.processes (table_of y) (paged_frames y k) online moved failed (paged_frames y1 k1) t.page t.from target stocked can.0 some is kept)
    (carried_shelf k target t shelf) (subst (λ (u : State). CanMove u target taken) (sym shows) can.3) in
    record {
      shown = rest.shown ∙ ap (λ (u : State). with_moves u target taken) shows;
      kept = rest.kept;
      remap = (can.0, spare.known, spare.place, rest.remap);
    }

-- the frames that moves take
abbrev tos : List PageMove → List ℕ
tos taken = map (λ t. t.to) taken

pub tos_are : (taken : List PageMove) (s : State) (target : ℕ) → CanMove s target taken → tos taken ≡ take (length taken) (free_list s target)
tos_are [] s target can = refl
tos_are (t ∷ taken) s target can =
    let list = free_list s target in
    let front = front_is list t.to can.1 in
    ap (λ (l : List ℕ). t.to ∷ l) (tos_are taken (with_move target s t) target can.3 ∙ ap (λ (l : List ℕ). take (length taken) l) (list_now s.free target t.to (drop 1 list) front))
    ∙ sym (ap (λ (l : List ℕ). take (suc (length taken)) l) front)

-- frames, of which one is on another node and one on the target, and both are home
abbrev IsFine : Store → Layout → ℕ → PageMove → Type 0
IsFine store g target t = (node_of g t.from ≢ target) × (node_of g t.to ≡ target) × IsHome store t.from × IsHome store t.to

times_both : (f : ℕ) (xs ys : List ℕ) → times f (xs ++ ys) ≡ times f xs + times f ys
times_both f xs ys = sum_by-append (here f) xs ys

one_here : (f : ℕ) → here f f ≡ 1
one_here f = ap (λ b. cond b 1 0) (eq-eqb f f refl)

none_here : (f g : ℕ) (xs : List ℕ) → times f (g ∷ xs) ≡ 0 → g ≢ f
none_here f g xs none e = let one : here f g ≡ 1 = ap (here f) e ∙ one_here f in omega (arith, none, one, times_cons f g xs)

fine_rest : (us : List PageMove) (store : Store) (g : Layout) (target : ℕ) (t : PageMove) → node_of g t.from ≢ target → node_of g t.to ≡ target → AllByRecursion (IsFine store g target) us
    → times t.from (frames_left us) ≡ 0 → times t.to (tos us) ≡ 0 → AllByRecursion (IsFine (without_move store t) g target) us
fine_rest [] store g target t away on all none nor = tt
fine_rest (u ∷ us) store g target t away on all none nor =
    let fine = all.0 in (
      (
        fine.0,
        fine.1,
        stays_home store t u.from (none_here t.from u.from (frames_left us) none) (λ e. fine.0 (ap (node_of g) e ∙ on)) fine.2,
        stays_home store t u.to (λ e. away (sym (ap (node_of g) e) ∙ fine.1)) (none_here t.to u.to (tos us) nor) fine.3,
      ),
      fine_rest us store g target t away on all.1 (omega (arith, none, times_cons t.from u.from (frames_left us))) (omega (arith, nor, times_cons t.to u.to (tos us))),
    )

can_copy : (taken : List PageMove) (store : Store) (g : Layout) (target : ℕ) → AllByRecursion (IsFine store g target) taken → ((f : ℕ) → times f (frames_left taken) ≤ 1) → ((f : ℕ) → times f (tos taken) ≤ 1) → CanCopy store taken
can_copy [] store g target all few once = tt
can_copy (t ∷ taken) store g target all few once =
    let fine = all.0 in
    let none : times t.from (frames_left taken) ≡ 0 = let a = few t.from in omega (arith, a, one_here t.from, times_cons t.from t.from (frames_left taken)) in
    let nor : times t.to (tos taken) ≡ 0 = let a = once t.to in omega (arith, a, one_here t.to, times_cons t.to t.to (tos taken)) in (
      fine.2,
      fine.3,
      (λ e. fine.0 (ap (node_of g) e ∙ fine.1)),
      can_copy taken (without_move store t) g target (fine_rest taken store g target t fine.0 fine.1 all.1 none nor)
          (λ f. let a = few f in omega (arith, a, times_cons f t.from (frames_left taken))) (λ f. let a = once f in omega (arith, a, times_cons f t.to (tos taken))),
    )

all_fine : (taken : List PageMove) (s : State) (g : Layout) (k : FramesView) (target : ℕ) → s.layout ≡ g → k.layout ≡ g → HasAllFrames k → CanMove s target taken
    → ((f : ℕ) → 1 ≤ times f (frames_left taken) → f < frame_count g) → ((f : ℕ) → 1 ≤ times f (tos taken) → f < frame_count g) → AllByRecursion (λ f. node_of g f ≡ target) (tos taken)
    → AllByRecursion (IsFine k.frames g target) taken
all_fine [] s g k target e f shelf can below under on = tt
all_fine (t ∷ taken) s g k target e f shelf can below under on =
    let from = below t.from (omega (arith, one_here t.from, times_cons t.from t.from (frames_left taken))) in
    let to = under t.to (omega (arith, one_here t.to, times_cons t.to t.to (tos taken))) in (
      (
        (λ there. can.2 (ap (λ (l : Layout). node_of l t.from) e ∙ there)),
        on.0,
        shelf.home t.from (subst (λ (l : Layout). t.from < frame_count l) (sym f) from),
        shelf.home t.to (subst (λ (l : Layout). t.to < frame_count l) (sym f) to),
      ),
      all_fine taken (with_move target s t) g k target e f shelf can.3 (λ q some. below q (omega (arith, some, times_cons q t.from (frames_left taken)))) (λ q some. under q (omega (arith, some, times_cons q t.to (tos taken)))) on.1,
    )

pub all_taken : (n : ℕ) (xs : List ℕ) (g : Layout) (target : ℕ) → AllByRecursion (λ f. node_of g f ≡ target) xs → AllByRecursion (λ f. node_of g f ≡ target) (take n xs)
all_taken zero xs g target all = tt
all_taken (suc n) [] g target all = tt
all_taken (suc n) (x ∷ xs) g target all = (all.0, all_taken n xs g target all.1)

at_most_one : (a b c d whole : ℕ) (t : Bool) → a + b + whole ≡ cond t 1 0 → whole ≡ c + d → d ≤ 1
at_most_one a b c d whole true e parts = omega (arith, e, parts)
at_most_one a b c d whole false e parts = omega (arith, e, parts)

at_most : (a b c d : ℕ) (t : Bool) → a + b + c ≡ cond t 1 0 → d ≤ b → d ≤ 1
at_most a b c d true e part = omega (arith, e, part)
at_most a b c d false e part = omega (arith, e, part)

-- the frames of moves can be copied all at once
pub carried_copy : (taken : List PageMove) (y : AddressSpacesView) (k : FramesView) (online : List ℕ) (moved failed target : ℕ) → IsSoundMachine (shown_by y k online moved failed) k.vacated y.frames → HasAllFrames k → target < length k.free
    → CanMove (shown_by y k online moved failed) target taken → IsCarried y k online moved failed target taken → CanCopy k.frames taken
carried_copy taken y k online moved failed target kept shelf inside can done =
    let g = k.layout in
    let n = length taken in
    let list = free_on k target in
    let places = values_of (all_moved y taken).place in
    let start = kept.sound.frames in
    let whole : FramesView = record k { frames = with_copies k.frames taken; free = slice_set k.free target (drop n list); vacated = k.vacated ++ frames_left taken } in
    let ends : FramesAreOnce g (all_moved y taken).place whole.free (k.vacated ++ frames_left taken) =
    subst (λ (x : FramesView). FramesAreOnce x.layout (all_moved y taken).place x.free x.vacated) (by_parts taken target k inside) done.kept.sound.frames in
    let on : tos taken ≡ take n list = tos_are taken (shown_by y k online moved failed) target can in
    let taken_few : (f : ℕ) → times f (tos taken) ≤ sum_by (times f) k.free = λ f.
    let parted : times f list ≡ times f (take n list) + times f (drop n list) = sym (ap (times f) (take-append-drop n list)) ∙ times_both f (take n list) (drop n list) in
    let same = ap (times f) on in
    let part = sum_by_more_le (times f) k.free target [] inside in
    omega (arith, parted, same, part) in
    can_copy taken k.frames g target
    (all_fine taken (shown_by y k online moved failed) g k target refl refl shelf can
    (λ f some. counted_below (times f places) (sum_by (times f) whole.free) (times f (k.vacated ++ frames_left taken)) f (frame_count g) (ends.once f) (omega (arith, some, times_both f k.vacated (frames_left taken))))
    (λ f some. let most = taken_few f in counted_below (times f (values_of y.place)) (sum_by (times f) k.free) (times f k.vacated) f (frame_count g) (start.once f) (omega (arith, some, most)))
    (subst (AllByRecursion (λ f. node_of g f ≡ target)) (sym on) (all_taken n list g target (start.own target))))
    (λ f. at_most_one (times f places) (sum_by (times f) whole.free) (times f k.vacated) (times f (frames_left taken)) (times f (k.vacated ++ frames_left taken)) _ (ends.once f) (times_both f k.vacated (frames_left taken)))
    (λ f. let most = taken_few f in at_most (times f (values_of y.place)) (sum_by (times f) k.free) (times f k.vacated) (times f (tos taken)) _ (start.once f) most)

-- what holds of each frame that is in a list
each_in : (P : ℕ → Type 0) (xs : List ℕ) → ((f : ℕ) → 1 ≤ times f xs → P f) → AllByRecursion P xs
each_in P [] h = tt
each_in P (x ∷ xs) h = (h x (omega (arith, one_here x, times_cons x x xs)), each_in P xs (λ f some. h f (omega (arith, some, times_cons f x xs))))

-- the frames that moves take are the machine's
pub tos_below : (taken : List PageMove) (s : State) (target : ℕ) (frames_left : List ℕ) → target < length s.free → FramesAreOnce s.layout s.place s.free frames_left → CanMove s target taken → AllByRecursion (λ f. f < frame_count s.layout) (tos taken)
tos_below taken s target frames_left inside once can =
    let n = length taken in
    let list = free_list s target in
    subst (AllByRecursion (λ f. f < frame_count s.layout)) (sym (tos_are taken s target can))
    (each_in (λ f. f < frame_count s.layout) (take n list) (λ f some.
    let parted : times f list ≡ times f (take n list) + times f (drop n list) = sym (ap (times f) (take-append-drop n list)) ∙ times_both f (take n list) (drop n list) in
    let part = sum_by_more_le (times f) s.free target [] inside in
    counted_below (times f (values_of s.place)) (sum_by (times f) s.free) (times f frames_left) f (frame_count s.layout) (once.once f) (omega (arith, some, parted, part))))
