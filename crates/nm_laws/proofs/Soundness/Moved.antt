-- Moving and freeing keep a machine sound.
use Rattle.std.proofs.Common.{◌≡◌, ℕ, List, [], ◌∷◌, ◌++◌, refl, sym, ap, subst, ◌∙◌, append_assoc}
use Rattle.std.specs.Prelude.{Some, IsSome}
use Rattle.std.specs.List.Sorted.{IsStrictlySortedBy}
use Rattle.std.specs.Map.{keys_of}
use Rattle.nm_types.specs.declared.page.Page.{Page}
use Rattle.nm_types.specs.Map.{Map, page_cmp, get, set}
use Rattle.nm_types.specs.State.{State, free_list}
use Rattle.nm_types.specs.declared.request.Class.{Class}
use Rattle.nm_types.specs.declared.request.Class.TheVariants.{Status, Move}
use Rattle.nm_types.specs.declared.request.Wanted.{Wanted}
use Rattle.nm_model.specs.definitions.Status.{status_or_move}
use Rattle.nm_model.specs.definitions.Run.{moved_page, decision, one_request, each_request, with_free, with_all_free, frames_left}
use Rattle.nm_model.specs.definitions.Sound.{FramesAreOnce, IsSoundInFlight}
use Rattle.nm_types.proofs.Maps.{page_cmp_total, exact_page, keys-set}
use Rattle.nm_types.proofs.Keys.{some_from_keys}
use Rattle.nm_laws.proofs.Soundness.Frames.{moved_frames, frame_freed, left-append, append-nil}
use Rattle.nm_laws.proofs.Soundness.Once.{places_are_apart}
use Rattle.nm_laws.proofs.OneByOne.Placed.{ClassIsPlaced, status_placed}

-- the same pages have a place, and the frames are once
pub other_places : (s : State) (l k : List ℕ) (m : Map Page ℕ) (free : List (List ℕ)) → IsSoundInFlight s l → keys_of m ≡ keys_of s.place
    → FramesAreOnce s.layout m free k → IsSoundInFlight (record s { place = m; free = free }) k
other_places s l k m free h same frames =
    let was : (p : Page) → IsSome (get page_cmp m p) → IsSome (get page_cmp s.place p) = λ p. some_from_keys page_cmp m s.place p same in
    record {
      order = record {
        processes = h.order.processes;
        sees = h.order.sees;
        areas = h.order.areas;
        segments = h.order.segments;
        place = subst (IsStrictlySortedBy page_cmp) (sym same) h.order.place;
      };
      apart = places_are_apart frames;
      frames = frames;
      shown = λ pid v p e. let was = h.shown pid v p e in (was.0, some_from_keys page_cmp s.place m p (sym same) was.1);
      zeros = h.zeros;
      covered = λ p e. h.covered p (was p e);
      bytes = record { same_pages = h.bytes.same_pages ∙ sym same; whole = h.bytes.whole };
      pins = record { same_pages = h.pins.same_pages ∙ sym same; few = h.pins.few };
      seen = λ p e. h.seen p (was p e);
      once = h.once;
      areas = h.areas;
      numbers = h.numbers;
      disjoint = h.disjoint;
      online = h.online;
      few = h.few;
    }

page_moved : (s : State) (l : List ℕ) (target : ℕ) (p : Page) (from : ℕ) (front : List ℕ) → IsSoundInFlight s l → get page_cmp s.place p ≡ Some from → free_list s target ≡ front
    → IsSoundInFlight (moved_page s target p from front).state (l ++ frames_left (moved_page s target p from front).taken)
page_moved s l target p from [] h placed e = subst (IsSoundInFlight s) (sym (append-nil l)) h
page_moved s l target p from (frame ∷ rest) h placed e =
    other_places s l (l ++ from ∷ []) (set page_cmp s.place p frame) _ h
    (keys-set page_cmp_total exact_page p s.place frame from h.order.place placed)
    (moved_frames s l target p from (frame ∷ rest) h.frames h.order.place placed e)

pub decided_sound : (s : State) (l : List ℕ) (target : ℕ) (c : Class) → IsSoundInFlight s l → ClassIsPlaced s c → IsSoundInFlight (decision s target c).state (l ++ frames_left (decision s target c).taken)
decided_sound s l target (Status status) h placed = subst (IsSoundInFlight s) (sym (append-nil l)) h
decided_sound s l target (Move p from) h placed = page_moved s l target p from (free_list s target) h placed refl

pub each_sound : (s : State) (l : List ℕ) (target : ℕ) (ws : List Wanted) → IsSoundInFlight s l → IsSoundInFlight (each_request s target ws).state (l ++ frames_left (each_request s target ws).taken)
each_sound s l target [] h = subst (IsSoundInFlight s) (sym (append-nil l)) h
each_sound s l target (w ∷ ws) h =
    let now = one_request s target w in
    let rest = each_request now.state target ws in
    subst (IsSoundInFlight rest.state) (append_assoc l (frames_left now.taken) (frames_left rest.taken) ∙ ap (λ xs. l ++ xs) (sym (left-append now.taken rest.taken)))
    (each_sound now.state (l ++ frames_left now.taken) target ws (decided_sound s l target (status_or_move s target w) h (status_placed s target w)))

pub frame_freed_sound : (s : State) (frame : ℕ) (l : List ℕ) → IsSoundInFlight s (frame ∷ l) → IsSoundInFlight (with_free s frame) l
frame_freed_sound s frame l h = other_places s (frame ∷ l) l s.place (with_free s frame).free h refl (frame_freed s.layout s.place s.free frame l h.frames)

pub freed_sound : (frames : List ℕ) (s : State) → IsSoundInFlight s frames → IsSoundInFlight (with_all_free s frames) []
freed_sound [] s h = h
freed_sound (frame ∷ frames) s h = freed_sound frames (with_free s frame) (frame_freed_sound s frame frames h)
