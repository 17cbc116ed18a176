-- What holds of a machine's frames, and what stays so.
use Rattle.std.proofs.Common.{◌≡◌, ℕ, ◌<◌, ◌≢◌, false, cond, List, [], ◌∷◌, ◌++◌, refl, sym, ap, subst, ◌∙◌, arith, eq-eqb}
use Rattle.std.specs.Prelude.{Some, sum, slice_get, slice_index_or, slice_set}
use Rattle.std.specs.List.{sum_by}
use Rattle.std.specs.Map.{values_of}
use Rattle.nm_types.specs.declared.page.Page.{Page}
use Rattle.nm_types.specs.Map.{Map, get, page_cmp}
use Rattle.nm_types.specs.Layout.{Layout, frame_count, owner}
use Rattle.nm_types.specs.Nodes.{is_in}
use Rattle.nm_model.specs.definitions.Frames.{Store, IsHome, bytes_of, all_frames}
use Rattle.nm_model.specs.definitions.Frames as pool
use Rattle.nm_model.specs.definitions.Sound.{times, FramesAreOnce, IsSoundInFlight}
use Rattle.nm_spaces.specs.views.AddressSpaces.{AddressSpacesView}
use Rattle.nm_engine.specs.views.Shown.{paged_frames, shown_by}
use Rattle.nm_pool.specs.views.Frames.{FramesView, HasAllFrames, with_freed, CanFree, pool_of}
use Rattle.nm_engine.specs.views.Shown.{PagedFrames}
use Rattle.nm_engine.proofs.Shown.PagedFrames.{HasItsFrames, free_of}
use Rattle.nm_laws.proofs.Soundness.Frames.{here, times_cons, frame_freed, left_below}
use Rattle.nm_laws.proofs.Soundness.Once.{counted_place}
use Rattle.nm_laws.proofs.Soundness.Counted.{counted_below, counted_front, counted_once, not_in, part_of}

pub place_below : (x : PagedFrames) (page : Page) (f : ℕ) → HasItsFrames x → get page_cmp x.place page ≡ Some f → f < frame_count x.layout
place_below x page f h e =
    counted_below (times f (values_of x.place)) (sum_by (times f) x.free) (times f x.vacated) f (frame_count x.layout) (h.once.once f)
    (let some = counted_place x.place page f e in omega (arith, some))

pub front_below : (x : PagedFrames) (node f : ℕ) → HasItsFrames x → slice_get (free_of x node) 0 ≡ Some f → f < frame_count x.layout
front_below x node f h e =
    counted_below (times f (values_of x.place)) (sum_by (times f) x.free) (times f x.vacated) f (frame_count x.layout) (h.once.once f)
    (let some = counted_front x.free node f e in omega (arith, some))

-- a page's frame is not free
pub apart_from_front : (x : PagedFrames) (page : Page) (node from to : ℕ) → HasItsFrames x → get page_cmp x.place page ≡ Some from → slice_get (free_of x node) 0 ≡ Some to → from ≢ to
apart_from_front x page node from to h placed front e =
    let one = counted_place x.place page from placed in
    let two = counted_front x.free node from (front ∙ ap Some (sym e)) in
    let most = counted_once (times from (values_of x.place)) (sum_by (times from) x.free) (times from x.vacated) _ (h.once.once from) in
    omega (arith, one, two, most)

-- frames and the pages that are in them, each frame in one place
pub stocked_is : (y : AddressSpacesView) (k : FramesView) (online : List ℕ) (moved failed : ℕ) (left : List ℕ) → k.vacated ≡ left → IsSoundInFlight (shown_by y k online moved failed) left → HasAllFrames k → HasItsFrames (paged_frames y k)
stocked_is y k online moved failed left is h shelf =
    record { in_order = h.order.place; once = subst (FramesAreOnce k.layout y.place k.free) (sym is) h.frames; buffers = shelf.buffers; home = shelf.home }

-- the frames that are left to be freed, from the first on
pub record IsFreeing (g : Layout) (place : Map Page ℕ) (free : List (List ℕ)) (left : List ℕ) (frame : ℕ) : Type 0 where
  pub in_machine : frame < sum g.sizes
  pub taken : is_in (slice_index_or free (owner g.sizes frame) []) frame ≡ false
  pub next : FramesAreOnce g place (slice_set free (owner g.sizes frame) (slice_index_or free (owner g.sizes frame) [] ++ frame ∷ [])) left

pub freeing : (g : Layout) (place : Map Page ℕ) (free : List (List ℕ)) (left : List ℕ) (frame : ℕ) → FramesAreOnce g place free (frame ∷ left) → IsFreeing g place free left frame
freeing g place free left frame h =
    let most = counted_once (times frame (values_of place)) (sum_by (times frame) free) (times frame (frame ∷ left)) _ (h.once frame) in
    let one : here frame frame ≡ 1 = ap (λ b. cond b 1 0) (eq-eqb frame frame refl) in
    let part = part_of free (owner g.sizes frame) frame in
    record {
      in_machine = left_below g place free frame left h;
      taken = not_in _ frame (omega (arith, most, one, part, times_cons frame frame left));
      next = frame_freed g place free frame left h;
    }

-- the frames that a run left can be freed, and then every frame is free or a place
pub record IsFreed (g : Layout) (place : Map Page ℕ) (p : pool.Pool) (left : List ℕ) : Type 0 where
  pub can : CanFree p left
  pub sizes : (with_freed p left).sizes ≡ g.sizes
  pub once : FramesAreOnce g place (with_freed p left).lists []

pub all_freed : (g : Layout) (place : Map Page ℕ) (p : pool.Pool) (left : List ℕ) → p.sizes ≡ g.sizes → FramesAreOnce g place p.lists left → IsFreed g place p left
all_freed g place p [] e h = record { can = tt; sizes = e; once = h }
all_freed g place p (frame ∷ left) e h =
    let now = freeing g place p.lists left frame h in
    let after = all_freed g place (pool.with_back p frame) left e
    (subst (λ sizes. FramesAreOnce g place (slice_set p.lists (owner sizes frame) (slice_index_or p.lists (owner sizes frame) [] ++ frame ∷ [])) left) (sym e) now.next) in
    record {
      can = (
        subst (λ sizes. frame < sum sizes) (sym e) now.in_machine,
        subst (λ sizes. is_in (slice_index_or p.lists (owner sizes frame) []) frame ≡ false) (sym e) now.taken,
        after.can,
      );
      sizes = after.sizes;
      once = after.once;
    }

-- the frames that a run left can be freed
pub can_free : (y : AddressSpacesView) (k : FramesView) (online : List ℕ) (moved failed : ℕ) → IsSoundInFlight (shown_by y k online moved failed) k.vacated → CanFree (pool_of k) k.vacated
can_free y k online moved failed h =
    (all_freed k.layout y.place (pool_of k) k.vacated refl h.frames).can
