-- What a machine's parts show together after a change of its frames.
use Rattle.std.proofs.Common.{◌≡◌, ℕ, ◌<◌, ◌≢◌, List, [], ◌∷◌, length, drop, refl, sym, ap, subst, ◌∙◌, arith}
use Rattle.std.specs.Prelude.{Some, None, IsSome, replicate, slice_get, slice_index, slice_set}
use Rattle.std.specs.Option.{unwrap_or, option_map}
use Rattle.std.specs.List.Sorted.{IsStrictlySortedBy}
use Rattle.std.specs.Map.{keys_of}
use Rattle.std.specs.Ordering.{is_eq}
use Rattle.std.specs.Cmp.{tied_itself}
use Rattle.std.proofs.lemmas.Bool.{both_ways}
use Rattle.std.proofs.lemmas.List.{get_or-set_other, get_or-set_same}
use Rattle.nm_types.specs.declared.page.Page.{Page}
use Rattle.nm_types.specs.Map.{Map, get, set, replace, with_values, page_cmp}
use Rattle.nm_types.specs.Layout.{frame_count}
use Rattle.nm_types.specs.State.{Process, State}
use Rattle.nm_model.specs.definitions.Frames.{Store, bytes_of, overwrite}
use Rattle.nm_model.specs.definitions.Touch.{with_page, without_front_frame}
use Rattle.nm_model.specs.definitions.Run.{with_free, with_all_free}
use Rattle.nm_model.specs.definitions.Sound.{PlacesAreApart}
use Rattle.nm_engine.specs.views.Shown.{PagedFrames}
use Rattle.nm_pool.specs.views.Frames.{with_freed}
use Rattle.nm_engine.proofs.Shown.PagedFrames.{HasItsFrames, free_of, stock_page, restock_page, free_all}
use Rattle.nm_model.specs.views.Table.{Table}
use Rattle.nm_engine.specs.views.Shown.{bytes_in, state_of_parts}
use Rattle.nm_types.proofs.Maps.{page_cmp_total, exact_page, get-values, with_values-set, with_values-moved, set_agree, set_same, replace_is_set}
use Rattle.nm_laws.proofs.Soundness.Once.{places_are_apart}
use Rattle.nm_engine.proofs.Shown.FreeFrames.{place_below, front_below, apart_from_front}

pub front_got : (xs : List ℕ) → 0 < length xs → slice_get xs 0 ≡ Some (slice_index xs 0)
front_got [] some = absurd (omega (arith, some))
front_got (y ∷ xs) some = refl

-- no frame has two pages
pub stocked_apart : (x : PagedFrames) → HasItsFrames x → PlacesAreApart x.place
stocked_apart x h = places_are_apart h.once

-- the bytes of the frame that got some, and those of the others
new_bytes : (x : PagedFrames) (frame : ℕ) (bytes : List ℕ) → HasItsFrames x → frame < frame_count x.layout → bytes_of (slice_set x.frames frame (Some bytes)) frame ≡ bytes
new_bytes x frame bytes h lt = ap (λ o. unwrap_or o []) (get_or-set_same x.frames frame (Some bytes) None (let same = h.buffers in omega (arith, lt, same)))

old_bytes : (frames : Store) (frame f : ℕ) (bytes : List ℕ) → f ≢ frame → bytes_of (slice_set frames frame (Some bytes)) f ≡ bytes_of frames f
old_bytes frames frame f bytes other = ap (λ o. unwrap_or o []) (get_or-set_other frames frame f (Some bytes) None other)

keys_shown : {V W : Type 0} (F : Page → V → W) (m : Map Page V) → keys_of (with_values F m) ≡ keys_of m
keys_shown F [] = refl
keys_shown F (e ∷ m) = ap (λ ks. e.0 ∷ ks) (keys_shown F m)

module _ (tasks : Map ℕ Process) (m : Table) (x : PagedFrames) (online : List ℕ) (moved failed : ℕ) where
  -- new bytes in a page
  pub written_shows : HasItsFrames x → (page : Page) (frame at : ℕ) (new : List ℕ) → get page_cmp x.place page ≡ Some frame
      → state_of_parts tasks m (record x { frames = slice_set x.frames frame (Some (overwrite (bytes_of x.frames frame) at new)) }) online moved failed
      ≡ record (state_of_parts tasks m x online moved failed) { bytes = replace page_cmp (bytes_in x.frames x.place) page (overwrite (unwrap_or (get page_cmp (bytes_in x.frames x.place) page) []) at new) }
  written_shows h page frame at new placed =
      let whole = overwrite (bytes_of x.frames frame) at new in
      let frames = slice_set x.frames frame (Some whole) in
      let found : get page_cmp (bytes_in x.frames x.place) page ≡ Some (bytes_of x.frames frame) =
      get-values exact_page (λ q. bytes_of x.frames) x.place page ∙ ap (option_map (bytes_of x.frames)) placed in
      ap (λ b. record (state_of_parts tasks m x online moved failed) { bytes = b })
      (ap (bytes_in frames) (sym (set_same page_cmp_total exact_page x.place page frame h.in_order placed))
      ∙ with_values-set exact_page (λ q. bytes_of frames) x.place page frame
      ∙ ap (set page_cmp (bytes_in frames x.place) page) (new_bytes x frame whole h (place_below x page frame h placed))
      ∙ set_agree page_cmp_total exact_page (λ q. bytes_of frames) (λ q. bytes_of x.frames) x.place page whole h.in_order
      (λ q f there apart. old_bytes x.frames frame f whole
      (λ e. both_ways _ apart (ap is_eq (ap (λ r. page_cmp r page) (stocked_apart x h q page frame (there ∙ ap Some e) placed) ∙ tied_itself page_cmp_total page))))
      ∙ sym (replace_is_set page_cmp_total exact_page (bytes_in x.frames x.place) page whole (subst (IsStrictlySortedBy page_cmp) (sym (keys_shown (λ q. bytes_of x.frames) x.place)) h.in_order)
      (subst IsSome (sym found) refl))
      ∙ ap (λ o. replace page_cmp (bytes_in x.frames x.place) page (overwrite (unwrap_or o []) at new)) (sym found))

  -- a page of zeros in the front frame of a node
  pub page_stocked_shows : HasItsFrames x → (page : Page) (node : ℕ) → get page_cmp x.place page ≡ None → 0 < length (free_of x node)
      → state_of_parts tasks m (stock_page x page node) online moved failed ≡ with_page (without_front_frame (state_of_parts tasks m x online moved failed) node) page (slice_index (free_of x node) 0)
  page_stocked_shows h page node unplaced some =
      let frame = slice_index (free_of x node) 0 in
      let frames = slice_set x.frames frame (Some (replicate 4096 0)) in
      let front = front_got (free_of x node) some in
      let s = without_front_frame (state_of_parts tasks m x online moved failed) node in
      let bytes = with_values-set exact_page (λ q. bytes_of frames) x.place page frame
      ∙ ap (set page_cmp (bytes_in frames x.place) page) (new_bytes x frame (replicate 4096 0) h (front_below x node frame h front))
      ∙ set_agree page_cmp_total exact_page (λ q. bytes_of frames) (λ q. bytes_of x.frames) x.place page (replicate 4096 0) h.in_order
      (λ q f there apart. old_bytes x.frames frame f (replicate 4096 0) (apart_from_front x q node f frame h there front)) in
      λ i. record s { place = set page_cmp x.place page frame; bytes = bytes i; pins = set page_cmp x.pins page 0 }

  -- a page goes to the front frame of a node with its bytes
  pub restocked_shows : HasItsFrames x → (page : Page) (from node frame : ℕ) (rest : List ℕ) → get page_cmp x.place page ≡ Some from → free_of x node ≡ frame ∷ rest
      → state_of_parts tasks m (restock_page x page from node) online moved failed
      ≡ record (state_of_parts tasks m x online moved failed) { place = set page_cmp x.place page frame; free = slice_set x.free node rest }
  restocked_shows h page from node frame rest placed front =
      let s = state_of_parts tasks m x online moved failed in
      let first = slice_index (free_of x node) 0 in
      let is : first ≡ frame = ap (λ fs. slice_index fs 0) front in
      let got : slice_get (free_of x node) 0 ≡ Some first = ap (λ fs. slice_get fs 0) front ∙ ap Some (sym is) in
      let frames = slice_set x.frames first (Some (bytes_of x.frames from)) in
      let bytes = with_values-moved page_cmp_total exact_page (bytes_of frames) (bytes_of x.frames) x.place page from first h.in_order placed
      (new_bytes x first (bytes_of x.frames from) h (front_below x node first h got))
      (λ q f there apart. old_bytes x.frames first f (bytes_of x.frames from) (apart_from_front x q node f first h there got)) in
      λ i. record s { place = set page_cmp x.place page (is i); bytes = bytes i; free = slice_set x.free node (drop 1 (front i)) }

-- freeing in the pool is freeing in the state
all_free_shows : (s : State) (frames : List ℕ) → record s { free = (with_freed (record { sizes = s.layout.sizes; lists = s.free }) frames).lists } ≡ with_all_free s frames
all_free_shows s [] = refl
all_free_shows s (frame ∷ frames) = all_free_shows (with_free s frame) frames

pub freed_shows : (tasks : Map ℕ Process) (m : Table) (x : PagedFrames) (online : List ℕ) (moved failed : ℕ)
    → state_of_parts tasks m (free_all x) online moved failed ≡ with_all_free (state_of_parts tasks m x online moved failed) x.vacated
freed_shows tasks m x online moved failed = all_free_shows (state_of_parts tasks m x online moved failed) x.vacated
