-- What changes of address spaces and of frames make of both together.
use Rattle.std.proofs.Common.{◌≡◌, ℕ, ◌<◌, List, [], ◌∷◌, ◌++◌, refl, sym, ap, subst, ◌∙◌}
use Rattle.std.specs.Prelude.{Some, drop, replicate, slice_get, slice_set}
use Rattle.nm_types.specs.declared.page.Page.{Page}
use Rattle.nm_types.specs.Map.{get, page_cmp}
use Rattle.nm_types.specs.Layout.{frame_count}
use Rattle.nm_types.specs.State.{Process}
use Rattle.nm_model.specs.definitions.Frames.{bytes_of}
use Rattle.nm_spaces.specs.views.AddressSpaces.{AddressSpacesView, with_moved, with_new_page}
use Rattle.nm_pool.specs.views.Frames.{FramesView, HasAllFrames, free_on}
use Rattle.nm_engine.proofs.Shown.PagedFrames.{HasItsFrames, stock_page, restock_page}
use Rattle.nm_engine.specs.views.Shown.{paged_frames, shown_by}
use Rattle.nm_engine.specs.views.RunState.{IsSoundMachine}
use Rattle.nm_laws.proofs.Soundness.Counted.{index_front}
use Rattle.nm_engine.proofs.Shown.FreeFrames.{front_below, apart_from_front, stocked_is}

-- the front frame of a node, which no page has
pub record IsSpare (y : AddressSpacesView) (k : FramesView) (frame : ℕ) : Type 0 where
  pub below : frame < frame_count k.layout
  pub known : frame < y.frames
  pub place : (q : Page) → get page_cmp y.place q ≡ Some frame → ⊥

module _ (y : AddressSpacesView) (k : FramesView) (online : List ℕ) (moved failed : ℕ) (kept : IsSoundMachine (shown_by y k online moved failed) k.vacated y.frames) (shelf : HasAllFrames k) where
  pub kept_stocked : HasItsFrames (paged_frames y k)
  kept_stocked = stocked_is y k online moved failed k.vacated refl kept.sound shelf

  pub front_spare : (node frame : ℕ) → slice_get (free_on k node) 0 ≡ Some frame → IsSpare y k frame
  front_spare node frame front =
      let below = front_below (paged_frames y k) node frame kept_stocked front in
      record {
        below = below;
        known = subst (λ n. frame < n) (sym kept.as_many) below;
        place = λ q placed. apart_from_front (paged_frames y k) q node frame frame kept_stocked placed front refl;
      }

-- a page in another frame
module _ (y z : AddressSpacesView) (k taken copied left : FramesView) (page : Page) (node from to : ℕ) where
  pub restocked_both : z ≡ with_moved y page to → taken ≡ record k { free = slice_set k.free node (drop 1 (free_on k node)) } → copied ≡ record taken { frames = slice_set taken.frames to (Some (bytes_of taken.frames from)) }
      → left ≡ record copied { vacated = copied.vacated ++ from ∷ [] } → slice_get (free_on k node) 0 ≡ Some to → paged_frames z left ≡ restock_page (paged_frames y k) page from node
  restocked_both e a b c front =
      let free : FramesView = record k { free = slice_set k.free node (drop 1 (free_on k node)) } in
      let copy : FramesView → FramesView = λ s. record s { frames = slice_set s.frames to (Some (bytes_of s.frames from)) } in
      let leave : FramesView → FramesView = λ s. record s { vacated = s.vacated ++ from ∷ [] } in
      let all : left ≡ leave (copy free) = c ∙ ap leave (b ∙ ap copy a) in
      ap (λ (w : AddressSpacesView). paged_frames w left) e
      ∙ ap (paged_frames (with_moved y page to)) all
      ∙ ap (λ f. paged_frames (with_moved y page f) (leave (record free { frames = slice_set k.frames f (Some (bytes_of k.frames from)) }))) (sym (index_front (free_on k node) to front))

-- a new page
module _ (y z : AddressSpacesView) (k taken zeroed : FramesView) (pid v : ℕ) (p : Process) (page : Page) (node frame : ℕ) where
  pub stocked_both : z ≡ with_new_page y pid p v page frame → taken ≡ record k { free = slice_set k.free node (drop 1 (free_on k node)) } → zeroed ≡ record taken { frames = slice_set taken.frames frame (Some (replicate 4096 0)) }
      → slice_get (free_on k node) 0 ≡ Some frame → paged_frames z zeroed ≡ stock_page (paged_frames y k) page node
  stocked_both e a b front =
      let free : FramesView = record k { free = slice_set k.free node (drop 1 (free_on k node)) } in
      let zero : FramesView → FramesView = λ s. record s { frames = slice_set s.frames frame (Some (replicate 4096 0)) } in
      ap (λ (w : AddressSpacesView). paged_frames w zeroed) e
      ∙ ap (paged_frames (with_new_page y pid p v page frame)) (b ∙ ap zero a)
      ∙ ap (λ f. paged_frames (with_new_page y pid p v page f) (record free { frames = slice_set k.frames f (Some (replicate 4096 0)) })) (sym (index_front (free_on k node) frame front))
