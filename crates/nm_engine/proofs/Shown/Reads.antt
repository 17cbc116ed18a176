-- What a process reads of a frame, and of the page of zeros.
use Rattle.std.proofs.Common.{◌≡◌, ℕ, ◌+◌, ◌/◌, ◌%◌, ◌≤◌, List, [], ap, ◌∙◌}
use Rattle.std.specs.Prelude.{Some, slice_index, replicate}
use Rattle.std.specs.Option.{unwrap_or, option_map}
use Rattle.nm_types.specs.declared.sight.Sight.TheVariants.{ZeroPage}
use Rattle.nm_types.specs.Map.{Map, get, page_cmp}
use Rattle.nm_types.specs.State.{Process}
use Rattle.nm_model.specs.definitions.Frames.{bytes_of}
use Rattle.nm_model.specs.definitions.Seen.{sight_at, frame_seen}
use Rattle.nm_model.specs.definitions.Memory.{byte_of, mem_range, stretch_of}
use Rattle.nm_engine.specs.views.Shown.{PagedFrames}
use Rattle.nm_model.specs.views.Table.{Table}
use Rattle.nm_engine.specs.views.Shown.{state_of_parts}
use Rattle.nm_model.specs.definitions.Sound.{IsSoundInFlight}
use Rattle.nm_types.proofs.Maps.{exact_page, get-values}
use Rattle.nm_laws.proofs.Seen.Frames.{page_of_frame}
use Rattle.nm_laws.proofs.Seen.Ranges.{range_here, zeros_here, parted, zero_has_none}

-- what a process reads at an address inside a page
module _ (tasks : Map ℕ Process) (m : Table) (x : PagedFrames) (online : List ℕ) (moved failed : ℕ) (l : List ℕ) (h : IsSoundInFlight (state_of_parts tasks m x online moved failed) l) (pid address len : ℕ) (fits : address % 4096 + len ≤ 4096) where
  pub reads_frame : (f : ℕ) → frame_seen (state_of_parts tasks m x online moved failed) pid (address / 4096) ≡ Some f
      → mem_range (state_of_parts tasks m x online moved failed) pid address len ≡ stretch_of (bytes_of x.frames f) (address % 4096) len
  reads_frame f seen =
      let page = page_of_frame x.place (sight_at (state_of_parts tasks m x online moved failed) pid (address / 4096)) f seen in
      let at = (h.shown pid (address / 4096) page.0 page.1).0 in
      let bytes : get page_cmp (state_of_parts tasks m x online moved failed).bytes page.0 ≡ Some (bytes_of x.frames f) =
      get-values exact_page (λ q g. bytes_of x.frames g) x.place page.0 ∙ ap (option_map (bytes_of x.frames)) page.2 in
      ap (λ a. mem_range (state_of_parts tasks m x online moved failed) pid a len) (parted address)
      ∙ range_here (state_of_parts tasks m x online moved failed) pid (address / 4096) page.0 at (bytes_of x.frames f)
      (λ i. ap (λ o. byte_of (state_of_parts tasks m x online moved failed) page.0 o i) page.2 ∙ ap (λ o. slice_index (unwrap_or o []) i) bytes) (address % 4096) len fits

  pub reads_zeros : sight_at (state_of_parts tasks m x online moved failed) pid (address / 4096) ≡ Some ZeroPage → mem_range (state_of_parts tasks m x online moved failed) pid address len ≡ replicate len 0
  reads_zeros seen =
      let page = zero_has_none (state_of_parts tasks m x online moved failed) l pid (address / 4096) h seen in
      ap (λ a. mem_range (state_of_parts tasks m x online moved failed) pid a len) (parted address)
      ∙ zeros_here (state_of_parts tasks m x online moved failed) pid (address / 4096) page.0 page.1 page.2 (address % 4096) len fits
