-- A store of frames after one frame has changed.
use Rattle.std.proofs.Common.{◌≡◌, ℕ, zero, suc, ◌<◌, List, [], ◌∷◌, Bool, true, false, refl, sym, ap, ◌∙◌, IsSome, map, replicate}
use Rattle.std.specs.Prelude.{Option, Some, None, slice_index, slice_index_or, slice_set, unwrap_or, if◌then◌else◌, is_some, ◌||◌}
use Rattle.std.proofs.lemmas.List.{map-set, get_or-replicate}
use Rattle.std.proofs.Math.Seq.{map-set_same}
use Rattle.nm_model.specs.definitions.Frames.{Store}
use Rattle.nm_frames.specs.Stores.{FrameView, StoreView}

abbrev bytes_of_frame : FrameView → Option (List ℕ)
bytes_of_frame f = f.bytes

abbrev has : FrameView → Bool
has f = f.has_buffer

-- a store with these frames
abbrev pub shown : List FrameView → StoreView
shown frames = record { bytes = map (λ (f : FrameView). f.bytes) frames; buffers = map (λ (f : FrameView). f.has_buffer) frames }

abbrev of_bytes : List Bool → Store → StoreView
of_bytes buffers bytes = record { bytes = bytes; buffers = buffers }

-- a frame gets other bytes, or none
pub bytes_set : (frames : List FrameView) (i : ℕ) (old new : FrameView) (bytes : Option (List ℕ)) (s : StoreView) → old ≡ slice_index_or frames i old → new ≡ record { bytes = bytes; has_buffer = old.has_buffer } → shown frames ≡ s
    → shown (slice_set frames i new) ≡ record s { bytes = slice_set s.bytes i bytes }
bytes_set frames i old new bytes s there is e =
    ap (of_bytes (map has (slice_set frames i new))) (map-set bytes_of_frame frames i new ∙ ap (λ f. slice_set (map bytes_of_frame frames) i (bytes_of_frame f)) is)
    ∙ ap (λ buffers. of_bytes buffers (slice_set (map bytes_of_frame frames) i bytes)) (map-set_same has frames i new old (ap has is ∙ ap has there))
    ∙ ap (λ (v : StoreView). record v { bytes = slice_set v.bytes i bytes }) e

-- a frame gets its buffer
pub buffer_set : (frames : List FrameView) (i : ℕ) (old new : FrameView) (s : StoreView) → old ≡ slice_index_or frames i old → new ≡ record { bytes = old.bytes; has_buffer = true } → shown frames ≡ s
    → shown (slice_set frames i new) ≡ record s { buffers = slice_set s.buffers i true }
buffer_set frames i old new s there is e =
    ap (of_bytes (map has (slice_set frames i new))) (map-set_same bytes_of_frame frames i new old (ap bytes_of_frame is ∙ ap bytes_of_frame there))
    ∙ ap (λ buffers. of_bytes buffers (map bytes_of_frame frames)) (map-set has frames i new ∙ ap (λ f. slice_set (map has frames) i (has f)) is)
    ∙ ap (λ (v : StoreView). record v { buffers = slice_set v.buffers i true }) e

-- frames that are all alike
map_alike : {X Y : Type 0} (f : X → Y) (n : ℕ) (x : X) → map f (replicate n x) ≡ replicate n (f x)
map_alike f zero x = refl
map_alike f (suc n) x = ap (λ ys. f x ∷ ys) (map_alike f n x)

pub alike : (frames : List FrameView) (n : ℕ) (f : FrameView) → frames ≡ replicate n f → shown frames ≡ record { bytes = replicate n f.bytes; buffers = replicate n f.has_buffer }
alike frames n f is =
    ap shown is
    ∙ ap (of_bytes (map has (replicate n f))) (map_alike bytes_of_frame n f)
    ∙ ap (λ buffers. of_bytes buffers (replicate n f.bytes)) (map_alike has n f)

-- a byte of a frame that has no buffer is zero
pub zero_there : (is_out : Bool) (buffer : Option (List ℕ)) (f : FrameView) (i : ℕ) → record { bytes = if is_out then None else Some (unwrap_or buffer (replicate 4096 0)); has_buffer = is_out || is_some buffer } ≡ f
    → buffer ≡ None → IsSome f.bytes → i < 4096 → 0 ≡ slice_index (unwrap_or f.bytes []) i
zero_there true buffer f i is none home inside = absurd (cc)
zero_there false buffer f i is none home inside =
    sym (get_or-replicate 4096 i 0 0 inside) ∙ ap (λ b. slice_index (unwrap_or b (replicate 4096 0)) i) (sym none) ∙ ap (λ (v : FrameView). slice_index (unwrap_or v.bytes []) i) is
