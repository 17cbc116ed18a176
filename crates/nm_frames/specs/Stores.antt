-- What a store of frames holds.
use Rattle.std.specs.Prelude.{◌≡◌, ℕ, List, Bool, true, false, replicate, slice_index_or, Option, Some}
use Rattle.nm_model.specs.definitions.Frames.{Store}

-- one frame of a store
pub record FrameView : Type 0 where
  -- its 4,096 bytes, which are zeros until it has its buffer, or None while they are out
  pub bytes : Option (List ℕ)
  -- whether it has its buffer, home or out
  pub has_buffer : Bool

-- all frames of a store
pub record StoreView : Type 0 where
  -- the bytes of each frame, or None while they are out
  pub bytes : Store
  -- whether each frame has its buffer
  pub buffers : List Bool

-- a frame has its buffer
abbrev pub HasBuffer : StoreView → ℕ → Type 0
HasBuffer store frame = slice_index_or store.buffers frame false ≡ true

-- so many frames that read as zeros, with their buffers or without
abbrev pub frames_of_zeros : ℕ → Bool → StoreView
frames_of_zeros count has_buffer =
    record { bytes = replicate count (Some (replicate 4096 0)); buffers = replicate count has_buffer }
