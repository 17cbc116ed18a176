-- Frames that have their bytes in memory, where one without its buffer has none.
use Rattle.std.specs.Prelude.{◌≡◌, ℕ, length}
use Rattle.nm_model.specs.definitions.Frames.{Store, bytes_of}

-- a frame's 4,096 bytes are in memory
abbrev pub IsPopulated : Store → ℕ → Type 0
IsPopulated store frame = length (bytes_of store frame) ≡ 4096
