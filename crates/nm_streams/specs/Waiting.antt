-- Text that is put into a block, which waits there or is written.
use Rattle.std.specs.Prelude.{◌≡◌, ◌+◌, ◌<◌, ◌≤◌, ◌||◌, length, ℕ, Bool, true, false, List, ◌++◌, Option}
use Rattle.std.specs.Io.KnownBytes.{Appends}
use Rattle.nm_streams.specs.declared.block.Block.{Block}

-- `block.is_broken()`
abbrev pub block_broken : {A : Type 0} → Block A → Bool
block_broken b = b.is_broken

-- `block.into_waiting()`
abbrev pub block_waiting : {A : Type 0} → Block A → List ℕ
block_waiting b = b.waiting.items

-- how many bytes wait in a block at most
abbrev pub block_room : {A : Type 0} → Block A → ℕ
block_room b = b.room

-- the written bytes, if known, grow by a prefix of the text that is not all of it
abbrev pub BreaksOff : Option (List ℕ) → Option (List ℕ) → List ℕ → Type 0
BreaksOff old new text = (front : List ℕ) × (rest : List ℕ) × (front ++ rest ≡ text) × (0 < length rest) × Appends old new front

-- the same, and of `before`, the front of the text, at most `most` bytes were not written
abbrev pub BreaksOffSoon : ℕ → Option (List ℕ) → Option (List ℕ) → List ℕ → List ℕ → Type 0
BreaksOffSoon most old new before text =
    (front : List ℕ) × (rest : List ℕ) × (front ++ rest ≡ text) × (0 < length rest) × Appends old new front
    × (length before ≤ length front + most)

-- what became of a text that was put since the writer had the bytes `old`: the writer has a front of it, and the rest
-- waits; or a write has failed, and the text breaks off
abbrev pub Stands : Option (List ℕ) → Option (List ℕ) → Bool → List ℕ → List ℕ → Type 0
Stands old new false waiting text = (front : List ℕ) × (front ++ waiting ≡ text) × Appends old new front
Stands old new true waiting text = BreaksOff old new text

-- a text is put into a block before a writer
pub record Puts {W A : Type 0} (contents : W → Option (List ℕ)) (failed : W → Bool)
    (w : W) (b : Block A) (v : W) (c : Block A) (text : List ℕ) : Type 0 where
  -- this text follows what was put before, counted from any moment
  pub stands : (old : Option (List ℕ)) (so_far : List ℕ) →
      Stands old (contents w) (block_broken b) (block_waiting b) so_far →
      Stands old (contents v) (block_broken c) (block_waiting c) (so_far ++ text)
  -- the block breaks just where the writer fails
  pub fails : (before : Bool) → failed w ≡ (block_broken b || before) → failed v ≡ (block_broken c || before)
  -- the block has as much room as before
  pub room : block_room c ≡ block_room b
  -- and no more waits than it has room for
  pub within : length (block_waiting b) ≤ block_room b → length (block_waiting c) ≤ block_room c
