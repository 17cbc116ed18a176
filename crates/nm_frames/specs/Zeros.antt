-- Bytes that are zero from one index to another.
use Rattle.std.specs.Prelude.{◌≡◌, ℕ, ◌+◌, ◌-◌, ◌<◌, ◌≤◌, List, slice_index}
use Rattle.nm_frames.specs.declared.gap.Gap.{Gap}

-- the indices of a gap are those from its first to before its end
abbrev pub IsInGap : Gap → ℕ → Type 0
IsInGap gap i = (gap.first ≤ i) × (i < gap.end)

-- a gap is within a frame's 4,096 bytes
abbrev pub FitsFrame : Gap → Type 0
FitsFrame gap = (gap.first ≤ gap.end) × (gap.end ≤ 4096)

-- every byte of a gap is zero
abbrev pub IsZeroIn : List ℕ → Gap → Type 0
IsZeroIn bytes gap = (i : ℕ) → IsInGap gap i → slice_index bytes i ≡ 0

-- all but `size` of a frame's 4,096 bytes are zero, in one stretch, and so are the other frame's bytes there
abbrev pub AreZeroBut : (bytes other : List ℕ) → ℕ → Type 0
AreZeroBut bytes other size =
    (gap : Gap) × FitsFrame gap × IsZeroIn bytes gap × IsZeroIn other gap × (size + (gap.end - gap.first) ≡ 4096)
