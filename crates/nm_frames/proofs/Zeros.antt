-- Bytes that are zero in a gap.
use Rattle.std.proofs.Common.{◌≡◌, ℕ, ◌+◌, ◌-◌, ◌≤◌, List, length, take, drop, replicate, arith}
use Rattle.std.proofs.lemmas.List.{places}
use Rattle.std.proofs.lemmas.Grind.{same_number_lists}
use Rattle.nm_model.specs.definitions.Frames.{overwrite}
use Rattle.nm_frames.specs.Zeros.{FitsFrame, IsInGap, IsZeroIn}
use Rattle.nm_frames.specs.declared.gap.Gap.{Gap}

-- zeros are zero in any gap
pub zeros_are : (n : ℕ) (gap : Gap) → IsZeroIn (replicate n 0) gap
zeros_are n gap i in_gap = grind (arith, places)

-- there are as many as asked for
pub as_many : (n : ℕ) → length {A = ℕ} (replicate n 0) ≡ n
as_many n = grind (arith, places)

-- both ends of a list, over one that is zero between them as it is, make it that list
pub around : (old bytes : List ℕ) (gap : Gap) → FitsFrame gap → IsZeroIn old gap → IsZeroIn bytes gap → length old ≡ 4096 → length bytes ≡ 4096
    → overwrite (overwrite old 0 (take gap.first bytes)) gap.end (take (4096 - gap.end) (drop gap.end bytes)) ≡ bytes
around old bytes gap fits zero zeros whole same =
    same_number_lists _ _ (grind (arith, places)) (λ k h. grind (arith, places, zero k, zeros k))

-- what is left of a gap is zero once bytes were written, as none of them is in it
pub still_zero : (old new : List ℕ) (at : ℕ) (gap left : Gap) → length old ≡ 4096 → at + length new ≤ 4096 → IsZeroIn old gap
    → ((i : ℕ) → IsInGap left i → IsInGap gap i × (at ≤ i → at + length new ≤ i)) → (length (overwrite old at new) ≡ 4096) × IsZeroIn (overwrite old at new) left
still_zero old new at gap left whole inside zero apart =
    (grind (arith, places), λ i is_in. grind (arith, places, zero i (apart i is_in).0, (apart i is_in).1))
