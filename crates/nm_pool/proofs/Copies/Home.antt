-- A frame's bytes that go out and come back.
use Rattle.std.proofs.Common.{◌≡◌, ℕ, ◌≢◌, List, [], refl, sym, ap, ◌∙◌, IsSome}
use Rattle.std.specs.Prelude.{Option, Some, None, slice_index_or, slice_set}
use Rattle.std.specs.Option.{unwrap_or}
use Rattle.std.proofs.lemmas.List.{set_comm, set-set, set-get_or}
use Rattle.nm_model.specs.definitions.Frames.{Store, IsHome, bytes_of}

-- a frame's bytes go out and come back, and another frame's with them
pub copied_frame : (frames : Store) (from to : ℕ) (bytes : List ℕ) → from ≢ to → slice_index_or frames from None ≡ Some bytes
    → slice_set (slice_set (slice_set (slice_set frames from None) to None) from (Some bytes)) to (Some bytes) ≡ slice_set frames to (Some bytes)
copied_frame frames from to bytes apart is =
    let home : slice_set frames from (Some bytes) ≡ frames = ap (λ o. slice_set frames from o) (sym is) ∙ set-get_or frames from None in
    ap (λ fs. slice_set fs to (Some bytes))
    (sym (set_comm (slice_set frames from None) from to (Some bytes) None apart) ∙ (ap (λ fs. slice_set fs to None) (set-set frames from None (Some bytes)) ∙ ap (λ fs. slice_set fs to None) home))
    ∙ set-set frames to None (Some bytes)

unwrapped : (o : Option (List ℕ)) → IsSome o → o ≡ Some (unwrap_or o [])
unwrapped None h = cc
unwrapped (Some x) h = refl

pub home_bytes : (frames : Store) (frame : ℕ) → IsHome frames frame → slice_index_or frames frame None ≡ Some (bytes_of frames frame)
home_bytes frames frame h = unwrapped (slice_index_or frames frame None) h.here
