-- Frames that are freed, one after another.
use Rattle.std.proofs.Common.{◌≡◌, ℕ, List, [], ◌∷◌, ◌++◌, length, refl, ◌∙◌, length-set}
use Rattle.std.specs.Prelude.{slice_index_or}
use Rattle.nm_types.specs.Layout.{owner}
use Rattle.nm_model.specs.definitions.Frames.{Store, IsHome, bytes_of, all_frames}
use Rattle.nm_model.specs.definitions.Frames as pool
use Rattle.nm_pool.specs.views.Frames.{with_freed}

-- the number of lists is the same after frames were freed
pub lists_stay : (p : pool.Pool) (frames : List ℕ) → length (with_freed p frames).lists ≡ length p.lists
lists_stay p [] = refl
lists_stay p (frame ∷ frames) = lists_stay (pool.with_back p frame) frames ∙ length-set p.lists (owner p.sizes frame) (slice_index_or p.lists (owner p.sizes frame) [] ++ frame ∷ [])

pub sizes_stay : (p : pool.Pool) (frames : List ℕ) → (with_freed p frames).sizes ≡ p.sizes
sizes_stay p [] = refl
sizes_stay p (frame ∷ frames) = sizes_stay (pool.with_back p frame) frames
