-- The mappers of a frame, as contracts see them where they are borrowed.
use Rattle.std.specs.Prelude.{List, [], ◌∷◌}
use Rattle.nm_rmap.specs.declared.mappings.FrameMappers.{FrameMappers}
use Rattle.nm_rmap.specs.declared.mappings.FrameMappers.TheVariants.{Lone, Set}
use Rattle.nm_rmap.specs.Mappers.{Mapper}

module _ {A : Type 0} where
  -- a single one, or those of a set
  abbrev pub mappers_shown : FrameMappers A → List Mapper
  mappers_shown (Lone pid vpn) = (pid, vpn) ∷ []
  mappers_shown (Set set) = set.now.keys
