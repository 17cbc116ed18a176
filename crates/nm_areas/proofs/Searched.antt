-- An area that is found covers each of its page numbers.
use Rattle.std.proofs.Common.{◌≡◌, ℕ, ◌+◌, ◌≤◌, ◌<◌, refl, sym, arith, option_map}
use Rattle.std.specs.Prelude.{Option, Some, None, IfSome}
use Rattle.nm_types.specs.declared.area.Area.{Area}
use Rattle.nm_types.specs.Map.{Map, get, spot_cmp}
use Rattle.nm_types.specs.State.{PlacedArea, area_over}
use Rattle.nm_model.specs.definitions.Areas.{AreasAreApart}
use Rattle.nm_model.proofs.areas.Apart.{covers_from}
use Rattle.nm_model.proofs.areas.Parted.{Among, among_over, over_among}
use Rattle.nm_model.proofs.areas.Overs.{get_among}

-- ---- areas that do not overlap

module _ (areas : Map (ℕ × ℕ) Area) (apart : AreasAreApart areas) (pid : ℕ) where
  -- an area covers all of its page numbers
  over_its : (start : ℕ) (x : Area) → Among ((pid, start), x) areas → (v : ℕ) → start ≤ v → v < start + x.pages → area_over areas pid v ≡ Some ((pid, start), x)
  over_its start x m v low high = over_among areas pid v ((pid, start), x) apart m (covers_from ((pid, start), x) pid v refl low high)

  pub over_all : (at start : ℕ) (x : Area) → Some ((pid, start), x) ≡ area_over areas pid at → (v : ℕ) → start ≤ v → v < start + x.pages → area_over areas pid v ≡ Some ((pid, start), x)
  over_all at start x h = over_its start x (among_over areas pid at ((pid, start), x) (sym h)).0

  pub found_over : (at : ℕ) (o : Option (ℕ × Area)) → option_map {U = PlacedArea} (λ found. ((pid, found.0), found.1)) o ≡ area_over areas pid at
      → IfSome o (λ a. (v : ℕ) → a.0 ≤ v → v < a.0 + a.1.pages → area_over areas pid v ≡ Some ((pid, a.0), a.1))
  found_over at None h = tt
  found_over at (Some a) h = over_all at a.0 a.1 h

  pub begun_all : (start : ℕ) (x : Area) → get spot_cmp areas (pid, start) ≡ Some x → (v : ℕ) → start ≤ v → v < start + x.pages → area_over areas pid v ≡ Some ((pid, start), x)
  begun_all start x h = over_its start x (get_among areas (pid, start) x h)

-- an area that covers its page numbers exists
pub over_it : (areas : Map (ℕ × ℕ) Area) (pid start : ℕ) (x : Area) → 0 < x.pages → ((v : ℕ) → start ≤ v → v < start + x.pages → area_over areas pid v ≡ Some ((pid, start), x)) → Among ((pid, start), x) areas
over_it areas pid start x some over = (among_over areas pid start ((pid, start), x) (over start (omega arith) (omega (arith, some)))).0
