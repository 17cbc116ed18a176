-- A worked example of the steps: a process shows pages 0 to 2 of a segment, and another pages 2 and 3 of it.
use Rattle.std.proofs.Common.{◌≡◌, ℕ, [], ◌∷◌, refl}
use Rattle.nm_types.specs.declared.page.Page.{Page}
use Rattle.nm_types.specs.declared.area.Area.{Area}
use Rattle.nm_types.specs.Map.{Map, get, page_cmp}
use Rattle.nm_coverage.specs.declared.step.Step.{Step}
use Rattle.nm_areas.specs.Coverage.{step_at, ends_at, covers_at}
use Rattle.nm_model.specs.definitions.Areas.{new_area}
use Rattle.nm_model.specs.definitions.Areas.{page_in}

abbrev two : Map (ℕ × ℕ) Area
two = ((1, 16), new_area 7 0 3) ∷ ((2, 16), new_area 7 2 2) ∷ []

abbrev step : ℕ → ℕ → Step
step covers ends = record { covers = covers; ends = ends }

-- both cover page 2, none covers a page after 3, and there is no step after page 4
abbrev their_steps : Map Page Step
their_steps = (page_in 7 0, step 1 1) ∷ (page_in 7 2, step 2 1) ∷ (page_in 7 3, step 1 1) ∷ (page_in 7 4, step 0 1) ∷ []

abbrev Agrees : ℕ → Type 0
Agrees i = get page_cmp their_steps (page_in 7 i) ≡ step_at (ends_at two (page_in 7 i)) (covers_at two (page_in 7 i))

pub they_agree : Agrees 0 × Agrees 1 × Agrees 2 × Agrees 3 × Agrees 4 × Agrees 5
they_agree = (refl, refl, refl, refl, refl, refl)
