-- Numbers that are added to all steps from a page up to the next that has such a number.
use Rattle.std.specs.Prelude.{ℕ, [], ◌∷◌, if◌then◌else◌}
use Rattle.std.specs.Ordering.{is_lt}
use Rattle.nm_types.specs.declared.page.Page.{Page}
use Rattle.nm_types.specs.Map.{Map, page_cmp, with_values}
use Rattle.nm_coverage.specs.declared.step.Step.{Step}
use Rattle.nm_coverage.specs.declared.parts.Part.{Part}
use Rattle.nm_coverage.specs.Shifted.{with_add}

-- the number of the last part that begins at a page or before it, or else the one given
abbrev pub add_from : ℕ → Map Page Part → Page → ℕ
add_from add [] p = add
add_from add (e ∷ parts) p = add_from (if is_lt (page_cmp p e.0) then add else e.1.add) parts p

-- the number that is added at a page
abbrev pub add_at : Map Page Part → Page → ℕ
add_at parts p = add_from 0 parts p

-- the steps, with what is added to them
abbrev pub with_parts : Map Page Step → Map Page Part → Map Page Step
with_parts stored parts = with_values (λ p. with_add (add_at parts p)) stored
