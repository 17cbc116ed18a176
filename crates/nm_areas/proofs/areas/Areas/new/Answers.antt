use Rattle.std.proofs.Common.{ℕ, [], refl, sym, ap, subst, ◌∙◌}
use Rattle.std.specs.List.Sorted.{IsStrictlySortedBy}
use Rattle.nm_types.proofs.Cases.{none_some}
use Rattle.nm_types.specs.declared.page.Page.{Page}
use Rattle.nm_types.specs.Map.{Map}
use Rattle.nm_coverage.specs.declared.step.Step.{Step}
use Rattle.nm_areas.specs.Coverage.{IsCoverage}
use Rattle.nm_model.specs.definitions.Areas.{IsWellFormed, mapping_of}
use Rattle.nm_model.specs.views.Table.{Table}
use Rattle.nm_areas.proofs.areas.Areas.new.Goals as goal

-- no areas
abbrev none : Table
none = record { areas = []; segments = []; next = 0 }

none_mapped : IsWellFormed (mapping_of none [])
unfolding IsStrictlySortedBy
none_mapped = record {
  ordered = tt;
  apart = tt;
  whole = tt;
  low = tt;
  indices = tt;
  named = tt;
  below = tt;
  numbers = tt;
  lengths = tt;
  shown = tt;
  once = λ pid v q w p first second private. absurd (none_some first);
  places = tt;
}

none_covered : IsCoverage [] none.segments none.areas
none_covered p = refl

pub invariant_of-result : goal.invariant_of-result
invariant_of-result g c = (
  subst (λ (t : Table). IsWellFormed (mapping_of t c.new-3.result.entries)) (sym c.new.ensures) (subst (λ (place : Map Page ℕ). IsWellFormed (mapping_of none place)) (sym c.new-3.ensures.empty) none_mapped),
  subst (λ (t : Table). IsCoverage c.new-2.result t.segments t.areas) (sym c.new.ensures) (subst (λ (steps : Map Page Step). IsCoverage steps none.segments none.areas) (sym c.new-2.ensures) none_covered),
)

pub returns : goal.returns
returns g c = ap (λ (t : Table). mapping_of t c.new-3.result.entries) c.new.ensures ∙ ap (λ (place : Map Page ℕ). mapping_of none place) c.new-3.ensures.empty
