use Rattle.std.proofs.Common.{ℕ, [], sym, subst}
use Rattle.nm_types.specs.Map.{Map}
use Rattle.nm_model.specs.definitions.Areas.{no_areas}
use Rattle.nm_model.specs.definitions.Areas.{Mapping}
use Rattle.nm_rmap.specs.Mappers.{Mappers}
use Rattle.nm_model.specs.definitions.PageTables.{Task}
use Rattle.nm_spaces.specs.definitions.Tied.{IsTied}
use Rattle.nm_spaces.proofs.Boxed.{tied}
use Rattle.nm_spaces.proofs.Tied.Beginnings.{nothing_tied}
use Rattle.nm_spaces.proofs.address_spaces.AddressSpaces.new.Goals as goal

pub invariant_of-result : goal.invariant_of-result
invariant_of-result g c =
    tied c.in_ok-new-2.ensures.ok
    (subst (λ (ts : Map ℕ Task). IsTied ts c.new-2.result c.in_ok-new.field-0) (sym c.new.ensures)
    (subst (λ (m : Mapping). IsTied [] m c.in_ok-new.field-0) (sym c.new-2.ensures)
    (subst (λ (r : Mappers). IsTied [] no_areas r) (sym c.in_ok-new.ensures.ok) (nothing_tied c.args.frames))))
