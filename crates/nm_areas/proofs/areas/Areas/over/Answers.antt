use Rattle.std.proofs.Common.{◌≡◌, ℕ, ◌+◌, ◌≤◌, ◌<◌, subst}
use Rattle.std.specs.Prelude.{Some, IfSome}
use Rattle.nm_types.specs.State.{area_over}
use Rattle.nm_model.specs.definitions.Areas.{Mapping}
use Rattle.nm_areas.proofs.Searched.{found_over}
use Rattle.nm_areas.proofs.areas.Areas.over.Goals as goal

pub returns-clause-over : goal.returns-clause-over
returns-clause-over g c =
    subst (λ (m : Mapping). IfSome c.over.result (λ a. (v : ℕ) → a.0 ≤ v → v < a.0 + a.1.pages → area_over m.areas c.args.pid v ≡ Some ((c.args.pid, a.0), a.1)))
    c.self.view_is (found_over c.self.inside.table.areas c.self.invariant.0.apart c.args.pid c.args.vpn c.over.result c.over.ensures)
