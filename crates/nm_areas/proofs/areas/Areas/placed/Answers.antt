use Rattle.std.proofs.Common.{◌≡◌, ◌<◌, length, subst}
use Rattle.std.specs.Prelude.{IfOk, OnErr}
use Rattle.nm_model.specs.definitions.Areas.{Mapping}
use Rattle.nm_areas.proofs.areas.Areas.placed.Goals as goal

pub returns-clause-placed : goal.returns-clause-placed
returns-clause-placed g c = subst (λ (m : Mapping). IfOk c.list_placed.result (λ placed. placed.items ≡ m.place)) c.self.view_is c.list_placed.ensures.placed

pub returns-clause-allocates : goal.returns-clause-allocates
returns-clause-allocates g c = subst (λ (m : Mapping). OnErr c.list_placed.result (0 < length m.place)) c.self.view_is c.list_placed.ensures.allocates
