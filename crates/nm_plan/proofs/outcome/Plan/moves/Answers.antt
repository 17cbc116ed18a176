use Rattle.std.proofs.Common.{ap, ◌∙◌}
use Rattle.nm_model.specs.definitions.Decide.{RunPlan}
use Rattle.nm_plan.proofs.outcome.Plan.moves.Goals as goal

pub returns : goal.returns
returns g c = c.as_slice.ensures.value ∙ ap (λ (p : RunPlan). p.taken) c.self.view_is
