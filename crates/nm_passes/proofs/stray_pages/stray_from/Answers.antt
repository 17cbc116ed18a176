use Rattle.nm_model.specs.definitions.Seen.{located_between}
use Rattle.nm_passes.proofs.Policies.StrayPages.{none_strays}
use Rattle.nm_passes.proofs.stray_pages.stray_from.Goals as goal

pub returns-then-not-wants_nodes-clause-none : goal.returns-then-not-wants_nodes-clause-none
returns-then-not-wants_nodes-clause-none g c =
    none_strays c.args.policy.now (located_between c.args.machine.now c.args.pid c.args.first c.args.end) (c.wants_nodes.ensures c.if-not-wants_nodes.true)
