use Rattle.std.proofs.Common.{◌<◌, sym, subst, ◌∙◌}
use Rattle.std.specs.List.{AllByRecursion}
use Rattle.nm_types.specs.Layout.{node_count}
use Rattle.nm_passes.proofs.Policies.NamedNodes.{usable_nodes}
use Rattle.nm_calls.proofs.migrate.migration_of.Goals as goal

pub returns-clause-nodes : goal.returns-clause-nodes
returns-clause-nodes g c =
    let s = c.args.machine.now in
    subst (AllByRecursion (λ n. n < node_count s.layout)) (sym c.in_ok-targets.ensures.targets)
    (usable_nodes s c.in_ok-asked.asked.allowed c.args.request.now.new (sym c.names_missing_node-else-names_missing_node.ensures ∙ c.if-names_missing_node-2.false))
