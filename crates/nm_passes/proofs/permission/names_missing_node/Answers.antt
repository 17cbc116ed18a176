use Rattle.std.proofs.Common.{ap, ◌∙◌}
use Rattle.std.specs.Prelude.{nat_le}
use Rattle.std.specs.List.{list_any}
use Rattle.nm_types.specs.Layout.{node_count}
use Rattle.nm_passes.proofs.permission.names_missing_node.Goals as goal

pub returns : goal.returns
returns g c =
    c.has_beyond.ensures
    ∙ ap (λ k. list_any (nat_le k) c.args.nodes) (c.node_count.ensures.count ∙ ap node_count c.geometry.ensures.geometry)
