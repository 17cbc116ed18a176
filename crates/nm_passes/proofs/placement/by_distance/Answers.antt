use Rattle.std.proofs.Common.{◌≤◌, length, sym, subst, arith}
use Rattle.nm_laws.proofs.Soundness.Online.{set_is_few}
use Rattle.nm_passes.proofs.Policies.Nodes.{tried_few}
use Rattle.nm_passes.proofs.placement.by_distance.Goals as goal

pub prove-unreachable-requires : goal.prove-unreachable-requires
prove-unreachable-requires g c = omega (arith, set_is_few c.online-online.result c.len.ensures.nodes, c.len.ensures.count, c.if-prove.true)

pub returns-clause-few : goal.returns-clause-few
returns-clause-few g c =
    subst (λ l. length l ≤ 64) (sym c.in_ok-order.ensures.order)
    (tried_few c.geometry.result.now c.online-online.result c.args.home c.args.nodes (set_is_few c.online-online.result c.len.ensures.nodes))
