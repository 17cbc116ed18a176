use Rattle.std.proofs.Common.{arith}
use Rattle.nm_laws.proofs.Soundness.Online.{set_is_few}
use Rattle.nm_engine.proofs.machine.online.with_or_without.Goals as goal

pub prove-unreachable-requires : goal.prove-unreachable-requires
prove-unreachable-requires c =
    let few = set_is_few c.if-is_in.changed c.len.ensures.nodes in
    omega (arith, few, c.len.ensures.count, c.if-prove.true)
