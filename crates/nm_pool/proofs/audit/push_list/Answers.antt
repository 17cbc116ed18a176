use Rattle.std.proofs.Common.{sym}
use Rattle.nm_model.specs.definitions.Frames.{list_of}
use Rattle.nm_laws.proofs.Soundness.Audits.{pushed_more}
use Rattle.nm_pool.proofs.audit.push_list.Goals as goal

pub loop-k-preserved : goal.loop-k-preserved
loop-k-preserved g c =
    pushed_more c.args.node (list_of c.args.nodes.now c.args.node) c.loop-k.k c.in-Some.frame c.args.free.now.items c.loop-k.free.items c.push.new.self.items (sym c.in-Some.ensures) c.loop-k.invariant c.in_ok-push.ensures.items
