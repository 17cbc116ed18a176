use Rattle.std.proofs.Common.{ap, sym, ◌∙◌}
use Rattle.nm_model.specs.definitions.Touch.{has_free}
use Rattle.nm_policy.proofs.Collected.{one_in, one_out}
use Rattle.nm_pool.proofs.frames.FramePool.free_nodes.Goals.{then-has_free, else-has_free}
use Rattle.nm_pool.proofs.frames.FramePool.free_nodes.Goals as goal

pub loop-number-preserved : goal.loop-number-preserved
loop-number-preserved g c =
    let test = has_free c.args.self.now.free in
    let at = ap test c.new-node.ensures in
    elim c.if-has_free.branch [
      | then-has_free w ↦ λ n. rw w.nodes-is (rw w.insert.ensures (rw c.new-node.ensures (one_in test c.loop-number.nodes c.loop-number.number (sym at ∙ sym c.has_free.ensures ∙ w.if-has_free.true) c.loop-number.invariant n)))
      | else-has_free w ↦ λ n. rw w.nodes-is (one_out test c.loop-number.nodes c.loop-number.number (sym at ∙ sym c.has_free.ensures ∙ w.if-has_free.false) c.loop-number.invariant n)
    ]
