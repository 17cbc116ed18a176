use Rattle.std.proofs.Common.{[], ◌++◌, ap, ◌∙◌, arith, get_or}
use Rattle.std.specs.Prelude.{map}
use Rattle.nm_model.specs.definitions.Sound.{with_numbers}
use Rattle.nm_laws.proofs.Soundness.Audits.{beside, listed_more}
use Rattle.nm_pool.proofs.audit.free_frames.Goals as goal

pub loop-node-preserved : goal.loop-node-preserved
loop-node-preserved g c =
    let lists = c.args.nodes.now.lists in
    listed_more lists c.loop-node.node c.loop-node.free.items c.push_list.new.free.items (with_numbers 0 lists) (omega (arith, c.loop-node-test.true, c.requires.count)) c.loop-node.invariant
    (c.in_ok-push_list.ensures.items ∙ ap (λ m. c.loop-node.free.items ++ map (beside m) (get_or lists m [])) c.new.ensures)
