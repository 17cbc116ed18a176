use Rattle.std.proofs.Common.{◌≡◌, ◌<◌, ◌-◌, ◌++◌, ℕ, List, ap, sym, subst, ◌∙◌, arith, drop, false}
use Rattle.std.specs.Prelude.{slice_index_or, sum}
use Rattle.nm_types.specs.Layout.{owner}
use Rattle.nm_types.specs.Nodes.{is_in}
use Rattle.nm_model.specs.definitions.Frames.{Pool, list_of, with_list, with_front}
use Rattle.nm_model.specs.definitions.BeforeCopy.{frames_taken}
use Rattle.nm_pool.proofs.FreeLists.Returned.{left_from, can_left, one_back, there_now}
use Rattle.nm_pool.proofs.frames.return_tos.Goals as goal

pub prepend-requires-clause-frame : goal.prepend-requires-clause-frame
prepend-requires-clause-frame g c =
    let item = (slice_index_or c.args.moves.now (c.loop-left.left - 1) c.index-moves-left.result).to in
    let can = can_left c.args.moves.now c.loop-left.left c.index-moves-left.result c.args.nodes.now c.args.node c.loop-left-test.true c.loop-left.invariant.few c.requires.can in
    subst (λ (q : Pool). item < sum q.sizes) (sym c.loop-left.invariant.nodes) can.0

pub prepend-requires-clause-taken : goal.prepend-requires-clause-taken
prepend-requires-clause-taken g c =
    let item = (slice_index_or c.args.moves.now (c.loop-left.left - 1) c.index-moves-left.result).to in
    let p = c.args.nodes.now in
    let node = c.args.node in
    let can = can_left c.args.moves.now c.loop-left.left c.index-moves-left.result p node c.loop-left-test.true c.loop-left.invariant.few c.requires.can in
    subst (λ (q : Pool). is_in (list_of q (owner q.sizes item)) item ≡ false) (sym c.loop-left.invariant.nodes)
    (there_now p node (drop c.loop-left.left (frames_taken c.args.moves.now) ++ list_of p node) item c.requires.node can.1 can.2)

pub loop-left-preserved : goal.loop-left-preserved
loop-left-preserved g c =
    let item = (slice_index_or c.args.moves.now (c.loop-left.left - 1) c.index-moves-left.result).to in
    let p = c.args.nodes.now in
    let node = c.args.node in
    let can = can_left c.args.moves.now c.loop-left.left c.index-moves-left.result p node c.loop-left-test.true c.loop-left.invariant.few c.requires.can in
    record {
      nodes = c.prepend.ensures ∙ ap (λ (q : Pool). with_front q item) c.loop-left.invariant.nodes
          ∙ one_back p node (drop c.loop-left.left (frames_taken c.args.moves.now) ++ list_of p node) item c.requires.node can.1
          ∙ ap (λ (xs : List ℕ). with_list p node (xs ++ list_of p node)) (sym (left_from c.args.moves.now c.loop-left.left c.index-moves-left.result c.loop-left-test.true c.loop-left.invariant.few));
      few = omega (arith, c.loop-left.invariant.few);
    }
