use Rattle.std.proofs.Common.{◌+◌, ap, sym, subst, ◌∙◌, drop}
use Rattle.std.proofs.Math.ListN.{drop_of_length-le}
use Rattle.nm_model.specs.definitions.Frames.{Pool}
use Rattle.nm_pool.specs.views.Frames.{CanFree, with_freed}
use Rattle.nm_laws.proofs.Lists.{drop_item}
use Rattle.nm_pool.proofs.frames.free_frames.Goals as goal

pub append-requires-clause-frame : goal.append-requires-clause-frame
append-requires-clause-frame g c =
    let at = drop_item c.args.frames.now c.loop-frame.frame-index c.frame-item.result c.loop-frame-test.true c.frame-item.is in
    (subst (CanFree c.loop-frame.nodes) at c.loop-frame.invariant.can).0

pub append-requires-clause-taken : goal.append-requires-clause-taken
append-requires-clause-taken g c =
    let at = drop_item c.args.frames.now c.loop-frame.frame-index c.frame-item.result c.loop-frame-test.true c.frame-item.is in
    (subst (CanFree c.loop-frame.nodes) at c.loop-frame.invariant.can).1

pub loop-frame-preserved : goal.loop-frame-preserved
loop-frame-preserved g c =
    let frames = c.args.frames.now in
    let k = c.loop-frame.frame-index in
    let nodes = c.loop-frame.nodes in
    let rest = drop (k + 1) frames in
    let at = drop_item frames k c.frame-item.result c.loop-frame-test.true c.frame-item.is in
    record {
      can = subst (λ (p : Pool). CanFree p rest) (sym c.append.ensures) (subst (CanFree nodes) at c.loop-frame.invariant.can).2;
      freed = ap (λ (p : Pool). with_freed p rest) c.append.ensures ∙ ap (with_freed nodes) (sym at) ∙ c.loop-frame.invariant.freed;
    }

pub returns : goal.returns
returns g c = ap (with_freed c.loop-frame.nodes) (sym (drop_of_length-le c.args.frames.now c.loop-frame-test.false)) ∙ c.loop-frame.invariant.freed
