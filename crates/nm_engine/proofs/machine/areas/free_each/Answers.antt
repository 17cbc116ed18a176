use Rattle.std.proofs.Common.{◌≡◌, ◌+◌, drop, ap, sym, subst, ◌∙◌}
use Rattle.nm_model.specs.definitions.Frames.{with_back}
use Rattle.nm_pool.specs.views.Frames.{FramesView, pool_of, CanFree, with_freed}
use Rattle.nm_engine.proofs.MidRun.LostFrames.{frames_of}
use Rattle.nm_laws.proofs.Lists.{drop_item}
use Rattle.nm_engine.proofs.machine.areas.free_each.Goals as goal

pub free-requires : goal.free-requires
free-requires g c =
    let step = drop_item c.args.freed.now c.loop-frame.frame-index c.loop-frame-item.result c.loop-frame-test.true c.loop-frame-item.is in
    let can = subst (λ l. CanFree (pool_of c.loop-frame.frames) (frames_of l)) step c.loop-frame.invariant.can in
    (can.0, can.1, tt)

pub loop-frame-preserved : goal.loop-frame-preserved
loop-frame-preserved g c =
    let step = drop_item c.args.freed.now c.loop-frame.frame-index c.loop-frame-item.result c.loop-frame-test.true c.loop-frame-item.is in
    let rest = drop (c.loop-frame.frame-index + 1) c.args.freed.now in
    let can = subst (λ l. CanFree (pool_of c.loop-frame.frames) (frames_of l)) step c.loop-frame.invariant.can in
    let pool : pool_of c.free.new.self ≡ with_back (pool_of c.loop-frame.frames) c.loop-frame-item.result.1 = ap pool_of c.free.ensures in
    record {
      can = subst (λ p. CanFree p (frames_of rest)) (sym pool) can.2;
      freed = ap (λ p. with_freed p (frames_of rest)) pool ∙ sym (ap (λ l. with_freed (pool_of c.loop-frame.frames) (frames_of l)) step) ∙ c.loop-frame.invariant.freed;
      same = c.free.ensures ∙ ap (λ (k : FramesView). record k { free = (with_back (pool_of c.loop-frame.frames) c.loop-frame-item.result.1).lists }) c.loop-frame.invariant.same
          ∙ ap (λ f. record (c.args.frames.now) { free = f }) (sym (ap (λ (k : FramesView). k.free) c.free.ensures));
    }
