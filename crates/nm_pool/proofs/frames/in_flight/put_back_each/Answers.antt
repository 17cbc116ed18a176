use Rattle.std.proofs.Common.{ap, sym, subst, ◌∙◌}
use Rattle.std.specs.Prelude.{Some}
use Rattle.nm_model.specs.definitions.Frames.{Store, IsOut}
use Rattle.nm_pool.specs.views.Copies.{CanRefill, with_jobs_back, with_buf}
use Rattle.nm_pool.specs.views.Frames.{in_memory}
use Rattle.nm_pool.proofs.Copies.Copied.{refilled_last, can_last}
use Rattle.nm_pool.proofs.InMemory.{out, bytes_set}
use Rattle.nm_pool.proofs.frames.in_flight.put_back_each.Goals as goal

pub put_back-requires : goal.put_back-requires
put_back-requires g c =
    let job = c.in-Some.job in
    let store = in_memory c.loop-job.frames in
    let last = can_last c.pop.new.self.items job store (subst (CanRefill store) c.in-Some.ensures.items c.loop-job.invariant.can) in
    out c.loop-job.frames job.source.0 last.0

pub put_back-requires-in-Some : goal.put_back-requires-in-Some
put_back-requires-in-Some g c =
    let job = c.in-Some.job in
    let store = in_memory c.loop-job.frames in
    let last = can_last c.pop.new.self.items job store (subst (CanRefill store) c.in-Some.ensures.items c.loop-job.invariant.can) in
    let mid = bytes_set c.loop-job.frames job.source.0 c.put_back.new.self (Some job.source.1) c.put_back.ensures.buffer c.put_back.ensures.home in
    out c.put_back.new.self job.target.0 (subst (λ (s : Store). IsOut s job.target.0) (sym mid) last.1)

pub loop-job-preserved : goal.loop-job-preserved
loop-job-preserved g c =
    let job = c.in-Some.job in
    let rest = c.pop.new.self.items in
    let store = in_memory c.loop-job.frames in
    let items = c.in-Some.ensures.items in
    let mid = bytes_set c.loop-job.frames job.source.0 c.put_back.new.self (Some job.source.1) c.put_back.ensures.buffer c.put_back.ensures.home in
    let end = bytes_set c.put_back.new.self job.target.0 c.put_back-in-Some.new.self (Some job.target.1) c.put_back-in-Some.ensures.buffer c.put_back-in-Some.ensures.home in
    let now = end ∙ ap (λ (s : Store). with_buf s job.target) mid in
    record {
      can = subst (λ (s : Store). CanRefill s rest) (sym now) (can_last rest job store (subst (CanRefill store) items c.loop-job.invariant.can)).2;
      frames = ap (λ (s : Store). with_jobs_back s rest) now ∙ sym (refilled_last rest job store) ∙ ap (with_jobs_back store) (sym items) ∙ c.loop-job.invariant.frames;
      room = c.pop.ensures.capacity ∙ c.loop-job.invariant.room;
    }
