use Rattle.std.proofs.Common.{ap, arith, length, rules, ◌++◌, ◌∙◌}
use Rattle.std.specs.Map.{values_of}
use Rattle.nm_areas.proofs.Listed.{one_listed, all_listed}
use Rattle.nm_areas.proofs.places.list_frames.Goals as goal

pub loop-frame-init : goal.loop-frame-init
loop-frame-init g c =
    let left = c.into_iter-frame-iterator.ensures.into_iter_gives ∙ c.values-frame-items.ensures.rest in
    let many = ap length left in
    let all = ap length c.values-frame-items.ensures.rest in
    record {
      frames = ap (λ xs. xs ++ c.into_iter-frame-iterator.result) c.in_ok-frames.ensures.items ∙ left;
      room = omega (arith, c.in_ok-frames.ensures.len, c.in_ok-frames.ensures.capacity, c.len.ensures.len, c.values-frame-items.ensures.len, all, many);
    }

pub push_reserved-requires : goal.push_reserved-requires
push_reserved-requires g c =
    let one = ap length c.in-Some.ensures.steps in
    omega (arith, one, c.loop-frame.invariant.room)

pub loop-frame-preserved : goal.loop-frame-preserved
loop-frame-preserved g c =
    let one = ap length c.in-Some.ensures.steps in
    record {
      frames = one_listed c.loop-frame.frames.items c.push_reserved.new.self.items c.loop-frame.frame-iterator c.next.new.self (values_of c.args.places.now.entries) _ c.loop-frame.invariant.frames c.in-Some.ensures.steps c.push_reserved.ensures.items;
      room = omega (arith, one, c.loop-frame.invariant.room, c.push_reserved.ensures.len, c.push_reserved.ensures.capacity);
    }

pub returns-clause-frames : goal.returns-clause-frames
returns-clause-frames g c = all_listed c.loop-frame.frames.items c.loop-frame.frame-iterator (values_of c.args.places.now.entries) c.loop-frame.invariant.frames c.in-None.ensures.steps.0

pub returns-in_err-frames-clause-allocates : goal.returns-in_err-frames-clause-allocates
returns-in_err-frames-clause-allocates g c = search rules
