use Rattle.std.proofs.Common.{Err, ap, ◌∙◌}
use Rattle.numatrace_session.proofs.Replied.{fault_replied, lines_are, made_is, memory_of_step, memory_replied, no_memory, replied}
use Rattle.numatrace_session.proofs.reply.Goals as goal

pub returns-in-Ok-clause-replies : goal.returns-in-Ok-clause-replies
returns-in-Ok-clause-replies g c =
    let made = c.in-Ok.ensures.steps in
    let is = lines_are c.args.session.now c.args.step.now c.as_slice.result.now made.0 made.1 (c.as_slice.ensures.value ∙ made.2) in
    replied c.args.session.now c.step.new.self c.args.step.now _ _ _ _ _ c.put_both.result is (made_is _ _ c.args.step.now made.0 made.1 made.3) c.put_both.ensures

pub returns-in-Err-clause-replies : goal.returns-in-Err-clause-replies
returns-in-Err-clause-replies g c =
    fault_replied _ _ c.args.step.now c.in-Err.fault _ _ _ _ c.put_fault.result c.in-Err.ensures.steps c.put_fault.ensures

pub returns-in-Ok-clause-allocates : goal.returns-in-Ok-clause-allocates
returns-in-Ok-clause-allocates g c is_so = absurd (no_memory _ _ _ _ _ c.put_both.result c.put_both.ensures is_so)

pub returns-in-Err-clause-allocates : goal.returns-in-Err-clause-allocates
returns-in-Err-clause-allocates g c is_so =
    let memory = memory_replied c.in-Err.fault _ _ _ _ c.put_fault.result c.put_fault.ensures is_so in
    c.in-Err.ensures.allocates (ap Err (memory_of_step _ _ c.args.step.now c.in-Err.fault memory.0 c.in-Err.ensures.steps memory.1))
