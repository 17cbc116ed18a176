use Rattle.std.proofs.Common.{sym, ◌∙◌}
use Rattle.nm_spaces.proofs.ProcessTable.Places.{key_there, value_there, other_there, none_there}
use Rattle.nm_spaces.proofs.process_table.stands_at.Goals as goal

pub returns-in-Some-clause-key : goal.returns-in-Some-clause-key
returns-in-Some-clause-key g c same =
    key_there c.args.tasks.now.entries _ c.args.pid (c.in-Some.there.now, c.in-Some.field-0-1.now) c.in-Some.ensures.entry (sym c.eq.ensures ∙ same)

pub returns-in-Some-clause-value : goal.returns-in-Some-clause-value
returns-in-Some-clause-value g c same =
    value_there c.args.tasks.now.entries _ c.args.pid (c.in-Some.there.now, c.in-Some.field-0-1.now) c.in-Some.ensures.entry (sym c.eq.ensures ∙ same) c.in-Some.ensures.value

pub returns-in-Some-clause-other : goal.returns-in-Some-clause-other
returns-in-Some-clause-other g c other =
    other_there c.args.tasks.now.entries _ c.args.pid (c.in-Some.there.now, c.in-Some.field-0-1.now) c.in-Some.ensures.entry (sym c.eq.ensures ∙ other)

pub returns-in-None-clause-other : goal.returns-in-None-clause-other
returns-in-None-clause-other g c other = none_there c.args.tasks.now.entries _ c.args.pid c.in-None.ensures.entry
