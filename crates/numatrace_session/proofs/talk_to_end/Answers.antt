use Rattle.numatrace_session.specs.Input.{has_read_failed, left_in}
use Rattle.numatrace_session.proofs.Served.{ends_kept, ends_lost, talks_kept}
use Rattle.numatrace_session.proofs.talk_to_end.Goals as goal

pub returns-clause-talk : goal.returns-clause-talk
returns-clause-talk g c =
    talks_kept (left_in g.R.Read.remaining c.args.input.now) (left_in g.R.Read.remaining c.talk-ended.new.input) (g.W.Write.contents c.args.out.now) (g.W.Write.contents c.talk-ended.new.out) (g.W.Write.contents c.flush_reporting.new.self)
    c.talk-ended.result c.talk-ended.ensures.talk c.in-Ok.ensures.bytes

pub returns-clause-ends : goal.returns-clause-ends
returns-clause-ends g c =
    ends_kept (left_in g.R.Read.remaining c.args.input.now) (left_in g.R.Read.remaining c.talk-ended.new.input) (g.W.Write.contents c.args.out.now) (g.W.Write.contents c.talk-ended.new.out) (g.W.Write.contents c.flush_reporting.new.self)
    (has_read_failed c.talk-ended.new.input) _ _ _ c.talk-ended.result c.talk-ended.ensures.talks c.in-Ok.ensures.bytes c.in-Ok.ensures.failed

pub returns-in_default-clause-ends : goal.returns-in_default-clause-ends
returns-in_default-clause-ends g c =
    ends_lost (left_in g.R.Read.remaining c.args.input.now) (left_in g.R.Read.remaining c.talk-ended.new.input) (g.W.Write.contents c.args.out.now) (g.W.Write.contents c.talk-ended.new.out) (g.W.Write.contents c.flush_reporting.new.self)
    (has_read_failed c.talk-ended.new.input) _ _ _ c.talk-ended.result c.talk-ended.ensures.talk c.talk-ended.ensures.talks c.in_default.ensures.bytes c.in_default.ensures.failed
