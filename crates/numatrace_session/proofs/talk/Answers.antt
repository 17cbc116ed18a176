use Rattle.std.proofs.Common.{rules, ◌≡◌, ℕ, List, Ok, Err, subst}
use Rattle.numatrace_session.specs.Input.{has_read_failed, left_in}
use Rattle.nm_trace.specs.definitions.Session.{session_of}
use Rattle.numatrace_session.specs.Ends.{Begins}
use Rattle.numatrace_session.specs.Replies.{EndsTalk}
use Rattle.numatrace_session.proofs.Early.{ends_begun, first_unread, if_err, unbegun}
use Rattle.numatrace_session.proofs.Lines.{talked}
use Rattle.numatrace_session.proofs.Served.{reaches_end}
use Rattle.numatrace_session.proofs.talk.Goals as goal

pub returns-clause-talk : goal.returns-clause-talk
returns-clause-talk g c =
    talked c.in_ok-session.session _ (left_in g.R.Read.remaining c.args.input.now) (left_in g.R.Read.remaining c.next_line.new.input) (left_in g.R.Read.remaining c.reply_to_lines.new.input) (g.W.Write.contents c.args.out.now) (g.W.Write.contents c.reply_to_lines.new.out)
    c.next_line.new.line.items c.reply_to_lines.result (subst (λ (x : List ℕ). session_of x ≡ Ok c.in_ok-session.session) c.as_slice.ensures.value c.in_ok-session.ensures) c.in_ok-next_line.ensures.line c.in_ok-next_line.ensures.rest c.reply_to_lines.ensures.lines

pub returns-clause-end : goal.returns-clause-end
returns-clause-end g c =
    reaches_end (left_in g.R.Read.remaining c.args.input.now) (left_in g.R.Read.remaining c.next_line.new.input) (left_in g.R.Read.remaining c.reply_to_lines.new.input)
    c.reply_to_lines.result c.in_ok-next_line.ensures.rest c.reply_to_lines.ensures.end

pub returns-clause-talks : goal.returns-clause-talks
returns-clause-talks g c =
    ends_begun c.in_ok-session.session (left_in g.R.Read.remaining c.args.input.now) (left_in g.R.Read.remaining c.next_line.new.input) (left_in g.R.Read.remaining c.reply_to_lines.new.input) (g.W.Write.contents c.args.out.now) (g.W.Write.contents c.reply_to_lines.new.out)
    (has_read_failed c.reply_to_lines.new.input) _ _ c.next_line.new.line.items c.reply_to_lines.result (subst (λ (x : List ℕ). session_of x ≡ Ok c.in_ok-session.session) c.as_slice.ensures.value c.in_ok-session.ensures) c.in_ok-next_line.ensures.line c.in_ok-next_line.ensures.rest c.reply_to_lines.ensures.talks

pub returns-in_err-next_line-clause-talks : goal.returns-in_err-next_line-clause-talks
returns-in_err-next_line-clause-talks g c =
    let is : c.from_residual.result ≡ Err c.in_err-next_line.field-0.0 = search rules in
    let written = g.W.Write.contents c.args.out.now in
    let failed = g.W.ReportingWriter.has_failed c.args.out.now in
    let read = has_read_failed c.next_line.new.input in
    if_err (λ e. EndsTalk e (left_in g.R.Read.remaining c.args.input.now) (left_in g.R.Read.remaining c.next_line.new.input) written written read failed failed)
    c.in_err-next_line.field-0.0 c.from_residual.result is
    (first_unread (left_in g.R.Read.remaining c.args.input.now) (left_in g.R.Read.remaining c.next_line.new.input) written read failed c.next_line.new.line.items c.in_err-next_line.field-0.0
    c.next_line.ensures.consumes c.next_line.ensures.stops c.in_err-next_line.ensures.fault c.in_err-next_line.ensures.cause)

pub returns-in_err-session-clause-talks : goal.returns-in_err-session-clause-talks
returns-in_err-session-clause-talks g c =
    let is : c.from_residual-in_err-session.result ≡ Err c.in_err-session.field-0.0 = search rules in
    let written = g.W.Write.contents c.args.out.now in
    let failed = g.W.ReportingWriter.has_failed c.args.out.now in
    let read = has_read_failed c.next_line.new.input in
    if_err (λ e. EndsTalk e (left_in g.R.Read.remaining c.args.input.now) (left_in g.R.Read.remaining c.next_line.new.input) written written read failed failed)
    c.in_err-session.field-0.0 c.from_residual-in_err-session.result is
    (unbegun (left_in g.R.Read.remaining c.args.input.now) (left_in g.R.Read.remaining c.next_line.new.input) written read failed c.next_line.new.line.items c.in_err-session.field-0.0
    (subst (λ (x : List ℕ). Begins (Err c.in_err-session.field-0.0) x) c.as_slice.ensures.value c.in_err-session.ensures)
    c.in_ok-next_line.ensures.line c.in_ok-next_line.ensures.rest c.next_line.ensures.consumes c.next_line.ensures.stops)
