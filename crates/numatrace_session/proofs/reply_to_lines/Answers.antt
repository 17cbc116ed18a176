use Rattle.std.proofs.Common.{◌≡◌, ℕ, List, Err, ap, refl, subst, sym, ◌∙◌, rules}
use Rattle.std.proofs.lemmas.Bool.{ltb-true}
use Rattle.numatrace_session.specs.Input.{has_read_failed, left_in}
use Rattle.std.specs.Io.KnownBytes.{Appends}
use Rattle.nm_trace.specs.definitions.Session.{next_call}
use Rattle.numatrace_session.specs.Replies.{session_after, reply_of, EndsEarly, Replies}
use Rattle.numatrace_session.proofs.Early.{if_err, unflushed, unread, unreplied}
use Rattle.numatrace_session.proofs.Lines.{no_lines, one_more}
use Rattle.numatrace_session.proofs.reply_to_lines.Goals as goal

pub loop-init : goal.loop-init
loop-init g c = record {
  replied = no_lines c.args.session.now (left_in g.R.Read.remaining c.args.input.now) (g.W.Write.contents c.args.out.now);
  failure = refl;
}

pub loop-preserved : goal.loop-preserved
loop-preserved g c =
    let is = c.as_slice.ensures.value in
    let s = c.loop.session in
    let written = subst (λ (x : List ℕ). Appends (g.W.Write.contents c.loop.out) (g.W.Write.contents c.reply.new.out) (reply_of s (next_call s x))) is c.in_ok-reply.ensures.replies.0.0 in
    let made = c.in_ok-reply.ensures.replies.1 ∙ ap (λ (x : List ℕ). session_after s (next_call s x)) is in
    record {
      replied = one_more c.args.session.now s c.reply.new.session _ (left_in g.R.Read.remaining c.loop.input) (left_in g.R.Read.remaining c.next_line.new.input) _ _ _ (g.W.Write.contents c.flush_unless_asked.new.out)
          c.next_line.new.line.items c.loop.invariant.replied c.in_ok-next_line.ensures.line c.in_ok-next_line.ensures.rest written made c.in_ok-flush_unless_asked.ensures.kept (ltb-true 0 _ (sym c.in_ok-next_line.ensures.more ∙ c.if-not-branch.false));
      failure = c.in_ok-flush_unless_asked.ensures.failure ∙ (c.in_ok-reply.ensures.replies.0.1 ∙ c.loop.invariant.failure);
    }

pub returns-in_err-next_line-clause-talks : goal.returns-in_err-next_line-clause-talks
returns-in_err-next_line-clause-talks g c =
    let is : c.from_residual.result ≡ Err c.in_err-next_line.field-0.0 = search rules in
    if_err (λ e. EndsEarly e c.args.session.now (left_in g.R.Read.remaining c.args.input.now) (left_in g.R.Read.remaining c.next_line.new.input) (g.W.Write.contents c.args.out.now) (g.W.Write.contents c.loop.out) (has_read_failed c.next_line.new.input) (g.W.ReportingWriter.has_failed c.args.out.now) (g.W.ReportingWriter.has_failed c.loop.out))
    c.in_err-next_line.field-0.0 c.from_residual.result is
    (unread c.args.session.now c.loop.session _ (left_in g.R.Read.remaining c.loop.input) (left_in g.R.Read.remaining c.next_line.new.input) _ _ (has_read_failed c.next_line.new.input) _ _ c.next_line.new.line.items c.in_err-next_line.field-0.0
    c.loop.invariant.replied c.next_line.ensures.consumes c.next_line.ensures.stops c.loop.invariant.failure c.in_err-next_line.ensures.fault c.in_err-next_line.ensures.cause)

pub returns-in_err-reply-clause-talks : goal.returns-in_err-reply-clause-talks
returns-in_err-reply-clause-talks g c =
    let is : c.from_residual-in_err-reply.result ≡ Err c.in_err-reply.field-0.0 = search rules in
    let line = c.next_line.new.line.items in
    let t = c.loop.session in
    let made = subst (λ (x : List ℕ). Replies t c.reply.new.session x (g.W.Write.contents c.loop.out) (g.W.Write.contents c.reply.new.out) (g.W.ReportingWriter.has_failed c.loop.out) (g.W.ReportingWriter.has_failed c.reply.new.out) (Err c.in_err-reply.field-0.0))
    c.as_slice.ensures.value c.in_err-reply.ensures.replies in
    if_err (λ e. EndsEarly e c.args.session.now (left_in g.R.Read.remaining c.args.input.now) (left_in g.R.Read.remaining c.next_line.new.input) (g.W.Write.contents c.args.out.now) (g.W.Write.contents c.reply.new.out) (has_read_failed c.next_line.new.input) (g.W.ReportingWriter.has_failed c.args.out.now) (g.W.ReportingWriter.has_failed c.reply.new.out))
    c.in_err-reply.field-0.0 c.from_residual-in_err-reply.result is
    (unreplied c.args.session.now t c.reply.new.session _ (left_in g.R.Read.remaining c.loop.input) (left_in g.R.Read.remaining c.next_line.new.input) _ (g.W.Write.contents c.loop.out) _ (has_read_failed c.next_line.new.input) _ (g.W.ReportingWriter.has_failed c.loop.out) _ line c.in_err-reply.field-0.0
    c.loop.invariant.replied c.in_ok-next_line.ensures.line c.in_ok-next_line.ensures.rest c.next_line.ensures.consumes c.next_line.ensures.stops (ltb-true 0 _ (sym c.in_ok-next_line.ensures.more ∙ c.if-not-branch.false)) c.loop.invariant.failure made)

pub returns-in_err-flush_unless_asked-clause-talks : goal.returns-in_err-flush_unless_asked-clause-talks
returns-in_err-flush_unless_asked-clause-talks g c =
    let is : c.from_residual-in_err-flush_unless_asked.result ≡ Err c.in_err-flush_unless_asked.field-0.0 = search rules in
    let line = c.as_slice.ensures.value in
    let s = c.loop.session in
    let written = subst (λ (x : List ℕ). Appends (g.W.Write.contents c.loop.out) (g.W.Write.contents c.reply.new.out) (reply_of s (next_call s x))) line c.in_ok-reply.ensures.replies.0.0 in
    let made = c.in_ok-reply.ensures.replies.1 ∙ ap (λ (x : List ℕ). session_after s (next_call s x)) line in
    if_err (λ e. EndsEarly e c.args.session.now (left_in g.R.Read.remaining c.args.input.now) (left_in g.R.Read.remaining c.next_line.new.input) (g.W.Write.contents c.args.out.now) (g.W.Write.contents c.flush_unless_asked.new.out) (has_read_failed c.next_line.new.input) (g.W.ReportingWriter.has_failed c.args.out.now) (g.W.ReportingWriter.has_failed c.flush_unless_asked.new.out))
    c.in_err-flush_unless_asked.field-0.0 c.from_residual-in_err-flush_unless_asked.result is
    (unflushed c.args.session.now c.reply.new.session _ (left_in g.R.Read.remaining c.next_line.new.input) _ (g.W.Write.contents c.flush_unless_asked.new.out) (has_read_failed c.next_line.new.input) _ _ c.in_err-flush_unless_asked.field-0.0
    (one_more c.args.session.now s c.reply.new.session _ (left_in g.R.Read.remaining c.loop.input) (left_in g.R.Read.remaining c.next_line.new.input) _ _ _ (g.W.Write.contents c.flush_unless_asked.new.out)
    c.next_line.new.line.items c.loop.invariant.replied c.in_ok-next_line.ensures.line c.in_ok-next_line.ensures.rest written made c.in_err-flush_unless_asked.ensures.kept (ltb-true 0 _ (sym c.in_ok-next_line.ensures.more ∙ c.if-not-branch.false)))
    c.in_err-flush_unless_asked.ensures.fault c.in_err-flush_unless_asked.ensures.failure)
