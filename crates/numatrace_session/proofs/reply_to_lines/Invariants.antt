use Rattle.std.proofs.Common.{◌≡◌}
use Rattle.numatrace_session.specs.Input.{left_in}
use Rattle.numatrace_session.specs.Replies.{RepliesToLines}
use Rattle.numatrace_session.proofs.reply_to_lines.Given as goal

abbrev pub invariant-loop : goal.invariant-loop
invariant-loop g l = record {
  replied : RepliesToLines l.fn.session l.session (left_in g.R.Read.remaining l.fn.input) (left_in g.R.Read.remaining l.input) (g.W.Write.contents l.fn.out) (g.W.Write.contents l.out);
  failure : g.W.ReportingWriter.has_failed l.out ≡ g.W.ReportingWriter.has_failed l.fn.out;
}
