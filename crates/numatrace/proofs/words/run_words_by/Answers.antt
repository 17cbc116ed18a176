use Rattle.std.proofs.Common.{◌∙◌, ap, refl, inl, inr, map}
use Rattle.std.specs.Prelude.{string_bytes}
use Rattle.clap.specs.Words.{kind_of}
use Rattle.numatrace.specs.Status.{refused_status}
use Rattle.nm_words.specs.Words.{refusals_of}
use Rattle.numatrace.proofs.Ended.{run_after}
use Rattle.numatrace.proofs.words.run_words_by.Goals as goal

pub returns-in-Err : goal.returns-in-Err
returns-in-Err g c = inl (record {
  kind = kind_of c.in-Err.error;
  cause = c.in-Err.ensures.refused;
  ends = c.refused_words.ensures ∙ ap refused_status c.kind.ensures;
  prints = c.print_refusal.ensures;
  unread = refl;
  unwritten = refl;
})

pub returns : goal.returns
returns g c =
    inr (run_after g.R.Read.remaining g.R.ReportingReader.has_failed g.R.ReportingReader.gave g.W.Write.contents g.W.ReportingWriter.has_failed
    (refusals_of (map string_bytes c.args.words.now)) c.run_with.result c.args.reader.now _ c.args.out.now _ c.args.err.now _ c.in-Ok.ensures.refused c.run_with.ensures)
