use Rattle.std.proofs.Common.{◌++◌, sym, ap, ◌∙◌}
use Rattle.std.proofs.lemmas.List.{append-nil}
use Rattle.nm_calls.specs.definitions.Answers.{Refusal}
use Rattle.nm_calls.specs.definitions.Outcome.{accesses_asked}
use Rattle.nm_requests.specs.Views.{call_of}
use Rattle.nm_trace.specs.definitions.Report.{text_of, line_of, answer_text}
use Rattle.nm_trace.proofs.Lines.{no_answer}
use Rattle.nm_streams.proofs.Waits.{put_is, put_more}
use Rattle.nm_trace.proofs.text.push_refusal.Goals as goal

pub returns : goal.returns
unfolding text_of line_of answer_text
returns g c =
    let call = call_of c.args.call.now in
    let line = line_of c.args.k call (Refusal c.args.errno) in
    let whole = ap (λ t. line ++ t) (no_answer c.args.k 0 (accesses_asked call)) ∙ append-nil line in
    put_is (sym whole) (put_more (put_more c.push_front.ensures (put_more c.push_str.ensures (put_is c.name.ensures c.push_str-2.ensures))) c.push_byte.ensures)
