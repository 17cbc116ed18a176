use Rattle.std.proofs.Common.{refl}
use Rattle.std.specs.Fmt.{digits}
use Rattle.hex.specs.Hex.{encode_with}
use Rattle.nm_calls.specs.definitions.Outcome.{refusal_of, end_of_call, runs_asked, accesses_asked, start}
use Rattle.nm_trace.specs.definitions.Report.{access_line, answer_text, line_of, text_of}
use Rattle.nm_trace.proofs.laws.read_while_it_moves.Goals as goal

pub returns : goal.returns
unfolding refusal_of end_of_call runs_asked accesses_asked access_line answer_text line_of text_of digits encode_with start
returns c = refl
