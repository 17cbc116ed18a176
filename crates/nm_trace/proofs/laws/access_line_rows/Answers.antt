use Rattle.std.proofs.Common.{refl}
use Rattle.std.specs.Fmt.{digits}
use Rattle.hex.specs.Hex.{encode_with}
use Rattle.nm_trace.specs.definitions.Report.{access_line, answer_text, line_of}
use Rattle.nm_trace.proofs.laws.access_line_rows.Goals as goal

pub returns : goal.returns
unfolding access_line line_of answer_text digits encode_with
returns c = record {
  read = refl;
  write = refl;
  held = refl;
  refused = refl;
  in_the_order_asked = refl;
  none_of_a_refused_call = refl;
}
