use Rattle.nm_trace.specs.definitions.Report.{line_of, text_of}
use Rattle.nm_streams.proofs.Waits.{put_more}
use Rattle.nm_trace.proofs.text.push_text.Goals as goal

pub returns : goal.returns
unfolding text_of line_of
returns g c = put_more (put_more (put_more c.push_front.ensures c.push_answer.ensures) c.push_byte.ensures) c.push_flights.ensures
