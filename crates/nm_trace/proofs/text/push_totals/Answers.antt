use Rattle.nm_streams.proofs.Waits.{put_more}
use Rattle.nm_trace.proofs.text.push_totals.Goals as goal

pub returns : goal.returns
returns g c = put_more (put_more c.push_str.ensures c.push_number.ensures) (put_more c.push_str-2.ensures c.push_number-2.ensures)
