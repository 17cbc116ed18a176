use Rattle.nm_streams.proofs.Waits.{put_is, put_more}
use Rattle.nm_trace.proofs.text.push_count.Goals as goal

pub returns : goal.returns
returns g c = put_more (put_is c.format.ensures.text c.push_str.ensures) c.push_byte.ensures
