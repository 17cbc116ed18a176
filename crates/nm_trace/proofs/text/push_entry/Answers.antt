use Rattle.nm_streams.proofs.Waits.{put_is, put_more}
use Rattle.nm_trace.proofs.text.push_entry.Goals as goal

pub returns : goal.returns
returns g c = put_more (put_more (put_more c.push_byte.ensures (put_is c.address_bytes.ensures c.push.ensures)) c.push_byte-2.ensures) c.push_frame.ensures
