use Rattle.nm_streams.proofs.Waits.{put_is, put_more}
use Rattle.nm_trace.proofs.text.push_access_front.Goals as goal

pub returns : goal.returns
returns g c =
    let numbers = put_more (put_more (put_is c.format.ensures.text c.push_str.ensures) c.push_byte.ensures) (put_is c.format-2.ensures.text c.push_str-2.ensures) in
    put_more (put_more (put_more numbers c.push_byte-2.ensures) (put_is c.access_word.ensures c.push_str-3.ensures)) c.push_byte-3.ensures
