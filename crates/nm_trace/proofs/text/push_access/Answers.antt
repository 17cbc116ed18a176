use Rattle.nm_trace.proofs.Lines.{access_line_is}
use Rattle.nm_streams.proofs.Waits.{put_is, put_more}
use Rattle.nm_trace.proofs.text.push_access.Goals as goal

pub returns : goal.returns
returns g c =
    put_is (access_line_is c.args.k c.args.j _ _) (put_more (put_more c.push_access_front.ensures c.push_access_answer.ensures) c.push_byte.ensures)
