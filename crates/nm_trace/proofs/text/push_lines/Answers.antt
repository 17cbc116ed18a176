use Rattle.std.proofs.Common.{◌∷◌, ap, string_bytes}
use Rattle.nm_streams.proofs.Waits.{put_is, put_more, put_none}
use Rattle.nm_trace.proofs.Lines.{next_shown}
use Rattle.nm_trace.proofs.text.push_lines.Goals as goal

pub loop-line-init : goal.loop-line-init
loop-line-init g c = put_none

pub loop-line-preserved : goal.loop-line-preserved
loop-line-preserved g c =
    let l = c.loop-line in
    put_is (next_shown (λ line. string_bytes line) (λ line. 10 ∷ line) c.args.lines.now l.line-index _ _ c.loop-line-test.true c.line-item.is (ap (λ t. 10 ∷ t) c.as_str.ensures.value))
    (put_more l.invariant (put_more c.push_byte.ensures c.push_str.ensures))
