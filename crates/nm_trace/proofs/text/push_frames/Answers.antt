use Rattle.std.proofs.Common.{◌∷◌, ◌∙◌, ap, decimal}
use Rattle.nm_streams.proofs.Waits.{put_is, put_more, put_none}
use Rattle.nm_trace.proofs.Lines.{next_piece}
use Rattle.nm_trace.proofs.text.push_frames.Goals as goal

pub loop-frame-init : goal.loop-frame-init
loop-frame-init g c = put_none

pub loop-frame-preserved : goal.loop-frame-preserved
loop-frame-preserved g c =
    let l = c.loop-frame in
    put_is (next_piece (λ n. 32 ∷ decimal n) c.args.frames.now l.frame-index _ _ c.loop-frame-test.true c.frame-item.is (ap (λ t. 32 ∷ t) (c.format.ensures.text ∙ ap decimal c.number.ensures)))
    (put_more l.invariant (put_more c.push_byte.ensures c.push_str.ensures))
