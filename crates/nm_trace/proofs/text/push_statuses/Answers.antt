use Rattle.std.proofs.Common.{◌≡◌, ◌∷◌, ap, get_or, pos, rules}
use Rattle.std.specs.Fmt.{signed_decimal}
use Rattle.nm_streams.proofs.Waits.{put_is, put_more, put_none}
use Rattle.nm_trace.proofs.Lines.{next_read}
use Rattle.nm_trace.proofs.text.push_statuses.Goals as goal

pub loop-status-init : goal.loop-status-init
loop-status-init g c = put_none

pub loop-status-preserved : goal.loop-status-preserved
loop-status-preserved g c =
    let l = c.loop-status in
    let same : c.format.result.now ≡ signed_decimal (get_or c.args.statuses.now l.status-index (pos 0)) = search rules in
    put_is (next_read (λ z. 32 ∷ signed_decimal z) c.args.statuses.now l.status-index _ _ c.loop-status-test.true (ap (λ t. 32 ∷ t) same))
    (put_more l.invariant (put_more c.push_byte.ensures c.push_str.ensures))
