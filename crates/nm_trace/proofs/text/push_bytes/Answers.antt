use Rattle.std.proofs.Common.{◌≡◌, ◌≤◌, length, take, drop, arith, sym, ap, length-drop, length-take}
use Rattle.nm_streams.proofs.Waits.{put_is, put_more, put_none}
use Rattle.nm_trace.proofs.Lines.{no_digits, more_digits}
use Rattle.nm_trace.proofs.text.push_bytes.Goals as goal

pub loop-at-init : goal.loop-at-init
loop-at-init g c = (omega arith, put_is (sym no_digits) put_none)

pub loop-at-preserved : goal.loop-at-preserved
loop-at-preserved g c =
    let l = c.loop-at in
    let rest = c.split_at.result.1.now in
    let piece = c.split_at-in-loop-at.result.0.now in
    let long : length piece ≡ length (take c.min.result rest) = ap length c.split_at-in-loop-at.ensures.front in
    let behind : length rest ≡ length (drop l.at c.args.bytes.now) = ap length c.split_at.ensures.back in
    let fits : c.min.result ≤ length rest = omega (arith, c.min.ensures) in (
      omega (arith, l.invariant.0, long, length-take c.min.result rest, fits, behind, length-drop l.at c.args.bytes.now, c.loop-at-test.true),
      put_is (more_digits c.args.bytes.now l.at c.min.result rest piece c.split_at.ensures.back c.split_at-in-loop-at.ensures.front fits)
          (put_more l.invariant.1 (put_is c.hex_of.ensures c.push.ensures)),
    )
