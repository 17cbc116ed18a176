use Rattle.std.proofs.Common.{[], refl, arith}
use Rattle.nm_trace.proofs.Lines.{goes_on, is_done, is_told}
use Rattle.nm_streams.proofs.Waits.{put_is, put_more, put_none}
use Rattle.nm_trace.proofs.text.push_accesses.Goals as goal

pub loop-j-init : goal.loop-j-init
loop-j-init g c = ([], put_none, refl)

pub loop-j-preserved : goal.loop-j-preserved
loop-j-preserved g c =
    let so_far = c.loop-j.invariant in
    let shown = c.in-Some.ensures.lookup in (
      _,
      put_more so_far.1 c.push_access.ensures,
      goes_on c.args.k c.loop-j.j c.args.during.now c.args.answers.now so_far.0 _ c.in-Some.flight.now c.index-answers-j.result _
          shown.3.0 shown.1 c.loop-j-test.true c.index-answers-j.is refl so_far.2,
    )

pub returns-in_default : goal.returns-in_default
returns-in_default g c =
    let so_far = c.loop-j.invariant in
    put_is (is_done c.args.k c.loop-j.j c.args.during.now c.args.answers.now so_far.0 _ c.in_default.ensures.lookup.3 so_far.2) so_far.1

pub returns : goal.returns
returns g c =
    let so_far = c.loop-j.invariant in
    put_is (is_told c.args.k c.loop-j.j c.args.during.now c.args.answers.now so_far.0 _ (omega (arith, c.loop-j-test.false)) so_far.2) so_far.1
