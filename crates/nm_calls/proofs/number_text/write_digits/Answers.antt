use Rattle.std.proofs.Common.{◌≡◌, ◌+◌, ◌-◌, drop, length-set, refl, ◌∙◌, arith}
use Rattle.nm_calls.proofs.Lines.Addresses.{all_spelled, one_fewer, some_places, digit_put, first_put, front_kept}
use Rattle.nm_calls.proofs.number_text.write_digits.Goals as goal

pub loop-rest-init : goal.loop-rest-init
loop-rest-init c = record {
  within = omega arith;
  long = c.told-text;
  fits = omega (arith, c.ranges.number.fits);
  written = all_spelled c.args.number (drop 16 c.args.text.now);
  before = refl;
}

pub loop-rest-preserved : goal.loop-rest-preserved
loop-rest-preserved c =
    let l = c.loop-rest in
    let more = c.loop-rest-test.true in
    let some = some_places l.at l.rest l.invariant.fits more in
    let back : l.at - 1 + 1 ≡ l.at = omega (arith, some) in record {
      within = omega (arith, l.invariant.within);
      long = length-set l.text l.at _ ∙ l.invariant.long;
      fits = rw back (one_fewer l.at l.rest l.invariant.fits);
      written = digit_put l.text l.rest l.at _ _ l.invariant.long l.invariant.within some more c.digit_of.ensures l.invariant.written;
      before = rw back (front_kept l.text c.args.text.now l.at _ l.invariant.before);
    }

pub returns-clause-written : goal.returns-clause-written
returns-clause-written c =
    let l = c.loop-rest in
    first_put l.text l.rest l.at _ _ l.invariant.long l.invariant.within (omega (arith, c.loop-rest-test.false)) c.digit_of-2.ensures l.invariant.written

pub returns-clause-before : goal.returns-clause-before
returns-clause-before c = front_kept c.loop-rest.text c.args.text.now c.loop-rest.at _ c.loop-rest.invariant.before
