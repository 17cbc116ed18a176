use Rattle.std.proofs.Common.{rules, ◌≡◌, ℕ, ◌+◌, ◌≤◌, ◌<◌, [], length, refl, ap, subst, ◌∙◌, arith, inl}
use Rattle.nm_streams.proofs.Known.{consumes_nothing}
use Rattle.nm_streams.proofs.reading.read_all.Goals as goal

pub loop-buffer-init : goal.loop-buffer-init
loop-buffer-init g c =
    let none : c.new-bytes.result.items ≡ [] = search rules in
    record {
      left = consumes_nothing (g.R.Read.remaining c.args.reader.now) c.new-bytes.result.items none;
      given = rw none (g.met.R.ReportingReader.gave_none c.args.reader.now);
      most = omega (arith, ap length none);
      failed = refl;
    }

pub returns-then-count-eq0-clause-given : goal.returns-then-count-eq0-clause-given
returns-then-count-eq0-clause-given g c =
    let so_far = length c.loop-buffer.bytes.items in
    let none : so_far + c.in-Ok.count ≡ so_far = omega arith in
    subst (λ (n : ℕ). g.R.ReportingReader.gave c.args.reader.now c.read_reporting.new.self n) none
    (g.met.R.ReportingReader.gave_more c.args.reader.now c.loop-buffer.reader c.read_reporting.new.self so_far c.in-Ok.count c.loop-buffer.invariant.given c.in-Ok.ensures.given)

pub returns-then-count-eq0-clause-failure : goal.returns-then-count-eq0-clause-failure
returns-then-count-eq0-clause-failure g c =
    let so_far = length c.loop-buffer.bytes.items in
    let none : so_far + c.in-Ok.count ≡ so_far = omega arith in
    let few : so_far ≤ c.args.limit = search rules in (
      c.in-Ok.ensures.failed ∙ c.loop-buffer.invariant.failed,
      (
        so_far,
        few,
        subst (λ (n : ℕ). g.R.ReportingReader.gave c.args.reader.now c.read_reporting.new.self n) none
            (g.met.R.ReportingReader.gave_more c.args.reader.now c.loop-buffer.reader c.read_reporting.new.self so_far c.in-Ok.count c.loop-buffer.invariant.given c.in-Ok.ensures.given),
      ),
    )

pub returns-then-is_err-clause-failure : goal.returns-then-is_err-clause-failure
returns-then-is_err-clause-failure g c =
    let so_far = length c.loop-buffer.bytes.items in
    let some : 0 < so_far + c.in-Ok.count = omega arith in (
      c.in-Ok.ensures.failed ∙ c.loop-buffer.invariant.failed,
      (
        so_far + c.in-Ok.count,
        some,
        g.met.R.ReportingReader.gave_more c.args.reader.now c.loop-buffer.reader c.read_reporting.new.self so_far c.in-Ok.count c.loop-buffer.invariant.given c.in-Ok.ensures.given,
      ),
    )

-- a read that fails comes after no more bytes than the limit, and gives none
pub returns-in-Err-clause-failure : goal.returns-in-Err-clause-failure
returns-in-Err-clause-failure g c =
    let so_far = length c.loop-buffer.bytes.items in
    let few : so_far + 0 ≤ c.args.limit = search rules in
    inl (
      c.in-Err.ensures.failed,
      (
        so_far + 0,
        few,
        g.met.R.ReportingReader.gave_more c.args.reader.now c.loop-buffer.reader c.read_reporting.new.self so_far 0 c.loop-buffer.invariant.given c.in-Err.ensures.given,
      ),
    )
