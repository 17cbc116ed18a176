use Rattle.std.proofs.Common.{arith, rules, ◌≡◌, ◌<◌, ◌∙◌, length, take, drop, length-drop}
use Rattle.std.proofs.Math.Seq.{take-add}
use Rattle.std.proofs.lemmas.List.{take-append-drop}
use Rattle.nm_streams.proofs.Known.{appends_more, appends_nothing, appends_kept}
use Rattle.nm_streams.proofs.Taken.{nothing_taken, some_taken}
use Rattle.nm_streams.proofs.block.write_lines.Goals as goal

pub loop-at-preserved : goal.loop-at-preserved
loop-at-preserved g c =
    let rest : c.split_at.result.1.now ≡ drop c.loop-at.at c.args.lines.now = search rules in
    record {
      within = omega (arith, rw rest at c.in-Ok.ensures.bound, length-drop c.loop-at.at c.args.lines.now);
      written = rw take-add (appends_more (g.W.Write.contents c.args.writer.now) (g.W.Write.contents c.loop-at.writer) (g.W.Write.contents c.write_reporting.new.self) _ _ c.loop-at.invariant.written (rw rest at c.in-Ok.ensures.bytes));
      failed = some_taken _ c.split_at.result.1.now _ _ c.in-Ok.count-test.1 c.in-Ok.ensures.failed ∙ c.loop-at.invariant.failed;
    }

pub returns-in-Ok-eq0-clause-broken : goal.returns-in-Ok-eq0-clause-broken
returns-in-Ok-eq0-clause-broken g c = (take c.loop-at.at c.args.lines.now, drop c.loop-at.at c.args.lines.now, take-append-drop c.loop-at.at c.args.lines.now, omega (arith, length-drop c.loop-at.at c.args.lines.now, c.loop-at-test.true), appends_nothing (g.W.Write.contents c.args.writer.now) (g.W.Write.contents c.loop-at.writer) (g.W.Write.contents c.write_reporting.new.self) _ c.loop-at.invariant.written (rw c.in-Ok-eq0.field-0-test at c.in-Ok-eq0.ensures.bytes))

pub returns-in-Err-clause-broken : goal.returns-in-Err-clause-broken
returns-in-Err-clause-broken g c = (take c.loop-at.at c.args.lines.now, drop c.loop-at.at c.args.lines.now, take-append-drop c.loop-at.at c.args.lines.now, omega (arith, length-drop c.loop-at.at c.args.lines.now, c.loop-at-test.true), appends_kept (g.W.Write.contents c.args.writer.now) (g.W.Write.contents c.loop-at.writer) (g.W.Write.contents c.write_reporting.new.self) _ c.loop-at.invariant.written c.in-Err.ensures.bytes)

pub returns-in-Ok-eq0-clause-failure : goal.returns-in-Ok-eq0-clause-failure
returns-in-Ok-eq0-clause-failure g c =
    let rest : c.split_at.result.1.now ≡ drop c.loop-at.at c.args.lines.now = search rules in
    let some : 0 < length c.split_at.result.1.now = rw rest (omega (arith, length-drop c.loop-at.at c.args.lines.now, c.loop-at-test.true)) in
    nothing_taken _ c.split_at.result.1.now _ _ c.in-Ok-eq0.field-0-test some c.in-Ok-eq0.ensures.failed
