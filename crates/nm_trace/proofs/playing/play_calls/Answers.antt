use Rattle.std.proofs.Common.{◌≡◌, ◌+◌, ◌-◌, ◌≤◌, length, map, take, refl, sym, ap, subst, inl, inr, ◌∙◌, arith}
use Rattle.std.proofs.lemmas.List.{take_all, length-map}
use Rattle.std.proofs.lemmas.Option.{slice_get_read}
use Rattle.std.specs.Io.KnownBytes.{Appends}
use Rattle.nm_requests.specs.Views.{call_of}
use Rattle.nm_trace.specs.definitions.Report.{report_from, state_after}
use Rattle.nm_streams.specs.Waiting.{Stands, block_waiting}
use Rattle.nm_trace.proofs.InParts.{call_at, state_more, report_more, report_short}
use Rattle.nm_streams.proofs.Waits.{ends_whole, finish_breaks, puts_broken}
use Rattle.nm_trace.proofs.playing.play_calls.Goals as goal

pub returns-in_default-finish-clause-plays : goal.returns-in_default-finish-clause-plays
returns-in_default-finish-clause-plays g c =
    let calls = map call_of c.args.calls.now in
    let at = call_at call_of c.args.calls.now c.loop-k.k c.index-calls-k.result c.loop-k-test.true c.index-calls-k.is in
    let l = c.loop-k.invariant in
    let stop = rw l.made at c.in_default.ensures.lines in
    let asks = rw l.made at c.in_default.ensures.allocates in (
      c.loop-k.k,
      omega (arith, at.0),
      inr (_, slice_get_read calls _ c.loop-k.k _ refl at.0 at.1, asks, stop.0),
      finish_breaks g.W.Write.contents 65536 _ _ _ _ _ _ _ _ l.whole stop.1 stop.2 l.stands l.few (report_short c.args.system.now calls c.loop-k.k) c.in_default-finish.ensures.broken,
    )

pub returns-in_default-clause-plays : goal.returns-in_default-clause-plays
returns-in_default-clause-plays g c =
    let calls = map call_of c.args.calls.now in
    let at = call_at call_of c.args.calls.now c.loop-k.k c.index-calls-k.result c.loop-k-test.true c.index-calls-k.is in
    let l = c.loop-k.invariant in
    let stop = rw l.made at c.in_default.ensures.lines in
    let asks = rw l.made at c.in_default.ensures.allocates in (
      (_, slice_get_read calls _ c.loop-k.k _ refl at.0 at.1, asks, stop.0),
      ends_whole g.W.Write.contents _ _ _ _ _ _ _ l.whole stop.1 stop.2 l.stands c.in-Ok-finish.ensures.whole,
    )

pub returns-then-is_broken-clause-plays : goal.returns-then-is_broken-clause-plays
returns-then-is_broken-clause-plays g c =
    let calls = map call_of c.args.calls.now in
    let at = call_at call_of c.args.calls.now c.loop-k.k c.index-calls-k.result c.loop-k-test.true c.index-calls-k.is in
    let l = c.loop-k.invariant in
    let line = rw l.made at c.in-Ok.ensures.lines in
    let next : c.loop-k.k + 1 - 1 ≡ c.loop-k.k = omega arith in (
      c.loop-k.k + 1,
      omega (arith, at.0),
      inl (line.1 ∙ sym (state_more c.args.system.now calls c.loop-k.k _ at.0 at.1)),
      rw next (puts_broken g.W.Write.contents g.W.ReportingWriter.has_failed 65536 _ _ _ _ _ _ (report_from 0 c.args.system.now (take c.loop-k.k calls)) _ _ l.whole (sym c.is_broken.ensures ∙ c.if-is_broken.true) l.stands l.few (omega arith) (report_more c.args.system.now calls c.loop-k.k _ at.0 at.1) line.0),
    )

pub returns-then-is_broken-clause-failure : goal.returns-then-is_broken-clause-failure
returns-then-is_broken-clause-failure g c = rw (sym c.is_broken.ensures ∙ c.if-is_broken.true) at (c.in-Ok.ensures.lines.0.fails _ c.loop-k.invariant.failed)

pub loop-k-preserved : goal.loop-k-preserved
loop-k-preserved g c =
    let calls = map call_of c.args.calls.now in
    let at = call_at call_of c.args.calls.now c.loop-k.k c.index-calls-k.result c.loop-k-test.true c.index-calls-k.is in
    let l = c.loop-k.invariant in
    let line = rw l.made at c.in-Ok.ensures.lines in record {
      made = line.1 ∙ sym (state_more c.args.system.now calls c.loop-k.k _ at.0 at.1);
      whole = sym c.is_broken.ensures ∙ c.if-is_broken.false;
      stands = subst (Stands _ _ _ _) (sym (report_more c.args.system.now calls c.loop-k.k _ at.0 at.1)) (line.0.stands _ _ l.stands);
      room = line.0.room ∙ l.room;
      few = subst (λ n. length (block_waiting c.make_step.new.block) ≤ n) (line.0.room ∙ l.room) (line.0.within (subst (λ n. length (block_waiting c.loop-k.block) ≤ n) (sym l.room) l.few));
      failed = line.0.fails _ l.failed;
    }

pub returns-in_default-finish-2-clause-plays : goal.returns-in_default-finish-2-clause-plays
returns-in_default-finish-2-clause-plays g c =
    let l = c.loop-k.invariant in (
      c.loop-k.k,
      omega (arith, c.loop-k.auto.k-end, length-map c.args.calls.now call_of),
      inl l.made,
      finish_breaks g.W.Write.contents 65536 _ _ _ _ c.loop-k.writer c.loop-k.writer c.loop-k.block c.loop-k.block l.whole refl refl l.stands l.few (report_short c.args.system.now (map call_of c.args.calls.now) c.loop-k.k) c.in_default-finish-2.ensures.broken,
    )

pub returns-clause-plays : goal.returns-clause-plays
returns-clause-plays g c =
    let calls = map call_of c.args.calls.now in
    let l = c.loop-k.invariant in
    let all : take c.loop-k.k calls ≡ calls = take_all c.loop-k.k calls (omega (arith, c.loop-k-test.false, length-map c.args.calls.now call_of)) in (
      sym (length-map c.args.calls.now call_of),
      l.made ∙ ap (state_after c.args.system.now) all,
      subst (Appends _ _) (ap (report_from 0 c.args.system.now) all) (ends_whole g.W.Write.contents _ _ _ c.loop-k.writer c.loop-k.writer c.loop-k.block c.loop-k.block l.whole refl refl l.stands c.in-Ok-finish-2.ensures.whole),
    )
