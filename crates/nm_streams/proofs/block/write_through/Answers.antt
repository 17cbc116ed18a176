use Rattle.std.proofs.Common.{refl, subst}
use Rattle.std.specs.Io.KnownBytes.{Appends}
use Rattle.nm_streams.specs.Waiting.{BreaksOff}
use Rattle.nm_streams.proofs.Waits.{breaks_before, breaks_behind}
use Rattle.nm_streams.proofs.block.write_through.Goals as goal

pub returns-in_default-clause-broken : goal.returns-in_default-clause-broken
returns-in_default-clause-broken g c =
    let old = g.W.Write.contents c.args.writer.now in
    let new = g.W.Write.contents c.write_lines.new.writer in
    breaks_before old new c.args.waiting.now.items c.args.text.now (subst (BreaksOff old new) c.as_slice.ensures.value c.in_default.ensures.broken)

pub returns-in_default-write_lines-clause-broken : goal.returns-in_default-write_lines-clause-broken
returns-in_default-write_lines-clause-broken g c =
    let old = g.W.Write.contents c.args.writer.now in
    let mid = g.W.Write.contents c.write_lines.new.writer in
    breaks_behind old mid _ c.args.waiting.now.items c.args.text.now _ refl (subst (Appends old mid) c.as_slice.ensures.value c.in-Ok.ensures.whole) c.in_default-write_lines.ensures.broken
