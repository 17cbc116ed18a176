use Rattle.std.proofs.Common.{◌≡◌, ◌≤◌, ◌++◌, ◌∷◌, [], length, refl}
use Rattle.nm_streams.proofs.Waits.{put_broken, put_waits, put_through}
use Rattle.nm_streams.proofs.block.Block.push_byte.Goals as goal

pub returns-then-self : goal.returns-then-self
returns-then-self g c = put_broken _ _ _ _ _ c.if-self.true

pub returns-then-keep_byte : goal.returns-then-keep_byte
returns-then-keep_byte g c =
    let kept : c.keep_byte.new.waiting.items ≡ c.args.self.now.waiting.items ++ c.args.byte ∷ [] = rw c.if-keep_byte.true at c.keep_byte.ensures.kept in
    put_waits _ _ _ c.args.self.now _ _ c.if-self.false c.if-self.false kept refl c.keep_byte.ensures.within

pub returns : goal.returns
returns g c =
    let same : c.keep_byte.new.waiting.items ≡ c.args.self.now.waiting.items = rw c.if-keep_byte.false at c.keep_byte.ensures.kept in
    let shorter : length c.write_through.new.waiting.items ≤ length c.args.self.now.waiting.items = rw same at c.write_through.ensures.within in
    put_through g.W.Write.contents g.W.ReportingWriter.has_failed c.write_through.result _ _ c.args.self.now _ _ c.if-self.false c.is_err-self.ensures.value
    (rw same at c.write_through.ensures.whole) c.write_through.ensures.empty (rw same at c.write_through.ensures.broken) c.write_through.ensures.failure refl shorter
