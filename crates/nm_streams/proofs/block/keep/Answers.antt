use Rattle.std.proofs.Common.{arith, ◌≤◌, ◌+◌, length}
use Rattle.nm_streams.proofs.Waits.{appended_within}
use Rattle.nm_streams.proofs.block.keep.Goals as goal

pub returns-then-text-left-clause-within : goal.returns-then-text-left-clause-within
returns-then-text-left-clause-within g c few =
    let fits : length c.args.waiting.now.items + length c.args.text.now ≤ c.args.room = omega (arith, few, c.saturating_sub-left.ensures, c.len.ensures, c.if-text-left.true) in
    appended_within _ c.args.waiting.now.items c.extend_from_slice.new.self.items c.args.text.now c.args.room c.extend_from_slice.ensures.items fits
