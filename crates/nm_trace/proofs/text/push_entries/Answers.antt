use Rattle.std.proofs.Common.{◌∷◌, refl}
use Rattle.nm_trace.specs.definitions.Report.{entry_text}
use Rattle.nm_streams.proofs.Waits.{put_is, put_more, put_none}
use Rattle.nm_trace.proofs.Lines.{next_shown}
use Rattle.nm_trace.proofs.text.push_entries.Goals as goal

pub loop-entry-init : goal.loop-entry-init
loop-entry-init g c = put_none

pub loop-entry-preserved : goal.loop-entry-preserved
loop-entry-preserved g c =
    let l = c.loop-entry in
    put_is (next_shown (λ e. (e.vpn, e.frame)) (λ e. 32 ∷ entry_text e) c.args.entries.now l.entry-index _ _ c.loop-entry-test.true c.entry-item.is refl)
    (put_more l.invariant c.push_entry.ensures)
