use Rattle.nm_coverage.proofs.Moves.{one_seen, all_seen}
use Rattle.nm_coverage.proofs.coverage.Coverage.shift.Goals as goal

pub returns-in_default : goal.returns-in_default
returns-in_default g c =
    one_seen c.self.inside.stored.entries c.self.inside.parts.entries c.args.self.now c.self.view_is c.args.segment c.args.first c.args.past c.args.up c.shift_stored.new.stored.entries c.shift_stored.ensures

pub returns : goal.returns
returns g c =
    all_seen c.self.inside.stored.entries c.self.inside.parts.entries c.args.self.now c.self.view_is c.args.segment c.args.first c.args.past c.args.up c.in-Some.low c.in-Some.high
    c.in-Some.ensures.low c.in-Some.ensures.between c.in-Some.ensures.high c.shift_stored-2.new.stored.entries c.shift_stored-3.new.stored.entries c.shift_parts.new.parts.entries c.shift_stored-2.ensures c.shift_parts.ensures c.shift_stored-3.ensures
