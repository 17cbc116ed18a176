use Rattle.std.proofs.Common.{sym}
use Rattle.nm_rmap.proofs.Places.{reads_pins}
use Rattle.nm_rmap.proofs.reverse_map.ReverseMap.pins.Goals as goal

pub returns-clause-pins : goal.returns-clause-pins
returns-clause-pins g c =
    sym (reads_pins c.self.inside.mappings.items c.self.inside.pins.items c.args.self.now c.self.view_is c.args.frame c.index.result c.index.ensures c.requires
    c.self.invariant.0 c.index-2.result.now c.index-2.ensures)
