use Rattle.nm_model.proofs.areas.Cut.{over_facts}
use Rattle.nm_areas.proofs.Filled.{begin_some, begin_none}
use Rattle.nm_areas.proofs.area_table.AreaTable.begin.Goals as goal

pub returns-in-Some-clause-low : goal.returns-in-Some-clause-low
returns-in-Some-clause-low g c = (over_facts c.args.pid c.args.vpn c.args.self.now.areas _ _ c.in-Some.ensures).1

pub returns-in-Some-clause-first : goal.returns-in-Some-clause-first
returns-in-Some-clause-first g c v start area low there = begin_some c.args.self.now.areas c.requires.apart c.args.pid c.args.vpn v start area low there _ _ c.in-Some.ensures

pub returns-in-None-clause-first : goal.returns-in-None-clause-first
returns-in-None-clause-first g c v start area low there = begin_none c.args.self.now.areas c.requires.apart c.args.pid c.args.vpn v start area low there c.in-None.ensures
