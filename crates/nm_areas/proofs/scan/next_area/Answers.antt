use Rattle.nm_types.proofs.Maps.{spot_cmp_total}
use Rattle.nm_model.proofs.areas.Painted.{exact_spot}
use Rattle.nm_areas.proofs.Rests.{rest_begins}
use Rattle.nm_areas.proofs.scan.next_area.Goals as goal

pub returns-clause-some : goal.returns-clause-some
returns-clause-some g c =
    c.step_area.ensures.some c.args.areas.now.entries c.args.at (rest_begins spot_cmp_total (c.args.pid, c.args.at) exact_spot c.args.areas.now.entries c.range-rest.result c.range-rest.ensures.ordered (c.range-rest.ensures.between tt))

pub returns-clause-first : goal.returns-clause-first
returns-clause-first g c =
    c.step_area.ensures.first c.args.areas.now.entries c.args.at (rest_begins spot_cmp_total (c.args.pid, c.args.at) exact_spot c.args.areas.now.entries c.range-rest.result c.range-rest.ensures.ordered (c.range-rest.ensures.between tt))

pub returns-clause-none : goal.returns-clause-none
returns-clause-none g c =
    c.step_area.ensures.none c.args.areas.now.entries c.args.at (rest_begins spot_cmp_total (c.args.pid, c.args.at) exact_spot c.args.areas.now.entries c.range-rest.result c.range-rest.ensures.ordered (c.range-rest.ensures.between tt))
