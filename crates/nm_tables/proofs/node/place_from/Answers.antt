use Rattle.nm_tables.proofs.Parts.{begins_there, begins_between}
use Rattle.nm_tables.proofs.node.place_from.Goals as goal

pub returns-in-Ok : goal.returns-in-Ok
returns-in-Ok g c = begins_there c.args.parts.now c.args.number c.in-Ok.place c.requires.ordered c.in-Ok.ensures.found

pub returns-in-Err : goal.returns-in-Err
returns-in-Err g c = begins_between c.args.parts.now c.args.number c.in-Err.place c.in-Err.ensures.fits
