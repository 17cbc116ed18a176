use Rattle.std.proofs.Common.{ap}
use Rattle.nm_coverage.specs.declared.parts.Part.{Part}
use Rattle.nm_coverage.specs.Parts.{add_at}
use Rattle.nm_coverage.proofs.Begun.{begun}
use Rattle.nm_coverage.proofs.parts.begin_part.Goals as goal

pub returns-in-Ok : goal.returns-in-Ok
returns-in-Ok g c =
    let part : Part = record { add = c.add_at-add.result; steps = c.args.steps } in
    begun c.args.parts.now.entries c.insert.new.self.entries c.args.start part c.insert.ensures.was_ordered c.add_at-add.ensures c.in-Ok.ensures.entries

pub returns-in-Err : goal.returns-in-Err
returns-in-Err g c p = ap (λ m. add_at m p) c.in-Err.ensures.err
