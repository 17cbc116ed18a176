use Rattle.std.proofs.Common.{rules}
use Rattle.nm_types.proofs.geometry.Geometry.node_count.Goals as goal

pub returns-clause-count : goal.returns-clause-count
returns-clause-count g c = search rules
