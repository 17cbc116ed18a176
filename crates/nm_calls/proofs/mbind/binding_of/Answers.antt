use Rattle.std.proofs.Common.{rules}
use Rattle.nm_calls.proofs.mbind.binding_of.Goals as goal

pub returns-then-is_some-clause-exact : goal.returns-then-is_some-clause-exact
returns-then-is_some-clause-exact g c = search rules

pub returns-clause-exact : goal.returns-clause-exact
returns-clause-exact g c = search rules
