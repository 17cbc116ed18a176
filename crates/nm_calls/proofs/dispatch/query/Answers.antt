use Rattle.std.proofs.Common.{rules}
use Rattle.nm_calls.proofs.dispatch.query.Goals as goal

pub returns-in_err-query : goal.returns-in_err-query
returns-in_err-query g c = search rules

pub returns : goal.returns
returns g c = search rules
