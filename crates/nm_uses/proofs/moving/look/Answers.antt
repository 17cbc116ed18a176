use Rattle.std.proofs.Common.{rules, ◌≡◌, Err}
use Rattle.nm_uses.proofs.Unrefused.{byte_found, handed_on, query_memory, read_memory, status_found}
use Rattle.nm_uses.proofs.moving.look.Goals as goal

pub returns-in_err-statuses-clause-memory : goal.returns-in_err-statuses-clause-memory
returns-in_err-statuses-clause-memory c =
    let is : c.from_residual-in_err-statuses.result ≡ Err c.in_err-statuses.field-0.0 = search rules in
    handed_on c.query.result c.from_residual-in_err-statuses.result c.in_err-statuses.field-0.0 c.in_err-statuses.was is
    (query_memory _ c.query.result c.args.system.now _ _ c.query.ensures.done c.requires (search rules))

pub returns-in_err-bytes-clause-memory : goal.returns-in_err-bytes-clause-memory
returns-in_err-bytes-clause-memory c =
    let is : c.from_residual-in_err-bytes.result ≡ Err c.in_err-bytes.field-0.0 = search rules in
    handed_on c.read.result c.from_residual-in_err-bytes.result c.in_err-bytes.field-0.0 c.in_err-bytes.was is
    (read_memory _ c.read.result c.args.system.now _ _ c.read.ensures c.requires (search rules))

pub returns-clause-found : goal.returns-clause-found
returns-clause-found c = (
  status_found c.args.system.now _ _ c.requires _ (search rules) c.in_ok-statuses.ensures.done,
  byte_found c.args.system.now _ _ c.requires _ (search rules) c.in_ok-bytes.ensures,
)
