use Rattle.std.proofs.Common.{rules, ◌≡◌, Err}
use Rattle.nm_uses.proofs.Unrefused.{handed_on, map_memory}
use Rattle.nm_uses.proofs.moving.map.Goals as goal

pub returns-in_err-map-clause-memory : goal.returns-in_err-map-clause-memory
returns-in_err-map-clause-memory c =
    let is : c.from_residual.result ≡ Err c.in_err-map.field-0.0 = search rules in
    handed_on c.map.result c.from_residual.result c.in_err-map.field-0.0 c.in_err-map.was is
    (map_memory _ c.map.result c.args.system.now _ _ c.map.ensures c.requires (search rules))
