use Rattle.std.proofs.Common.{rules, ◌≡◌, Err}
use Rattle.nm_uses.proofs.Unrefused.{handed_on, move_memory}
use Rattle.nm_uses.proofs.moving.move_there.Goals as goal

pub returns-in_err-move_pages-clause-memory : goal.returns-in_err-move_pages-clause-memory
returns-in_err-move_pages-clause-memory c =
    let is : c.from_residual-in_err-move_pages.result ≡ Err c.in_err-move_pages.field-0.0 = search rules in
    handed_on c.move_pages.result c.from_residual-in_err-move_pages.result c.in_err-move_pages.field-0.0 c.in_err-move_pages.was is
    (move_memory _ c.move_pages.result c.args.system.now _ _ c.move_pages.ensures.done c.requires (search rules))
