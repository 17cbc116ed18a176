use Rattle.std.proofs.Common.{ap, refl, ◌∙◌}
use Rattle.std.specs.Prelude.{Some, Result, Ok, Err, OnErr, if◌then◌else◌}
use Rattle.nm_types.specs.Map.{get, page_cmp, same_page}
use Rattle.nm_coverage.proofs.Seen.{put_seen, view_none}
use Rattle.nm_coverage.proofs.coverage.Coverage.insert.Goals as goal

-- what holds in any case
err_always : {T E P : Type 0} (r : Result T E) → P → OnErr r P
err_always (Ok t) h = tt
err_always (Err e) h = h

pub returns-in_err-insert-clause-absent : goal.returns-in_err-insert-clause-absent
returns-in_err-insert-clause-absent g c =
    err_always c.from_residual.result (view_none c.self.inside.stored.entries c.self.inside.parts.entries c.args.self.now c.self.view_is c.args.page c.in_err-insert.ensures.absent)

pub returns-then-is_none-clause-ok : goal.returns-then-is_none-clause-ok
returns-then-is_none-clause-ok g c p =
    put_seen c.self.inside.stored.entries c.insert.new.self.entries c.self.inside.parts.entries c.count_step.new.parts.entries c.args.page c.args.step _ c.add_at-add.result c.count_step.ensures c.add_at-add.ensures c.minus-covers.ensures c.in_ok-insert.ensures.updates.0 p
    ∙ ap (λ m. if same_page c.args.page p then Some c.args.step else get page_cmp m p) c.self.view_is

pub returns-else-is_none-clause-ok : goal.returns-else-is_none-clause-ok
returns-else-is_none-clause-ok g c p =
    put_seen c.self.inside.stored.entries c.insert.new.self.entries c.self.inside.parts.entries c.self.inside.parts.entries c.args.page c.args.step _ c.add_at-add.result (λ q. refl) c.add_at-add.ensures c.minus-covers.ensures c.in_ok-insert.ensures.updates.0 p
    ∙ ap (λ m. if same_page c.args.page p then Some c.args.step else get page_cmp m p) c.self.view_is
