use Rattle.std.proofs.Common.{◌<◌, [], length, refl, ap, subst, sym, ◌∙◌}
use Rattle.std.specs.Prelude.{Option, Some, IsSome}
use Rattle.std.specs.Option.{unwrap_or, option_map}
use Rattle.nm_model.specs.definitions.PageTables.{Task}
use Rattle.nm_spaces.specs.views.ProcessTable.{task_table}
use Rattle.nm_spaces.proofs.ProcessTable.Changes.{found_value, none_found, on_any}
use Rattle.nm_spaces.proofs.process_table.ProcessTable.entries.Goals as goal

pub returns-in_err-entries-in-Some-clause-memory : goal.returns-in_err-entries-in-Some-clause-memory
returns-in_err-entries-in-Some-clause-memory g c =
    on_any c.from_residual.result (subst IsSome (sym (found_value c.self.inside.tasks.entries c.args.self.now c.args.pid c.in-Some.task.now c.self.view_is c.in-Some.ensures)) refl)

pub returns-in_ok-entries-in-Some-clause-entries : goal.returns-in_ok-entries-in-Some-clause-entries
returns-in_ok-entries-in-Some-clause-entries g c =
    ap Some c.in_ok-entries-in-Some.ensures.all
    ∙ ap (option_map task_table) (ap Some c.task.view_is ∙ sym (found_value c.self.inside.tasks.entries c.args.self.now c.args.pid c.in-Some.task.now c.self.view_is c.in-Some.ensures))

pub returns-in-None-clause-entries : goal.returns-in-None-clause-entries
returns-in-None-clause-entries g c = ap (option_map task_table) (sym (none_found c.self.inside.tasks.entries c.args.self.now c.args.pid c.self.view_is c.in-None.ensures))

pub returns-in_err-entries-in-Some-clause-allocates : goal.returns-in_err-entries-in-Some-clause-allocates
returns-in_err-entries-in-Some-clause-allocates g c =
    let found = found_value c.self.inside.tasks.entries c.args.self.now c.args.pid c.in-Some.task.now c.self.view_is c.in-Some.ensures ∙ ap Some (sym c.task.view_is) in
    on_any c.from_residual.result (subst (λ (o : Option Task). 0 < length (unwrap_or (option_map task_table o) [])) (sym found) c.in_err-entries-in-Some.ensures.allocates)
