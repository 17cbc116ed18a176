use Rattle.std.proofs.Common.{ap, sym, ◌∙◌}
use Rattle.std.specs.Prelude.{Option, Some}
use Rattle.nm_model.specs.definitions.PageTables.{Task, entry_in}
use Rattle.nm_spaces.proofs.ProcessTable.Changes.{found_value, none_found}
use Rattle.nm_spaces.proofs.process_table.ProcessTable.entry.Goals as goal

pub returns-in_err-task_of : goal.returns-in_err-task_of
returns-in_err-task_of g c =
    c.from_residual.ensures ∙ ap (λ (o : Option Task). entry_in o c.args.vpn) (sym (none_found c.self.inside.tasks.entries c.args.self.now c.args.pid c.self.view_is c.in_err-task_of.ensures))

pub returns : goal.returns
returns g c =
    c.get.ensures.entry
    ∙ ap (λ (o : Option Task). entry_in o c.args.vpn) (ap Some c.branch.view_is ∙ sym (found_value c.self.inside.tasks.entries c.args.self.now c.args.pid c.in_ok-task_of.field-0.now c.self.view_is c.in_ok-task_of.ensures))
