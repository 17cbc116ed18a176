use Rattle.std.proofs.Common.{◌≡◌, subst, ◌∙◌, rules}
use Rattle.std.specs.Prelude.{Option}
use Rattle.std.specs.Option.{option_map}
use Rattle.nm_model.specs.definitions.PageTables.{Task}
use Rattle.nm_spaces.specs.views.ProcessTable.{task_info}
use Rattle.nm_spaces.proofs.ProcessTable.Changes.{looked}
use Rattle.nm_spaces.proofs.process_table.ProcessTable.info.Goals as goal

pub returns : goal.returns
returns g c =
    subst (λ (o : Option Task). c.map.result ≡ option_map task_info o) (c.task_of.ensures ∙ looked c.self.inside.tasks.entries c.args.self.now c.args.pid c.self.view_is) (search rules)
