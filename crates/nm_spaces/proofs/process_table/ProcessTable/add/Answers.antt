use Rattle.std.proofs.Common.{ap, ◌∙◌}
use Rattle.std.specs.Ordering.{nat_cmp}
use Rattle.nm_types.specs.Map.{set}
use Rattle.nm_model.specs.definitions.PageTables.{Task}
use Rattle.nm_spaces.proofs.ProcessTable.Changes.{by_pid_sorted, added}
use Rattle.nm_spaces.proofs.process_table.ProcessTable.add.Goals as goal

pub returns-clause-ok : goal.returns-clause-ok
returns-clause-ok g c =
    let task : Task = record { info = c.args.info; table = c.new.result } in
    added c.self.inside.tasks.entries c.insert.new.self.entries c.args.pid task c.in_ok-insert.ensures.updates.0
    ∙ ap (λ m. set nat_cmp m c.args.pid task) c.self.view_is
    ∙ ap (λ es. set nat_cmp c.args.self.now c.args.pid (record { info = c.args.info; table = es })) c.new.ensures

pub returns-clause-ordered : goal.returns-clause-ordered
returns-clause-ordered g c = by_pid_sorted c.insert.new.self.entries

pub returns-in_err-insert-clause-ordered : goal.returns-in_err-insert-clause-ordered
returns-in_err-insert-clause-ordered g c = by_pid_sorted c.insert.new.self.entries
