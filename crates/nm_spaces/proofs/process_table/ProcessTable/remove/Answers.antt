use Rattle.std.proofs.Common.{ap, ◌∙◌}
use Rattle.std.specs.Ordering.{nat_cmp}
use Rattle.nm_types.specs.Map.{without}
use Rattle.nm_spaces.proofs.ProcessTable.Changes.{by_pid_sorted, removed}
use Rattle.nm_spaces.proofs.process_table.ProcessTable.remove.Goals as goal

pub returns-clause-gone : goal.returns-clause-gone
returns-clause-gone g c =
    removed c.self.inside.tasks.entries c.swap_remove.new.self.entries c.args.pid c.swap_remove.ensures.updates.0 ∙ ap (λ m. without nat_cmp m c.args.pid) c.self.view_is

pub returns-clause-ordered : goal.returns-clause-ordered
returns-clause-ordered g c = by_pid_sorted c.swap_remove.new.self.entries
