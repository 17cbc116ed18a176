use Rattle.std.proofs.Common.{length, sym, ap, subst, ◌∙◌}
use Rattle.std.specs.List.Sorted.{IsStrictlySortedBy}
use Rattle.std.specs.Map.{keys_of}
use Rattle.std.specs.Ordering.{nat_cmp}
use Rattle.nm_spaces.proofs.ProcessTable.Changes.{by_pid_sorted, by_pid_length}
use Rattle.nm_spaces.proofs.process_table.ProcessTable.len.Goals as goal

pub returns-clause-count : goal.returns-clause-count
returns-clause-count g c = c.len.ensures.len ∙ sym (by_pid_length c.self.inside.tasks.entries c.len.ensures.unique) ∙ ap length c.self.view_is

pub returns-clause-ordered : goal.returns-clause-ordered
returns-clause-ordered g c = subst (λ m. IsStrictlySortedBy nat_cmp (keys_of m)) c.self.view_is (by_pid_sorted c.self.inside.tasks.entries)
