use Rattle.std.proofs.Common.{ℕ, ◌≡◌, ◌≤◌, ◌<◌, ap, subst, sym, ◌∙◌}
use Rattle.std.specs.Prelude.{Option, Some, None, IfSome, IfNone}
use Rattle.std.specs.Ordering.{nat_cmp}
use Rattle.nm_types.specs.Map.{get}
use Rattle.nm_model.specs.definitions.PageTables.{Task, entry_in}
use Rattle.nm_spaces.proofs.ProcessTable.Changes.{found_value, none_found}
use Rattle.nm_spaces.proofs.process_table.ProcessTable.first_from.Given.{Over}
use Rattle.nm_spaces.proofs.process_table.ProcessTable.first_from.Goals as goal

-- the process that was found
found : (g : Over) (c : goal.After-first_from g) → Some (record { info = c.branch.inside.info; table = c.branch.inside.table }) ≡ get nat_cmp c.args.self.now c.args.pid
found g c = sym (found_value c.self.inside.tasks.entries c.args.self.now c.args.pid c.in_ok-task_of.field-0.now c.self.view_is c.in_ok-task_of.ensures ∙ ap Some (sym c.branch.view_is))

pub returns-clause-some : goal.returns-clause-some
returns-clause-some g c = subst (λ (o : Option Task). IfSome c.first_from.result (λ e. (c.args.at ≤ e.0) × (entry_in o e.0 ≡ Some e.1))) (found g c) c.first_from.ensures.some

pub returns-clause-first : goal.returns-clause-first
returns-clause-first g c = subst (λ (o : Option Task). IfSome c.first_from.result (λ e. (v : ℕ) → c.args.at ≤ v → v < e.0 → entry_in o v ≡ None)) (found g c) c.first_from.ensures.first

pub returns-clause-none : goal.returns-clause-none
returns-clause-none g c = subst (λ (o : Option Task). IfNone c.first_from.result ((v : ℕ) → c.args.at ≤ v → entry_in o v ≡ None)) (found g c) c.first_from.ensures.none

-- it says so of nothing
of_none : {X P : Type 0} (o : Option X) → P → IfNone o P
of_none None p = p
of_none (Some x) p = tt

pub returns-in_err-task_of-clause-none : goal.returns-in_err-task_of-clause-none
returns-in_err-task_of-clause-none g c =
    of_none c.from_residual.result (λ v h. ap (λ (o : Option Task). entry_in o v) (none_found c.self.inside.tasks.entries c.args.self.now c.args.pid c.self.view_is c.in_err-task_of.ensures))
