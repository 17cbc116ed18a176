use Rattle.std.proofs.Common.{◌<◌, [], ◌++◌, length, ap, sym, subst, ◌∙◌}
use Rattle.std.specs.Prelude.{Option, Some}
use Rattle.std.specs.Option.{unwrap_or, option_map}
use Rattle.std.specs.Ordering.{nat_cmp}
use Rattle.std.specs.BTreeMap.Range.{entries_between}
use Rattle.std.specs.declared.ops.Bound.TheVariants.{Included, Excluded}
use Rattle.nm_model.specs.definitions.PageTables.{Task}
use Rattle.nm_spaces.specs.views.ProcessTable.{task_table}
use Rattle.nm_model.specs.definitions.Seen.{between}
use Rattle.nm_spaces.proofs.Spaces.ListedPages.{some_left}
use Rattle.nm_spaces.proofs.Spaces.Walks.{ranged}
use Rattle.nm_spaces.proofs.ProcessTable.Changes.{found_value, none_found, on_any}
use Rattle.nm_spaces.proofs.process_table.ProcessTable.entries_between.Goals as goal

pub returns-in_default-clause-entries : goal.returns-in_default-clause-entries
returns-in_default-clause-entries g c =
    c.new-entries.ensures.items
    ∙ ap (λ (o : Option Task). between c.args.first c.args.end (unwrap_or (option_map task_table o) [])) (sym (none_found c.self.inside.tasks.entries c.args.self.now c.args.pid c.self.view_is c.in_default.ensures))

pub returns-clause-entries : goal.returns-clause-entries
returns-clause-entries g c =
    let found = sym (found_value c.self.inside.tasks.entries c.args.self.now c.args.pid c.in-Some.task.now c.self.view_is c.in-Some.ensures ∙ ap Some (sym c.task.view_is)) in
    c.in_ok-list_between.ensures.all
    ∙ ap (λ es. es ++ entries_between nat_cmp (Included c.args.first) (Excluded c.args.end) c.task.inside.table) c.new-entries.ensures.items
    ∙ ranged c.task.inside.table c.args.first c.args.end
    ∙ ap (λ (o : Option Task). between c.args.first c.args.end (unwrap_or (option_map task_table o) [])) found

pub returns-in_err-list_between-clause-allocates : goal.returns-in_err-list_between-clause-allocates
returns-in_err-list_between-clause-allocates g c =
    let found = sym (found_value c.self.inside.tasks.entries c.args.self.now c.args.pid c.in-Some.task.now c.self.view_is c.in-Some.ensures ∙ ap Some (sym c.task.view_is)) in
    let all =
    ap (λ es. es ++ entries_between nat_cmp (Included c.args.first) (Excluded c.args.end) c.task.inside.table) c.new-entries.ensures.items
    ∙ ranged c.task.inside.table c.args.first c.args.end
    ∙ ap (λ (o : Option Task). between c.args.first c.args.end (unwrap_or (option_map task_table o) [])) found in
    on_any c.from_residual.result (subst (λ es. 0 < length es) all (some_left _ _ c.in_err-list_between.ensures.short))
