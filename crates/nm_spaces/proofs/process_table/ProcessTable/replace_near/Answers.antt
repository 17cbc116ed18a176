use Rattle.std.proofs.Common.{ℕ, ap, refl, subst, sym, ◌∙◌}
use Rattle.std.specs.Prelude.{Some, IsSome}
use Rattle.std.specs.Ordering.{nat_cmp}
use Rattle.nm_types.specs.Map.{Map, replace}
use Rattle.nm_types.specs.declared.entry.Entry.{Entry}
use Rattle.nm_model.specs.definitions.PageTables.{Task, entry_in}
use Rattle.nm_spaces.specs.views.ProcessTable.{with_other_entry, replaced_in}
use Rattle.nm_spaces.proofs.ProcessTable.Places.{found_there, written_there}
use Rattle.nm_spaces.proofs.ProcessTable.Changes.{found_value}
use Rattle.nm_spaces.proofs.process_table.ProcessTable.replace_near.Goals as goal

pub replace-requires-2 : goal.replace-requires-2
replace-requires-2 g c =
    let t = c.pair_mut-task in
    let found = found_there c.self.inside.tasks.entries c.args.place c.args.pid t.result.0.now t.result.1.now (c.if-not-stands_at.ensures.value refl) t.ensures.value in
    subst (λ o. IsSome (entry_in o c.args.vpn)) (found_value c.self.inside.tasks.entries c.args.self.now c.args.pid t.result.1.now c.self.view_is found ∙ ap Some (sym c.task.view_is)) c.requires

pub returns : goal.returns
returns g c =
    let t = c.pair_mut-task in
    let old : Task = t.result.1.now in
    let task : Map ℕ Entry → Task = λ es. record { info = c.task.inside.info; table = es } in
    let found = found_there c.self.inside.tasks.entries c.args.place c.args.pid t.result.0.now old (c.if-not-stands_at.ensures.value refl) t.ensures.value in
    written_there c.self.inside.tasks c.args.self.now c.args.place c.args.pid t.result.0.now old (task c.replace-2.new.self) c.self.view_is t.ensures.unique (c.if-not-stands_at.ensures.key refl) (c.if-not-stands_at.ensures.value refl) t.ensures.value
    ∙ ap (λ (x : Task). replace nat_cmp c.args.self.now c.args.pid x) (ap task {x = c.replace-2.new.self} c.replace-2.ensures.entry ∙ ap (λ x. with_other_entry x c.args.vpn c.args.entry) c.task.view_is)
    ∙ ap (λ o. replaced_in c.args.self.now o c.args.pid c.args.vpn c.args.entry) (sym (found_value c.self.inside.tasks.entries c.args.self.now c.args.pid old c.self.view_is found))
