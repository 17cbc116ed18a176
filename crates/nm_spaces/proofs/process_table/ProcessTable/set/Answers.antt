use Rattle.std.proofs.Common.{ℕ, ap, subst, sym, ◌∙◌}
use Rattle.std.specs.Prelude.{Option, Some, IsSome}
use Rattle.std.specs.Option.{option_copied_mut}
use Rattle.nm_types.specs.Map.{Map}
use Rattle.nm_types.proofs.Cases.{none_is_not}
use Rattle.nm_types.specs.declared.entry.Entry.{Entry}
use Rattle.nm_model.specs.definitions.PageTables.{Task, entry_in, with_entry}
use Rattle.nm_spaces.proofs.ProcessTable.Changes.{none_found, found_value, becomes, written_same, on_ok, on_err}
use Rattle.nm_spaces.proofs.process_table.ProcessTable.set.Goals as goal

pub unreachable-requires : goal.unreachable-requires
unreachable-requires g c =
    absurd (none_is_not Task (subst (λ (o : Option Task). IsSome o) (none_found c.self.inside.tasks.entries c.args.self.now c.args.pid c.self.view_is (ap option_copied_mut (sym c.in_default.is) ∙ c.get_mut.ensures.value)) c.requires))

pub returns-clause-ok : goal.returns-clause-ok
returns-clause-ok g c =
    let task : Map ℕ Entry → Task = λ es. record { info = c.task.inside.info; table = es } in
    on_ok c.set.result
    (λ done t there. becomes (λ x. with_entry x c.args.vpn c.args.entry) c.self.inside.tasks.entries _ c.args.self.now c.args.pid c.in-Some.task.now (task c.set.new.self) t c.self.view_is c.in-Some.ensures.value
    (c.get_mut.follows.holds (task c.set.new.self)).0
    (ap task {x = c.set.new.self} done ∙ ap (λ x. with_entry x c.args.vpn c.args.entry) c.task.view_is)
    there)
    c.set.ensures.ok

-- the process goes back as it was
pub returns-clause-err : goal.returns-clause-err
returns-clause-err g c =
    let task : Map ℕ Entry → Task = λ es. record { info = c.task.inside.info; table = es } in
    on_err c.set.result
    (λ same. written_same c.self.inside.tasks.entries _ c.args.self.now c.args.pid (task c.set.new.self) c.in-Some.task.now c.self.view_is c.in-Some.ensures.value
    (c.get_mut.follows.holds (task c.set.new.self)).0
    (ap task {x = c.set.new.self} same ∙ c.task.view_is))
    c.set.ensures.err

-- the process that was found has no entry there
pub returns-clause-empty : goal.returns-clause-empty
returns-clause-empty g c =
    let found = found_value c.self.inside.tasks.entries c.args.self.now c.args.pid c.in-Some.task.now c.self.view_is c.in-Some.ensures.value in
    on_err c.set.result (λ none v near. ap (λ o. entry_in o v) (found ∙ ap Some (sym c.task.view_is)) ∙ none v near) c.set.ensures.empty
