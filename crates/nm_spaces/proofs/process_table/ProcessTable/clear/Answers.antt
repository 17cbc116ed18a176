use Rattle.std.proofs.Common.{ℕ, ap, subst, sym, ◌∙◌}
use Rattle.std.specs.Prelude.{Option, IsSome}
use Rattle.std.specs.Option.{option_copied_mut}
use Rattle.nm_types.specs.Map.{Map}
use Rattle.nm_types.proofs.Cases.{none_is_not}
use Rattle.nm_types.specs.declared.entry.Entry.{Entry}
use Rattle.nm_model.specs.definitions.PageTables.{Task}
use Rattle.nm_spaces.specs.views.ProcessTable.{without_entry}
use Rattle.nm_spaces.proofs.ProcessTable.Changes.{none_found, becomes}
use Rattle.nm_spaces.proofs.process_table.ProcessTable.clear.Goals as goal

pub unreachable-requires : goal.unreachable-requires
unreachable-requires g c =
    absurd (none_is_not Task (subst (λ (o : Option Task). IsSome o) (none_found c.self.inside.tasks.entries c.args.self.now c.args.pid c.self.view_is (ap option_copied_mut (sym c.in_default.is) ∙ c.get_mut.ensures.value)) c.requires))

pub returns : goal.returns
returns g c =
    let task : Map ℕ Entry → Task = λ es. record { info = c.task.inside.info; table = es } in
    λ t there. becomes (λ x. without_entry x c.args.vpn) c.self.inside.tasks.entries _ c.args.self.now c.args.pid c.in-Some.task.now (task c.clear.new.self) t c.self.view_is c.in-Some.ensures.value
    (c.get_mut.follows.holds (task c.clear.new.self)).0
    (ap task {x = c.clear.new.self} c.clear.ensures.entry ∙ ap (λ x. without_entry x c.args.vpn) c.task.view_is)
    there
