use Rattle.std.proofs.Common.{ap, sym, subst, ◌∙◌, refl}
use Rattle.std.specs.Prelude.{Option}
use Rattle.nm_types.specs.declared.entry.Entry.{Entry}
use Rattle.nm_model.specs.definitions.PageTables.{entry_at}
use Rattle.nm_spaces.specs.views.ProcessTable.{names}
use Rattle.nm_spaces.specs.definitions.Tied.{IsWithout}
use Rattle.nm_spaces.proofs.ProcessTable.NamedFrames.{names_it, zero_if_none}
use Rattle.nm_spaces.proofs.Tied.ClearedEntries.{less_zero, less_named}
use Rattle.nm_spaces.proofs.Tied.UndoneTouches.{without_none}
use Rattle.nm_spaces.proofs.address_spaces.back.drop_mapper.Goals as goal

pub returns-in_default : goal.returns-in_default
returns-in_default g c = without_none c.args.rmap.now (c.args.pid, c.args.vpn) (entry_at c.args.tasks.now c.args.pid c.args.vpn) (sym c.entry.ensures ∙ c.in_default.is)

pub returns-in_default-frame_named : goal.returns-in_default-frame_named
returns-in_default-frame_named g c =
    subst (λ (o : Option Entry). IsWithout c.args.rmap.now c.args.rmap.now (c.args.pid, c.args.vpn) o) (sym c.in-Some.is ∙ c.entry.ensures)
    (less_zero c.args.rmap.now c.args.rmap.now (c.args.pid, c.args.vpn) c.in-Some.entry (zero_if_none c.in-Some.entry (sym c.frame_named.ensures ∙ c.in_default-frame_named.is)) refl)

pub drop_one-requires : goal.drop_one-requires
drop_one-requires g c =
    let f = c.in-Some-frame_named.frame in
    c.requires f (ap (names f) (sym c.entry.ensures ∙ c.in-Some.is) ∙ names_it c.in-Some.entry f (sym c.frame_named.ensures ∙ c.in-Some-frame_named.is))

pub returns-in-Some-frame_named : goal.returns-in-Some-frame_named
returns-in-Some-frame_named g c =
    let f = c.in-Some-frame_named.frame in
    let named = sym c.frame_named.ensures ∙ c.in-Some-frame_named.is in
    subst (λ (o : Option Entry). IsWithout c.args.rmap.now c.drop_one.new.self (c.args.pid, c.args.vpn) o) (sym c.in-Some.is ∙ c.entry.ensures)
    (less_named c.args.rmap.now c.drop_one.new.self f (c.args.pid, c.args.vpn) c.in-Some.entry named (c.requires f (ap (names f) (sym c.entry.ensures ∙ c.in-Some.is) ∙ names_it c.in-Some.entry f named)) c.drop_one.ensures.ordered c.drop_one.ensures.mapper)
