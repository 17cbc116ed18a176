use Rattle.std.proofs.Common.{◌<◌, ℕ, [], length, ap, ◌∙◌, Option, Some, None, IsSome, option_map, subst}
use Rattle.std.specs.Option.{unwrap_or}
use Rattle.std.specs.Ordering.{nat_cmp}
use Rattle.nm_types.specs.Map.{Map, get, with_values}
use Rattle.nm_types.specs.State.{Process}
use Rattle.nm_types.specs.declared.entry.Entry.{Entry}
use Rattle.nm_types.proofs.Keys.{as_many-values}
use Rattle.nm_model.specs.definitions.PageTables.{entry_of}
use Rattle.nm_spaces.proofs.Boxed.{seen, tied}
use Rattle.nm_spaces.proofs.ProcessTable.Changes.{if_ok, on_err}
use Rattle.nm_spaces.proofs.Tied.Beginnings.{table_shown, info_shown}
use Rattle.nm_spaces.proofs.address_spaces.AddressSpaces.entries.Goals as goal

pub returns-clause-entries : goal.returns-clause-entries
returns-clause-entries g c =
    let x = c.deref-parts.result.now in
    if_ok c.entries.result (λ all is. is ∙ table_shown x.tasks x.areas x.rmap (tied c.deref-parts.ensures c.self.invariant) c.args.self.now c.args.pid (seen c.deref-parts.ensures c.self.view_is)) c.entries.ensures.entries

-- something is there where something is made of it
mapped_some : {X Y : Type 0} (f : X → Y) (o : Option X) → IsSome o → IsSome (option_map f o)
mapped_some f (Some x) h = h
mapped_some f None h = h

some_mapped : {X Y : Type 0} (f : X → Y) (o : Option X) → IsSome (option_map f o) → IsSome o
some_mapped f (Some x) h = h
some_mapped f None h = h

pub returns-clause-memory : goal.returns-clause-memory
returns-clause-memory g c =
    let x = c.deref-parts.result.now in
    let there = info_shown c.args.self.now x.tasks x.areas x.rmap c.args.pid (seen c.deref-parts.ensures c.self.view_is) in
    on_err c.entries.result (λ some. some_mapped _ (get nat_cmp c.args.self.now.processes c.args.pid) (subst IsSome there (mapped_some _ (get nat_cmp x.tasks c.args.pid) some))) c.entries.ensures.memory

pub returns-clause-allocates : goal.returns-clause-allocates
returns-clause-allocates g c =
    let x = c.deref-parts.result.now in
    let y = c.args.self.now in
    let shown : Process → Map ℕ Entry = λ p. with_values (λ v sight. entry_of y.place sight) p.sees in
    on_err c.entries.result (λ some p found.
    subst (λ n. 0 < n) (as_many-values (λ v sight. entry_of y.place sight) p.sees)
    (subst (λ (o : Option (Map ℕ Entry)). 0 < length (unwrap_or o [])) (table_shown x.tasks x.areas x.rmap (tied c.deref-parts.ensures c.self.invariant) y c.args.pid (seen c.deref-parts.ensures c.self.view_is) ∙ ap (option_map shown) found) some))
    c.entries.ensures.allocates
