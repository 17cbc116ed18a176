use Rattle.std.proofs.Common.{◌≡◌, ℕ, List, [], ◌+◌, true, drop, sym, subst, ap, ◌∙◌}
use Rattle.std.specs.List.{AllByRecursion}
use Rattle.std.proofs.Math.ListN.{drop_of_length-le}
use Rattle.nm_types.specs.Map.{Map}
use Rattle.nm_types.specs.declared.entry.Entry.TheVariants.{Frame}
use Rattle.nm_types.specs.declared.page_move.PageMove.{PageMove}
use Rattle.nm_model.specs.definitions.Events.{arrival_of, with_entries}
use Rattle.nm_model.specs.definitions.PageTables.{Task, entry_at}
use Rattle.nm_rmap.specs.Mappers.{mappers_of}
use Rattle.nm_spaces.specs.views.Held.{is_taken}
use Rattle.nm_spaces.specs.views.ProcessTable.{IsThere, all_replaced, names}
use Rattle.nm_spaces.specs.definitions.Tied.{AreInOrder, has_spot}
use Rattle.nm_spaces.proofs.Held.HeldEntries.{all_arrived, arrive_fewer, arrive_same, named_there, order_before, still_taken}
use Rattle.nm_laws.proofs.Lists.{drop_item}
use Rattle.nm_spaces.proofs.address_spaces.held.arrive.Given.{Over}
use Rattle.nm_spaces.proofs.address_spaces.held.arrive.Goals as goal

none_taken : (f : ℕ) → is_taken [] f ≡ true → ⊥
none_taken f h = cc

-- the mappers of a frame that a page takes are the entries that name it once they have arrived
named : (g : Over) (c : goal.After-replace_each g) (pid v : ℕ)
    → has_spot (mappers_of c.args.rmap.now c.taken-item.result.to) (pid, v) ≡ names c.taken-item.result.to (entry_at (with_entries arrival_of c.loop-taken.tasks) pid v)
named g c pid v =
    c.requires.mappers c.taken-item.result.to pid v ∙ ap (λ (ts : Map ℕ Task). names c.taken-item.result.to (entry_at ts pid v)) (sym c.loop-taken.invariant.same)

pub replace_each-requires : goal.replace_each-requires
replace_each-requires g c =
    let to = c.taken-item.result.to in
    subst (AllByRecursion (IsThere c.loop-taken.tasks)) (sym c.mappings.ensures.all)
    (named_there c.loop-taken.tasks (mappers_of c.args.rmap.now to) to
    (λ pid v. c.requires.mappers to pid v ∙ ap (λ (ts : Map ℕ Task). names to (entry_at ts pid v)) (sym c.loop-taken.invariant.same)))

pub loop-taken-preserved : goal.loop-taken-preserved
loop-taken-preserved g c =
    let tasks = c.loop-taken.tasks in
    let t = c.taken-item.result in
    let l = mappers_of c.args.rmap.now t.to in
    let at = drop_item c.args.moves.now c.loop-taken.taken-index t c.loop-taken-test.true c.taken-item.is in
    let is : c.replace_each.new.tasks ≡ all_replaced tasks l (Frame t.to) = c.replace_each.ensures ∙ ap (λ ms. all_replaced tasks ms (Frame t.to)) c.mappings.ensures.all in
    record {
      same = ap (with_entries arrival_of) is ∙ arrive_same tasks l t.to (named g c) ∙ c.loop-taken.invariant.same;
      among = λ f pid v h.
          let k = arrive_fewer tasks l t.to (named g c) f pid v (ap (λ (ts : Map ℕ Task). entry_at ts pid v) (sym is) ∙ h) in
          still_taken t (drop (c.loop-taken.taken-index + 1) c.args.moves.now) f k.1
          (subst (λ (ts : List PageMove). is_taken ts f ≡ true) at (c.loop-taken.invariant.among f pid v k.0));
    }

pub returns : goal.returns
returns g c =
    let tasks = c.loop-taken.tasks in
    let order = order_before tasks (subst AreInOrder (sym c.loop-taken.invariant.same) c.requires.order) in
    sym (all_arrived tasks order (λ f pid v h.
    none_taken f (subst (λ (ts : List PageMove). is_taken ts f ≡ true) (drop_of_length-le c.args.moves.now c.loop-taken-test.false) (c.loop-taken.invariant.among f pid v h))))
    ∙ c.loop-taken.invariant.same
