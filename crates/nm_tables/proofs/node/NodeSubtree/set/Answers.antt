use Rattle.std.specs.List.Sorted.{IsStrictlySortedBy}
use Rattle.std.specs.Result.{OnErr}
use Rattle.std.proofs.Common.{◌≡◌, ◌/◌, refl, sym, ap, subst, ◌∙◌, Result, Ok, Err}
use Rattle.std.specs.List.{AllByRecursion}
use Rattle.std.specs.Map.{keys_of}
use Rattle.std.specs.Ordering.{nat_cmp}
use Rattle.std.proofs.lemmas.Result.{IfOk-from_err, on_ok_weaker, on_err_weaker}
use Rattle.nm_types.proofs.Keys.{keys-replace}
use Rattle.nm_tables.specs.definitions.Tree.{flatten}
use Rattle.nm_tables.specs.definitions.Nodes.{slots_shown, IsNode}
use Rattle.nm_tables.proofs.Changed.{all-set, set_some, replace_some}
use Rattle.nm_tables.proofs.Nodes as node
use Rattle.nm_tables.proofs.Parts.{IsPartAt, part_at, absent_at, inserted_at}
use Rattle.nm_tables.proofs.node.NodeSubtree.set.Given.{Over}
use Rattle.nm_tables.proofs.node.NodeSubtree.set.Goals.{After-index_mut}
use Rattle.nm_tables.proofs.node.NodeSubtree.set.Goals as goal

err_is : {T E : Type 0} (r : Result T E) (P : Type 0) → P → OnErr r P
err_is (Ok x) P p = tt
err_is (Err x) P p = p

-- the part with the block's number
its_part : (g : Over) (c : After-index_mut g) → IsPartAt c.args.self.now.parts.items (g.T.Subtree.number c.args.block) c.in-Ok.place c.index_mut.result.now
its_part g c = part_at c.args.self.now.parts.items c.as_slice.result.now (g.T.Subtree.number c.args.block) c.number_of-number.result c.in-Ok.place c.as_slice.ensures.value c.number_of-number.ensures c.index_mut.result.now c.requires.kept.0.0 c.in-Ok.ensures.found c.index_mut.ensures.value

pub returns-in-Ok-clause-ok : goal.returns-in-Ok-clause-ok
returns-in-Ok-clause-ok g c =
    let parts = c.args.self.now.parts.items in
    let part = its_part g (goal.at.returns-in-Ok-clause-ok g c).After-index_mut in
    on_ok_weaker c.set.result (λ is. ap (λ ps. flatten (slots_shown g.T.Subtree.slots ps)) (part.written c.set.new.self) ∙ node.node-set g.T.Subtree.slots g.T.Subtree.number g.T.Subtree.whole g.T.Subtree.is_in g.met.T.Subtree.parted g.met.T.Subtree.upwards parts c.requires.kept.0 c.args.block c.index_mut.result.now.1 c.set.new.self part.found c.args.slot is) c.set.ensures.ok

pub returns-in-Ok-clause-err : goal.returns-in-Ok-clause-err
returns-in-Ok-clause-err g c =
    let parts = c.args.self.now.parts.items in
    let part = its_part g (goal.at.returns-in-Ok-clause-err g c).After-index_mut in
    on_err_weaker c.set.result (λ is. ap (λ ps. flatten (slots_shown g.T.Subtree.slots ps)) (part.written c.set.new.self) ∙ node.node-same g.T.Subtree.slots g.T.Subtree.number g.T.Subtree.whole g.T.Subtree.is_in g.met.T.Subtree.parted g.met.T.Subtree.upwards parts c.requires.kept.0 c.args.block c.index_mut.result.now.1 c.set.new.self part.found is) c.set.ensures.err

pub returns-in-Ok-clause-kept : goal.returns-in-Ok-clause-kept
returns-in-Ok-clause-kept g c =
    let parts = c.args.self.now.parts.items in
    let part = its_part g (goal.at.returns-in-Ok-clause-kept g c).After-index_mut in
    let own = node.found g.T.Subtree.slots g.T.Subtree.number g.T.Subtree.whole g.T.Subtree.is_in g.met.T.Subtree.parted g.met.T.Subtree.upwards parts c.requires.kept.0 (g.T.Subtree.number c.args.block) c.index_mut.result.now.1 part.found in (
      subst (IsNode g.T.Subtree.whole g.T.Subtree.is_in) (sym (part.written c.set.new.self))
          (node.node-kept g.T.Subtree.slots g.T.Subtree.number g.T.Subtree.whole g.T.Subtree.is_in g.met.T.Subtree.parted g.met.T.Subtree.upwards parts c.requires.kept.0 (g.T.Subtree.number c.args.block) c.set.new.self c.set.ensures.kept (c.set.ensures.inside (g.T.Subtree.number c.args.block) own.1 refl)),
      λ none. replace_some parts (g.T.Subtree.number c.args.block) c.set.new.self c.requires.kept.1 (sym (part.written c.set.new.self) ∙ none),
    )

pub returns-in-Ok-clause-inside : goal.returns-in-Ok-clause-inside
returns-in-Ok-clause-inside g c i all own =
    let parts = c.args.self.now.parts.items in
    let part = its_part g (goal.at.returns-in-Ok-clause-inside g c).After-index_mut in
    subst (λ ks. AllByRecursion (λ k. k / 512 ≡ i) ks) (sym (ap keys_of (part.written c.set.new.self) ∙ keys-replace nat_cmp parts (g.T.Subtree.number c.args.block) c.set.new.self)) all

pub returns-in_ok-insert-in-Err-clause-ok : goal.returns-in_ok-insert-in-Err-clause-ok
returns-in_ok-insert-in-Err-clause-ok g c =
    let parts = c.args.self.now.parts.items in
    let part = c.in_ok-part-in-Err.part in
    let none = absent_at parts c.as_slice.result.now (g.T.Subtree.number c.args.block) c.number_of-number.result c.in-Err.place c.as_slice.ensures.value c.number_of-number.ensures c.in-Err.ensures.fits in
    let more = c.in_ok-insert-in-Err.ensures.items ∙ inserted_at parts c.as_slice.result.now (g.T.Subtree.number c.args.block) c.number_of-number.result c.in-Err.place c.as_slice.ensures.value c.number_of-number.ensures c.in-Err.ensures.fits part in
    ap (λ ps. flatten (slots_shown g.T.Subtree.slots ps)) more ∙ node.node-new g.T.Subtree.slots g.T.Subtree.number g.T.Subtree.whole g.T.Subtree.is_in g.met.T.Subtree.parted g.met.T.Subtree.upwards parts c.requires.kept.0 c.args.block part c.args.slot none c.in_ok-part-in-Err.ensures.slots

pub returns-in_ok-insert-in-Err-clause-kept : goal.returns-in_ok-insert-in-Err-clause-kept
returns-in_ok-insert-in-Err-clause-kept g c =
    let parts = c.args.self.now.parts.items in
    let part = c.in_ok-part-in-Err.part in
    let more = c.in_ok-insert-in-Err.ensures.items ∙ inserted_at parts c.as_slice.result.now (g.T.Subtree.number c.args.block) c.number_of-number.result c.in-Err.place c.as_slice.ensures.value c.number_of-number.ensures c.in-Err.ensures.fits part in (
      subst (IsNode g.T.Subtree.whole g.T.Subtree.is_in) (sym more)
          (node.node-more g.T.Subtree.slots g.T.Subtree.number g.T.Subtree.whole g.T.Subtree.is_in g.met.T.Subtree.parted g.met.T.Subtree.upwards parts c.requires.kept.0 (g.T.Subtree.number c.args.block) part c.in_ok-part-in-Err.ensures.kept c.in_ok-part-in-Err.ensures.inside),
      λ none. set_some parts (g.T.Subtree.number c.args.block) part (sym more ∙ none),
    )

pub returns-in_ok-insert-in-Err-clause-inside : goal.returns-in_ok-insert-in-Err-clause-inside
returns-in_ok-insert-in-Err-clause-inside g c i all own =
    let parts = c.args.self.now.parts.items in
    let part = c.in_ok-part-in-Err.part in
    let more = c.in_ok-insert-in-Err.ensures.items ∙ inserted_at parts c.as_slice.result.now (g.T.Subtree.number c.args.block) c.number_of-number.result c.in-Err.place c.as_slice.ensures.value c.number_of-number.ensures c.in-Err.ensures.fits part in
    subst (λ ps. AllByRecursion (λ k. k / 512 ≡ i) (keys_of ps)) (sym more) (all-set (λ k. k / 512 ≡ i) parts (g.T.Subtree.number c.args.block) part all own)

pub place_of-requires : goal.place_of-requires
place_of-requires g c = record { ordered = subst (λ l. IsStrictlySortedBy nat_cmp (keys_of l)) (sym c.as_slice.ensures.value) c.requires.kept.0.0 }

pub set-requires-clause-kept : goal.set-requires-clause-kept
set-requires-clause-kept g c =
    let parts = c.args.self.now.parts.items in
    let part = its_part g (goal.at.set-requires-clause-kept g c).After-index_mut in
    (node.found g.T.Subtree.slots g.T.Subtree.number g.T.Subtree.whole g.T.Subtree.is_in g.met.T.Subtree.parted g.met.T.Subtree.upwards parts c.requires.kept.0 (g.T.Subtree.number c.args.block) c.index_mut.result.now.1 part.found).0

pub returns-in_err-part-in-Err-clause-ok : goal.returns-in_err-part-in-Err-clause-ok
returns-in_err-part-in-Err-clause-ok g c = IfOk-from_err _ _ c.from_residual.ensures.0

pub returns-in_err-part-in-Err-clause-err : goal.returns-in_err-part-in-Err-clause-err
returns-in_err-part-in-Err-clause-err g c = err_is c.from_residual.result _ refl

pub returns-in_err-part-in-Err-clause-kept : goal.returns-in_err-part-in-Err-clause-kept
returns-in_err-part-in-Err-clause-kept g c = c.requires.kept

pub returns-in_err-part-in-Err-clause-inside : goal.returns-in_err-part-in-Err-clause-inside
returns-in_err-part-in-Err-clause-inside g c i all own = all

pub returns-in_err-insert-in-Err-clause-ok : goal.returns-in_err-insert-in-Err-clause-ok
returns-in_err-insert-in-Err-clause-ok g c = IfOk-from_err _ _ c.from_residual-in_err-insert-in-Err.ensures.0
