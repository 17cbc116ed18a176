use Rattle.std.proofs.lemmas.List.{take_all}
use Rattle.std.proofs.Common.{ℕ, ◌+◌, sym, ap, ◌∙◌, arith, ◌≡◌, ◌<◌, List, [], ◌∷◌, map, length, refl, Some}
use lib.ListN.{get_elem?}
use Rattle.std.specs.Mem.Slots.{slots_len, slots_items, slots_counts}
use Rattle.nm_board.proofs.Filled.{some_there, one_more, filled_rest, filled_gone}
use Rattle.nm_board.proofs.slots.take_all.Goals as goal

none_yet : {A : Type 0} (xs : List A) → length xs ≡ 0 → map Some xs ≡ []
none_yet [] e = refl
none_yet (x ∷ xs) e = absurd (omega arith)

pub unreachable-requires : goal.unreachable-requires
unreachable-requires g c = some_there c.requires.jobs.0 _ c.loop-i.i c.requires.jobs.1 (sym (ap (λ l. get_elem? l c.loop-i.i) c.loop-i.invariant.2) ∙ c.in-None.ensures.value)

pub loop-i-preserved : goal.loop-i-preserved
loop-i-preserved g c = let o = c.in-Some.ensures.others in (
  (λ k lo hi. filled_rest _ _ _ (slots_len c.loop-i.closed.slots) k o.1 c.loop-i.invariant.0 lo (omega arith)),
  (λ k lt. filled_gone _ _ _ k o.1 (omega arith) c.loop-i.invariant.1 lt),
  o.0 ∙ c.loop-i.invariant.2,
  o.2 ∙ c.loop-i.invariant.3,
  omega arith,
  one_more _ _ c.in-Some.job _ _ (sym (ap (λ l. get_elem? l c.loop-i.i) c.loop-i.invariant.2) ∙ c.in-Some.ensures.value) c.loop-i.invariant.5 c.push_reserved.ensures.items,
  c.push_reserved.ensures.capacity ∙ c.loop-i.invariant.6,
  c.push_reserved.ensures.len ∙ ap (λ (n : ℕ). n + 1) c.loop-i.invariant.7,
)

pub loop-i-init : goal.loop-i-init
loop-i-init g c = (c.requires.full, (λ k lt. absurd (omega arith)), refl, refl, omega arith, none_yet c.args.room.now.items (omega (arith, c.requires.room.0)), refl, c.requires.room.0)

pub take-requires : goal.take-requires
take-requires g c =
    let lt : c.loop-i.i < slots_len c.loop-i.closed.slots = omega (arith, c.slot_count.ensures, c.loop-i-test.true) in
    (lt, c.loop-i.invariant.0 c.loop-i.i (omega arith) lt)

pub push_reserved-requires : goal.push_reserved-requires
push_reserved-requires g c =
    omega (arith, c.slot_count.ensures, c.loop-i-test.true, c.loop-i.invariant.3, c.loop-i.invariant.6, c.loop-i.invariant.7, c.requires.room.1)

pub overflow_add-i : goal.overflow_add-i
overflow_add-i g c = omega (arith, c.slot_count.type_inv, c.loop-i-test.true)

pub loop-i-smaller : goal.loop-i-smaller
loop-i-smaller g c = omega (arith, c.in-Some.ensures.others.2, c.slot_count.ensures, c.loop-i-test.true)

pub free-requires : goal.free-requires
free-requires g c = λ k lt. c.loop-i.invariant.1 k (omega (arith, c.slot_count.ensures, c.loop-i-test.false))

pub returns : goal.returns
returns g c =
    c.loop-i.invariant.5 ∙ take_all c.loop-i.i (slots_items c.args.closed.slots) (omega (arith, (slots_counts c.args.closed.slots).0, c.loop-i.invariant.3, c.slot_count.ensures, c.loop-i-test.false))
