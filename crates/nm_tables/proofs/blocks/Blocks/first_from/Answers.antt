use Rattle.std.proofs.Common.{◌+◌, ◌/◌, ◌∙◌, arith}
use Rattle.nm_tables.proofs.Slots.{own_block, walk-at, walk-before, walk-on, walk-first}
use Rattle.nm_tables.proofs.blocks.Blocks.first_from.Goals as goal

pub first_of-requires : goal.first_of-requires
first_of-requires g c = (c.in-Some.block, c.in-Some.ensures.slot)

pub returns-in-Some-first_of-clause-some : goal.returns-in-Some-first_of-clause-some
returns-in-Some-first_of-clause-some g c =
    let b = c.args.self.now in
    let h = c.in-Some.ensures.some.1 in
    let e = c.in-Some-first_of.found in
    let some = c.in-Some-first_of.ensures.some in
    let own = own_block b.leaves.items b.index c.requires.0 c.in-Some.block e.0 c.in-Some.slot e.1 h some.1 in
    (some.0, walk-at b.leaves.items b.index c.requires.0 c.in-Some.block c.in-Some.slot e.0 h own ∙ some.1)

pub returns-in-Some-first_of-clause-first : goal.returns-in-Some-first_of-clause-first
returns-in-Some-first_of-clause-first g c =
    let b = c.args.self.now in
    let e = c.in-Some-first_of.found in
    walk-first b.leaves.items b.index c.requires.0 c.args.at c.loop-block.from c.loop-block.invariant.before c.in-Some.block c.in-Some.ensures.first c.in-Some.slot e.0 e.1 c.in-Some.ensures.some.1
    c.in-Some-first_of.ensures.some.1 c.in-Some-first_of.ensures.first

pub loop-block-preserved : goal.loop-block-preserved
loop-block-preserved g c =
    let b = c.args.self.now in
    let low = c.in-Some.ensures.slot.0 in
    record {
      fits = omega (arith, low);
      before = λ v at high.
          walk-on b.leaves.items b.index c.requires.0 c.args.at c.loop-block.from c.loop-block.invariant.before c.in-Some.block c.in-Some.ensures.first c.in-Some.slot c.in-Some.ensures.some.1 v at high
          (c.in_default-first_of.ensures.none v at);
    }

pub returns-clause-none : goal.returns-clause-none
returns-clause-none g c v at =
    let b = c.args.self.now in
    walk-before b.leaves.items b.index c.requires.0 c.args.at c.loop-block.from c.loop-block.invariant.before (v / 512 + 1) (λ k low high. c.in_default.ensures.none k low) v at (omega arith)
