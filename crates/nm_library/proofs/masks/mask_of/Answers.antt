use Rattle.std.proofs.Common.{◌≡◌, ◌≢◌, ℕ, ◌%◌, ◌^◌, ap, sym, ◌∙◌, arith}
use Rattle.std.specs.BTreeSet.{insert_key}
use Rattle.std.specs.Int.{bit_at}
use Rattle.std.specs.Ordering.{nat_cmp}
use Rattle.std.proofs.lemmas.Nat.Bits.{bit_at-lt, shr_and_one}
use Rattle.nm_types.specs.Nodes.{members}
use Rattle.nm_types.proofs.Members.{members-zero}
use Rattle.nm_library.proofs.LowBits.{with_bit, without_bit}
use Rattle.nm_library.proofs.masks.mask_of.Goals as goal
use Rattle.nm_library.proofs.masks.mask_of.Goals.{then-bits-node-eq1, else-bits-node-eq1}

pub loop-node-init : goal.loop-node-init
loop-node-init c = c.new-mask.ensures ∙ sym members-zero ∙ ap members (omega arith)

pub loop-node-preserved : goal.loop-node-preserved
loop-node-preserved c =
    let bits = c.args.bits in let n = c.loop-node.node in
    elim c.if-bits-node-eq1.branch [
      | then-bits-node-eq1 w ↦
          w.mask-is ∙ w.insert.ensures ∙ (λ i. insert_key nat_cmp (c.loop-node.invariant i) (w.new.ensures i))
          ∙ with_bit bits n c.loop-node-test.true (sym (shr_and_one bits n) ∙ w.if-bits-node-eq1.true)
      | else-bits-node-eq1 w ↦
          let unset : bit_at bits n ≢ 1 = λ e. w.if-bits-node-eq1.false (shr_and_one bits n ∙ e) in
          let small = bit_at-lt bits n in
          w.mask-is ∙ c.loop-node.invariant ∙ without_bit bits n (omega (arith, unset, small))
    ]

pub returns : goal.returns
returns c =
    let all : c.loop-node.node ≡ 64 = omega (arith, c.loop-node-test.false, c.loop-node.auto.node-end) in
    let whole : c.args.bits % 2 ^ 64 ≡ c.args.bits = omega (arith, c.ranges.bits.fits) in
    c.loop-node.invariant ∙ ap (λ (n : ℕ). members (c.args.bits % 2 ^ n)) all ∙ ap members whole
