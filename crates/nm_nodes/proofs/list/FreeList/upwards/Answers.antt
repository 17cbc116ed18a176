use Rattle.std.proofs.Common.{◌≡◌, ◌+◌, ◌-◌, ap, ◌∙◌, sym, [], ◌∷◌, ◌++◌, List, ℕ, arith}
use Rattle.nm_types.specs.Nodes.{up_from}
use Rattle.nm_nodes.proofs.Stretches.{up_from_more}
use Rattle.nm_nodes.proofs.list.FreeList.upwards.Goals as goal

pub returns-clause-ok : goal.returns-clause-ok
returns-clause-ok g c =
    let e : c.loop-number.number - c.args.first ≡ c.args.size = omega arith in
    ap (λ (ns : List ℕ). (c.args.size, ns)) (c.loop-number.invariant.up ∙ ap (up_from c.args.first) e)

pub loop-number-preserved : goal.loop-number-preserved
loop-number-preserved g c =
    let done : ℕ = c.loop-number.number - c.args.first in
    let more : done + 1 ≡ c.loop-number.number + 1 - c.args.first = omega arith in
    let here : c.new.result ≡ c.args.first + done = omega arith in
    record {
      up = c.in_ok-push_back.ensures.items ∙ ap (λ (ns : List ℕ). ns ++ c.new.result ∷ []) c.loop-number.invariant.up ∙ ap (λ (n : ℕ). up_from c.args.first done ++ n ∷ []) here
          ∙ sym (up_from_more c.args.first done) ∙ ap (up_from c.args.first) more;
      room = omega arith;
    }
