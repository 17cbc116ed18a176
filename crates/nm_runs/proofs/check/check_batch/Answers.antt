use Rattle.std.proofs.Common.{◌≡◌, ℕ, ◌+◌, ◌<◌, List, length, get_or, drop, sym, ap, ◌∙◌, arith}
use Rattle.std.specs.Prelude.{None}
use Rattle.std.proofs.lemmas.List.{at_drop_more, at_drop_all}
use borrow.Author.Count.{below_more}
use Rattle.nm_runs.specs.Targets.{node_refusal, first_refusal, earlier}
use Rattle.nm_runs.proofs.check.check_batch.Goals as goal

-- the refusal of a list is that of its next node, or of those after it
module _ (count : ℕ) (online allowed nodes : List ℕ) (i node : ℕ) (lt : i < length nodes) (is : node ≡ get_or nodes i 0) where
  refusal-step : first_refusal count online allowed (drop i nodes) ≡ earlier (node_refusal count online allowed node) (first_refusal count online allowed (drop (i + 1) nodes))
  refusal-step =
      at_drop_more (first_refusal count online allowed) nodes i 0 lt
      ∙ ap (λ n. earlier (node_refusal count online allowed n) (first_refusal count online allowed (drop (i + 1) nodes))) (sym is)

  refusal-later : node_refusal count online allowed node ≡ None → first_refusal count online allowed (drop i nodes) ≡ first_refusal count online allowed (drop (i + 1) nodes)
  refusal-later e = refusal-step ∙ ap (λ r. earlier r (first_refusal count online allowed (drop (i + 1) nodes))) e

pub loop-node-preserved : goal.loop-node-preserved
loop-node-preserved c = record {
  nodes = below_more (λ k. get_or c.args.nodes.now k 0 < c.args.count) c.loop-node.node-index c.loop-node.invariant.nodes (omega (arith, c.new.ensures, c.in_ok-check_node.ensures.node));
  exact =
      sym (refusal-later c.args.count c.args.online c.args.allowed c.args.nodes.now c.loop-node.node-index c.new.result c.loop-node-test.true c.new.ensures c.in_ok-check_node.ensures.exact)
      ∙ c.loop-node.invariant.exact;
}

pub returns-clause-exact : goal.returns-clause-exact
returns-clause-exact c =
    sym c.loop-node.invariant.exact ∙ at_drop_all (first_refusal c.args.count c.args.online c.args.allowed) c.args.nodes.now c.loop-node.node-index c.loop-node-test.false
