use Rattle.std.proofs.Common.{◌≡◌, ◌+◌, ◌<◌, ◌≤◌, ap, sym, zero-add, ◌++◌, ◌∷◌, ◌∙◌, subst, ℕ, List, [], take, sum, length, get_or, arith, refl}
use Rattle.std.proofs.lemmas.List.{take_all, take_more}
use Rattle.std.proofs.lemmas.List.Sums.{sum_by_more_le}
use Rattle.nm_types.specs.Nodes.{up_from}
use Rattle.nm_model.specs.definitions.Frames.{IsPool}
use Rattle.nm_nodes.specs.Lists.{pool_of_lists}
use Rattle.nm_nodes.proofs.Pools.{rows, rows_none, rows_more, sum-push, pool_of-rows, IsPool-new_pool}
use Rattle.nm_nodes.proofs.pool.NodePool.new.Given.{Over}
use Rattle.nm_nodes.proofs.pool.NodePool.new.Goals.{After-size-size}
use Rattle.nm_nodes.proofs.pool.NodePool.new.Goals as goal

pub loop-node-init : goal.loop-node-init
loop-node-init g c = record { made = c.in_ok-lists.ensures.items ∙ sym (rows_none 0); next = refl }

-- the node's frames are among those of all nodes
no_further : (g : Over) (c : After-size-size g) → c.loop-node.first + c.size-size.result ≤ sum c.args.geometry.now.sizes
no_further g c =
    let sizes = c.args.geometry.now.sizes in
    let size : c.size-size.result ≡ get_or sizes c.loop-node.node 0 = c.size-size.ensures ∙ ap (λ n. get_or sizes n 0) c.new.ensures in
    let within : c.loop-node.node < length sizes = omega arith in
    omega (arith, size, sum_by_more_le (λ (n : ℕ). n) sizes c.loop-node.node 0 within, c.loop-node.invariant.next)

pub upwards-requires : goal.upwards-requires
upwards-requires g c = omega (arith, no_further g (goal.at.upwards-requires g c).After-size-size, c.node_count.ensures.machine.few_frames)

pub overflow_add-first : goal.overflow_add-first
overflow_add-first g c = omega (arith, no_further g (goal.at.overflow_add-first g c).After-size-size, c.node_count.ensures.machine.few_frames)

pub loop-node-preserved : goal.loop-node-preserved
loop-node-preserved g c =
    let sizes = c.args.geometry.now.sizes in
    let front : List ℕ = take c.loop-node.node sizes in
    let within : c.loop-node.node < length sizes = omega arith in
    let size : get_or sizes c.loop-node.node 0 ≡ c.size-size.result = sym (c.size-size.ensures ∙ ap (λ n. get_or sizes n 0) c.new.ensures) in
    let more : take (c.loop-node.node + 1) sizes ≡ front ++ c.size-size.result ∷ [] = take_more sizes c.loop-node.node 0 within ∙ ap (λ (n : ℕ). front ++ n ∷ []) size in
    let row : c.in_ok-list.list ≡ (c.size-size.result, up_from (0 + sum front) c.size-size.result) =
    c.in_ok-list.ensures.ok ∙ ap (λ (n : ℕ). (c.size-size.result, up_from n c.size-size.result)) (c.loop-node.invariant.next ∙ sym (zero-add (sum front))) in
    record {
      made = c.in_ok-push.ensures.items ∙ ap (λ (rs : List (ℕ × List ℕ)). rs ++ c.in_ok-list.list ∷ []) c.loop-node.invariant.made
          ∙ ap (λ (r : ℕ × List ℕ). rows 0 front ++ r ∷ []) row ∙ sym (rows_more 0 front c.size-size.result) ∙ ap (rows 0) (sym more);
      next = omega (arith, c.loop-node.invariant.next, ap (λ (ns : List ℕ). sum ns) more, sum-push front c.size-size.result);
    }

pub returns : goal.returns
returns g c =
    let sizes = c.args.geometry.now.sizes in
    let all : take c.loop-node.node sizes ≡ sizes = take_all c.loop-node.node sizes (omega arith) in
    ap pool_of_lists (c.loop-node.invariant.made ∙ ap (rows 0) all) ∙ pool_of-rows sizes

pub invariant_of-result : goal.invariant_of-result
invariant_of-result g c = subst IsPool (sym (returns g c)) (IsPool-new_pool c.args.geometry.now.sizes)
