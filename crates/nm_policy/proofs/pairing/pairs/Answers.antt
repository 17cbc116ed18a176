use Rattle.std.proofs.Common.{◌≡◌, ◌+◌, ◌-◌, ◌++◌, ◌∷◌, [], ℕ, List, length, suc, Some, None, not, sym, ap, ◌∙◌, append_assoc, append-nil, arith, rules}
use Rattle.std.specs.Prelude.{◌==◌}
use Rattle.std.proofs.lemmas.Fn.{filter_same}
use Rattle.std.proofs.lemmas.List.{length-append}
use Rattle.nm_types.specs.Nodes.{without_node}
use Rattle.nm_policy.specs.declared.pairing.Pair.{Pair}
use Rattle.nm_policy.specs.definitions.Pairs.{pairs_that_move, next_pair, without_source, pairs_after}
use Rattle.nm_policy.proofs.Paired.{pairs_none, pairs_some, fewer_left, each_set_is_paired_in_order}
use Rattle.nm_policy.proofs.pairing.pairs.Given as given
use Rattle.nm_policy.proofs.pairing.pairs.Goals as goal

-- the next pair, as it is found
found : (g : given.Over) (c : goal.In_ok-push g) → next_pair c.loop-pair.remaining c.loop-pair.left.items ≡ Some c.in-Some.pair
found g c = ap (next_pair c.loop-pair.remaining) (sym c.as_slice.ensures.value) ∙ sym c.next_pair.ensures ∙ c.in-Some.is

-- the pairs that are left
left : (g : given.Over) (c : goal.In_ok-push g) → c.retain.new.self.items ≡ without_source c.loop-pair.left.items c.in-Some.pair.from
left g c = filter_same _ (λ p. not (p.from == c.in-Some.pair.from)) _ (λ x b f r. search rules) _ _ c.retain.ensures.filtered

pub loop-pair-smaller : goal.loop-pair-smaller
loop-pair-smaller g c =
    let less = fewer_left c.loop-pair.remaining c.loop-pair.left.items c.in-Some.pair (found g c) in
    omega (arith, less, ap length (left g c))

pub loop-pair-preserved : goal.loop-pair-preserved
loop-pair-preserved g c =
    let old = c.loop-pair.left.items in
    let pair = c.in-Some.pair in
    let less = fewer_left c.loop-pair.remaining old pair (found g c) in
    let made = c.loop-pair.pairs.items in
    let n = length (pairs_that_move c.args.old c.args.new) in
    let longer : length c.push.new.self.items ≡ length made + 1 = ap length c.in_ok-push.ensures.items ∙ length-append made (pair ∷ []) in
    let few = c.loop-pair.invariant.few in
    let fewer = ap length (left g c) in
    let fuel : n - length made ≡ suc (n - length c.push.new.self.items) = omega (arith, longer, few, less) in
    record {
      few = omega (arith, longer, few, less, fewer);
      made =
          ap (λ items. items ++ pairs_after (n - length c.push.new.self.items) c.remove.new.self c.retain.new.self.items) c.in_ok-push.ensures.items
          ∙ append_assoc made (pair ∷ []) (pairs_after (n - length c.push.new.self.items) c.remove.new.self c.retain.new.self.items)
          ∙ ap (λ (nodes : List ℕ). made ++ pair ∷ pairs_after (n - length c.push.new.self.items) nodes c.retain.new.self.items) c.remove.ensures
          ∙ ap (λ (ps : List Pair). made ++ pair ∷ pairs_after (n - length c.push.new.self.items) (without_node c.loop-pair.remaining pair.from) ps) (left g c)
          ∙ sym (ap (λ l. made ++ l) (ap (λ k. pairs_after k c.loop-pair.remaining old) fuel ∙ pairs_some (n - length c.push.new.self.items) c.loop-pair.remaining old pair (found g c)))
          ∙ c.loop-pair.invariant.made;
    }

pub returns-clause-order : goal.returns-clause-order
returns-clause-order g c = each_set_is_paired_in_order c.args.old c.args.new c.len.ensures.nodes.upwards

pub returns-clause-value : goal.returns-clause-value
returns-clause-value g c =
    let none : next_pair c.loop-pair.remaining c.loop-pair.left.items ≡ None = ap (next_pair c.loop-pair.remaining) (sym c.as_slice.ensures.value) ∙ sym c.next_pair.ensures ∙ c.in_default.is in
    let n = length (pairs_that_move c.args.old c.args.new) - length c.loop-pair.pairs.items in
    sym (append-nil c.loop-pair.pairs.items) ∙ sym (ap (λ l. c.loop-pair.pairs.items ++ l) (pairs_none n c.loop-pair.remaining c.loop-pair.left.items none)) ∙ c.loop-pair.invariant.made
