use Rattle.std.proofs.Common.{◌≡◌, List, [], ◌∷◌, ◌++◌, length, sym, ap, ◌∙◌, append_assoc, append-nil, arith, rules}
use Rattle.nm_rmap.proofs.mappings.list_all.Goals as goal

-- one more is listed
one_more : {X : Type 0} (front now left rest all : List X) (x : X) → front ++ left ≡ all → left ≡ x ∷ rest → now ≡ front ++ x ∷ [] → now ++ rest ≡ all
one_more front now left rest all x before step push = ap (λ xs. xs ++ rest) push ∙ append_assoc front (x ∷ []) rest ∙ ap (λ xs. front ++ xs) (sym step) ∙ before

pub loop-spot-init : goal.loop-spot-init
loop-spot-init g c =
    let left = c.into_iter-spot-iterator.ensures.into_iter_gives ∙ c.iter-spot-items.ensures.rest in
    let many = ap length left in
    record {
      spots = ap (λ xs. xs ++ c.into_iter-spot-iterator.result) c.in_ok-spots.ensures.items ∙ left;
      room = omega (arith, c.in_ok-spots.ensures.len, c.in_ok-spots.ensures.capacity, c.len.ensures.len, many);
    }

pub push_reserved-requires : goal.push_reserved-requires
push_reserved-requires g c =
    let one = ap length c.in-Some.ensures.steps in
    omega (arith, one, c.loop-spot.invariant.room)

pub loop-spot-preserved : goal.loop-spot-preserved
loop-spot-preserved g c =
    let one = ap length c.in-Some.ensures.steps in
    record {
      spots = one_more c.loop-spot.spots.items c.push_reserved.new.self.items c.loop-spot.spot-iterator c.next.new.self c.args.tree.now.keys _ c.loop-spot.invariant.spots c.in-Some.ensures.steps c.push_reserved.ensures.items;
      room = omega (arith, one, c.loop-spot.invariant.room, c.push_reserved.ensures.len, c.push_reserved.ensures.capacity);
    }

pub returns-clause-all : goal.returns-clause-all
returns-clause-all g c = sym (append-nil c.loop-spot.spots.items) ∙ sym (ap (λ xs. c.loop-spot.spots.items ++ xs) c.in-None.ensures.steps.0) ∙ c.loop-spot.invariant.spots

pub returns-in_err-spots-clause-allocates : goal.returns-in_err-spots-clause-allocates
returns-in_err-spots-clause-allocates g c = search rules
