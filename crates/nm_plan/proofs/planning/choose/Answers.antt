use Rattle.std.proofs.Common.{◌≡◌, List, [], ◌∷◌, ◌++◌, true, false, refl, sym, ap, subst, ◌∙◌, length, rules, w32}
use mir.Val.{to_z, of_z}
use Rattle.nm_types.specs.declared.page_move.PageMove.{PageMove}
use Rattle.nm_model.specs.definitions.Decide.{Choice}
use Rattle.nm_plan.specs.Found.{Finds}
use Rattle.nm_plan.proofs.Chosen.{known_moved, of_status, of_moved, of_short, of_new, none_taken, one_taken, none_left, front_after, node_fits, node_status, no_frame_fits, no_frame_status}
use Rattle.nm_plan.proofs.planning.choose.Goals as goal

pub returns-in_default : goal.returns-in_default
returns-in_default g c =
    let ts = c.args.moves.now.items in
    let is = of_status c.args.class c.args.moves.now.items c.args.free_front.now c.args.target c.in-Status.status (c.in_default.is ∙ c.in-Status.is) in
    let same : to_z w32 (of_z w32 c.in-Status.status) ≡ c.in-Status.status = search rules in record {
      status = same ∙ ap (λ (n : Choice). n.status) (sym is);
      moves = none_taken c.args.class c.args.moves.now.items c.args.free_front.now c.args.target (ap (λ (n : Choice). n.taken) is);
      front = ap (λ (n : Choice). n.front) (sym is);
      found = c.requires.found;
      capacity = refl;
      allocates = tt;
      moving = tt;
    }

pub has-requires : goal.has-requires
has-requires g c = subst (λ (ts : List PageMove). Finds c.args.search.now ts) (sym c.as_slice.ensures.value) c.requires.found

pub overflow_cast-result : goal.overflow_cast-result
overflow_cast-result g c = node_fits c.number.result c.args.target c.number.ensures c.requires.target

pub returns-then-has : goal.returns-then-has
returns-then-has g c =
    let known = known_moved c.args.moves.now.items c.as_slice.result.now c.in-Move.page c.has.result true c.as_slice.ensures.value c.has.ensures c.if-has.true in
    let is = of_moved c.args.class c.args.moves.now.items c.args.free_front.now c.args.target c.in-Move.page c.in-Move.from c.in-Move.is known in record {
      status = node_status c.number.result c.args.target c.number.ensures c.requires.target ∙ ap (λ (n : Choice). n.status) (sym is);
      moves = none_taken c.args.class c.args.moves.now.items c.args.free_front.now c.args.target (ap (λ (n : Choice). n.taken) is);
      front = ap (λ (n : Choice). n.front) (sym is);
      found = c.requires.found;
      capacity = refl;
      allocates = tt;
      moving = tt;
    }

pub overflow_sub-result : goal.overflow_sub-result
overflow_sub-result g c = no_frame_fits c.number-in_default-get.result c.number-in_default-get.ensures

pub returns-in_default-get : goal.returns-in_default-get
returns-in_default-get g c =
    let known = known_moved c.args.moves.now.items c.as_slice.result.now c.in-Move.page c.has.result false c.as_slice.ensures.value c.has.ensures c.if-has.false in
    let at = c.len.ensures ∙ c.args.moves.now.ok.0 in
    let few = c.in_default-get.ensures.lookup.3 in
    let is = of_short c.args.class c.args.moves.now.items c.args.free_front.now c.args.target c.in-Move.page c.in-Move.from c.in-Move.is c.len.result at known few in record {
      status = no_frame_status c.number-in_default-get.result c.number-in_default-get.ensures ∙ ap (λ (n : Choice). n.status) (sym is);
      moves = none_taken c.args.class c.args.moves.now.items c.args.free_front.now c.args.target (ap (λ (n : Choice). n.taken) is);
      front = none_left c.args.free_front.now c.len.result (length c.args.moves.now.items) at few ∙ ap (λ (n : Choice). n.front) (sym is);
      found = c.requires.found;
      capacity = refl;
      allocates = tt;
      moving = tt;
    }

pub add-requires : goal.add-requires
add-requires g c = subst (λ (ts : List PageMove). Finds c.args.search.now ts) (sym c.as_slice-2.ensures.value) c.requires.found

pub push_reserved-requires : goal.push_reserved-requires
push_reserved-requires g c = c.requires.room

pub overflow_cast-result-2 : goal.overflow_cast-result-2
overflow_cast-result-2 g c = node_fits c.number-2.result c.args.target c.number-2.ensures c.requires.target

pub returns : goal.returns
returns g c =
    let ts = c.args.moves.now.items in
    let t : PageMove = record { page = c.in-Move.page; from = c.in-Move.from; to = c.in-Some.to.now } in
    let known = known_moved c.args.moves.now.items c.as_slice.result.now c.in-Move.page c.has.result false c.as_slice.ensures.value c.has.ensures c.if-has.false in
    let found = c.in-Some.ensures.lookup in
    let is = of_new c.args.class c.args.moves.now.items c.args.free_front.now c.args.target c.in-Move.page c.in-Move.from c.in-Move.is c.len.result c.in-Some.to.now (c.len.ensures ∙ c.args.moves.now.ok.0) known found.3.0 found.1 in
    let made : c.push_reserved.new.self.items ≡ ts ++ t ∷ [] = c.push_reserved.ensures.items in record {
      status = node_status c.number-2.result c.args.target c.number-2.ensures c.requires.target ∙ ap (λ (n : Choice). n.status) (sym is);
      moves = one_taken c.args.class c.args.moves.now.items c.args.free_front.now c.args.target t c.push_reserved.new.self.items made (ap (λ (n : Choice). n.taken) is);
      front = front_after c.args.class c.args.moves.now.items c.args.free_front.now c.args.target t c.push_reserved.new.self.items made (ap (λ (n : Choice). n.front) is);
      found = subst (λ (us : List PageMove). Finds c.add.new.self us) (ap (λ (us : List PageMove). us ++ t ∷ []) c.as_slice-2.ensures.value ∙ sym made) (c.in_ok-add.ensures.finds t refl);
      capacity = c.push_reserved.ensures.capacity;
      allocates = tt;
      moving = tt;
    }
