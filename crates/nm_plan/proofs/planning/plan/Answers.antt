use Rattle.std.proofs.Common.{◌≡◌, ℕ, ◌+◌, ◌-◌, ◌<◌, ◌≤◌, List, [], length, sym, ap, subst, arith, rules, w32}
use mir.Val.{to_z, of_z}
use Rattle.nm_types.specs.declared.page_move.PageMove.{PageMove}
use Rattle.nm_plan.specs.Found.{Finds}
use Rattle.nm_plan.proofs.Chosen.{start_statuses, start_moves, next_statuses, next_moves, next_status_room, next_move_room, has_room, end_planned}
use Rattle.nm_plan.proofs.planning.plan.Goals as goal

smaller : (n all : ℕ) → n < all → all - (n + 1) < all - n
smaller n all h = omega arith

room_at_first : {X : Type 0} (xs : List X) (n cap : ℕ) → xs ≡ [] → n ≤ cap → length xs + n ≤ cap
room_at_first {X} xs n cap e h = omega (arith, ap (λ (ys : List X). length ys) e)

pub loop-class-init : goal.loop-class-init
loop-class-init g c =
    let moves = c.in_ok-moves.ensures.items in
    let statuses = c.in_ok-statuses.ensures.items in record {
      statuses = start_statuses c.args.classes.now c.args.free_front.now c.args.target c.in_ok-statuses.statuses.items c.in_ok-moves.moves.items statuses moves;
      moves = start_moves c.args.classes.now c.args.free_front.now c.args.target c.in_ok-moves.moves.items moves;
      found = subst (λ (ts : List PageMove). Finds c.new-search.result ts) (sym moves) c.new-search.ensures;
      status_room = room_at_first c.in_ok-statuses.statuses.items (length c.args.classes.now) c.in_ok-statuses.statuses.cap statuses c.in_ok-statuses.ensures.capacity;
      move_room = room_at_first c.in_ok-moves.moves.items (length c.args.classes.now) c.in_ok-moves.moves.cap moves c.in_ok-moves.ensures.capacity;
    }

pub bounds-classes-class-index : goal.bounds-classes-class-index
bounds-classes-class-index g c = c.loop-class-test.true

pub choose-requires : goal.choose-requires
choose-requires g c = record {
  target = c.requires;
  found = c.loop-class.invariant.found;
  room = has_room c.args.classes.now c.args.free_front.now c.args.target c.loop-class.class-index c.loop-class.moves.len c.loop-class.moves.cap c.loop-class.moves.items c.loop-class.moves.ok.0 c.loop-class-test.true c.loop-class.invariant.move_room;
}

pub push_reserved-requires : goal.push_reserved-requires
push_reserved-requires g c =
    has_room c.args.classes.now c.args.free_front.now c.args.target c.loop-class.class-index c.loop-class.statuses.len c.loop-class.statuses.cap c.loop-class.statuses.items c.loop-class.statuses.ok.0 c.loop-class-test.true c.loop-class.invariant.status_room

pub loop-class-smaller : goal.loop-class-smaller
loop-class-smaller g c = smaller c.loop-class.class-index (length c.args.classes.now) c.loop-class-test.true

pub loop-class-preserved : goal.loop-class-preserved
loop-class-preserved g c =
    let status = to_z w32 (of_z w32 c.in_ok-status.status) in
    let same : to_z w32 (of_z w32 c.in_ok-status.status) ≡ c.in_ok-status.status = search rules in
    let statuses = c.push_reserved.new.self.items in
    let left = c.in_ok-status.ensures.front in record {
      statuses = next_statuses c.args.classes.now c.args.free_front.now c.args.target c.loop-class.class-index c.class-item.result c.loop-class-test.true c.class-item.is c.loop-class.moves.items c.choose.new.moves.items c.in_ok-status.ensures.moves left c.loop-class.statuses.items statuses status c.in_ok-status.status c.push_reserved.ensures.items same c.in_ok-status.ensures.status c.loop-class.invariant.statuses;
      moves = next_moves c.args.classes.now c.args.free_front.now c.args.target c.loop-class.class-index c.class-item.result c.loop-class-test.true c.class-item.is c.loop-class.moves.items c.choose.new.moves.items c.in_ok-status.ensures.moves left c.loop-class.invariant.moves;
      found = c.in_ok-status.ensures.found;
      status_room = next_status_room c.args.classes.now c.args.free_front.now c.args.target c.loop-class.class-index c.loop-class.statuses.cap c.push_reserved.new.self.cap c.loop-class.statuses.items statuses status
          c.push_reserved.ensures.items c.push_reserved.ensures.capacity c.loop-class-test.true c.loop-class.invariant.status_room;
      move_room = next_move_room c.args.classes.now c.args.free_front.now c.args.target c.loop-class.class-index c.class-item.result c.loop-class-test.true c.class-item.is c.loop-class.moves.items c.choose.new.moves.items c.in_ok-status.ensures.moves c.loop-class.moves.cap c.choose.new.moves.cap c.in_ok-status.ensures.capacity c.loop-class.invariant.move_room;
    }

pub returns-clause-plan : goal.returns-clause-plan
returns-clause-plan g c =
    let past : length c.args.classes.now ≤ c.loop-class.class-index = omega arith in
    end_planned c.args.classes.now c.args.free_front.now c.args.target c.loop-class.class-index c.loop-class.statuses.items c.loop-class.moves.items c.as_slice.result.now c.shortage_of-shortage.result past
    c.loop-class.invariant.statuses c.loop-class.invariant.moves c.as_slice.ensures.value c.shortage_of-shortage.ensures
