use Rattle.std.proofs.Common.{arith, ap, sym, ◌∙◌, ◌++◌, ◌+◌, ℕ, length, append-nil}
use Rattle.std.specs.List.{fold}
use Rattle.nm_model.specs.definitions.Areas.{HasIndices}
use Rattle.nm_model.specs.definitions.Areas.{others, place_left, all_lost, pages_of_own}
use Rattle.nm_areas.proofs.Alone.{none_beside}
use Rattle.nm_model.proofs.areas.Overs.{get_among}
use Rattle.nm_model.proofs.areas.Parted.{All-among}
use Rattle.nm_areas.proofs.Roomy.{own_count_next}
use Rattle.nm_areas.proofs.Lost.{own_freed_next, own_left_next, own_pages_end}
use Rattle.nm_areas.proofs.area_table.AreaTable.lose_all.Goals as goal

pub lose_area-requires-clause-indices : goal.lose_area-requires-clause-indices
lose_area-requires-clause-indices g c =
    All-among HasIndices c.args.self.now.areas (_, _) c.requires.indices (get_among c.args.self.now.areas _ _ c.in-Some.ensures.some.2)

pub lose_area-requires-clause-room : goal.lose_area-requires-clause-room
lose_area-requires-clause-room g c =
    let some = c.in-Some.ensures.some in
    let count = own_count_next c.args.self.now.areas c.args.pid c.loop-start.at _ c.args.end _ some.1 c.next_own.ensures.ordered (omega (arith, some.0, c.new.ensures)) some.2 (λ v low high. c.in-Some.ensures.first v (omega (arith, low, c.new.ensures)) high) in
    omega (arith, c.loop-start.invariant.room, count)

pub loop-start-preserved : goal.loop-start-preserved
loop-start-preserved g c =
    let left = others c.args.pid c.args.first c.args.end c.args.self.now.areas in
    let some = c.in-Some.ensures.some in
    let next = λ (n : ℕ). pages_of_own c.args.pid n c.args.end c.args.self.now.areas in
    let count = own_count_next c.args.self.now.areas c.args.pid c.loop-start.at _ c.args.end _ some.1 c.next_own.ensures.ordered (omega (arith, some.0, c.new.ensures)) some.2 (λ v low high. c.in-Some.ensures.first v (omega (arith, low, c.new.ensures)) high) in
    let alone = none_beside c.args.self.now.areas c.args.self.now.segments c.args.pid c.args.first c.args.end _ _ c.requires.apart c.requires.once some.2 (omega (arith, c.loop-start.invariant.low, some.0, c.new.ensures)) some.1 in
    let places = c.lose_area.ensures.places c.args.self.now.segments left c.requires.steps c.is_shared-shared.ensures (λ private. alone (sym c.is_shared-shared.ensures ∙ private)) in
    let freed = c.lose_area.ensures.freed c.args.self.now.segments left c.requires.steps c.is_shared-shared.ensures (λ private. alone (sym c.is_shared-shared.ensures ∙ private)) in
    record {
      freed = ap (λ (n : ℕ). c.lose_area.new.freed.items ++ all_lost left c.lose_area.new.places.entries (next (n + 1))) c.number-at-in-Some.ensures
          ∙ own_freed_next left c.args.self.now.areas c.args.pid c.loop-start.at _ c.args.end _ some.1 c.next_own.ensures.ordered (omega (arith, some.0, c.new.ensures)) some.2 (λ v low high. c.in-Some.ensures.first v (omega (arith, low, c.new.ensures)) high)
          c.loop-start.places.entries c.lose_area.new.places.entries places c.loop-start.freed.items c.lose_area.new.freed.items _ freed c.loop-start.invariant.freed;
      places = ap (λ (n : ℕ). fold (place_left left) c.lose_area.new.places.entries (next (n + 1))) c.number-at-in-Some.ensures
          ∙ own_left_next left c.args.self.now.areas c.args.pid c.loop-start.at _ c.args.end _ some.1 c.next_own.ensures.ordered (omega (arith, some.0, c.new.ensures)) some.2 (λ v low high. c.in-Some.ensures.first v (omega (arith, low, c.new.ensures)) high)
          c.loop-start.places.entries c.lose_area.new.places.entries places _ c.loop-start.invariant.places;
      room = omega (arith, c.loop-start.invariant.room, c.lose_area.ensures.counted, c.lose_area.ensures.few, c.lose_area.ensures.room, count, ap (λ (n : ℕ). length (next (n + 1))) c.number-at-in-Some.ensures);
      kept = omega (arith, c.loop-start.invariant.kept, c.lose_area.ensures.room);
      low = omega (arith, c.loop-start.invariant.low, some.0, c.new.ensures, c.number-at-in-Some.ensures);
      up = omega (arith, some.1, c.number-at-in-Some.ensures);
    }

pub returns-clause-places : goal.returns-clause-places
returns-clause-places g c =
    let left = others c.args.pid c.args.first c.args.end c.args.self.now.areas in
    let none = own_pages_end c.args.self.now.areas c.args.pid c.loop-start.at c.args.end (λ v low high. c.in_default.ensures.none v (omega (arith, low, c.new.ensures)) high) in
    sym (ap (fold (place_left left) c.loop-start.places.entries) none) ∙ c.loop-start.invariant.places

pub returns-clause-freed : goal.returns-clause-freed
returns-clause-freed g c =
    let left = others c.args.pid c.args.first c.args.end c.args.self.now.areas in
    let none = own_pages_end c.args.self.now.areas c.args.pid c.loop-start.at c.args.end (λ v low high. c.in_default.ensures.none v (omega (arith, low, c.new.ensures)) high) in
    sym (append-nil c.loop-start.freed.items) ∙ sym (ap (λ l. c.loop-start.freed.items ++ all_lost left c.loop-start.places.entries l) none) ∙ c.loop-start.invariant.freed
