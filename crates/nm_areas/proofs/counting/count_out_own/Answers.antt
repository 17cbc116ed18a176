use Rattle.std.proofs.Common.{ℕ, ◌+◌, ap, sym, arith, ◌∙◌}
use Rattle.std.specs.List.{filter}
use Rattle.nm_types.specs.Map.{Map}
use Rattle.nm_types.specs.State.{PlacedArea}
use Rattle.nm_types.specs.declared.area.Area.{Area}
use Rattle.nm_areas.specs.Coverage.{sum_over_areas, ends_at, covers_at}
use Rattle.nm_model.specs.definitions.Areas.{HasIndices}
use Rattle.nm_model.specs.definitions.Areas.{others, is_own}
use Rattle.nm_model.proofs.areas.Overs.{get_among}
use Rattle.nm_areas.proofs.Own.{own_next, own_none}
use Rattle.nm_model.proofs.areas.Parted.{All-among}
use Rattle.nm_areas.proofs.Counted.{total_parts, own_sum}
use Rattle.nm_areas.proofs.Masked.{masked_parts, masked_next, masked_end}
use Rattle.nm_areas.proofs.counting.count_out_own.Goals as goal

-- the process's areas that begin there or after it, and before the end
abbrev own_from : ℕ → ℕ → Map (ℕ × ℕ) Area → ℕ → Map (ℕ × ℕ) Area
own_from pid end areas n = filter (is_own pid n end) areas

pub loop-start-init : goal.loop-start-init
loop-start-init g c =
    let a = c.args in
    let areas = a.table.now.areas in
    let left = others a.pid a.first a.end areas in
    record {
      steps = masked_parts a.steps.now a.table.now.segments areas left (own_from a.pid a.end areas c.number-at.result)
          (λ (f : PlacedArea → ℕ). sym (total_parts f (is_own a.pid a.first a.end) areas) ∙ ap (λ (n : ℕ). sum_over_areas f left + sum_over_areas f (own_from a.pid a.end areas n)) (sym c.number-at.ensures)) c.requires.steps;
      low = omega (arith, c.number-at.ensures);
      up = omega (arith, c.number-at.ensures, c.requires.range);
    }

pub count_out_one-requires : goal.count_out_one-requires
count_out_one-requires g c =
    record { indices = All-among HasIndices c.args.table.now.areas (_, _) c.requires.indices (get_among c.args.table.now.areas _ _ c.in-Some.ensures.some.2) }

pub loop-start-preserved : goal.loop-start-preserved
loop-start-preserved g c =
    let a = c.args in
    let areas = a.table.now.areas in
    let left = others a.pid a.first a.end areas in
    let some = c.in-Some.ensures.some in
    let now = c.loop-start.invariant in
    let next = own_next a.pid _ a.end _ some.1 areas c.loop-start.at c.next_own.ensures.ordered (omega (arith, some.0, c.new.ensures)) some.2 (λ v low high. c.in-Some.ensures.first v (omega (arith, low, c.new.ensures)) high) in
    let behind = c.number-at-in-Some.result + 1 in
    record {
      steps = c.count_out_one.ensures (λ p. ends_at left p + ends_at (own_from a.pid a.end areas behind) p) (λ p. covers_at left p + covers_at (own_from a.pid a.end areas behind) p)
          (masked_next c.loop-start.steps a.table.now.segments left (own_from a.pid a.end areas c.loop-start.at) (own_from a.pid a.end areas behind) (a.pid, _) _
          (λ (f : PlacedArea → ℕ). own_sum f left areas a.pid c.loop-start.at _ a.end c.number-at-in-Some.result _ next c.number-at-in-Some.ensures) now.steps);
      low = omega (arith, now.low, some.0, c.new.ensures, c.number-at-in-Some.ensures);
      up = omega (arith, some.1, c.number-at-in-Some.ensures);
    }

pub returns : goal.returns
returns g c =
    let a = c.args in
    let areas = a.table.now.areas in
    masked_end c.loop-start.steps a.table.now.segments (others a.pid a.first a.end areas) (filter (is_own a.pid c.loop-start.at a.end) areas)
    (own_none areas a.pid c.loop-start.at a.end (λ v low high. c.in_default.ensures.none v (omega (arith, low, c.new.ensures)) high)) c.loop-start.invariant.steps
