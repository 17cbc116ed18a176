use Rattle.std.proofs.Common.{ap, sym, subst, ◌∙◌, ◌<◌, length, refl}
use Rattle.nm_model.specs.definitions.Areas.{segments_left, others}
use Rattle.nm_model.specs.views.Table.{Table}
use Rattle.nm_areas.proofs.Gone.{others_all, all_left, step_others, step_shown, step_gone, fewer, both_left, dropped_from}
use Rattle.nm_areas.proofs.area_table.AreaTable.drop_own.Goals as goal

pub loop-start-init : goal.loop-start-init
loop-start-init g c = record { others = refl; next = refl; segments = all_left c.args.self.now.areas c.args.self.now.segments c.requires.shown }

pub loop-start-preserved-then-not-is_shown : goal.loop-start-preserved-then-not-is_shown
loop-start-preserved-then-not-is_shown g c =
    let some = c.in-Some.ensures.some in
    let gone = ap (λ (t : Table). t.areas) c.take.ensures.gone in
    let all = c.args.self.now.segments in
    record {
      others = ap (λ (t : Table). others c.args.pid c.args.first c.args.end t.areas) c.drop_segment.ensures
          ∙ step_others c.args.pid c.args.first c.args.end c.loop-start.self.areas c.take.new.self.areas _ _ some.2 gone some.0 some.1 _ c.loop-start.invariant.others;
      next = ap (λ (t : Table). t.next) c.drop_segment.ensures ∙ ap (λ (t : Table). t.next) c.take.ensures.gone ∙ c.loop-start.invariant.next;
      segments = step_gone c.args.pid c.args.first c.args.end c.loop-start.self.areas c.take.new.self.areas _ _ some.2 gone c.is_shown.result c.is_shown.ensures c.if-not-is_shown.true
          c.loop-start.self.segments c.drop_segment.new.self.segments all c.requires.sorted c.loop-start.invariant.segments
          (dropped_from c.loop-start.self c.take.new.self c.drop_segment.new.self _ _ c.take.ensures.gone c.drop_segment.ensures)
          ∙ sym (ap (λ (t : Table). segments_left all t.areas) c.drop_segment.ensures);
    }

pub loop-start-preserved : goal.loop-start-preserved
loop-start-preserved g c =
    let some = c.in-Some.ensures.some in
    let gone = ap (λ (t : Table). t.areas) c.take.ensures.gone in
    record {
      others = step_others c.args.pid c.args.first c.args.end c.loop-start.self.areas c.take.new.self.areas _ _ some.2 gone some.0 some.1 _ c.loop-start.invariant.others;
      next = ap (λ (t : Table). t.next) c.take.ensures.gone ∙ c.loop-start.invariant.next;
      segments = ap (λ (t : Table). t.segments) c.take.ensures.gone
          ∙ step_shown c.args.pid c.args.first c.args.end c.loop-start.self.areas c.take.new.self.areas _ _ some.2 gone c.is_shown.result c.is_shown.ensures c.if-not-is_shown.false
          c.loop-start.self.segments c.args.self.now.segments c.loop-start.invariant.segments;
    }

pub loop-start-smaller-then-not-is_shown : goal.loop-start-smaller-then-not-is_shown
loop-start-smaller-then-not-is_shown g c =
    let now = ap (λ (t : Table). t.areas) c.drop_segment.ensures ∙ ap (λ (t : Table). t.areas) c.take.ensures.gone in
    subst (λ m. length m < length c.loop-start.self.areas) (sym now) (fewer c.loop-start.self.areas _ _ c.in-Some.ensures.some.2)

pub loop-start-smaller : goal.loop-start-smaller
loop-start-smaller g c =
    subst (λ m. length m < length c.loop-start.self.areas) (sym (ap (λ (t : Table). t.areas) c.take.ensures.gone)) (fewer c.loop-start.self.areas _ _ c.in-Some.ensures.some.2)

pub returns : goal.returns
returns g c =
    both_left c.args.pid c.args.first c.args.end c.args.self.now c.loop-start.self
    (sym (others_all c.args.pid c.args.first c.args.end c.loop-start.self.areas c.in_default.ensures.none) ∙ c.loop-start.invariant.others) c.loop-start.invariant.next c.loop-start.invariant.segments
