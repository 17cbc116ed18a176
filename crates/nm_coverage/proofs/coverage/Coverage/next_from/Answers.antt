use Rattle.std.proofs.Common.{◌≡◌, arith, subst}
use Rattle.std.specs.Prelude.{IsSome}
use Rattle.nm_types.specs.declared.page.Page.{Page}
use Rattle.nm_types.specs.Map.{get, page_cmp}
use Rattle.nm_model.specs.definitions.Areas.{page_in}
use Rattle.nm_coverage.specs.declared.step.Step.{Step}
use Rattle.nm_coverage.proofs.Found.{none_after, none_before, none_other, own_low, own_has}
use Rattle.nm_coverage.proofs.Seen.{view_has, view_none}
use Rattle.nm_coverage.proofs.coverage.Coverage.next_from.Goals as goal

pub returns-then-page-segment-clause-some : goal.returns-then-page-segment-clause-some
returns-then-page-segment-clause-some g c less =
    let e : Page × Step = (c.in-Some.page.now, c.in-Some.field-0-1.now) in
    let is : c.in-Some.page.now.index ≡ c.min.result = omega (arith, c.min.ensures, less) in
    subst (λ n. IsSome (get page_cmp c.args.self.now (page_in c.args.segment n))) is
    (view_has c.self.inside.stored.entries c.self.inside.parts.entries c.args.self.now c.self.view_is (page_in c.args.segment c.in-Some.page.now.index)
    (own_has c.self.inside.stored c.args.segment c.args.at c.range.result (c.range.ensures.in_range tt) c.next.new.self e c.in-Some.ensures.steps c.if-page-segment.true))

pub returns-then-page-segment-clause-none : goal.returns-then-page-segment-clause-none
returns-then-page-segment-clause-none g c i low high =
    let e : Page × Step = (c.in-Some.page.now, c.in-Some.field-0-1.now) in
    view_none c.self.inside.stored.entries c.self.inside.parts.entries c.args.self.now c.self.view_is (page_in c.args.segment i)
    (none_before c.self.inside.stored c.args.segment c.args.at c.range.result (c.range.ensures.in_range tt) c.next.new.self e c.in-Some.ensures.steps c.if-page-segment.true i low (omega (arith, c.min.ensures, high)))

pub returns-then-page-segment-clause-low : goal.returns-then-page-segment-clause-low
returns-then-page-segment-clause-low g c up =
    let e : Page × Step = (c.in-Some.page.now, c.in-Some.field-0-1.now) in
    let low = own_low c.self.inside.stored c.args.segment c.args.at c.range.result (c.range.ensures.in_range tt) c.next.new.self e c.in-Some.ensures.steps c.if-page-segment.true in
    omega (arith, c.min.ensures, low, up)

pub returns-else-page-segment-clause-none : goal.returns-else-page-segment-clause-none
returns-else-page-segment-clause-none g c i low high =
    let e : Page × Step = (c.in-Some.page.now, c.in-Some.field-0-1.now) in
    view_none c.self.inside.stored.entries c.self.inside.parts.entries c.args.self.now c.self.view_is (page_in c.args.segment i)
    (none_other c.self.inside.stored c.args.segment c.args.at c.range.result (c.range.ensures.in_range tt) c.next.new.self e c.in-Some.ensures.steps c.if-page-segment.false i low)

pub returns-in-None-clause-none : goal.returns-in-None-clause-none
returns-in-None-clause-none g c i low high =
    view_none c.self.inside.stored.entries c.self.inside.parts.entries c.args.self.now c.self.view_is (page_in c.args.segment i)
    (none_after c.self.inside.stored c.args.segment c.args.at c.range.result (c.range.ensures.in_range tt) c.in-None.ensures.steps.0 i low)
