use Rattle.std.proofs.Common.{◌≡◌, ◌+◌, ◌-◌, ◌∙◌, ◌++◌, [], ap, sym, arith}
use Rattle.std.specs.List.{fold}
use Rattle.nm_model.specs.definitions.Areas.{pages_from}
use Rattle.nm_model.specs.definitions.Areas.{place_left, all_lost}
use Rattle.nm_areas.proofs.Stretches.{alone_left, alone_lost}
use Rattle.nm_areas.proofs.unmap.lose_area.Goals as goal

pub returns-then-shared-clause-places : goal.returns-then-shared-clause-places
returns-then-shared-clause-places g c segments left cover is alone = c.lose.ensures.places segments left cover (sym is ∙ c.if-shared.true)

pub returns-then-shared-clause-freed : goal.returns-then-shared-clause-freed
returns-then-shared-clause-freed g c segments left cover is alone = c.lose.ensures.freed segments left cover (sym is ∙ c.if-shared.true)

pub returns-else-shared-clause-places : goal.returns-else-shared-clause-places
returns-else-shared-clause-places g c segments left cover is alone =
    let x = c.args.area in
    let count : (x.page.index + x.pages) - x.page.index ≡ x.pages = omega arith in
    c.lose_stretch.ensures.places ∙ ap (λ n. fold (place_left []) c.args.places.now.entries (pages_from x.page.segment x.page.index n)) count ∙ alone_left left x c.args.places.now.entries (alone c.if-shared.false)

pub returns-else-shared-clause-freed : goal.returns-else-shared-clause-freed
returns-else-shared-clause-freed g c segments left cover is alone =
    let x = c.args.area in
    let old = c.args.freed.now.items in
    let count : (x.page.index + x.pages) - x.page.index ≡ x.pages = omega arith in
    c.lose_stretch.ensures.freed ∙ ap (λ n. old ++ all_lost [] c.args.places.now.entries (pages_from x.page.segment x.page.index n)) count ∙ ap (λ l. old ++ l) (alone_lost left x c.args.places.now.entries (alone c.if-shared.false))
