use Rattle.std.proofs.Common.{ℕ, ◌+◌, ◌-◌, ◌≡◌, ap, ◌∙◌, arith}
use Rattle.nm_types.specs.Map.{get, page_cmp}
use Rattle.nm_model.specs.definitions.Areas.{page_in}
use Rattle.nm_areas.proofs.places.area_shows_counted.Goals as goal

pub returns-clause-shown : goal.returns-clause-shown
returns-clause-shown g c h =
    let f = c.has_counted.ensures.shown h in
    let low = f.2 in
    let high = f.3 in
    let index = c.args.area.page.index in
    let v = c.args.start + (f.0 - index) in
    let there : index + (v - c.args.start) ≡ f.0 = omega (arith, low) in
    let front = c.min-front.ensures in
    let back = c.min-back.ensures in (
      v,
      f.1,
      omega (arith, low, high, front, back, c.saturating_sub.ensures, c.number.ensures, c.number-2.ensures, c.number-3.ensures, c.number-4.ensures),
      omega (arith, low, high, back, c.number-3.ensures, c.number-4.ensures, c.requires.range),
      omega arith,
      omega (arith, low, high, back),
      ap (λ (i : ℕ). get page_cmp c.args.places.now.entries (page_in c.args.area.page.segment i)) there ∙ f.4,
      f.5,
    )

pub returns-clause-none : goal.returns-clause-none
returns-clause-none g c h v frame low high up below there =
    let front = c.min-front.ensures in
    let back = c.min-back.ensures in
    c.has_counted.ensures.none h (c.args.area.page.index + (v - c.args.start)) frame (omega (arith, low, up, front, c.saturating_sub.ensures, c.number.ensures, c.number-2.ensures))
    (omega (arith, high, up, below, back, c.number-3.ensures, c.number-4.ensures)) there
