use Rattle.std.proofs.Common.{◌≡◌, ℕ, ◌+◌, ◌-◌, refl, ap, sym, arith, ◌∙◌}
use Rattle.std.specs.Prelude.{if◌then◌else◌}
use Rattle.nm_types.specs.Map.{same_page}
use Rattle.nm_types.specs.State.{PlacedArea}
use Rattle.nm_types.proofs.Cases.{none_always}
use Rattle.nm_areas.specs.Coverage.{split_of, splits_at}
use Rattle.nm_model.specs.definitions.Areas.{is_shared}
use Rattle.nm_model.specs.definitions.Areas.{HasIndices}
use Rattle.nm_model.specs.definitions.Areas.{page_in}
use Rattle.nm_model.proofs.areas.Parted.{All-among}
use Rattle.nm_areas.proofs.Counted.{total_over, total_over_none, not_over, begins_there, split_there}
use Rattle.nm_model.proofs.areas.Cut.{over_facts}
use Rattle.nm_areas.proofs.Masked.{masked_kept, masked_gone, split_away, zero_if}
use Rattle.nm_areas.proofs.area_table.AreaTable.split_page.Goals as goal

pub returns-in_err-start-clause-none : goal.returns-in_err-start-clause-none
returns-in_err-start-clause-none g c =
    let a = c.args in
    none_always c.from_residual.result (λ p. zero_if (is_shared a.self.now.segments p.segment) _ (total_over_none (split_of a.pid a.at p) a.pid a.at (not_over a.pid a.at p) a.self.now.areas (sym c.in_err-start.ensures)))

pub overflow_sub-front : goal.overflow_sub-front
overflow_sub-front g c =
    let facts = over_facts c.args.pid c.args.at c.args.self.now.areas _ _ c.in_ok-start.ensures in
    omega (arith, facts.1, c.number.ensures, c.number-2.ensures)

pub returns-then-front-eq0-clause-none : goal.returns-then-front-eq0-clause-none
returns-then-front-eq0-clause-none g c p =
    let a = c.args in
    let e : PlacedArea = ((a.pid, c.in_ok-start.start), c.in_ok-start.area) in
    zero_if (is_shared a.self.now.segments p.segment) _
    (total_over (split_of a.pid a.at p) a.pid a.at (not_over a.pid a.at p) a.self.now.areas c.requires.apart e (sym c.in_ok-start.ensures)
    ∙ begins_there a.pid a.at p e (omega (arith, c.if-front-eq0.true, c.number.ensures, c.number-2.ensures)))

pub returns-then-not-is_shared-clause-none : goal.returns-then-not-is_shared-clause-none
returns-then-not-is_shared-clause-none g c p =
    let a = c.args in
    let e : PlacedArea = ((a.pid, c.in_ok-start.start), c.in_ok-start.area) in
    masked_gone a.self.now.segments e.1.page.segment (splits_at a.self.now.areas a.pid a.at)
    (λ q other. total_over (split_of a.pid a.at q) a.pid a.at (not_over a.pid a.at q) a.self.now.areas c.requires.apart e (sym c.in_ok-start.ensures) ∙ split_away a.pid a.at q e other)
    (sym c.is_shared.ensures ∙ c.if-not-is_shared.true) p

pub overflow_add-result : goal.overflow_add-result
overflow_add-result g c =
    let facts = over_facts c.args.pid c.args.at c.args.self.now.areas _ _ c.in_ok-start.ensures in
    let few = All-among HasIndices c.args.self.now.areas _ c.requires.indices facts.0 in
    omega (arith, few, facts.1, facts.2, c.number.ensures, c.number-2.ensures)

pub returns-clause-some : goal.returns-clause-some
returns-clause-some g c p =
    let a = c.args in
    let e : PlacedArea = ((a.pid, c.in_ok-start.start), c.in_ok-start.area) in
    let facts = over_facts a.pid a.at a.self.now.areas _ _ c.in_ok-start.ensures in
    let same : a.at - c.in_ok-start.start ≡ c.number.result - c.number-2.result = omega (arith, c.number.ensures, c.number-2.ensures) in
    masked_kept a.self.now.segments e.1.page.segment (splits_at a.self.now.areas a.pid a.at)
    (λ q other. total_over (split_of a.pid a.at q) a.pid a.at (not_over a.pid a.at q) a.self.now.areas c.requires.apart e (sym c.in_ok-start.ensures) ∙ split_away a.pid a.at q e other)
    (sym c.is_shared.ensures ∙ c.if-not-is_shared.false) p
    ∙ total_over (split_of a.pid a.at p) a.pid a.at (not_over a.pid a.at p) a.self.now.areas c.requires.apart e (sym c.in_ok-start.ensures)
    ∙ split_there a.pid a.at p e refl (omega (arith, facts.1, c.if-front-eq0.false, c.number.ensures, c.number-2.ensures)) facts.2
    ∙ ap (λ (n : ℕ). if same_page (page_in e.1.page.segment (e.1.page.index + n)) p then 2 else 0) same

pub returns-clause-split : goal.returns-clause-split
returns-clause-split g c =
    let facts = over_facts c.args.pid c.args.at c.args.self.now.areas _ _ c.in_ok-start.ensures in
    (_, sym c.in_ok-start.ensures, omega (arith, facts.1, c.if-front-eq0.false, c.number.ensures, c.number-2.ensures))
