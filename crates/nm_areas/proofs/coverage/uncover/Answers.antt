use Rattle.std.proofs.Common.{ℕ, ◌+◌, arith, refl}
use Rattle.std.specs.Prelude.{if◌then◌else◌}
use Rattle.nm_types.specs.declared.page.Page.{Page}
use Rattle.nm_types.specs.Map.{same_page}
use Rattle.nm_areas.specs.Coverage.{end_of}
use Rattle.nm_areas.proofs.Steps.{steps_same, shift_down}
use Rattle.nm_areas.proofs.coverage.uncover.Goals as goal

pub returns : goal.returns
returns g c ends covers steps =
    let area = c.args.area in
    let begin : Page → ℕ = λ p. if same_page area.page p then 1 else 0 in
    let end : Page → ℕ = λ p. if same_page (end_of area) p then 1 else 0 in
    let first = shift_down c.args.steps.now c.shift.new.self area.page.segment area.page.index (area.page.index + area.pages) (λ p. ends p + (begin p + end p)) covers c.shift.ensures steps in
    let second = c.unmark.ensures (λ p. ends p + begin p) covers (steps_same c.shift.new.self (λ p. ends p + (begin p + end p)) covers (λ p. (ends p + begin p) + end p) covers first (λ p. omega arith) (λ p. refl)) in
    c.unmark-2.ensures ends covers second
