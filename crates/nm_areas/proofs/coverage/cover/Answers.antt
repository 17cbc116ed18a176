use Rattle.std.proofs.Common.{ℕ, ◌+◌, arith, inl, inr, refl}
use Rattle.std.specs.Prelude.{if◌then◌else◌}
use Rattle.nm_types.specs.declared.page.Page.{Page}
use Rattle.nm_types.specs.Map.{same_page}
use Rattle.nm_areas.specs.Coverage.{end_of}
use Rattle.nm_areas.proofs.Counted.{err_always}
use Rattle.nm_areas.proofs.Steps.{steps_same, flat_more, shift_up, one_end}
use Rattle.nm_areas.proofs.coverage.cover.Goals as goal

pub returns-clause-ok : goal.returns-clause-ok
returns-clause-ok g c ends covers steps flat few =
    let area = c.args.area in
    let begin : Page → ℕ = λ p. if same_page area.page p then 1 else 0 in
    let end : Page → ℕ = λ p. if same_page (end_of area) p then 1 else 0 in
    let first = c.in_ok-mark.ensures.ok ends covers steps flat (let small = (few area.page).0 in omega (arith, small)) in
    let second = c.in_default.ensures.ok (λ p. ends p + begin p) covers first (flat_more ends covers begin flat) (let small = (few (end_of area)).0 in let one = one_end (same_page area.page (end_of area)) in omega (arith, small, one)) in
    let third = shift_up c.mark-2.new.steps c.shift.new.self area.page.segment area.page.index (area.page.index + area.pages) (λ p. (ends p + begin p) + end p) covers c.shift.ensures second (λ p. (few p).1) in
    steps_same c.shift.new.self (λ p. (ends p + begin p) + end p) _ (λ p. ends p + (begin p + end p)) _ third (λ p. omega arith) (λ p. refl)

pub returns-in_err-mark-clause-absent : goal.returns-in_err-mark-clause-absent
returns-in_err-mark-clause-absent g c = err_always c.from_residual.result (inl c.in_err-mark.ensures.absent)

pub returns-in-Err-clause-absent : goal.returns-in-Err-clause-absent
returns-in-Err-clause-absent g c = inr (c.in_ok-mark.ensures.kept (end_of c.args.area) c.in-Err.ensures.absent)
