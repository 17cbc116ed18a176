use Rattle.std.proofs.Common.{◌≡◌, ◌∙◌, Bool, true, false, ap, sym, arith}
use Rattle.std.specs.Prelude.{Option, Some, None, if◌then◌else◌}
use Rattle.nm_types.specs.declared.page.Page.{Page}
use Rattle.nm_types.specs.Map.{Map, get, page_cmp}
use Rattle.nm_types.proofs.Cases.{some_none}
use Rattle.nm_coverage.specs.declared.step.Step.{Step}
use Rattle.nm_areas.proofs.Steps.{more_ends}
use Rattle.nm_areas.proofs.coverage.mark.Goals as goal

-- where nothing is after something may have been put there, nothing was before
nothing_before : (here : Bool) (step : Step) (before : Option Step) → (if here then Some step else before) ≡ None → before ≡ None
nothing_before true step before none = absurd (some_none none)
nothing_before false step before none = none

pub returns-clause-ok : goal.returns-clause-ok
returns-clause-ok g c ends covers steps flat few =
    let before = c.ends_at.ensures ends covers steps in
    more_ends c.args.steps.now c.insert.new.self c.args.page c.args.times _ _ c.requires.some c.in_ok-insert.ensures.ok ends covers steps (c.count_at.ensures ends covers steps flat) (omega (arith, c.saturating_add.ensures, before, few))

pub returns-clause-kept : goal.returns-clause-kept
returns-clause-kept g c p none = nothing_before _ _ _ (sym (c.in_ok-insert.ensures.ok p) ∙ none)

pub returns-in_err-insert-clause-kept : goal.returns-in_err-insert-clause-kept
returns-in_err-insert-clause-kept g c p none = sym (ap (λ (m : Map Page Step). get page_cmp m p) c.in_err-insert.ensures.err) ∙ none
