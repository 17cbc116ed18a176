use Rattle.std.proofs.Common.{ap, sym, ◌∙◌}
use Rattle.std.specs.BTreeMap.{BTreeMap}
use Rattle.nm_types.specs.declared.page.Page.{Page}
use Rattle.nm_coverage.specs.declared.step.Step.{Step}
use Rattle.nm_types.specs.Map.{page_cmp}
use Rattle.nm_model.proofs.areas.Painted.{put_nowhere}
use Rattle.nm_coverage.proofs.coverage.put.Goals as goal

pub returns-in_default : goal.returns-in_default
returns-in_default g c =
    ap (λ (m : BTreeMap Page Step). m.entries) c.get_mut.follows.holds-at-none
    ∙ sym (put_nowhere page_cmp c.args.stored.now.entries c.args.page c.args.step c.in_default.ensures.value)
