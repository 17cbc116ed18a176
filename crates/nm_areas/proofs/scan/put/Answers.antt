use Rattle.std.proofs.Common.{ℕ, ap, sym, ◌∙◌}
use Rattle.std.specs.BTreeMap.{BTreeMap}
use Rattle.nm_types.specs.declared.area.Area.{Area}
use Rattle.nm_types.specs.Map.{spot_cmp}
use Rattle.nm_model.proofs.areas.Painted.{put_nowhere}
use Rattle.nm_areas.proofs.scan.put.Goals as goal

pub returns-in_default-clause-entries : goal.returns-in_default-clause-entries
returns-in_default-clause-entries g c =
    ap (λ (m : BTreeMap (ℕ × ℕ) Area). m.entries) c.get_mut.follows.holds-at-none
    ∙ sym (put_nowhere spot_cmp c.args.areas.now.entries c.args.spot c.args.area c.in_default.ensures.value)
