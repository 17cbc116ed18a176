use Rattle.std.proofs.Common.{◌≡◌, ◌+◌, ◌-◌, ◌<◌, ℕ, ap, sym, subst, ◌∙◌, arith}
use Rattle.std.specs.Prelude.{if◌then◌else◌}
use Rattle.std.specs.List.{flat_map}
use Rattle.std.proofs.lemmas.Bool.{lt-ltb}
use Rattle.nm_types.specs.declared.area.Segment.{Segment}
use Rattle.nm_types.specs.Map.{Map}
use Rattle.nm_types.specs.State.{page_at}
use Rattle.nm_areas.specs.Coverage.{IsCoverage}
use Rattle.nm_model.specs.views.Table.{Table, with_areas}
use Rattle.nm_model.specs.definitions.Areas.{Mapping, mapping_of, parts_with_policy}
use Rattle.nm_model.proofs.areas.Shown.{repoliced_shows}
use Rattle.nm_model.proofs.areas.Policed.{policed_mapped}
use Rattle.nm_areas.proofs.Covered.{was_policed}
use Rattle.nm_areas.proofs.areas.Areas.set_range_policy.Goals as goal

pub invariant_of-self-in-Ok : goal.invariant_of-self-in-Ok
invariant_of-self-in-Ok g c =
    let t = c.self.inside.table in
    let a = c.args in
    let first = a.range.first in
    let end = a.range.end in
    let some : first < end = omega (arith, c.if-number.true, c.number.ensures, c.number-2.ensures) in
    let count : end ≡ first + (end - first) = omega (arith, some) in (
      policed_mapped t c.self.inside.places.entries c.self.invariant.0 c.set_policy.new.self a.pid first (end - first) a.policy (omega (arith, some))
          (c.in-Ok.ensures.ok ∙ ap (λ (n : ℕ). with_areas t (flat_map (parts_with_policy a.pid first n a.policy) t.areas)) count),
      subst (λ (x : Map ℕ Segment). IsCoverage c.split_steps.new.steps x c.set_policy.new.self.areas) (sym (ap (λ (z : Table). z.segments) c.in-Ok.ensures.ok))
          (was_policed c.split_steps.new.steps t.segments t.areas a.pid first end some c.self.invariant.0.whole c.in_ok-split_steps.ensures.ok a.policy c.set_policy.new.self.areas
          (ap (λ (z : Table). z.areas) c.in-Ok.ensures.ok)),
    )

pub returns-in-Ok-clause-pages : goal.returns-in-Ok-clause-pages
returns-in-Ok-clause-pages g c q v =
    ap (λ (t : Table). page_at t.areas q v) c.in-Ok.ensures.ok
    ∙ repoliced_shows c.args.pid _ _ c.args.policy (omega (arith, c.if-number.true, c.number.ensures, c.number-2.ensures)) c.self.inside.table.areas c.self.invariant.0.whole c.self.invariant.0.apart q v
    ∙ ap (λ (m : Mapping). page_at m.areas q v) c.self.view_is

pub returns-in-Ok-clause-ok : goal.returns-in-Ok-clause-ok
returns-in-Ok-clause-ok g c =
    let a = c.args in
    let first = a.range.first in
    let end = a.range.end in
    ap (λ (t : Table). mapping_of t c.self.inside.places.entries) c.in-Ok.ensures.ok
    ∙ ap (λ (m : Mapping). record m { areas = flat_map (parts_with_policy a.pid first end a.policy) m.areas }) c.self.view_is
    ∙ sym (ap (λ b. if b then record (a.self.now) { areas = flat_map (parts_with_policy a.pid first end a.policy) a.self.now.areas } else a.self.now) (lt-ltb first end (omega (arith, c.if-number.true, c.number.ensures, c.number-2.ensures))))
