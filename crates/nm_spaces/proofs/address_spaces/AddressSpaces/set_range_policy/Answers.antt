use Rattle.std.proofs.Common.{◌≡◌, ap, subst}
use Rattle.std.specs.Prelude.{OnOk, OnErr}
use Rattle.nm_model.specs.definitions.Areas.{Mapping, with_policy}
use Rattle.nm_spaces.specs.views.AddressSpaces.{mapped_of, spaces_view, with_mapped}
use Rattle.nm_spaces.proofs.Boxed.{seen, tied}
use Rattle.nm_spaces.proofs.Tied.AreaChanges.{IsShownStill, still_tied, still_shows_at, policed_still, policed_seen, policed_not}
use Rattle.nm_spaces.proofs.address_spaces.AddressSpaces.set_range_policy.Given.{Over}
use Rattle.nm_spaces.proofs.address_spaces.AddressSpaces.set_range_policy.Goals as goal

still : (g : Over) (c : goal.After-self-1 g) → IsShownStill c.deref_mut-parts.result.now.areas c.set_range_policy.new.self
still g c =
    let a = c.args in
    policed_still c.deref_mut-parts.result.now.areas c.set_range_policy.new.self a.pid a.range.first a.range.end a.policy c.set_range_policy.result c.set_range_policy.ensures.ok c.set_range_policy.ensures.err c.set_range_policy.ensures.pages

-- only areas and segments may differ
shown : (g : Over) (c : goal.After-self-1 g) → let x = c.deref_mut-parts.result.now in let after = spaces_view x.tasks c.set_range_policy.new.self x.rmap in after ≡ with_mapped c.args.self.now (mapped_of after)
shown g c =
    let x = c.deref_mut-parts.result.now in
    still_shows_at x.tasks x.areas c.set_range_policy.new.self x.rmap (tied c.deref_mut-parts.ensures.value c.self.invariant) (still g c) c.args.self.now (seen c.deref_mut-parts.ensures.value c.self.view_is)

pub invariant_of-self : goal.invariant_of-self
invariant_of-self g c =
    let x = c.deref_mut-parts.result.now in
    still_tied x.tasks x.areas c.set_range_policy.new.self x.rmap (tied c.deref_mut-parts.ensures.value c.self.invariant) (still g c)

pub returns-clause-ok : goal.returns-clause-ok
returns-clause-ok g c =
    let a = c.args in
    let x = c.deref_mut-parts.result.now in
    let r = c.set_range_policy.result in
    policed_seen (spaces_view x.tasks c.set_range_policy.new.self x.rmap) a.self.now (with_policy (mapped_of a.self.now) a.pid a.range.first a.range.end a.policy) r (shown g c)
    (subst (λ (m : Mapping). OnOk r (c.set_range_policy.new.self ≡ with_policy m a.pid a.range.first a.range.end a.policy)) (ap mapped_of (seen c.deref_mut-parts.ensures.value c.self.view_is)) c.set_range_policy.ensures.ok)

pub returns-clause-err : goal.returns-clause-err
returns-clause-err g c =
    let a = c.args in
    let x = c.deref_mut-parts.result.now in
    let r = c.set_range_policy.result in
    policed_not (spaces_view x.tasks c.set_range_policy.new.self x.rmap) a.self.now r (shown g c)
    (subst (λ (m : Mapping). OnErr r (c.set_range_policy.new.self ≡ m)) (ap mapped_of (seen c.deref_mut-parts.ensures.value c.self.view_is)) c.set_range_policy.ensures.err)
