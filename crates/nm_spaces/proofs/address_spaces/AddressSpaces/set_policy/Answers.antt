use Rattle.std.proofs.Common.{◌+◌, ◌/◌}
use Rattle.nm_model.specs.definitions.Areas.{page_count}
use Rattle.nm_model.specs.definitions.AreaRefusal.{range_refusal}
use Rattle.nm_spaces.proofs.Boxed.{seen, tied}
use Rattle.nm_spaces.proofs.Tied.AreaChanges.{IsShownStill, made_still, still_tied, still_shows_at}
use Rattle.nm_spaces.proofs.address_spaces.AddressSpaces.set_policy.Given.{Over}
use Rattle.nm_spaces.proofs.address_spaces.AddressSpaces.set_policy.Goals as goal

still : (g : Over) (c : goal.After-self-1 g) → IsShownStill c.deref_mut-parts.result.now.areas c.split_policy.new.self
still g c =
    let a = c.args in
    let m = c.deref_mut-parts.result.now.areas in
    let first = a.addr / 4096 in
    made_still m c.split_policy.new.self a.pid first (first + page_count a.len) a.policy (range_refusal m a.pid a.addr a.len) c.split_policy.result c.split_policy.ensures.done c.split_policy.ensures.pages

pub invariant_of-self : goal.invariant_of-self
invariant_of-self g c =
    let x = c.deref_mut-parts.result.now in
    still_tied x.tasks x.areas c.split_policy.new.self x.rmap (tied c.deref_mut-parts.ensures.value c.self.invariant) (still g c)

pub returns-clause-same : goal.returns-clause-same
returns-clause-same g c =
    let x = c.deref_mut-parts.result.now in
    still_shows_at x.tasks x.areas c.split_policy.new.self x.rmap (tied c.deref_mut-parts.ensures.value c.self.invariant) (still g c) c.args.self.now (seen c.deref_mut-parts.ensures.value c.self.view_is)
