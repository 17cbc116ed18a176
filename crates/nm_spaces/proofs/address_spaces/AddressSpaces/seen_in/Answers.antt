use Rattle.std.proofs.Common.{subst, arith, ◌+◌, ◌≤◌, ◌<◌}
use Rattle.std.specs.Prelude.{IfSome}
use Rattle.nm_model.specs.definitions.Seen.{IsOver}
use Rattle.nm_spaces.proofs.address_spaces.AddressSpaces.seen_in.Goals as goal

pub page_in-page-requires-clause-over : goal.page_in-page-requires-clause-over
page_in-page-requires-clause-over g c =
    (subst (λ o. IfSome o (λ a. (a.0 ≤ c.args.vpn) × (c.args.vpn < a.0 + a.1.pages))) c.in-Some.is c.area_near-near.ensures.here).0

pub page_in-page-requires-clause-index : goal.page_in-page-requires-clause-index
page_in-page-requires-clause-index g c =
    let here = subst (λ o. IfSome o (λ a. (a.0 ≤ c.args.vpn) × (c.args.vpn < a.0 + a.1.pages))) c.in-Some.is c.area_near-near.ensures.here in
    let over = subst (λ o. IfSome o (IsOver c.args.self.now.areas c.args.pid)) c.in-Some.is c.area_near-near.ensures.over in
    omega (arith, here.0, here.1, over.1)
