use Rattle.std.proofs.Common.{ap, sym, ◌∙◌}
use Rattle.std.specs.Prelude.{Some, None}
use Rattle.nm_model.specs.definitions.Seen.{look_at_place, look_by_sight}
use Rattle.nm_spaces.proofs.Boxed.{seen, tied}
use Rattle.nm_spaces.proofs.ProcessTable.NamedFrames.{names_it, sees_page_there, sees_zeros}
use Rattle.nm_spaces.proofs.Spaces.Looks.{looked_there, looked_at, placed_there}
use Rattle.nm_spaces.proofs.address_spaces.AddressSpacesPageView.seen.Goals as goal

pub look_at-requires : goal.look_at-requires
look_at-requires g c =
    let x = c.deref-parts.result.now in
    placed_there c.args.self.now x.tasks x.areas x.rmap c.args.pid c.args.vpn c.in-Some.page (seen c.deref-parts.ensures c.self.view_is) c.in-Some.ensures c.in-Some-frame_named.frame c.in-Some-entry.entry (tied c.deref-parts.ensures c.self.invariant) c.in-Some-entry.ensures
    (names_it c.in-Some-entry.entry c.in-Some-frame_named.frame (sym c.frame_named.ensures ∙ c.in-Some-frame_named.is))

pub returns-in-None : goal.returns-in-None
returns-in-None g c =
    let x = c.deref-parts.result.now in
    sym (looked_there c.args.self.now x.tasks x.areas x.rmap c.args.pid c.args.vpn c.in-Some.page (seen c.deref-parts.ensures c.self.view_is) c.in-Some.ensures None c.in-None.ensures)

pub returns-in-None-frame_named : goal.returns-in-None-frame_named
returns-in-None-frame_named g c =
    let x = c.deref-parts.result.now in
    sym (looked_there c.args.self.now x.tasks x.areas x.rmap c.args.pid c.args.vpn c.in-Some.page (seen c.deref-parts.ensures c.self.view_is) c.in-Some.ensures (Some c.in-Some-entry.entry) c.in-Some-entry.ensures
    ∙ ap (λ s. look_by_sight c.args.self.now.processes c.args.self.now.place c.args.self.now.pins (Some s)) (sees_zeros x.areas.areas c.args.pid c.args.vpn c.in-Some-entry.entry (sym c.frame_named.ensures ∙ c.in-None-frame_named.is)))

pub returns-in-Some-frame_named : goal.returns-in-Some-frame_named
returns-in-Some-frame_named g c =
    let x = c.deref-parts.result.now in
    let e = c.in-Some-entry.entry in
    let f = c.in-Some-frame_named.frame in
    let named = sym c.frame_named.ensures ∙ c.in-Some-frame_named.is in
    let placed = placed_there c.args.self.now x.tasks x.areas x.rmap c.args.pid c.args.vpn c.in-Some.page (seen c.deref-parts.ensures c.self.view_is) c.in-Some.ensures f e (tied c.deref-parts.ensures c.self.invariant) c.in-Some-entry.ensures (names_it e f named) in
    c.look_at.ensures ∙ ap (λ o. look_at_place c.args.self.now.processes c.args.self.now.pins c.in-Some.page o) (sym placed)
    ∙ sym (looked_at c.args.self.now x.tasks x.areas x.rmap c.args.pid c.args.vpn c.in-Some.page (seen c.deref-parts.ensures c.self.view_is) c.in-Some.ensures e c.in-Some-entry.ensures (sees_page_there x.areas.areas c.args.pid c.args.vpn e f named))
