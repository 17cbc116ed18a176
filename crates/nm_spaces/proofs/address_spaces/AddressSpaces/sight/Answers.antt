use Rattle.std.proofs.Common.{ap, sym, ◌∙◌}
use Rattle.std.specs.Prelude.{Some, None}
use Rattle.std.specs.Option.{option_map}
use Rattle.nm_model.specs.definitions.Seen.{frame_of}
use Rattle.nm_spaces.proofs.Boxed.{seen, tied}
use Rattle.nm_spaces.proofs.ProcessTable.NamedFrames.{names_it, sees_page_there, sees_zeros}
use Rattle.nm_spaces.proofs.Spaces.Looks.{placed_there}
use Rattle.nm_spaces.proofs.Tied.Beginnings.{seen_here, seen_page}
use Rattle.nm_spaces.proofs.address_spaces.AddressSpaces.sight.Goals.{in-None, in-Some}
use Rattle.nm_spaces.proofs.address_spaces.AddressSpaces.sight.Goals as goal

pub returns-in_err-entry-clause-sight : goal.returns-in_err-entry-clause-sight
returns-in_err-entry-clause-sight g c =
    let x = c.deref-parts.result.now in
    ap (option_map (λ seen. seen.sight)) c.from_residual.ensures ∙ seen_here c.args.self.now x.tasks x.areas x.rmap c.args.pid c.args.vpn None (seen c.deref-parts.ensures c.self.view_is) c.in_err-entry.ensures

pub returns-clause-sight : goal.returns-clause-sight
returns-clause-sight g c =
    let x = c.deref-parts.result.now in
    let e = c.in_ok-entry.entry in
    elim c.match-frame.branch [
      | in-None w ↦
          ap Some (w.sight-is ∙ sym (sees_zeros x.areas.areas c.args.pid c.args.vpn e (sym c.frame_named-frame.ensures ∙ w.in-None.is)))
          ∙ seen_here c.args.self.now x.tasks x.areas x.rmap c.args.pid c.args.vpn (Some e) (seen c.deref-parts.ensures c.self.view_is) c.in_ok-entry.ensures
      | in-Some w ↦
          ap Some w.sight-is
          ∙ seen_page c.args.self.now x.tasks x.areas x.rmap c.args.pid c.args.vpn e c.args.page (seen c.deref-parts.ensures c.self.view_is) c.in_ok-entry.ensures
          (sees_page_there x.areas.areas c.args.pid c.args.vpn e w.in-Some.field-0 (sym c.frame_named-frame.ensures ∙ w.in-Some.is)) (sym c.requires)
    ]

pub returns-clause-frame : goal.returns-clause-frame
returns-clause-frame g c =
    let x = c.deref-parts.result.now in
    let e = c.in_ok-entry.entry in
    elim c.match-frame.branch [
      | in-None w ↦ w.in-None.is ∙ ap (λ s. frame_of c.args.self.now.place (Some s)) (sym w.sight-is)
      | in-Some w ↦
          w.in-Some.is
          ∙ sym (placed_there c.args.self.now x.tasks x.areas x.rmap c.args.pid c.args.vpn c.args.page (seen c.deref-parts.ensures c.self.view_is) (sym c.requires) w.in-Some.field-0 e (tied c.deref-parts.ensures c.self.invariant) c.in_ok-entry.ensures
          (names_it e w.in-Some.field-0 (sym c.frame_named-frame.ensures ∙ w.in-Some.is)))
          ∙ ap (λ s. frame_of c.args.self.now.place (Some s)) (sym w.sight-is)
    ]
