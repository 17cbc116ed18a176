use Rattle.std.proofs.Common.{ap, sym, ◌∙◌}
use Rattle.std.specs.Prelude.{nat_lt}
use Rattle.nm_spaces.specs.views.AddressSpaces.{is_page_pinned}
use Rattle.nm_spaces.proofs.Boxed.{seen, tied}
use Rattle.nm_spaces.proofs.Spaces.PinnedPages.{busy_there, placed_pins, unplaced_pins}
use Rattle.nm_spaces.proofs.address_spaces.AddressSpaces.has_pin_at.Goals as goal

pub pins-requires : goal.pins-requires
pins-requires g c = (tied c.deref-parts.ensures c.self.invariant).in_range c.in-Some.page c.in-Some-page_frame.frame (sym c.in-Some-page_frame.ensures)

pub returns-in-Some-page_frame-clause-pinned : goal.returns-in-Some-page_frame-clause-pinned
returns-in-Some-page_frame-clause-pinned g c =
    let x = c.deref-parts.result.now in
    let y = c.args.self.now in
    let pins = placed_pins y x.tasks x.areas x.rmap (seen c.deref-parts.ensures c.self.view_is) c.in-Some.page c.in-Some-page_frame.frame (sym c.in-Some-page_frame.ensures) in
    ap (nat_lt 0) (c.pins.ensures.pins ∙ sym pins) ∙ ap (is_page_pinned y) c.in-Some.ensures

pub returns-in-None-clause-pinned : goal.returns-in-None-clause-pinned
returns-in-None-clause-pinned g c =
    let x = c.deref-parts.result.now in
    let y = c.args.self.now in
    sym (unplaced_pins y x.tasks x.areas x.rmap (seen c.deref-parts.ensures c.self.view_is) c.in-Some.page (sym c.in-None.ensures)) ∙ ap (is_page_pinned y) c.in-Some.ensures

pub returns-in-Some-page_frame-clause-range : goal.returns-in-Some-page_frame-clause-range
returns-in-Some-page_frame-clause-range g c pinned first end low high =
    let x = c.deref-parts.result.now in
    let y = c.args.self.now in
    let pins = placed_pins y x.tasks x.areas x.rmap (seen c.deref-parts.ensures c.self.view_is) c.in-Some.page c.in-Some-page_frame.frame (sym c.in-Some-page_frame.ensures) in
    busy_there y.areas y.pins c.args.pid first end c.args.vpn c.in-Some.page (sym c.in-Some.ensures) low high
    (ap (nat_lt 0) (pins ∙ sym c.pins.ensures.pins) ∙ pinned)
