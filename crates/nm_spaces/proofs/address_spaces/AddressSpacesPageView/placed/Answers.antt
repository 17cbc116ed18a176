use Rattle.std.proofs.Common.{ℕ, Bool, ap, sym, ◌∙◌}
use Rattle.std.specs.Prelude.{nat_lt, Some}
use Rattle.std.specs.Option.{option_map}
use Rattle.nm_types.specs.Map.{get, page_cmp}
use Rattle.nm_spaces.specs.views.AddressSpaces.{AddressSpacesView, pins_here}
use Rattle.nm_spaces.proofs.Boxed.{seen, tied}
use Rattle.nm_spaces.proofs.Spaces.PinnedPages.{placed_pins}
use Rattle.nm_spaces.proofs.address_spaces.AddressSpacesPageView.placed.Goals as goal

pub pins-requires : goal.pins-requires
pins-requires g c = (tied c.deref-parts.ensures c.self.invariant).in_range c.args.page c.in-Some.frame (sym c.in-Some.ensures)

pub returns-in-Some : goal.returns-in-Some
returns-in-Some g c =
    let x = c.deref-parts.result.now in
    let y = c.args.self.now in
    let is = seen c.deref-parts.ensures c.self.view_is in
    let pins = placed_pins y x.tasks x.areas x.rmap is c.args.page c.in-Some.frame (sym c.in-Some.ensures) in
    let told : ℕ → ℕ × Bool = λ frame. (frame, nat_lt 0 (pins_here y c.args.page)) in
    ap (λ n. Some (c.in-Some.frame, nat_lt 0 n)) (c.pins.ensures.pins ∙ sym pins)
    ∙ ap (option_map told) (c.in-Some.ensures ∙ ap (λ (y : AddressSpacesView). get page_cmp y.place c.args.page) is)

pub returns-in-None : goal.returns-in-None
returns-in-None g c =
    let y = c.args.self.now in
    let told : ℕ → ℕ × Bool = λ frame. (frame, nat_lt 0 (pins_here y c.args.page)) in
    ap (option_map told) (c.in-None.ensures ∙ ap (λ (y : AddressSpacesView). get page_cmp y.place c.args.page) (seen c.deref-parts.ensures c.self.view_is))
