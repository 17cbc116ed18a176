use Rattle.std.proofs.Common.{ap}
use Rattle.nm_engine.specs.views.Shown.{shown_by}
use Rattle.nm_spaces.specs.views.AddressSpaces.{AddressSpacesView}
use Rattle.nm_engine.proofs.Does.Pins.{one_more, ok_then, err_then, pinned_kept, pin_alters}
use Rattle.nm_engine.proofs.machine.Machine.pin.Goals as goal

pub invariant_of-self : goal.invariant_of-self
invariant_of-self g c =
    let i = c.self.inside in
    record {
      kept =
          pinned_kept i.spaces c.pin.new.self i.frames i.online i.totals.moved i.totals.failed c.in_ok-page.page _ c.self.invariant.kept c.pin.result
          (one_more _ c.pin.result c.pin.ensures.room) c.pin.ensures.ok c.pin.ensures.err;
      none = c.self.invariant.none;
    }

pub returns : goal.returns
returns g c =
    let i = c.self.inside in
    let to = λ (w : AddressSpacesView). shown_by w i.frames i.online i.totals.moved i.totals.failed in
    let page = c.in_ok-page in
    pin_alters _ _ _ c.self.view_is c.args.pid c.args.addr page.page c.self.invariant.kept.sound page.ensures.known page.ensures.seen (to c.pin.new.self) c.pin.result
    c.pin.ensures.room (ok_then c.pin.result (ap to) c.pin.ensures.ok) c.pin.ensures.full (err_then c.pin.result (ap to) c.pin.ensures.err)
