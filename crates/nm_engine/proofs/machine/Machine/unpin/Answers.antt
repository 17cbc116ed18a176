use Rattle.std.proofs.Common.{ap}
use Rattle.nm_engine.specs.views.Shown.{shown_by}
use Rattle.nm_spaces.specs.views.AddressSpaces.{AddressSpacesView}
use Rattle.nm_engine.proofs.Does.Pins.{one_fewer, ok_then, err_then, pinned_kept, unpin_alters}
use Rattle.nm_engine.proofs.machine.Machine.unpin.Goals as goal

pub invariant_of-self : goal.invariant_of-self
invariant_of-self g c =
    let i = c.self.inside in
    record {
      kept =
          pinned_kept i.spaces c.unpin.new.self i.frames i.online i.totals.moved i.totals.failed c.in_ok-page.page _ c.self.invariant.kept c.unpin.result
          (one_fewer (shown_by i.spaces i.frames i.online i.totals.moved i.totals.failed) i.frames.vacated c.in_ok-page.page c.self.invariant.kept.sound c.unpin.result) c.unpin.ensures.ok c.unpin.ensures.err;
      none = c.self.invariant.none;
    }

pub returns : goal.returns
returns g c =
    let i = c.self.inside in
    let to = λ (w : AddressSpacesView). shown_by w i.frames i.online i.totals.moved i.totals.failed in
    let page = c.in_ok-page in
    unpin_alters _ _ _ c.self.view_is c.args.pid c.args.addr page.page c.self.invariant.kept.sound page.ensures.known page.ensures.seen (to c.unpin.new.self) c.unpin.result
    c.unpin.ensures.pinned (ok_then c.unpin.result (ap to) c.unpin.ensures.ok) c.unpin.ensures.none (err_then c.unpin.result (ap to) c.unpin.ensures.err)
