use Rattle.std.proofs.Common.{◌+◌, ◌/◌, ap, ◌∙◌}
use Rattle.nm_model.specs.definitions.Areas.{page_count}
use Rattle.nm_spaces.specs.views.AddressSpaces.{with_mapped}
use Rattle.nm_engine.proofs.MidRun.AreaChanges.{kept_either, kept_policed}
use Rattle.nm_engine.proofs.machine.Machine.set_policy.Goals as goal

pub invariant_of-self : goal.invariant_of-self
invariant_of-self g c =
    let i = c.self.inside in
    let a = c.args in
    let first = a.addr / 4096 in
    record {
      kept =
          kept_either i.spaces c.set_policy.new.self i.frames i.online i.totals.moved i.totals.failed c.set_policy.ensures.same c.self.invariant.kept c.set_policy.result c.set_policy.ensures.done
          (λ fine new. kept_policed i.spaces c.set_policy.new.self i.frames i.online i.totals.moved i.totals.failed c.self.invariant.kept a.pid first (first + page_count a.len) a.policy (c.set_policy.ensures.same ∙ ap (with_mapped i.spaces) new));
      none = c.self.invariant.none;
    }
