use Rattle.std.proofs.Common.{ap, ◌∙◌}
use Rattle.nm_types.specs.Nodes.{up_from}
use Rattle.nm_spaces.specs.views.AddressSpaces.{AddressSpacesView}
use Rattle.nm_engine.proofs.MidRun.AreaCalls.{shown_new, kept_new}
use Rattle.nm_engine.proofs.machine.Machine.new.Goals as goal

pub invariant_of-result : goal.invariant_of-result
invariant_of-result g c =
    let paged = c.in_ok-new-2.field-0 in
    let made = c.in_ok-new-2.ensures in
    let same = shown_new c.args.geometry c.in_ok-new.field-0 paged c.all_nodes-online.result _ c.in_ok-new.ensures made.layout made.free (c.all_nodes-online.ensures ∙ ap (up_from 0) c.node_count.ensures.count) in
    record {
      kept = kept_new c.args.geometry _ paged.vacated _ same made.vacated (ap (λ (y : AddressSpacesView). y.frames) c.in_ok-new.ensures ∙ c.frame_count.ensures);
      none = made.vacated;
    }
