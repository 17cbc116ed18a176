use Rattle.std.proofs.Common.{sym, ap, length, take, arith}
use Rattle.std.proofs.lemmas.List.{length-map, length-take-le}
use Rattle.nm_types.specs.declared.request.Wanted.{Wanted}
use Rattle.nm_types.specs.declared.request.Wanted.TheVariants.{At}
use Rattle.nm_policy.specs.declared.targets.Destination.{Destination}
use Rattle.nm_passes.proofs.Policies.SentPages.{sent_stretch, first_goes}
use Rattle.nm_passes.proofs.turns.first_run.Goals as goal

pub returns-clause-first : goal.returns-clause-first
returns-clause-first g c =
    let sent = c.args.sent.now in
    sent_stretch c.args.pid c.args.all sent c.same_node-count.result _ _ c.requires (first_goes sent c.index-sent-0.result c.requires) c.same_node-count.ensures.front c.in_ok-all_asked.ensures

pub slice_bounds-all_asked-end : goal.slice_bounds-all_asked-end
slice_bounds-all_asked-end g c = sym (length-take-le c.same_node-count.result c.args.sent.now c.same_node-count.ensures.within)

pub returns-clause-some : goal.returns-clause-some
returns-clause-some g c =
    let front = take c.same_node-count.result c.args.sent.now in
    let long = length-take-le c.same_node-count.result c.args.sent.now c.same_node-count.ensures.within in
    omega (arith, ap length c.in_ok-all_asked.ensures, length-map {B = Wanted} front (λ (page : Destination). At c.args.pid page.vpn c.args.all), long, c.same_node-count.ensures.some)

pub returns-clause-within : goal.returns-clause-within
returns-clause-within g c =
    let front = take c.same_node-count.result c.args.sent.now in
    let long = length-take-le c.same_node-count.result c.args.sent.now c.same_node-count.ensures.within in
    omega (arith, ap length c.in_ok-all_asked.ensures, length-map {B = Wanted} front (λ (page : Destination). At c.args.pid page.vpn c.args.all), long, c.same_node-count.ensures.within)
