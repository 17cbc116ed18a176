use Rattle.std.proofs.Common.{◌≡◌, ◌<◌, [], ap, sym, subst, ◌∙◌}
use Rattle.std.specs.Prelude.{Option, Some}
use Rattle.std.specs.Option.{unwrap_or, option_map}
use Rattle.std.specs.List.{AllByRecursion}
use Rattle.std.specs.Ordering.{nat_cmp}
use Rattle.nm_types.specs.declared.process.ProcessInfo.{ProcessInfo}
use Rattle.nm_types.specs.Layout.{node_count}
use Rattle.nm_types.specs.Map.{get}
use Rattle.nm_model.specs.definitions.Effect.{info_of}
use Rattle.nm_spaces.specs.views.AddressSpaces.{AddressSpacesView}
use Rattle.nm_calls.specs.definitions.Mbind.{policy_of}
use Rattle.nm_passes.specs.definitions.Permission.{info_at, usable}
use Rattle.nm_passes.specs.views.Runs.{nodes_named}
use Rattle.nm_passes.proofs.Policies.NamedNodes.{usable_nodes}
use Rattle.nm_calls.proofs.Policies.Nodes.{named_of, good_names}
use Rattle.nm_calls.proofs.mbind.asked_of.Goals as goal

pub returns-clause-policy : goal.returns-clause-policy
returns-clause-policy g c =
    let s = c.args.machine.now in
    let r = c.args.request.now in
    let known : info_at s r.caller ≡ Some c.in-Some.asking =
    sym (ap (λ (y : AddressSpacesView). option_map info_of (get nat_cmp y.processes r.caller)) c.spaces.ensures) ∙ sym c.info.ensures ∙ c.in-Some.is in
    c.policy_of.ensures ∙ ap (policy_of r.mode) c.in-Some-kept_nodes.ensures.kept
    ∙ sym (ap (λ (o : Option ProcessInfo). policy_of r.mode (usable s (unwrap_or (option_map (λ (i : ProcessInfo). i.allowed) o) []) r.nodes)) known)

pub returns-clause-nodes : goal.returns-clause-nodes
returns-clause-nodes g c =
    let s = c.args.machine.now in
    let allowed = c.in-Some.asking.allowed in
    let good = good_names s allowed c.args.request.now.mode c.args.request.now.nodes c.in-Some-kept_nodes.ensures.some in
    let kept = subst (AllByRecursion (λ n. n < node_count s.layout)) (sym c.in-Some-kept_nodes.ensures.kept) (usable_nodes s allowed c.args.request.now.nodes good) in
    subst (λ p. AllByRecursion (λ n. n < node_count s.layout) (nodes_named p)) (sym c.policy_of.ensures)
    (named_of (λ n. n < node_count s.layout) c.args.request.now.mode c.in-Some-kept_nodes.kept kept)
