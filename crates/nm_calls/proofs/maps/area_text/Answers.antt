use Rattle.std.proofs.Common.{◌++◌, ap, ◌∙◌, arith}
use Rattle.std.specs.Prelude.{codes}
use Rattle.nm_types.specs.Layout.{node_count}
use Rattle.nm_calls.specs.definitions.Maps.{address_text, policy_text}
use Rattle.nm_calls.specs.views.Tally.{pages_of, tally_text}
use Rattle.nm_calls.proofs.Lines.Tallies.{tally_tells}
use Rattle.nm_calls.proofs.maps.area_text.Goals as goal

pub returns : goal.returns
returns g c =
    let s = c.args.machine.now in
    let a = c.args.area.now in
    let few = c.node_count.ensures.machine.few_nodes in
    let same = ap node_count c.geometry.ensures.geometry in
    let count = c.node_count.ensures.count ∙ same in
    let is_so = ap (tally_text c.in_ok-tally.tally) count
    ∙ tally_tells s (pages_of s c.args.pid a) c.in_ok-tally.tally c.in_ok-tally.ensures.pages c.in_ok-tally.ensures.most c.in_ok-tally.ensures.on (omega (arith, few, same)) in
    c.in_ok-push_tally.ensures.text
    ∙ ap (λ t. t ++ tally_text c.in_ok-tally.tally c.node_count.result) c.in_ok-push_policy.ensures
    ∙ ap (λ t. t ++ policy_text a.policy ++ tally_text c.in_ok-tally.tally c.node_count.result) c.in_ok-push_str.ensures.bytes
    ∙ ap (λ t. t ++ codes " " ++ policy_text a.policy ++ tally_text c.in_ok-tally.tally c.node_count.result) c.in_ok-push_address.ensures
    ∙ ap (λ t. t ++ address_text a.first ++ codes " " ++ policy_text a.policy ++ tally_text c.in_ok-tally.tally c.node_count.result) c.in_ok-line.ensures.bytes
    ∙ ap (λ t. address_text a.first ++ codes " " ++ policy_text a.policy ++ t) is_so
