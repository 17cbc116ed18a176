use Rattle.std.proofs.Common.{◌≡◌, List, None, sym, ap, ◌∙◌, not}
use Rattle.std.specs.Prelude.{find}
use Rattle.std.specs.List.{last_or}
use Rattle.std.specs.Option.{option_or}
use Rattle.std.proofs.lemmas.List.{drop_all}
use Rattle.nm_types.specs.Nodes.{is_in}
use Rattle.nm_policy.specs.declared.pairing.Pair.{Pair}
use Rattle.nm_policy.proofs.Paired.{last_is}
use Rattle.nm_policy.proofs.pairing.next_pair.Goals as goal

pub returns : goal.returns
returns c =
    let pairs : List Pair = c.args.pairs.now in
    let free = λ (p : Pair). not (is_in c.args.remaining p.to) in
    let none : find free pairs ≡ None = sym c.loop-pair.invariant ∙ ap (find free) (drop_all c.loop-pair.pair-index pairs c.loop-pair-test.false) in
    c.copied.ensures ∙ c.last.ensures.value ∙ last_is pairs ∙ sym (ap (λ found. option_or found (last_or None pairs)) none)
