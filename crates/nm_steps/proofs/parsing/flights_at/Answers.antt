use Rattle.std.proofs.Common.{sym, codes}
use Rattle.nm_steps.proofs.Memory.{begins_listed, listed_at}
use Rattle.nm_steps.proofs.parsing.flights_at.Goals as goal

pub returns-in_ok-list-in-Some-clause-allocates : goal.returns-in_ok-list-in-Some-clause-allocates
returns-in_ok-list-in-Some-clause-allocates g c = λ is.
    let list = sym (rw c.in_ok-list-in-Some.ensures.ok_part at c.as_list.ensures) in
    begins_listed _ _ _ (listed_at (codes "during") (g.V.JsonValue.as_data c.args.value.now) _ _ c.in-Some.ensures list) (c.flights_in.ensures.allocates is)
