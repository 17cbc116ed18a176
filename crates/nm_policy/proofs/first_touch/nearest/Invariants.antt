use Rattle.std.proofs.Common.{◌≡◌, length}
use Rattle.std.specs.Prelude.{◌&&◌, find}
use Rattle.std.specs.List.{filter, fold}
use Rattle.nm_types.specs.Nodes.{is_in}
use Rattle.nm_model.specs.definitions.Order.{zonelist, nearer_of}
use Rattle.nm_policy.proofs.first_touch.nearest.Given as goal

abbrev pub invariant-loop-node : goal.invariant-loop-node
invariant-loop-node g l = fold (nearer_of l.geometry l.from (λ n. is_in l.kept n && is_in l.free n)) l.found l.rest
    ≡ find (is_in l.free) (filter (is_in l.kept) (zonelist l.geometry l.fn.online l.from))

abbrev pub decreases-loop-node : goal.decreases-loop-node
decreases-loop-node g l = length l.rest
