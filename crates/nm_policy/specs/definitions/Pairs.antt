-- Which nodes' pages go to which nodes, and in which order.
use Rattle.std.specs.Prelude.{ℕ, suc, zero, ◌+◌, ◌==◌, Bool, not, ◌&&◌, ◌||◌, List, [], ◌∷◌, length, find, Option, Some, None, if◌then◌else◌}
use Rattle.std.specs.List.{filter, last_or}
use Rattle.std.specs.Option.{option_or}
use Rattle.nm_types.specs.Nodes.{is_in, without_node}
use Rattle.nm_policy.specs.declared.pairing.Pair.{Pair}
use Rattle.nm_model.specs.definitions.Order.{turn}

-- each node of `old` with the node of `new` whose turn it is, from a given turn on
abbrev pub pairs_from_turn : ℕ → List ℕ → List ℕ → List Pair
pairs_from_turn k [] new = []
pairs_from_turn k (n ∷ old) new = record { from = n; to = turn new k } ∷ pairs_from_turn (k + 1) old new

-- a node keeps its pages if it is its own target, or if the sets differ in size and it is in `new`
abbrev pub stays : List ℕ → List ℕ → Pair → Bool
stays old new pair = (pair.from == pair.to) || (not (length old == length new) && is_in new pair.from)

-- the pairs whose pages move, by the node that they leave; none if `new` is empty
abbrev pub pairs_that_move : List ℕ → List ℕ → List Pair
pairs_that_move old new = if length new == 0 then [] else filter (λ p. not (stays old new p)) (pairs_from_turn 0 old new)

-- the first pair whose target is not still to be emptied, or else the last pair
abbrev pub next_pair : List ℕ → List Pair → Option Pair
next_pair remaining pairs = option_or (find (λ p. not (is_in remaining p.to)) pairs) (last_or None pairs)

-- the pairs that do not leave this node
abbrev pub without_source : List Pair → ℕ → List Pair
without_source pairs node = filter (λ p. not (p.from == node)) pairs

-- at most `n` pairs, one after another; each empties the node that it leaves
abbrev pub pairs_after : ℕ → List ℕ → List Pair → List Pair
pairs_after zero remaining left = []
pairs_after (suc n) remaining left =
    elim (next_pair remaining left) [
      | None ↦ []
      | Some pair ↦ pair ∷ pairs_after n (without_node remaining pair.from) (without_source left pair.from)
    ]

-- which node's pages go where, in order; at first every node of `old` is still to be emptied, even one that keeps its
-- pages
abbrev pub pairs : List ℕ → List ℕ → List Pair
pairs old new = pairs_after (length (pairs_that_move old new)) old (pairs_that_move old new)
