-- What follows of pairs of nodes.
use Rattle.std.specs.Prelude.{◌≡◌, ◌≢◌, ℕ, nat_eq, true, List, [], ◌∷◌, map, IsPermutation}
use Rattle.std.specs.List.{AllByRecursion, IsDistinct}
use Rattle.std.specs.List.Sorted.{IsStrictlyIncreasing}
use Rattle.nm_types.specs.Nodes.{is_in, without_node}
use Rattle.nm_policy.specs.declared.pairing.Pair.{Pair}
use Rattle.nm_policy.specs.definitions.Pairs.{pairs_that_move, pairs}

-- if the target of a pair is still to be emptied, so is that of every pair after it: a chain of nodes is emptied from
-- its end
abbrev pub EmptiesFromTheEnd : List ℕ → List Pair → Type 0
EmptiesFromTheEnd remaining [] = Unit {0}
EmptiesFromTheEnd remaining (p ∷ ps) =
    (is_in remaining p.to ≡ true → AllByRecursion (λ q. is_in remaining q.to ≡ true) ps)
    × EmptiesFromTheEnd (without_node remaining p.from) ps

-- no node's pages go to the node itself, every target is in `new`, no node is emptied twice, each whose pages move is
-- emptied once, and chains are emptied from their ends
pub record PairsAreInOrder (old new : List ℕ) : Type 0 where
  pub away : AllByRecursion (λ p. p.from ≢ p.to) (pairs old new)
  pub inside : AllByRecursion (λ p. is_in new p.to ≡ true) (pairs old new)
  pub once : IsDistinct nat_eq (map (λ p. p.from) (pairs old new))
  pub all : IsPermutation (pairs_that_move old new) (pairs old new)
  pub from_the_end : EmptiesFromTheEnd old (pairs old new)

abbrev pub EachSetIsPairedInOrder : Type 0
EachSetIsPairedInOrder = (old new : List ℕ) → IsStrictlyIncreasing old → PairsAreInOrder old new
