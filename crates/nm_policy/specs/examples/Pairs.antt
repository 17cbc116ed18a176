-- Worked examples of pairs of nodes.
use Rattle.std.specs.Prelude.{◌≡◌, ℕ, List, [], ◌∷◌, map}
use Rattle.nm_policy.specs.definitions.Pairs.{pairs}

-- the pairs as tuples of node numbers
abbrev pub pair_tuples : List ℕ → List ℕ → List (ℕ × ℕ)
pair_tuples old new = map {B = ℕ × ℕ} (λ p. (p.from, p.to)) (pairs old new)

pub record PairRows : Type 0 where
  -- nodes 3, 4 and 5 keep their pages and are never emptied, so the last pair comes first
  pub eight_to_three : pair_tuples (0 ∷ 1 ∷ 2 ∷ 3 ∷ 4 ∷ 5 ∷ 6 ∷ 7 ∷ []) (3 ∷ 4 ∷ 5 ∷ [])
      ≡ (7, 4) ∷ (6, 3) ∷ (2, 5) ∷ (1, 4) ∷ (0, 3) ∷ []
  -- node 1 is emptied before pages arrive on it
  pub two_in_a_chain : pair_tuples (0 ∷ 1 ∷ []) (1 ∷ 2 ∷ []) ≡ (1, 2) ∷ (0, 1) ∷ []
  pub three_in_a_chain : pair_tuples (0 ∷ 1 ∷ 2 ∷ []) (1 ∷ 2 ∷ 3 ∷ []) ≡ (2, 3) ∷ (1, 2) ∷ (0, 1) ∷ []
  pub to_itself : pair_tuples (0 ∷ 1 ∷ []) (0 ∷ 1 ∷ []) ≡ []
  -- no pair waits for another, so the first comes first; the third pair takes the first turn again
  pub apart : pair_tuples (0 ∷ 1 ∷ 2 ∷ []) (4 ∷ 5 ∷ []) ≡ (0, 4) ∷ (1, 5) ∷ (2, 4) ∷ []
  -- sets of equal size: node 1's pages move although it is in both
  pub one_in_both : pair_tuples (1 ∷ 3 ∷ []) (0 ∷ 1 ∷ []) ≡ (1, 0) ∷ (3, 1) ∷ []
  -- sets of different sizes: node 1's pages stay
  pub one_stays : pair_tuples (1 ∷ 3 ∷ []) (1 ∷ []) ≡ (3, 1) ∷ []
  pub from_none : pair_tuples [] (0 ∷ []) ≡ []
  pub to_none : pair_tuples (0 ∷ 1 ∷ []) [] ≡ []
