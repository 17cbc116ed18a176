-- Sums over the hands' views, and counts of tickets.
use Rattle.std.proofs.Common.{◌≡◌, ℕ, zero, suc, ◌+◌, ◌≤◌, List, [], ◌∷◌, ◌++◌, set, sym, refl, ap, arith}
use mathlib.Core.Option.{some, some-injective, some-ne-none}
use lib.ListN.{get_elem?}
use Rattle.nm_board.specs.declared.view.View.{View}
use Rattle.nm_board.specs.Rule.{sum_over_hands}

module _ {A : Type 0} where
  -- the total after a change of one view
  pub total_set : (f : View A → ℕ) (vs : List (View A)) (i : ℕ) (v w : View A) → get_elem? vs i ≡ some v → sum_over_hands f (set vs i w) + f v ≡ sum_over_hands f vs + f w
  total_set f [] i v w e = absurd (some-ne-none v (sym e))
  total_set f (x ∷ xs) zero v w e = let s : f x ≡ f v = ap f (some-injective x v e) in omega arith
  total_set f (x ∷ xs) (suc i) v w e = omega (arith, total_set f xs i v w e)

  pub total_snoc : (f : View A → ℕ) (vs : List (View A)) (w : View A) → sum_over_hands f (vs ++ w ∷ []) ≡ sum_over_hands f vs + f w
  total_snoc f [] w = omega arith
  total_snoc f (x ∷ xs) w = omega (arith, total_snoc f xs w)

  -- one view's part
  pub total_has : (f : View A → ℕ) (vs : List (View A)) (i : ℕ) (v : View A) → get_elem? vs i ≡ some v → f v ≤ sum_over_hands f vs
  total_has f [] i v e = absurd (some-ne-none v (sym e))
  total_has f (x ∷ xs) zero v e = let s : f x ≡ f v = ap f (some-injective x v e) in omega arith
  total_has f (x ∷ xs) (suc i) v e = omega (arith, total_has f xs i v e)

  pub total_le : (f g : View A → ℕ) (vs : List (View A)) → ((i : ℕ) (v : View A) → get_elem? vs i ≡ some v → f v ≤ g v) → sum_over_hands f vs ≤ sum_over_hands g vs
  total_le f g [] h = omega arith
  total_le f g (x ∷ xs) h = omega (arith, h zero x refl, total_le f g xs (λ i v e. h (suc i) v e))

  pub total_none : (g f : View A → ℕ) (vs : List (View A)) → sum_over_hands g vs ≡ 0 → ((j : ℕ) (w : View A) → get_elem? vs j ≡ some w → g w ≡ 0 → f w ≡ 0) → sum_over_hands f vs ≡ 0
  total_none g f [] all none = refl
  total_none g f (x ∷ xs) all none =
      let z : g x ≡ 0 = omega arith in let r : sum_over_hands g xs ≡ 0 = omega arith in
      omega (arith, none zero x refl z, total_none g f xs r (λ j w h. none (suc j) w h))

  -- where one view has the whole of a weight, and a view without weight has none of f, that view has the whole of f
  pub total_whole : (g f : View A → ℕ) (vs : List (View A)) (i : ℕ) (v : View A) → get_elem? vs i ≡ some v → sum_over_hands g vs ≡ g v → ((j : ℕ) (w : View A) → get_elem? vs j ≡ some w → g w ≡ 0 → f w ≡ 0) → sum_over_hands f vs ≡ f v
  total_whole g f [] i v e all none = absurd (some-ne-none v (sym e))
  total_whole g f (x ∷ xs) zero v e all none =
      let is = some-injective x v e in let a : g x ≡ g v = ap g is in let b : f x ≡ f v = ap f is in
      let r : sum_over_hands g xs ≡ 0 = omega arith in
      omega (arith, total_none g f xs r (λ j w h. none (suc j) w h))
  total_whole g f (x ∷ xs) (suc i) v e all none =
      let here = total_has g xs i v e in
      let z : g x ≡ 0 = omega arith in
      let y : f x ≡ 0 = none zero x refl z in
      let all' : sum_over_hands g xs ≡ g v = omega arith in
      omega (arith, total_whole g f xs i v e all' (λ j w h. none (suc j) w h))
