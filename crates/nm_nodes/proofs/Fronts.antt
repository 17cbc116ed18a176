-- The front of a list, taken one by one.
use Rattle.std.proofs.Common.{◌≡◌, ℕ, ◌+◌, ◌<◌, ◌≤◌, List, [], ◌∷◌, ◌++◌, length, take, drop, get_or, sym, ap, ◌∙◌, arith}
use Rattle.std.proofs.lemmas.List.{length-drop, take_all, drop_all, take_more, drop_more}

module _ {X : Type 0} (xs : List X) (k : ℕ) where
  -- one more is taken
  pub next_taken : (x : X) (rest : List X) → drop k xs ≡ x ∷ rest → (take (k + 1) xs ≡ take k xs ++ x ∷ []) × (drop (k + 1) xs ≡ rest)
  next_taken x rest e =
      let within : k < length xs = omega (arith, ap (λ (l : List X). length l) e, length-drop k xs) in
      let parts : get_or xs k x ∷ drop (k + 1) xs ≡ x ∷ rest = sym (drop_more xs k x within) ∙ e in
      (take_more xs k x within ∙ ap (λ (y : X). take k xs ++ y ∷ []) (ap (λ (l : List X). get_or l 0 x) parts), ap (λ (l : List X). drop 1 l) parts)

  -- nothing is left: the first n are all that there were
  pub none_left : (n : ℕ) → drop k xs ≡ [] → k ≤ n → (take k xs ≡ take n xs) × (drop n xs ≡ [])
  none_left n e within =
      let few : length xs ≤ k = omega (arith, ap (λ (l : List X). length l) e, length-drop k xs) in
      (take_all k xs few ∙ sym (take_all n xs (omega arith)), drop_all n xs (omega arith))
