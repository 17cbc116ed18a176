-- The front of a node's list, and those after it.
use Rattle.std.proofs.Common.{◌≡◌, ℕ, suc, ◌<◌, List, [], ◌∷◌, length, drop, refl, sym, ap, ◌∙◌}
use Rattle.std.specs.Prelude.{slice_index_or, slice_set}
use Rattle.std.proofs.Math.Seq.{drop-nil}
use Rattle.std.proofs.lemmas.List.{get_or-set_same, set-set}

drop_drop : (n : ℕ) (l : List ℕ) → drop n (drop 1 l) ≡ drop (suc n) l
drop_drop n [] = drop-nil n ∙ sym (drop-nil (suc n))
drop_drop n (x ∷ l) = refl

pub fronts_list : (free : List (List ℕ)) (target n : ℕ) (l : List ℕ) → target < length free
    → slice_set (slice_set free target (drop 1 l)) target (drop n (slice_index_or (slice_set free target (drop 1 l)) target [])) ≡ slice_set free target (drop (suc n) l)
fronts_list free target n l inside =
    set-set free target (drop 1 l) (drop n (slice_index_or (slice_set free target (drop 1 l)) target []))
    ∙ ap (λ (xs : List ℕ). slice_set free target xs) (ap (λ (xs : List ℕ). drop n xs) (get_or-set_same free target (drop 1 l) [] inside) ∙ drop_drop n l)
