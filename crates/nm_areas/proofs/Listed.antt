-- Lists that a walk over a map fills.
use Rattle.std.proofs.Common.{◌≡◌, List, [], ◌∷◌, ◌++◌, sym, ap, ◌∙◌, append_assoc, append-nil}

-- one more is listed ..
pub one_listed : {X : Type 0} (front now left rest all : List X) (x : X) → front ++ left ≡ all → left ≡ x ∷ rest → now ≡ front ++ x ∷ [] → now ++ rest ≡ all
one_listed front now left rest all x before step push = ap (λ xs. xs ++ rest) push ∙ append_assoc front (x ∷ []) rest ∙ ap (λ xs. front ++ xs) (sym step) ∙ before

-- .. until none is left
pub all_listed : {X : Type 0} (front left all : List X) → front ++ left ≡ all → left ≡ [] → front ≡ all
all_listed front left all before none = sym (append-nil front) ∙ sym (ap (λ xs. front ++ xs) none) ∙ before
