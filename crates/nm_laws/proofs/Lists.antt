-- Items of a list, and those before and after them.
use Rattle.std.proofs.Common.{◌≡◌, ℕ, suc, zero, ◌+◌, ◌-◌, ◌<◌, List, [], ◌∷◌, ◌++◌, length, take, drop, sym, ap, ◌∙◌, arith}
use Rattle.std.specs.Prelude.{Some, slice_get, slice_index, slice_index_or}
use Rattle.std.proofs.Math.Seq.{drop-cons}
use Rattle.nm_model.specs.definitions.Memory.{stretch_of}

take_from : {A : Type 0} (xs : List A) (k : ℕ) (x : A) → slice_get xs k ≡ Some x → take (suc k) xs ≡ take k xs ++ x ∷ []
take_from [] zero x e = cc
take_from [] (suc k) x e = cc
take_from (y ∷ xs) zero x e = let same : y ≡ x = cc in ap (λ z. z ∷ []) same
take_from (y ∷ xs) (suc k) x e = ap (λ zs. y ∷ zs) (take_from xs k x e)

pub got_take : {A : Type 0} (xs : List A) (k : ℕ) (x : A) → slice_get xs k ≡ Some x → take (k + 1) xs ≡ take k xs ++ x ∷ []
got_take xs k x e =
    let n : k + 1 ≡ suc k = omega arith in
    ap (λ n. take n xs) n ∙ take_from xs k x e

pub drop_item : {A : Type 0} (xs : List A) (k : ℕ) (x : A) → k < length xs → x ≡ slice_index_or xs k x → drop k xs ≡ x ∷ drop (k + 1) xs
drop_item xs k x lt is =
    let n : suc k ≡ k + 1 = omega arith in
    drop-cons xs k x lt ∙ ap (λ y. y ∷ drop (suc k) xs) (sym is) ∙ ap (λ n. x ∷ drop n xs) n

-- the bytes from one place up to another
pub stretch_step : (bytes : List ℕ) (k end : ℕ) → k < end → stretch_of bytes k (end - k) ≡ slice_index bytes k ∷ stretch_of bytes (k + 1) (end - (k + 1))
stretch_step bytes k end lt =
    let n : end - k ≡ suc (end - (k + 1)) = omega (arith, lt) in
    ap (λ n. stretch_of bytes k n) n
