-- Jobs that go into slots and come out again.
use Rattle.std.proofs.Common.{◌≡◌, ℕ, zero, suc, Bool, true, false, set, get_or, ◌+◌, ◌<◌, ◌≤◌, List, [], ◌∷◌, ◌++◌, map, reverse, take, length, add-one, sym, refl, ap, ◌∙◌, arith, Option, Some, None}
use Rattle.std.proofs.lemmas.List.{reverse-append, append-nil, map-append, get_or-set_same, get_or-set_other}
use native.Mathlib.Decide.{ℕ_discrete}
use mathlib.Core.Option.{some, some-injective, some-ne-none}
use lib.ListN.{get_elem?}
use Rattle.nm_frames.specs.Job.{job_after_copy}
use Rattle.nm_frames.specs.declared.job.CopyJob.{CopyJob}

pub filled_rest : (fs gs : List Bool) (i len k : ℕ) → gs ≡ set fs i false → ((k : ℕ) → i ≤ k → k < len → get_or fs k false ≡ true) → i + 1 ≤ k → k < len → get_or gs k false ≡ true
filled_rest fs gs i len k e h lo hi = ap (λ (z : List Bool). get_or z k false) e ∙ (get_or-set_other fs i k false false (λ q. omega arith) ∙ h k (omega arith) hi)

gone_at : (fs : List Bool) (i k : ℕ) → i < length fs → ((k : ℕ) → k < i → get_or fs k false ≡ false) → k < i + 1 → Dec (k ≡ i) → get_or (set fs i false) k false ≡ false
gone_at fs i k in_fs h lt (yes e) = ap (λ (z : ℕ). get_or (set fs i false) z false) e ∙ get_or-set_same fs i false false in_fs
gone_at fs i k in_fs h lt (no ne) = get_or-set_other fs i k false false ne ∙ h k (omega arith)

pub filled_gone : (fs gs : List Bool) (i k : ℕ) → gs ≡ set fs i false → i < length fs → ((k : ℕ) → k < i → get_or fs k false ≡ false) → k < i + 1 → get_or gs k false ≡ false
filled_gone fs gs i k e in_fs h lt = ap (λ (z : List Bool). get_or z k false) e ∙ gone_at fs i k in_fs h lt (ℕ_discrete k i)

module _ {A : Type 0} where
  abbrev tail : List (Option (CopyJob A)) → List (Option (CopyJob A))
  tail [] = []
  tail (x ∷ xs) = xs

  some_only : (xs ys : List (CopyJob A)) (rs : List (Option (CopyJob A))) → map Some xs ≡ map Some ys ++ None ∷ rs → ⊥
  some_only [] [] rs e = cc
  some_only [] (y ∷ ys) rs e = cc
  some_only (x ∷ xs) [] rs e = cc
  some_only (x ∷ xs) (y ∷ ys) rs e = some_only xs ys rs (ap tail e)

  -- no slot is empty
  pub no_empty : (xs ys : List (CopyJob A)) (zs : List (Option (CopyJob A))) → map Some xs ≡ map Some ys ++ reverse (zs ++ None ∷ []) → ⊥
  no_empty xs ys zs e = some_only xs ys (reverse zs) (e ∙ ap (λ (l : List (Option (CopyJob A))). map Some ys ++ l) (reverse-append zs (None ∷ [])))

  pub same_jobs : (xs ys : List (CopyJob A)) → map Some xs ≡ map Some ys → ys ≡ xs
  same_jobs [] [] e = refl
  same_jobs [] (y ∷ ys) e = absurd (cc)
  same_jobs (x ∷ xs) [] e = absurd (cc)
  same_jobs (x ∷ xs) (y ∷ ys) e = let t = same_jobs xs ys (ap tail e) in let h : y ≡ x = cc in cc

  pub all_back : (xs ys : List (CopyJob A)) (zs : List (Option (CopyJob A))) → map Some xs ≡ map Some ys ++ reverse zs → length zs ≡ 0 → ys ≡ xs
  all_back xs ys [] e z = same_jobs xs ys (e ∙ append-nil (map Some ys))
  all_back xs ys (x ∷ zs) e z = absurd (omega arith)

  take_one_more : (l : List (Option (CopyJob A))) (i : ℕ) (a : Option (CopyJob A)) → get_elem? l i ≡ some a → take (suc i) l ≡ take i l ++ a ∷ []
  take_one_more [] i a e = absurd (some-ne-none a (sym e))
  take_one_more (x ∷ xs) zero a e = ap (λ (z : Option (CopyJob A)). z ∷ []) (some-injective x a e)
  take_one_more (x ∷ xs) (suc i) a e = ap (λ (z : List (Option (CopyJob A))). x ∷ z) (take_one_more xs i a e)

  pub one_more : (l : List (Option (CopyJob A))) (i : ℕ) (b : CopyJob A) (r s : List (CopyJob A)) → get_elem? l i ≡ some (Some b) → map Some r ≡ take i l → s ≡ r ++ b ∷ [] → map Some s ≡ take (i + 1) l
  one_more l i b r s at had now =
      ap (map Some) now ∙ (map-append Some r (b ∷ []) ∙ (ap (λ (z : List (Option (CopyJob A))). z ++ Some b ∷ []) had ∙ sym (rw (add-one) (take_one_more l i (Some b) at))))

  never : (js : List (CopyJob A)) (i : ℕ) → get_elem? (map Some js) i ≡ some None → ⊥
  never [] i e = some-ne-none None (sym e)
  never (x ∷ xs) zero e = let h : Some x ≡ None = some-injective (Some x) None e in cc
  never (x ∷ xs) (suc i) e = never xs i e

  -- no slot is empty
  pub some_there : (js : List (CopyJob A)) (l : List (Option (CopyJob A))) (i : ℕ) → l ≡ map Some js → get_elem? l i ≡ some None → ⊥
  some_there js l i e at = never js i (sym (ap (λ (z : List (Option (CopyJob A))). get_elem? z i) e) ∙ at)

  -- what each slot has
  pub each_is : (js : List (CopyJob A)) (l : List (Option (CopyJob A))) → length l ≡ length js → ((t : ℕ) (j : CopyJob A) → get_elem? js t ≡ some j → get_elem? l t ≡ some (Some (job_after_copy j))) → l ≡ map Some (map job_after_copy js)
  each_is [] [] e h = refl
  each_is [] (x ∷ xs) e h = absurd (omega arith)
  each_is (j ∷ js) [] e h = absurd (omega arith)
  each_is (j ∷ js) (x ∷ xs) e h =
      let a : x ≡ Some (job_after_copy j) = some-injective x (Some (job_after_copy j)) (h zero j refl) in
      let b = each_is js xs (omega arith) (λ t i at. h (suc t) i at) in
      cc
