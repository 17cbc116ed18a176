-- Sets that are collected number by number.
use Rattle.std.proofs.Common.{arith, ◌≡◌, ℕ, ◌+◌, nat_lt, ◌&&◌, ◌||◌, Bool, true, false, List, refl, sym, ap, ◌∙◌, inl, inr, eq-eqb}
use Rattle.std.proofs.lemmas.Bool.{eqb-true, ne_eqb, cases_order}
use Rattle.std.specs.Prelude.{◌==◌}
use Rattle.std.specs.Ordering.{nat_cmp}
use Rattle.std.specs.BTreeSet.{insert_key}
use Rattle.nm_types.specs.Nodes.{is_in}
use Rattle.nm_types.proofs.Members.{is_in_insert}

-- a number is below the next one where it is below this one, or is it
below_next : (n k : ℕ) → nat_lt n (k + 1) ≡ ((k == n) || nat_lt n k)
below_next n k =
    elim (cases_order k n) [
      | inl e ↦ let here : (k == n) ≡ true = eq-eqb k n e in let below : nat_lt n (k + 1) ≡ true = grind (arith, e) in rw here below
      | inr o ↦ elim o [
        | inl lt ↦
            let other : (k == n) ≡ false = ne_eqb k n (λ e. omega (arith, e, lt)) in
            let here : nat_lt n k ≡ false = grind (arith, lt) in
            let next : nat_lt n (k + 1) ≡ false = grind (arith, lt) in
            rw other (rw here next)
        | inr gt ↦
            let other : (k == n) ≡ false = ne_eqb k n (λ e. omega (arith, e, gt)) in
            let here : nat_lt n k ≡ true = grind (arith, gt) in
            let next : nat_lt n (k + 1) ≡ true = grind (arith, gt) in
            rw other (rw here next)
      ]
    ]

or_and : (a b c : Bool) → (a ≡ true → c ≡ true) → (a || (b && c)) ≡ ((a || b) && c)
or_and true b c h = sym (h refl)
or_and false b c h = refl

and_not : (a b c : Bool) → (a ≡ true → c ≡ false) → (b && c) ≡ ((a || b) && c)
and_not true true c h = refl
and_not true false c h = sym (h refl)
and_not false b c h = refl

-- the numbers below one that pass a test, one number further, where that passes ..
pub one_in : (test : ℕ → Bool) (ns : List ℕ) (k : ℕ) → test k ≡ true → ((n : ℕ) → is_in ns n ≡ (nat_lt n k && test n)) → (n : ℕ) → is_in (insert_key nat_cmp ns k) n ≡ (nat_lt n (k + 1) && test n)
one_in test ns k there h n =
    is_in_insert ns k n
    ∙ ap (λ (b : Bool). (k == n) || b) (h n)
    ∙ or_and (k == n) (nat_lt n k) (test n) (λ e. ap test (sym (eqb-true k n e)) ∙ there)
    ∙ ap (λ (b : Bool). b && test n) (sym (below_next n k))

-- .. and where it does not
pub one_out : (test : ℕ → Bool) (ns : List ℕ) (k : ℕ) → test k ≡ false → ((n : ℕ) → is_in ns n ≡ (nat_lt n k && test n)) → (n : ℕ) → is_in ns n ≡ (nat_lt n (k + 1) && test n)
one_out test ns k there h n =
    h n
    ∙ and_not (k == n) (nat_lt n k) (test n) (λ e. ap test (sym (eqb-true k n e)) ∙ there)
    ∙ ap (λ (b : Bool). b && test n) (sym (below_next n k))
