-- Parts in order are joined in order.
use Rattle.std.proofs.Common.{◌≡◌, ℕ, ◌≤◌, ◌<◌, List, [], ◌∷◌, ◌++◌, sym, subst, arith}
use Rattle.std.specs.List.{AllByRecursion}
use Rattle.std.specs.List.Sorted.{IsStrictlySortedBy}
use Rattle.std.specs.Map.{keys_of}
use Rattle.std.specs.Ordering.{nat_cmp}
use Rattle.std.specs.Cmp.{nat_cmp_is, ranked}
use Rattle.std.specs.declared.cmp.Ordering.TheVariants.{Less}
use Rattle.std.proofs.Math.Decide.{dec_lt}
use Rattle.nm_types.specs.Map.{Map}
use Rattle.nm_tables.specs.definitions.Tree.{flatten, IsPart, AreParts}

-- what holds of the keys of two maps holds of the keys of both together
pub all-append : {V : Type 0} (P : ℕ → Type 0) (a b : Map ℕ V)
    → AllByRecursion P (keys_of a) → AllByRecursion P (keys_of b) → AllByRecursion P (keys_of (a ++ b))
all-append P [] b h k = k
all-append P (e ∷ a) b h k = (h.0, all-append P a b h.1 k)

module _ (number : ℕ → ℕ) (upwards : (a b : ℕ) → a ≤ b → number a ≤ number b) where
  keys_of_number : (i j : ℕ) (ks : List ℕ) → i < j → AllByRecursion (λ k. number k ≡ j) ks → AllByRecursion (λ k. i < number k) ks
  keys_of_number i j [] l h = tt
  keys_of_number i j (k ∷ ks) l h = let e : number k ≡ j = h.0 in (omega (arith, l, e), keys_of_number i j ks l h.1)

  below_by : (k q : ℕ) → number k < number q → Dec (k < q) → k < q
  below_by k q h (yes l) = l
  below_by k q h (no n) = let up = upwards q k (omega (arith, n)) in absurd (omega (arith, up, h))

  past_key : (k : ℕ) (ks : List ℕ) → AllByRecursion (λ q. number k < number q) ks → AllByRecursion (λ q. nat_cmp k q ≡ Less) ks
  past_key k [] h = tt
  past_key k (q ∷ ks) h =
      let below = below_by k q h.0 (dec_lt k q) in
      (sym (nat_cmp_is k q Less below), past_key k ks h.1)

module _ {V : Type 0} (number : ℕ → ℕ) (upwards : (a b : ℕ) → a ≤ b → number a ≤ number b) where
  -- the keys of later parts have greater numbers
  pub keys_above : (i : ℕ) (parts : Map ℕ (Map ℕ V)) → AllByRecursion (λ j. nat_cmp i j ≡ Less) (keys_of parts)
      → AllByRecursion (λ e. IsPart number e.0 e.1) parts → AllByRecursion (λ k. i < number k) (keys_of (flatten parts))
  keys_above i [] above all = tt
  keys_above i (c ∷ parts) above all =
      all-append (λ k. i < number k) c.1 (flatten parts)
      (keys_of_number number upwards i c.0 (keys_of c.1) (ranked i c.0 Less (sym above.0)) all.0.1)
      (keys_above i parts above.1 all.1)

  sorted-append : (i : ℕ) (a b : Map ℕ V) → IsPart number i a → IsStrictlySortedBy nat_cmp (keys_of b)
      → AllByRecursion (λ k. i < number k) (keys_of b) → IsStrictlySortedBy nat_cmp (keys_of (a ++ b))
  unfolding IsStrictlySortedBy
  sorted-append i [] b is s above = s
  sorted-append i (e ∷ a) b is s above =
      let n : number e.0 ≡ i = is.1.0 in
      let later = subst (λ i. AllByRecursion (λ k. i < number k) (keys_of b)) (sym n) above in (
        all-append (λ q. nat_cmp e.0 q ≡ Less) a b is.0.0 (past_key number upwards e.0 (keys_of b) later),
        sorted-append i a b (is.0.1, is.1.1) s above,
      )

  -- the entries of parts in order are in order
  pub sorted-joined : (parts : Map ℕ (Map ℕ V)) → AreParts number parts → IsStrictlySortedBy nat_cmp (keys_of (flatten parts))
  unfolding IsStrictlySortedBy
  sorted-joined [] are = tt
  sorted-joined (c ∷ parts) are =
      sorted-append c.0 c.1 (flatten parts) are.1.0 (sorted-joined parts (are.0.1, are.1.1)) (keys_above c.0 parts are.0.0 are.1.1)
