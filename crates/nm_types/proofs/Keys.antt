-- Keys of a map after a change, and what holds of all its entries.
use Rattle.std.proofs.Common.{◌≡◌, suc, ◌≤◌, length, arith, List, [], ◌∷◌, true, false, cond, refl, sym, ap, subst, ◌∙◌}
use Rattle.std.specs.Prelude.{Some, IsSome, ◌||◌}
use Rattle.std.specs.Option.{is_some}
use Rattle.std.specs.List.{AllByRecursion, list_any}
use Rattle.std.specs.List.Sorted.{IsStrictlySortedBy}
use Rattle.std.specs.Map.{keys_of}
use Rattle.std.specs.Cmp.{IsTotalOrder}
use Rattle.std.specs.Ordering.{is_eq, match_ordering, ordering_reverse}
use Rattle.std.specs.BTreeMap.{is_at}
use Rattle.std.specs.declared.cmp.Ordering.{Ordering}
use Rattle.std.specs.declared.cmp.Ordering.TheVariants.{Less, Equal, Greater}
use Rattle.nm_types.specs.Map.{Map, get, set, replace, without, with_values}

all_above : {K : Type 0} {R : K → K → Ordering} → IsTotalOrder R → (k e : K) (ks : List K) → R k e ≡ Less → AllByRecursion (λ y. R e y ≡ Less) ks → AllByRecursion (λ y. R k y ≡ Less) ks
all_above o k e [] p h = tt
all_above o k e (x ∷ ks) p h = (o.trans k e x p h.0, all_above o k e ks p h.1)

module _ {K V : Type 0} (R : K → K → Ordering) where
  some_any : (m : Map K V) (k : K) → is_some (get R m k) ≡ list_any (is_at (R k)) (keys_of m)
  some_any [] k = refl
  some_any (e ∷ m) k =
      elim (is_eq (R k e.0)) as (λ b. is_some (cond b (Some e.1) (get R m k)) ≡ (b || list_any (is_at (R k)) (keys_of m))) [
        | true ↦ refl
        | false ↦ some_any m k
      ]

  pub keys-replace : (m : Map K V) (k : K) (v : V) → keys_of (replace R m k v) ≡ keys_of m
  keys-replace [] k v = refl
  keys-replace (e ∷ m) k v =
      elim (is_eq (R k e.0)) as (λ b. keys_of (cond b ((e.0, v) ∷ m) (e ∷ replace R m k v)) ≡ keys_of (e ∷ m)) [
        | true ↦ refl
        | false ↦ ap (λ ks. e.0 ∷ ks) (keys-replace m k v)
      ]

  -- what holds of all values holds of them and another one
  pub All-replace : (P : V → Type 0) (m : Map K V) (k : K) (v : V) → AllByRecursion (λ e. P e.1) m → P v → AllByRecursion (λ e. P e.1) (replace R m k v)
  All-replace P [] k v h p = tt
  All-replace P (e ∷ m) k v h p =
      elim (is_eq (R k e.0)) as (λ b. AllByRecursion (λ e. P e.1) (cond b ((e.0, v) ∷ m) (e ∷ replace R m k v))) [
        | true ↦ (p, h.1)
        | false ↦ (h.0, All-replace P m k v h.1 p)
      ]

  pub All-set : (P : V → Type 0) (m : Map K V) (k : K) (v : V) → AllByRecursion (λ e. P e.1) m → P v → AllByRecursion (λ e. P e.1) (set R m k v)
  All-set P [] k v h p = (p, tt)
  All-set P (e ∷ m) k v h p =
      elim (R k e.0) as (λ r. AllByRecursion (λ e. P e.1) (match_ordering r ((k, v) ∷ e ∷ m) ((e.0, v) ∷ m) (e ∷ set R m k v))) [
        | Less ↦ (p, h)
        | Equal ↦ (p, h.1)
        | Greater ↦ (h.0, All-set P m k v h.1 p)
      ]

  -- it holds of the value that is found
  pub All-get : (P : V → Type 0) (m : Map K V) (k : K) (v : V) → AllByRecursion (λ e. P e.1) m → get R m k ≡ Some v → P v
  All-get P [] k v h g = cc
  All-get P (e ∷ m) k v h g =
      elim (is_eq (R k e.0)) as (λ b. cond b (Some e.1) (get R m k) ≡ Some v → P v) [
        | true ↦ λ g. let is : e.1 ≡ v = cc in subst P is h.0
        | false ↦ λ g. All-get P m k v h.1 g
      ] g

  -- keys that all have the property, and one more
  keys_all : (P : K → Type 0) (m : Map K V) (k : K) (v : V) → AllByRecursion P (keys_of m) → P k → AllByRecursion P (keys_of (set R m k v))
  keys_all P [] k v h p = (p, tt)
  keys_all P (e ∷ m) k v h p =
      elim (R k e.0) as (λ r. AllByRecursion P (keys_of (match_ordering r ((k, v) ∷ e ∷ m) ((e.0, v) ∷ m) (e ∷ set R m k v)))) [
        | Less ↦ (p, h)
        | Equal ↦ h
        | Greater ↦ (h.0, keys_all P m k v h.1 p)
      ]

  pub sorted-set : IsTotalOrder R → (m : Map K V) (k : K) (v : V) → IsStrictlySortedBy R (keys_of m) → IsStrictlySortedBy R (keys_of (set R m k v))
  unfolding IsStrictlySortedBy
  sorted-set o [] k v s = (tt, tt)
  sorted-set o (e ∷ m) k v s =
      elim (R k e.0) as (λ r. R k e.0 ≡ r → IsStrictlySortedBy R (keys_of (match_ordering r ((k, v) ∷ e ∷ m) ((e.0, v) ∷ m) (e ∷ set R m k v)))) [
        | Less ↦ λ r. ((r, all_above o k e.0 (keys_of m) r s.0), s)
        | Equal ↦ λ r. s
        | Greater ↦ λ r. (keys_all (λ y. R e.0 y ≡ Less) m k v s.0 (o.antisymm e.0 k ∙ ap ordering_reverse r), sorted-set o m k v s.1)
      ] refl

  all_without : (P : K → Type 0) (m : Map K V) (k : K) → AllByRecursion P (keys_of m) → AllByRecursion P (keys_of (without R m k))
  all_without P [] k h = tt
  all_without P (e ∷ m) k h =
      elim (is_eq (R k e.0)) as (λ b. AllByRecursion P (keys_of (cond b m (e ∷ without R m k)))) [ true ↦ h.1 | false ↦ (h.0, all_without P m k h.1) ]

  pub sorted-without : (m : Map K V) (k : K) → IsStrictlySortedBy R (keys_of m) → IsStrictlySortedBy R (keys_of (without R m k))
  unfolding IsStrictlySortedBy
  sorted-without [] k s = tt
  sorted-without (e ∷ m) k s =
      elim (is_eq (R k e.0)) as (λ b. IsStrictlySortedBy R (keys_of (cond b m (e ∷ without R m k)))) [
        | true ↦ s.1
        | false ↦ (all_without (λ y. R e.0 y ≡ Less) m k s.0, sorted-without m k s.1)
      ]

-- how many entries a map has after a change
module _ {K V : Type 0} (R : K → K → Ordering) where
  pub as_many-replace : (m : Map K V) (k : K) (v : V) → length (replace R m k v) ≡ length m
  as_many-replace [] k v = refl
  as_many-replace (e ∷ m) k v =
      elim (is_eq (R k e.0)) as (λ b. length (cond b ((e.0, v) ∷ m) (e ∷ replace R m k v)) ≡ suc (length m)) [
        | true ↦ refl
        | false ↦ ap suc (as_many-replace m k v)
      ]

  pub few-set : (m : Map K V) (k : K) (v : V) → length (set R m k v) ≤ suc (length m)
  few-set [] k v = omega arith
  few-set (e ∷ m) k v =
      let rest = few-set m k v in
      elim (R k e.0) as (λ o. length (match_ordering o ((k, v) ∷ e ∷ m) ((e.0, v) ∷ m) (e ∷ set R m k v)) ≤ suc (suc (length m))) [
        | Less ↦ omega arith
        | Equal ↦ omega arith
        | Greater ↦ omega (arith, rest)
      ]

  pub few-without : (m : Map K V) (k : K) → length (without R m k) ≤ length m
  few-without [] k = omega arith
  few-without (e ∷ m) k =
      let rest = few-without m k in
      elim (is_eq (R k e.0)) as (λ b. length (cond b m (e ∷ without R m k)) ≤ suc (length m)) [
        | true ↦ omega arith
        | false ↦ omega (arith, rest)
      ]

  -- what holds of all values holds of those that are left
  pub All-without : (P : V → Type 0) (m : Map K V) (k : K) → AllByRecursion (λ e. P e.1) m → AllByRecursion (λ e. P e.1) (without R m k)
  All-without P [] k h = tt
  All-without P (e ∷ m) k h = elim (is_eq (R k e.0)) as (λ b. AllByRecursion (λ e. P e.1) (cond b m (e ∷ without R m k))) [ true ↦ h.1 | false ↦ (h.0, All-without P m k h.1) ]

pub as_many-values : {K V W : Type 0} (F : K → V → W) (m : Map K V) → length (with_values F m) ≡ length m
as_many-values F [] = refl
as_many-values F (e ∷ m) = ap suc (as_many-values F m)

module _ {K V W : Type 0} (R : K → K → Ordering) where
  pub some_from_keys : (m : Map K V) (n : Map K W) (k : K) → keys_of m ≡ keys_of n → IsSome (get R m k) → IsSome (get R n k)
  some_from_keys m n k e h = some_any R n k ∙ sym (ap (list_any (is_at (R k))) e) ∙ sym (some_any R m k) ∙ h

  pub keys_same-set : (m : Map K V) (n : Map K W) (k : K) (v : V) (w : W) → keys_of m ≡ keys_of n → keys_of (set R m k v) ≡ keys_of (set R n k w)
  keys_same-set [] [] k v w e = refl
  keys_same-set [] (f ∷ n) k v w e = cc
  keys_same-set (x ∷ m) [] k v w e = cc
  keys_same-set (x ∷ m) (f ∷ n) k v w e =
      let head : x.0 ≡ f.0 = cc in let tail : keys_of m ≡ keys_of n = cc in
      elim (R k x.0) as (λ r. R k x.0 ≡ r → keys_of (match_ordering r ((k, v) ∷ x ∷ m) ((x.0, v) ∷ m) (x ∷ set R m k v)) ≡ keys_of (set R (f ∷ n) k w)) [
        | Less ↦ λ r. ap (λ ks. k ∷ ks) e ∙ ap (λ r. keys_of (match_ordering r ((k, w) ∷ f ∷ n) ((f.0, w) ∷ n) (f ∷ set R n k w))) (sym r ∙ ap (R k) head)
        | Equal ↦ λ r. e ∙ ap (λ r. keys_of (match_ordering r ((k, w) ∷ f ∷ n) ((f.0, w) ∷ n) (f ∷ set R n k w))) (sym r ∙ ap (R k) head)
        | Greater ↦ λ r.
            ap (λ y. y ∷ keys_of (set R m k v)) head ∙ ap (λ ks. f.0 ∷ ks) (keys_same-set m n k v w tail)
            ∙ ap (λ r. keys_of (match_ordering r ((k, w) ∷ f ∷ n) ((f.0, w) ∷ n) (f ∷ set R n k w))) (sym r ∙ ap (R k) head)
      ] refl

  pub keys_same-without : (m : Map K V) (n : Map K W) (k : K) → keys_of m ≡ keys_of n → keys_of (without R m k) ≡ keys_of (without R n k)
  keys_same-without [] [] k e = refl
  keys_same-without [] (f ∷ n) k e = cc
  keys_same-without (x ∷ m) [] k e = cc
  keys_same-without (x ∷ m) (f ∷ n) k e =
      let head : x.0 ≡ f.0 = cc in let tail : keys_of m ≡ keys_of n = cc in
      elim (is_eq (R k x.0)) as (λ b. is_eq (R k x.0) ≡ b → keys_of (cond b m (x ∷ without R m k)) ≡ keys_of (without R (f ∷ n) k)) [
        | true ↦ λ b. tail ∙ ap (λ c. keys_of (cond c n (f ∷ without R n k))) (sym b ∙ ap (λ y. is_eq (R k y)) head)
        | false ↦ λ b.
            ap (λ y. y ∷ keys_of (without R m k)) head ∙ ap (λ ks. f.0 ∷ ks) (keys_same-without m n k tail)
            ∙ ap (λ c. keys_of (cond c n (f ∷ without R n k))) (sym b ∙ ap (λ y. is_eq (R k y)) head)
      ] refl
