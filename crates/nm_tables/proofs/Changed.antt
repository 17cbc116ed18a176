-- Parts that are joined, and one of them changed.
use Rattle.std.proofs.Common.{◌≡◌, ℕ, ◌≤◌, [], ◌∷◌, true, false, cond, refl, sym, ap, subst, ◌∙◌}
use Rattle.std.specs.Prelude.{Some, None, IsSome}
use Rattle.std.specs.List.{AllByRecursion}
use Rattle.std.specs.List.Sorted.{IsStrictlySortedBy}
use Rattle.std.specs.Map.{keys_of}
use Rattle.std.specs.Ordering.{nat_cmp, is_eq, match_ordering}
use Rattle.std.specs.Cmp.{nat_cmp_total}
use Rattle.std.specs.declared.cmp.Ordering.TheVariants.{Less, Equal, Greater}
use Rattle.std.proofs.lemmas.Map.Lookups.{exact_unsigned}
use Rattle.nm_types.specs.Map.{Map, get, set, replace, without}
use Rattle.nm_types.proofs.Cases.{none_some, some_is}
use Rattle.nm_types.proofs.Maps.{get-set, get-replace, replace_is_set}
use Rattle.nm_types.proofs.Keys.{sorted-set, sorted-without, keys-replace}
use Rattle.nm_tables.specs.definitions.Tree.{flatten, IsPart, AreParts}
use Rattle.nm_tables.specs.laws.Orders.{sorted-joined}
use Rattle.nm_tables.proofs.Joined.{less_equal, greater_equal, same_number, is_same, one_or_other, alike, get-without, at_once, at_other, get-joined, get-joined_none}

module _ {V : Type 0} where
  pub all-set : (P : ℕ → Type 0) (m : Map ℕ V) (k : ℕ) (v : V) → AllByRecursion P (keys_of m) → P k → AllByRecursion P (keys_of (set nat_cmp m k v))
  all-set P [] k v h p = (p, tt)
  all-set P (e ∷ m) k v h p =
      elim (nat_cmp k e.0) as (λ r. AllByRecursion P (keys_of (match_ordering r ((k, v) ∷ e ∷ m) ((e.0, v) ∷ m) (e ∷ set nat_cmp m k v)))) [
        | Less ↦ (p, h)
        | Equal ↦ h
        | Greater ↦ (h.0, all-set P m k v h.1 p)
      ]

  pub all-without : (P : ℕ → Type 0) (m : Map ℕ V) (k : ℕ) → AllByRecursion P (keys_of m) → AllByRecursion P (keys_of (without nat_cmp m k))
  all-without P [] k h = tt
  all-without P (e ∷ m) k h =
      elim (is_eq (nat_cmp k e.0)) as (λ b. AllByRecursion P (keys_of (cond b m (e ∷ without nat_cmp m k)))) [ true ↦ h.1 | false ↦ (h.0, all-without P m k h.1) ]

  -- what holds of each entry with its key holds of a part that is found
  pub all-found : (P : ℕ → V → Type 0) (m : Map ℕ V) (k : ℕ) (v : V) → AllByRecursion (λ e. P e.0 e.1) m → get nat_cmp m k ≡ Some v → P k v
  all-found P [] k v h g = absurd (none_some g)
  all-found P (e ∷ m) k v h g =
      elim (nat_cmp k e.0) as (λ r. nat_cmp k e.0 ≡ r → cond (is_eq r) (Some e.1) (get nat_cmp m k) ≡ Some v → P k v) [
        | Less ↦ λ r g. all-found P m k v h.1 g
        | Equal ↦ λ r g. subst (λ k. P k v) (sym (is_same k e.0 r)) (subst (P e.0) (some_is g) h.0)
        | Greater ↦ λ r g. all-found P m k v h.1 g
      ] refl g

  pub all-replaced : (P : ℕ → V → Type 0) (m : Map ℕ V) (k : ℕ) (v : V) → AllByRecursion (λ e. P e.0 e.1) m → P k v → AllByRecursion (λ e. P e.0 e.1) (replace nat_cmp m k v)
  all-replaced P [] k v h p = tt
  all-replaced P (e ∷ m) k v h p =
      elim (nat_cmp k e.0) as (λ r. nat_cmp k e.0 ≡ r → AllByRecursion (λ e. P e.0 e.1) (cond (is_eq r) ((e.0, v) ∷ m) (e ∷ replace nat_cmp m k v))) [
        | Less ↦ λ r. (h.0, all-replaced P m k v h.1 p)
        | Equal ↦ λ r. (subst (λ k. P k v) (is_same k e.0 r) p, h.1)
        | Greater ↦ λ r. (h.0, all-replaced P m k v h.1 p)
      ] refl

  pub all-put : (P : ℕ → V → Type 0) (m : Map ℕ V) (k : ℕ) (v : V) → AllByRecursion (λ e. P e.0 e.1) m → P k v → AllByRecursion (λ e. P e.0 e.1) (set nat_cmp m k v)
  all-put P [] k v h p = (p, tt)
  all-put P (e ∷ m) k v h p =
      elim (nat_cmp k e.0) as (λ r. nat_cmp k e.0 ≡ r → AllByRecursion (λ e. P e.0 e.1) (match_ordering r ((k, v) ∷ e ∷ m) ((e.0, v) ∷ m) (e ∷ set nat_cmp m k v))) [
        | Less ↦ λ r. (p, h)
        | Equal ↦ λ r. (subst (λ k. P k v) (is_same k e.0 r) p, h.1)
        | Greater ↦ λ r. (h.0, all-put P m k v h.1 p)
      ] refl

  pub all-taken : (P : ℕ → V → Type 0) (m : Map ℕ V) (k : ℕ) → AllByRecursion (λ e. P e.0 e.1) m → AllByRecursion (λ e. P e.0 e.1) (without nat_cmp m k)
  all-taken P [] k h = tt
  all-taken P (e ∷ m) k h =
      elim (is_eq (nat_cmp k e.0)) as (λ b. AllByRecursion (λ e. P e.0 e.1) (cond b m (e ∷ without nat_cmp m k))) [ true ↦ h.1 | false ↦ (h.0, all-taken P m k h.1) ]

  -- a part after a change is a part
  pub part-set : (number : ℕ → ℕ) (i : ℕ) (m : Map ℕ V) (k : ℕ) (v : V) → IsPart number i m → number k ≡ i → IsPart number i (set nat_cmp m k v)
  part-set number i m k v is n = (sorted-set nat_cmp nat_cmp_total m k v is.0, all-set (λ k. number k ≡ i) m k v is.1 n)

  pub part-without : (number : ℕ → ℕ) (i : ℕ) (m : Map ℕ V) (k : ℕ) → IsPart number i m → IsPart number i (without nat_cmp m k)
  part-without number i m k is = (sorted-without nat_cmp m k is.0, all-without (λ k. number k ≡ i) m k is.1)

  pub get-put : (m : Map ℕ V) (k : ℕ) (v : V) → get nat_cmp (set nat_cmp m k v) k ≡ Some v
  get-put m k v = get-set nat_cmp_total m k v k ∙ at_once k k (Some v) (get nat_cmp m k) refl

  -- what was put or replaced is there
  pub set_some : (m : Map ℕ V) (k : ℕ) (v : V) → set nat_cmp m k v ≡ [] → ⊥
  set_some m k v none = none_some (ap (λ m. get nat_cmp m k) (sym none) ∙ get-put m k v)

  no_keys : (m : Map ℕ V) → keys_of m ≡ [] → m ≡ []
  no_keys [] e = refl
  no_keys (x ∷ m) e = let no : ⊥ = cc in absurd no

  pub replace_some : (m : Map ℕ V) (k : ℕ) (v : V) → (m ≡ [] → ⊥) → replace nat_cmp m k v ≡ [] → ⊥
  replace_some m k v some none = some (no_keys m (sym (keys-replace nat_cmp m k v) ∙ ap keys_of none))

  pub get-put_other : (m : Map ℕ V) (k : ℕ) (v : V) (q : ℕ) → (q ≡ k → ⊥) → get nat_cmp (set nat_cmp m k v) q ≡ get nat_cmp m q
  get-put_other m k v q apart = get-set nat_cmp_total m k v q ∙ at_other q k (Some v) (get nat_cmp m q) apart

module _ {V : Type 0} (number : ℕ → ℕ) (upwards : (a b : ℕ) → a ≤ b → number a ≤ number b) where
  -- where the part is the same, it is joined the same
  joined-same : (parts after : Map ℕ (Map ℕ V)) (q : ℕ) → AreParts number parts → AreParts number after → get nat_cmp after (number q) ≡ get nat_cmp parts (number q) → get nat_cmp (flatten after) q ≡ get nat_cmp (flatten parts) q
  joined-same parts after q are then same =
      elim (get nat_cmp parts (number q)) as (λ o. get nat_cmp parts (number q) ≡ o → get nat_cmp (flatten after) q ≡ get nat_cmp (flatten parts) q) [
        | None ↦ λ o. get-joined_none number upwards after q then.1 (same ∙ o) ∙ sym (get-joined_none number upwards parts q are.1 o)
        | Some p ↦ λ o. get-joined number upwards after q p then (same ∙ o) ∙ sym (get-joined number upwards parts q p are o)
      ] refl

  -- other parts, of which one is changed or new, are joined to a map that has its keys changed
  joined-changed : (parts after : Map ℕ (Map ℕ V)) (i : ℕ) (part new : Map ℕ V) → AreParts number parts → AreParts number after → get nat_cmp after i ≡ Some part
      → ((j : ℕ) → (j ≡ i → ⊥) → get nat_cmp after j ≡ get nat_cmp parts j) → IsStrictlySortedBy nat_cmp (keys_of new)
      → ((q : ℕ) → number q ≡ i → get nat_cmp new q ≡ get nat_cmp part q) → ((q : ℕ) → (number q ≡ i → ⊥) → get nat_cmp new q ≡ get nat_cmp (flatten parts) q) → flatten after ≡ new
  joined-changed parts after i part new are then found others sorted here there =
      let elsewhere = λ (q : ℕ) (apart : number q ≡ i → ⊥). joined-same parts after q are then (others (number q) apart) in
      alike (flatten after) new (sorted-joined number upwards after then) sorted (λ q.
      elim (nat_cmp (number q) i) as (λ r. nat_cmp (number q) i ≡ r → get nat_cmp (flatten after) q ≡ get nat_cmp new q) [
        | Less ↦ λ r. let apart : number q ≡ i → ⊥ = λ z. less_equal (sym r ∙ same_number (number q) i z) in elsewhere q apart ∙ sym (there q apart)
        | Equal ↦ λ r. let z = is_same (number q) i r in
            get-joined number upwards after q part then (subst (λ n. get nat_cmp after n ≡ Some part) (sym z) found) ∙ sym (here q z)
        | Greater ↦ λ r. let apart : number q ≡ i → ⊥ = λ z. greater_equal (sym r ∙ same_number (number q) i z) in elsewhere q apart ∙ sym (there q apart)
      ] refl)

  at_part : (parts : Map ℕ (Map ℕ V)) (i : ℕ) (part : Map ℕ V) (q : ℕ) → AreParts number parts → get nat_cmp parts i ≡ Some part → number q ≡ i → get nat_cmp (flatten parts) q ≡ get nat_cmp part q
  at_part parts i part q are found z = get-joined number upwards parts q part are (subst (λ n. get nat_cmp parts n ≡ Some part) (sym z) found)

  module _ (parts : Map ℕ (Map ℕ V)) (are : AreParts number parts) (v : ℕ) where
    -- a part that is there is changed
    changed : (part new : Map ℕ V) → IsSome (get nat_cmp parts (number v)) → IsPart number (number v) part → IsStrictlySortedBy nat_cmp (keys_of new)
        → ((q : ℕ) → number q ≡ number v → get nat_cmp new q ≡ get nat_cmp part q) → ((q : ℕ) → (q ≡ v → ⊥) → get nat_cmp new q ≡ get nat_cmp (flatten parts) q) → flatten (replace nat_cmp parts (number v) part) ≡ new
    changed part new there is sorted here others =
        joined-changed parts (replace nat_cmp parts (number v) part) (number v) part new are
        (subst (IsStrictlySortedBy nat_cmp) (sym (keys-replace nat_cmp parts (number v) part)) are.0, all-replaced (IsPart number) parts (number v) part are.1 is)
        (get-replace nat_cmp_total exact_unsigned parts (number v) part (number v) there ∙ at_once (number v) (number v) (Some part) (get nat_cmp parts (number v)) refl)
        (λ j apart. get-replace nat_cmp_total exact_unsigned parts (number v) part j there ∙ at_other (number v) j (Some part) (get nat_cmp parts j) (λ z. apart (sym z)))
        sorted here (λ q apart. others q (λ z. apart (ap number z)))

    pub joined-set : (x : V) (part : Map ℕ V) → get nat_cmp parts (number v) ≡ Some part → flatten (replace nat_cmp parts (number v) (set nat_cmp part v x)) ≡ set nat_cmp (flatten parts) v x
    joined-set x part found =
        changed (set nat_cmp part v x) (set nat_cmp (flatten parts) v x) (subst IsSome (sym found) refl)
        (part-set number (number v) part v x (all-found (IsPart number) parts (number v) part are.1 found) refl)
        (sorted-set nat_cmp nat_cmp_total (flatten parts) v x (sorted-joined number upwards parts are))
        (λ q z. get-set nat_cmp_total (flatten parts) v x q ∙ ap (cond (is_eq (nat_cmp q v)) (Some x)) (at_part parts (number v) part q are found z) ∙ sym (get-set nat_cmp_total part v x q))
        (λ q apart. get-put_other (flatten parts) v x q apart)

    pub joined-replace : (x : V) (part : Map ℕ V) → get nat_cmp parts (number v) ≡ Some part → IsSome (get nat_cmp (flatten parts) v) → flatten (replace nat_cmp parts (number v) (replace nat_cmp part v x)) ≡ replace nat_cmp (flatten parts) v x
    joined-replace x part found there =
        let is = all-found (IsPart number) parts (number v) part are.1 found in
        ap (λ p. flatten (replace nat_cmp parts (number v) p)) (replace_is_set nat_cmp_total exact_unsigned part v x is.0 (subst IsSome (at_part parts (number v) part v are found refl) there))
        ∙ joined-set x part found ∙ sym (replace_is_set nat_cmp_total exact_unsigned (flatten parts) v x (sorted-joined number upwards parts are) there)

    pub joined-without : (part : Map ℕ V) → get nat_cmp parts (number v) ≡ Some part → flatten (replace nat_cmp parts (number v) (without nat_cmp part v)) ≡ without nat_cmp (flatten parts) v
    joined-without part found =
        let is = all-found (IsPart number) parts (number v) part are.1 found in
        let sorted = sorted-joined number upwards parts are in
        changed (without nat_cmp part v) (without nat_cmp (flatten parts) v) (subst IsSome (sym found) refl)
        (part-without number (number v) part v is)
        (sorted-without nat_cmp (flatten parts) v sorted)
        (λ q z. get-without (flatten parts) v q sorted ∙ ap (cond (is_eq (nat_cmp v q)) None) (at_part parts (number v) part q are found z) ∙ sym (get-without part v q is.0))
        (λ q apart. get-without (flatten parts) v q sorted ∙ at_other v q None (get nat_cmp (flatten parts) q) (λ z. apart (sym z)))

    -- if the part is not there, nothing is removed
    pub without-nothing : get nat_cmp parts (number v) ≡ None → without nat_cmp (flatten parts) v ≡ flatten parts
    without-nothing none =
        let sorted = sorted-joined number upwards parts are in
        alike (without nat_cmp (flatten parts) v) (flatten parts) (sorted-without nat_cmp (flatten parts) v sorted) sorted (λ q.
        elim (nat_cmp v q) as (λ r. nat_cmp v q ≡ r → get nat_cmp (without nat_cmp (flatten parts) v) q ≡ get nat_cmp (flatten parts) q) [
          | Less ↦ λ r. get-without (flatten parts) v q sorted ∙ ap (λ r. cond (is_eq r) None (get nat_cmp (flatten parts) q)) r
          | Equal ↦ λ r. get-without (flatten parts) v q sorted ∙ ap (λ r. cond (is_eq r) None (get nat_cmp (flatten parts) q)) r
              ∙ sym (subst (λ q. get nat_cmp (flatten parts) q ≡ None) (is_same v q r) (get-joined_none number upwards parts v are.1 none))
          | Greater ↦ λ r. get-without (flatten parts) v q sorted ∙ ap (λ r. cond (is_eq r) None (get nat_cmp (flatten parts) q)) r
        ] refl)

    -- a part that has nothing else is removed
    pub joined-gone : (part : Map ℕ V) → get nat_cmp parts (number v) ≡ Some part → without nat_cmp part v ≡ [] → flatten (without nat_cmp parts (number v)) ≡ without nat_cmp (flatten parts) v
    joined-gone part found only =
        let i = number v in
        let is = all-found (IsPart number) parts i part are.1 found in
        let sorted = sorted-joined number upwards parts are in
        let then : AreParts number (without nat_cmp parts i) = (sorted-without nat_cmp parts i are.0, all-taken (IsPart number) parts i are.1) in
        alike (flatten (without nat_cmp parts i)) (without nat_cmp (flatten parts) v) (sorted-joined number upwards (without nat_cmp parts i) then) (sorted-without nat_cmp (flatten parts) v sorted) (λ q.
        elim (one_or_other (number q) i) as (λ _. get nat_cmp (flatten (without nat_cmp parts i)) q ≡ get nat_cmp (without nat_cmp (flatten parts) v) q) [
          | yes z ↦
              get-joined_none number upwards (without nat_cmp parts i) q then.1 (get-without parts i (number q) are.0 ∙ at_once i (number q) None (get nat_cmp parts (number q)) (sym z))
              ∙ sym (get-without (flatten parts) v q sorted ∙ ap (cond (is_eq (nat_cmp v q)) None) (at_part parts i part q are found z) ∙ sym (get-without part v q is.0) ∙ ap (λ m. get nat_cmp m q) only)
          | no n ↦
              joined-same parts (without nat_cmp parts i) q are then (get-without parts i (number q) are.0 ∙ at_other i (number q) None (get nat_cmp parts (number q)) (λ z. n (sym z)))
              ∙ sym (get-without (flatten parts) v q sorted ∙ at_other v q None (get nat_cmp (flatten parts) q) (λ z. n (ap number (sym z))))
        ])

    -- a new part with one entry
    pub joined-new : (x : V) → get nat_cmp parts (number v) ≡ None → flatten (set nat_cmp parts (number v) ((v, x) ∷ [])) ≡ set nat_cmp (flatten parts) v x
    unfolding IsStrictlySortedBy
    joined-new x none =
        let one : IsPart number (number v) ((v, x) ∷ []) = ((tt, tt), (refl, tt)) in
        joined-changed parts (set nat_cmp parts (number v) ((v, x) ∷ [])) (number v) ((v, x) ∷ []) (set nat_cmp (flatten parts) v x) are
        (sorted-set nat_cmp nat_cmp_total parts (number v) ((v, x) ∷ []) are.0, all-put (IsPart number) parts (number v) ((v, x) ∷ []) are.1 one)
        (get-put parts (number v) ((v, x) ∷ []))
        (λ j apart. get-put_other parts (number v) ((v, x) ∷ []) j apart)
        (sorted-set nat_cmp nat_cmp_total (flatten parts) v x (sorted-joined number upwards parts are))
        (λ q z. get-set nat_cmp_total (flatten parts) v x q
        ∙ ap (cond (is_eq (nat_cmp q v)) (Some x)) (get-joined_none number upwards parts q are.1 (subst (λ n. get nat_cmp parts n ≡ None) (sym z) none)))
        (λ q apart. get-put_other (flatten parts) v x q (λ z. apart (ap number z)))
