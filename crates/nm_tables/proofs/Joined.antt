-- Parts that are joined: a map, read and changed part by part.
use Rattle.std.proofs.Common.{◌≡◌, ℕ, ◌≤◌, ◌<◌, List, Option, [], ◌∷◌, ◌++◌, true, false, cond, refl, sym, ap, subst, ◌∙◌, arith}
use Rattle.std.specs.Prelude.{Some, None}
use Rattle.std.specs.List.{AllByRecursion}
use Rattle.std.specs.List.Sorted.{IsStrictlySortedBy}
use Rattle.std.specs.Map.{keys_of}
use Rattle.std.specs.Ordering.{nat_cmp, is_eq}
use Rattle.std.specs.Cmp.{nat_cmp_is, nat_cmp_total, ranked, eq_by_cmp_equiv}
use Rattle.std.specs.declared.cmp.Ordering.TheVariants.{Less, Equal, Greater}
use Rattle.nm_types.specs.Map.{Map, get, without}
use Rattle.nm_types.proofs.Cases.{none_some, some_none, some_is}
use Rattle.nm_types.proofs.Maps.{equal}
use Rattle.std.proofs.lemmas.Map.{lookup-remove_entry}
use Rattle.std.proofs.lemmas.Map.Keys.{IsDistinct-from_sorted}
use Rattle.std.specs.BTreeMap.{is_at}
use Rattle.nm_tables.specs.definitions.Tree.{flatten, IsPart, AreParts}

pub less_equal : Less ≡ Equal → ⊥
less_equal e = cc

pub greater_equal : Greater ≡ Equal → ⊥
greater_equal e = cc

pub same_number : (a b : ℕ) → a ≡ b → nat_cmp a b ≡ Equal
same_number a b e = sym (nat_cmp_is a b Equal e)

pub is_same : (a b : ℕ) → nat_cmp a b ≡ Equal → a ≡ b
is_same a b e = ranked a b Equal (sym e)

pub one_or_other : (a b : ℕ) → Dec (a ≡ b)
one_or_other a b =
    elim (nat_cmp a b) as (λ r. nat_cmp a b ≡ r → Dec (a ≡ b)) [
      | Less ↦ λ r. no (λ z. less_equal (sym r ∙ same_number a b z))
      | Equal ↦ λ r. yes (is_same a b r)
      | Greater ↦ λ r. no (λ z. greater_equal (sym r ∙ same_number a b z))
    ] refl

not_less_itself : (a : ℕ) → nat_cmp a a ≡ Less → ⊥
not_less_itself a h = less_equal (sym h ∙ same_number a a refl)

pub all_above : (k e : ℕ) (ks : List ℕ) → k < e → AllByRecursion (λ y. nat_cmp e y ≡ Less) ks → AllByRecursion (λ y. k < y) ks
all_above k e [] p h = tt
all_above k e (x ∷ ks) p h =
    let l : e < x = ranked e x Less (sym h.0) in
    (omega (arith, p, l), all_above k e ks p h.1)

pub itself : (k : ℕ) → k < k → ⊥
itself k h = absurd (omega (arith, h))

-- a key that is found here is this one, and else the rest is asked
module _ {V : Type 0} where
  pub get-here : (e : ℕ × V) (m : Map ℕ V) (q : ℕ) → q ≡ e.0 → get nat_cmp (e ∷ m) q ≡ Some e.1
  get-here e m q h = ap (λ r. cond (is_eq r) (Some e.1) (get nat_cmp m q)) (same_number q e.0 h)

  pub get-later : (e : ℕ × V) (m : Map ℕ V) (q : ℕ) → (q ≡ e.0 → ⊥) → get nat_cmp (e ∷ m) q ≡ get nat_cmp m q
  get-later e m q h =
      elim (nat_cmp q e.0) as (λ r. nat_cmp q e.0 ≡ r → cond (is_eq r) (Some e.1) (get nat_cmp m q) ≡ get nat_cmp m q) [
        | Less ↦ λ r. refl
        | Equal ↦ λ r. absurd (h (is_same q e.0 r))
        | Greater ↦ λ r. refl
      ] refl

  -- where all keys have a property, one that has not is none of them
  pub get-absent : (P : ℕ → Type 0) (m : Map ℕ V) (q : ℕ) → AllByRecursion P (keys_of m) → (P q → ⊥) → get nat_cmp m q ≡ None
  get-absent P [] q all h = refl
  get-absent P (e ∷ m) q all h =
      get-later e m q (λ s. h (subst P (sym s) all.0)) ∙ get-absent P m q all.1 h

  pub get-append_some : (a b : Map ℕ V) (q : ℕ) (x : V) → get nat_cmp a q ≡ Some x → get nat_cmp (a ++ b) q ≡ Some x
  get-append_some [] b q x h = absurd (none_some h)
  get-append_some (e ∷ a) b q x h =
      elim (is_eq (nat_cmp q e.0)) as (λ r. cond r (Some e.1) (get nat_cmp a q) ≡ Some x → cond r (Some e.1) (get nat_cmp (a ++ b) q) ≡ Some x) [
        | true ↦ λ h. h
        | false ↦ λ h. get-append_some a b q x h
      ] h

  pub get-append_none : (a b : Map ℕ V) (q : ℕ) → get nat_cmp a q ≡ None → get nat_cmp (a ++ b) q ≡ get nat_cmp b q
  get-append_none [] b q h = refl
  get-append_none (e ∷ a) b q h =
      elim (is_eq (nat_cmp q e.0)) as (λ r. cond r (Some e.1) (get nat_cmp a q) ≡ None → cond r (Some e.1) (get nat_cmp (a ++ b) q) ≡ get nat_cmp b q) [
        | true ↦ λ h. absurd (some_none h)
        | false ↦ λ h. get-append_none a b q h
      ] h

  -- after the first key it does not come again
  pub none_behind : (e : ℕ × V) (m : Map ℕ V) → IsStrictlySortedBy nat_cmp (keys_of (e ∷ m)) → get nat_cmp m e.0 ≡ None
  unfolding IsStrictlySortedBy
  none_behind e m s = get-absent (λ y. nat_cmp e.0 y ≡ Less) m e.0 s.0 (not_less_itself e.0)

  pub none_before : (k : ℕ) (e : ℕ × V) (m : Map ℕ V) → IsStrictlySortedBy nat_cmp (keys_of (e ∷ m)) → k < e.0 → get nat_cmp (e ∷ m) k ≡ None
  unfolding IsStrictlySortedBy
  none_before k e m s p = get-absent (λ y. k < y) (e ∷ m) k (p, all_above k e.0 (keys_of m) p s.0) (itself k)

  -- two maps in order that answer alike are one
  pub alike : (m n : Map ℕ V) → IsStrictlySortedBy nat_cmp (keys_of m) → IsStrictlySortedBy nat_cmp (keys_of n) → ((q : ℕ) → get nat_cmp m q ≡ get nat_cmp n q) → m ≡ n
  unfolding IsStrictlySortedBy
  alike [] [] s t h = refl
  alike [] (f ∷ n) s t h = absurd (none_some (h f.0 ∙ get-here f n f.0 refl))
  alike (e ∷ m) [] s t h = absurd (some_none (sym (get-here e m e.0 refl) ∙ h e.0))
  alike (e ∷ m) (f ∷ n) s t h =
      elim (nat_cmp e.0 f.0) as (λ r. nat_cmp e.0 f.0 ≡ r → e ∷ m ≡ f ∷ n) [
        | Less ↦ λ r. absurd (some_none (sym (get-here e m e.0 refl) ∙ h e.0 ∙ none_before e.0 f n t (ranked e.0 f.0 Less (sym r))))
        | Equal ↦ λ r.
            let k : e.0 ≡ f.0 = is_same e.0 f.0 r in
            let x : e.1 ≡ f.1 = some_is (sym (get-here e m e.0 refl) ∙ h e.0 ∙ get-here f n e.0 k) in
            let rest : m ≡ n = alike m n s.1 t.1 (λ q.
            elim (nat_cmp q e.0) as (λ r. nat_cmp q e.0 ≡ r → get nat_cmp m q ≡ get nat_cmp n q) [
              | Less ↦ λ r. let no : q ≡ e.0 → ⊥ = λ z. less_equal (sym r ∙ same_number q e.0 z) in
                  sym (get-later e m q no) ∙ h q ∙ get-later f n q (λ z. no (z ∙ sym k))
              | Equal ↦ λ r. let z : q ≡ e.0 = is_same q e.0 r in
                  subst (λ q. get nat_cmp m q ≡ None) (sym z) (none_behind e m s) ∙ sym (subst (λ q. get nat_cmp n q ≡ None) (sym (z ∙ k)) (none_behind f n t))
              | Greater ↦ λ r. let no : q ≡ e.0 → ⊥ = λ z. greater_equal (sym r ∙ same_number q e.0 z) in
                  sym (get-later e m q no) ∙ h q ∙ get-later f n q (λ z. no (z ∙ sym k))
            ] refl) in
            ap (λ k. (k, e.1) ∷ m) k ∙ ap (λ x. (f.0, x) ∷ m) x ∙ ap (λ rest. f ∷ rest) rest
        | Greater ↦ λ r. absurd (none_some (sym (none_before f.0 e m s (ranked e.0 f.0 Greater (sym r))) ∙ h f.0 ∙ get-here f n f.0 refl))
      ] refl

  pub get-without : (m : Map ℕ V) (k q : ℕ) → IsStrictlySortedBy nat_cmp (keys_of m) → get nat_cmp (without nat_cmp m k) q ≡ cond (is_eq (nat_cmp k q)) None (get nat_cmp m q)
  get-without m k q s =
      lookup-remove_entry (eq_by_cmp_equiv nat_cmp_total) (is_at (nat_cmp k)) (λ x y h. ap is_eq (nat_cmp_total.congr k x y (equal _ h))) q m (IsDistinct-from_sorted nat_cmp (keys_of m) s)

-- a test of two numbers
module _ {W : Type 0} where
  pub at_once : (a b : ℕ) (x y : W) → a ≡ b → cond (is_eq (nat_cmp a b)) x y ≡ x
  at_once a b x y e = ap (λ r. cond (is_eq r) x y) (same_number a b e)

  pub at_other : (a b : ℕ) (x y : W) → (a ≡ b → ⊥) → cond (is_eq (nat_cmp a b)) x y ≡ y
  at_other a b x y n =
      elim (nat_cmp a b) as (λ r. nat_cmp a b ≡ r → cond (is_eq r) x y ≡ y) [
        | Less ↦ λ r. refl
        | Equal ↦ λ r. absurd (n (is_same a b r))
        | Greater ↦ λ r. refl
      ] refl

-- the parts of one height, each with the keys of its own number
module _ {V : Type 0} (number : ℕ → ℕ) (upwards : (a b : ℕ) → a ≤ b → number a ≤ number b) where
  -- a part without the number of a key has nothing at that key
  pub none_elsewhere : (i : ℕ) (part : Map ℕ V) (q : ℕ) → IsPart number i part → (number q ≡ i → ⊥) → get nat_cmp part q ≡ None
  none_elsewhere i part q is apart = get-absent (λ k. number k ≡ i) part q is.1 apart

  pub get-joined_none : (parts : Map ℕ (Map ℕ V)) (q : ℕ) → AllByRecursion (λ e. IsPart number e.0 e.1) parts → get nat_cmp parts (number q) ≡ None → get nat_cmp (flatten parts) q ≡ None
  get-joined_none [] q all h = refl
  get-joined_none (c ∷ parts) q all h =
      elim (nat_cmp (number q) c.0) as (λ r. nat_cmp (number q) c.0 ≡ r → cond (is_eq r) (Some c.1) (get nat_cmp parts (number q)) ≡ None → get nat_cmp (c.1 ++ flatten parts) q ≡ None) [
        | Less ↦ λ r h.
            get-append_none c.1 (flatten parts) q (none_elsewhere c.0 c.1 q all.0 (λ z. less_equal (sym r ∙ same_number (number q) c.0 z))) ∙ get-joined_none parts q all.1 h
        | Equal ↦ λ r h. absurd (some_none h)
        | Greater ↦ λ r h.
            get-append_none c.1 (flatten parts) q (none_elsewhere c.0 c.1 q all.0 (λ z. greater_equal (sym r ∙ same_number (number q) c.0 z))) ∙ get-joined_none parts q all.1 h
      ] refl h

  -- what the part has that has the number of the key
  pub get-joined : (parts : Map ℕ (Map ℕ V)) (q : ℕ) (part : Map ℕ V) → AreParts number parts → get nat_cmp parts (number q) ≡ Some part → get nat_cmp (flatten parts) q ≡ get nat_cmp part q
  unfolding IsStrictlySortedBy
  get-joined [] q part are h = absurd (none_some h)
  get-joined (c ∷ parts) q part are h =
      elim (nat_cmp (number q) c.0) as (λ r. nat_cmp (number q) c.0 ≡ r → cond (is_eq r) (Some c.1) (get nat_cmp parts (number q)) ≡ Some part → get nat_cmp (c.1 ++ flatten parts) q ≡ get nat_cmp part q) [
        | Less ↦ λ r h.
            get-append_none c.1 (flatten parts) q (none_elsewhere c.0 c.1 q are.1.0 (λ z. less_equal (sym r ∙ same_number (number q) c.0 z))) ∙ get-joined parts q part (are.0.1, are.1.1) h
        | Equal ↦ λ r h.
            let gone : get nat_cmp parts (number q) ≡ None = subst (λ n. get nat_cmp parts n ≡ None) (sym (is_same (number q) c.0 r)) (none_behind c parts are.0) in
            let found : (o : Option V) → get nat_cmp c.1 q ≡ o → get nat_cmp (c.1 ++ flatten parts) q ≡ get nat_cmp c.1 q = λ o. elim o as (λ o. get nat_cmp c.1 q ≡ o → get nat_cmp (c.1 ++ flatten parts) q ≡ get nat_cmp c.1 q) [
              | None ↦ λ o. get-append_none c.1 (flatten parts) q o ∙ get-joined_none parts q are.1.1 gone ∙ sym o
              | Some x ↦ λ o. get-append_some c.1 (flatten parts) q x o ∙ sym o
            ] in
            found (get nat_cmp c.1 q) refl ∙ ap (λ p. get nat_cmp p q) (some_is h)
        | Greater ↦ λ r h.
            get-append_none c.1 (flatten parts) q (none_elsewhere c.0 c.1 q are.1.0 (λ z. greater_equal (sym r ∙ same_number (number q) c.0 z))) ∙ get-joined parts q part (are.0.1, are.1.1) h
      ] refl h
