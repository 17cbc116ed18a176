-- What a leaf has, by its places, and after one of them is changed.
use Rattle.std.proofs.Common.{◌≡◌, ℕ, zero, suc, ◌+◌, ◌-◌, ◌*◌, ◌/◌, ◌%◌, ◌≤◌, ◌<◌, Option, [], refl, sym, ap, ◌∙◌, arith}
use Rattle.std.specs.Prelude.{Some, None}
use Rattle.std.specs.List.Sorted.{IsStrictlySortedBy}
use Rattle.std.specs.Ordering.{nat_cmp}
use Rattle.std.specs.Cmp.{nat_cmp_total}
use Rattle.nm_types.specs.Map.{get, set, without}
use Rattle.nm_types.proofs.Maps.{get-set}
use Rattle.nm_types.proofs.Keys.{sorted-set, sorted-without}
use Rattle.nm_tables.specs.definitions.Tree.{entries_from, and_then}
use Rattle.nm_tables.proofs.Joined.{one_or_other, get-here, get-later, get-absent, alike, get-without, at_once, at_other}
use Rattle.nm_tables.specs.views.Leaves.{leaf_entries, leaf_ordered, stands_at, keys_from}
use Rattle.nm_tables.specs.declared.places.Places.{Places}
use Rattle.nm_types.specs.declared.entry.Entry.{Entry}
use Rattle.nm_tables.proofs.Changed.{get-put_other}

-- what is listed at a number
module _ {V : Type 0} (f : ℕ → Option V) where
  pub get-listed_outside : (s n q : ℕ) → ((s ≤ q) × (q < s + n) → ⊥) → get nat_cmp (entries_from f s n) q ≡ None
  get-listed_outside s n q out = get-absent (λ k. (s ≤ k) × (k < s + n)) (entries_from f s n) q (keys_from f (λ k. (s ≤ k) × (k < s + n)) s n (λ k l u. (l, u))) out

  get-listed_at : (s n q d : ℕ) → q ≡ s + d → d < n → get nat_cmp (entries_from f s n) q ≡ f q
  get-listed_at s zero q d e l = absurd (omega (arith, l))
  get-listed_at s (suc n) q zero e l =
      let z : q ≡ s = omega (arith, e) in
      elim (f s) as (λ o. f s ≡ o → get nat_cmp (and_then o s (entries_from f (suc s) n)) q ≡ f q) [
        | None ↦ λ o. get-listed_outside (suc s) n q (λ h. let low = h.0 in absurd (omega (arith, low, z))) ∙ sym o ∙ ap f (sym z)
        | Some x ↦ λ o. get-here (s, x) (entries_from f (suc s) n) q z ∙ sym o ∙ ap f (sym z)
      ] refl
  get-listed_at s (suc n) q (suc d) e l =
      let later = get-listed_at (suc s) n q d (omega (arith, e)) (omega (arith, l)) in
      elim (f s) as (λ o. get nat_cmp (and_then o s (entries_from f (suc s) n)) q ≡ f q) [
        | None ↦ later
        | Some x ↦ get-later (s, x) (entries_from f (suc s) n) q (λ z. absurd (omega (arith, e, z))) ∙ later
      ]

  -- what is listed is what the function gives
  pub get-listed : (s n q : ℕ) → s ≤ q → q < s + n → get nat_cmp (entries_from f s n) q ≡ f q
  get-listed s n q l u = get-listed_at s n q (q - s) (omega (arith, l)) (omega (arith, l, u))

pub leaf-get : (p : Places) (v : ℕ) → p.block ≡ v / 512 → get nat_cmp (leaf_entries p) v ≡ stands_at p (v % 512)
unfolding leaf_entries
leaf-get p v e = get-listed (λ v. stands_at p (v % 512)) (p.block * 512) 512 v (omega (arith, e)) (omega (arith, e))

pub leaf-outside : (p : Places) (v : ℕ) → (p.block ≡ v / 512 → ⊥) → get nat_cmp (leaf_entries p) v ≡ None
unfolding leaf_entries
leaf-outside p v apart = get-listed_outside (λ v. stands_at p (v % 512)) (p.block * 512) 512 v (λ h. let low = h.0 in let high = h.1 in apart (omega (arith, low, high)))

-- at a place of its own
pub leaf-at : (p : Places) (i : ℕ) → i < 512 → get nat_cmp (leaf_entries p) (p.block * 512 + i) ≡ stands_at p i
leaf-at p i l =
    let b : p.block ≡ (p.block * 512 + i) / 512 = omega (arith, l) in
    let e : (p.block * 512 + i) % 512 ≡ i = omega (arith, l) in
    leaf-get p (p.block * 512 + i) b ∙ ap (stands_at p) e

none_by : (p : Places) (v : ℕ) → ((i : ℕ) → i < 512 → v ≡ p.block * 512 + i → stands_at p i ≡ None) → Dec (p.block ≡ v / 512) → get nat_cmp (leaf_entries p) v ≡ None
none_by p v h (yes e) = leaf-get p v e ∙ h (v % 512) (omega arith) (omega (arith, e))
none_by p v h (no n) = leaf-outside p v n

pub leaf-none : (p : Places) (v : ℕ) → ((i : ℕ) → i < 512 → v ≡ p.block * 512 + i → stands_at p i ≡ None) → get nat_cmp (leaf_entries p) v ≡ None
leaf-none p v h = none_by p v h (one_or_other p.block (v / 512))

-- the place of v is changed
module _ (p q : Places) (v : ℕ) (own : p.block ≡ v / 512) (same : q.block ≡ p.block) (others : (i : ℕ) → (i ≡ v % 512 → ⊥) → stands_at q i ≡ stands_at p i) where
  elsewhere : (k : ℕ) → (k ≡ v → ⊥) → Dec (p.block ≡ k / 512) → get nat_cmp (leaf_entries q) k ≡ get nat_cmp (leaf_entries p) k
  elsewhere k apart (yes e) =
      leaf-get q k (same ∙ e) ∙ others (k % 512) (λ z. apart (omega (arith, own, e, z))) ∙ sym (leaf-get p k e)
  elsewhere k apart (no n) = leaf-outside q k (λ z. n (sym same ∙ z)) ∙ sym (leaf-outside p k n)

  pub leaf-set : (e : Entry) → stands_at q (v % 512) ≡ Some e → leaf_entries q ≡ set nat_cmp (leaf_entries p) v e
  leaf-set e here =
      alike (leaf_entries q) (set nat_cmp (leaf_entries p) v e) (leaf_ordered q) (sorted-set nat_cmp nat_cmp_total (leaf_entries p) v e (leaf_ordered p)) (λ k.
      elim (one_or_other k v) as (λ _. get nat_cmp (leaf_entries q) k ≡ get nat_cmp (set nat_cmp (leaf_entries p) v e) k) [
        | yes z ↦
            ap (get nat_cmp (leaf_entries q)) z ∙ leaf-get q v (same ∙ own) ∙ here
            ∙ sym (get-set nat_cmp_total (leaf_entries p) v e k ∙ at_once k v (Some e) (get nat_cmp (leaf_entries p) k) z)
        | no n ↦ elsewhere k n (one_or_other p.block (k / 512)) ∙ sym (get-put_other (leaf_entries p) v e k n)
      ])

  pub leaf-without : stands_at q (v % 512) ≡ None → leaf_entries q ≡ without nat_cmp (leaf_entries p) v
  leaf-without here =
      alike (leaf_entries q) (without nat_cmp (leaf_entries p) v) (leaf_ordered q) (sorted-without nat_cmp (leaf_entries p) v (leaf_ordered p)) (λ k.
      elim (one_or_other k v) as (λ _. get nat_cmp (leaf_entries q) k ≡ get nat_cmp (without nat_cmp (leaf_entries p) v) k) [
        | yes z ↦
            ap (get nat_cmp (leaf_entries q)) z ∙ leaf-get q v (same ∙ own) ∙ here
            ∙ sym (get-without (leaf_entries p) v k (leaf_ordered p) ∙ at_once v k None (get nat_cmp (leaf_entries p) k) (sym z))
        | no n ↦
            elsewhere k n (one_or_other p.block (k / 512))
            ∙ sym (get-without (leaf_entries p) v k (leaf_ordered p) ∙ at_other v k None (get nat_cmp (leaf_entries p) k) (λ z. n (sym z)))
      ])

-- a leaf that has nothing but at v
module _ (p : Places) (v : ℕ) (own : p.block ≡ v / 512) where
  pub only-without : ((i : ℕ) → i < 512 → (i ≡ v % 512 → ⊥) → stands_at p i ≡ None) → without nat_cmp (leaf_entries p) v ≡ []
  unfolding IsStrictlySortedBy
  only-without h =
      alike (without nat_cmp (leaf_entries p) v) [] (sorted-without nat_cmp (leaf_entries p) v (leaf_ordered p)) tt (λ k.
      elim (one_or_other k v) as (λ _. get nat_cmp (without nat_cmp (leaf_entries p) v) k ≡ None) [
        | yes z ↦ get-without (leaf_entries p) v k (leaf_ordered p) ∙ at_once v k None (get nat_cmp (leaf_entries p) k) (sym z)
        | no n ↦
            get-without (leaf_entries p) v k (leaf_ordered p) ∙ at_other v k None (get nat_cmp (leaf_entries p) k) (λ z. n (sym z))
            ∙ leaf-none p k (λ i l e. h i l (λ z. n (omega (arith, own, e, z))))
      ])

  pub without-only : without nat_cmp (leaf_entries p) v ≡ [] → (i : ℕ) → i < 512 → (i ≡ v % 512 → ⊥) → stands_at p i ≡ None
  without-only none i l apart =
      let differs : v ≡ p.block * 512 + i → ⊥ = λ z. apart (omega (arith, l, z)) in
      sym (leaf-at p i l) ∙ sym (get-without (leaf_entries p) v (p.block * 512 + i) (leaf_ordered p) ∙ at_other v (p.block * 512 + i) None (get nat_cmp (leaf_entries p) (p.block * 512 + i)) differs)
      ∙ ap (λ m. get nat_cmp m (p.block * 512 + i)) none

-- a leaf of which no place is taken has no entry
pub none_in : (p : Places) → ((i : ℕ) → stands_at p i ≡ None) → leaf_entries p ≡ []
unfolding IsStrictlySortedBy
none_in p h = alike (leaf_entries p) [] (leaf_ordered p) tt (λ k. leaf-none p k (λ i l e. h i))
