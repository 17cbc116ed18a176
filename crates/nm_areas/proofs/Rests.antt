-- What a map has from a key on, one entry after another.
use Rattle.std.proofs.Common.{◌≡◌, ℕ, ◌+◌, ◌≤◌, ◌<◌, List, [], ◌∷◌, Bool, true, false, ◌&&◌, cond, refl, sym, ap, subst, ◌∙◌, arith, inl, inr}
use Rattle.std.specs.Prelude.{Option, Some, None, IfSome, ◌⊎◌, not}
use Rattle.std.specs.List.{AllByRecursion}
use Rattle.std.specs.List.Sorted.{IsStrictlySortedBy}
use Rattle.std.specs.Map.{keys_of}
use Rattle.std.specs.Ordering.{is_eq, is_gt, is_le}
use Rattle.std.specs.Cmp.{IsTotalOrder, tied_itself, nat_cmp_is, ranked}
use Rattle.std.proofs.lemmas.Cmp.{upto}
use Rattle.std.specs.BTreeMap.{is_at}
use Rattle.std.specs.BTreeMap.Range.{entries_between, range_contains}
use Rattle.std.specs.declared.ops.Bound.TheVariants.{Included, Unbounded}
use Rattle.std.specs.declared.cmp.Ordering.{Ordering}
use Rattle.std.specs.declared.cmp.Ordering.TheVariants.{Less, Equal, Greater}
use Rattle.std.proofs.lemmas.Map.{lookup-none}
use Rattle.std.proofs.lemmas.Map.Entries.{lookup_head, lookup_tail, none_below_head, lookup-filter-keys}
use Rattle.std.proofs.lemmas.Map.Keys.{sorted_head, sorted_tail}
use Rattle.std.proofs.lemmas.Map.Lookups.{CmpEqualImpliesEq}
use Rattle.nm_types.specs.declared.page.Page.{Page}
use Rattle.nm_types.specs.Map.{Map, get, spot_cmp, page_cmp}
use Rattle.nm_types.proofs.Maps.{equal, spot_cmp_total, page_cmp_total}
use Rattle.nm_areas.specs.Rests.{IsRest}
use Rattle.nm_model.specs.definitions.Areas.{page_in}
use Rattle.nm_model.proofs.areas.Overs.{up_to, from_up_to, spot_before, spot_behind, spot_same}

-- what is said of a value that is there
pub given : {X : Type 0} (P : X → Type 0) (o : Option X) (x : X) → o ≡ Some x → IfSome o P → P x
given P o x is h = subst (λ o. IfSome o P) is h

not_before : (r : Ordering) → is_gt r ≡ false → (is_le r && not false) ≡ true
not_before Less h = refl
not_before Equal h = refl
not_before Greater h = cc

not_behind : (r : Ordering) → (is_le r && not false) ≡ true → is_gt r ≡ false
not_behind Less h = refl
not_behind Equal h = refl
not_behind Greater h = cc

abbrev test : {K : Type 0} → (K → K → Ordering) → K → K → Bool
test R k q = range_contains R (Included k) Unbounded q

module _ {K V : Type 0} {R : K → K → Ordering} (total : IsTotalOrder R) where
  module _ (k : K) where
    abbrev rest : Map K V → Map K V
    rest m = entries_between R (Included k) Unbounded m

    all_kept : (P : K → Type 0) (m : Map K V) → AllByRecursion P (keys_of m) → AllByRecursion P (keys_of (rest m))
    all_kept P [] h = tt
    all_kept P (e ∷ m) h = elim (test R k e.0) as (λ b. AllByRecursion P (keys_of (cond b (e ∷ rest m) (rest m)))) [ true ↦ (h.0, all_kept P m h.1) | false ↦ all_kept P m h.1 ]

    rest_ordered : (m : Map K V) → IsStrictlySortedBy R (keys_of m) → IsStrictlySortedBy R (keys_of (rest m))
    unfolding IsStrictlySortedBy
    rest_ordered [] s = tt
    rest_ordered (e ∷ m) s =
        elim (test R k e.0) as (λ b. IsStrictlySortedBy R (keys_of (cond b (e ∷ rest m) (rest m)))) [
          | true ↦ (all_kept (λ q. R e.0 q ≡ Less) m s.0, rest_ordered m s.1)
          | false ↦ rest_ordered m s.1
        ]

    rest_low : (m : Map K V) → AllByRecursion (λ q. is_gt (R k q) ≡ false) (keys_of (rest m))
    rest_low [] = tt
    rest_low (e ∷ m) =
        elim (test R k e.0) as (λ b. test R k e.0 ≡ b → AllByRecursion (λ q. is_gt (R k q) ≡ false) (keys_of (cond b (e ∷ rest m) (rest m)))) [
          | true ↦ λ h. (not_behind (R k e.0) h, rest_low m)
          | false ↦ λ h. rest_low m
        ] refl

    -- all that a range gives from a key on
    pub rest_begins : CmpEqualImpliesEq R → (m r : Map K V) → IsStrictlySortedBy R (keys_of m) → r ≡ entries_between R (Included k) Unbounded m → IsRest R m k r
    rest_begins exact m r sorted is =
        subst (IsRest R m k) (sym is) (record {
          ordered = rest_ordered m sorted;
          from = rest_low m;
          same = λ q low. sym (lookup-filter-keys (is_at (R q)) (test R k) true (λ p at. ap (test R k) (sym (exact q p (equal (R q p) at))) ∙ not_before (R k q) low) m);
        })

  module _ (m : Map K V) (k : K) where
    -- nothing is there
    pub rest_none : (r : Map K V) → IsRest R m k r → r ≡ [] → (q : K) → is_gt (R k q) ≡ false → get R m q ≡ None
    rest_none r is empty q low = (subst (IsRest R m k) empty is).same q low

    module _ (r t : Map K V) (e : K × V) (is : IsRest R m k r) (first : r ≡ e ∷ t) where
      here : IsRest R m k (e ∷ t)
      here = subst (IsRest R m k) first is

      -- the first
      pub first_low : is_gt (R k e.0) ≡ false
      first_low = here.from.0

      pub rest_first : get R m e.0 ≡ Some e.1
      rest_first = here.same e.0 here.from.0 ∙ lookup_head (is_at (R e.0)) e t (ap is_eq (tied_itself total e.0))

      -- nothing comes before it
      pub rest_before : (q : K) → is_gt (R k q) ≡ false → R q e.0 ≡ Less → get R m q ≡ None
      rest_before q low less = here.same q low ∙ lookup-none (is_at (R q)) (e ∷ t) (none_below_head total q e t here.ordered less)

      later_ones : (n : K) → ((q : K) → R e.0 q ≡ Less → is_gt (R n q) ≡ false) → (qs : List K) → AllByRecursion (λ q. R e.0 q ≡ Less) qs → AllByRecursion (λ q. is_gt (R n q) ≡ false) qs
      later_ones n up [] h = tt
      later_ones n up (q ∷ qs) h = (up q h.0, later_ones n up qs h.1)

      -- what comes after it is what the map has from the next key on
      pub rest_next : (n : K) → ((q : K) → R e.0 q ≡ Less → is_gt (R n q) ≡ false) → ((q : K) → is_gt (R n q) ≡ false → (is_gt (R k q) ≡ false) × (R q e.0 ≡ Greater)) → IsRest R m n t
      rest_next n up down = record {
        ordered = sorted_tail R e.0 (keys_of t) here.ordered;
        from = later_ones n up (keys_of t) (sorted_head R e.0 (keys_of t) here.ordered);
        same = λ q low. let past = down q low in here.same q past.0 ∙ lookup_tail (is_at (R q)) e t (ap is_eq past.1);
      }

-- ---- by a number, and then by another

-- what comes after a spot comes from the next one on
spot_up : (a q : ℕ × ℕ) → spot_cmp a q ≡ Less → is_gt (spot_cmp (a.0, a.1 + 1) q) ≡ false
spot_up a q less =
    elim (up_to a q (ap is_gt less)) as (λ _. is_gt (spot_cmp (a.0, a.1 + 1) q) ≡ false) [
      | inl k ↦ ap is_gt (spot_before (a.0, a.1 + 1) q k)
      | inr k ↦
          let past : a.1 < q.1 = ranked a.1 q.1 Less (sym (sym (spot_same a q k.0) ∙ less)) in
          from_up_to (a.0, a.1 + 1) q k.0 (omega (arith, past))
    ]

spot_down : (k a q : ℕ × ℕ) → is_gt (spot_cmp k a) ≡ false → is_gt (spot_cmp (a.0, a.1 + 1) q) ≡ false → (is_gt (spot_cmp k q) ≡ false) × (spot_cmp q a ≡ Greater)
spot_down k a q low next =
    elim (up_to (a.0, a.1 + 1) q next) as (λ _. (is_gt (spot_cmp k q) ≡ false) × (spot_cmp q a ≡ Greater)) [
      | inl h ↦ (upto spot_cmp_total k a q low (ap is_gt (spot_before a q h)), spot_behind q a h)
      | inr h ↦
          let past = h.1 in
          (upto spot_cmp_total k a q low (from_up_to a q h.0 (omega (arith, past))), spot_same q a (sym h.0) ∙ sym (nat_cmp_is q.1 a.1 Greater (omega (arith, past))))
    ]

-- one spot before another
abbrev pub Past : ℕ → ℕ → ℕ × ℕ → Type 0
Past n v a = (n < a.0) ⊎ ((a.0 ≡ n) × (v < a.1))

spot_less : (n v : ℕ) (a : ℕ × ℕ) → Past n v a → spot_cmp (n, v) a ≡ Less
spot_less n v a past =
    elim past as (λ _. spot_cmp (n, v) a ≡ Less) [
      | inl k ↦ spot_before (n, v) a k
      | inr k ↦ let h = k.1 in spot_same (n, v) a (sym k.0) ∙ sym (nat_cmp_is v a.1 Less h)
    ]

-- another number comes after all of this one
spot_past : (n at v : ℕ) (a : ℕ × ℕ) → is_gt (spot_cmp (n, at) a) ≡ false → (a.0 ≡ n → ⊥) → Past n v a
spot_past n at v a low other =
    elim (up_to (n, at) a low) as (λ _. Past n v a) [
      | inl k ↦ inl k
      | inr k ↦ absurd (other (sym k.0))
    ]

module _ {V : Type 0} where
  -- the areas of a process, or other values at spots
  module _ (m : Map (ℕ × ℕ) V) (n at : ℕ) (r : Map (ℕ × ℕ) V) (is : IsRest spot_cmp m (n, at) r) where
    pub no_spot : r ≡ [] → (v : ℕ) → at ≤ v → get spot_cmp m (n, v) ≡ None
    no_spot empty v low = rest_none spot_cmp_total m (n, at) r is empty (n, v) (from_up_to (n, at) (n, v) refl low)

    module _ (t : Map (ℕ × ℕ) V) (e : (ℕ × ℕ) × V) (first : r ≡ e ∷ t) where
      pub spot_before_first : (v : ℕ) → at ≤ v → Past n v e.0 → get spot_cmp m (n, v) ≡ None
      spot_before_first v low past = rest_before spot_cmp_total m (n, at) r t e is first (n, v) (from_up_to (n, at) (n, v) refl low) (spot_less n v e.0 past)

      pub spot_other : (e.0.0 ≡ n → ⊥) → (v : ℕ) → at ≤ v → get spot_cmp m (n, v) ≡ None
      spot_other other v low = spot_before_first v low (spot_past n at v e.0 (first_low spot_cmp_total m (n, at) r t e is first) other)

      pub spot_first : e.0.0 ≡ n → (at ≤ e.0.1) × (get spot_cmp m (n, e.0.1) ≡ Some e.1)
      spot_first own = (
        elim (up_to (n, at) e.0 (first_low spot_cmp_total m (n, at) r t e is first)) as (λ _. at ≤ e.0.1) [ inl k ↦ absurd (omega (arith, k, own)) | inr k ↦ k.1 ],
        ap (λ z. get spot_cmp m (z, e.0.1)) (sym own) ∙ rest_first spot_cmp_total m (n, at) r t e is first,
      )

      pub spot_next : e.0.0 ≡ n → IsRest spot_cmp m (n, e.0.1 + 1) t
      spot_next own =
          subst (λ z. IsRest spot_cmp m (z, e.0.1 + 1) t) own
          (rest_next spot_cmp_total m (n, at) r t e is first (e.0.0, e.0.1 + 1) (spot_up e.0) (λ q. spot_down (n, at) e.0 q (first_low spot_cmp_total m (n, at) r t e is first)))

  -- the same of the pages of a segment
  module _ (m : Map Page V) (n at : ℕ) (r : Map Page V) (is : IsRest page_cmp m (page_in n at) r) where
    pub no_page : r ≡ [] → (v : ℕ) → at ≤ v → get page_cmp m (page_in n v) ≡ None
    no_page empty v low = rest_none page_cmp_total m (page_in n at) r is empty (page_in n v) (from_up_to (n, at) (n, v) refl low)

    module _ (t : Map Page V) (e : Page × V) (first : r ≡ e ∷ t) where
      pub page_before_first : (v : ℕ) → at ≤ v → Past n v (e.0.segment, e.0.index) → get page_cmp m (page_in n v) ≡ None
      page_before_first v low past =
          rest_before page_cmp_total m (page_in n at) r t e is first (page_in n v) (from_up_to (n, at) (n, v) refl low) (spot_less n v (e.0.segment, e.0.index) past)

      pub page_other : (e.0.segment ≡ n → ⊥) → (v : ℕ) → at ≤ v → get page_cmp m (page_in n v) ≡ None
      page_other other v low = page_before_first v low (spot_past n at v (e.0.segment, e.0.index) (first_low page_cmp_total m (page_in n at) r t e is first) other)

      pub page_first : e.0.segment ≡ n → (at ≤ e.0.index) × (get page_cmp m (page_in n e.0.index) ≡ Some e.1)
      page_first own = (
        elim (up_to (n, at) (e.0.segment, e.0.index) (first_low page_cmp_total m (page_in n at) r t e is first)) as (λ _. at ≤ e.0.index) [ inl k ↦ absurd (omega (arith, k, own)) | inr k ↦ k.1 ],
        ap (λ z. get page_cmp m (page_in z e.0.index)) (sym own) ∙ rest_first page_cmp_total m (page_in n at) r t e is first,
      )

      pub page_next : e.0.segment ≡ n → IsRest page_cmp m (page_in n (e.0.index + 1)) t
      page_next own =
          subst (λ z. IsRest page_cmp m (page_in z (e.0.index + 1)) t) own
          (rest_next page_cmp_total m (page_in n at) r t e is first (page_in e.0.segment (e.0.index + 1)) (λ q. spot_up (e.0.segment, e.0.index) (q.segment, q.index))
          (λ q. spot_down (n, at) (e.0.segment, e.0.index) (q.segment, q.index) (first_low page_cmp_total m (page_in n at) r t e is first)))
