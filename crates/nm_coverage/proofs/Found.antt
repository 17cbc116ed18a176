-- The first step from a page on, and the last up to a page.
use Rattle.std.proofs.Common.{◌≡◌, ℕ, ◌≤◌, ◌<◌, List, [], ◌∷◌, ◌++◌, false, refl, sym, ap, subst, ◌∙◌, arith, inl, inr}
use Rattle.std.specs.Prelude.{Option, Some, None, IsSome, IfSome}
use Rattle.std.specs.List.{slice_get}
use Rattle.std.specs.Option.{is_some}
use Rattle.std.specs.BTreeMap.{BTreeMap}
use Rattle.std.specs.BTreeMap.Range.{IsRangeOf, IsEntryInRange}
use Rattle.std.specs.declared.ops.Bound.TheVariants.{Included, Unbounded}
use Rattle.std.specs.Ordering.{is_gt, is_lt}
use Rattle.std.specs.declared.cmp.Ordering.TheVariants.{Less}
use Rattle.nm_types.specs.declared.page.Page.{Page}
use Rattle.nm_types.specs.Map.{get, page_cmp}
use Rattle.nm_types.proofs.Cases.{true_false}
use Rattle.nm_model.specs.definitions.Areas.{page_in}
use Rattle.nm_model.proofs.areas.Overs.{up_to, from_up_to}

none_from : {V : Type 0} (o : Option V) → (IsSome o → ⊥) → o ≡ None
none_from None h = refl
none_from (Some x) h = absurd (h refl)

module _ {V : Type 0} (m : BTreeMap Page V) (r : List (Page × V)) where
  module _ (from : Page) (range : IsRangeOf page_cmp (Included from) Unbounded m r) (t : List (Page × V)) (e : Page × V) (first : r ≡ e ∷ t) where
    pub first_here : (is_gt (page_cmp from e.0) ≡ false) × (get page_cmp m.entries e.0 ≡ Some e.1)
    first_here = let at = subst (λ l. IfSome (slice_get l 0) (IsEntryInRange page_cmp (Included from) Unbounded m)) first range.1 in (at.0.0, at.1)

    pub first_least : (q : Page) → is_gt (page_cmp from q) ≡ false → IsSome (get page_cmp m.entries q) → is_gt (page_cmp e.0 q) ≡ false
    first_least q low has = subst (λ l. IfSome (slice_get l 0) (λ x. is_gt (page_cmp x.0 q) ≡ false)) first (range.2 q (low, tt) has)

  module _ (page : Page) (range : IsRangeOf page_cmp Unbounded (Included page) m r) where
    pub none_up_to : r ≡ [] → (p : Page) → is_gt (page_cmp p page) ≡ false → get page_cmp m.entries p ≡ None
    none_up_to empty p low = range.5 empty p (tt, low)

    module _ (t : List (Page × V)) (e : Page × V) (last : r ≡ t ++ e ∷ []) where
      pub last_here : (is_gt (page_cmp e.0 page) ≡ false) × (get page_cmp m.entries e.0 ≡ Some e.1)
      last_here = let at = range.3 e t last in (at.0.1, at.1)

      pub last_greatest : (q : Page) → is_gt (page_cmp q page) ≡ false → IsSome (get page_cmp m.entries q) → is_lt (page_cmp e.0 q) ≡ false
      last_greatest q low has = range.4 e t last q (tt, low) has

      pub none_past : (p : Page) → page_cmp e.0 p ≡ Less → is_gt (page_cmp p page) ≡ false → get page_cmp m.entries p ≡ None
      none_past p less low = none_from _ (λ has. true_false (ap is_lt (sym less) ∙ last_greatest p low has))

-- the first of a segment
module _ {V : Type 0} (m : BTreeMap Page V) (s at : ℕ) (r : List (Page × V)) (range : IsRangeOf page_cmp (Included (page_in s at)) Unbounded m r) where
  pub none_after : r ≡ [] → (i : ℕ) → at ≤ i → get page_cmp m.entries (page_in s i) ≡ None
  none_after empty i low = range.5 empty (page_in s i) (from_up_to (s, at) (s, i) refl low, tt)

  module _ (t : List (Page × V)) (e : Page × V) (first : r ≡ e ∷ t) where
    least : (i : ℕ) → at ≤ i → IsSome (get page_cmp m.entries (page_in s i)) → is_gt (page_cmp e.0 (page_in s i)) ≡ false
    least i low = first_least m r (page_in s at) range t e first (page_in s i) (from_up_to (s, at) (s, i) refl low)

    pub none_before : e.0.segment ≡ s → (i : ℕ) → at ≤ i → i < e.0.index → get page_cmp m.entries (page_in s i) ≡ None
    none_before own i low high =
        none_from (get page_cmp m.entries (page_in s i)) (λ has. elim (up_to (e.0.segment, e.0.index) (s, i) (least i low has)) as (λ _. ⊥) [
          | inl k ↦ let bad : ⊥ = omega (arith, k, own) in bad
          | inr k ↦ let bad : ⊥ = omega (arith, k.1, high) in bad
        ])

    pub none_other : (e.0.segment ≡ s → ⊥) → (i : ℕ) → at ≤ i → get page_cmp m.entries (page_in s i) ≡ None
    none_other other i low =
        none_from (get page_cmp m.entries (page_in s i)) (λ has. elim (up_to (e.0.segment, e.0.index) (s, i) (least i low has)) as (λ _. ⊥) [
          | inl k ↦ elim (up_to (s, at) (e.0.segment, e.0.index) (first_here m r (page_in s at) range t e first).0) as (λ _. ⊥) [
            | inl j ↦ let bad : ⊥ = omega (arith, k, j) in bad
            | inr j ↦ other (sym j.0)
          ]
          | inr k ↦ other k.0
        ])

    pub own_low : e.0.segment ≡ s → at ≤ e.0.index
    own_low own =
        elim (up_to (s, at) (e.0.segment, e.0.index) (first_here m r (page_in s at) range t e first).0) as (λ _. at ≤ e.0.index) [
          | inl k ↦ absurd (omega (arith, k, own))
          | inr k ↦ k.1
        ]

    pub own_has : e.0.segment ≡ s → IsSome (get page_cmp m.entries (page_in s e.0.index))
    own_has own = ap (λ n. is_some (get page_cmp m.entries (page_in n e.0.index))) (sym own) ∙ ap is_some (first_here m r (page_in s at) range t e first).1
