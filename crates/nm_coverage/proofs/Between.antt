-- The pages of a segment from an index up to another, and spots alike.
use Rattle.std.proofs.Common.{◌≡◌, ℕ, ◌≤◌, ◌<◌, Bool, true, false, ◌&&◌, refl, sym, ap, ◌∙◌, inl, inr}
use Rattle.std.specs.Prelude.{not, nat_le, nat_lt, ◌==◌}
use Rattle.std.specs.Ordering.{nat_cmp, is_le}
use Rattle.std.specs.Cmp.{nat_cmp_is, ranked}
use Rattle.std.specs.BTreeMap.Range.{range_contains}
use Rattle.std.specs.declared.ops.Bound.TheVariants.{Included, Excluded}
use Rattle.std.specs.declared.cmp.Ordering.{Ordering}
use Rattle.std.specs.declared.cmp.Ordering.TheVariants.{Less, Equal, Greater}
use Rattle.std.proofs.lemmas.Bool.{and_parts, and_from, eqb-true, eq-eqb, leb-true, le-leb, ltb-true, lt-ltb}
use Rattle.nm_types.specs.declared.page.Page.{Page}
use Rattle.nm_types.specs.Map.{spot_cmp}
use Rattle.nm_types.proofs.Cases.{true_false}
use Rattle.nm_model.specs.definitions.Areas.{page_in}
use Rattle.nm_model.proofs.areas.Overs.{up_to, from_up_to, spot_before, spot_same}
use Rattle.nm_coverage.specs.Shifted.{is_between, is_page_within}
use Rattle.nm_coverage.proofs.Orders.{is_le_from, le_is}

-- where both follow from one another
same_test : (a b : Bool) → (a ≡ true → b ≡ true) → (b ≡ true → a ≡ true) → a ≡ b
same_test true b f g = sym (f refl)
same_test false true f g = absurd (true_false (sym (g refl)))
same_test false false f g = refl

module _ (n first past : ℕ) where
  abbrev pub among_spots : ℕ × ℕ → Bool
  among_spots q = range_contains spot_cmp (Included (n, first)) (Excluded (n, past)) q

  ends : (k i : ℕ) (r : Ordering) → r ≡ nat_cmp k i → not (is_le r) ≡ true → i < k
  ends k i Less is h = absurd (true_false (sym h))
  ends k i Equal is h = absurd (true_false (sym h))
  ends k i Greater is h = ranked k i Greater is

  pub spots_from : (q : ℕ × ℕ) → n ≡ q.0 → first ≤ q.1 → q.1 < past → among_spots q ≡ true
  spots_from q same low high =
      and_from _ _ (is_le_from (spot_cmp (n, first) q) (from_up_to (n, first) q same low))
      (ap (λ r. not (is_le r)) (spot_same (n, past) q same ∙ sym (nat_cmp_is past q.1 Greater high)))

  pub spots_parts : (q : ℕ × ℕ) → among_spots q ≡ true → (n ≡ q.0) × (first ≤ q.1) × (q.1 < past)
  spots_parts q h =
      let both = and_parts (is_le (spot_cmp (n, first) q)) (not (is_le (spot_cmp (n, past) q))) h in
      elim (up_to (n, first) q (le_is (spot_cmp (n, first) q) both.0)) as (λ _. (n ≡ q.0) × (first ≤ q.1) × (q.1 < past)) [
        | inl k ↦ absurd (true_false (sym both.1 ∙ ap (λ r. not (is_le r)) (spot_before (n, past) q k)))
        | inr k ↦ (k.0, k.1, ends past q.1 (nat_cmp past q.1) refl (ap (λ r. not (is_le r)) (sym (spot_same (n, past) q k.0)) ∙ both.1))
      ]

pub between_parts : (segment first past : ℕ) (p : Page) → is_between segment first past p ≡ true → (segment ≡ p.segment) × (first ≤ p.index) × (p.index < past)
between_parts segment first past p h =
    let both = and_parts (segment == p.segment) (nat_le first p.index && nat_lt p.index past) h in
    let ends = and_parts (nat_le first p.index) (nat_lt p.index past) both.1 in
    (eqb-true segment p.segment both.0, leb-true first p.index ends.0, ltb-true p.index past ends.1)

pub between_from : (segment first past : ℕ) (p : Page) → segment ≡ p.segment → first ≤ p.index → p.index < past → is_between segment first past p ≡ true
between_from segment first past p same low high = and_from _ _ (eq-eqb segment p.segment same) (and_from _ _ (le-leb first p.index low) (lt-ltb p.index past high))

pub between_is : (segment first past : ℕ) (p : Page) → is_between segment first past p ≡ is_page_within (page_in segment first) (page_in segment past) p
between_is segment first past p =
    same_test (is_between segment first past p) (is_page_within (page_in segment first) (page_in segment past) p)
    (λ h. let parts = between_parts segment first past p h in spots_from segment first past (p.segment, p.index) parts.0 parts.1 parts.2)
    (λ h. let parts = spots_parts segment first past (p.segment, p.index) h in between_from segment first past p parts.0 parts.1 parts.2)
