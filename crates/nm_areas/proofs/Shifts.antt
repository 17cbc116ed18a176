-- The areas of a process that begin from one page number up to another.
use Rattle.std.proofs.Common.{◌≡◌, ℕ, Bool, true, false, ◌&&◌, cond, sym, ap, ◌∙◌}
use Rattle.std.specs.Prelude.{nat_le, nat_lt, ◌==◌}
use Rattle.std.proofs.lemmas.Bool.{and_parts, and_from, eqb-true, eq-eqb, leb-true, le-leb, ltb-true, lt-ltb}
use Rattle.nm_types.specs.declared.area.Policy.{Policy}
use Rattle.nm_types.specs.declared.area.Area.{Area}
use Rattle.nm_model.specs.definitions.Areas.{with_policy_in}
use Rattle.nm_coverage.proofs.Between.{among_spots, spots_from, spots_parts}
use Rattle.nm_areas.proofs.Own.{same_test}

module _ (pid first past : ℕ) (policy : Policy) where
  abbrev tested : ℕ × ℕ → Bool
  tested q = (q.0 == pid) && (nat_le first q.1 && nat_lt q.1 past)

  tested_is : (q : ℕ × ℕ) → tested q ≡ among_spots pid first past q
  tested_is q =
      same_test (tested q) (among_spots pid first past q) (λ h.
      let both = and_parts (q.0 == pid) (nat_le first q.1 && nat_lt q.1 past) h in
      let ends = and_parts (nat_le first q.1) (nat_lt q.1 past) both.1 in
      spots_from pid first past q (sym (eqb-true q.0 pid both.0)) (leb-true first q.1 ends.0) (ltb-true q.1 past ends.1))
      (λ h. let parts = spots_parts pid first past q h in and_from _ _ (eq-eqb q.0 pid (sym parts.0)) (and_from _ _ (le-leb first q.1 parts.1) (lt-ltb q.1 past parts.2)))

  pub painted_inside : (q : ℕ × ℕ) (x : Area) → among_spots pid first past q ≡ true → with_policy_in pid first past policy q x ≡ record x { policy = policy }
  painted_inside q x h = ap (λ b. cond b (record x { policy = policy }) x) (tested_is q ∙ h)

  pub painted_outside : (q : ℕ × ℕ) (x : Area) → among_spots pid first past q ≡ false → with_policy_in pid first past policy q x ≡ x
  painted_outside q x h = ap (λ b. cond b (record x { policy = policy }) x) (tested_is q ∙ h)
