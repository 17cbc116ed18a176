-- After a call the steps are again those of the areas.
use Rattle.std.proofs.Common.{◌≡◌, ℕ, ◌+◌, ◌<◌, Bool, true, refl, sym, ap, subst, ◌∙◌}
use Rattle.std.specs.Prelude.{None}
use Rattle.std.specs.List.{AllByRecursion, flat_map, list_any}
use Rattle.nm_types.specs.declared.page.Page.{Page}
use Rattle.nm_types.specs.declared.area.Area.{Area}
use Rattle.nm_types.specs.declared.area.Segment.{Segment}
use Rattle.nm_types.specs.declared.area.Policy.{Policy}
use Rattle.nm_types.specs.Map.{Map, get, set, spot_cmp, with_values}
use Rattle.nm_coverage.specs.declared.step.Step.{Step}
use Rattle.nm_areas.specs.Coverage.{IsSteps, IsCoverage, IsWith, of_shared, ends_of, covers_of, ends_at, covers_at, splits_at}
use Rattle.nm_model.specs.definitions.Areas.{is_shared}
use Rattle.nm_model.specs.definitions.Areas.{IsWellFormed, IsSomePages, mapping_of, shows_segment}
use Rattle.nm_model.specs.definitions.Areas.{split_at, with_policy_in, parts_with_policy}
use Rattle.nm_model.specs.views.Table.{Table}
use Rattle.nm_areas.proofs.Counted.{both_ends, both_cover, painted_total}
use Rattle.nm_areas.proofs.Masked.{masked_same, masked_add, more_covered}
use Rattle.nm_model.proofs.areas.Repoliced.{all_repoliced}
use Rattle.nm_areas.proofs.Steps.{steps_same}

-- the area is there
pub came : (m : Map Page Step) (t now : Table) (s : ℕ × ℕ) (x y : Area) (shared : Bool) → x ≡ y → get spot_cmp t.areas s ≡ None → now.areas ≡ set spot_cmp t.areas s y → shared ≡ is_shared now.segments y.page.segment
    → ((n : ℕ) → list_any (shows_segment n) t.areas ≡ true → is_shared t.segments n ≡ is_shared now.segments n) → IsWith m t.segments t.areas x shared → IsCoverage m now.segments now.areas
came m t now s x y shared same free is kind old steps =
    subst (IsCoverage m now.segments) (sym is) (more_covered m t.segments now.segments t.areas s y shared free kind old (subst (λ z. IsWith m t.segments t.areas z shared) same steps))

-- the area was not added after all
module _ (t now : Table) (place : Map Page ℕ) (m back : Map Page Step) (x y : Area) (shared : Bool) (fine : IsWellFormed (mapping_of t place)) (same : x ≡ y) (steps : IsWith m t.segments t.areas x shared)
    (gone : (segments : Map ℕ Segment) (areas : Map (ℕ × ℕ) Area) → IsWith m segments areas y shared → IsCoverage back segments areas) (is : now ≡ t) where
  pub stayed : IsWellFormed (mapping_of now place) × IsCoverage back now.segments now.areas
  stayed = (
    subst (λ (z : Table). IsWellFormed (mapping_of z place)) (sym is) fine,
    subst (λ (z : Table). IsCoverage back z.segments z.areas) (sym is) (gone t.segments t.areas (subst (λ z. IsWith m t.segments t.areas z shared) same steps)),
  )

-- the areas of a process are split at two page numbers
module _ (m : Map Page Step) (segments : Map ℕ Segment) (areas : Map (ℕ × ℕ) Area) (pid first end : ℕ) (less : first < end) (some : AllByRecursion IsSomePages areas)
    (steps : IsSteps m (λ p. (of_shared segments (ends_at areas) p + of_shared segments (splits_at areas pid first) p) + of_shared segments (splits_at areas pid end) p) (of_shared segments (covers_at areas))) where
  abbrev both : Map (ℕ × ℕ) Area
  both = split_at pid end (split_at pid first areas)

  cut_both : IsCoverage m segments both
  cut_both =
      steps_same m _ _ _ _ steps
      (λ p. ap (λ n. n + of_shared segments (splits_at areas pid end) p) (sym (masked_add segments (ends_at areas) (splits_at areas pid first) p))
      ∙ sym (masked_add segments (λ q. ends_at areas q + splits_at areas pid first q) (splits_at areas pid end) p)
      ∙ masked_same segments (λ q. (ends_at areas q + splits_at areas pid first q) + splits_at areas pid end q) (ends_at both) p (λ k. both_ends pid first end less areas some p))
      (λ p. masked_same segments (covers_at areas) (covers_at both) p (λ k. both_cover pid first end less areas some p))

  pub was_cut : (now : Map (ℕ × ℕ) Area) → now ≡ both → IsCoverage m segments now
  was_cut now is = subst (IsCoverage m segments) (sym is) cut_both

  -- and those between get a policy
  pub was_policed : (policy : Policy) (now : Map (ℕ × ℕ) Area) → now ≡ flat_map (parts_with_policy pid first end policy) areas → IsCoverage m segments now
  was_policed policy now is =
      subst (IsCoverage m segments) (all_repoliced pid first end policy less areas some ∙ sym is)
      (steps_same m _ _ _ _ cut_both
      (λ p. masked_same segments (ends_at both) (ends_at (with_values (with_policy_in pid first end policy) both)) p (λ k. sym (painted_total pid first end policy p (ends_of p) (λ x. refl) both)))
      (λ p. masked_same segments (covers_at both) (covers_at (with_values (with_policy_in pid first end policy) both)) p (λ k. sym (painted_total pid first end policy p (covers_of p) (λ x. refl) both))))
