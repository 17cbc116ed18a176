-- How many pages may lose their frames.
use Rattle.std.proofs.Common.{◌≡◌, ℕ, zero, suc, ◌+◌, ◌-◌, ◌≤◌, ◌<◌, [], ◌∷◌, length, true, false, cond, inl, inr, refl, sym, ap, ◌∙◌, arith}
use Rattle.std.specs.Prelude.{Some, nat_lt, min, max, ◌==◌}
use Rattle.std.specs.List.{AllByRecursion, filter, flat_map}
use Rattle.std.specs.List.Sorted.{IsStrictlySortedBy}
use Rattle.std.specs.Map.{keys_of}
use Rattle.std.specs.declared.cmp.Ordering.TheVariants.{Less}
use Rattle.std.proofs.lemmas.Bool.{eqb-true, ltb-true, ltb-false}
use Rattle.std.proofs.lemmas.List.{length-append}
use Rattle.std.proofs.lemmas.Map.Keys.{sorted_head, sorted_tail}
use Rattle.nm_types.specs.declared.page.Page.{Page}
use Rattle.nm_types.specs.declared.area.Area.{Area}
use Rattle.nm_types.specs.Map.{Map, get, spot_cmp}
use Rattle.nm_types.specs.State.{PlacedArea, covers}
use Rattle.nm_types.proofs.Cases.{true_false}
use Rattle.nm_model.specs.views.Table.{Table, with_areas}
use Rattle.nm_model.specs.definitions.Areas.{mapping_of, AreasAreApart, IsSomePages, IsWellFormed}
use Rattle.nm_model.specs.definitions.Areas.{pages_from, pages_between}
use Rattle.nm_model.specs.definitions.Areas.{split_at}
use Rattle.nm_model.specs.definitions.Areas.{pages_gone, pages_of_area, pages_of_own}
use Rattle.nm_model.proofs.areas.Apart.{behind_last, covers_from}
use Rattle.nm_model.proofs.areas.Parted.{All-among, all_from_among}
use Rattle.nm_model.proofs.areas.Halves.{less_to, among_keys}
use Rattle.nm_areas.proofs.Own.{NoneBegins}
use Rattle.nm_areas.proofs.Lost.{own_pages_next}
use Rattle.nm_areas.proofs.Letting.{cut_own}

pub so_many : (segment index n : ℕ) → length (pages_from segment index n) ≡ n
so_many segment index zero = refl
so_many segment index (suc n) = ap suc (so_many segment (index + 1) n)

module _ (pid first end : ℕ) (range : first ≤ end) where
  abbrev BeginsFrom : ℕ → PlacedArea → Type 0
  BeginsFrom low a = a.0.0 ≡ pid → low ≤ a.0.1

  -- a later area of the process begins after one of its areas
  begins_behind : (a b : PlacedArea) → a.0.0 ≡ pid → spot_cmp a.0 b.0 ≡ Less → 0 < b.1.pages → ((q v : ℕ) → covers a q v ≡ true → covers b q v ≡ false) → BeginsFrom (behind_last a) b
  begins_behind a b own less some apart same =
      elim (less_to a.0 b.0 less) as (λ _. behind_last a ≤ b.0.1) [
        | inl k ↦ absurd (omega (arith, k, own, same))
        | inr k ↦ elim (nat_lt b.0.1 (behind_last a)) as (λ t. nat_lt b.0.1 (behind_last a) ≡ t → behind_last a ≤ b.0.1) [
          | true ↦ λ t.
              let here = covers_from a b.0.0 b.0.1 k.0 (omega (arith, k.1)) (ltb-true b.0.1 (behind_last a) t) in
              absurd (true_false (sym (covers_from b b.0.0 b.0.1 refl (omega arith) (omega (arith, some))) ∙ apart b.0.0 b.0.1 here))
          | false ↦ λ t. ltb-false b.0.1 (behind_last a) t
        ] refl
      ]

  few_between : (a : PlacedArea) → length (pages_between first end a) ≡ min end (behind_last a) - max first a.0.1
  few_between a = so_many a.1.page.segment (a.1.page.index + (max first a.0.1 - a.0.1)) (min end (behind_last a) - max first a.0.1)

  few_gone : (low : ℕ) (areas : Map (ℕ × ℕ) Area) → AllByRecursion (BeginsFrom low) areas → AllByRecursion IsSomePages areas → AreasAreApart areas → IsStrictlySortedBy spot_cmp (keys_of areas)
      → length (pages_gone areas pid first end) ≤ end - max first low
  few_gone low [] begins some apart sorted = omega arith
  few_gone low (a ∷ areas) begins some apart sorted =
      let tail = sorted_tail spot_cmp a.0 (keys_of areas) sorted in
      elim (a.0.0 == pid) as (λ b. (a.0.0 == pid) ≡ b → length (flat_map (pages_between first end) (cond b (a ∷ filter (λ x. x.0.0 == pid) areas) (filter (λ x. x.0.0 == pid) areas))) ≤ end - max first low) [
        | false ↦ λ b. few_gone low areas begins.1 some.1 apart.1 tail
        | true ↦ λ b.
            let own = eqb-true a.0.0 pid b in
            let from : low ≤ a.0.1 = begins.0 own in
            let later : AllByRecursion (BeginsFrom (behind_last a)) areas = all_from_among (BeginsFrom (behind_last a)) areas (λ x m.
            begins_behind a x own (among_keys (λ k. spot_cmp a.0 k ≡ Less) areas x (sorted_head spot_cmp a.0 (keys_of areas) sorted) m) (All-among IsSomePages areas x some.1 m)
            (All-among (λ y. (q v : ℕ) → covers a q v ≡ true → covers y q v ≡ false) areas x apart.0 m)) in
            let rest = few_gone (behind_last a) areas later some.1 apart.1 tail in
            omega (arith, from, rest, range, few_between a, length-append (pages_between first end a) (pages_gone areas pid first end))
      ] refl

-- in a range, no more than its page numbers
pub few_own : (t cut : Table) (place : Map Page ℕ) (pid first end : ℕ) → IsWellFormed (mapping_of t place) → first < end → cut ≡ with_areas t (split_at pid end (split_at pid first t.areas)) → length (pages_of_own pid first end cut.areas) ≤ end - first
few_own t cut place pid first end h range was =
    let few = few_gone pid first end (omega (arith, range)) 0 t.areas (all_from_among _ t.areas (λ a m own. omega arith)) h.whole h.apart h.ordered in
    let is : length (pages_of_own pid first end cut.areas) ≡ length (pages_gone t.areas pid first end) = ap (λ (u : Table). length (pages_of_own pid first end u.areas)) was ∙ ap length (cut_own pid first end range t.areas h.whole) in
    omega (arith, few, is)

-- the pages of one area and those of the areas to come
pub own_count_next : (areas : Map (ℕ × ℕ) Area) (pid at s end : ℕ) (x : Area) → s < end → IsStrictlySortedBy spot_cmp (keys_of areas) → at ≤ s → get spot_cmp areas (pid, s) ≡ Some x → NoneBegins areas pid at s
    → length (pages_of_own pid at end areas) ≡ x.pages + length (pages_of_own pid (s + 1) end areas)
own_count_next areas pid at s end x high sorted low found none =
    ap length (own_pages_next areas pid at s end x high sorted low found none) ∙ length-append (pages_of_area x) (pages_of_own pid (s + 1) end areas)
    ∙ ap (λ (n : ℕ). n + length (pages_of_own pid (s + 1) end areas)) (so_many x.page.segment x.page.index x.pages)
