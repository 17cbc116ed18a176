-- A process that unmaps a range where it has no area: nothing changes.
use Rattle.std.proofs.Common.{◌≡◌, ℕ, ◌+◌, ◌-◌, ◌≤◌, ◌<◌, List, [], ◌∷◌, ◌++◌, Bool, true, false, not, cond, refl, sym, ap, ◌∙◌, arith, inl, inr}
use Rattle.std.specs.Prelude.{nat_lt, ◌==◌, ◌⊎◌, min, max}
use Rattle.std.specs.List.{AllByRecursion, list_any, filter, flat_map, fold}
use Rattle.std.proofs.lemmas.Bool.{and_from, ltb-false}
use Rattle.nm_types.specs.declared.page.Page.{Page}
use Rattle.nm_types.specs.declared.area.Area.{Area}
use Rattle.nm_types.specs.declared.area.Segment.{Segment}
use Rattle.nm_types.specs.Map.{Map}
use Rattle.nm_types.specs.State.{PlacedArea, page_at}
use Rattle.nm_types.proofs.Cases.{true_false}
use Rattle.nm_model.specs.views.Table.{Table}
use Rattle.nm_model.specs.definitions.AreaRefusal.{overlaps}
use Rattle.nm_model.specs.definitions.Areas.{mapping_of, IsWellFormed, IsSomePages, before, behind, parts_outside, pages_from, pages_between, areas_left, segments_left, pages_gone, place_left, all_lost, after_removal, frames_lost, page_outside}
use Rattle.nm_model.proofs.areas.Apart.{behind_last, all_from_none}
use Rattle.nm_model.proofs.areas.Cut.{same_placed, one, front_of, rest_of, before_none, before_some, behind_none, behind_some}
use Rattle.nm_model.proofs.areas.Shown.{left_shows}
use Rattle.nm_areas.proofs.Gone.{all_left}

pub not_true : (b : Bool) → true ≡ not b → b ≡ false
not_true true h = cc
not_true false h = refl

pub not_false : (free b : Bool) → free ≡ not b → free ≡ false → b ≡ true
not_false free true is h = refl
not_false free false is h = cc

module _ (pid first end : ℕ) (range : first < end) where
  abbrev NoneOverlaps : Map (ℕ × ℕ) Area → Type 0
  NoneOverlaps areas = AllByRecursion (λ a. overlaps pid first end a ≡ false) areas

  -- an area of the process that does not overlap the range is behind it or in front of it
  side : (a : PlacedArea) → (a.0.0 == pid) ≡ true → overlaps pid first end a ≡ false → (end ≤ a.0.1) ⊎ (behind_last a ≤ first)
  side a own none =
      elim (nat_lt a.0.1 end) as (λ b. nat_lt a.0.1 end ≡ b → (end ≤ a.0.1) ⊎ (behind_last a ≤ first)) [
        | false ↦ λ b. inl (ltb-false a.0.1 end b)
        | true ↦ λ b. elim (nat_lt first (behind_last a)) as (λ c. nat_lt first (behind_last a) ≡ c → (end ≤ a.0.1) ⊎ (behind_last a ≤ first)) [
          | false ↦ λ c. inr (ltb-false first (behind_last a) c)
          | true ↦ λ c. absurd (true_false (sym (and_from _ _ (and_from _ _ own b) c) ∙ none))
        ] refl
      ] refl

  stays : (a : PlacedArea) → 0 < a.1.pages → overlaps pid first end a ≡ false → parts_outside pid first end a ≡ a ∷ []
  stays a some none =
      elim (a.0.0 == pid) as (λ b. (a.0.0 == pid) ≡ b → cond b (before first a ++ behind end a) (a ∷ []) ≡ a ∷ []) [
        | false ↦ λ b. refl
        | true ↦ λ b. elim (side a b none) as (λ _. before first a ++ behind end a ≡ a ∷ []) [
          | inl low ↦
              ap (λ xs. xs ++ behind end a) (before_none first a (omega (arith, low, range))) ∙ behind_some end a some (omega (arith, some, low))
              ∙ one (same_placed (rest_of end a) a refl (omega (arith, low)) (omega (arith, low)) refl refl (omega (arith, low)))
          | inr high ↦
              ap (λ xs. xs ++ behind end a) (before_some first a (omega (arith, some, high))) ∙ ap (λ xs. front_of first a ∷ xs) (behind_none end a some (omega (arith, high, range)))
              ∙ one (same_placed (front_of first a) a refl refl (omega (arith, high)) refl refl refl)
        ]
      ] refl

  shows_none : (a : PlacedArea) → (end ≤ a.0.1) ⊎ (behind_last a ≤ first) → pages_between first end a ≡ []
  shows_none a where_it_is =
      let count : min end (a.0.1 + a.1.pages) - max first a.0.1 ≡ 0 =
      elim where_it_is as (λ _. min end (a.0.1 + a.1.pages) - max first a.0.1 ≡ 0) [ inl low ↦ omega (arith, low) | inr high ↦ omega (arith, high) ] in
      ap (pages_from a.1.page.segment (a.1.page.index + (max first a.0.1 - a.0.1))) count

  areas_stay : (areas : Map (ℕ × ℕ) Area) → AllByRecursion IsSomePages areas → NoneOverlaps areas → areas_left areas pid first end ≡ areas
  areas_stay [] some none = refl
  areas_stay (a ∷ areas) some none = ap (λ xs. xs ++ areas_left areas pid first end) (stays a some.0 none.0) ∙ ap (λ xs. a ∷ xs) (areas_stay areas some.1 none.1)

  none_gone : (areas : Map (ℕ × ℕ) Area) → NoneOverlaps areas → pages_gone areas pid first end ≡ []
  none_gone [] none = refl
  none_gone (a ∷ areas) none =
      let gone = filter (λ x. x.0.0 == pid) areas in
      elim (a.0.0 == pid) as (λ b. (a.0.0 == pid) ≡ b → flat_map (pages_between first end) (cond b (a ∷ gone) gone) ≡ []) [
        | true ↦ λ b. ap (λ xs. xs ++ flat_map (pages_between first end) gone) (shows_none a (side a b none.0)) ∙ none_gone areas none.1
        | false ↦ λ b. none_gone areas none.1
      ] refl

module _ (t : Table) (place : Map Page ℕ) (h : IsWellFormed (mapping_of t place)) (pid first end : ℕ) (range : first < end) (free : true ≡ not (list_any (overlaps pid first end) t.areas)) where
  none_overlaps : AllByRecursion (λ a. overlaps pid first end a ≡ false) t.areas
  none_overlaps = all_from_none t.areas (overlaps pid first end) (not_true _ free)

  same_areas : areas_left t.areas pid first end ≡ t.areas
  same_areas = areas_stay pid first end range t.areas h.whole none_overlaps

  no_pages : pages_gone t.areas pid first end ≡ []
  no_pages = none_gone pid first end range t.areas none_overlaps

  pub same_removed : mapping_of t place ≡ after_removal (mapping_of t place) pid first end
  same_removed = sym (
      ap (λ (areas : Map (ℕ × ℕ) Area). record (mapping_of t place) { areas = areas; segments = segments_left t.segments areas; place = fold (place_left areas) place (pages_gone t.areas pid first end) }) same_areas
      ∙ ap (λ (segments : Map ℕ Segment). record (mapping_of t place) { segments = segments; place = fold (place_left t.areas) place (pages_gone t.areas pid first end) }) (sym (all_left t.areas t.segments h.shown))
      ∙ ap (λ (pages : List Page). record (mapping_of t place) { place = fold (place_left t.areas) place pages }) no_pages
      )

  pub none_lost : [] ≡ frames_lost (mapping_of t place) pid first end
  none_lost = sym (ap (all_lost (areas_left t.areas pid first end) place) no_pages)

  pub none_hidden : (q v : ℕ) → page_at t.areas q v ≡ page_outside t.areas pid first end q v
  none_hidden q v = ap (λ areas. page_at areas q v) (sym same_areas) ∙ left_shows pid first end (omega (arith, range)) t.areas h.whole h.apart q v
