-- Stretches of pages that are covered by equally many areas.
use Rattle.std.proofs.Common.{◌≡◌, ℕ, zero, suc, ◌+◌, ◌-◌, ◌≤◌, ◌<◌, List, [], ◌∷◌, ◌++◌, true, false, refl, sym, ap, ◌∙◌, arith, append-nil}
use Rattle.std.specs.Prelude.{None, if◌then◌else◌}
use Rattle.std.specs.List.{fold}
use Rattle.nm_types.specs.declared.page.Page.{Page}
use Rattle.nm_types.specs.declared.area.Area.{Area}
use Rattle.nm_types.specs.declared.area.Segment.{Segment}
use Rattle.nm_types.specs.Map.{Map, get, without, page_cmp}
use Rattle.nm_coverage.specs.declared.step.Step.{Step}
use Rattle.nm_areas.specs.Coverage.{step_at, IsCoverage, ends_at, covers_at}
use Rattle.nm_model.specs.definitions.Areas.{is_shared}
use Rattle.nm_model.specs.definitions.Areas.{pages_from, is_covered}
use Rattle.nm_model.specs.definitions.Areas.{place_left, with_its_frame, lost_page, all_lost, page_in, pages_of_area}
use Rattle.nm_areas.proofs.Counted.{areas_flat, not_covered, some_cover}
use Rattle.nm_areas.proofs.Lost.{NoneHas, all_freed_next, all_left_next, freed_next, left_next, to_lost, to_left}
use Rattle.nm_areas.proofs.Steps.{none_ends, flat_same}

pages_append : (s at n r : ℕ) → pages_from s at (n + r) ≡ pages_from s at n ++ pages_from s (at + n) r
pages_append s at zero r =
    let same : zero + r ≡ r = omega arith in
    let here : at ≡ at + zero = omega arith in
    ap (pages_from s at) same ∙ ap (λ k. pages_from s k r) here
pages_append s at (suc n) r =
    let same : suc n + r ≡ suc (n + r) = omega arith in
    let there : (at + 1) + n ≡ at + suc n = omega arith in
    ap (pages_from s at) same ∙ ap (λ ps. page_in s at ∷ ps) (pages_append s (at + 1) n r) ∙ ap (λ k. page_in s at ∷ pages_from s (at + 1) n ++ pages_from s k r) there

pages_parts : (s at change past : ℕ) → at ≤ change → change ≤ past → pages_from s at (past - at) ≡ pages_from s at (change - at) ++ pages_from s change (past - change)
pages_parts s at change past low high =
    let sum : past - at ≡ (change - at) + (past - change) = omega (arith, low, high) in
    let there : at + (change - at) ≡ change = omega (arith, low) in
    ap (pages_from s at) sum ∙ pages_append s at (change - at) (past - change) ∙ ap (λ k. pages_from s at (change - at) ++ pages_from s k (past - change)) there

module _ (left : Map (ℕ × ℕ) Area) (s : ℕ) where
  -- no page of a stretch is covered
  free_left : (place : Map Page ℕ) (at n : ℕ) → ((i : ℕ) → at ≤ i → i < at + n → is_covered left (page_in s i) ≡ false) → fold (place_left []) place (pages_from s at n) ≡ fold (place_left left) place (pages_from s at n)
  free_left place at zero h = refl
  free_left place at (suc n) h =
      let here = ap (λ b. if b then place else without page_cmp place (page_in s at)) (sym (h at (omega arith) (omega arith))) in
      ap (λ m. fold (place_left []) m (pages_from s (at + 1) n)) here
      ∙ free_left (place_left left place (page_in s at)) (at + 1) n (λ i low high. h i (omega (arith, low)) (omega (arith, high)))

  free_lost : (place : Map Page ℕ) (at n : ℕ) → ((i : ℕ) → at ≤ i → i < at + n → is_covered left (page_in s i) ≡ false) → all_lost [] place (pages_from s at n) ≡ all_lost left place (pages_from s at n)
  free_lost place at zero h = refl
  free_lost place at (suc n) h =
      let p = page_in s at in
      let none = sym (h at (omega arith) (omega arith)) in
      ap (λ b. (if b then [] else with_its_frame p (get page_cmp place p)) ++ all_lost [] (place_left [] place p) (pages_from s (at + 1) n)) none
      ∙ ap (λ b. lost_page left place p ++ all_lost [] (if b then place else without page_cmp place p) (pages_from s (at + 1) n)) none
      ∙ ap (λ l. lost_page left place p ++ l) (free_lost (place_left left place p) (at + 1) n (λ i low high. h i (omega (arith, low)) (omega (arith, high))))

  -- each page of a stretch is covered
  kept_left : (place : Map Page ℕ) (at n : ℕ) → ((i : ℕ) → at ≤ i → i < at + n → is_covered left (page_in s i) ≡ true) → fold (place_left left) place (pages_from s at n) ≡ place
  kept_left place at zero h = refl
  kept_left place at (suc n) h =
      ap (λ b. fold (place_left left) (if b then place else without page_cmp place (page_in s at)) (pages_from s (at + 1) n)) (h at (omega arith) (omega arith))
      ∙ kept_left place (at + 1) n (λ i low high. h i (omega (arith, low)) (omega (arith, high)))

  kept_lost : (place : Map Page ℕ) (at n : ℕ) → ((i : ℕ) → at ≤ i → i < at + n → is_covered left (page_in s i) ≡ true) → all_lost left place (pages_from s at n) ≡ []
  kept_lost place at zero h = refl
  kept_lost place at (suc n) h =
      let p = page_in s at in
      let all = h at (omega arith) (omega arith) in
      ap (λ b. (if b then [] else with_its_frame p (get page_cmp place p)) ++ all_lost left (place_left left place p) (pages_from s (at + 1) n)) all
      ∙ ap (λ b. all_lost left (if b then place else without page_cmp place p) (pages_from s (at + 1) n)) all
      ∙ kept_lost place (at + 1) n (λ i low high. h i (omega (arith, low)) (omega (arith, high)))

-- from one change to the next
module _ (m : Map Page Step) (segments : Map ℕ Segment) (left : Map (ℕ × ℕ) Area) (cover : IsCoverage m segments left) (s : ℕ) (shared : is_shared segments s ≡ true) (at change past : ℕ) (low : at < change) (high : change ≤ past)
    (none : (i : ℕ) → at < i → i < change → get page_cmp m (page_in s i) ≡ None) (place : Map Page ℕ) (before : List (Page × ℕ)) where
  same_count : (i : ℕ) → at ≤ i → i < change → covers_at left (page_in s i) ≡ covers_at left (page_in s at)
  same_count i from to =
      flat_same (ends_at left) (covers_at left) (areas_flat left) s at (i - at) i (omega (arith, from))
      (λ j up down.
      let q = page_in s j in
      let here = ap (λ b. step_at (if b then ends_at left q else 0) (if b then covers_at left q else 0)) shared in
      none_ends (ends_at left q) (covers_at left q) (sym here ∙ sym (cover q) ∙ none j up (omega (arith, down, to))))

  parts : pages_from s at (past - at) ≡ pages_from s at (change - at) ++ pages_from s change (past - change)
  parts = pages_parts s at change past (omega (arith, low)) high

  module _ (count : ℕ) (is : count ≡ covers_at left (page_in s at)) where
    -- another area covers it
    module _ (some : count ≡ 0 → ⊥) where
      an_area : (i : ℕ) → at ≤ i → i < at + (change - at) → is_covered left (page_in s i) ≡ true
      an_area i from to = some_cover left (page_in s i) (λ e. some (is ∙ sym (same_count i from (omega (arith, to, low))) ∙ e))

      pub kept_freed : (total : List (Page × ℕ)) → before ++ all_lost left place (pages_from s at (past - at)) ≡ total → before ++ all_lost left place (pages_from s change (past - change)) ≡ total
      kept_freed total so_far =
          all_freed_next left place place (pages_from s at (change - at)) (pages_from s change (past - change)) (pages_from s at (past - at)) (sym (kept_left left s place at (change - at) an_area)) parts before before total
          (sym (append-nil before) ∙ ap (λ l. before ++ l) (sym (kept_lost left s place at (change - at) an_area))) so_far

      pub kept_places : (total : Map Page ℕ) → fold (place_left left) place (pages_from s at (past - at)) ≡ total → fold (place_left left) place (pages_from s change (past - change)) ≡ total
      kept_places total so_far =
          all_left_next left place place (pages_from s at (change - at)) (pages_from s change (past - change)) (pages_from s at (past - at)) (sym (kept_left left s place at (change - at) an_area)) parts total so_far

-- from one page that has a frame to the next
module _ (m : Map Page Step) (segments : Map ℕ Segment) (left : Map (ℕ × ℕ) Area) (cover : IsCoverage m segments left) (s : ℕ) (shared : is_shared segments s ≡ true) (at found past : ℕ) (low : at ≤ found) (high : found < past)
    (place : Map Page ℕ) (absent : NoneHas left place s at found) (before : List (Page × ℕ)) (count : ℕ) (is : count ≡ covers_at left (page_in s found)) where
  -- no other area covers it
  module _ (free : count ≡ 0) (new : Map Page ℕ) (gone : new ≡ place_left [] place (page_in s found)) where
    uncovered : is_covered left (page_in s found) ≡ false
    uncovered = not_covered left (page_in s found) (sym is ∙ free)

    gone_left : new ≡ place_left left place (page_in s found)
    gone_left = gone ∙ ap (λ b. if b then place else without page_cmp place (page_in s found)) (sym uncovered)

    pub free_freed : (after total : List (Page × ℕ)) → after ≡ before ++ lost_page [] place (page_in s found) → before ++ all_lost left place (pages_from s at (past - at)) ≡ total → after ++ all_lost left new (pages_from s (found + 1) (past - (found + 1))) ≡ total
    free_freed after total more so_far =
        freed_next left place new s at found past low high absent gone_left before after total
        (more ∙ ap (λ b. before ++ (if b then [] else with_its_frame (page_in s found) (get page_cmp place (page_in s found)))) (sym uncovered)) so_far

    pub free_places : (total : Map Page ℕ) → fold (place_left left) place (pages_from s at (past - at)) ≡ total → fold (place_left left) new (pages_from s (found + 1) (past - (found + 1))) ≡ total
    free_places total so_far = left_next left place new s at found past low high absent gone_left total so_far

  -- another area covers it, and as many cover the pages up to the next step
  module _ (some : count ≡ 0 → ⊥) (change : ℕ) (up : found < change) (end : change ≤ past) (none : (i : ℕ) → found < i → i < change → get page_cmp m (page_in s i) ≡ None) where
    pub skip_freed : (total : List (Page × ℕ)) → before ++ all_lost left place (pages_from s at (past - at)) ≡ total → before ++ all_lost left place (pages_from s change (past - change)) ≡ total
    skip_freed total so_far =
        kept_freed m segments left cover s shared found change past up end none place before count is some total
        (ap (λ l. before ++ l) (sym (to_lost left place s at found past low high absent)) ∙ so_far)

    pub skip_places : (total : Map Page ℕ) → fold (place_left left) place (pages_from s at (past - at)) ≡ total → fold (place_left left) place (pages_from s change (past - change)) ≡ total
    skip_places total so_far =
        kept_places m segments left cover s shared found change past up end none place before count is some total
        (sym (to_left left place s at found past low high absent) ∙ so_far)

-- none covers a page of an area
pub alone_left : (left : Map (ℕ × ℕ) Area) (x : Area) (place : Map Page ℕ) → ((i : ℕ) → x.page.index ≤ i → i < x.page.index + x.pages → is_covered left (page_in x.page.segment i) ≡ false)
    → fold (place_left []) place (pages_of_area x) ≡ fold (place_left left) place (pages_of_area x)
alone_left left x place none = free_left left x.page.segment place x.page.index x.pages none

pub alone_lost : (left : Map (ℕ × ℕ) Area) (x : Area) (place : Map Page ℕ) → ((i : ℕ) → x.page.index ≤ i → i < x.page.index + x.pages → is_covered left (page_in x.page.segment i) ≡ false)
    → all_lost [] place (pages_of_area x) ≡ all_lost left place (pages_of_area x)
alone_lost left x place none = free_lost left x.page.segment place x.page.index x.pages none
