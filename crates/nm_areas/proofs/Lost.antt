-- Pages that lose their frames, one after another.
use Rattle.std.proofs.Common.{◌≡◌, ℕ, zero, suc, ◌+◌, ◌-◌, ◌≤◌, ◌<◌, List, [], ◌∷◌, ◌++◌, true, false, cond, refl, sym, ap, ◌∙◌, arith, append_assoc, append-nil}
use Rattle.std.specs.Prelude.{Some, None, if◌then◌else◌}
use Rattle.std.specs.List.{flat_map, fold}
use Rattle.std.specs.List.Sorted.{IsStrictlySortedBy}
use Rattle.std.specs.Map.{keys_of}
use Rattle.std.specs.Ordering.{is_eq}
use Rattle.std.proofs.lemmas.List.Sums.{fold-append}
use Rattle.nm_types.specs.declared.page.Page.{Page}
use Rattle.nm_types.specs.declared.area.Area.{Area}
use Rattle.nm_types.specs.Map.{Map, get, without, page_cmp, spot_cmp}
use Rattle.nm_types.proofs.Cases.{some_none}
use Rattle.nm_model.specs.definitions.Areas.{pages_from, is_covered}
use Rattle.nm_model.specs.definitions.Areas.{place_left, with_its_frame, lost_page, all_lost, pages_of_area, pages_of_own, page_in}
use Rattle.nm_areas.proofs.Own.{NoneBegins, own_next, own_none}

pub without_none : (place : Map Page ℕ) (p : Page) → get page_cmp place p ≡ None → without page_cmp place p ≡ place
without_none [] p h = refl
without_none (e ∷ place) p h =
    elim (is_eq (page_cmp p e.0)) as (λ b. cond b (Some e.1) (get page_cmp place p) ≡ None → cond b place (e ∷ without page_cmp place p) ≡ e ∷ place) [
      | true ↦ λ k. absurd (some_none k)
      | false ↦ λ k. ap (λ es. e ∷ es) (without_none place p k)
    ] h

module _ (areas : Map (ℕ × ℕ) Area) where
  pub lost_append : (place : Map Page ℕ) (xs ys : List Page) → all_lost areas place (xs ++ ys) ≡ all_lost areas place xs ++ all_lost areas (fold (place_left areas) place xs) ys
  lost_append place [] ys = refl
  lost_append place (p ∷ xs) ys =
      ap (λ l. lost_page areas place p ++ l) (lost_append (place_left areas place p) xs ys)
      ∙ sym (append_assoc (lost_page areas place p) (all_lost areas (place_left areas place p) xs) (all_lost areas (fold (place_left areas) (place_left areas place p) xs) ys))

  -- a page without a frame
  absent_left : (place : Map Page ℕ) (p : Page) → get page_cmp place p ≡ None → place_left areas place p ≡ place
  absent_left place p h = elim (is_covered areas p) as (λ b. (if b then place else without page_cmp place p) ≡ place) [ true ↦ refl | false ↦ without_none place p h ]

  absent_lost : (place : Map Page ℕ) (p : Page) → get page_cmp place p ≡ None → lost_page areas place p ≡ []
  absent_lost place p h = elim (is_covered areas p) as (λ b. (if b then [] else with_its_frame p (get page_cmp place p)) ≡ []) [ true ↦ refl | false ↦ ap (with_its_frame p) h ]

  -- no page of a stretch has a frame
  abbrev pub NoneHas : Map Page ℕ → ℕ → ℕ → ℕ → Type 0
  NoneHas place segment at to = (i : ℕ) → at ≤ i → i < to → get page_cmp place (page_in segment i) ≡ None

  skip_lost : (place : Map Page ℕ) (segment n r at : ℕ) → NoneHas place segment at (at + n) → all_lost areas place (pages_from segment at (n + r)) ≡ all_lost areas place (pages_from segment (at + n) r)
  skip_lost place segment zero r at h =
      let same : zero + r ≡ r = omega arith in
      let here : at ≡ at + zero = omega arith in
      ap (λ k. all_lost areas place (pages_from segment at k)) same ∙ ap (λ k. all_lost areas place (pages_from segment k r)) here
  skip_lost place segment (suc n) r at h =
      let same : suc n + r ≡ suc (n + r) = omega arith in
      let there : (at + 1) + n ≡ at + suc n = omega arith in
      let p = page_in segment at in
      let none = h at (omega arith) (omega arith) in
      ap (λ k. all_lost areas place (pages_from segment at k)) same
      ∙ ap (λ l. l ++ all_lost areas (place_left areas place p) (pages_from segment (at + 1) (n + r))) (absent_lost place p none)
      ∙ ap (λ m. all_lost areas m (pages_from segment (at + 1) (n + r))) (absent_left place p none)
      ∙ skip_lost place segment n r (at + 1) (λ i low high. h i (omega (arith, low)) (omega (arith, high)))
      ∙ ap (λ k. all_lost areas place (pages_from segment k r)) there

  skip_left : (place : Map Page ℕ) (segment n r at : ℕ) → NoneHas place segment at (at + n) → fold (place_left areas) place (pages_from segment at (n + r)) ≡ fold (place_left areas) place (pages_from segment (at + n) r)
  skip_left place segment zero r at h =
      let same : zero + r ≡ r = omega arith in
      let here : at ≡ at + zero = omega arith in
      ap (λ k. fold (place_left areas) place (pages_from segment at k)) same ∙ ap (λ k. fold (place_left areas) place (pages_from segment k r)) here
  skip_left place segment (suc n) r at h =
      let same : suc n + r ≡ suc (n + r) = omega arith in
      let there : (at + 1) + n ≡ at + suc n = omega arith in
      let p = page_in segment at in
      let none = h at (omega arith) (omega arith) in
      ap (λ k. fold (place_left areas) place (pages_from segment at k)) same
      ∙ ap (λ m. fold (place_left areas) m (pages_from segment (at + 1) (n + r))) (absent_left place p none)
      ∙ skip_left place segment n r (at + 1) (λ i low high. h i (omega (arith, low)) (omega (arith, high)))
      ∙ ap (λ k. fold (place_left areas) place (pages_from segment k r)) there

  -- from the first page that has a frame on
  module _ (place : Map Page ℕ) (segment at s past : ℕ) (low : at ≤ s) (high : s < past) (none : NoneHas place segment at s) where
    parts_add : past - at ≡ (s - at) + suc (past - (s + 1))
    parts_add = omega (arith, low, high)

    there : at + (s - at) ≡ s
    there = omega (arith, low)

    none_there : NoneHas place segment at (at + (s - at))
    none_there i from to = none i from (omega (arith, to, there))

    pub next_lost : all_lost areas place (pages_from segment at (past - at))
        ≡ lost_page areas place (page_in segment s) ++ all_lost areas (place_left areas place (page_in segment s)) (pages_from segment (s + 1) (past - (s + 1)))
    next_lost =
        ap (λ k. all_lost areas place (pages_from segment at k)) parts_add ∙ skip_lost place segment (s - at) (suc (past - (s + 1))) at none_there
        ∙ ap (λ k. all_lost areas place (pages_from segment k (suc (past - (s + 1))))) there

    pub next_left : fold (place_left areas) place (pages_from segment at (past - at)) ≡ fold (place_left areas) (place_left areas place (page_in segment s)) (pages_from segment (s + 1) (past - (s + 1)))
    next_left =
        ap (λ k. fold (place_left areas) place (pages_from segment at k)) parts_add ∙ skip_left place segment (s - at) (suc (past - (s + 1))) at none_there
        ∙ ap (λ k. fold (place_left areas) place (pages_from segment k (suc (past - (s + 1))))) there

    -- up to that page
    to_page : past - at ≡ (s - at) + (past - s)
    to_page = omega (arith, low, high)

    pub to_lost : all_lost areas place (pages_from segment at (past - at)) ≡ all_lost areas place (pages_from segment s (past - s))
    to_lost =
        ap (λ k. all_lost areas place (pages_from segment at k)) to_page ∙ skip_lost place segment (s - at) (past - s) at none_there ∙ ap (λ k. all_lost areas place (pages_from segment k (past - s))) there

    pub to_left : fold (place_left areas) place (pages_from segment at (past - at)) ≡ fold (place_left areas) place (pages_from segment s (past - s))
    to_left =
        ap (λ k. fold (place_left areas) place (pages_from segment at k)) to_page ∙ skip_left place segment (s - at) (past - s) at none_there
        ∙ ap (λ k. fold (place_left areas) place (pages_from segment k (past - s))) there

  -- where no further page has one
  module _ (place : Map Page ℕ) (segment at past : ℕ) (up : at ≤ past) (none : NoneHas place segment at past) where
    whole : past - at ≡ (past - at) + 0
    whole = omega arith

    none_here : NoneHas place segment at (at + (past - at))
    none_here i from to = none i from (omega (arith, to, up))

    pub end_lost : all_lost areas place (pages_from segment at (past - at)) ≡ []
    end_lost = ap (λ k. all_lost areas place (pages_from segment at k)) whole ∙ skip_lost place segment (past - at) 0 at none_here

    pub end_left : fold (place_left areas) place (pages_from segment at (past - at)) ≡ place
    end_left = ap (λ k. fold (place_left areas) place (pages_from segment at k)) whole ∙ skip_left place segment (past - at) 0 at none_here

  -- ---- step by step

  -- one page
  module _ (place new : Map Page ℕ) (segment at s past : ℕ) (low : at ≤ s) (high : s < past) (none : NoneHas place segment at s) (is : new ≡ place_left areas place (page_in segment s)) where
    pub freed_next : (before after total : List (Page × ℕ)) → after ≡ before ++ lost_page areas place (page_in segment s) → before ++ all_lost areas place (pages_from segment at (past - at)) ≡ total
        → after ++ all_lost areas new (pages_from segment (s + 1) (past - (s + 1))) ≡ total
    freed_next before after total more so_far =
        let rest = pages_from segment (s + 1) (past - (s + 1)) in
        ap (λ l. l ++ all_lost areas new rest) more ∙ append_assoc before (lost_page areas place (page_in segment s)) (all_lost areas new rest)
        ∙ ap (λ m. before ++ (lost_page areas place (page_in segment s) ++ all_lost areas m rest)) is
        ∙ ap (λ l. before ++ l) (sym (next_lost place segment at s past low high none)) ∙ so_far

    pub left_next : (total : Map Page ℕ) → fold (place_left areas) place (pages_from segment at (past - at)) ≡ total → fold (place_left areas) new (pages_from segment (s + 1) (past - (s + 1))) ≡ total
    left_next total so_far = ap (λ m. fold (place_left areas) m (pages_from segment (s + 1) (past - (s + 1)))) is ∙ sym (next_left place segment at s past low high none) ∙ so_far

  pub freed_end : (place : Map Page ℕ) (segment at past : ℕ) → at ≤ past → NoneHas place segment at past → (before total : List (Page × ℕ)) → before ++ all_lost areas place (pages_from segment at (past - at)) ≡ total → before ≡ total
  freed_end place segment at past up none before total so_far = sym (append-nil before) ∙ ap (λ l. before ++ l) (sym (end_lost place segment at past up none)) ∙ so_far

  pub left_end : (place : Map Page ℕ) (segment at past : ℕ) → at ≤ past → NoneHas place segment at past → (total : Map Page ℕ) → fold (place_left areas) place (pages_from segment at (past - at)) ≡ total → place ≡ total
  left_end place segment at past up none total so_far = sym (end_left place segment at past up none) ∙ so_far

  -- the pages of one area
  module _ (place new : Map Page ℕ) (pages rest all : List Page) (is : new ≡ fold (place_left areas) place pages) (parts : all ≡ pages ++ rest) where
    pub all_freed_next : (before after total : List (Page × ℕ)) → after ≡ before ++ all_lost areas place pages → before ++ all_lost areas place all ≡ total → after ++ all_lost areas new rest ≡ total
    all_freed_next before after total more so_far =
        ap (λ l. l ++ all_lost areas new rest) more ∙ append_assoc before (all_lost areas place pages) (all_lost areas new rest)
        ∙ ap (λ m. before ++ (all_lost areas place pages ++ all_lost areas m rest)) is
        ∙ ap (λ l. before ++ l) (sym (lost_append place pages rest)) ∙ ap (λ l. before ++ all_lost areas place l) (sym parts) ∙ so_far

    pub all_left_next : (total : Map Page ℕ) → fold (place_left areas) place all ≡ total → fold (place_left areas) new rest ≡ total
    all_left_next total so_far =
        ap (λ m. fold (place_left areas) m rest) is ∙ sym (fold-append (place_left areas) place pages rest) ∙ ap (fold (place_left areas) place) (sym parts) ∙ so_far

-- the areas that are still to come
pub own_pages_next : (areas : Map (ℕ × ℕ) Area) (pid at s end : ℕ) (x : Area) → s < end → IsStrictlySortedBy spot_cmp (keys_of areas) → at ≤ s → get spot_cmp areas (pid, s) ≡ Some x → NoneBegins areas pid at s
    → pages_of_own pid at end areas ≡ pages_of_area x ++ pages_of_own pid (s + 1) end areas
own_pages_next areas pid at s end x high sorted low found none = ap (flat_map (λ a. pages_of_area a.1)) (own_next pid s end x high areas at sorted low found none)

pub own_pages_end : (areas : Map (ℕ × ℕ) Area) (pid at end : ℕ) → NoneBegins areas pid at end → pages_of_own pid at end areas ≡ []
own_pages_end areas pid at end none = ap (flat_map (λ a. pages_of_area a.1)) (own_none areas pid at end none)

-- one of them
module _ (left areas : Map (ℕ × ℕ) Area) (pid at s end : ℕ) (x : Area) (high : s < end) (sorted : IsStrictlySortedBy spot_cmp (keys_of areas)) (low : at ≤ s) (found : get spot_cmp areas (pid, s) ≡ Some x) (none : NoneBegins areas pid at s)
    (place new : Map Page ℕ) (is : new ≡ fold (place_left left) place (pages_of_area x)) where
  pub own_freed_next : (before after total : List (Page × ℕ)) → after ≡ before ++ all_lost left place (pages_of_area x) → before ++ all_lost left place (pages_of_own pid at end areas) ≡ total
      → after ++ all_lost left new (pages_of_own pid (s + 1) end areas) ≡ total
  own_freed_next before after total more so_far =
      all_freed_next left place new (pages_of_area x) (pages_of_own pid (s + 1) end areas) (pages_of_own pid at end areas) is (own_pages_next areas pid at s end x high sorted low found none) before after total more so_far

  pub own_left_next : (total : Map Page ℕ) → fold (place_left left) place (pages_of_own pid at end areas) ≡ total → fold (place_left left) new (pages_of_own pid (s + 1) end areas) ≡ total
  own_left_next total so_far =
      all_left_next left place new (pages_of_area x) (pages_of_own pid (s + 1) end areas) (pages_of_own pid at end areas) is (own_pages_next areas pid at s end x high sorted low found none) total so_far
