-- How many areas cover each page of the shared segments, as one step function for each segment.
use Rattle.std.specs.Prelude.{◌≡◌, ℕ, suc, ◌+◌, ◌==◌, nat_lt, ◌&&◌, Bool, List, [], ◌∷◌, Option, Some, None, if◌then◌else◌}
use Rattle.nm_types.specs.declared.page.Page.{Page}
use Rattle.nm_types.specs.declared.area.Area.{Area}
use Rattle.nm_types.specs.declared.area.Segment.{Segment}
use Rattle.nm_types.specs.Map.{Map, get, page_cmp, same_page}
use Rattle.nm_types.specs.State.{PlacedArea, covers, page_of}
use Rattle.nm_coverage.specs.declared.step.Step.{Step}
use Rattle.nm_model.specs.definitions.Areas.{is_shared}
use Rattle.nm_model.specs.definitions.Areas.{shows_page}
use Rattle.nm_model.specs.definitions.Areas.{page_in}

-- the sum of a number of each area
abbrev pub sum_over_areas : (PlacedArea → ℕ) → List PlacedArea → ℕ
sum_over_areas number [] = 0
sum_over_areas number (a ∷ areas) = number a + sum_over_areas number areas

-- the page after an area's last one
abbrev pub end_of : Area → Page
end_of area = page_in area.page.segment (area.page.index + area.pages)

-- how many of an area's two ends are at a page
abbrev pub ends_of : Page → Area → ℕ
ends_of p area = (if same_page area.page p then 1 else 0) + (if same_page (end_of area) p then 1 else 0)

-- 1 where an area covers a page, 0 elsewhere
abbrev pub covers_of : Page → Area → ℕ
covers_of p area = if shows_page p area then 1 else 0

-- how many areas begin or end at a page ...
abbrev pub ends_at : Map (ℕ × ℕ) Area → Page → ℕ
ends_at areas p = sum_over_areas (λ a. ends_of p a.1) areas

-- ... and how many cover it
abbrev pub covers_at : Map (ℕ × ℕ) Area → Page → ℕ
covers_at areas p = sum_over_areas (λ a. covers_of p a.1) areas

-- the step at a page: none where no area begins or ends
abbrev pub step_at : ℕ → ℕ → Option Step
step_at ends covers = if ends == 0 then None else Some (record { covers = covers; ends = ends })

-- there are steps exactly where areas begin or end, each with both numbers
abbrev pub IsSteps : Map Page Step → (Page → ℕ) → (Page → ℕ) → Type 0
IsSteps steps ends covers = (p : Page) → get page_cmp steps p ≡ step_at (ends p) (covers p)

-- a number of each page of a shared segment, and 0 for pages of private segments
abbrev pub of_shared : Map ℕ Segment → (Page → ℕ) → Page → ℕ
of_shared segments number p = if is_shared segments p.segment then number p else 0

-- the steps are those of the areas over shared segments
abbrev pub IsCoverage : Map Page Step → Map ℕ Segment → Map (ℕ × ℕ) Area → Type 0
IsCoverage steps segments areas = IsSteps steps (of_shared segments (ends_at areas)) (of_shared segments (covers_at areas))

-- the steps are those of these areas, and of another area if that is over a shared segment
abbrev pub IsWith : Map Page Step → Map ℕ Segment → Map (ℕ × ℕ) Area → Area → Bool → Type 0
IsWith steps segments areas area shared =
    IsSteps steps (λ p. of_shared segments (ends_at areas) p + (if shared then ends_of p area else 0))
    (λ p. of_shared segments (covers_at areas) p + (if shared then covers_of p area else 0))

-- where no area begins or ends, as many areas cover a page as the page before it, and no area covers a first page
abbrev pub IsFlat : (Page → ℕ) → (Page → ℕ) → Type 0
IsFlat ends covers =
    ((s : ℕ) → ends (page_in s 0) ≡ 0 → covers (page_in s 0) ≡ 0)
    × ((s i : ℕ) → ends (page_in s (suc i)) ≡ 0 → covers (page_in s (suc i)) ≡ covers (page_in s i))

-- how many more ends an area has at a page if it is split at a page number: one for each part
abbrev pub split_of : ℕ → ℕ → Page → PlacedArea → ℕ
split_of pid at p a = if covers a pid at && (nat_lt a.0.1 at && same_page (page_of a at) p) then 2 else 0

-- the same over all areas, of which at most one covers the page number
abbrev pub splits_at : Map (ℕ × ℕ) Area → ℕ → ℕ → Page → ℕ
splits_at areas pid at p = sum_over_areas (split_of pid at p) areas
