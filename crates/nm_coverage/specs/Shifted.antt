-- How the numbers of areas in steps grow and fall. They wrap around at 2^64.
use Rattle.std.specs.Prelude.{ℕ, ◌+◌, ◌-◌, ◌^◌, ◌%◌, ◌==◌, nat_lt, nat_le, Bool, true, false, ◌&&◌, not, if◌then◌else◌}
use Rattle.std.specs.Ordering.{is_le}
use Rattle.nm_types.specs.declared.page.Page.{Page}
use Rattle.nm_types.specs.Map.{page_cmp}
use Rattle.nm_coverage.specs.declared.step.Step.{Step}

-- one more, or one less
abbrev pub one_more_or_less : Bool → ℕ → ℕ
one_more_or_less true n = if n == 2 ^ 64 - 1 then 0 else n + 1
one_more_or_less false n = if n == 0 then 2 ^ 64 - 1 else n - 1

-- one more area covers the step's page, or one fewer
abbrev pub shift_step : Bool → Step → Step
shift_step up step = record step { covers = one_more_or_less up step.covers }

-- whether a page is one of a segment's pages from an index up to another
abbrev pub is_between : ℕ → ℕ → ℕ → Page → Bool
is_between segment first past p = (segment == p.segment) && (nat_le first p.index && nat_lt p.index past)

-- one more area, or one fewer, over a step at one of these pages, and no change elsewhere
abbrev pub shifted_in : ℕ → ℕ → ℕ → Bool → Page → Step → Step
shifted_in segment first past up p step = if is_between segment first past p then shift_step up step else step

-- whether a page is at or after one page and before another
abbrev pub is_page_within : Page → Page → Page → Bool
is_page_within from to p = is_le (page_cmp from p) && not (is_le (page_cmp to p))

-- the step with a number added to how many areas cover its page
abbrev pub with_add : ℕ → Step → Step
with_add n step = record step { covers = (step.covers + n) % 2 ^ 64 }
