-- How a page is found among those that have moved.
use Rattle.std.specs.Prelude.{◌≡◌, ◌-◌, ◌≤◌, ◌<◌, List, length, take, drop, get_or}
use Rattle.std.specs.declared.cmp.Ordering.TheVariants.{Less}
use Rattle.std.specs.BTreeSet.{contains}
use Rattle.std.specs.List.Sorted.{IsNonDecreasingBy}
use Rattle.std.specs.Ordering.{ordering_index}
use Rattle.nm_types.specs.declared.page.Page.{Page}
use Rattle.nm_types.specs.Map.{page_cmp}
use Rattle.nm_types.specs.declared.page_move.PageMove.{PageMove}
use Rattle.nm_plan.specs.declared.search.Search.{Search}
use Rattle.nm_model.specs.definitions.Decide.{has_moved}

-- the pages ascend: compared with any page, no page ranks above those after it
abbrev pub Ascends : List PageMove → Type 0
Ascends taken = (p : Page) → IsNonDecreasingBy (λ t. ordering_index (page_cmp t.page p)) taken

-- the page comes after the page of the last move
abbrev pub IsPast : List PageMove → Page → Type 0
IsPast taken page = (d : PageMove) → 0 < length taken → page_cmp (get_or taken (length taken - 1) d).page page ≡ Less

-- the first `ascending` moves ascend, and the set has exactly the pages of those more than eight places after them
pub record Finds {A : Type 0} (s : Search A) (taken : List PageMove) : Type 0 where
  pub within : s.ascending ≤ length taken
  pub ascends : Ascends (take s.ascending taken)
  pub later : (p : Page) → contains page_cmp s.later p ≡ has_moved (drop 8 (drop s.ascending taken)) p
