-- What holds for the list of pages of migrate_pages(2).
use Rattle.std.specs.Prelude.{◌≡◌, ℕ, ◌<◌, true, List}
use Rattle.std.specs.List.{AllByRecursion, IsDistinct, flat_map}
use Rattle.std.specs.Map.{values_of}
use Rattle.nm_types.specs.Map.{same_page}
use Rattle.nm_types.specs.Nodes.{is_in, IsNodeSet}
use Rattle.nm_types.specs.State.{State}
use Rattle.nm_types.specs.declared.page.Page.{Page}
use Rattle.nm_policy.specs.definitions.Pairs.{pairs}
use Rattle.nm_passes.specs.definitions.Listing.{pages_on}
use Rattle.nm_calls.specs.definitions.Systems.{SystemState}
use Rattle.nm_requests.specs.Calls.{MigratePages}
use Rattle.nm_calls.specs.definitions.Outcome.{runs_of}

-- the pages of a process that go from some nodes to others, in the order of the list
abbrev pub pages_listed : State → ℕ → List ℕ → List ℕ → List Page
pages_listed s pid old new = values_of (flat_map (λ p. pages_on s pid p.from) (pairs old new))

-- no page is listed twice
abbrev pub EachPageIsListedOnce : Type 0
EachPageIsListedOnce =
    (s : State) (pid : ℕ) (old new : List ℕ) → IsNodeSet old → IsDistinct same_page (pages_listed s pid old new)

-- each run goes to an online node
abbrev pub RunsGoToNodesOnline : Type 0
RunsGoToNodesOnline =
    (y : SystemState) (caller pid : ℕ) (old new : List ℕ) → 0 < y.run_limit → IsNodeSet old →
    AllByRecursion (λ r. is_in y.state.online r.target ≡ true) (runs_of y (MigratePages caller pid old new))
