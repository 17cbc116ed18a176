-- A batch as a list of runs.
use Rattle.std.specs.Prelude.{◌≡◌, ◌≢◌, ℕ, ◌<◌, ◌/◌, ◌==◌, Bool, List, [], ◌∷◌, map, length, drop, if◌then◌else◌, zero, suc, ◌≤◌, ◌^◌, take}
use Rattle.std.specs.List.{AllByRecursion, flat_map, take_while, zip}
use Rattle.nm_types.specs.declared.request.Wanted.{Wanted}
use Rattle.nm_types.specs.declared.request.Request as declared
use Rattle.nm_types.specs.declared.request.Wanted.TheVariants.{At, Whole}

-- a request of a batch, with the node that it names
abbrev pub Request : Type 0
Request = declared.Request

-- the requests of a batch: each address of the process, with the node at the same index
abbrev pub requests_of : ℕ → Bool → List ℕ → List ℕ → List Request
requests_of pid all addresses nodes =
    map (λ e. record { target = e.1; wanted = At pid (e.0 / 4096) all }) (zip addresses nodes)

-- the target and the requests of a run, or of a longest stretch before the limit cuts it into runs
pub record Stretch : Type 0 where
  pub target : ℕ
  pub wanted : List Wanted

-- a request joins the run after it, or is a run of its own
abbrev pub in_front : Request → List Stretch → List Stretch
in_front e [] = record { target = e.target; wanted = e.wanted ∷ [] } ∷ []
in_front e (r ∷ rs) =
    if e.target == r.target then record { target = r.target; wanted = e.wanted ∷ r.wanted } ∷ rs
    else record { target = e.target; wanted = e.wanted ∷ [] } ∷ r ∷ rs

-- the longest stretches for one target
abbrev pub cut : List Request → List Stretch
cut [] = []
cut (e ∷ es) = in_front e (cut es)

-- what the requests ask for, without their nodes
abbrev pub wanted_of : List Request → List Wanted
wanted_of requests = map (λ e. e.wanted) requests

-- the node of the first request
abbrev pub first_target : List Request → ℕ
first_target [] = 0
first_target (e ∷ es) = e.target

-- how many requests at the front name the same node as the first
abbrev pub same_front : List Request → ℕ
same_front requests = length (take_while (λ e. e.target == first_target requests) requests)

-- these are the target and requests of the first stretch of a batch, and the rest is cut after it
abbrev pub IsFirst : List Request → ℕ → List Wanted → Type 0
IsFirst requests target wanted =
    cut requests ≡ record { target = target; wanted = wanted } ∷ cut (drop (length wanted) requests)

-- requests for this node, one for each of these
abbrev pub all_to : ℕ → List Wanted → List Request
all_to node wanted = map (λ w. record { target = node; wanted = w }) wanted

-- the requests of all runs, one run after another
abbrev pub all_requests : List Stretch → List Request
all_requests runs = flat_map (λ r. all_to r.target r.wanted) runs

-- the number of a run's requests
abbrev pub size_of : Stretch → ℕ
size_of r = length r.wanted

-- this holds of the first item, if there is one
abbrev pub OfFirst : {X : Type 0} → (X → Type 0) → List X → Type 0
OfFirst P [] = Unit {0}
OfFirst P (x ∷ xs) = P x

-- this holds of each item and the next
abbrev pub AllNeighbours : {X : Type 0} → (X → X → Type 0) → List X → Type 0
AllNeighbours R [] = Unit {0}
AllNeighbours R (x ∷ xs) = OfFirst (R x) xs × AllNeighbours R xs

-- the longest stretches of a batch: joined they are the batch, none is empty, and neighbours have different targets
pub record IsCut (requests : List Request) (runs : List Stretch) : Type 0 where
  pub same : all_requests runs ≡ requests
  pub some : AllByRecursion (λ r. 0 < size_of r) runs
  pub apart : AllNeighbours (λ r next. r.target ≢ next.target) runs

-- a batch has exactly one such list of stretches, and `cut` returns it
pub record CutIsTheOne (requests : List Request) : Type 0 where
  pub is : IsCut requests (cut requests)
  pub only : (runs : List Stretch) → IsCut requests runs → runs ≡ cut requests

abbrev pub EachBatchHasOneCut : Type 0
EachBatchHasOneCut = (requests : List Request) → CutIsTheOne requests

-- at most `n` pieces of a list, from its front on, each as long as the limit except the last
abbrev pub pieces_in : {X : Type 0} → ℕ → List X → ℕ → List (List X)
pieces_in limit [] n = []
pieces_in limit (x ∷ xs) zero = []
pieces_in limit (x ∷ xs) (suc n) = take limit (x ∷ xs) ∷ pieces_in limit (drop limit (x ∷ xs)) n

-- the pieces of a list
abbrev pub pieces : {X : Type 0} → ℕ → List X → List (List X)
pieces limit xs = pieces_in limit xs (length xs)

-- a stretch, cut from its front into runs no longer than the limit
abbrev pub pieces_within : ℕ → Stretch → List Stretch
pieces_within limit r = map (λ ws. record { target = r.target; wanted = ws }) (pieces limit r.wanted)

-- the runs of a batch: the longest stretches for one target, each cut from its front into runs no longer than the limit
abbrev pub cut_within : ℕ → List Request → List Stretch
cut_within limit requests = flat_map (pieces_within limit) (cut requests)

-- no batch is longer than the greatest limit, and under that limit each is cut as without one
abbrev pub CutIsOldCut : Type 0
CutIsOldCut = (requests : List Request) → length requests ≤ 2 ^ 14 → cut_within (2 ^ 14) requests ≡ cut requests

-- a run is as long as the limit if the next has the same target
abbrev pub IsFullBefore : ℕ → Stretch → Stretch → Type 0
IsFullBefore limit r next = r.target ≡ next.target → size_of r ≡ limit

-- the runs of a batch under a limit: joined they are the batch, none is empty or longer than the limit, and a run
-- followed by another for the same node is as long as the limit
pub record IsCutWithin (limit : ℕ) (requests : List Request) (runs : List Stretch) : Type 0 where
  pub same : all_requests runs ≡ requests
  pub some : AllByRecursion (λ r. 0 < size_of r) runs
  pub short : AllByRecursion (λ r. size_of r ≤ limit) runs
  pub full : AllNeighbours (IsFullBefore limit) runs

-- a batch has exactly one such list of runs, and `cut_within` returns it
pub record CutWithinIsTheOne (limit : ℕ) (requests : List Request) : Type 0 where
  pub is : IsCutWithin limit requests (cut_within limit requests)
  pub only : (runs : List Stretch) → IsCutWithin limit requests runs → runs ≡ cut_within limit requests

abbrev pub EachLimitCuts : Type 0
EachLimitCuts = (limit : ℕ) (requests : List Request) → 0 < limit → CutWithinIsTheOne limit requests

-- the nodes that requests name
abbrev pub targets_of : List Request → List ℕ
targets_of requests = map (λ e. e.target) requests

-- requests for these nodes, whatever they ask for
abbrev pub for_nodes : List ℕ → List Request
for_nodes nodes = map (λ node. record { target = node; wanted = Whole (record { segment = 0; index = 0 }) }) nodes

-- the number of runs of a batch for these nodes
abbrev pub run_count : ℕ → List ℕ → ℕ
run_count limit nodes = length (cut_within limit (for_nodes nodes))

-- whatever the requests ask for, they are cut into this number of runs
abbrev pub RunCountCountsRuns : Type 0
RunCountCountsRuns =
    (limit : ℕ) (requests : List Request) → length (cut_within limit requests) ≡ run_count limit (targets_of requests)
