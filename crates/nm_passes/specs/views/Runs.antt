-- The moves of a call, prepared before its first run, and their results.
use Rattle.std.specs.Prelude.{◌≡◌, ℕ, ◌+◌, ◌^◌, ◌<◌, ◌≤◌, Bool, true, All, IfSome, List, [], ◌∷◌, length, slice_index_or, Result, Ok, Err}
use Rattle.std.specs.List.{AllByRecursion}
use Rattle.nm_types.specs.declared.area.Policy.{Policy}
use Rattle.nm_types.specs.declared.area.Policy.TheVariants.{Default, Preferred, Bind, Interleave, Local}
use Rattle.nm_types.specs.State.{State}
use Rattle.nm_model.specs.definitions.Cut.{Request, Stretch, cut_within}
use Rattle.nm_model.specs.definitions.Run.{RunResult, HasOneAll, runs_from, batch}
use Rattle.nm_passes.specs.declared.passes.Left.{Left}
use Rattle.nm_passes.specs.declared.placement.Placement.{Placement}
use Rattle.nm_passes.specs.declared.placement.Placement.TheVariants.{Passes, Turns}
use Rattle.nm_passes.specs.declared.call_error.CallError.{CallError}
use Rattle.nm_passes.specs.declared.call_error.CallError.TheVariants.{Refused, HostMemory}
use Rattle.nm_passes.specs.definitions.Moves.{LacksMemory, states_of}
use Rattle.nm_passes.specs.definitions.Passes.{passes}
use Rattle.nm_passes.specs.laws.Full.{HasFailed, AreStanding}
use Rattle.nm_passes.specs.definitions.Placement.{each_to}

-- the runs that these moves make
abbrev pub runs_in : {A : Type 0} → ℕ → State → Placement A → List Stretch
runs_in limit s (Passes nodes wanted) = passes limit s nodes.items wanted.items
runs_in limit s (Turns pid all sent) = cut_within limit (each_to pid all sent.items)

-- the nodes are below a count and few, and the pages few
abbrev pub CanGo : {A : Type 0} → ℕ → Placement A → Type 0
CanGo count (Passes nodes wanted) =
    All (λ n. n < count) nodes.items × (length nodes.items ≤ 64) × HasOneAll wanted.items × (length wanted.items ≤ 2 ^ 52)
CanGo count (Turns pid all sent) = AllByRecursion (λ page. page.to < count) sent.items

-- the nodes that a policy names
abbrev pub nodes_named : Policy → List ℕ
nodes_named Default = []
nodes_named (Preferred node) = node ∷ []
nodes_named (Bind nodes) = nodes
nodes_named (Interleave nodes) = nodes
nodes_named Local = []

-- runs without accesses are made with this result; or the host runs out of memory for one of them
abbrev pub RunsGive : {T : Type 0} → Result T CallError → State → State → List Stretch → (T → RunResult → Type 0) → Type 0
RunsGive (Ok value) old new runs Gives = let made = runs_from 0 old runs [] in (new ≡ made.state) × Gives value made
RunsGive (Err e) old new runs Gives = LacksMemory e old new runs []

-- a batch without accesses is made with this result, under a limit; or the host runs out of memory for one of its runs
abbrev pub Batches : {T : Type 0} → Result T CallError → State → State → ℕ → List Request → (T → RunResult → Type 0) → Type 0
Batches (Ok value) old new limit requests Gives =
    let made = batch limit old requests [] in (new ≡ made.state) × Gives value made
Batches (Err e) old new limit requests Gives = LacksMemory e old new (cut_within limit requests) []

-- the host runs out of memory for one of these runs, after those before it; and whether a policy is set before them
abbrev pub Stops : Bool → CallError → State → State → List Stretch → Type 0
Stops set (Refused e) old new runs = ⊥
Stops set (HostMemory k policy_set) old new runs =
    (policy_set ≡ set) × (k < length runs) × (new ≡ slice_index_or (states_of old runs) k old)

-- the runs are made, or the host runs out of memory for one of them; and whether a policy is set before them
abbrev pub MakesRuns : {T : Type 0} → Bool → Result T CallError → State → State → List Stretch → Type 0
MakesRuns set (Ok done) old new runs = new ≡ (runs_from 0 old runs []).state
MakesRuns set (Err e) old new runs = Stops set e old new runs

-- the same error after `made` more runs, with the policy set or not; a refusal is unchanged
abbrev pub later : CallError → ℕ → Bool → CallError
later (Refused e) made set = Refused e
later (HostMemory k policy_set) made set = HostMemory (made + k) set

-- the sum of `made` and the runs of the error does not overflow
abbrev pub IsCounted : CallError → ℕ → Type 0
IsCounted (Refused e) made = Unit {0}
IsCounted (HostMemory k policy_set) made = made + k < 2 ^ 64

-- what is known of the pages left: a pass has found no free frame for them, and they are on these nodes
abbrev pub IsLeft : {A : Type 0} → State → Left A → Type 0
IsLeft s left =
    (left.tried ≡ true → HasFailed s left.wanted.items) × IfSome left.standing (λ nodes. AreStanding s nodes left.wanted.items)
