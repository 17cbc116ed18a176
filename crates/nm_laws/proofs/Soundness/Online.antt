-- Which nodes are online is free, and a set of nodes has at most 64.
use Rattle.std.proofs.Common.{arith, ⊎_elim, ◌≡◌, ℕ, zero, suc, ◌+◌, ◌<◌, ◌≤◌, List, length, subst}
use Rattle.std.proofs.lemmas.Bool.{cases_lt}
use Rattle.std.specs.Prelude.{slice_index, Bool, true, false, not, ◌==◌, if◌then◌else◌}
use Rattle.std.specs.List.{AllByRecursion}
use Rattle.std.specs.BTreeSet.{insert_key}
use Rattle.std.specs.Ordering.{nat_cmp}
use Rattle.std.proofs.lemmas.List.Elements.{All-from_recursion, recursion_from_All, All-filter}
use Rattle.std.proofs.lemmas.Map.Views.{All-insert_key}
use Rattle.nm_types.specs.Nodes.{IsNodeSet, without_node}
use Rattle.nm_types.specs.State.{State}
use Rattle.nm_model.specs.definitions.Sound.{AreNodes, IsSoundInFlight}
use Rattle.nm_laws.proofs.Soundness.Contents.{contents_sound}

pub online_sound : (s : State) (l nodes : List ℕ) → AreNodes s.layout nodes → IsSoundInFlight s l → IsSoundInFlight (record s { online = nodes }) l
online_sound s l nodes are h = contents_sound s l s.bytes s.pins nodes s.moved s.failed h.bytes h.pins are h

-- the node at a place of a set is no lower than the place
at_least : (ns : List ℕ) → IsNodeSet ns → (k : ℕ) → k < length ns → k ≤ slice_index ns k
at_least ns h zero lt = omega arith
at_least ns h (suc k) lt =
    let e : k + 1 ≡ suc k = omega arith in
    let ih = at_least ns h k (omega (arith, lt)) in
    let up : slice_index ns k < slice_index ns (suc k) = subst (λ j. slice_index ns k < slice_index ns j) e (h.upwards k (omega (arith, lt))) in
    omega (arith, ih, up)

-- a set has at most 64 nodes
pub set_is_few : (ns : List ℕ) → IsNodeSet ns → length ns ≤ 64
set_is_few ns h =
    ⊎_elim (λ few. omega (arith, few))
    (λ many.
    let lt : 64 < length ns = omega (arith, many) in
    let least = at_least ns h 64 lt in
    let below : slice_index ns 64 < 64 = h.below 64 0 lt in
    absurd (omega (arith, least, below))) (cases_lt (length ns) 65)

-- what holds of each node of a set, and of one more, holds of each with that one in it, or without it
pub changed_below : (P : ℕ → Type 0) (nodes : List ℕ) (node : ℕ) (online : Bool) → P node → AllByRecursion P nodes → AllByRecursion P (if online then insert_key nat_cmp nodes node else without_node nodes node)
changed_below P nodes node true one all =
    recursion_from_All P (insert_key nat_cmp nodes node) (All-insert_key nat_cmp node P nodes (All-from_recursion P nodes all) one)
changed_below P nodes node false one all =
    recursion_from_All P (without_node nodes node) (All-filter (λ n. not (n == node)) P nodes (All-from_recursion P nodes all))
