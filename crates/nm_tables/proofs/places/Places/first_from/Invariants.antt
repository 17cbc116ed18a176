use Rattle.std.proofs.Common.{◌-◌, ◌≡◌, ◌≤◌, ◌<◌, ℕ, None}
use Rattle.nm_tables.specs.views.Leaves.{stands_at}
use Rattle.nm_tables.proofs.places.Places.first_from.Given as goal

abbrev pub invariant-loop-place : goal.invariant-loop-place
invariant-loop-place l = (l.from ≤ l.place) × (l.place ≤ 512) × ((i : ℕ) → l.from ≤ i → i < l.place → stands_at l.self i ≡ None)

abbrev pub decreases-loop-place : goal.decreases-loop-place
decreases-loop-place l = 512 - l.place
