use Rattle.std.proofs.Common.{◌≡◌, ◌++◌, ◌<◌, ℕ, drop, length, map, []}
use Rattle.nm_model.specs.views.Asked.{access_shown}
use Rattle.nm_model.specs.definitions.Run.{accesses_of}
use Rattle.nm_requests.specs.Views.{shown_during}
use Rattle.nm_passes.specs.definitions.Batch.{list_at}
use Rattle.nm_passes.proofs.batch.by_run.Given as goal

abbrev pub invariant-loop : goal.invariant-loop
invariant-loop g l = record {
  count : length l.lists.items ≡ l.counter;
  empty : (k : ℕ) → list_at (map (λ list. map (λ a. access_shown a.now) list.items) l.lists.items) k ≡ [];
}

abbrev pub invariant-loop-asked : goal.invariant-loop-asked
invariant-loop-asked g l = record {
  count : length l.lists.items ≡ l.count;
  lists : (k : ℕ) → k < l.count → list_at (map (λ list. map (λ a. access_shown a.now) list.items) l.lists.items) k ++ accesses_of k (shown_during (drop l.asked-index l.during)) ≡ accesses_of k (shown_during l.during);
}
