use Rattle.std.proofs.Common.{◌≡◌, ℕ, true, drop}
use Rattle.std.specs.Prelude.{Some}
use Rattle.nm_types.specs.declared.entry.Entry.TheVariants.{Held}
use Rattle.nm_model.specs.definitions.Events.{arrival_of, with_entries}
use Rattle.nm_model.specs.definitions.PageTables.{entry_at}
use Rattle.nm_spaces.specs.views.Held.{is_taken}
use Rattle.nm_spaces.proofs.address_spaces.held.arrive.Given as goal

-- those that are still held are on their way to the frames of moves that are left
abbrev pub invariant-loop-taken : goal.invariant-loop-taken
invariant-loop-taken g l = record {
  same : with_entries arrival_of l.tasks ≡ with_entries arrival_of l.fn.tasks;
  among : (f pid v : ℕ) → entry_at l.tasks pid v ≡ Some (Held f) → is_taken (drop l.taken-index l.moves) f ≡ true;
}
