use Rattle.std.proofs.Common.{◌≡◌, map, take}
use Rattle.nm_library.specs.Entries.{pagemap_entry}
use Rattle.nm_library.proofs.lists.entries_of.Given as goal

abbrev pub invariant-loop-entry : goal.invariant-loop-entry
invariant-loop-entry l = l.entries.items ≡ map pagemap_entry (take l.entry-index l.mapped)
