use Rattle.std.proofs.Common.{◌≡◌}
use Rattle.std.specs.List.{AllByRecursion}
use Rattle.nm_spaces.specs.views.ProcessTable.{IsThere, all_replaced}
use Rattle.nm_spaces.proofs.address_spaces.held.replace_set.Given as goal

-- what is done and what is left are all
abbrev pub invariant-loop-pid : goal.invariant-loop-pid
invariant-loop-pid g l =
    record {
      there : AllByRecursion (IsThere l.tasks) l.pid-iterator;
      made : all_replaced l.tasks l.pid-iterator l.entry ≡ all_replaced l.initial.tasks l.mappings.keys l.entry;
    }
