use Rattle.std.proofs.Common.{take}
use Rattle.nm_passes.specs.laws.Full.{StandAmong, EachHasSome}
use Rattle.nm_passes.proofs.passes.standing.Given as goal

abbrev pub invariant-loop-page : goal.invariant-loop-page
invariant-loop-page g l = record {
  among : StandAmong l.machine l.nodes (take l.page-index l.wanted);
  some : EachHasSome l.machine l.nodes l.wanted;
}
