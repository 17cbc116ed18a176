use Rattle.std.proofs.Common.{◌≡◌, take}
use Rattle.nm_library.proofs.lists.numbers_of.Given as goal

abbrev pub invariant-loop-frame : goal.invariant-loop-frame
invariant-loop-frame l = l.numbers.items ≡ take l.frame-index l.frames
