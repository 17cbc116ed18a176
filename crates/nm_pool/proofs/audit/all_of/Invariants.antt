use Rattle.std.proofs.Common.{◌≡◌, take}
use Rattle.std.specs.Prelude.{map, ℕ}
use Rattle.nm_pool.proofs.audit.all_of.Given as goal

abbrev pub invariant-loop-frame : goal.invariant-loop-frame
invariant-loop-frame g l = l.frames.items ≡ map (λ (f : ℕ × ℕ). f.1) (take l.frame-index l.free)
