-- What a handle owns: the block of its session, or, with no session, nothing: then it is null.
use Rattle.std.specs.Prelude.{◌≡◌}
use Rattle.std.specs.declared.option.Option.{Option}
use Rattle.std.specs.declared.option.Option.TheVariants.{None, Some}
use Rattle.std.specs.declared.alloc.Global.{Global}
use Rattle.std.specs.contracts.impls.GlobalAllocator.TheImpl.{ghosts}
use Rattle.std_alloc.specs.Box.Ownership.{box_owns}
use base.Fml.{Fml, ftrue, fex}
use denote.RattleType.{RattleType}
use denote.RawPtr.{Ptr, null_ptr}

abbrev pub session_cell : (R : RattleType) → Global → Ptr → Option R.Denot → Fml
session_cell R a p None = fex (p ≡ null_ptr) (λ _. ftrue)
session_cell R a p (Some x) = box_owns (ghosts.dealloc_token a) R p x
