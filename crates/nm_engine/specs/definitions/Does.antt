-- How a contract states that a call's answer and effect are those of its definition.
use Rattle.std.specs.Prelude.{◌≡◌, false, List, None, Result, Ok, Err}
use Rattle.std.specs.Result.{result_err}
use Rattle.nm_types.specs.declared.errno.Errno.{Errno}
use Rattle.nm_types.specs.declared.page.Page.{Page}
use Rattle.nm_types.specs.State.{State}
use Rattle.nm_types.specs.declared.machine_error.MachineError.{MachineError}
use Rattle.nm_types.specs.declared.machine_error.MachineError.TheVariants as error
pub use Rattle.nm_types.specs.Does.{Makes, AsksLast, Alters, Returns}
use Rattle.nm_model.specs.definitions.Touch.{Access, AccessAnswer, AccessResult, Refused, site_of_access, is_held}

-- a read or a write: its answer and the state after it are as defined, or the host is out of memory and nothing changes
abbrev pub Accesses : {T : Type 0} → Result T MachineError → (T → AccessAnswer) → State → State → AccessResult → Type 0
Accesses (Ok value) shown old new a = (a.answer ≡ shown value) × (new ≡ a.state)
Accesses (Err (error.Refused e)) shown old new a = (a.answer ≡ Refused e) × (new ≡ old)
Accesses (Err error.HostMemory) shown old new a = new ≡ old

-- a touch: the state after it is as defined, or it is refused or the host is out of memory, and nothing changes
abbrev pub Touches : {T : Type 0} → Result T MachineError → State → State → Result State Errno → Type 0
Touches (Ok value) old new found = found ≡ Ok new
Touches (Err (error.Refused e)) old new found = (found ≡ Err e) × (new ≡ old)
Touches (Err error.HostMemory) old new found = new ≡ old

-- an access in flight comes to its touch: it is neither refused for where it is, nor held
abbrev pub ComesToTouch : State → List Page → Access → Type 0
ComesToTouch s moved a = (result_err (site_of_access s a) ≡ None) × (is_held moved (site_of_access s a) ≡ false)
