-- How a contract states that a call's result and effect are those of its definition, for any state.
use Rattle.std.specs.Prelude.{◌≡◌, Option, Some, None, Result, Ok, Err}
use Rattle.nm_types.specs.declared.errno.Errno.{Errno}
use Rattle.nm_types.specs.declared.machine_error.MachineError.{MachineError}
use Rattle.nm_types.specs.declared.machine_error.MachineError.TheVariants as error

-- a call with an effect: it succeeds with that effect, or is refused with this error and changes nothing, or the host
-- is out of memory and nothing changes
abbrev pub Makes : {T S : Type 0} → Result T MachineError → S → S → Option Errno → S → Type 0
Makes (Ok value) old new refusal after = (refusal ≡ None) × (new ≡ after)
Makes (Err (error.Refused e)) old new refusal after = (refusal ≡ Some e) × (new ≡ old)
Makes (Err error.HostMemory) old new refusal after = new ≡ old

-- a call that runs out of host memory would not have been refused: it allocates last
abbrev pub AsksLast : {T : Type 0} → Result T MachineError → Option Errno → Type 0
AsksLast (Ok value) refusal = Unit {0}
AsksLast (Err (error.Refused e)) refusal = Unit {0}
AsksLast (Err error.HostMemory) refusal = refusal ≡ None

-- a call with an effect that does not allocate: it succeeds with that effect, or is refused with this error and changes
-- nothing
abbrev pub Alters : {T S : Type 0} → Result T Errno → S → S → Option Errno → S → Type 0
Alters (Ok value) old new refusal after = (refusal ≡ None) × (new ≡ after)
Alters (Err e) old new refusal after = (refusal ≡ Some e) × (new ≡ old)

-- a call that only returns a value: the value is as stated, or the call is refused with this error, or the host is out
-- of memory
abbrev pub Returns : {T : Type 0} → Result T MachineError → Option Errno → (T → Type 0) → Type 0
Returns (Ok value) refusal Holds = (refusal ≡ None) × Holds value
Returns (Err (error.Refused e)) refusal Holds = refusal ≡ Some e
Returns (Err error.HostMemory) refusal Holds = Unit {0}
