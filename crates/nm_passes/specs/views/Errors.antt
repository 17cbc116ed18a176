-- Why a call failed.
use Rattle.std.specs.Prelude.{ℕ, false}
use Rattle.nm_engine.specs.declared.MachineError.{MachineError}
use Rattle.nm_engine.specs.declared.MachineError.TheVariants as machine
use Rattle.nm_passes.specs.declared.call_error.CallError.{CallError}
use Rattle.nm_passes.specs.declared.call_error.CallError.TheVariants.{Refused, HostMemory}

-- the error of a call that sets no policy, if the host runs out of memory after `runs` runs
abbrev pub out_of_memory : ℕ → CallError
out_of_memory runs = HostMemory runs false

-- a machine's error as a call's error
abbrev pub of_machine : MachineError → CallError
of_machine (machine.Refused errno) = Refused errno
of_machine machine.HostMemory = out_of_memory 0
