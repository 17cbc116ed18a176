-- The calls of a system.
use Rattle.std.specs.Prelude.{ℕ, Bool, List}
use Rattle.nm_model.specs.definitions.Touch.{Access}

-- a call with its arguments; a set of nodes is the list of its nodes in ascending order
pub data Call : Type 0 where
  Spawn : (pid uid home : ℕ) (allowed : List ℕ) (privileged : Bool) → Call
  MapPages : (pid addr pages : ℕ) (shared : Bool) → Call
  Attach : (pid addr segment offset pages : ℕ) → Call
  Unmap : (pid addr pages : ℕ) → Call
  Exit : (pid : ℕ) → Call
  Pin : (pid addr : ℕ) → Call
  Unpin : (pid addr : ℕ) → Call
  ReadBytes : (pid addr len : ℕ) → Call
  WriteBytes : (pid addr : ℕ) (bytes : List ℕ) → Call
  -- while the pages move, accesses are made, each in the run with its number
  MovePages : (caller pid : ℕ) (pages nodes : List ℕ) (flags : ℕ) (during : List (ℕ × Access)) → Call
  MigratePages : (caller pid : ℕ) (old new : List ℕ) → Call
  Query : (caller pid : ℕ) (pages : List ℕ) (flags : ℕ) → Call
  Mbind : (caller addr len mode : ℕ) (nodes : List ℕ) (flags : ℕ) → Call
  Offline : (node : ℕ) → Call
  Online : (node : ℕ) → Call
  FreeList : (node : ℕ) → Call
  Pagemap : (pid : ℕ) → Call
  Vmstat : Call
  NumaMaps : (pid : ℕ) → Call

-- the most requests that a run may have by default: as many as a batch
abbrev pub default_limit : ℕ
default_limit = 16384
