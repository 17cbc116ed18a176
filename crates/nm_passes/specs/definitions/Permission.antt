-- Who may act on a process's pages, and which nodes may be named.
use Rattle.std.specs.Prelude.{ℕ, nat_le, ◌/◌, ◌%◌, ◌==◌, Bool, not, ◌&&◌, ◌||◌, [], ◌∷◌, Option, Some, None, if◌then◌else◌}
use Rattle.std.specs.Option.{option_map}
use Rattle.std.specs.Ordering.{nat_cmp}
use Rattle.nm_types.specs.declared.errno.Errno.{Errno}
use Rattle.nm_types.specs.declared.errno.Errno.TheVariants.{Eperm, Esrch, Einval}
use Rattle.nm_types.specs.Map.{get}
use Rattle.nm_types.specs.State.{State}
use Rattle.nm_runs.specs.Targets.{earlier}
use Rattle.nm_types.specs.declared.process.ProcessInfo.{ProcessInfo}
use Rattle.nm_model.specs.definitions.Effect.{first_error, info_of}
use Rattle.std.specs.Prelude.{List, length}
use Rattle.std.specs.List.{list_any, filter}
use Rattle.nm_types.specs.Layout.{node_count}
use Rattle.nm_types.specs.Nodes.{is_in}

-- whether MPOL_MF_MOVE_ALL is among the flags; without it they act as MPOL_MF_MOVE
abbrev pub has_move_all : ℕ → Bool
has_move_all flags = flags / 4 % 2 == 1

-- pid 0 is the caller
abbrev pub owner_of : ℕ → ℕ → ℕ
owner_of caller pid = if pid == 0 then caller else pid

-- EINVAL: a flag other than MPOL_MF_MOVE (2) and MPOL_MF_MOVE_ALL (4); EPERM: MPOL_MF_MOVE_ALL without privilege
abbrev pub flags_refusal : Bool → ℕ → Option Errno
flags_refusal privileged flags =
    first_error ((nat_le 8 flags || (flags % 2 == 1), Einval) ∷ (has_move_all flags && not privileged, Eperm) ∷ [])

-- ESRCH: no such process; EPERM: a process of another user, without privilege
abbrev pub right_refusal : ProcessInfo → Option ProcessInfo → Option Errno
right_refusal caller None = Some Esrch
right_refusal caller (Some owner) = if (caller.uid == owner.uid) || caller.privileged then None else Some Eperm

-- ESRCH: no such caller. Then the flags, then the right to act on the process
abbrev pub asking_refusal : Option ProcessInfo → Option ProcessInfo → ℕ → Option Errno
asking_refusal None owner flags = Some Esrch
asking_refusal (Some caller) owner flags = earlier (flags_refusal caller.privileged flags) (right_refusal caller owner)

-- what `spawn` fixed of a process, if it exists
abbrev pub info_at : State → ℕ → Option ProcessInfo
info_at s pid = option_map info_of (get nat_cmp s.processes pid)

-- the nodes that a process may use, if it exists
abbrev pub allowed_at : State → ℕ → Option (List ℕ)
allowed_at s pid = option_map (λ (i : ProcessInfo). i.allowed) (info_at s pid)

-- the refusal of a query about a process's pages
abbrev pub query_refusal : State → ℕ → ℕ → ℕ → Option Errno
query_refusal s caller pid flags = asking_refusal (info_at s caller) (info_at s (owner_of caller pid)) flags

-- whether a set has a node that the machine does not have
abbrev pub names_missing_node : State → List ℕ → Bool
names_missing_node s nodes = list_any (nat_le (node_count s.layout)) nodes

-- the online and allowed nodes of a set
abbrev pub usable : State → List ℕ → List ℕ → List ℕ
usable s allowed nodes = filter (λ n. is_in s.online n && is_in allowed n) nodes

-- whether a set is empty
abbrev pub is_none : List ℕ → Bool
is_none nodes = length nodes == 0
