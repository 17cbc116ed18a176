-- mbind(2): what is refused, which policy is set, and which pages move.
use Rattle.std.specs.Prelude.{ℕ, ◌+◌, ◌/◌, ◌%◌, nat_le, ◌==◌, Bool, not, ◌&&◌, ◌||◌, List, [], ◌∷◌, map, length, Option, Some, None, if◌then◌else◌}
use Rattle.std.specs.List.{IsDistinct, list_any}
use Rattle.std.specs.Option.{unwrap_or, option_map}
use Rattle.nm_types.specs.declared.area.Policy.{Policy}
use Rattle.nm_types.specs.declared.area.Policy.TheVariants.{Default, Preferred, Bind, Interleave, Local}
use Rattle.nm_types.specs.declared.errno.Errno.{Errno}
use Rattle.nm_types.specs.declared.errno.Errno.TheVariants.{Eperm, Esrch, Eio, Einval}
use Rattle.nm_types.specs.Map.{same_page}
use Rattle.nm_types.specs.State.{State}
use Rattle.nm_model.specs.definitions.Cut.{Stretch}
use Rattle.nm_runs.specs.Targets.{earlier}
use Rattle.nm_types.specs.declared.located_page.LocatedPage.{LocatedPage}
use Rattle.nm_types.specs.declared.process.ProcessInfo.{ProcessInfo}
use Rattle.nm_model.specs.definitions.Effect.{page_count, policy_refusal, set_policy, first_error}
use Rattle.nm_passes.specs.declared.binding.Binding.{Binding}
use Rattle.nm_passes.specs.definitions.Permission.{has_move_all, info_at, allowed_at, names_missing_node, usable, is_none}
use Rattle.nm_passes.specs.definitions.Placement.{stray_pages, is_stray, runs_by}

-- the lowest node is preferred, or the nearest if there is none
abbrev pub preferred_policy : List ℕ → Policy
preferred_policy [] = Local
preferred_policy (n ∷ ns) = Preferred n

-- the policy of a mode and a set of nodes. The modes of mbind(2) are MPOL_DEFAULT (0), MPOL_PREFERRED (1),
-- MPOL_BIND (2), MPOL_INTERLEAVE (3) and MPOL_LOCAL (4)
abbrev pub policy_of : ℕ → List ℕ → Policy
policy_of mode nodes =
    if mode == 1 then preferred_policy nodes
    else (if mode == 2 then Bind nodes
    else (if mode == 3 then Interleave nodes
    else (if mode == 4 then Local else Default)))

-- whether MPOL_MF_STRICT (1) is among the flags
abbrev pub is_strict : ℕ → Bool
is_strict flags = flags % 2 == 1

-- whether MPOL_MF_MOVE (2) or MPOL_MF_MOVE_ALL (4) is among the flags
abbrev pub has_move : ℕ → Bool
has_move flags = (flags / 2 % 2 == 1) || has_move_all flags

-- no nodes for MPOL_BIND (2) or MPOL_INTERLEAVE (3), which need some; or nodes for MPOL_DEFAULT (0) or
-- MPOL_LOCAL (4), which take none
abbrev pub is_misfit : ℕ → List ℕ → Bool
is_misfit mode nodes = if is_none nodes then (mode == 2) || (mode == 3) else (mode == 0) || (mode == 4)

-- an unknown mode; nodes that do not fit it, or are not in the machine; or no node that can be used
abbrev pub is_bad_set : State → List ℕ → ℕ → List ℕ → Bool
is_bad_set s allowed mode nodes =
    nat_le 5 mode || is_misfit mode nodes || names_missing_node s nodes || (not (is_none nodes) && is_none (usable s allowed nodes))

-- the policy that a caller asks for: it keeps those of its nodes that are online and allowed
abbrev pub policy_asked : State → ℕ → ℕ → List ℕ → Policy
policy_asked s caller mode nodes = policy_of mode (usable s (unwrap_or (allowed_at s caller) []) nodes)

-- the home node of a process; node 0 if there is no such process
abbrev pub home_of : Option ProcessInfo → ℕ
home_of caller = unwrap_or (option_map (λ (i : ProcessInfo). i.home) caller) 0

-- the page numbers of `len` bytes, and their policy
abbrev pub range_of : ℕ → ℕ → ℕ → Policy → Binding
range_of pid address len policy =
    let first = address / 4096 in record { pid = pid; first = first; end = first + page_count len; policy = policy }

-- what a call asks for
abbrev pub binding : State → ℕ → ℕ → ℕ → ℕ → List ℕ → Binding
binding s pid address len mode nodes = range_of pid address len (policy_asked s pid mode nodes)

-- ESRCH: no such caller; EINVAL: an unknown flag, or a bad mode or set; EPERM: MPOL_MF_MOVE_ALL without privilege
abbrev pub mode_refusal : State → Option ProcessInfo → ℕ → List ℕ → ℕ → Option Errno
mode_refusal s None mode nodes flags = Some Esrch
mode_refusal s (Some caller) mode nodes flags =
    let invalid = nat_le 8 flags || is_bad_set s caller.allowed mode nodes in
    first_error ((invalid, Einval) ∷ (has_move_all flags && not caller.privileged, Eperm) ∷ [])

-- EINVAL: a bad address or length; EFAULT: a page without an area; EIO: MPOL_MF_STRICT without a flag to move, and a
-- page that does not follow the policy
abbrev pub binding_refusal : State → ℕ → ℕ → ℕ → Policy → ℕ → Option Errno
binding_refusal s caller address len policy flags =
    let pages = stray_pages s (range_of caller address len policy) in
    let strict = is_strict flags && not (has_move flags) && not (length pages == 0) in
    earlier (policy_refusal s caller address len) (first_error ((strict, Eio) ∷ []))

-- the refusal of the arguments, or else that of the range
abbrev pub mbind_refusal : State → ℕ → ℕ → ℕ → ℕ → List ℕ → ℕ → Option Errno
mbind_refusal s caller address len mode nodes flags =
    let range = binding_refusal s caller address len (policy_asked s caller mode nodes) flags in
    earlier (mode_refusal s (info_at s caller) mode nodes flags) range

-- the pages to move: none without a flag to move
abbrev pub pages_to_bind : State → Binding → ℕ → List LocatedPage
pages_to_bind s b flags = if has_move flags then stray_pages s b else []

-- the runs of a call
abbrev pub mbind_runs : ℕ → State → Binding → ℕ → List Stretch
mbind_runs limit s b flags =
    runs_by limit s b.policy (home_of (info_at s b.pid)) b.pid (has_move_all flags) (pages_to_bind s b flags)

-- whether a page that did not follow the policy before the moves does not follow it after them
abbrev pub has_stray : State → State → Binding → Bool
has_stray old new b = list_any (is_stray new b.policy) (stray_pages old b)

-- no page is listed twice
abbrev pub NoStrayIsListedTwice : Type 0
NoStrayIsListedTwice = (s : State) (b : Binding) → IsDistinct same_page (map (λ l. l.page) (stray_pages s b))

-- whether the flags ask for moves, and for an error if a page does not follow after them
abbrev pub checks_after_moves : ℕ → Bool
checks_after_moves flags = is_strict flags && has_move flags

-- the state before the first run, with the policy set
abbrev pub with_binding : State → ℕ → ℕ → ℕ → ℕ → List ℕ → State
with_binding s caller address len mode nodes = set_policy s caller address len (policy_asked s caller mode nodes)
