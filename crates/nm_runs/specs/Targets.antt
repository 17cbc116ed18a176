-- Which entry of a batch names a node that its page may not go to, and how it is refused.
use Rattle.std.specs.Prelude.{◌≡◌, ℕ, nat_le, not, ◌||◌, List, [], ◌∷◌, Option, Some, None, Result, Ok, Err, if◌then◌else◌}
use Rattle.nm_types.specs.declared.errno.Errno.{Errno}
use Rattle.nm_types.specs.declared.errno.Errno.TheVariants.{Eacces, Enodev}
use Rattle.nm_types.specs.Nodes.{is_in}

-- ENODEV for a node that is not one of `count` or not online, then EACCES for one that is not allowed
abbrev pub node_refusal : ℕ → List ℕ → List ℕ → ℕ → Option Errno
node_refusal count online allowed node =
    if nat_le count node || not (is_in online node) then Some Enodev
    else (if is_in allowed node then None else Some Eacces)

-- the first of two refusals, if any
abbrev pub earlier : Option Errno → Option Errno → Option Errno
earlier (Some e) later = Some e
earlier None later = later

-- the refusal of the first of these nodes that is refused, if any
abbrev pub first_refusal : ℕ → List ℕ → List ℕ → List ℕ → Option Errno
first_refusal count online allowed [] = None
first_refusal count online allowed (node ∷ nodes) =
    earlier (node_refusal count online allowed node) (first_refusal count online allowed nodes)

-- a check succeeds if nothing is refused, and otherwise returns the error
abbrev pub Checks : {T : Type 0} → Result T Errno → Option Errno → Type 0
Checks (Ok value) refusal = refusal ≡ None
Checks (Err e) refusal = refusal ≡ Some e
