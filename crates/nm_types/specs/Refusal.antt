-- Which layouts are machines, and for the others the first fault.
use Rattle.std.specs.Prelude.{◌≡◌, nat_lt, ◌==◌, Option, Some, None, Result, Ok, Err, if◌then◌else◌}
use Rattle.std.specs.List.{list_any}
use Rattle.nm_types.specs.Layout.{Layout, node_count, frame_count, is_square}
use Rattle.nm_types.specs.declared.geometry.GeometryError.{GeometryError}
use Rattle.nm_types.specs.declared.geometry.GeometryError.TheVariants.{NoNodes, TooManyNodes, EmptyNode, TooManyFrames, BadDistance}

-- the first fault of a layout
abbrev pub refusal : Layout → Option GeometryError
refusal g =
    if node_count g == 0 then Some NoNodes
    else (if nat_lt 64 (node_count g) then Some TooManyNodes
    else (if list_any (λ size. size == 0) g.sizes then Some EmptyNode
    else (if nat_lt 16384 (frame_count g) then Some TooManyFrames
    else (if is_square g then None else Some BadDistance))))

-- a layout is accepted as the machine that it describes, or refused with its first fault
abbrev pub Opens : Layout → Result Layout GeometryError → Type 0
Opens g (Ok machine) = (machine ≡ g) × (refusal g ≡ None)
Opens g (Err fault) = refusal g ≡ Some fault
