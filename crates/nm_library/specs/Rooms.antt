-- What stands in a room that C gives for a list.
use Rattle.std.specs.Prelude.{◌≡◌, ◌<◌, ◌≤◌, ◌⊎◌, ℕ, ℤ, pos, List, ◌++◌, length, take, drop}

-- the list at the front of the room, as far as there is room
abbrev pub at_front : {X : Type 0} → List X → List X → List X
at_front items room = take (length room) items ++ drop (length items) room

-- the length of the list is returned; the list is at the front of the room if it fits there, and otherwise the room is as before
abbrev pub FillsRoom : {X : Type 0} → List X → ℤ → List X → List X → ℕ → Type 0
FillsRoom items status old new needed =
    (needed ≡ length items)
    × (((status ≡ pos 0) × (length items ≤ length old) × (new ≡ items ++ drop (length items) old))
    ⊎ ((status ≡ pos 5) × (length old < length items) × (new ≡ old)))
