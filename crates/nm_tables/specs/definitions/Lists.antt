-- A list before and after items are appended.
use Rattle.std.specs.Prelude.{◌≡◌, List, ◌∷◌, ◌++◌}

module _ {X : Type 0} where
  -- the new list begins with the old one
  abbrev pub Extends : List X → List X → Type 0
  Extends old new = (more : List X) × (new ≡ old ++ more)

  -- the list is some first ones of all, in their order, and one at least is left out
  abbrev pub IsCutShort : List X → List X → Type 0
  IsCutShort list all = (next : X) × (more : List X) × (all ≡ list ++ next ∷ more)
