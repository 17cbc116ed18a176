-- A worked example of making touches first.
use Rattle.std.specs.Prelude.{◌≡◌, [], ◌∷◌}
use Rattle.nm_types.specs.declared.page.Page.{Page}
use Rattle.nm_model.specs.definitions.Touch.{Read, Write, Held}
use Rattle.nm_model.specs.examples.{A, B, E, four_of_five}
use Rattle.nm_model.specs.definitions.BeforeCopy.{Known, ToRead, ToWrite, AllBeforeCopy, all_before_copy, without_fronts}

-- the pages of the first process's segment
abbrev page_0 : Page
page_0 = record { segment = 0; index = 0 }

abbrev page_1 : Page
page_1 = record { segment = 0; index = 1 }

abbrev page_4 : Page
page_4 = record { segment = 0; index = 4 }

-- the first page moves, and its new frame is taken; the second is read, and the last, which has no frame yet, is
-- written
abbrev pub while_one_moves : AllBeforeCopy
while_one_moves =
    all_before_copy (without_fronts four_of_five 1 1) (page_0 ∷ []) (Read 1 A 1 ∷ Read 1 B 1 ∷ Write 1 E (0x65 ∷ []) ∷ [])

-- the last page has the frame after the one that was taken; no byte has been read or written yet
abbrev pub PagesAreReadyFirst : Type 0
PagesAreReadyFirst =
    (while_one_moves.all_due ≡ Known Held ∷ ToRead page_1 0 1 ∷ ToWrite page_4 0 (0x65 ∷ []) ∷ [])
    × (while_one_moves.state.free ≡ [] ∷ (6 ∷ 7 ∷ []) ∷ [])
