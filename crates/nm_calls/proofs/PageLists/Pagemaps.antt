-- A process's page-table entries show the frames of what it sees.
use Rattle.std.proofs.Common.{◌≡◌, ℕ, List, [], ◌∷◌, Option, Some, None, refl, ap, ◌∙◌}
use Rattle.std.specs.Option.{unwrap_or, option_map}
use Rattle.nm_types.specs.declared.entry.Entry.{Entry}
use Rattle.nm_types.specs.declared.entry.Entry.TheVariants.{Zero, Frame}
use Rattle.nm_types.specs.declared.page.Page.{Page}
use Rattle.nm_types.specs.declared.sight.Sight.{Sight}
use Rattle.nm_types.specs.declared.sight.Sight.TheVariants.{ZeroPage, Sees}
use Rattle.nm_types.specs.Map.{Map, get, page_cmp, with_values}
use Rattle.nm_types.specs.State.{State}
use Rattle.nm_model.specs.definitions.PageTables.{entries_of, entry_of}
use Rattle.nm_model.specs.definitions.Seen.{frame_of, sights}
use Rattle.nm_spaces.specs.views.ProcessTable.{frame_named}
use Rattle.nm_calls.specs.definitions.Entries.{entries_shown, pagemap}

named_or_none : (o : Option ℕ) → frame_named (unwrap_or (option_map Frame o) Zero) ≡ o
named_or_none None = refl
named_or_none (Some frame) = refl

named_is : (place : Map Page ℕ) (sight : Sight) → frame_named (entry_of place sight) ≡ frame_of place (Some sight)
named_is place ZeroPage = refl
named_is place (Sees p) = named_or_none (get page_cmp place p)

all_named : (place : Map Page ℕ) (sees : Map ℕ Sight)
    → entries_shown (with_values (λ v sight. entry_of place sight) sees) ≡ with_values (λ v sight. frame_of place (Some sight)) sees
all_named place [] = refl
all_named place (e ∷ sees) =
    ap (λ (o : Option ℕ). (e.0, o) ∷ entries_shown (with_values (λ v sight. entry_of place sight) sees)) (named_is place e.1)
    ∙ ap (λ (rest : List (ℕ × Option ℕ)). (e.0, frame_of place (Some e.1)) ∷ rest) (all_named place sees)

pub pagemap_shown : (s : State) (pid : ℕ) → entries_shown (entries_of s pid) ≡ pagemap s pid
pagemap_shown s pid = all_named s.place (sights s.processes pid)
