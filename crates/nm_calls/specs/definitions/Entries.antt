-- A process's entries, by page number.
use Rattle.std.specs.Prelude.{ℕ, List, map, Option, Some}
use Rattle.nm_types.specs.declared.entry.Entry.{Entry}
use Rattle.nm_types.specs.Map.{with_values}
use Rattle.nm_types.specs.State.{State}
use Rattle.nm_model.specs.definitions.Seen.{frame_of, sights}
use Rattle.nm_spaces.specs.views.ProcessTable.{frame_named}
use Rattle.nm_calls.specs.declared.answer.PagemapEntry.{PagemapEntry}

-- the page numbers at which a process sees something, each with the frame of that, or none for the page of zeros
abbrev pub pagemap : State → ℕ → List (ℕ × Option ℕ)
pagemap s pid = with_values (λ v sight. frame_of s.place (Some sight)) (sights s.processes pid)

-- the same, from page-table entries
abbrev pub entries_shown : List (ℕ × Entry) → List (ℕ × Option ℕ)
entries_shown es = map {B = ℕ × Option ℕ} (λ e. (e.0, frame_named e.1)) es

-- the same, from a call's answer
abbrev pub entries_mapped : List PagemapEntry → List (ℕ × Option ℕ)
entries_mapped ms = map {B = ℕ × Option ℕ} (λ m. (m.vpn, m.frame)) ms
