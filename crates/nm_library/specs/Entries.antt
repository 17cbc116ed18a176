-- Entries as C has them.
use Rattle.std.specs.Prelude.{ℕ, ℤ, pos, negsuc, Option, Some, None}
use Rattle.nm_calls.specs.declared.answer.PagemapEntry.{PagemapEntry}
use Rattle.nm_library.specs.declared.entry.Entry.{Entry}

-- a frame's number, or -1 for the page of zeros
abbrev pub frame_or_none : Option ℕ → ℤ
frame_or_none (Some frame) = pos frame
frame_or_none None = negsuc 0

abbrev pub pagemap_entry : PagemapEntry → Entry
pagemap_entry e = record { page = e.vpn; frame = frame_or_none e.frame }
