use Rattle.std.proofs.Common.{◌≡◌, take}
use Rattle.nm_calls.specs.definitions.Maps.{lines_shown}
use Rattle.nm_library.specs.Calls.{with_line_feeds}
use Rattle.nm_library.proofs.lists.text_of.Given as goal

abbrev pub invariant-loop-line : goal.invariant-loop-line
invariant-loop-line l = l.text.items ≡ with_line_feeds (lines_shown (take l.line-index l.lines))
