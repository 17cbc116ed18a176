use Rattle.std.proofs.Common.{◌≡◌, ◌++◌, List, ℕ, drop, map}
use Rattle.nm_pool.specs.views.Accesses.{answer_shown}
use Rattle.nm_requests.specs.Views.{shown_during}
use Rattle.nm_trace.specs.definitions.Report.{access_lines}
use Rattle.nm_streams.specs.Waiting.{Puts}
use Rattle.nm_trace.proofs.text.push_accesses.Given as goal

-- what was put, and the lines that are left, are the lines
abbrev pub invariant-loop-j : goal.invariant-loop-j
invariant-loop-j g l =
    (text : List ℕ) × Puts g.W.Write.contents g.W.ReportingWriter.has_failed l.fn.writer l.fn.block l.writer l.block text
    × (text ++ access_lines l.k l.j (shown_during (drop l.j l.during)) (map answer_shown (drop l.j l.answers)) ≡ access_lines l.k 0 (shown_during l.during) (map answer_shown l.answers))
