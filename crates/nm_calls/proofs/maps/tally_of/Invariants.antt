use Rattle.std.proofs.Common.{drop}
use Rattle.nm_calls.proofs.Lines.Tallies.{Counted}
use Rattle.nm_calls.proofs.maps.tally_of.Given as goal

abbrev pub invariant-loop-page : goal.invariant-loop-page
invariant-loop-page g l = Counted l.machine l.pages (drop l.page-index l.pages) l.count l.most l.on
