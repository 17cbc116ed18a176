use Rattle.std.proofs.Common.{◌≤◌, drop, length}
use Rattle.nm_passes.proofs.Policies.StrayPages.{HaveListed}
use Rattle.nm_passes.proofs.stray_pages.once.Given as goal

abbrev pub invariant-loop-page : goal.invariant-loop-page
invariant-loop-page g l = record {
  few : length l.all.items ≤ l.page-index;
  listed : HaveListed l.pages (drop l.page-index l.pages) l.all.items l.seen;
}
