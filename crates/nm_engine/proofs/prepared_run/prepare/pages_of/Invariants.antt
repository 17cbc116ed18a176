use Rattle.std.proofs.Common.{◌≡◌, map, ◌||◌, drop}
use Rattle.std.specs.List.{list_any}
use Rattle.nm_types.specs.declared.page.Page.{Page}
use Rattle.nm_types.specs.Map.{same_page}
use Rattle.nm_engine.proofs.prepared_run.prepare.pages_of.Given as goal

abbrev pub invariant-loop-taken : goal.invariant-loop-taken
invariant-loop-taken g l = record {
  among : (p : Page) → (list_any (same_page p) l.pages.keys || list_any (same_page p) (map (λ t. t.page) (drop l.taken-index l.moves))) ≡ list_any (same_page p) (map (λ t. t.page) l.moves);
}
