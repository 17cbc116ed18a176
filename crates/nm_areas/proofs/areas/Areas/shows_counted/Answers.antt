use Rattle.std.proofs.Common.{◌≡◌, ℕ, ◌≤◌, ◌<◌, false, subst}
use Rattle.std.specs.Prelude.{Some, slice_index_or}
use Rattle.nm_types.specs.declared.page.Page.{Page}
use Rattle.nm_types.specs.Map.{get, page_cmp}
use Rattle.nm_types.specs.State.{page_at}
use Rattle.nm_model.specs.definitions.Areas.{Mapping}
use Rattle.nm_areas.proofs.areas.Areas.shows_counted.Goals as goal

pub returns-clause-none : goal.returns-clause-none
returns-clause-none g c =
    subst (λ (m : Mapping). c.shows_counted.result ≡ false → (v : ℕ) (p : Page) (frame : ℕ) → c.args.first ≤ v → v < c.args.end → page_at m.areas c.args.pid v ≡ Some p → get page_cmp m.place p ≡ Some frame → slice_index_or c.args.counts.now frame 0 ≡ 0)
    c.self.view_is c.shows_counted.ensures.none
