use Rattle.std.proofs.Common.{◌≡◌, ◌<◌, ◌∙◌, ap, inl, inr, subst, sym, ℕ}
use Rattle.std.specs.Prelude.{Option, Some, IfSome}
use Rattle.std.specs.List.{AllByRecursion}
use Rattle.nm_types.specs.declared.area.Area.{Area}
use Rattle.nm_types.specs.State.{area_over}
use Rattle.nm_model.specs.definitions.Areas.{AreasAreApart}
use Rattle.nm_model.specs.definitions.Areas.{IsSomePages}
use Rattle.nm_model.specs.definitions.Areas.{HasIndices}
use Rattle.nm_model.specs.views.Table.{Table}
use Rattle.nm_model.specs.definitions.Areas.{split_at}
use Rattle.nm_model.specs.views.Table.{with_areas}
use Rattle.nm_areas.specs.Splits.{HasSplit}
use Rattle.nm_areas.proofs.Beginning.{same_back}
use Rattle.nm_areas.proofs.Counted.{err_always}
use Rattle.nm_areas.proofs.Divided.{still_split}
use Rattle.nm_model.proofs.areas.Cut.{undone}
use Rattle.nm_model.proofs.areas.Repoliced.{split_some, split_indices, split_apart}
use Rattle.nm_areas.proofs.area_table.AreaTable.cut.Goals as goal

pub split-requires-2-clause-apart : goal.split-requires-2-clause-apart
split-requires-2-clause-apart g c =
    subst (λ (m : Table). AreasAreApart m.areas) (sym c.in_ok-cut.ensures.ok) (split_apart c.args.pid c.args.first c.args.self.now.areas c.requires.whole c.requires.apart)

pub split-requires-2-clause-whole : goal.split-requires-2-clause-whole
split-requires-2-clause-whole g c =
    subst (λ (m : Table). AllByRecursion IsSomePages m.areas) (sym c.in_ok-cut.ensures.ok) (split_some c.args.pid c.args.first c.args.self.now.areas c.requires.whole)

pub split-requires-2-clause-indices : goal.split-requires-2-clause-indices
split-requires-2-clause-indices g c =
    subst (λ (m : Table). AllByRecursion HasIndices m.areas) (sym c.in_ok-cut.ensures.ok) (split_indices c.args.pid c.args.first c.args.self.now.areas c.requires.whole c.requires.indices)

pub unsplit-requires : goal.unsplit-requires
unsplit-requires g c =
    let pid = c.args.pid in
    let first = c.args.first in
    let areas = c.args.self.now.areas in
    let cut = subst (λ (o : Option (ℕ × Area)). IfSome o (λ k. (k.0 < first) × (area_over areas pid first ≡ Some ((pid, k.0), k.1)))) c.in-Some.is c.in_ok-cut.ensures.some in
    let split = ap (λ (t : Table). t.areas) (c.in-Err.ensures.err ∙ c.in_ok-cut.ensures.ok) in
    record { same = same_back pid first _ _ areas c.requires.apart c.requires.whole cut.1 c.split-2.new.self.areas split }

pub returns-in-Some-clause-err : goal.returns-in-Some-clause-err
returns-in-Some-clause-err g c =
    let pid = c.args.pid in
    let first = c.args.first in
    let areas = c.args.self.now.areas in
    let cut = subst (λ (o : Option (ℕ × Area)). IfSome o (λ k. (k.0 < first) × (area_over areas pid first ≡ Some ((pid, k.0), k.1)))) c.in-Some.is c.in_ok-cut.ensures.some in
    undone pid first _ _ c.args.self.now c.split-2.new.self c.unsplit.new.self cut.0 cut.1 c.requires.whole c.requires.apart c.requires.ordered
    (c.in-Err.ensures.err ∙ c.in_ok-cut.ensures.ok) c.unsplit.ensures

pub returns-clause-ok : goal.returns-clause-ok
returns-clause-ok g c =
    c.in_default.ensures.ok ∙ ap (λ (t : Table). with_areas t (split_at c.args.pid c.args.end t.areas)) c.in_ok-cut.ensures.ok

-- ---- memory is asked for only where there is something to split

pub returns-in_err-cut-clause-allocates : goal.returns-in_err-cut-clause-allocates
returns-in_err-cut-clause-allocates g c = err_always c.from_residual.result (inl c.in_err-cut.ensures.allocates)

pub returns-in-Some-clause-allocates : goal.returns-in-Some-clause-allocates
returns-in-Some-clause-allocates g c =
    inr (still_split c.args.pid c.args.first c.args.end c.args.self.now.areas c.requires.whole c.requires.apart
    (subst (λ (t : Table). HasSplit t.areas c.args.pid c.args.end) c.in_ok-cut.ensures.ok c.in-Err.ensures.allocates))
