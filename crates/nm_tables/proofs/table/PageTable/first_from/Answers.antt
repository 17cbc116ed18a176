use Rattle.std.proofs.Common.{◌≡◌, ◌≤◌, ◌<◌, ℕ, subst}
use Rattle.std.specs.Prelude.{None, IfSome, IfNone}
use Rattle.std.specs.Ordering.{nat_cmp}
use Rattle.nm_types.specs.Map.{get}
use Rattle.nm_tables.proofs.Slots.{ordered_by}
use Rattle.nm_tables.proofs.table.PageTable.first_from.Goals as goal

pub returns-clause-ordered : goal.returns-clause-ordered
returns-clause-ordered g c = ordered_by c.self.inside.blocks c.args.self.now c.self.view_is c.self.invariant

pub returns-clause-none : goal.returns-clause-none
returns-clause-none g c = subst (λ m. IfNone c.first_from.result ((v : ℕ) → c.args.at ≤ v → get nat_cmp m v ≡ None)) c.self.view_is c.first_from.ensures.none

pub returns-clause-first : goal.returns-clause-first
returns-clause-first g c = subst (λ m. IfSome c.first_from.result (λ e. (v : ℕ) → c.args.at ≤ v → v < e.0 → get nat_cmp m v ≡ None)) c.self.view_is c.first_from.ensures.first
