use Rattle.std.proofs.Common.{◌<◌, ◌++◌, length, ap, subst, ◌∙◌, arith}
use Rattle.nm_tables.specs.views.Blocks.{block_entries}
use Rattle.nm_tables.proofs.Within.{within}
use Rattle.nm_tables.proofs.Listed.{list-all, some_left_out}
use Rattle.nm_tables.proofs.Results.{where_err}
use Rattle.nm_tables.proofs.Slots.{ordered_by}
use Rattle.nm_tables.proofs.table.PageTable.entries.Goals as goal

pub returns-in_err-list_within-clause-ordered : goal.returns-in_err-list_within-clause-ordered
returns-in_err-list_within-clause-ordered g c = ordered_by c.self.inside.blocks c.args.self.now c.self.view_is c.self.invariant

pub returns-clause-ordered : goal.returns-clause-ordered
returns-clause-ordered g c = ordered_by c.self.inside.blocks c.args.self.now c.self.view_is c.self.invariant

pub returns-in_err-list_within-clause-allocates : goal.returns-in_err-list_within-clause-allocates
returns-in_err-list_within-clause-allocates g c =
    let b = c.self.inside.blocks in
    let last = c.new-2.ensures in
    let all =
    ap (λ l. l ++ within c.new.result c.new-2.result (block_entries b)) c.new-list.ensures.items ∙ ap (λ n. within n c.new-2.result (block_entries b)) c.new.ensures
    ∙ list-all b.leaves.items b.index c.self.invariant.0 c.new-2.result (omega (arith, last)) ∙ c.self.view_is in
    where_err c.from_residual.result (subst (λ es. 0 < length es) all (some_left_out c.list_within.new.list.items _ c.in_err-list_within.ensures.short))

pub returns-clause-all : goal.returns-clause-all
returns-clause-all g c =
    let b = c.self.inside.blocks in
    let last = c.new-2.ensures in
    c.in_ok-list_within.ensures.ok ∙ ap (λ l. l ++ within c.new.result c.new-2.result (block_entries b)) c.new-list.ensures.items ∙ ap (λ n. within n c.new-2.result (block_entries b)) c.new.ensures
    ∙ list-all b.leaves.items b.index c.self.invariant.0 c.new-2.result (omega (arith, last)) ∙ c.self.view_is
