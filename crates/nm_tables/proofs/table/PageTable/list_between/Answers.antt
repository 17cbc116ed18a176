use Rattle.std.proofs.Common.{◌≡◌, ◌+◌, ◌++◌, sym, ap, subst, ◌∙◌, arith, append-nil}
use Rattle.std.proofs.lemmas.Result.{on_ok_weaker, on_err_weaker}
use Rattle.std.specs.Ordering.{nat_cmp}
use Rattle.std.specs.declared.ops.Bound.TheVariants.{Included, Excluded}
use Rattle.std.specs.BTreeMap.Range.{entries_between}
use Rattle.nm_tables.specs.definitions.Lists.{IsCutShort}
use Rattle.nm_tables.proofs.Slots.{ordered_by}
use Rattle.nm_tables.proofs.Within.{within, within_end, none_below}
use Rattle.nm_tables.proofs.table.PageTable.list_between.Given.{Over}
use Rattle.nm_tables.proofs.table.PageTable.list_between.Goals.{After-new}
use Rattle.nm_tables.proofs.table.PageTable.list_between.Goals as goal

pub returns-then-number-eq0-clause-all : goal.returns-then-number-eq0-clause-all
returns-then-number-eq0-clause-all g c =
    let items = c.args.list.now.items in
    sym (append-nil items)
    ∙ ap (λ m. items ++ m) (sym (none_below c.args.first c.args.self.now) ∙ ap (λ n. entries_between nat_cmp (Included c.args.first) (Excluded n) c.args.self.now) (sym c.if-number-eq0.true ∙ c.number.ensures))

pub returns-then-number-eq0-clause-ordered : goal.returns-then-number-eq0-clause-ordered
returns-then-number-eq0-clause-ordered g c = ordered_by c.self.inside.blocks c.args.self.now c.self.view_is c.self.invariant

-- the pages up to the last one are those before the end
to_the_end : (g : Over) (c : After-new g) → within c.args.first c.new.result c.args.self.now ≡ entries_between nat_cmp (Included c.args.first) (Excluded c.args.end) c.args.self.now
to_the_end g c =
    let is = c.number.ensures in
    let again = c.number-2.ensures in
    let some = c.if-number-eq0.false in
    let made = c.new.ensures in
    within_end c.args.first c.new.result c.args.end (omega (arith, is, again, some, made)) c.args.self.now

pub returns-clause-all : goal.returns-clause-all
returns-clause-all g c =
    on_ok_weaker c.list_within.result
    (λ all. all ∙ ap (λ m. c.args.list.now.items ++ m) (ap (within c.args.first c.new.result) c.self.view_is ∙ to_the_end g (goal.at.returns-clause-all g c).After-new))
    c.list_within.ensures.ok

pub returns-clause-ordered : goal.returns-clause-ordered
returns-clause-ordered g c = ordered_by c.self.inside.blocks c.args.self.now c.self.view_is c.self.invariant

pub returns-clause-short : goal.returns-clause-short
returns-clause-short g c =
    on_err_weaker c.list_within.result
    (λ short. subst (IsCutShort c.list_within.new.list.items) (ap (λ m. c.args.list.now.items ++ m) (ap (within c.args.first c.new.result) c.self.view_is ∙ to_the_end g (goal.at.returns-clause-short g c).After-new)) short)
    c.list_within.ensures.short
