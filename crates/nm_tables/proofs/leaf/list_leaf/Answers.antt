use Rattle.std.proofs.Common.{◌≡◌, ◌+◌, ◌*◌, ◌≤◌, ◌<◌, ◌++◌, [], ◌∷◌, sym, ap, subst, ◌∙◌, arith, append-nil, append_assoc}
use Rattle.nm_tables.specs.views.Leaves.{leaf_entries}
use Rattle.nm_tables.proofs.Numbers.{is_below, is_not_below}
use Rattle.nm_tables.proofs.Results.{where_err}
use Rattle.nm_tables.proofs.Within.{within}
use Rattle.nm_tables.proofs.Listed.{extended, unextended, cut_short, leaf-first, leaf-next, leaf-beyond, leaf-done}
use Rattle.nm_tables.proofs.leaf.list_leaf.Given.{Over}
use Rattle.nm_tables.proofs.leaf.list_leaf.Goals.{Else-lt}
use Rattle.nm_tables.proofs.leaf.list_leaf.Goals as goal

pub loop-place-init : goal.loop-place-init
loop-place-init g c =
    record {
      fits = c.place_from-from.ensures.fits;
      left = ap (λ m. c.args.list.now.items ++ m) (sym (leaf-first c.args.leaf.now c.args.last c.args.first c.place_from-from.result c.place_from-from.ensures.first c.place_from-from.ensures.last));
      before = unextended c.args.list.now.items;
    }

-- the entry of this round is the next one
its_entry : (g : Over) (c : Else-lt g)
    → let b = c.args.leaf.now.block * 512 in within (b + c.loop-place.from) c.args.last (leaf_entries c.args.leaf.now) ≡ (b + c.in-Some.place, c.in-Some.entry) ∷ within (b + (c.in-Some.place + 1)) c.args.last (leaf_entries c.args.leaf.now)
its_entry g c =
    let some = c.in-Some.ensures.some in
    leaf-next c.args.leaf.now c.args.last c.loop-place.from c.in-Some.place c.in-Some.entry some.0 some.1 c.in-Some.ensures.first some.2
    (subst (λ n. n ≤ c.args.last) c.new-vpn.ensures (is_not_below c.args.last c.new-vpn.result c.lt.result c.lt.ensures c.if-lt.false))

pub loop-place-preserved : goal.loop-place-preserved
loop-place-preserved g c =
    let p = c.args.leaf.now in
    let l = c.loop-place in
    let some = c.in-Some.ensures.some in
    let next = its_entry g (goal.at.loop-place-preserved g c).Else-lt in
    let rest = within (p.block * 512 + (c.in-Some.place + 1)) c.args.last (leaf_entries p) in
    record {
      fits = omega (arith, some.1);
      left = ap (λ ls. ls ++ rest) c.in_ok-push.ensures.items ∙ append_assoc l.list.items ((c.new-vpn.result, c.in-Some.entry) ∷ []) rest
          ∙ ap (λ m. l.list.items ++ m) (ap (λ n. (n, c.in-Some.entry) ∷ rest) c.new-vpn.ensures ∙ sym next) ∙ l.invariant.left;
      before = extended c.args.list.now.items l.list.items ((c.new-vpn.result, c.in-Some.entry) ∷ []) c.push.new.self.items l.invariant.before c.in_ok-push.ensures.items;
    }

pub returns-then-lt-clause-ok : goal.returns-then-lt-clause-ok
returns-then-lt-clause-ok g c =
    let p = c.args.leaf.now in
    let l = c.loop-place in
    let at : c.new-vpn.result ≡ p.block * 512 + c.in-Some.place = c.new-vpn.ensures in
    let high = subst (λ n. c.args.last < n) at (is_below c.args.last c.new-vpn.result c.lt.result c.lt.ensures c.if-lt.true) in
    sym (append-nil l.list.items) ∙ ap (λ m. l.list.items ++ m) (sym (leaf-beyond p c.args.last l.from c.in-Some.place c.in-Some.ensures.first high)) ∙ l.invariant.left

pub returns-clause-ok : goal.returns-clause-ok
returns-clause-ok g c =
    let l = c.loop-place in
    sym (append-nil l.list.items) ∙ ap (λ m. l.list.items ++ m) (sym (leaf-done c.args.leaf.now c.args.last l.from c.in_default.ensures.none)) ∙ l.invariant.left

pub returns-in_err-push-clause-short : goal.returns-in_err-push-clause-short
returns-in_err-push-clause-short g c =
    let l = c.loop-place in
    let next = its_entry g (goal.at.returns-in_err-push-clause-short g c).Else-lt in
    where_err c.from_residual.result (cut_short _ l.list.items c.push.new.self.items _ _ (ap (λ m. l.list.items ++ m) (sym next) ∙ l.invariant.left) c.in_err-push.ensures.items)
