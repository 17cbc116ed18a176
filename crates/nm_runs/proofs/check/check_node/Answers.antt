use Rattle.std.proofs.Common.{◌≡◌, Bool, true, false, not, refl, sym, ap, ◌∙◌, arith}
use Rattle.std.specs.Prelude.{nat_le, ◌||◌, Some, None, if◌then◌else◌}
use Rattle.std.proofs.lemmas.Bool.{le-leb}
use Rattle.nm_types.specs.declared.errno.Errno.TheVariants.{Eacces, Enodev}
use Rattle.nm_types.specs.Nodes.{is_in}
use Rattle.nm_runs.proofs.check.check_node.Goals.{then-index-count-via-then-index-count, then-index-count-via-else-index-count+then-not-contains}
use Rattle.nm_runs.proofs.check.check_node.Goals as goal

or_second : (a b : Bool) → b ≡ true → (a || b) ≡ true
or_second true b e = refl
or_second false b e = e

pub returns-then-index-count-clause-exact : goal.returns-then-index-count-clause-exact
returns-then-index-count-clause-exact c =
    let missing : (nat_le c.args.count c.args.node || not (is_in c.args.online c.args.node)) ≡ true = elim c.then-index-count.branch [
      | then-index-count-via-then-index-count w ↦ ap (λ b. b || not (is_in c.args.online c.args.node)) (le-leb c.args.count c.args.node (omega (arith, w.if-index-count.true, c.index.ensures)))
      | then-index-count-via-else-index-count+then-not-contains w ↦ or_second (nat_le c.args.count c.args.node) _ (ap not (sym w.contains.ensures ∙ w.if-not-contains.true))
    ] in
    ap (λ b. if b then Some Enodev else (if is_in c.args.allowed c.args.node then None else Some Eacces)) missing
