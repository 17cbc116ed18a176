use Rattle.std.proofs.Common.{◌≡◌, ◌∙◌, sym, ap, subst, arith}
use Rattle.std.specs.Bool.{OnFalse}
use Rattle.nm_rmap.specs.Mappers.{process_count}
use Rattle.nm_rmap.proofs.Counting.{removed_last, removed_known}
use Rattle.nm_rmap.proofs.mappings.remove_from.Goals as goal
use Rattle.nm_rmap.proofs.mappings.remove_from.Goals.{else-there-via-then-there+else-not-known, else-there-via-else-there}

pub overflow_sub-processes : goal.overflow_sub-processes
overflow_sub-processes g c =
    let now = removed_last c.args.tree.now.keys c.remove-there.new.self.keys (c.args.pid, c.args.vpn) c.has_process-known.result (sym c.remove-there.ensures.test ∙ c.if-there.true)
    c.remove-there.ensures.keys c.has_process-known.ensures c.if-not-known.true in
    omega (arith, now, c.requires)

pub returns-then-not-known-clause-count : goal.returns-then-not-known-clause-count
returns-then-not-known-clause-count g c =
    let now = removed_last c.args.tree.now.keys c.remove-there.new.self.keys (c.args.pid, c.args.vpn) c.has_process-known.result (sym c.remove-there.ensures.test ∙ c.if-there.true)
    c.remove-there.ensures.keys c.has_process-known.ensures c.if-not-known.true in
    omega (arith, now, c.requires)

pub returns-else-there-clause-count : goal.returns-else-there-clause-count
returns-else-there-clause-count g c =
    elim c.else-there.branch [
      | else-there-via-then-there+else-not-known w ↦
          c.requires
          ∙ removed_known c.args.tree.now.keys c.remove-there.new.self.keys (c.args.pid, c.args.vpn) c.has_process-known.result (sym c.remove-there.ensures.test ∙ w.if-there.true)
          c.remove-there.ensures.keys c.has_process-known.ensures w.if-not-known.false
      | else-there-via-else-there w ↦
          c.requires
          ∙ sym (ap process_count (subst (λ b. OnFalse b (c.remove-there.new.self.keys ≡ c.args.tree.now.keys)) w.if-there.false c.remove-there.ensures.unchanged))
    ]
