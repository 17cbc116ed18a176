use Rattle.std.proofs.Common.{◌∙◌, sym, arith}
use Rattle.nm_rmap.proofs.Counting.{inserted_new, inserted_known, few_processes}
use Rattle.nm_rmap.proofs.mappings.insert_in.Goals as goal

pub prove-unreachable-requires : goal.prove-unreachable-requires
prove-unreachable-requires g c = omega (arith, c.if-prove.true, c.requires, few_processes c.args.tree.now.keys, c.len-len.ensures.len)

pub returns-then-not-known-clause-count : goal.returns-then-not-known-clause-count
returns-then-not-known-clause-count g c =
    let now = inserted_new c.args.tree.now.keys c.insert.new.self.keys (c.args.pid, c.args.vpn) c.has_process-known.result c.in_ok-insert.ensures.keys c.has_process-known.ensures c.if-not-known.true in
    omega (arith, now, c.requires)

pub returns-else-not-known-clause-count : goal.returns-else-not-known-clause-count
returns-else-not-known-clause-count g c =
    c.requires
    ∙ sym (inserted_known c.args.tree.now.keys c.insert.new.self.keys (c.args.pid, c.args.vpn) c.has_process-known.result c.in_ok-insert.ensures.keys c.has_process-known.ensures c.if-not-known.false)
