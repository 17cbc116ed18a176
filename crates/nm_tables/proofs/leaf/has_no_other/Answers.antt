use Rattle.std.proofs.Common.{sym, ◌∙◌}
use Rattle.nm_tables.proofs.Leaves.{only-without, without-only}
use Rattle.nm_tables.proofs.leaf.has_no_other.Goals as goal

pub returns-clause-none : goal.returns-clause-none
returns-clause-none c = λ yes. only-without c.args.leaf.now c.args.vpn c.requires (λ i l apart. c.has_no_other.ensures.none yes i l (λ z. apart (z ∙ c.place_of.ensures)))

pub returns-clause-some : goal.returns-clause-some
returns-clause-some c = λ no none. c.has_no_other.ensures.some no (λ i l apart. without-only c.args.leaf.now c.args.vpn c.requires none i l (λ z. apart (z ∙ sym c.place_of.ensures)))
