use Rattle.nm_policy.proofs.Sorted.{each_set_has_one_order}
use Rattle.nm_policy.proofs.laws.each_set_has_one_order.Goals as goal

pub returns : goal.returns
returns c = each_set_has_one_order
