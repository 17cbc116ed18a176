use Rattle.nm_policy.proofs.Paired.{each_set_is_paired_in_order}
use Rattle.nm_policy.proofs.laws.each_set_is_paired_in_order.Goals as goal

pub returns : goal.returns
returns c = each_set_is_paired_in_order
