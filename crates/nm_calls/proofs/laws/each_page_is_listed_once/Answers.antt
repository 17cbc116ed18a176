use Rattle.nm_calls.proofs.PageLists.RequestsDiffer.{each_page_is_listed_once}
use Rattle.nm_calls.proofs.laws.each_page_is_listed_once.Goals as goal

pub returns : goal.returns
returns c = each_page_is_listed_once
