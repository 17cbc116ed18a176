use Rattle.nm_calls.proofs.PageLists.NoneTwice.{each_page_is_listed_once}
use Rattle.nm_calls.proofs.PageLists.Pairs.{runs_go_online}
use Rattle.nm_calls.proofs.laws.migrations_are_lists.Goals as goal

pub returns-clause-once : goal.returns-clause-once
returns-clause-once c = each_page_is_listed_once

pub returns-clause-online : goal.returns-clause-online
returns-clause-online c = runs_go_online
