use Rattle.std.proofs.Common.{sym, ◌∙◌, rules}
use Rattle.std.proofs.lemmas.Fn.{always_returns_same}
use Rattle.nm_types.specs.Map.{page_cmp}
use Rattle.nm_plan.proofs.Searched.{found_by_halves, past_all}
use Rattle.nm_plan.proofs.search.is_among_ascending.Goals as goal

pub returns : goal.returns
returns c =
    c.is_ok.ensures.value
    ∙ found_by_halves c.args.moves.now c.args.page c.binary_search_by.result c.requires c.binary_search_by.ensures.bound
    (c.binary_search_by.ensures.position (λ t. page_cmp t.page c.args.page) (always_returns_same _ _ _ (λ a r q k. (search rules, search rules))))

pub returns-then-is_past : goal.returns-then-is_past
returns-then-is_past c = sym (past_all c.args.moves.now c.args.page c.requires c.if-is_past.ensures.past)
