use Rattle.std.proofs.Common.{◌≡◌, ◌+◌, ◌||◌, Bool, true, false, List, map, refl, ap, sym, ◌∙◌, drop}
use Rattle.std.specs.List.{list_any}
use Rattle.nm_types.specs.declared.page.Page.{Page}
use Rattle.nm_types.specs.Map.{same_page}
use Rattle.nm_types.specs.declared.page_move.PageMove.{PageMove}
use Rattle.nm_laws.proofs.Lists.{drop_item}
use Rattle.nm_laws.proofs.Early.Among.{one_more}
use Rattle.nm_engine.proofs.prepared_run.prepare.pages_of.Goals as goal

or_turn : (a b r : Bool) → ((a || b) || r) ≡ (b || (a || r))
or_turn true true r = refl
or_turn true false r = refl
or_turn false true r = refl
or_turn false false r = refl

pub loop-taken-preserved : goal.loop-taken-preserved
loop-taken-preserved g c =
    let t = c.taken-item.result in
    let k = c.loop-taken.taken-index in
    let moves = c.args.moves.now in
    record {
      among = λ p.
          let rest = list_any (same_page p) (map (λ (t : PageMove). t.page) (drop (k + 1) moves)) in
          ap (λ (ks : List Page). list_any (same_page p) ks || rest) (c.in_ok-insert.ensures.keys ∙ refl)
          ∙ ap (λ b. b || rest) (one_more c.loop-taken.pages.keys t.page p)
          ∙ or_turn (same_page p t.page) (list_any (same_page p) c.loop-taken.pages.keys) rest
          ∙ ap (λ (ts : List PageMove). list_any (same_page p) c.loop-taken.pages.keys || list_any (same_page p) (map (λ (t : PageMove). t.page) ts)) (sym (drop_item moves k t c.loop-taken-test.true c.taken-item.is))
          ∙ c.loop-taken.invariant.among p;
    }
