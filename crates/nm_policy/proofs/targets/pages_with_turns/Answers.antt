use Rattle.std.proofs.Common.{◌≡◌, ℕ, ◌+◌, ◌<◌, List, [], ◌∷◌, ◌++◌, map, length, take, get_or, sym, ap, ◌∙◌, arith}
use Rattle.std.proofs.lemmas.List.{take_all, map_more, get_or_read}
use Rattle.std.proofs.lemmas.Result.{IfOk-from_err}
use Rattle.nm_policy.specs.declared.targets.Destination.{Destination}
use Rattle.nm_types.specs.declared.located_page.LocatedPage.{LocatedPage}
use Rattle.nm_model.specs.definitions.Order.{turn}
use Rattle.nm_policy.specs.definitions.Turns.{with_turn}
use Rattle.nm_policy.proofs.targets.pages_with_turns.Goals as goal

one_more : (nodes : List ℕ) (pages : List LocatedPage) (i t : ℕ) (e : LocatedPage) (ds ns : List Destination) → i < length pages → e ≡ get_or pages i e → t ≡ turn nodes e.page.index → ds ≡ map (with_turn nodes) (take i pages)
    → ns ≡ ds ++ record { vpn = e.vpn; to = t } ∷ [] → ns ≡ map (with_turn nodes) (take (i + 1) pages)
one_more nodes pages i t e ds ns lt at is had now =
    now ∙ (ap (λ l. l ++ record { vpn = e.vpn; to = t } ∷ []) had ∙ (ap (λ (z : ℕ). map (with_turn nodes) (take i pages) ++ record { vpn = e.vpn; to = z } ∷ []) is
    ∙ (ap (λ (z : LocatedPage). map (with_turn nodes) (take i pages) ++ with_turn nodes z ∷ []) at ∙ sym (map_more (with_turn nodes) pages i e lt))))

pub returns-in_err-dealt-clause-dealt : goal.returns-in_err-dealt-clause-dealt
returns-in_err-dealt-clause-dealt g c = IfOk-from_err _ _ c.from_residual.ensures.0

pub loop-found-init : goal.loop-found-init
loop-found-init g c = c.in_ok-dealt.ensures.items

pub bounds-pages-found-index : goal.bounds-pages-found-index
bounds-pages-found-index g c = c.loop-found-test.true

pub nonzero_rem-turn : goal.nonzero_rem-turn
nonzero_rem-turn g c = c.requires

pub bounds-nodes-turn : goal.bounds-nodes-turn
bounds-nodes-turn g c = omega (arith, c.requires)

pub returns-in_err-push-clause-dealt : goal.returns-in_err-push-clause-dealt
returns-in_err-push-clause-dealt g c = IfOk-from_err _ _ c.from_residual-in_err-push.ensures.0

pub loop-found-smaller : goal.loop-found-smaller
loop-found-smaller g c = omega (arith, c.loop-found-test.true)

pub loop-found-preserved : goal.loop-found-preserved
loop-found-preserved g c =
    one_more c.args.nodes.now c.args.pages.now c.loop-found.found-index c.index-nodes-turn.result c.found-item.result _ _ c.loop-found-test.true c.found-item.is
    (get_or_read c.args.nodes.now _ _ (omega (arith, c.requires)) c.index-nodes-turn.is 0) c.loop-found.invariant c.in_ok-push.ensures.items

pub returns-clause-dealt : goal.returns-clause-dealt
returns-clause-dealt g c = c.loop-found.invariant ∙ ap (map (with_turn c.args.nodes.now)) (take_all c.loop-found.found-index c.args.pages.now c.loop-found-test.false)
