use Rattle.std.proofs.Common.{arith, ◌++◌, [], ◌∷◌, map, take, ap, sym, ◌∙◌}
use Rattle.std.proofs.lemmas.List.{map_more, map_push, take_all}
use Rattle.std.proofs.lemmas.Result.{IfOk-from_err}
use Rattle.std.specs.Prelude.{string_bytes}
use Rattle.nm_calls.specs.definitions.Maps.{lines_shown}
use Rattle.nm_calls.specs.views.Tally.{line_text}
use Rattle.nm_passes.proofs.Batches.Results.{on_err}
use Rattle.nm_calls.proofs.maps.areas_text.Goals as goal

pub loop-area-preserved : goal.loop-area-preserved
loop-area-preserved g c =
    let text = c.in_ok-area_text.field-0 in
    let show = line_text c.args.machine.now c.args.pid in
    let so_far = take c.loop-area.area-index c.args.areas.now in
    ap lines_shown c.in_ok-push.ensures.items ∙ map_push string_bytes c.loop-area.lines.items text
    ∙ ap (λ l. l ++ string_bytes text ∷ []) c.loop-area.invariant
    ∙ ap (λ bytes. map show so_far ++ bytes ∷ []) c.in_ok-area_text.ensures
    ∙ sym (map_more show c.args.areas.now c.loop-area.area-index c.area-item.result c.loop-area-test.true ∙ ap (λ area. map show so_far ++ show area ∷ []) (sym c.area-item.is))

pub returns-in_err-lines-clause-list : goal.returns-in_err-lines-clause-list
returns-in_err-lines-clause-list g c = IfOk-from_err _ _ c.from_residual.ensures.0

pub loop-area-init : goal.loop-area-init
loop-area-init g c = ap lines_shown c.in_ok-lines.ensures.items

pub returns-in_err-area_text-clause-list : goal.returns-in_err-area_text-clause-list
returns-in_err-area_text-clause-list g c = IfOk-from_err _ _ c.from_residual-in_err-area_text.ensures.0

pub returns-in_err-area_text-clause-allocates : goal.returns-in_err-area_text-clause-allocates
returns-in_err-area_text-clause-allocates g c = on_err c.from_residual-in_err-area_text.result (omega (arith, c.loop-area-test.true))

pub returns-in_err-push-clause-list : goal.returns-in_err-push-clause-list
returns-in_err-push-clause-list g c = IfOk-from_err _ _ c.from_residual-in_err-push.ensures.0

pub returns-in_err-push-clause-allocates : goal.returns-in_err-push-clause-allocates
returns-in_err-push-clause-allocates g c = on_err c.from_residual-in_err-push.result (omega (arith, c.loop-area-test.true))

pub returns-clause-list : goal.returns-clause-list
returns-clause-list g c = c.loop-area.invariant ∙ ap (map (line_text c.args.machine.now c.args.pid)) (take_all c.loop-area.area-index c.args.areas.now (omega (arith, c.loop-area-test.false)))
