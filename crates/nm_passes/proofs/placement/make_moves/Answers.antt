use Rattle.std.proofs.Common.{◌<◌, true, [], length, ap, sym, subst, ◌∙◌}
use Rattle.nm_model.specs.definitions.Cut.{cut_within}
use Rattle.std.proofs.lemmas.List.{append-nil}
use Rattle.nm_model.specs.definitions.Run.{runs_from}
use Rattle.nm_passes.specs.definitions.Placement.{each_to}
use Rattle.nm_passes.specs.definitions.Passes.{passes}
use Rattle.nm_passes.specs.views.Runs.{Stops, MakesRuns, runs_in}
use Rattle.nm_passes.proofs.NodesInTurn.Passes.{HavePassed, none_passed, some_run_of, stopped_later, something_is}
use Rattle.nm_passes.proofs.Policies.SentPages.{sent_length}
use Rattle.nm_passes.proofs.placement.make_moves.Goals as goal

pub returns : goal.returns
returns g c =
    let x = c.args in
    let s = x.machine.now in
    let asked = each_to c.in-Turns.pid c.in-Turns.all in
    let es = asked c.as_slice-in-Turns.result.now in
    let runs = cut_within x.limit es in
    let value = c.as_slice-in-Turns.ensures.value in
    let all = sym (ap (runs_in x.limit s) c.in-Turns.is ∙ ap (λ sent. cut_within x.limit (asked sent)) (sym value)) in
    let has = something_is _ _ c.in-Turns.sent.ok.0 (sym c.is_empty.ensures ∙ c.if-is_empty.false) in
    let some : 0 < length es = subst (λ l. 0 < length (asked l)) (sym value) (subst (λ n. 0 < n) (sym (sent_length c.in-Turns.pid c.in-Turns.all c.in-Turns.sent.items)) has) in
    let passed = subst (λ l. HavePassed s runs l s 0) (sym (append-nil runs)) (none_passed s runs) in
    subst (Stops true c.later.result s c.make_turns.new.machine) all
    (stopped_later true c.in-Err.error c.later.result s s c.make_turns.new.machine runs runs [] 0 c.in-Err.ensures.made passed (some_run_of x.limit es c.requires.some some) c.later.ensures)

pub returns-in-Passes : goal.returns-in-Passes
returns-in-Passes g c =
    let x = c.args in
    let s = x.machine.now in
    let all = ap (λ nodes. passes x.limit s nodes c.in-Passes.wanted.items) c.as_slice.ensures.value ∙ sym (ap (runs_in x.limit s) c.in-Passes.is) in
    subst (MakesRuns true c.make_passes.result s c.make_passes.new.machine) all c.make_passes.ensures.runs

pub returns-in-Ok : goal.returns-in-Ok
returns-in-Ok g c =
    let x = c.args in
    let s = x.machine.now in
    let all = sym (ap (runs_in x.limit s) c.in-Turns.is ∙ ap (λ sent. cut_within x.limit (each_to c.in-Turns.pid c.in-Turns.all sent)) (sym c.as_slice-in-Turns.ensures.value)) in
    c.in-Ok.ensures.made.0 ∙ ap (λ runs. (runs_from 0 s runs []).state) all
