use Rattle.std.proofs.Common.{◌≡◌, ◌<◌, ℕ, true, false, cond, List, [], map, refl, sym, ap, subst, ◌∙◌}
use Rattle.nm_types.specs.Layout.{node_count}
use Rattle.nm_model.specs.definitions.Run.{HasOneAll}
use Rattle.nm_passes.specs.definitions.Passes.{passes}
use Rattle.nm_types.specs.Nodes.{is_in}
use Rattle.nm_model.specs.definitions.Seen.{placed_on}
use Rattle.nm_types.specs.State.{State}
use Rattle.nm_types.specs.declared.page.Page.{Page}
use Rattle.nm_types.specs.declared.request.Wanted.{Wanted}
use Rattle.nm_types.specs.declared.request.Wanted.TheVariants.{Whole}
use Rattle.nm_model.specs.definitions.Effect.{set_online}
use Rattle.nm_model.specs.definitions.Run.{runs_from}
use Rattle.nm_calls.specs.definitions.Offline.{refuges, offline_runs}
use Rattle.nm_calls.proofs.NodesOffline.Results.{wholes_alike}
use Rattle.nm_calls.proofs.NodesOffline.Results.{none_emptied, keeps_stopped, still_found}
use Rattle.nm_passes.proofs.NodesInTurn.Passes.{runs_layout}
use Rattle.nm_calls.proofs.offline.empty_node.Goals as goal

-- the passes over the nodes and pages that were listed are the runs of the call
runs_of : (limit : ℕ) (s : State) (node : ℕ) (pages : List Page) (nodes : List ℕ) (wanted : List Wanted) → is_in s.online node ≡ true → pages ≡ placed_on s node → nodes ≡ refuges s node → wanted ≡ map Whole pages → passes limit s nodes wanted ≡ offline_runs limit s node
runs_of limit s node pages nodes wanted online all order whole =
    ap (λ ns. passes limit s ns wanted) order ∙ ap (passes limit s (refuges s node)) (whole ∙ ap (map Whole) all)
    ∙ sym (ap (λ b. cond b (passes limit s (refuges s node) (map Whole (placed_on s node))) []) online)

pub make_passes-requires-clause-alike : goal.make_passes-requires-clause-alike
make_passes-requires-clause-alike g c κs within = subst HasOneAll (sym c.in_ok-wanted.ensures) (wholes_alike c.as_slice.result.now)

pub set_online-requires-after_bounds : goal.set_online-requires-after_bounds
set_online-requires-after_bounds g c κs within =
    let s = c.args.machine.now in
    let runs = passes c.args.limit s c.as_slice-2.result.now c.in_ok-wanted.wanted.items in
    subst (λ n. c.args.node < n) (sym (ap (λ t. node_count t.layout) c.in_default.ensures.runs ∙ ap node_count (runs_layout 0 s runs))) c.requires.node

pub returns-in_err-pages : goal.returns-in_err-pages
returns-in_err-pages g c = none_emptied _ _ _ _ c.from_residual.ensures.1

pub returns-in_err-nodes : goal.returns-in_err-nodes
returns-in_err-nodes g c = none_emptied _ _ _ _ c.from_residual-in_err-nodes.ensures.1

pub returns-in_err-wanted : goal.returns-in_err-wanted
returns-in_err-wanted g c = none_emptied _ _ _ _ c.from_residual-in_err-wanted.ensures.1

pub returns-in-Err : goal.returns-in-Err
returns-in-Err g c = keeps_stopped c.in-Err.error _ _ _ _ _ (runs_of c.args.limit c.args.machine.now c.args.node _ _ _ c.requires.online (c.as_slice.ensures.value ∙ c.in_ok-pages.ensures.list) (c.as_slice-2.ensures.value ∙ c.in_ok-nodes.ensures.order) c.in_ok-wanted.ensures) c.in-Err.ensures.runs

pub returns-then-some_on : goal.returns-then-some_on
returns-then-some_on g c =
    let s = c.args.machine.now in
    let runs = runs_of c.args.limit s c.args.node _ _ _ c.requires.online (c.as_slice.ensures.value ∙ c.in_ok-pages.ensures.list) (c.as_slice-2.ensures.value ∙ c.in_ok-nodes.ensures.order) c.in_ok-wanted.ensures in
    let made = c.in_default.ensures.runs ∙ ap (λ rs. (runs_from 0 s rs []).state) runs in
    (still_found s c.make_passes.new.machine _ c.args.node c.as_slice-3.result.now true c.requires.online (c.as_slice-3.ensures.value ∙ c.in_ok-pages.ensures.list) made (sym c.some_on.ensures ∙ c.if-some_on.true), refl, made)

pub returns : goal.returns
returns g c =
    let s = c.args.machine.now in
    let runs = runs_of c.args.limit s c.args.node _ _ _ c.requires.online (c.as_slice.ensures.value ∙ c.in_ok-pages.ensures.list) (c.as_slice-2.ensures.value ∙ c.in_ok-nodes.ensures.order) c.in_ok-wanted.ensures in
    let made = c.in_default.ensures.runs ∙ ap (λ rs. (runs_from 0 s rs []).state) runs in
    (still_found s c.make_passes.new.machine _ c.args.node c.as_slice-3.result.now false c.requires.online (c.as_slice-3.ensures.value ∙ c.in_ok-pages.ensures.list) made (sym c.some_on.ensures ∙ c.if-some_on.false), c.set_online.ensures ∙ ap (λ t. set_online t c.args.node false) made)
