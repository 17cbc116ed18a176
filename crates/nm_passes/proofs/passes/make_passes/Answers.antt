use Rattle.std.proofs.Common.{◌<◌, ◌+◌, [], drop, length, ap, sym, subst, ◌∙◌, arith}
use Rattle.nm_types.specs.Layout.{node_count}
use Rattle.nm_model.specs.definitions.Cut.{all_to}
use Rattle.nm_model.specs.definitions.Cut.{cut_within}
use Rattle.nm_model.specs.definitions.Run.{runs_from}
use Rattle.nm_passes.specs.definitions.Passes.{passes, short_of_frames}
use Rattle.nm_model.specs.definitions.Run.{HasOneAll}
use Rattle.nm_passes.proofs.NodesInTurn.Passes.{HavePassed, more_passed, all_passed, passes_none, passes_at, few_runs, some_run_of, to_node_length, counted_later, stopped_later, alike_left, fewer_left, runs_layout, nothing_is, something_is}
use Rattle.nm_passes.proofs.passes.make_passes.Goals as goal

pub returns-then-is_empty-clause-runs : goal.returns-then-is_empty-clause-runs
returns-then-is_empty-clause-runs g c =
    let x = c.args in
    let left = c.loop-node.left.wanted in
    let ns = drop c.loop-node.node-index x.nodes.now in
    let empty = nothing_is left.items _ c.loop-node.left.wanted.ok.0 (sym c.is_empty.ensures ∙ c.if-is_empty.true) in
    all_passed x.machine.now _ _ c.loop-node.machine c.loop-node.made c.loop-node.invariant.passed
    (ap (passes x.limit c.loop-node.machine ns) empty ∙ passes_none x.limit c.loop-node.machine ns)

pub later-requires : goal.later-requires
later-requires g c =
    let x = c.args in
    let ws = c.loop-node.left.wanted.items in
    let es = all_to c.node-item.result ws in
    let runs = few_runs x.limit es c.requires.some in
    let len = to_node_length c.node-item.result ws in
    counted_later c.in-Err.error c.loop-node.machine c.next_pass.new.machine (cut_within x.limit es) c.loop-node.made c.in-Err.ensures.runs
    (omega (arith, runs, len, c.loop-node.invariant.few, c.loop-node.invariant.counted, c.loop-node-test.true, c.requires.passes))

pub returns-in-Err-clause-runs : goal.returns-in-Err-clause-runs
returns-in-Err-clause-runs g c =
    let x = c.args in
    let node = c.node-item.result in
    let ws = c.loop-node.left.wanted.items in
    let runs = cut_within x.limit (all_to node ws) in
    let s = c.loop-node.machine in
    let k = c.loop-node.node-index in
    let made = runs_from 0 s runs [] in
    let all = passes x.limit x.machine.now x.nodes.now x.wanted.items in
    let rest = passes x.limit made.state (drop (k + 1) x.nodes.now) (short_of_frames ws made.statuses) in
    let here = passes_at x.limit s x.nodes.now k node ws c.loop-node-test.true c.node-item.is in
    let passed = subst (λ l. HavePassed x.machine.now all l s c.loop-node.made) here c.loop-node.invariant.passed in
    let some : 0 < length ws = something_is _ _ c.loop-node.left.wanted.ok.0 (sym c.is_empty.ensures ∙ c.if-is_empty.false) in
    let has = some_run_of x.limit (all_to node ws) c.requires.some (omega (arith, some, to_node_length node ws)) in
    stopped_later x.policy_set c.in-Err.error c.later.result x.machine.now s c.next_pass.new.machine all runs rest c.loop-node.made c.in-Err.ensures.runs passed has c.later.ensures

pub overflow_add-made : goal.overflow_add-made
overflow_add-made g c =
    let x = c.args in
    let es = all_to c.node-item.result c.loop-node.left.wanted.items in
    let runs = few_runs x.limit es c.requires.some in
    let len = to_node_length c.node-item.result c.loop-node.left.wanted.items in
    let count = c.in-Ok.ensures.runs.1.0 in
    omega (arith, runs, len, count, c.loop-node.invariant.few, c.loop-node.invariant.counted, c.loop-node-test.true, c.requires.passes)

pub loop-node-preserved : goal.loop-node-preserved
loop-node-preserved g c =
    let x = c.args in
    let node = c.node-item.result in
    let ws = c.loop-node.left.wanted.items in
    let es = all_to node ws in
    let runs = cut_within x.limit es in
    let s = c.loop-node.machine in
    let k = c.loop-node.node-index in
    let inv = c.loop-node.invariant in
    let made = runs_from 0 s runs [] in
    let all = passes x.limit x.machine.now x.nodes.now x.wanted.items in
    let new = c.next_pass.new.machine in
    let state = c.in-Ok.ensures.runs.0 in
    let count = c.in-Ok.ensures.runs.1.0 in
    let kept = c.in-Ok.ensures.runs.1.1 in
    let here = passes_at x.limit s x.nodes.now k node ws c.loop-node-test.true c.node-item.is in
    let passed = subst (λ l. HavePassed x.machine.now all l s c.loop-node.made) here inv.passed in
    let behind = passes x.limit made.state (drop (k + 1) x.nodes.now) (short_of_frames ws made.statuses) in
    let more = more_passed x.machine.now all runs behind s new c.loop-node.made passed state in
    let rest = ap (λ t. passes x.limit t (drop (k + 1) x.nodes.now) (short_of_frames ws made.statuses)) (sym state) ∙ ap (passes x.limit new (drop (k + 1) x.nodes.now)) (sym kept) in
    let few = few_runs x.limit es c.requires.some in
    let len = to_node_length node ws in
    let left = fewer_left ws made.statuses in
    let less = ap length kept in
    record {
      nodes = ap (λ t. node_count t.layout) state ∙ ap node_count (runs_layout 0 s runs) ∙ inv.nodes;
      alike = subst HasOneAll (sym kept) (alike_left ws made.statuses inv.alike);
      few = omega (arith, less, left, inv.few);
      fewer = omega (arith, less, left, inv.fewer);
      counted = omega (arith, count, few, len, inv.few, inv.counted);
      passed = subst (λ l. HavePassed x.machine.now all l new (c.loop-node.made + c.in-Ok.next.runs)) rest
          (subst (λ n. HavePassed x.machine.now all behind new (c.loop-node.made + n)) (sym count) more);
      left = c.in-Ok.ensures.left;
    }

pub next_pass-requires-clause-pages : goal.next_pass-requires-clause-pages
next_pass-requires-clause-pages g c κs within =
    something_is _ _ c.loop-node.left.wanted.ok.0 (sym c.is_empty.ensures ∙ c.if-is_empty.false)

-- what is left when memory is refused was among what was asked for
pub returns-in-Err-clause-allocates : goal.returns-in-Err-clause-allocates
returns-in-Err-clause-allocates g c =
    let some : 0 < length c.loop-node.left.wanted.items = something_is _ _ c.loop-node.left.wanted.ok.0 (sym c.is_empty.ensures ∙ c.if-is_empty.false) in
    omega (arith, some, c.loop-node.invariant.fewer)
