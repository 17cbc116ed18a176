use Rattle.std.proofs.Common.{◌≡◌, ◌<◌, [], ap, sym, subst, ◌∙◌, arith, length}
use Rattle.std.proofs.lemmas.Bool.{eqb-true}
use Rattle.std.proofs.lemmas.List.{nil_from_length}
use Rattle.std.specs.List.{AllByRecursion}
use Rattle.std.proofs.lemmas.List.Elements.{All-from_recursion}
use Rattle.nm_types.specs.Layout.{node_count}
use Rattle.nm_model.specs.definitions.Cut.{cut_within}
use Rattle.nm_model.specs.definitions.Effect.{with_areas_of}
use Rattle.nm_model.specs.definitions.Run.{HasOneAll}
use Rattle.nm_passes.specs.definitions.Passes.{passes}
use Rattle.nm_passes.specs.definitions.Placement.{each_to, nodes_tried, runs_by}
use Rattle.nm_passes.specs.views.Runs.{nodes_named}
use Rattle.nm_passes.proofs.Policies.Moves.{turns_go, tried_all, spots_alike, spots_length, passes_by, no_moves}
use Rattle.nm_passes.proofs.placement.way_of.Goals as goal

pub returns-then-is_empty : goal.returns-then-is_empty
returns-then-is_empty g c =
    let s = c.args.machine.now in
    let b = c.args.binding.now in
    let none : c.args.pages.now ≡ [] = nil_from_length _ (eqb-true _ 0 (sym c.is_empty.ensures ∙ c.if-is_empty.true)) in
    let empty : c.new.result.items ≡ [] = c.new.ensures.items in
    record {
      runs = λ limit m. ap (λ sent. cut_within limit (each_to b.pid c.args.all sent)) empty ∙ sym (ap (runs_by limit (with_areas_of s m) b.policy c.args.home b.pid c.args.all) none ∙ no_moves limit (with_areas_of s m) b.policy c.args.home b.pid c.args.all);
      can_go = subst (AllByRecursion (λ page. page.to < node_count s.layout)) (sym empty) tt;
      allocates = tt;
    }

pub returns-in-Interleave-clause-can_go : goal.returns-in-Interleave-clause-can_go
returns-in-Interleave-clause-can_go g c =
    let n = node_count c.args.machine.now.layout in
    let nodes = c.in-Interleave.nodes in
    let named = subst (λ p. AllByRecursion (λ m. m < n) (nodes_named p)) c.in-Interleave.is c.requires.nodes in
    subst (AllByRecursion (λ page. page.to < n)) (sym c.in_ok-mbind_targets.ensures.targets) (turns_go (λ m. m < n) nodes c.args.pages.now named)

pub returns : goal.returns
returns g c =
    let s = c.args.machine.now in
    let b = c.args.binding.now in
    let n = node_count s.layout in
    let order = c.in_ok-nodes_tried.ensures.order in
    let wanted = c.in_ok-spots.ensures in
    let few = ap length wanted ∙ spots_length b.pid c.args.all c.args.pages.now in
    record {
      runs = λ limit m. ap (λ ns. passes limit (with_areas_of s m) ns c.in_ok-spots.field-0.items) order ∙ ap (passes limit (with_areas_of s m) (nodes_tried s c.args.home b.policy)) wanted
          ∙ passes_by s m limit b.policy c.args.home b.pid c.args.all c.args.pages.now (λ nodes. c.in_default.not-Interleave nodes);
      can_go = (
        All-from_recursion (λ m. m < n) c.in_ok-nodes_tried.field-0.items (subst (AllByRecursion (λ m. m < n)) (sym order) (tried_all (λ m. m < n) s c.args.home b.policy c.requires.nodes)),
        c.in_ok-nodes_tried.ensures.few,
        subst HasOneAll (sym wanted) (spots_alike b.pid c.args.all c.args.pages.now),
        omega (arith, few, c.requires.few),
      );
      allocates = tt;
    }
