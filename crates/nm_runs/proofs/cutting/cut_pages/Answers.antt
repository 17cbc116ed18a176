use Rattle.std.proofs.Common.{◌≡◌, ◌++◌, ◌∷◌, [], List, length, min, ◌∙◌, refl, sym, ap, subst, append-nil, arith, take, drop, ◌+◌}
use Rattle.std.proofs.lemmas.List.{length-take, length-drop, at_drop_all}
use Rattle.nm_runs.specs.Stretches.{stretches_of}
use Rattle.nm_model.specs.definitions.Cut.{Request, requests_of, cut_within, IsFirst}
use Rattle.nm_runs.proofs.Pieces.{one_more}
use Rattle.nm_runs.proofs.Pages.{pages_length, pages_drop, pages_take}
use Rattle.nm_runs.proofs.cutting.cut_pages.Goals as goal

pub loop-done-preserved : goal.loop-done-preserved
loop-done-preserved g c =
    let ran = c.in_ok-next.ensures in
    let run = c.in_ok-next.next in
    let at = c.loop-done.done in
    let most = c.min-most.result in
    let pages = c.args.pages.now in
    let nodes = c.args.nodes.now in
    let targets = c.split_at.result.1.now in
    let es = requests_of c.args.pid c.args.all pages nodes in
    let rest = drop at es in
    let left = length-drop at nodes in
    let left_pages = length-drop at pages in
    let left_all = length-drop at es in
    let all = pages_length c.args.pid c.args.all pages nodes c.requires.paired in
    let behind = ap length c.split_at.ensures.back in
    let as_long : length targets ≡ length rest = omega (arith, left, left_all, all, behind) in
    let taken = length-take most targets in
    let taken_all = length-take most rest in
    let same : requests_of c.args.pid c.args.all (take most c.split_at-in-loop-done.result.1.now) (take most targets) ≡ take most rest =
    ap (λ ps. requests_of c.args.pid c.args.all (take most ps) (take most targets)) c.split_at-in-loop-done.ensures.back
    ∙ ap (λ ns. requests_of c.args.pid c.args.all (take most (drop at pages)) (take most ns)) c.split_at.ensures.back
    ∙ sym (pages_take c.args.pid c.args.all most (drop at pages) (drop at nodes) (omega (arith, left, left_pages, c.requires.paired)))
    ∙ sym (ap (take most) (pages_drop c.args.pid c.args.all at pages nodes c.requires.paired)) in
    let first = subst (λ (l : List Request). IsFirst l run.target run.wanted.items) same ran.first in
    record {
      within = omega (arith, ran.within, left, taken, behind, c.len-done.ensures, run.wanted.ok.0, c.loop-done.invariant.within);
      made =
          ap (λ items. stretches_of items ++ cut_within c.args.limit (drop (at + c.len-done.result) es)) c.in_ok-push.ensures.items
          ∙ ap (λ n. stretches_of (c.loop-done.cut.items ++ run ∷ []) ++ cut_within c.args.limit (drop (at + n) es)) (c.len-done.ensures ∙ run.wanted.ok.0)
          ∙ one_more c.args.limit c.loop-done.cut.items run es rest at most c.requires.some refl (c.min-most.ensures ∙ ap (λ n. min n c.args.limit) as_long) ran.some
          (omega (arith, ran.within, taken, taken_all, as_long)) first c.loop-done.invariant.made;
    }

pub returns-clause-runs : goal.returns-clause-runs
returns-clause-runs g c =
    let made = stretches_of c.loop-done.cut.items in
    let es = requests_of c.args.pid c.args.all c.args.pages.now c.args.nodes.now in
    let all = pages_length c.args.pid c.args.all c.args.pages.now c.args.nodes.now c.requires.paired in
    let none = at_drop_all (cut_within c.args.limit) es c.loop-done.done (omega (arith, all, c.loop-done-test.false)) in
    sym (append-nil made) ∙ ap (λ rest. made ++ rest) (sym none) ∙ c.loop-done.invariant.made
