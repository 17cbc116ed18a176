use Rattle.std.proofs.Common.{flat_map, max, ap, ◌∙◌, arith}
use Rattle.rayon.proofs.ListFacts.{IfOk-then}
use Rattle.rayon.proofs.ToStd.{chunks_of-concat}
use Rattle.nm_runs.specs.Shown.{class_shown}
use Rattle.nm_runs.proofs.Joined.{images_collected}
use Rattle.nm_runs.proofs.parallel.classes_of_pieces.Goals as goal

pub returns : goal.returns
returns g c = IfOk-then c.collect.result _ _ c.collect.ensures (λ r h.
    let class = class_shown c.args.geometry.now (g.V.PageView.seen_at c.args.view.now) (g.V.PageView.placed_at c.args.view.now) c.args.target in
    let chain = h.1 in
    let each = rw (c.map.ensures.f) at chain.2 in
    let whole = ap (flat_map (λ l. l)) (rw (c.map.ensures.base, c.par_chunks.ensures.slice, c.par_chunks.ensures.size) at chain.1)
    ∙ chunks_of-concat (max c.args.size 1) c.args.wanted.now (omega (arith, c.requires.size)) in
    images_collected _ class (λ v. v.items) (λ w. w.items) r chain.0 h.0 c.args.wanted.now each whole h.2)
