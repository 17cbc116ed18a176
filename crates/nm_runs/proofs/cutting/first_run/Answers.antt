use Rattle.std.proofs.Common.{◌∙◌, sym, ap, length, take, arith}
use Rattle.std.proofs.lemmas.List.{length-map, length-take-le}
use Rattle.nm_model.specs.definitions.Cut.{wanted_of}
use Rattle.nm_runs.proofs.Stretches.{first_is, first_stretch}
use Rattle.nm_runs.proofs.cutting.first_run.Goals as goal

pub returns-clause-first : goal.returns-clause-first
returns-clause-first g c =
    let requests = c.args.requests.now in
    let wanted = c.in_ok-wanted_of.ensures ∙ ap (λ k. wanted_of (take k requests)) c.same_front-count.ensures.front in
    first_stretch requests _ c.in_ok-wanted_of.field-0.items c.requires (first_is requests c.index-requests-0.result c.requires) wanted

pub slice_bounds-wanted_of-end : goal.slice_bounds-wanted_of-end
slice_bounds-wanted_of-end g c = sym (length-take-le c.same_front-count.result c.args.requests.now c.same_front-count.ensures.within)

pub returns-clause-some : goal.returns-clause-some
returns-clause-some g c =
    let front = take c.same_front-count.result c.args.requests.now in
    omega (arith, ap length c.in_ok-wanted_of.ensures, length-map front (λ e. e.wanted), length-take-le c.same_front-count.result c.args.requests.now c.same_front-count.ensures.within, c.same_front-count.ensures.some)

pub returns-clause-within : goal.returns-clause-within
returns-clause-within g c =
    let front = take c.same_front-count.result c.args.requests.now in
    omega (arith, ap length c.in_ok-wanted_of.ensures, length-map front (λ e. e.wanted), length-take-le c.same_front-count.result c.args.requests.now c.same_front-count.ensures.within, c.same_front-count.ensures.within)
