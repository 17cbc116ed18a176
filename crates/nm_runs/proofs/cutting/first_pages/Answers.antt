use Rattle.std.proofs.Common.{◌∙◌, sym, ap, length, take, arith}
use Rattle.std.proofs.lemmas.List.{length-map, length-take-le}
use Rattle.nm_runs.proofs.Pages.{at_address, pages_stretch}
use Rattle.nm_runs.proofs.cutting.first_pages.Goals as goal

pub returns-clause-first : goal.returns-clause-first
returns-clause-first g c =
    let pages = c.args.pages.now in
    let nodes = c.args.nodes.now in
    let count = c.same_nodes-count.result in
    let long = length-take-le count pages (omega (arith, c.same_nodes-count.ensures.within, c.requires.paired)) in
    let short = length-take-le count nodes c.same_nodes-count.ensures.within in
    pages_stretch c.args.pid c.args.all pages nodes count _ _ c.requires.paired c.requires.some c.same_nodes-count.ensures.front c.new.ensures c.in_ok-wanted_at.ensures (long ∙ sym short)

pub slice_bounds-wanted_at-end : goal.slice_bounds-wanted_at-end
slice_bounds-wanted_at-end g c =
    sym (length-take-le c.same_nodes-count.result c.args.pages.now (omega (arith, c.same_nodes-count.ensures.within, c.requires.paired)))

pub returns-clause-some : goal.returns-clause-some
returns-clause-some g c =
    let front = take c.same_nodes-count.result c.args.pages.now in
    let long = length-take-le c.same_nodes-count.result c.args.pages.now (omega (arith, c.same_nodes-count.ensures.within, c.requires.paired)) in
    omega (arith, ap length c.in_ok-wanted_at.ensures, length-map front (at_address c.args.pid c.args.all), long, c.same_nodes-count.ensures.some)

pub returns-clause-within : goal.returns-clause-within
returns-clause-within g c =
    let front = take c.same_nodes-count.result c.args.pages.now in
    let long = length-take-le c.same_nodes-count.result c.args.pages.now (omega (arith, c.same_nodes-count.ensures.within, c.requires.paired)) in
    omega (arith, ap length c.in_ok-wanted_at.ensures, length-map front (at_address c.args.pid c.args.all), long, c.same_nodes-count.ensures.within)
