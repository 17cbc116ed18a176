use Rattle.nm_types.proofs.Maps.{page_cmp_total, exact_page}
use Rattle.nm_model.specs.definitions.Areas.{page_in}
use Rattle.nm_areas.proofs.Rests.{rest_begins}
use Rattle.nm_areas.proofs.scan.next_of.Goals as goal

pub returns-clause-some : goal.returns-clause-some
returns-clause-some g c =
    c.step_page.ensures.some c.args.pages.now.entries c.args.at (rest_begins page_cmp_total (page_in c.args.segment c.args.at) exact_page c.args.pages.now.entries c.range-rest.result c.range-rest.ensures.ordered (c.range-rest.ensures.between tt))

pub returns-clause-first : goal.returns-clause-first
returns-clause-first g c =
    c.step_page.ensures.first c.args.pages.now.entries c.args.at (rest_begins page_cmp_total (page_in c.args.segment c.args.at) exact_page c.args.pages.now.entries c.range-rest.result c.range-rest.ensures.ordered (c.range-rest.ensures.between tt))

pub returns-clause-none : goal.returns-clause-none
returns-clause-none g c =
    c.step_page.ensures.none c.args.pages.now.entries c.args.at (rest_begins page_cmp_total (page_in c.args.segment c.args.at) exact_page c.args.pages.now.entries c.range-rest.result c.range-rest.ensures.ordered (c.range-rest.ensures.between tt))
