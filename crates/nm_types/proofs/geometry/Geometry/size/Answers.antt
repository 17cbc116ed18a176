use Rattle.std.proofs.Common.{◌≡◌, ℕ, ◌<◌, List, length, get_or, sym, ap, subst, ◌∙◌, arith}
use Rattle.std.specs.Prelude.{slice_index}
use Rattle.std.proofs.lemmas.List.{get_or_default}
use Rattle.nm_types.specs.Layout.{Layout, node_count}
use Rattle.nm_types.proofs.geometry.Geometry.size.Goals as goal

-- reading the size of a node
reads : (sizes : List ℕ) (i node size : ℕ) → i < length sizes → i ≡ node → size ≡ get_or sizes i size → size ≡ slice_index sizes node
reads sizes i node size lt at is = is ∙ get_or_default sizes i size 0 lt ∙ ap (slice_index sizes) at

pub returns : goal.returns
returns g c =
    let within : c.index.result < length c.self.inside.sizes.items = subst (λ (l : Layout). c.index.result < node_count l) (sym c.self.view_is) (omega (arith, c.requires)) in
    subst (λ (l : Layout). c.index-2.result.now ≡ slice_index l.sizes c.args.node) c.self.view_is
    (reads c.self.inside.sizes.items c.index.result c.args.node c.index-2.result.now within c.index.ensures c.index-2.ensures)
