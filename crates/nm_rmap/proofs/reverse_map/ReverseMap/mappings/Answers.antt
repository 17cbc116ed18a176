use Rattle.std.proofs.Common.{List, sym, subst, ◌∙◌}
use Rattle.std.specs.List.Sorted.{IsStrictlySortedBy}
use Rattle.nm_types.specs.Map.{spot_cmp}
use Rattle.nm_rmap.specs.Mappers.{Mapper}
use Rattle.nm_rmap.proofs.Places.{reads_mappers}
use Rattle.nm_rmap.proofs.reverse_map.ReverseMap.mappings.Goals as goal

pub returns : goal.returns
returns g c =
    let read = reads_mappers c.self.inside.mappings.items c.self.inside.pins.items c.args.self.now c.self.view_is c.args.frame c.index.result c.index.ensures c.requires c.index-2.result.now c.index-2.ensures in record {
      all = c.borrow_all.ensures.all ∙ sym read;
      ordered = subst (λ (ss : List Mapper). IsStrictlySortedBy spot_cmp ss) (sym read) c.borrow_all.ensures.ordered;
    }
