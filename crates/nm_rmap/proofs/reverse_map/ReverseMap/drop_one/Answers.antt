use Rattle.std.proofs.Common.{ℕ, ◌<◌, List, sym, subst, ◌∙◌}
use Rattle.std.proofs.Math.ListN.{length-set}
use Rattle.std.specs.List.Sorted.{IsStrictlySortedBy}
use Rattle.nm_types.specs.Map.{spot_cmp}
use Rattle.nm_rmap.specs.Mappers.{Mapper, without_spot}
use Rattle.nm_rmap.proofs.Places.{mappings_in, reads_mappers, writes_mappers}
use Rattle.nm_rmap.proofs.reverse_map.ReverseMap.drop_one.Goals as goal

pub index_mut-requires : goal.index_mut-requires
index_mut-requires g c =
    let within = mappings_in c.self.inside.mappings.items c.self.inside.pins.items c.args.self.now c.self.view_is c.args.frame c.index.result c.index.ensures c.requires in
    subst (λ (n : ℕ). c.index.result < n) (sym c.self.inside.mappings.ok.0) within

pub invariant_of-self : goal.invariant_of-self
invariant_of-self g c = (c.self.invariant.0 ∙ sym (length-set c.self.inside.mappings.items c.index.result c.remove.new.self), c.self.invariant.1)

pub returns : goal.returns
returns g c =
    let now = c.index_mut.result.now in
    let value = c.index_mut.ensures.value in record {
      mapper = writes_mappers c.self.inside.mappings.items c.self.inside.pins.items c.args.self.now c.self.view_is c.args.frame c.index.result c.index.ensures c.requires now value c.remove.new.self (λ ss. without_spot ss (c.args.pid, c.args.vpn)) c.remove.ensures.mapper;
      ordered = subst (λ (ss : List Mapper). IsStrictlySortedBy spot_cmp ss) (sym (reads_mappers c.self.inside.mappings.items c.self.inside.pins.items c.args.self.now c.self.view_is c.args.frame c.index.result c.index.ensures c.requires now value)) c.remove.ensures.ordered;
    }
