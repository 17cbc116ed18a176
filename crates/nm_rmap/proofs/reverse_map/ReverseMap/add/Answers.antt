use Rattle.std.proofs.Common.{ℕ, ◌<◌, sym, subst, ◌∙◌}
use Rattle.std.proofs.Math.ListN.{length-set}
use Rattle.std.proofs.lemmas.Result.{on_ok_weaker, on_err_weaker}
use Rattle.nm_rmap.specs.Mappers.{with_spot}
use Rattle.nm_rmap.proofs.Places.{mappings_in, no_mapper, same_mappers, writes_mappers}
use Rattle.nm_rmap.proofs.reverse_map.ReverseMap.add.Goals as goal

pub index_mut-requires : goal.index_mut-requires
index_mut-requires g c =
    let within = mappings_in c.self.inside.mappings.items c.self.inside.pins.items c.args.self.now c.self.view_is c.args.frame c.index.result c.index.ensures c.requires in
    subst (λ (n : ℕ). c.index.result < n) (sym c.self.inside.mappings.ok.0) within

pub invariant_of-self : goal.invariant_of-self
invariant_of-self g c = (c.self.invariant.0 ∙ sym (length-set c.self.inside.mappings.items c.index.result c.insert.new.self), c.self.invariant.1)

pub returns : goal.returns
returns g c =
    let now = c.index_mut.result.now in
    let value = c.index_mut.ensures.value in record {
      ok = on_ok_weaker c.insert.result (writes_mappers c.self.inside.mappings.items c.self.inside.pins.items c.args.self.now c.self.view_is c.args.frame c.index.result c.index.ensures c.requires now value c.insert.new.self (λ ss. with_spot ss (c.args.pid, c.args.vpn))) c.insert.ensures.ok;
      err = on_err_weaker c.insert.result (same_mappers c.self.inside.mappings.items c.self.inside.pins.items c.args.self.now c.self.view_is c.args.frame c.index.result c.index.ensures c.requires now value c.insert.new.self) c.insert.ensures.err;
      absent = on_err_weaker c.insert.result (no_mapper c.self.inside.mappings.items c.self.inside.pins.items c.args.self.now c.self.view_is c.args.frame c.index.result c.index.ensures c.requires now value (c.args.pid, c.args.vpn)) c.insert.ensures.absent;
    }
