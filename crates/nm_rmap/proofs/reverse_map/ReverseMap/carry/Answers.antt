use Rattle.std.proofs.Common.{◌≡◌, ℕ, ◌<◌, arith, sym, subst, ap, ◌∙◌, length}
use Rattle.std.proofs.lemmas.List.Edits.{length-swap}
use Rattle.nm_rmap.specs.Mappers.{Mappers}
use Rattle.nm_rmap.proofs.Carried.{swapped_at, carried_rows}
use Rattle.nm_rmap.proofs.Places.{mappings_in, pins_in}
use Rattle.nm_rmap.proofs.Pinned.{count_swapped}
use Rattle.nm_rmap.proofs.reverse_map.ReverseMap.carry.Goals as goal

pub returns : goal.returns
returns g c =
    let from = c.args.from in
    let to = c.args.to in
    let mappings = swapped_at c.self.inside.mappings.items c.swap.new.self.items c.index.result c.index-2.result from to c.swap.ensures.items c.index.ensures c.index-2.ensures in
    let pins = swapped_at c.self.inside.pins.items c.swap-2.new.self.items c.index-3.result c.index-4.result from to c.swap-2.ensures.items c.index-3.ensures c.index-4.ensures in
    carried_rows c.self.inside.mappings.items c.self.inside.pins.items c.args.self.now from to c.swap.new.self.items c.swap-2.new.self.items
    c.self.view_is c.self.invariant.0 c.requires.from c.requires.to c.requires.unused mappings pins

pub invariant_of-self : goal.invariant_of-self
invariant_of-self g c =
    let from = c.args.from in
    let to = c.args.to in
    let pins = swapped_at c.self.inside.pins.items c.swap-2.new.self.items c.index-3.result c.index-4.result from to c.swap-2.ensures.items c.index-3.ensures c.index-4.ensures in
    let frames : length c.self.inside.mappings.items ≡ length c.args.self.now.mappings = ap (λ (m : Mappers). length m.mappings) c.self.view_is in
    let from_in : from < length c.self.inside.pins.items = omega (arith, frames, c.self.invariant.0, c.requires.from) in
    let to_in : to < length c.self.inside.pins.items = omega (arith, frames, c.self.invariant.0, c.requires.to) in
    let mappings = swapped_at c.self.inside.mappings.items c.swap.new.self.items c.index.result c.index-2.result from to c.swap.ensures.items c.index.ensures c.index-2.ensures in (
      ap length pins ∙ length-swap c.self.inside.pins.items from to ∙ c.self.invariant.0 ∙ sym (ap length mappings ∙ length-swap c.self.inside.mappings.items from to),
      c.self.invariant.1 ∙ sym (count_swapped c.self.inside.pins.items c.swap-2.new.self.items from to from_in to_in pins),
    )

pub swap-requires : goal.swap-requires
swap-requires g c = record {
  i_in_bounds = subst (λ (n : ℕ). c.index.result < n) (sym c.self.inside.mappings.ok.0) (mappings_in c.self.inside.mappings.items c.self.inside.pins.items c.args.self.now c.self.view_is c.args.from c.index.result c.index.ensures c.requires.from);
  j_in_bounds = subst (λ (n : ℕ). c.index-2.result < n) (sym c.self.inside.mappings.ok.0) (mappings_in c.self.inside.mappings.items c.self.inside.pins.items c.args.self.now c.self.view_is c.args.to c.index-2.result c.index-2.ensures c.requires.to);
}

pub swap-requires-2 : goal.swap-requires-2
swap-requires-2 g c = record {
  i_in_bounds = subst (λ (n : ℕ). c.index-3.result < n) (sym c.self.inside.pins.ok.0) (pins_in c.self.inside.mappings.items c.self.inside.pins.items c.args.self.now c.self.view_is c.args.from c.index-3.result c.index-3.ensures c.requires.from c.self.invariant.0);
  j_in_bounds = subst (λ (n : ℕ). c.index-4.result < n) (sym c.self.inside.pins.ok.0) (pins_in c.self.inside.mappings.items c.self.inside.pins.items c.args.self.now c.self.view_is c.args.to c.index-4.result c.index-4.ensures c.requires.to c.self.invariant.0);
}
