use Rattle.std.proofs.Common.{ap, ◌∙◌}
use Rattle.std.specs.Prelude.{nat_lt}
use Rattle.nm_rmap.specs.Mappers.{Mappers, is_any_pinned}
use Rattle.nm_rmap.proofs.Pinned.{count_tells}
use Rattle.nm_rmap.proofs.reverse_map.ReverseMap.has_pins.Goals as goal

pub returns : goal.returns
returns g c =
    ap (nat_lt 0) c.self.invariant.1 ∙ count_tells c.self.inside.pins.items ∙ ap (λ (m : Mappers). is_any_pinned m) c.self.view_is
