use Rattle.std.proofs.Common.{◌++◌, map, ap, sym, string_bytes}
use Rattle.nm_calls.specs.definitions.Maps.{stretches, stretch_text}
use Rattle.nm_calls.proofs.Lines.ConsecutiveNodes.{joined_by_commas}
use Rattle.nm_calls.proofs.maps.push_set.Goals as goal

pub loop-first-init : goal.loop-first-init
loop-first-init g c = record {
  some = λ some. some;
  text = ap (λ t. string_bytes c.args.line.now ++ t) (sym (joined_by_commas (map stretch_text (stretches c.args.nodes))));
}
