use Rattle.std.proofs.Common.{◌≡◌, ◌-◌, length, take, drop, refl, ap, ◌∙◌, arith, take_all, length-drop}
use Rattle.nm_calls.specs.definitions.Maps.{address_text}
use Rattle.nm_calls.proofs.Lines.Addresses.{filled_is}
use Rattle.nm_calls.proofs.number_text.address_bytes.Goals as goal

pub returns : goal.returns
returns c =
    let w = c.write_digits-start in
    let from = c.min-from.result in
    let all : take (length w.new.text - from) (drop from w.new.text) ≡ drop from w.new.text = take_all (length w.new.text - from) (drop from w.new.text) (omega (arith, length-drop from w.new.text)) in
    let is = filled_is c.number.result w.result from w.new.text _ w.array_long refl w.ensures.within c.min-from.ensures w.ensures.before w.ensures.written in
    all ∙ is ∙ ap address_text c.number.ensures
