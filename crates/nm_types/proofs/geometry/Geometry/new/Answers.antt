use Rattle.std.proofs.Common.{sym, refl, ◌∙◌}
use Rattle.nm_types.proofs.Layouts.{IsMachine-from_refusal}
use Rattle.nm_types.proofs.geometry.Geometry.new.Goals as goal

pub invariant_of-result : goal.invariant_of-result
invariant_of-result g c = IsMachine-from_refusal _ (rw (← c.as_slice.ensures.value, ← c.as_slice-2.ensures.value) (sym c.fault_of.ensures ∙ c.in-None.is))

pub returns-in-None : goal.returns-in-None
returns-in-None g c = (refl, rw (← c.as_slice.ensures.value, ← c.as_slice-2.ensures.value) (sym c.fault_of.ensures ∙ c.in-None.is))

pub returns-in-Some : goal.returns-in-Some
returns-in-Some g c = rw (← c.as_slice.ensures.value, ← c.as_slice-2.ensures.value) (sym c.fault_of.ensures ∙ c.in-Some.is)
