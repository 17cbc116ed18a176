-- What the parts of a machine show between calls, when no run is on.
use Rattle.std.proofs.Common.{ℕ, List, subst}
use Rattle.std.specs.Prelude.{Result, Ok, Err, OnOk, OnErr}
use Rattle.nm_types.specs.State.{State}
use Rattle.nm_model.specs.definitions.Sound.{IsSoundInFlight, IsSound}
use Rattle.nm_engine.specs.views.RunState.{IsBetweenRuns}

pub sound_between : {s : State} {left : List ℕ} {frames : ℕ} → IsBetweenRuns s left frames → IsSound s
sound_between {s} h = subst (λ l. IsSoundInFlight s l) h.none h.kept.sound

-- what follows of either result holds
pub on_either : {T E P Q R : Type 0} (r : Result T E) → OnOk r P → OnErr r Q → (P → R) → (Q → R) → R
on_either (Ok value) p q f h = f p
on_either (Err e) p q f h = h q
