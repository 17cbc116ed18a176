-- Where an access finds its bytes, in a state with the processes and areas that were looked at.
use Rattle.std.proofs.Common.{◌≡◌, ℕ, sym, subst, Ok}
use Rattle.nm_types.specs.Map.{Map}
use Rattle.nm_types.specs.declared.area.Area.{Area}
use Rattle.nm_types.specs.State.{Process, PlacedArea, State}
use Rattle.nm_model.specs.definitions.Touch.{site}
use Rattle.nm_engine.specs.declared.resolved_address.ResolvedAddress.{ResolvedAddress}
use Rattle.nm_engine.specs.views.Parts.{IsSiteOf, access_site}

pub found_in : (s : State) (processes : Map ℕ Process) (areas : Map (ℕ × ℕ) Area) (t : ResolvedAddress) (pid address len : ℕ) → s.processes ≡ processes → s.areas ≡ areas
    → ((p : Process) × (a : PlacedArea) × IsSiteOf processes areas t p a × ((s : State) → s.processes ≡ processes → s.areas ≡ areas → site s pid address len ≡ Ok (access_site t p a)))
    → (p : Process) × (a : PlacedArea) × (site s pid address len ≡ Ok (access_site t p a)) × IsSiteOf s.processes s.areas t p a
found_in s processes areas t pid address len ps ars h = (
  h.0,
  h.1,
  h.3 s ps ars,
  subst (λ x. IsSiteOf s.processes x t h.0 h.1) (sym ars) (subst (λ x. IsSiteOf x areas t h.0 h.1) (sym ps) h.2),
)
