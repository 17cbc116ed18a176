-- Only an access in flight to a page that moves is answered Held.
use Rattle.std.proofs.Common.{◌≡◌, ℕ, List, Bool, true, false, cond, refl}
use Rattle.std.specs.Prelude.{Result, Ok, Err, ◌↔◌, IsTrue}
use Rattle.nm_types.specs.declared.errno.Errno.{Errno}
use Rattle.nm_types.specs.State.{State}
use Rattle.nm_model.specs.definitions.Touch.{Access, Read, Write, Held, read_after, write_after, access, site_of_access, is_held}
use Rattle.nm_laws.specs.Interleavings.{HeldIsExact}

read_not_held : (s : State) (pid address len : ℕ) (r : Result State Errno) → (read_after s pid address len r).answer ≡ Held → ⊥
read_not_held s pid address len (Err e) h = cc
read_not_held s pid address len (Ok t) h = cc

write_not_held : (s : State) (pid address : ℕ) (new : List ℕ) (r : Result State Errno) → (write_after s pid address new r).answer ≡ Held → ⊥
write_not_held s pid address new (Err e) h = cc
write_not_held s pid address new (Ok t) h = cc

access_not_held : (s : State) (a : Access) → (access s a).answer ≡ Held → ⊥
access_not_held s (Read pid address len) = read_not_held s pid address len _
access_not_held s (Write pid address new) = write_not_held s pid address new _

cases : (s : State) (a : Access) (b : Bool) → ((cond b (record { state = s; answer = Held }) (access s a)).answer ≡ Held) ↔ IsTrue b
cases s a true = (λ h. refl, λ h. refl)
cases s a false = (λ h. absurd (access_not_held s a h), λ h. cc)

pub held_is_exact : HeldIsExact
held_is_exact s moved a = cases s a (is_held moved (site_of_access s a))
