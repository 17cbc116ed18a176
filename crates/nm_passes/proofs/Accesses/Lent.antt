-- Accesses that are lent, as contracts see them.
use Rattle.std.proofs.Common.{List, map, Vec}
use Rattle.std.specs.Borrow.{Bor}
use Rattle.nm_types.specs.declared.access.Access.{Access as Asked}
use Rattle.nm_model.specs.definitions.Touch.{Access}
use Rattle.nm_model.specs.views.Asked.{access_shown}

abbrev pub one_lent : {A : Type 0} → Bor (Asked A) → Access
one_lent a = access_shown a.now

abbrev pub lent_shown : {A : Type 0} → Vec (Bor (Asked A)) A → List Access
lent_shown list = map one_lent list.items
