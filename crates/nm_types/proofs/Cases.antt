-- Two cases of a type are never one, and what is in one case.
use Rattle.std.proofs.Common.{◌≡◌, true, false}
use Rattle.std.specs.Prelude.{Option, Some, None, IsSome, IfNone}

pub true_false : true ≡ false → ⊥
true_false e = cc

pub none_some : {V : Type 0} {v : V} → None ≡ Some v → ⊥
none_some e = cc

pub some_none : {V : Type 0} {v : V} → Some v ≡ None → ⊥
some_none e = cc

pub some_is : {V : Type 0} {v w : V} → Some v ≡ Some w → v ≡ w
some_is e = cc

-- nothing is not something
pub none_is_not : (V : Type 0) → IsSome {T = V} None → ⊥
none_is_not V h = cc

-- what holds anyway holds where there is nothing
pub none_always : {T P : Type 0} (o : Option T) → P → IfNone o P
none_always None p = p
none_always (Some x) p = tt
