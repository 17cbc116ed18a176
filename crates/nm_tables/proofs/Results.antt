-- What follows where a call did not go well.
use Rattle.std.specs.Prelude.{Result, Ok, Err, OnErr}

-- what holds anyway holds there
pub where_err : {T E A : Type 0} (r : Result T E) → A → OnErr r A
where_err (Ok x) h = tt
where_err (Err e) h = h
