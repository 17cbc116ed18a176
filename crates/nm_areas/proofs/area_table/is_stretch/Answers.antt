use Rattle.std.proofs.Common.{◌≡◌, ℕ, ◌+◌, ◌-◌, ◌≤◌, true, false, refl, sym, arith}
use Rattle.std.specs.Prelude.{nat_le}
use Rattle.std.proofs.lemmas.Bool.{leb-true, leb-false, le-leb, lt-leb}
use Rattle.nm_areas.proofs.area_table.is_stretch.Goals as goal

-- what fits after an offset
fits : (n o p : ℕ) → o ≤ n → nat_le p (n - o) ≡ nat_le (o + p) n
fits n o p le =
    elim (nat_le p (n - o)) as (λ b. nat_le p (n - o) ≡ b → b ≡ nat_le (o + p) n) [
      | true ↦ λ h. let small = leb-true p (n - o) h in sym (le-leb (o + p) n (omega arith))
      | false ↦ λ h. let great = leb-false p (n - o) h in sym (lt-leb (o + p) n (omega arith))
    ] refl

pub returns-then-offset-whole : goal.returns-then-offset-whole
returns-then-offset-whole c = rw (c.in-Some.is, c.if-offset-whole.true.0) (fits c.in-Some.whole.pages c.args.offset c.args.pages c.if-offset-whole.true.1)
