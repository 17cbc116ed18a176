use Rattle.std.proofs.Common.{◌≡◌, ℕ, ◌<◌, ◌≤◌, ◌⊎◌, ⊎_elim, Bool, true, false, not, sym, ap, ◌∙◌}
use Rattle.std.specs.Prelude.{nat_lt, ◌==◌, ◌&&◌}
use Rattle.std.proofs.lemmas.Bool.{lt-ltb, le-ltb}
use Rattle.nm_runs.proofs.classes.class_of_look.Goals as goal

-- a page is kept for others unless all are to move, or no other sees it
not_kept : (n : ℕ) (all : Bool) → ((1 < n) × (all ≡ true)) ⊎ (n ≤ 1) → (nat_lt 1 n && not all) ≡ false
not_kept n all h = ⊎_elim
    (λ w. ap (λ b. b && not all) (lt-ltb 1 n w.0) ∙ ap not w.1)
    (λ le. ap (λ b. b && not all) (le-ltb 1 n le)) h

pub returns-in-NoArea : goal.returns-in-NoArea
returns-in-NoArea g c = rw (c.number.ensures, c.in-NoArea.is)

pub returns-in-Absent : goal.returns-in-Absent
returns-in-Absent g c = rw (c.number-in-Absent.ensures, c.in-Absent.is)

pub returns-in-Zero : goal.returns-in-Zero
returns-in-Zero g c = rw (c.number-in-Zero.ensures, c.in-Zero.is)

pub returns-then-not-all : goal.returns-then-not-all
returns-then-not-all g c =
    let elsewhere : c.eq.result ≡ false = cc in
    rw (
      c.number-then-not-all.ensures,
      c.in-At.is,
      ap (λ n. n == c.args.target) (sym c.node_of.ensures.node) ∙ sym c.eq.ensures ∙ elsewhere,
      lt-ltb 1 c.in-At.processes c.if-processes-gt1.true,
      c.if-not-all.true,
    )

pub returns-then-pinned : goal.returns-then-pinned
returns-then-pinned g c =
    let elsewhere : c.eq.result ≡ false = cc in
    rw (
      c.number-then-pinned.ensures,
      c.in-At.is,
      ap (λ n. n == c.args.target) (sym c.node_of.ensures.node) ∙ sym c.eq.ensures ∙ elsewhere,
      not_kept c.in-At.processes c.args.all c.else-processes-gt1.either,
      c.if-pinned.true,
    )

pub returns-else-pinned : goal.returns-else-pinned
returns-else-pinned g c =
    let elsewhere : c.eq.result ≡ false = cc in
    rw (
      c.in-At.is,
      ap (λ n. n == c.args.target) (sym c.node_of.ensures.node) ∙ sym c.eq.ensures ∙ elsewhere,
      not_kept c.in-At.processes c.args.all c.else-processes-gt1.either,
      c.if-pinned.false,
    )
