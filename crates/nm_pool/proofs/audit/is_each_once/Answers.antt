use Rattle.std.proofs.Common.{◌≡◌, ℕ, true, sym, ap, ◌∙◌, arith}
use Rattle.std.specs.Prelude.{◌==◌, nat_lt}
use Rattle.std.specs.List.{list_all}
use Rattle.nm_model.specs.definitions.Sound.{is_frame}
use Rattle.nm_laws.proofs.Soundness.Audits.{audit_ones}
use Rattle.nm_pool.proofs.audit.is_each_once.Goals as goal

pub returns-clause-audited : goal.returns-clause-audited
returns-clause-audited g c =
    let g = c.args.geometry.now in
    let placed = c.args.placed.now in
    let counts = c.in_ok-counts.counts.items in
    let total = c.frame_count-count.ensures in
    let below : list_all (is_frame g) placed ≡ true = ap (λ n. list_all (λ (f : ℕ). nat_lt f n) placed) (sym total) ∙ sym c.if-not-are_below.ensures in
    c.are_ones.ensures ∙ ap (list_all (λ (n : ℕ). n == 1)) c.as_slice-2.ensures.value
    ∙ audit_ones g c.args.free.now placed c.as_slice.result.now counts (sym c.if-not-are_own.ensures) below (c.as_slice.ensures.value ∙ c.in_ok-frames.ensures.items) (c.in_ok-counts.ensures.length ∙ total)
    (λ k lt. c.in_ok-counts.ensures.times k (omega (arith, lt, total)))
