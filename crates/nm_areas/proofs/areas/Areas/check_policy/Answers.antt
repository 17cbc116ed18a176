use Rattle.std.proofs.Common.{◌≡◌, ℕ, ◌+◌, ◌-◌, ◌*◌, ◌/◌, ◌%◌, ◌<◌, ◌^◌, Bool, not, sym, ap, subst, ◌∙◌, arith}
use Rattle.std.specs.Prelude.{nat_le, ◌||◌, Some, None, if◌then◌else◌}
use Rattle.std.proofs.lemmas.Bool.{eq-eqb, lt-leb}
use Rattle.nm_types.specs.declared.errno.Errno.TheVariants.{Efault, Einval}
use Rattle.nm_model.specs.definitions.Areas.{Mapping, mapping_of}
use Rattle.nm_model.specs.definitions.Areas.{page_count, is_well_formed}
use Rattle.nm_model.specs.definitions.AreaRefusal.{range_refusal}
use Rattle.nm_areas.proofs.areas.Areas.check_policy.Goals as goal

-- what is refused in a range of whole pages
in_range : (m n : Mapping) (pid addr len first end : ℕ) (answer : Bool) → m ≡ n → addr % 4096 ≡ 0 → addr + 4096 * page_count len < 2 ^ 64 → first ≡ addr / 4096 → end ≡ addr / 4096 + page_count len
    → answer ≡ is_well_formed m.areas pid first (end - first) → range_refusal n pid addr len ≡ (if not answer then Some Efault else None)
in_range m n pid addr len first end answer same aligned low at past told =
    let pages = page_count len in
    let count : end - first ≡ pages = omega (arith, at, past) in
    subst (λ (x : Mapping). range_refusal x pid addr len ≡ (if not answer then Some Efault else None)) same
    (ap (λ b. if not b || nat_le (2 ^ 64) (addr + 4096 * pages) then Some Einval else (if not (is_well_formed m.areas pid (addr / 4096) pages) then Some Efault else None)) (eq-eqb (addr % 4096) 0 aligned)
    ∙ ap (λ b. if b then Some Einval else (if not (is_well_formed m.areas pid (addr / 4096) pages) then Some Efault else None)) (lt-leb (2 ^ 64) (addr + 4096 * pages) low)
    ∙ ap (λ b. if not b then Some Efault else None) (sym (told ∙ ap (λ v. is_well_formed m.areas pid v (end - first)) at ∙ ap (is_well_formed m.areas pid (addr / 4096)) count)))

pub is_mapped-requires : goal.is_mapped-requires
is_mapped-requires g c = let m = c.self.invariant.0 in record { apart = m.apart; whole = m.whole; low = m.low; order = omega (arith, c.in-Some.ensures.some.0, c.in-Some.ensures.some.1) }

pub returns-then-not-is_mapped-clause-err : goal.returns-then-not-is_mapped-clause-err
returns-then-not-is_mapped-clause-err g c =
    let range = c.in-Some.ensures.some in
    in_range (mapping_of c.self.inside.table c.self.inside.places.entries) c.args.self.now c.args.pid c.args.addr c.args.len _ _ c.is_mapped.result c.self.view_is range.2 range.3 range.0 range.1 c.is_mapped.ensures
    ∙ ap (λ b. if not b then Some Efault else None) c.if-not-is_mapped.true

pub returns-clause-ok : goal.returns-clause-ok
returns-clause-ok g c =
    let range = c.in-Some.ensures.some in
    in_range (mapping_of c.self.inside.table c.self.inside.places.entries) c.args.self.now c.args.pid c.args.addr c.args.len _ _ c.is_mapped.result c.self.view_is range.2 range.3 range.0 range.1 c.is_mapped.ensures
    ∙ ap (λ b. if not b then Some Efault else None) c.if-not-is_mapped.false
