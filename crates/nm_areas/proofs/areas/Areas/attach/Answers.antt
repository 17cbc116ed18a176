use Rattle.std.proofs.Common.{◌≡◌, ℕ, Bool, true, false, not, refl, sym, subst, ◌∙◌, ap, ◌/◌, ◌+◌, ◌<◌, ◌^◌, arith}
use Rattle.std.specs.Prelude.{Some, None, ◌&&◌, if◌then◌else◌}
use Rattle.std.specs.List.{list_any}
use Rattle.std.specs.Ordering.{nat_cmp}
use Rattle.nm_types.specs.declared.errno.Errno.TheVariants.{Einval}
use Rattle.nm_types.specs.declared.page.Page.{Page}
use Rattle.nm_types.specs.Map.{Map, get, set, spot_cmp}
use Rattle.nm_types.specs.declared.area.Area.{Area}
use Rattle.nm_model.specs.definitions.Areas.{is_shared}
use Rattle.nm_model.specs.views.Table.{Table, with_areas}
use Rattle.nm_model.specs.definitions.Areas.{Mapping, mapping_of}
use Rattle.nm_model.specs.definitions.AreaRefusal.{stretch_refusal, is_range, is_room, is_stretch, overlaps}
use Rattle.nm_areas.proofs.Beginning.{none_begins, free_pages}
use Rattle.nm_model.proofs.areas.Shown.{over_more}
use Rattle.nm_model.specs.definitions.Areas.{new_area, over_with, with_area}
use Rattle.nm_areas.proofs.Inserted.{attached_mapped, stretch_ends}
use Rattle.nm_areas.proofs.Private.{stretch_shared}
use Rattle.nm_areas.proofs.Covered.{came, stayed}
use Rattle.nm_areas.proofs.areas.Areas.attach.Given.{Over}
use Rattle.nm_areas.proofs.areas.Areas.attach.Goals.{In-Some-stretch_of}
use Rattle.nm_areas.proofs.areas.Areas.attach.Goals as goal

-- whether there is room, where the range is one
room_is : (areas : Map (ℕ × ℕ) Area) (pid addr pages first : ℕ) → first ≡ addr / 4096 → is_range addr pages ≡ true
    → is_room areas pid addr pages ≡ not (list_any (overlaps pid first (first + pages)) areas)
room_is areas pid addr pages first at range =
    ap (λ b. b && not (list_any (overlaps pid (addr / 4096) (addr / 4096 + pages)) areas)) range ∙ ap (λ n. not (list_any (overlaps pid n (n + pages)) areas)) (sym at)

-- what is refused, by whether there is room and such a stretch
no_room : (m : Mapping) (pid addr segment offset pages : ℕ) → is_room m.areas pid addr pages ≡ false → stretch_refusal m pid addr segment offset pages ≡ Some Einval
no_room m pid addr segment offset pages e = ap (λ b. if not (b && is_stretch (get nat_cmp m.segments segment) offset pages) then Some Einval else None) e

by_stretch : (m : Mapping) (pid addr segment offset pages : ℕ) → is_room m.areas pid addr pages ≡ true
    → stretch_refusal m pid addr segment offset pages ≡ (if not (is_stretch (get nat_cmp m.segments segment) offset pages) then Some Einval else None)
by_stretch m pid addr segment offset pages e = ap (λ b. if not (b && is_stretch (get nat_cmp m.segments segment) offset pages) then Some Einval else None) e

no_range : (m : Mapping) (pid addr segment offset pages : ℕ) → is_range addr pages ≡ false → stretch_refusal m pid addr segment offset pages ≡ Some Einval
no_range m pid addr segment offset pages e = no_room m pid addr segment offset pages (ap (λ b. b && not (list_any (overlaps pid (addr / 4096) (addr / 4096 + pages)) m.areas)) e)

module _ (m n : Mapping) (pid addr segment offset pages first : ℕ) (free : Bool) (same : m ≡ n) (at : first ≡ addr / 4096) (range : is_range addr pages ≡ true)
    (told : free ≡ not (list_any (overlaps pid first (first + pages)) m.areas)) where
  occupied : free ≡ false → stretch_refusal n pid addr segment offset pages ≡ Some Einval
  occupied refused = subst (λ (x : Mapping). stretch_refusal x pid addr segment offset pages ≡ Some Einval) same
      (no_room m pid addr segment offset pages (room_is m.areas pid addr pages first at range ∙ sym told ∙ refused))

  no_stretch : free ≡ true → is_stretch (get nat_cmp m.segments segment) offset pages ≡ false → stretch_refusal n pid addr segment offset pages ≡ Some Einval
  no_stretch given refused = subst (λ (x : Mapping). stretch_refusal x pid addr segment offset pages ≡ Some Einval) same
      (by_stretch m pid addr segment offset pages (room_is m.areas pid addr pages first at range ∙ sym told ∙ given) ∙ ap (λ b. if not b then Some Einval else None) refused)

  accepted : free ≡ true → (number : ℕ) → number ≡ segment → is_stretch (get nat_cmp m.segments number) offset pages ≡ true → stretch_refusal n pid addr segment offset pages ≡ None
  accepted given number is fits = subst (λ (x : Mapping). stretch_refusal x pid addr segment offset pages ≡ None) same
      (by_stretch m pid addr segment offset pages (room_is m.areas pid addr pages first at range ∙ sym told ∙ given)
      ∙ ap (λ b. if not b then Some Einval else None) (ap (λ k. is_stretch (get nat_cmp m.segments k) offset pages) (sym is) ∙ fits))

-- the table with the new area is that of the definition
attached_at : (t u : Table) (place : Map Page ℕ) (pid addr segment offset pages first number : ℕ) → first ≡ addr / 4096 → number ≡ segment
    → u ≡ with_areas t (set spot_cmp t.areas (pid, first) (new_area number offset pages)) → mapping_of u place ≡ with_area (mapping_of t place) pid addr segment offset pages
attached_at t u place pid addr segment offset pages first number at is e = rw (e, at, is)

pub is_free-requires : goal.is_free-requires
is_free-requires g c = let m = c.self.invariant.0 in record { apart = m.apart; whole = m.whole; low = m.low }

pub stretch_of-requires : goal.stretch_of-requires
stretch_of-requires g c = record { numbers = c.self.invariant.0.numbers }

pub count_in-requires : goal.count_in-requires
count_in-requires g c = record {
  steps = c.self.invariant.1;
  whole = c.self.invariant.0.whole;
  indices = subst (λ (x : Area). x.page.index + x.pages < 2 ^ 64) (sym c.new_area.ensures)
      (stretch_ends c.self.inside.table.segments c.in-Some-stretch_of.number c.args.offset c.args.pages c.self.invariant.0.lengths (sym c.in-Some-stretch_of.ensures.some.1));
}

pub invariant_of-self : goal.invariant_of-self
invariant_of-self g c = (c.self.invariant.0, c.in_err-count_in.ensures.err)

pub returns-in_default-clause-done : goal.returns-in_default-clause-done
returns-in_default-clause-done g c = (no_range c.args.self.now c.args.pid c.args.addr c.args.segment c.args.offset c.args.pages c.in_default.ensures.none, refl)

pub returns-then-not-is_free-clause-done : goal.returns-then-not-is_free-clause-done
returns-then-not-is_free-clause-done g c =
    let range = c.in-Some.ensures.some in (
      occupied (mapping_of c.self.inside.table c.self.inside.places.entries) c.args.self.now c.args.pid c.args.addr c.args.segment c.args.offset c.args.pages c.in-Some.range.first c.is_free.result c.self.view_is
          range.0 range.2 (free_pages c.self.inside.table.areas c.args.pid _ _ range.0 range.1 c.is_free.ensures) c.if-not-is_free.true,
      refl,
    )

pub returns-in_default-stretch_of-clause-done : goal.returns-in_default-stretch_of-clause-done
returns-in_default-stretch_of-clause-done g c =
    let range = c.in-Some.ensures.some in (
      no_stretch (mapping_of c.self.inside.table c.self.inside.places.entries) c.args.self.now c.args.pid c.args.addr c.args.segment c.args.offset c.args.pages c.in-Some.range.first c.is_free.result c.self.view_is
          range.0 range.2 (free_pages c.self.inside.table.areas c.args.pid _ _ range.0 range.1 c.is_free.ensures) c.if-not-is_free.false c.in_default-stretch_of.ensures.none,
      refl,
    )

-- with a free range and a stretch of the segment, nothing is refused
fine : (g : Over) (c : In-Some-stretch_of g) → stretch_refusal c.args.self.now c.args.pid c.args.addr c.args.segment c.args.offset c.args.pages ≡ None
fine g c =
    let range = c.in-Some.ensures.some in
    let stretch = c.in-Some-stretch_of.ensures.some in
    accepted (mapping_of c.self.inside.table c.self.inside.places.entries) c.args.self.now c.args.pid c.args.addr c.args.segment c.args.offset c.args.pages c.in-Some.range.first c.is_free.result c.self.view_is
    range.0 range.2 (free_pages c.self.inside.table.areas c.args.pid _ _ range.0 range.1 c.is_free.ensures) c.if-not-is_free.false c.in-Some-stretch_of.number stretch.0 stretch.1

pub returns-in_err-count_in-clause-memory : goal.returns-in_err-count_in-clause-memory
returns-in_err-count_in-clause-memory g c = λ _. fine g (goal.at.returns-in_err-count_in-clause-memory g c).In-Some-stretch_of

pub returns-in_default-attach-clause-memory : goal.returns-in_default-attach-clause-memory
returns-in_default-attach-clause-memory g c = λ _. fine g (goal.at.returns-in_default-attach-clause-memory g c).In-Some-stretch_of

pub returns-clause-memory : goal.returns-clause-memory
returns-clause-memory g c = λ _. fine g (goal.at.returns-clause-memory g c).In-Some-stretch_of

pub returns-in_default-attach-clause-done : goal.returns-in_default-attach-clause-done
returns-in_default-attach-clause-done g c = ap (λ (t : Table). mapping_of t c.self.inside.places.entries) c.in_default-attach.ensures.err ∙ c.self.view_is

pub returns-clause-done : goal.returns-clause-done
returns-clause-done g c =
    let range = c.in-Some.ensures.some in
    let stretch = c.in-Some-stretch_of.ensures.some in (
      fine g (goal.at.returns-clause-done g c).In-Some-stretch_of,
      attached_at c.self.inside.table c.attach.new.self c.self.inside.places.entries c.args.pid c.args.addr c.args.segment c.args.offset c.args.pages c.in-Some.range.first c.in-Some-stretch_of.number range.0 stretch.0 c.in-Ok.ensures.ok
          ∙ ap (λ (m : Mapping). with_area m c.args.pid c.args.addr c.args.segment c.args.offset c.args.pages) c.self.view_is,
    )

pub attach-requires : goal.attach-requires
attach-requires g c =
    record { free = none_begins c.self.inside.table.areas c.args.pid c.in-Some.range.first c.args.pages (omega (arith, c.in-Some.ensures.some.0, c.in-Some.ensures.some.1, c.in-Some.ensures.some.3)) c.self.invariant.0.whole (sym c.if-not-is_free.false ∙ free_pages c.self.inside.table.areas c.args.pid _ _ c.in-Some.ensures.some.0 c.in-Some.ensures.some.1 c.is_free.ensures) }

pub count_out-requires : goal.count_out-requires
count_out-requires g c = record {
  indices = subst (λ (x : Area). x.page.index + x.pages < 2 ^ 64) (sym c.new_area-in_default-attach.ensures)
      (stretch_ends c.self.inside.table.segments c.in-Some-stretch_of.number c.args.offset c.args.pages c.self.invariant.0.lengths (sym c.in-Some-stretch_of.ensures.some.1));
}

pub invariant_of-self-in_default-attach : goal.invariant_of-self-in_default-attach
invariant_of-self-in_default-attach g c =
    stayed c.self.inside.table c.attach.new.self c.self.inside.places.entries c.count_in.new.steps c.count_out.new.steps c.new_area.result c.new_area-in_default-attach.result true c.self.invariant.0
    (c.new_area.ensures ∙ sym c.new_area-in_default-attach.ensures) c.in_ok-count_in.ensures.ok c.count_out.ensures c.in_default-attach.ensures.err

pub invariant_of-self-in-Ok : goal.invariant_of-self-in-Ok
invariant_of-self-in-Ok g c =
    let range = c.in-Some.ensures.some in
    let number = c.in-Some-stretch_of.number in
    let stretch = sym c.in-Some-stretch_of.ensures.some.1 in
    let free = sym c.if-not-is_free.false ∙ free_pages c.self.inside.table.areas c.args.pid _ _ range.0 range.1 c.is_free.ensures in
    let there = stretch_shared c.self.inside.table.segments number c.args.offset c.args.pages c.self.inside.table.next c.self.invariant.0.numbers stretch in (
      attached_mapped c.self.inside.table c.self.inside.places.entries c.self.invariant.0 c.args.pid c.in-Some.range.first (new_area number c.args.offset c.args.pages) (omega (arith, range.0, range.1, range.3)) (omega (arith, range.0, range.1, range.4))
          (stretch_ends c.self.inside.table.segments number c.args.offset c.args.pages c.self.invariant.0.lengths stretch)
          free c.attach.new.self there.0 there.1 c.in-Ok.ensures.ok,
      came c.count_in.new.steps c.self.inside.table c.attach.new.self (c.args.pid, c.in-Some.range.first) c.new_area.result (new_area number c.args.offset c.args.pages) true c.new_area.ensures
          (none_begins c.self.inside.table.areas c.args.pid c.in-Some.range.first c.args.pages (omega (arith, range.0, range.1, range.3)) c.self.invariant.0.whole free) (ap (λ (t : Table). t.areas) c.in-Ok.ensures.ok)
          (sym there.0 ∙ ap (λ (t : Table). is_shared t.segments number) (sym c.in-Ok.ensures.ok)) (λ n shown. ap (λ (t : Table). is_shared t.segments n) (sym c.in-Ok.ensures.ok)) c.in_ok-count_in.ensures.ok,
    )

pub returns-clause-over : goal.returns-clause-over
returns-clause-over g c q v =
    let range = c.in-Some.ensures.some in
    let number = c.in-Some-stretch_of.number in
    over_more c.self.inside.table c.attach.new.self c.self.inside.places.entries c.args.pid c.in-Some.range.first (c.args.addr / 4096) (new_area number c.args.offset c.args.pages) c.self.invariant.0 (omega (arith, range.0, range.1, range.3)) range.0
    (sym c.if-not-is_free.false ∙ free_pages c.self.inside.table.areas c.args.pid _ _ range.0 range.1 c.is_free.ensures) (ap (λ (t : Table). t.areas) c.in-Ok.ensures.ok) q v
    ∙ ap (λ (n : ℕ). over_with c.self.inside.table.areas ((c.args.pid, c.args.addr / 4096), new_area n c.args.offset c.args.pages) q v) c.in-Some-stretch_of.ensures.some.0
    ∙ ap (λ (m : Mapping). over_with m.areas ((c.args.pid, c.args.addr / 4096), new_area c.args.segment c.args.offset c.args.pages) q v) c.self.view_is
