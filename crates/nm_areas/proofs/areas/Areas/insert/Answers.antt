use Rattle.std.proofs.Common.{◌≡◌, ℕ, ◌+◌, ◌<◌, ◌≤◌, ◌/◌, ◌^◌, suc, Bool, true, false, not, refl, ap, sym, subst, ◌∙◌, arith}
use Rattle.std.specs.Prelude.{Some, None, Result, Err, ◌&&◌, nat_le, if◌then◌else◌}
use Rattle.std.specs.List.{list_any}
use Rattle.std.specs.Ordering.{nat_cmp}
use Rattle.std.proofs.lemmas.Bool.{le-leb, lt-leb}
use Rattle.nm_types.specs.declared.area.Area.{Area}
use Rattle.nm_types.specs.declared.errno.Errno.{Errno}
use Rattle.nm_types.specs.declared.errno.Errno.TheVariants.{Enomem, Einval}
use Rattle.nm_types.specs.declared.machine_error.MachineError.{MachineError}
use Rattle.nm_types.specs.declared.machine_error.MachineError.TheVariants as error
use Rattle.nm_types.specs.declared.page.Page.{Page}
use Rattle.nm_types.specs.Map.{Map, set, spot_cmp}
use Rattle.nm_types.specs.declared.area.Segment.{Segment}
use Rattle.nm_model.specs.definitions.Areas.{is_shared}
use Rattle.nm_model.specs.views.Table.{Table}
use Rattle.nm_model.specs.definitions.Areas.{Mapping, mapping_of}
use Rattle.nm_model.specs.definitions.AreaRefusal.{insert_refusal, is_range, is_room, overlaps}
use Rattle.nm_model.specs.definitions.Areas.{new_area, over_with, with_segment}
use Rattle.nm_areas.proofs.Beginning.{none_begins, free_pages}
use Rattle.nm_areas.proofs.Covered.{came, stayed}
use Rattle.nm_areas.proofs.Masked.{new_shared, old_shared}
use Rattle.nm_model.proofs.areas.Shown.{over_more}
use Rattle.nm_areas.proofs.Inserted.{none_next, inserted_mapped}
use Rattle.nm_areas.proofs.areas.Areas.insert.Given.{Over}
use Rattle.nm_areas.proofs.areas.Areas.insert.Goals.{Else-next_segment-ge-MAX_SEGMENTS}
use Rattle.nm_areas.proofs.areas.Areas.insert.Goals as goal

-- whether there is room, where the range is one
room_is : (areas : Map (ℕ × ℕ) Area) (pid addr pages first : ℕ) → first ≡ addr / 4096 → is_range addr pages ≡ true
    → is_room areas pid addr pages ≡ not (list_any (overlaps pid first (first + pages)) areas)
room_is areas pid addr pages first at range =
    ap (λ b. b && not (list_any (overlaps pid (addr / 4096) (addr / 4096 + pages)) areas)) range ∙ ap (λ n. not (list_any (overlaps pid n (n + pages)) areas)) (sym at)

-- what is refused, by whether there is room and a number
refused_room : (m : Mapping) (pid addr pages : ℕ) → is_room m.areas pid addr pages ≡ false → insert_refusal m pid addr pages ≡ Some Einval
refused_room m pid addr pages e = ap (λ b. if not b then Some Einval else (if nat_le 65536 m.next then Some Enomem else None)) e

refused_number : (m : Mapping) (pid addr pages : ℕ) → is_room m.areas pid addr pages ≡ true → insert_refusal m pid addr pages ≡ (if nat_le 65536 m.next then Some Enomem else None)
refused_number m pid addr pages e = ap (λ b. if not b then Some Einval else (if nat_le 65536 m.next then Some Enomem else None)) e

refused_not : (m : Mapping) (pid addr pages : ℕ) → is_room m.areas pid addr pages ≡ true → m.next < 65536 → insert_refusal m pid addr pages ≡ None
refused_not m pid addr pages e lt = refused_number m pid addr pages e ∙ ap (λ b. if b then Some Enomem else None) (lt-leb 65536 m.next lt)

-- the call is not refused where the range is free and a number is left
accepted : (m n : Mapping) (pid addr pages first : ℕ) (free : Bool) → m ≡ n → first ≡ addr / 4096 → is_range addr pages ≡ true
    → free ≡ not (list_any (overlaps pid first (first + pages)) m.areas) → free ≡ true → m.next < 65536 → insert_refusal n pid addr pages ≡ None
accepted m n pid addr pages first free same at range told given lt =
    subst (λ (x : Mapping). insert_refusal x pid addr pages ≡ None) same (refused_not m pid addr pages (room_is m.areas pid addr pages first at range ∙ sym told ∙ given) lt)

occupied : (m n : Mapping) (pid addr pages first : ℕ) (free : Bool) → m ≡ n → first ≡ addr / 4096 → is_range addr pages ≡ true
    → free ≡ not (list_any (overlaps pid first (first + pages)) m.areas) → free ≡ false → insert_refusal n pid addr pages ≡ Some Einval
occupied m n pid addr pages first free same at range told refused =
    subst (λ (x : Mapping). insert_refusal x pid addr pages ≡ Some Einval) same (refused_room m pid addr pages (room_is m.areas pid addr pages first at range ∙ sym told ∙ refused))

exhausted : (m n : Mapping) (pid addr pages first : ℕ) (free : Bool) → m ≡ n → first ≡ addr / 4096 → is_range addr pages ≡ true
    → free ≡ not (list_any (overlaps pid first (first + pages)) m.areas) → free ≡ true → 65536 ≤ m.next → insert_refusal n pid addr pages ≡ Some Enomem
exhausted m n pid addr pages first free same at range told given le =
    subst (λ (x : Mapping). insert_refusal x pid addr pages ≡ Some Enomem) same
    (refused_number m pid addr pages (room_is m.areas pid addr pages first at range ∙ sym told ∙ given) ∙ ap (λ b. if b then Some Enomem else None) (le-leb 65536 m.next le))

refused_is_not : (e : Errno) → ◌≡◌ {A = Result ℕ MachineError} (Err (error.Refused e)) (Err error.HostMemory) → ⊥
refused_is_not e h = cc

no_range : (m : Mapping) (pid addr pages : ℕ) → is_range addr pages ≡ false → insert_refusal m pid addr pages ≡ Some Einval
no_range m pid addr pages e = refused_room m pid addr pages (ap (λ b. b && not (list_any (overlaps pid (addr / 4096) (addr / 4096 + pages)) m.areas)) e)

-- the table with the new segment is that of the definition
inserted_at : (t u : Table) (place : Map Page ℕ) (pid addr pages first : ℕ) (shared : Bool) → first ≡ addr / 4096
    → u ≡ record { areas = set spot_cmp t.areas (pid, first) (new_area t.next 0 pages); segments = set nat_cmp t.segments t.next (record { pages = pages; shared = shared }); next = suc t.next }
    → mapping_of u place ≡ with_segment (mapping_of t place) pid addr pages shared
inserted_at t u place pid addr pages first shared at e = rw (e, at)

pub is_free-requires : goal.is_free-requires
is_free-requires g c = let m = c.self.invariant.0 in record { apart = m.apart; whole = m.whole; low = m.low }

pub count_in-requires : goal.count_in-requires
count_in-requires g c = record {
  steps = c.self.invariant.1;
  whole = c.self.invariant.0.whole;
  indices = subst (λ (x : Area). x.page.index + x.pages < 2 ^ 64) (sym c.new_area.ensures) (omega (arith, c.in-Some.ensures.some.0, c.in-Some.ensures.some.1, c.in-Some.ensures.some.4));
}

pub count_out-requires : goal.count_out-requires
count_out-requires g c = record { indices = subst (λ (x : Area). x.page.index + x.pages < 2 ^ 64) (sym c.new_area-in_default-insert.ensures) (omega (arith, c.in-Some.ensures.some.0, c.in-Some.ensures.some.1, c.in-Some.ensures.some.4)) }

pub invariant_of-self : goal.invariant_of-self
invariant_of-self g c = (c.self.invariant.0, c.in_err-count_in.ensures.err)

pub returns-in_default-clause-done : goal.returns-in_default-clause-done
returns-in_default-clause-done g c = (no_range c.args.self.now c.args.pid c.args.addr c.args.pages c.in_default.ensures.none, refl)

pub returns-then-not-is_free-clause-done : goal.returns-then-not-is_free-clause-done
returns-then-not-is_free-clause-done g c =
    let range = c.in-Some.ensures.some in (
      occupied (mapping_of c.self.inside.table c.self.inside.places.entries) c.args.self.now c.args.pid c.args.addr c.args.pages c.in-Some.range.first c.is_free.result c.self.view_is range.0 range.2
          (free_pages c.self.inside.table.areas c.args.pid _ _ range.0 range.1 c.is_free.ensures) c.if-not-is_free.true,
      refl,
    )

-- with a free range and a number left, nothing is refused
fine : (g : Over) (c : Else-next_segment-ge-MAX_SEGMENTS g) → insert_refusal c.args.self.now c.args.pid c.args.addr c.args.pages ≡ None
fine g c =
    let range = c.in-Some.ensures.some in
    accepted (mapping_of c.self.inside.table c.self.inside.places.entries) c.args.self.now c.args.pid c.args.addr c.args.pages c.in-Some.range.first c.is_free.result c.self.view_is range.0 range.2
    (free_pages c.self.inside.table.areas c.args.pid _ _ range.0 range.1 c.is_free.ensures) c.if-not-is_free.false (omega (arith, c.next_segment.ensures, c.if-next_segment-ge-MAX_SEGMENTS.false))

pub returns-in_err-count_in-clause-memory : goal.returns-in_err-count_in-clause-memory
returns-in_err-count_in-clause-memory g c = λ _. fine g (goal.at.returns-in_err-count_in-clause-memory g c).Else-next_segment-ge-MAX_SEGMENTS

pub returns-then-next_segment-ge-MAX_SEGMENTS-clause-done : goal.returns-then-next_segment-ge-MAX_SEGMENTS-clause-done
returns-then-next_segment-ge-MAX_SEGMENTS-clause-done g c =
    let range = c.in-Some.ensures.some in (
      exhausted (mapping_of c.self.inside.table c.self.inside.places.entries) c.args.self.now c.args.pid c.args.addr c.args.pages c.in-Some.range.first c.is_free.result c.self.view_is range.0 range.2
          (free_pages c.self.inside.table.areas c.args.pid _ _ range.0 range.1 c.is_free.ensures) c.if-not-is_free.false (omega (arith, c.next_segment.ensures, c.if-next_segment-ge-MAX_SEGMENTS.true)),
      refl,
    )

pub returns-then-next_segment-ge-MAX_SEGMENTS-clause-memory : goal.returns-then-next_segment-ge-MAX_SEGMENTS-clause-memory
returns-then-next_segment-ge-MAX_SEGMENTS-clause-memory g c = λ e. absurd (refused_is_not Enomem e)

pub returns-in_default-clause-memory : goal.returns-in_default-clause-memory
returns-in_default-clause-memory g c = λ e. absurd (refused_is_not Einval e)

pub returns-then-not-is_free-clause-memory : goal.returns-then-not-is_free-clause-memory
returns-then-not-is_free-clause-memory g c = λ e. absurd (refused_is_not Einval e)

pub insert-requires-clause-number : goal.insert-requires-clause-number
insert-requires-clause-number g c = omega (arith, c.next_segment.ensures, c.if-next_segment-ge-MAX_SEGMENTS.false)

pub returns-in_default-insert-clause-done : goal.returns-in_default-insert-clause-done
returns-in_default-insert-clause-done g c = ap (λ (t : Table). mapping_of t c.self.inside.places.entries) c.in_default-insert.ensures.err ∙ c.self.view_is

pub returns-in_default-insert-clause-memory : goal.returns-in_default-insert-clause-memory
returns-in_default-insert-clause-memory g c = λ _. fine g (goal.at.returns-in_default-insert-clause-memory g c).Else-next_segment-ge-MAX_SEGMENTS

pub returns-clause-memory : goal.returns-clause-memory
returns-clause-memory g c = λ _. fine g (goal.at.returns-clause-memory g c).Else-next_segment-ge-MAX_SEGMENTS

pub returns-clause-number : goal.returns-clause-number
returns-clause-number g c = c.in-Ok.ensures.number ∙ ap (λ (m : Mapping). m.next) c.self.view_is

pub returns-clause-done : goal.returns-clause-done
returns-clause-done g c =
    let range = c.in-Some.ensures.some in (
      fine g (goal.at.returns-clause-done g c).Else-next_segment-ge-MAX_SEGMENTS,
      inserted_at c.self.inside.table c.insert.new.self c.self.inside.places.entries c.args.pid c.args.addr c.args.pages c.in-Some.range.first c.args.shared range.0 c.in-Ok.ensures.ok
          ∙ ap (λ (m : Mapping). with_segment m c.args.pid c.args.addr c.args.pages c.args.shared) c.self.view_is,
    )

pub insert-requires-clause-new : goal.insert-requires-clause-new
insert-requires-clause-new g c = none_next c.self.inside.table.segments c.self.inside.table.next c.self.invariant.0.numbers

pub insert-requires-clause-free : goal.insert-requires-clause-free
insert-requires-clause-free g c =
    none_begins c.self.inside.table.areas c.args.pid c.in-Some.range.first c.args.pages (omega (arith, c.in-Some.ensures.some.0, c.in-Some.ensures.some.1, c.in-Some.ensures.some.3)) c.self.invariant.0.whole (sym c.if-not-is_free.false ∙ free_pages c.self.inside.table.areas c.args.pid _ _ c.in-Some.ensures.some.0 c.in-Some.ensures.some.1 c.is_free.ensures)

pub invariant_of-self-in_default-insert : goal.invariant_of-self-in_default-insert
invariant_of-self-in_default-insert g c =
    stayed c.self.inside.table c.insert.new.self c.self.inside.places.entries c.count_in.new.steps c.count_out.new.steps c.new_area.result c.new_area-in_default-insert.result c.args.shared c.self.invariant.0
    (c.new_area.ensures ∙ sym c.new_area-in_default-insert.ensures) c.in_ok-count_in.ensures.ok c.count_out.ensures c.in_default-insert.ensures.err

pub invariant_of-self-in-Ok-1 : goal.invariant_of-self-in-Ok-1
invariant_of-self-in-Ok-1 g c =
    let range = c.in-Some.ensures.some in
    let segment : Segment = record { pages = c.args.pages; shared = c.args.shared } in
    let free = sym c.if-not-is_free.false ∙ free_pages c.self.inside.table.areas c.args.pid _ _ range.0 range.1 c.is_free.ensures in (
      inserted_mapped c.self.inside.table c.insert.new.self c.self.inside.places.entries c.args.pid c.in-Some.range.first c.args.pages c.args.shared c.self.invariant.0 (omega (arith, range.0, range.1, range.3)) (omega (arith, range.0, range.1, range.4))
          free c.in-Ok.ensures.ok,
      came c.count_in.new.steps c.self.inside.table c.insert.new.self (c.args.pid, c.in-Some.range.first) c.new_area.result (new_area c.self.inside.table.next 0 c.args.pages) c.args.shared
          (c.new_area.ensures ∙ ap (λ (n : ℕ). new_area n 0 c.args.pages) c.next_segment-next.ensures)
          (none_begins c.self.inside.table.areas c.args.pid c.in-Some.range.first c.args.pages (omega (arith, range.0, range.1, range.3)) c.self.invariant.0.whole free) (ap (λ (t : Table). t.areas) c.in-Ok.ensures.ok)
          (new_shared c.self.inside.table.segments c.self.inside.table.next segment ∙ ap (λ (t : Table). is_shared t.segments c.self.inside.table.next) (sym c.in-Ok.ensures.ok))
          (λ n shown. old_shared c.self.inside.table.segments c.self.inside.table.next segment c.self.inside.table.areas c.self.invariant.0.below n shown ∙ ap (λ (t : Table). is_shared t.segments n) (sym c.in-Ok.ensures.ok))
          c.in_ok-count_in.ensures.ok,
    )

pub returns-clause-over : goal.returns-clause-over
returns-clause-over g c q v =
    let range = c.in-Some.ensures.some in
    over_more c.self.inside.table c.insert.new.self c.self.inside.places.entries c.args.pid c.in-Some.range.first (c.args.addr / 4096) (new_area c.self.inside.table.next 0 c.args.pages) c.self.invariant.0 (omega (arith, range.0, range.1, range.3)) range.0
    (sym c.if-not-is_free.false ∙ free_pages c.self.inside.table.areas c.args.pid _ _ range.0 range.1 c.is_free.ensures) (ap (λ (t : Table). t.areas) c.in-Ok.ensures.ok) q v
    ∙ ap (λ (m : Mapping). over_with m.areas ((c.args.pid, c.args.addr / 4096), new_area m.next 0 c.args.pages) q v) c.self.view_is
