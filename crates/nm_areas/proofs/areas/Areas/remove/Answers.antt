use Rattle.std.proofs.Common.{◌≡◌, ℕ, ◌+◌, ◌-◌, ◌<◌, Bool, true, false, not, length, min, refl, ap, sym, subst, ◌∙◌, arith, inl, inr}
use Rattle.std.proofs.lemmas.Bool.{cases_order}
use Rattle.std.specs.List.{AllByRecursion}
use Rattle.std.specs.List.Sorted.{IsStrictlySortedBy}
use Rattle.std.specs.Map.{keys_of}
use Rattle.std.specs.Ordering.{nat_cmp}
use Rattle.nm_model.specs.definitions.Areas.{Mapping, mapping_of, IsWellFormed, IsSomePages, HasIndices, AreasAreApart}
use Rattle.nm_types.specs.State.{page_at}
use Rattle.nm_model.specs.views.Table.{Table}
use Rattle.nm_areas.specs.Coverage.{IsCoverage, IsSteps, of_shared, ends_at, covers_at, splits_at}
use Rattle.nm_types.specs.declared.area.Segment.{Segment}
use Rattle.nm_types.specs.Map.{Map}
use Rattle.nm_types.proofs.Cases.{true_false}
use Rattle.nm_areas.proofs.Alone.{cut_apart, cut_once}
use Rattle.nm_areas.proofs.Counted.{err_always}
use Rattle.nm_areas.proofs.Covered.{was_cut}
use Rattle.nm_areas.proofs.Divided.{split_in}
use Rattle.nm_areas.proofs.Masked.{left_covered}
use Rattle.nm_model.specs.definitions.Areas.{after_removal, frames_lost, others, page_outside}
use Rattle.nm_model.proofs.areas.Shown.{left_shows}
use Rattle.nm_areas.proofs.Roomy.{few_own}
use Rattle.nm_areas.proofs.Letting.{cut_indices, cut_shown, now_left, after_is, after_mapped, lost_is}
use Rattle.std.specs.List.{list_any}
use Rattle.nm_model.specs.definitions.AreaRefusal.{overlaps}
use Rattle.nm_areas.proofs.Untouched.{not_false, same_removed, none_lost, none_hidden}
use Rattle.nm_areas.proofs.areas.Areas.remove.Goals as goal

-- where the range is not free, an area overlaps it
taken : (m n : Mapping) (pid first end : ℕ) (free : Bool) → m ≡ n → free ≡ not (list_any (overlaps pid first end) m.areas) → free ≡ false → list_any (overlaps pid first end) n.areas ≡ true
taken m n pid first end free same told h =
    ap (λ (x : Mapping). list_any (overlaps pid first end) x.areas) (sym same) ∙ not_false free (list_any (overlaps pid first end) m.areas) told h

pub lose_all-requires-clause-indices : goal.lose_all-requires-clause-indices
lose_all-requires-clause-indices g c =
    cut_indices c.self.inside.table c.self.inside.places.entries c.self.invariant.0 c.args.pid c.args.range.first c.args.range.end c.cut.new.self c.in-Ok.ensures.ok

pub lose_all-requires-clause-room : goal.lose_all-requires-clause-room
lose_all-requires-clause-room g c =
    let few = few_own c.self.inside.table c.cut.new.self c.self.inside.places.entries c.args.pid c.args.range.first c.args.range.end c.self.invariant.0 c.requires.some c.in-Ok.ensures.ok in
    omega (arith, few, c.number.ensures, c.number-2.ensures, c.in_ok-freed.ensures.len, c.in_ok-freed.ensures.capacity, c.min-most.ensures, c.len.ensures.len)

pub lose_all-requires-clause-apart : goal.lose_all-requires-clause-apart
lose_all-requires-clause-apart g c =
    cut_apart c.self.inside.table c.self.inside.places.entries c.self.invariant.0 c.args.pid c.args.range.first c.args.range.end c.cut.new.self c.in-Ok.ensures.ok

pub lose_all-requires-clause-once : goal.lose_all-requires-clause-once
lose_all-requires-clause-once g c =
    cut_once c.self.inside.table c.self.inside.places.entries c.self.invariant.0 c.args.pid c.args.range.first c.args.range.end c.cut.new.self c.in-Ok.ensures.ok

pub drop_own-requires-clause-shown : goal.drop_own-requires-clause-shown
drop_own-requires-clause-shown g c =
    cut_shown c.self.inside.table c.self.inside.places.entries c.self.invariant.0 c.args.pid c.args.range.first c.args.range.end c.cut.new.self c.in-Ok.ensures.ok

pub count_out_own-requires-clause-steps : goal.count_out_own-requires-clause-steps
count_out_own-requires-clause-steps g c =
    let now = c.in-Ok.ensures.ok in
    subst (λ (x : Map ℕ Segment). IsCoverage c.split_steps.new.steps x c.cut.new.self.areas) (sym (ap (λ (t : Table). t.segments) now))
    (was_cut c.split_steps.new.steps c.self.inside.table.segments c.self.inside.table.areas c.args.pid c.args.range.first c.args.range.end c.requires.some c.self.invariant.0.whole c.in_ok-split_steps.ensures.ok c.cut.new.self.areas
    (ap (λ (t : Table). t.areas) now))

pub count_out_own-requires-clause-indices : goal.count_out_own-requires-clause-indices
count_out_own-requires-clause-indices g c =
    cut_indices c.self.inside.table c.self.inside.places.entries c.self.invariant.0 c.args.pid c.args.range.first c.args.range.end c.cut.new.self c.in-Ok.ensures.ok

pub invariant_of-self-2 : goal.invariant_of-self-2
invariant_of-self-2 g c = (
  after_mapped c.self.inside.table c.self.inside.places.entries c.self.invariant.0 c.args.pid c.args.range.first c.args.range.end c.requires.some c.cut.new.self c.drop_own.new.self
      c.lose_all.new.places.entries c.in-Ok.ensures.ok c.drop_own.ensures c.lose_all.ensures.places,
  subst (λ (t : Table). IsCoverage c.count_out_own.new.steps t.segments t.areas) (sym c.drop_own.ensures)
      (left_covered c.count_out_own.new.steps c.cut.new.self.segments (others c.args.pid c.args.range.first c.args.range.end c.cut.new.self.areas) c.count_out_own.ensures),
)

pub returns-clause-ok : goal.returns-clause-ok
returns-clause-ok g c =
    after_is c.self.inside.table c.self.inside.places.entries c.self.invariant.0 c.args.pid c.args.range.first c.args.range.end c.requires.some c.cut.new.self c.drop_own.new.self
    c.lose_all.new.places.entries c.in-Ok.ensures.ok c.drop_own.ensures c.lose_all.ensures.places
    ∙ ap (λ (m : Mapping). after_removal m c.args.pid c.args.range.first c.args.range.end) c.self.view_is

pub returns-clause-freed : goal.returns-clause-freed
returns-clause-freed g c =
    lost_is c.self.inside.table c.self.inside.places.entries c.self.invariant.0 c.args.pid c.args.range.first c.args.range.end c.requires.some c.cut.new.self c.drop_own.new.self
    c.lose_all.new.places.entries c.in-Ok.ensures.ok c.drop_own.ensures c.lose_all.ensures.places c.in_ok-freed.freed.items c.lose_all.new.freed.items c.in_ok-freed.ensures.items c.lose_all.ensures.freed
    ∙ ap (λ (m : Mapping). frames_lost m c.args.pid c.args.range.first c.args.range.end) c.self.view_is

pub returns-clause-pages : goal.returns-clause-pages
returns-clause-pages g c q v =
    let areas = c.self.inside.table.areas in
    ap (λ (t : Table). page_at t.areas q v) (now_left c.self.inside.table c.self.inside.places.entries c.self.invariant.0 c.args.pid c.args.range.first c.args.range.end c.requires.some c.cut.new.self c.drop_own.new.self
    c.lose_all.new.places.entries c.in-Ok.ensures.ok c.drop_own.ensures c.lose_all.ensures.places)
    ∙ left_shows c.args.pid c.args.range.first c.args.range.end (omega (arith, c.requires.some)) areas c.self.invariant.0.whole c.self.invariant.0.apart q v
    ∙ ap (λ (m : Mapping). page_outside m.areas c.args.pid c.args.range.first c.args.range.end q v) c.self.view_is

pub split_steps-requires : goal.split_steps-requires
split_steps-requires g c = let m = c.self.invariant.0 in record { steps = c.self.invariant.1; apart = m.apart; whole = m.whole; indices = m.indices }

pub invariant_of-self : goal.invariant_of-self
invariant_of-self g c = (c.self.invariant.0, c.in_err-split_steps.ensures.err)

pub cut-requires : goal.cut-requires
cut-requires g c = let m = c.self.invariant.0 in record { apart = m.apart; whole = m.whole; indices = m.indices; ordered = m.ordered }

pub join_steps-requires-clause-steps : goal.join_steps-requires-clause-steps
join_steps-requires-clause-steps g c =
    subst (λ (t : Table). IsSteps c.split_steps.new.steps (λ p. (of_shared t.segments (ends_at t.areas) p + of_shared t.segments (splits_at t.areas c.args.pid c.args.range.first) p) + of_shared t.segments (splits_at t.areas c.args.pid c.args.range.end) p) (of_shared t.segments (covers_at t.areas)))
    (sym c.in_default.ensures.err) c.in_ok-split_steps.ensures.ok

pub join_steps-requires-clause-apart : goal.join_steps-requires-clause-apart
join_steps-requires-clause-apart g c = subst (λ (t : Table). AreasAreApart t.areas) (sym c.in_default.ensures.err) c.self.invariant.0.apart

pub join_steps-requires-clause-whole : goal.join_steps-requires-clause-whole
join_steps-requires-clause-whole g c = subst (λ (t : Table). AllByRecursion IsSomePages t.areas) (sym c.in_default.ensures.err) c.self.invariant.0.whole

pub join_steps-requires-clause-indices : goal.join_steps-requires-clause-indices
join_steps-requires-clause-indices g c = subst (λ (t : Table). AllByRecursion HasIndices t.areas) (sym c.in_default.ensures.err) c.self.invariant.0.indices

pub invariant_of-self-in_default : goal.invariant_of-self-in_default
invariant_of-self-in_default g c =
    (subst (λ (t : Table). IsWellFormed (mapping_of t c.self.inside.places.entries)) (sym c.in_default.ensures.err) c.self.invariant.0, c.join_steps.ensures)

pub returns-in_default-clause-err : goal.returns-in_default-clause-err
returns-in_default-clause-err g c = ap (λ (t : Table). mapping_of t c.self.inside.places.entries) c.in_default.ensures.err ∙ c.self.view_is

pub count_out_own-requires-clause-range : goal.count_out_own-requires-clause-range
count_out_own-requires-clause-range g c = omega (arith, c.requires.some)

pub lose_all-requires-clause-range : goal.lose_all-requires-clause-range
lose_all-requires-clause-range g c = omega (arith, c.requires.some)

pub lose_all-requires-clause-steps : goal.lose_all-requires-clause-steps
lose_all-requires-clause-steps g c = c.count_out_own.ensures

pub drop_own-requires-clause-sorted : goal.drop_own-requires-clause-sorted
drop_own-requires-clause-sorted g c = subst (λ (t : Table). IsStrictlySortedBy nat_cmp (keys_of t.segments)) (sym c.in-Ok.ensures.ok) c.self.invariant.0.named

pub returns-clause-room : goal.returns-clause-room
returns-clause-room g c =
    omega (arith, c.lose_all.ensures.room, c.in_ok-freed.ensures.exact, c.min-most.ensures, c.len.ensures.len, ap (λ (m : Mapping). length m.place) c.self.view_is)

-- ---- no area in the range

pub returns-then-is_free-clause-ok : goal.returns-then-is_free-clause-ok
returns-then-is_free-clause-ok g c =
    sym c.self.view_is
    ∙ same_removed c.self.inside.table c.self.inside.places.entries c.self.invariant.0 c.args.pid c.args.range.first c.args.range.end c.requires.some (sym c.if-is_free.true ∙ c.is_free.ensures)
    ∙ ap (λ (m : Mapping). after_removal m c.args.pid c.args.range.first c.args.range.end) c.self.view_is

pub returns-then-is_free-clause-pages : goal.returns-then-is_free-clause-pages
returns-then-is_free-clause-pages g c q v =
    ap (λ (m : Mapping). page_at m.areas q v) (sym c.self.view_is)
    ∙ none_hidden c.self.inside.table c.self.inside.places.entries c.self.invariant.0 c.args.pid c.args.range.first c.args.range.end c.requires.some (sym c.if-is_free.true ∙ c.is_free.ensures) q v
    ∙ ap (λ (m : Mapping). page_outside m.areas c.args.pid c.args.range.first c.args.range.end q v) c.self.view_is

pub returns-then-is_free-clause-freed : goal.returns-then-is_free-clause-freed
returns-then-is_free-clause-freed g c =
    c.new.ensures.items
    ∙ none_lost c.self.inside.table c.self.inside.places.entries c.self.invariant.0 c.args.pid c.args.range.first c.args.range.end c.requires.some (sym c.if-is_free.true ∙ c.is_free.ensures)
    ∙ ap (λ (m : Mapping). frames_lost m c.args.pid c.args.range.first c.args.range.end) c.self.view_is

-- ---- memory is asked for only where an area overlaps the range

pub returns-in_err-freed-clause-allocates : goal.returns-in_err-freed-clause-allocates
returns-in_err-freed-clause-allocates g c = err_always c.from_residual.result
    (taken (mapping_of c.self.inside.table c.self.inside.places.entries) c.args.self.now c.args.pid c.args.range.first c.args.range.end c.is_free.result c.self.view_is c.is_free.ensures c.if-is_free.false)

pub returns-in_err-split_steps-clause-allocates : goal.returns-in_err-split_steps-clause-allocates
returns-in_err-split_steps-clause-allocates g c = err_always c.from_residual-in_err-split_steps.result
    (taken (mapping_of c.self.inside.table c.self.inside.places.entries) c.args.self.now c.args.pid c.args.range.first c.args.range.end c.is_free.result c.self.view_is c.is_free.ensures c.if-is_free.false)

pub returns-in_default-clause-allocates : goal.returns-in_default-clause-allocates
returns-in_default-clause-allocates g c =
    taken (mapping_of c.self.inside.table c.self.inside.places.entries) c.args.self.now c.args.pid c.args.range.first c.args.range.end c.is_free.result c.self.view_is c.is_free.ensures c.if-is_free.false

-- ---- it is asked for a list of pages that have frames, or where an area is split

-- there are pages with frames if the list needs room
some_places : (places pages most : ℕ) → most ≡ min places pages → (most ≡ 0 → false ≡ true) → 0 < places
some_places places pages most is fails = elim (cases_order 0 places) [
  | inl none ↦ absurd (true_false (sym (fails (omega (arith, is, none)))))
  | inr some ↦ elim some [ inl more ↦ more | inr less ↦ omega (arith, less) ]
]

pub returns-in_err-freed-clause-needed : goal.returns-in_err-freed-clause-needed
returns-in_err-freed-clause-needed g c =
    let many = some_places c.len.result (c.number.result - c.number-2.result) c.min-most.result c.min-most.ensures c.in_err-freed.ensures.succeeds in
    err_always c.from_residual.result (inl (omega (arith, many, c.len.ensures.len, ap (λ (m : Mapping). length m.place) c.self.view_is)))

pub returns-in_err-split_steps-clause-needed : goal.returns-in_err-split_steps-clause-needed
returns-in_err-split_steps-clause-needed g c = err_always c.from_residual-in_err-split_steps.result
    (inr (split_in c.self.inside.table.areas c.args.self.now.areas c.args.pid _ _ _ _ (ap (λ (m : Mapping). m.areas) c.self.view_is) refl refl c.in_err-split_steps.ensures.allocates))

pub returns-in_default-clause-needed : goal.returns-in_default-clause-needed
returns-in_default-clause-needed g c =
    inr (split_in c.self.inside.table.areas c.args.self.now.areas c.args.pid _ _ _ _ (ap (λ (m : Mapping). m.areas) c.self.view_is) refl refl c.in_default.ensures.allocates)
