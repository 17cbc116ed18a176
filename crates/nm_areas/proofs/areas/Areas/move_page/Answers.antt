use Rattle.std.proofs.Common.{◌≡◌, ℕ, List, sym, ap, subst, ◌∙◌}
use Rattle.std.specs.List.Sorted.{IsStrictlySortedBy}
use Rattle.std.specs.Map.{keys_of}
use Rattle.std.specs.Prelude.{Option, IsSome}
use Rattle.nm_types.specs.declared.page.Page.{Page}
use Rattle.nm_types.specs.Map.{Map, get, page_cmp}
use Rattle.nm_types.proofs.Cases.{none_is_not}
use Rattle.nm_model.specs.definitions.Areas.{with_frame_of}
use Rattle.nm_model.specs.definitions.Areas.{Mapping, mapping_of, IsWellFormed}
use Rattle.nm_areas.proofs.areas.Areas.move_page.Goals.{in-Some, in_default}
use Rattle.nm_areas.proofs.areas.Areas.move_page.Goals as goal

-- other frames for the same pages
same_places : (m : Mapping) (place : Map Page ℕ) → IsWellFormed m → keys_of place ≡ keys_of m.place → IsWellFormed (record m { place = place })
same_places m place is same = record {
  ordered = is.ordered;
  apart = is.apart;
  whole = is.whole;
  low = is.low;
  indices = is.indices;
  named = is.named;
  below = is.below;
  numbers = is.numbers;
  lengths = is.lengths;
  shown = is.shown;
  once = is.once;
  places = subst (λ (pages : List Page). IsStrictlySortedBy page_cmp pages) (sym same) is.places;
}

pub returns : goal.returns
returns g c = elim c.match-get_mut.branch [
  | in-Some w ↦ rw w.self-inside-is (
      ap (λ (place : Map Page ℕ). mapping_of c.self.inside.table place) (c.get_mut.follows.holds c.args.frame).0 ∙ ap (λ (m : Mapping). with_frame_of m c.args.page c.args.frame) c.self.view_is)
  | in_default w ↦ absurd (none_is_not ℕ (subst (λ (o : Option ℕ). IsSome o) (sym (w.in_default.ensures.value ∙ ap (λ (m : Mapping). get page_cmp m.place c.args.page) c.self.view_is)) c.requires))
]

pub invariant_of-self : goal.invariant_of-self
invariant_of-self g c = elim c.match-get_mut.branch [
  | in-Some w ↦ rw w.self-inside-is (
    same_places (mapping_of c.self.inside.table c.self.inside.places.entries) (c.get_mut.follows.lender c.args.frame).entries c.self.invariant.0 (c.get_mut.follows.holds c.args.frame).1,
    c.self.invariant.1,
  )
  | in_default w ↦ absurd (none_is_not ℕ (subst (λ (o : Option ℕ). IsSome o) (sym (w.in_default.ensures.value ∙ ap (λ (m : Mapping). get page_cmp m.place c.args.page) c.self.view_is)) c.requires))
]
