use Rattle.std.proofs.Common.{◌≡◌, None, ℕ, refl, ap, ◌∙◌}
use Rattle.std.specs.Ordering.{nat_cmp}
use Rattle.std.specs.Cmp.{nat_cmp_total}
use Rattle.std.specs.Map.{keys_of}
use Rattle.std.specs.List.Sorted.{IsStrictlySortedBy}
use Rattle.std.proofs.lemmas.Map.Lookups.{exact_unsigned}
use Rattle.nm_types.specs.declared.area.Segment.{Segment}
use Rattle.nm_types.specs.Map.{Map, get, set, without, spot_cmp}
use Rattle.nm_model.specs.views.Table.{Table}
use Rattle.nm_types.proofs.Maps.{without-set}
use Rattle.nm_areas.proofs.area_table.AreaTable.insert.Goals as goal

-- a new segment that is removed again
undone : (segments with_new left : Map ℕ Segment) (number : ℕ) (segment : Segment) → with_new ≡ set nat_cmp segments number segment → left ≡ without nat_cmp with_new number
    → IsStrictlySortedBy nat_cmp (keys_of segments) → get nat_cmp segments number ≡ None → left ≡ segments
undone segments with_new left number segment set_new removed sorted new =
    removed ∙ ap (λ m. without nat_cmp m number) set_new ∙ without-set nat_cmp_total exact_unsigned segments number segment sorted new

-- the segments alone are as they were before
without_new : (now before : Table) (left : Map ℕ Segment) (segments : Map ℕ Segment) (number : ℕ) → now ≡ before → left ≡ without nat_cmp now.segments number → without nat_cmp before.segments number ≡ segments
    → record { areas = now.areas; segments = left; next = now.next } ≡ record before { segments = segments }
without_new now before left segments number is removed back =
    ap (λ (x : Map ℕ Segment). record { areas = now.areas; segments = x; next = now.next }) removed
    ∙ ap (λ (t : Table). record t { segments = without nat_cmp t.segments number }) is ∙ ap (λ (x : Map ℕ Segment). record before { segments = x }) back

pub add-requires : goal.add-requires
add-requires g c = record { free = ap (λ (x : Table). get spot_cmp x.areas (c.args.pid, c.args.first)) c.self.view_is ∙ c.requires.free }

pub returns-in-Err-clause-err : goal.returns-in-Err-clause-err
returns-in-Err-clause-err g c =
    let new : get nat_cmp c.self.inside.segments.entries c.self.inside.next_segment ≡ None = ap (λ (x : Table). get nat_cmp x.segments x.next) c.self.view_is ∙ c.requires.new in
    let before : Table = record { areas = c.self.inside.areas.entries; segments = c.insert.new.self.entries; next = c.self.inside.next_segment } in
    let now : Table = record { areas = c.self-2.inside.areas.entries; segments = c.self-2.inside.segments.entries; next = c.self-2.inside.next_segment } in
    without_new now before c.remove.new.self.entries c.self.inside.segments.entries c.self.inside.next_segment (c.self-2.view_is ∙ c.in-Err.ensures.err) c.remove.ensures.entries
    (undone c.self.inside.segments.entries c.insert.new.self.entries _ c.self.inside.next_segment (record { pages = c.args.pages; shared = c.args.shared })
    c.in_ok-insert.ensures.entries refl c.in_ok-insert.ensures.was_ordered new)
    ∙ c.self.view_is
