-- After a touch something is seen, and areas and nodes are as before.
use Rattle.std.proofs.Common.{◌≡◌, ℕ, ◌/◌, ◌%◌, ◌+◌, Bool, true, false, ◌||◌, refl, sym, ap, subst}
use Rattle.std.specs.Prelude.{Option, Some, None, Result, Ok, Err, IsSome, slice_index, ◌==◌, nat_lt, if◌then◌else◌}
use Rattle.std.specs.Ordering.{nat_cmp}
use Rattle.nm_types.specs.declared.errno.Errno.{Errno}
use Rattle.nm_types.specs.declared.errno.Errno.TheVariants.{Einval}
use Rattle.nm_types.specs.declared.sight.Sight.{Sight}
use Rattle.nm_types.specs.declared.sight.Sight.TheVariants.{ZeroPage, Sees}
use Rattle.nm_types.specs.Map.{get, page_cmp}
use Rattle.nm_types.specs.State.{Process, State, PlacedArea, area_over, free_list}
use Rattle.nm_model.specs.definitions.Seen.{sight_at, sight_in}
use Rattle.nm_model.specs.definitions.Areas.{is_shared}
use Rattle.nm_model.specs.definitions.Order.{first_touch_order}
use Rattle.nm_model.specs.definitions.Touch.{AccessSite, shown_at, site_over, site_of, first_free, with_sight, with_page, without_front_frame, allocate_page, fill_page, share_page, touch_sight, touch_site, touch}
use Rattle.nm_laws.proofs.Seen.Sights.{IsSpot, sight_here}

-- if it is not refused, something is seen there, and areas and nodes are as before
unfoldable pub Shows : State → ℕ → ℕ → Result State Errno → Type 0
Shows s pid v (Err e) = Unit {0}
Shows s pid v (Ok t) = IsSome (sight_at t pid v) × (t.areas ≡ s.areas) × (t.layout ≡ s.layout)

module _ (s : State) (at : AccessSite) (i : IsSpot s at) where
  allocated_shows : (o : Option ℕ) → Shows s at.pid at.vpn (allocate_page s at o)
  unfolding Shows
  allocated_shows None = tt
  allocated_shows (Some node) =
      let middle = with_page (without_front_frame s node) (shown_at at) (slice_index (free_list s node) 0) in
      (subst (λ o. IsSome o) (sym (sight_here middle at (Sees (shown_at at)) (record { process = i.process; area = i.area }))) refl, refl, refl)

  filled_shows : Shows s at.pid at.vpn (fill_page s at)
  filled_shows = allocated_shows (first_free s.free (first_touch_order s.layout s.online at.process.home at.process.allowed at.area.1.policy (shown_at at).index))

  joined_shows : (o : Option ℕ) → Shows s at.pid at.vpn (share_page s at o)
  unfolding Shows
  joined_shows None = filled_shows
  joined_shows (Some f) = (subst (λ o. IsSome o) (sym (sight_here s at (Sees (shown_at at)) i)) refl, refl, refl)

  entry_shows : (writes : Bool) (o : Option Sight) → sight_at s at.pid at.vpn ≡ o → Shows s at.pid at.vpn (touch_sight s at writes o)
  unfolding Shows
  entry_shows writes None e =
      elim (is_shared s.segments (shown_at at).segment) as (λ b. Shows s at.pid at.vpn (if b then share_page s at (get page_cmp s.place (shown_at at)) else (if writes then fill_page s at else Ok (with_sight s at ZeroPage)))) [
        | true ↦ joined_shows (get page_cmp s.place (shown_at at))
        | false ↦ elim writes as (λ w. Shows s at.pid at.vpn (if w then fill_page s at else Ok (with_sight s at ZeroPage))) [
          | true ↦ filled_shows
          | false ↦ (subst (λ o. IsSome o) (sym (sight_here s at ZeroPage i)) refl, refl, refl)
        ]
      ]
  entry_shows writes (Some ZeroPage) e =
      elim writes as (λ w. Shows s at.pid at.vpn (if w then fill_page s at else Ok s)) [ true ↦ filled_shows | false ↦ (subst (λ o. IsSome o) (sym e) refl, refl, refl) ]
  entry_shows writes (Some (Sees p)) e = (subst (λ o. IsSome o) (sym e) refl, refl, refl)

module _ (s : State) where
  over_shows : (pid v : ℕ) (process : Process) (writes : Bool) (o : Option PlacedArea) → get nat_cmp s.processes pid ≡ Some process → area_over s.areas pid v ≡ o → Shows s pid v (touch_site s writes (site_over pid process v o))
  unfolding Shows
  over_shows pid v process writes None p a = tt
  over_shows pid v process writes (Some area) p a =
      let at : AccessSite = record { pid = pid; process = process; area = area; vpn = v } in
      entry_shows s at (record { process = p; area = a }) writes (get nat_cmp process.sees v) (ap (λ o. sight_in o v) p)

  process_shows : (pid address len : ℕ) (writes : Bool) (o : Option Process) → get nat_cmp s.processes pid ≡ o → Shows s pid (address / 4096) (touch_site s writes (site_of s o pid address len))
  unfolding Shows
  process_shows pid address len writes None e = tt
  process_shows pid address len writes (Some process) e =
      elim ((len == 0) || nat_lt 4096 (address % 4096 + len)) as (λ b. Shows s pid (address / 4096) (touch_site s writes (if b then Err Einval else site_over pid process (address / 4096) (area_over s.areas pid (address / 4096))))) [
        | true ↦ tt
        | false ↦ over_shows pid (address / 4096) process writes (area_over s.areas pid (address / 4096)) e refl
      ]

  pub touch_shows : (pid address len : ℕ) (writes : Bool) → Shows s pid (address / 4096) (touch s pid address len writes)
  touch_shows pid address len writes = process_shows pid address len writes (get nat_cmp s.processes pid) refl

-- areas stay through a touch
pub touch_areas : (s t : State) (pid address len : ℕ) (writes : Bool) → touch s pid address len writes ≡ Ok t → t.areas ≡ s.areas
unfolding Shows
touch_areas s t pid address len writes is = (subst (Shows s pid (address / 4096)) is (touch_shows s pid address len writes)).1
