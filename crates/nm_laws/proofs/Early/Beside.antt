-- A touch, and a change of other pages, may come in any order.
use Rattle.std.proofs.Common.{◌≡◌, ℕ, ◌/◌, ◌%◌, ◌+◌, List, [], ◌∷◌, Bool, true, false, ◌||◌, refl, ap, subst, ◌∙◌, length}
use Rattle.std.specs.Prelude.{Option, Some, None, Result, Ok, Err, replicate, slice_index, ◌==◌, nat_lt, if◌then◌else◌}
use Rattle.std.specs.Ordering.{nat_cmp}
use Rattle.nm_types.specs.declared.page.Page.{Page}
use Rattle.nm_types.specs.declared.errno.Errno.{Errno}
use Rattle.nm_types.specs.declared.errno.Errno.TheVariants.{Einval}
use Rattle.nm_types.specs.declared.sight.Sight.{Sight}
use Rattle.nm_types.specs.declared.sight.Sight.TheVariants.{ZeroPage, Sees}
use Rattle.nm_types.specs.Map.{Map, get, set, page_cmp}
use Rattle.nm_types.specs.State.{Process, State, PlacedArea, area_over, free_list}
use Rattle.nm_model.specs.definitions.Seen.{sight_at, sight_in}
use Rattle.nm_model.specs.definitions.Areas.{is_shared}
use Rattle.nm_model.specs.definitions.Order.{first_touch_order}
use Rattle.nm_model.specs.definitions.Touch.{AccessSite, shown_at, site_over, site_of, site, first_free, with_sight, with_page, without_front_frame, allocate_page, fill_page, share_page, touch_sight, touch_site, touch, Access, Read, Write}
use Rattle.nm_model.specs.definitions.Touch.{is_held, site_of_access}
use Rattle.nm_model.specs.definitions.BeforeCopy.{PendingAccess, BeforeCopy, held_before_copy, before_copy, read_before_copy, write_before_copy, access_before_copy, AllBeforeCopy, all_before_copy}
use Rattle.nm_laws.proofs.Seen.Sights.{IsSpot}

abbrev zeros : List ℕ
zeros = replicate 4096 0

-- places and bytes of pages that change
module _ (places : Map Page ℕ → Map Page ℕ) (bytes : Map Page (List ℕ) → Map Page (List ℕ)) where
  abbrev pub changed : State → State
  changed s = record s { place = places s.place; bytes = bytes s.bytes }

  abbrev pub both_changed : Result State Errno → Result State Errno
  both_changed (Err e) = Err e
  both_changed (Ok t) = Ok (changed t)

  -- the page that is shown is none of those that change
  pub record Spares (s : State) (at : AccessSite) : Type 0 where
    pub place : get page_cmp (places s.place) (shown_at at) ≡ get page_cmp s.place (shown_at at)
    pub placed : (f : ℕ) → set page_cmp (places s.place) (shown_at at) f ≡ places (set page_cmp s.place (shown_at at) f)
    -- where it gets a frame
    pub unplaced : get page_cmp s.place (shown_at at) ≡ None → set page_cmp (bytes s.bytes) (shown_at at) zeros ≡ bytes (set page_cmp s.bytes (shown_at at) zeros)
    pub zero : sight_at s at.pid at.vpn ≡ Some ZeroPage → set page_cmp (bytes s.bytes) (shown_at at) zeros ≡ bytes (set page_cmp s.bytes (shown_at at) zeros)
    pub absent : sight_at s at.pid at.vpn ≡ None → is_shared s.segments (shown_at at).segment ≡ false → set page_cmp (bytes s.bytes) (shown_at at) zeros ≡ bytes (set page_cmp s.bytes (shown_at at) zeros)

  module _ (s : State) (at : AccessSite) (k : Spares s at) where
    allocated_too : (o : Option ℕ) → set page_cmp (bytes s.bytes) (shown_at at) zeros ≡ bytes (set page_cmp s.bytes (shown_at at) zeros) → allocate_page (changed s) at o ≡ both_changed (allocate_page s at o)
    allocated_too None same = refl
    allocated_too (Some node) same =
        let front = slice_index (free_list s node) 0 in
        λ i. Ok (with_sight (record (with_page (without_front_frame s node) (shown_at at) front) { place = k.placed front i; bytes = same i }) at (Sees (shown_at at)))

    filled_too : set page_cmp (bytes s.bytes) (shown_at at) zeros ≡ bytes (set page_cmp s.bytes (shown_at at) zeros) → fill_page (changed s) at ≡ both_changed (fill_page s at)
    filled_too = allocated_too (first_free s.free (first_touch_order s.layout s.online at.process.home at.process.allowed at.area.1.policy (shown_at at).index))

    joined_too : (o : Option ℕ) → get page_cmp s.place (shown_at at) ≡ o → share_page (changed s) at o ≡ both_changed (share_page s at o)
    joined_too None e = filled_too (k.unplaced e)
    joined_too (Some f) e = refl

    entry_too : (writes : Bool) (o : Option Sight) → sight_at s at.pid at.vpn ≡ o → touch_sight (changed s) at writes o ≡ both_changed (touch_sight s at writes o)
    entry_too writes None e =
        elim (is_shared s.segments (shown_at at).segment) as (λ b. is_shared s.segments (shown_at at).segment ≡ b →
        (if b then share_page (changed s) at (get page_cmp (places s.place) (shown_at at)) else (if writes then fill_page (changed s) at else Ok (with_sight (changed s) at ZeroPage)))
        ≡ both_changed (if b then share_page s at (get page_cmp s.place (shown_at at)) else (if writes then fill_page s at else Ok (with_sight s at ZeroPage)))) [
          | true ↦ λ b. ap (share_page (changed s) at) k.place ∙ joined_too (get page_cmp s.place (shown_at at)) refl
          | false ↦ λ b. elim writes as (λ w. (if w then fill_page (changed s) at else Ok (with_sight (changed s) at ZeroPage)) ≡ both_changed (if w then fill_page s at else Ok (with_sight s at ZeroPage))) [
            | true ↦ filled_too (k.absent e b)
            | false ↦ refl
          ]
        ] refl
    entry_too writes (Some ZeroPage) e =
        elim writes as (λ w. (if w then fill_page (changed s) at else Ok (changed s)) ≡ both_changed (if w then fill_page s at else Ok s)) [ true ↦ filled_too (k.zero e) | false ↦ refl ]
    entry_too writes (Some (Sees p)) e = refl

  -- where a process and its area are found
  spot_same : (s : State) (pid address len : ℕ) (o : Option Process) → site_of (changed s) o pid address len ≡ site_of s o pid address len
  spot_same s pid address len None = refl
  spot_same s pid address len (Some process) = refl

  spot_too : (s : State) (a : Access) → site_of_access (changed s) a ≡ site_of_access s a
  spot_too s (Read pid address len) = spot_same s pid address len (get nat_cmp s.processes pid)
  spot_too s (Write pid address new) = spot_same s pid address (length new) (get nat_cmp s.processes pid)

  touched_too : (s : State) (writes : Bool) (r : Result AccessSite Errno) → ((at : AccessSite) → r ≡ Ok at → IsSpot s at × Spares s at) → touch_site (changed s) writes r ≡ both_changed (touch_site s writes r)
  touched_too s writes (Err e) k = refl
  touched_too s writes (Ok at) k =
      let there = k at refl in
      entry_too s at there.1 writes (get nat_cmp at.process.sees at.vpn) (ap (λ o. sight_in o at.vpn) there.0.process)

  touch_too : (s : State) (pid address len : ℕ) (writes : Bool) → ((at : AccessSite) → site s pid address len ≡ Ok at → IsSpot s at × Spares s at) → touch (changed s) pid address len writes ≡ both_changed (touch s pid address len writes)
  touch_too s pid address len writes k =
      ap (touch_site (changed s) writes) (spot_same s pid address len (get nat_cmp s.processes pid)) ∙ touched_too s writes (site s pid address len) k

  abbrev pub early_changed : BeforeCopy → BeforeCopy
  early_changed e = record e { state = changed e.state }

  read_too : (s : State) (pid address len : ℕ) (r : Result State Errno) → read_before_copy (changed s) pid address len (both_changed r) ≡ early_changed (read_before_copy s pid address len r)
  read_too s pid address len (Err e) = refl
  read_too s pid address len (Ok t) = refl

  write_too : (s : State) (pid address : ℕ) (new : List ℕ) (r : Result State Errno) → write_before_copy (changed s) pid address new (both_changed r) ≡ early_changed (write_before_copy s pid address new r)
  write_too s pid address new (Err e) = refl
  write_too s pid address new (Ok t) = refl

  access_too : (s : State) (a : Access) → ((at : AccessSite) → site_of_access s a ≡ Ok at → IsSpot s at × Spares s at) → access_before_copy (changed s) a ≡ early_changed (access_before_copy s a)
  access_too s (Read pid address len) k =
      ap (read_before_copy (changed s) pid address len) (touch_too s pid address len false k) ∙ read_too s pid address len (touch s pid address len false)
  access_too s (Write pid address new) k =
      ap (write_before_copy (changed s) pid address new) (touch_too s pid address (length new) true k) ∙ write_too s pid address new (touch s pid address (length new) true)

  -- an access that is held does nothing, and another does the same
  pub early_too : (s : State) (moved : List Page) (a : Access) → (is_held moved (site_of_access s a) ≡ false → (at : AccessSite) → site_of_access s a ≡ Ok at → IsSpot s at × Spares s at)
      → before_copy (changed s) moved a ≡ early_changed (before_copy s moved a)
  early_too s moved a k =
      ap (λ r. if is_held moved r then held_before_copy (changed s) else access_before_copy (changed s) a) (spot_too s a)
      ∙ elim (is_held moved (site_of_access s a)) as (λ b. is_held moved (site_of_access s a) ≡ b → (if b then held_before_copy (changed s) else access_before_copy (changed s) a) ≡ early_changed (if b then held_before_copy s else access_before_copy s a)) [
        | true ↦ λ b. refl
        | false ↦ λ b. access_too s a (k b)
      ] refl

  abbrev pub all_changed : AllBeforeCopy → AllBeforeCopy
  all_changed e = record e { state = changed e.state }

  abbrev due_first : PendingAccess → AllBeforeCopy → AllBeforeCopy
  due_first due rest = record { state = rest.state; all_due = due ∷ rest.all_due }

  abbrev then_all : List Page → List Access → BeforeCopy → AllBeforeCopy
  then_all moved accesses e = due_first e.due (all_before_copy e.state moved accesses)

  -- one access after another, if something that is preserved keeps the pages that change apart from those that are
  -- touched
  pub all_early_too : (Apart : State → Type 0) (moved : List Page)
      → ((s : State) (a : Access) → Apart s → is_held moved (site_of_access s a) ≡ false → (at : AccessSite) → site_of_access s a ≡ Ok at → IsSpot s at × Spares s at)
      → ((s : State) (a : Access) → Apart s → Apart (before_copy s moved a).state)
      → (accesses : List Access) (s : State) → Apart s → all_before_copy (changed s) moved accesses ≡ all_changed (all_before_copy s moved accesses)
  all_early_too Apart moved spares stays [] s h = refl
  all_early_too Apart moved spares stays (a ∷ accesses) s h =
      ap (then_all moved accesses) (early_too s moved a (spares s a h)) ∙ ap (due_first (before_copy s moved a).due) (all_early_too Apart moved spares stays accesses (before_copy s moved a).state (stays s a h))

-- the process and the area of a spot that is found are there
found_over : (s : State) (pid v : ℕ) (process : Process) (o : Option PlacedArea) (at : AccessSite) → get nat_cmp s.processes pid ≡ Some process → area_over s.areas pid v ≡ o → site_over pid process v o ≡ Ok at → IsSpot s at
found_over s pid v process None at p a e = cc
found_over s pid v process (Some area) at p a e =
    let site : AccessSite = record { pid = pid; process = process; area = area; vpn = v } in
    let same : site ≡ at = cc in
    subst (IsSpot s) same (record { process = p; area = a })

found_in : (s : State) (pid address len : ℕ) (o : Option Process) (at : AccessSite) → get nat_cmp s.processes pid ≡ o → site_of s o pid address len ≡ Ok at → IsSpot s at
found_in s pid address len None at p e = cc
found_in s pid address len (Some process) at p e =
    elim ((len == 0) || nat_lt 4096 (address % 4096 + len)) as (λ b. (if b then Err Einval else site_over pid process (address / 4096) (area_over s.areas pid (address / 4096))) ≡ Ok at → IsSpot s at) [
      | true ↦ λ e. cc
      | false ↦ λ e. found_over s pid (address / 4096) process (area_over s.areas pid (address / 4096)) at p refl e
    ] e

pub found : (s : State) (a : Access) (at : AccessSite) → site_of_access s a ≡ Ok at → IsSpot s at
found s (Read pid address len) at = found_in s pid address len (get nat_cmp s.processes pid) at refl
found s (Write pid address new) at = found_in s pid address (length new) (get nat_cmp s.processes pid) at refl
