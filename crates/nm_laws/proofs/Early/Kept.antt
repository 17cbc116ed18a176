-- What a touch keeps of pages that have a frame, and what is seen after it.
use Rattle.std.proofs.Common.{◌≡◌, ℕ, ◌/◌, ◌%◌, ◌+◌, List, [], ◌∷◌, Bool, true, false, ◌||◌, cond, refl, sym, ap, subst, ◌∙◌, length}
use Rattle.std.specs.Prelude.{Option, Some, None, Result, Ok, Err, IsSome, replicate, slice_index, ◌==◌, nat_lt, if◌then◌else◌}
use Rattle.std.specs.Ordering.{nat_cmp, is_eq}
use Rattle.nm_types.specs.declared.page.Page.{Page}
use Rattle.nm_types.specs.declared.errno.Errno.{Errno}
use Rattle.nm_types.specs.declared.errno.Errno.TheVariants.{Einval}
use Rattle.nm_types.specs.declared.sight.Sight.{Sight}
use Rattle.nm_types.specs.declared.sight.Sight.TheVariants.{ZeroPage, Sees}
use Rattle.nm_types.specs.Map.{Map, get, set, page_cmp}
use Rattle.nm_types.specs.State.{Process, State, PlacedArea, area_over, free_list}
use Rattle.nm_types.proofs.Cases.{some_is}
use Rattle.nm_types.proofs.Maps.{page_cmp_total, exact_page, equal, get-set}
use Rattle.nm_model.specs.definitions.Seen.{sight_at, sight_in}
use Rattle.nm_model.specs.definitions.Areas.{is_shared}
use Rattle.nm_model.specs.definitions.Order.{first_touch_order}
use Rattle.nm_model.specs.definitions.Touch.{AccessSite, shown_at, site_over, site_of, first_free, with_sight, allocate_page, fill_page, share_page, touch_sight, touch_site, touch, Access, Read, Write}
use Rattle.nm_model.specs.definitions.Touch.{is_held, site_of_access}
use Rattle.nm_model.specs.definitions.Sound.{IsSoundInFlight}
use Rattle.nm_model.specs.definitions.BeforeCopy.{BeforeCopy, held_before_copy, before_copy, read_before_copy, write_before_copy, access_before_copy, all_before_copy}
use Rattle.nm_laws.proofs.Seen.Sights.{IsSpot, page_at_spot}
use Rattle.nm_laws.proofs.Seen.Ranges.{zero_has_none}
use Rattle.nm_laws.proofs.Soundness.Touched.{StaysSound, touch_sound, private_unplaced}

-- another page at a key leaves a page as it was
pub beside : {V : Type 0} (m : Map Page V) (p q : Page) (v : V) → (q ≡ p → ⊥) → get page_cmp (set page_cmp m p v) q ≡ get page_cmp m q
beside m p q v other =
    get-set page_cmp_total m p v q
    ∙ elim (is_eq (page_cmp q p)) as (λ b. is_eq (page_cmp q p) ≡ b → cond b (Some v) (get page_cmp m q) ≡ get page_cmp m q) [
      | true ↦ λ b. absurd (other (exact_page q p (equal _ b)))
      | false ↦ λ b. refl
    ] refl

-- if it is not refused, a page keeps its place and its bytes
unfoldable pub Keeps : State → Page → Result State Errno → Type 0
Keeps s q (Err e) = Unit {0}
Keeps s q (Ok t) = (get page_cmp t.place q ≡ get page_cmp s.place q) × (get page_cmp t.bytes q ≡ get page_cmp s.bytes q)

module _ (s : State) (q : Page) (placed : IsSome (get page_cmp s.place q)) (at : AccessSite) (i : IsSpot s at) where
  other : get page_cmp s.place (shown_at at) ≡ None → q ≡ shown_at at → ⊥
  other none e = some_is_none (subst (λ o. IsSome o) (ap (get page_cmp s.place) e ∙ none) placed)
    where
      some_is_none : IsSome {T = ℕ} None → ⊥
      some_is_none e = cc

  allocated_keeps : (o : Option ℕ) → get page_cmp s.place (shown_at at) ≡ None → Keeps s q (allocate_page s at o)
  unfolding Keeps
  allocated_keeps None none = tt
  allocated_keeps (Some node) none =
      (beside s.place (shown_at at) q (slice_index (free_list s node) 0) (other none), beside s.bytes (shown_at at) q (replicate 4096 0) (other none))

  filled_keeps : get page_cmp s.place (shown_at at) ≡ None → Keeps s q (fill_page s at)
  filled_keeps = allocated_keeps (first_free s.free (first_touch_order s.layout s.online at.process.home at.process.allowed at.area.1.policy (shown_at at).index))

  joined_keeps : (o : Option ℕ) → get page_cmp s.place (shown_at at) ≡ o → Keeps s q (share_page s at o)
  unfolding Keeps
  joined_keeps None e = filled_keeps e
  joined_keeps (Some f) e = (refl, refl)

  module _ (l : List ℕ) (h : IsSoundInFlight s l) where
    no_page : {p : Page} → None ≡ Some (Sees p) → ⊥
    no_page e = cc

    not_zero : {p : Page} → Some ZeroPage ≡ Some (Sees p) → ⊥
    not_zero e = cc

    entry_keeps : (writes : Bool) (o : Option Sight) → sight_at s at.pid at.vpn ≡ o → Keeps s q (touch_sight s at writes o)
    unfolding Keeps
    entry_keeps writes None e =
        elim (is_shared s.segments (shown_at at).segment) as (λ b. is_shared s.segments (shown_at at).segment ≡ b → Keeps s q (if b then share_page s at (get page_cmp s.place (shown_at at)) else (if writes then fill_page s at else Ok (with_sight s at ZeroPage)))) [
          | true ↦ λ b. joined_keeps (get page_cmp s.place (shown_at at)) refl
          | false ↦ λ b. elim writes as (λ w. Keeps s q (if w then fill_page s at else Ok (with_sight s at ZeroPage))) [
            | true ↦ filled_keeps (private_unplaced s l at h i (λ p k. no_page (sym e ∙ k)) b)
            | false ↦ (refl, refl)
          ]
        ] refl
    entry_keeps writes (Some ZeroPage) e =
        let none = zero_has_none s l at.pid at.vpn h e in
        let same : none.0 ≡ shown_at at = some_is (sym none.1 ∙ page_at_spot s at i) in
        elim writes as (λ w. Keeps s q (if w then fill_page s at else Ok s)) [
          | true ↦ filled_keeps (ap (get page_cmp s.place) (sym same) ∙ none.2)
          | false ↦ (refl, refl)
        ]
    entry_keeps writes (Some (Sees p)) e = (refl, refl)

module _ (s : State) (q : Page) (placed : IsSome (get page_cmp s.place q)) (l : List ℕ) (h : IsSoundInFlight s l) where
  over_keeps : (pid v : ℕ) (process : Process) (writes : Bool) (o : Option PlacedArea) → get nat_cmp s.processes pid ≡ Some process → area_over s.areas pid v ≡ o → Keeps s q (touch_site s writes (site_over pid process v o))
  unfolding Keeps
  over_keeps pid v process writes None p a = tt
  over_keeps pid v process writes (Some area) p a =
      let at : AccessSite = record { pid = pid; process = process; area = area; vpn = v } in
      let i : IsSpot s at = record { process = p; area = a } in
      entry_keeps s q placed at i l h writes (get nat_cmp process.sees v) (ap (λ o. sight_in o v) p)

  process_keeps : (pid address len : ℕ) (writes : Bool) (o : Option Process) → get nat_cmp s.processes pid ≡ o → Keeps s q (touch_site s writes (site_of s o pid address len))
  unfolding Keeps
  process_keeps pid address len writes None e = tt
  process_keeps pid address len writes (Some process) e =
      elim ((len == 0) || nat_lt 4096 (address % 4096 + len)) as (λ b. Keeps s q (touch_site s writes (if b then Err Einval else site_over pid process (address / 4096) (area_over s.areas pid (address / 4096))))) [
        | true ↦ tt
        | false ↦ over_keeps pid (address / 4096) process writes (area_over s.areas pid (address / 4096)) e refl
      ]

  pub touch_keeps : (pid address len : ℕ) (writes : Bool) → Keeps s q (touch s pid address len writes)
  touch_keeps pid address len writes = process_keeps pid address len writes (get nat_cmp s.processes pid) refl

-- a page that has a frame, on a sound state
pub record IsPlaced (q : Page) (o : Option ℕ) (b : Option (List ℕ)) (l : List ℕ) (s : State) : Type 0 where
  pub sound : IsSoundInFlight s l
  pub some : IsSome o
  pub place : get page_cmp s.place q ≡ o
  pub bytes : get page_cmp s.bytes q ≡ b

abbrev state_of : BeforeCopy → State
state_of e = e.state

module _ (q : Page) (o : Option ℕ) (b : Option (List ℕ)) (l : List ℕ) where
  is_there : (s : State) → IsPlaced q o b l s → IsSome (get page_cmp s.place q)
  is_there s h = subst (λ o. IsSome o) (sym h.place) h.some

  read_stays : (s : State) (pid address len : ℕ) (r : Result State Errno) → IsPlaced q o b l s → StaysSound s l r → Keeps s q r → IsPlaced q o b l (read_before_copy s pid address len r).state
  unfolding Keeps StaysSound
  read_stays s pid address len (Err e) h sound keeps = h
  read_stays s pid address len (Ok t) h sound keeps = record { sound = sound.0; some = h.some; place = keeps.0 ∙ h.place; bytes = keeps.1 ∙ h.bytes }

  write_stays : (s : State) (pid address : ℕ) (new : List ℕ) (r : Result State Errno) → IsPlaced q o b l s → StaysSound s l r → Keeps s q r → IsPlaced q o b l (write_before_copy s pid address new r).state
  unfolding Keeps StaysSound
  write_stays s pid address new (Err e) h sound keeps = h
  write_stays s pid address new (Ok t) h sound keeps = record { sound = sound.0; some = h.some; place = keeps.0 ∙ h.place; bytes = keeps.1 ∙ h.bytes }

  access_stays : (s : State) (a : Access) → IsPlaced q o b l s → IsPlaced q o b l (access_before_copy s a).state
  access_stays s (Read pid address len) h =
      read_stays s pid address len (touch s pid address len false) h (touch_sound s l pid address len false h.sound) (touch_keeps s q (is_there s h) l h.sound pid address len false)
  access_stays s (Write pid address new) h =
      write_stays s pid address new (touch s pid address (length new) true) h (touch_sound s l pid address (length new) true h.sound) (touch_keeps s q (is_there s h) l h.sound pid address (length new) true)

  pub early_stays : (moved : List Page) (s : State) (a : Access) → IsPlaced q o b l s → IsPlaced q o b l (before_copy s moved a).state
  early_stays moved s a h =
      elim (is_held moved (site_of_access s a)) as (λ held. IsPlaced q o b l (state_of (if held then held_before_copy s else access_before_copy s a))) [ true ↦ h | false ↦ access_stays s a h ]

  pub all_stay : (moved : List Page) (accesses : List Access) (s : State) → IsPlaced q o b l s → IsPlaced q o b l (all_before_copy s moved accesses).state
  all_stay moved [] s h = h
  all_stay moved (a ∷ accesses) s h = all_stay moved accesses (before_copy s moved a).state (early_stays moved s a h)
