-- What is left to do after all touches is done to pages that have a frame and do not move.
use Rattle.std.proofs.Common.{◌≡◌, ℕ, ◌/◌, ◌%◌, ◌+◌, ◌≤◌, ◌||◌, List, [], ◌∷◌, true, false, refl, sym, ap, subst, ◌∙◌, length}
use Rattle.std.specs.Prelude.{Option, Some, None, Result, Ok, Err, IsSome, ◌==◌, nat_lt, if◌then◌else◌}
use Rattle.std.specs.List.{AllByRecursion, list_any}
use Rattle.std.specs.Ordering.{nat_cmp}
use Rattle.nm_types.specs.declared.page.Page.{Page}
use Rattle.nm_types.specs.declared.errno.Errno.{Errno}
use Rattle.nm_types.specs.declared.errno.Errno.TheVariants.{Einval}
use Rattle.nm_types.specs.declared.sight.Sight.{Sight}
use Rattle.nm_types.specs.declared.sight.Sight.TheVariants.{ZeroPage, Sees}
use Rattle.nm_types.specs.Map.{get, page_cmp, same_page}
use Rattle.nm_types.specs.State.{Process, State, PlacedArea, area_over, page_at}
use Rattle.nm_types.proofs.Cases.{some_is}
use Rattle.nm_model.specs.definitions.Seen.{sight_at}
use Rattle.nm_model.specs.definitions.Touch.{AccessSite, shown_at, site_over, site_of, site, touch_site, touch, Access, Read, Write}
use Rattle.nm_model.specs.definitions.Touch.{is_held, site_of_access}
use Rattle.nm_model.specs.definitions.Sound.{IsSoundInFlight}
use Rattle.nm_model.specs.definitions.BeforeCopy.{PendingAccess, held_before_copy, Known, ToRead, ToWrite, BeforeCopy, pending_read, pending_write, read_before_copy, write_before_copy, access_before_copy, before_copy, all_before_copy, ConcernsPage, IsBeside, IsInside, IsPending}
use Rattle.nm_laws.proofs.Seen.Sights.{page_at_spot}
use Rattle.nm_laws.proofs.Soundness.Touched.{StaysSound, touch_sound, process_fits}
use Rattle.nm_laws.proofs.Early.Kept.{all_stay}
use Rattle.nm_laws.proofs.Early.Later.{early_ready}
use Rattle.nm_laws.proofs.Early.Seen.{Shows, touch_shows}

abbrev due_of : BeforeCopy → PendingAccess
due_of e = e.due

abbrev state_of : BeforeCopy → State
state_of e = e.state

-- its page is the one that is shown there
abbrev IsAt : Page → PendingAccess → Type 0
IsAt p (Known answer) = Unit {0}
IsAt p (ToRead page at len) = page ≡ p
IsAt p (ToWrite page at new) = page ≡ p

beside_at : (moved : List Page) (p : Page) (d : PendingAccess) → IsAt p d → list_any (same_page p) moved ≡ false → IsBeside moved d
beside_at moved p (Known answer) at free = tt
beside_at moved p (ToRead page i len) at free = ap (λ q. list_any (same_page q) moved) at ∙ free
beside_at moved p (ToWrite page i new) at free = ap (λ q. list_any (same_page q) moved) at ∙ free

module _ (s t : State) (l : List ℕ) (h : IsSoundInFlight t l) (pid v : ℕ) (p : Page) (same : t.areas ≡ s.areas) (at : page_at s.areas pid v ≡ Some p) where
  read_at : (i len : ℕ) (o : Option Sight) → sight_at t pid v ≡ o → IsAt p (pending_read o i len)
  read_at i len None e = tt
  read_at i len (Some ZeroPage) e = tt
  read_at i len (Some (Sees q)) e = some_is (sym (h.shown pid v q e).0 ∙ ap (λ areas. page_at areas pid v) same ∙ at)

  write_at : (i : ℕ) (new : List ℕ) (o : Option Sight) → sight_at t pid v ≡ o → IsAt p (pending_write o i new)
  write_at i new None e = tt
  write_at i new (Some ZeroPage) e = tt
  write_at i new (Some (Sees q)) e = some_is (sym (h.shown pid v q e).0 ∙ ap (λ areas. page_at areas pid v) same ∙ at)

read_is_at : (s : State) (l : List ℕ) (pid address len : ℕ) (p : Page) (r : Result State Errno) → StaysSound s l r → Shows s pid (address / 4096) r → page_at s.areas pid (address / 4096) ≡ Some p → IsAt p (read_before_copy s pid address len r).due
unfolding StaysSound Shows
read_is_at s l pid address len p (Err e) sound shows at = tt
read_is_at s l pid address len p (Ok t) sound shows at = read_at s t l sound.0 pid (address / 4096) p shows.1 at (address % 4096) len (sight_at t pid (address / 4096)) refl

write_is_at : (s : State) (l : List ℕ) (pid address : ℕ) (new : List ℕ) (p : Page) (r : Result State Errno) → StaysSound s l r → Shows s pid (address / 4096) r → page_at s.areas pid (address / 4096) ≡ Some p → IsAt p (write_before_copy s pid address new r).due
unfolding StaysSound Shows
write_is_at s l pid address new p (Err e) sound shows at = tt
write_is_at s l pid address new p (Ok t) sound shows at = write_at s t l sound.0 pid (address / 4096) p shows.1 at (address % 4096) new (sight_at t pid (address / 4096)) refl

-- the page that is shown where a spot is found
over_page : (s : State) (pid v : ℕ) (process : Process) (o : Option PlacedArea) (at : AccessSite) → get nat_cmp s.processes pid ≡ Some process → area_over s.areas pid v ≡ o → site_over pid process v o ≡ Ok at → page_at s.areas pid v ≡ Some (shown_at at)
over_page s pid v process None at p a e = cc
over_page s pid v process (Some area) at p a e =
    let there : AccessSite = record { pid = pid; process = process; area = area; vpn = v } in
    let same : there ≡ at = cc in
    page_at_spot s there (record { process = p; area = a }) ∙ ap (λ (x : AccessSite). Some (shown_at x)) same

pub process_page : (s : State) (pid address len : ℕ) (o : Option Process) (at : AccessSite) → get nat_cmp s.processes pid ≡ o → site_of s o pid address len ≡ Ok at → page_at s.areas pid (address / 4096) ≡ Some (shown_at at)
process_page s pid address len None at p e = cc
process_page s pid address len (Some process) at p e =
    elim ((len == 0) || nat_lt 4096 (address % 4096 + len)) as (λ b. (if b then Err Einval else site_over pid process (address / 4096) (area_over s.areas pid (address / 4096))) ≡ Ok at → page_at s.areas pid (address / 4096) ≡ Some (shown_at at)) [
      | true ↦ λ e. cc
      | false ↦ λ e. over_page s pid (address / 4096) process (area_over s.areas pid (address / 4096)) at p refl e
    ] e

module _ (s : State) (l : List ℕ) (moved : List Page) (h : IsSoundInFlight s l) where
  read_beside : (pid address len : ℕ) (r : Result AccessSite Errno) → site s pid address len ≡ r → is_held moved r ≡ false → IsBeside moved (access_before_copy s (Read pid address len)).due
  read_beside pid address len (Err e) is free = subst (λ r. IsBeside moved (read_before_copy s pid address len (touch_site s false r)).due) (sym is) tt
  read_beside pid address len (Ok at) is free =
      let page = process_page s pid address len (get nat_cmp s.processes pid) at refl is in
      beside_at moved (shown_at at) (access_before_copy s (Read pid address len)).due
      (read_is_at s l pid address len (shown_at at) (touch s pid address len false) (touch_sound s l pid address len false h) (touch_shows s pid address len false) page) free

  write_beside : (pid address : ℕ) (new : List ℕ) (r : Result AccessSite Errno) → site s pid address (length new) ≡ r → is_held moved r ≡ false → IsBeside moved (access_before_copy s (Write pid address new)).due
  write_beside pid address new (Err e) is free = subst (λ r. IsBeside moved (write_before_copy s pid address new (touch_site s true r)).due) (sym is) tt
  write_beside pid address new (Ok at) is free =
      let page = process_page s pid address (length new) (get nat_cmp s.processes pid) at refl is in
      beside_at moved (shown_at at) (access_before_copy s (Write pid address new)).due
      (write_is_at s l pid address new (shown_at at) (touch s pid address (length new) true) (touch_sound s l pid address (length new) true h) (touch_shows s pid address (length new) true) page) free

  access_beside : (a : Access) → is_held moved (site_of_access s a) ≡ false → IsBeside moved (access_before_copy s a).due
  access_beside (Read pid address len) free = read_beside pid address len (site s pid address len) refl free
  access_beside (Write pid address new) free = write_beside pid address new (site s pid address (length new)) refl free

  pub early_beside : (a : Access) → IsBeside moved (before_copy s moved a).due
  early_beside a =
      elim (is_held moved (site_of_access s a)) as (λ b. is_held moved (site_of_access s a) ≡ b → IsBeside moved (due_of (if b then held_before_copy s else access_before_copy s a))) [ true ↦ λ b. tt | false ↦ λ b. access_beside a b ] refl

-- ---- some bytes are inside a page

read_inside : (at len : ℕ) (o : Option Sight) → at + len ≤ 4096 → IsInside (pending_read o at len)
read_inside at len None fits = tt
read_inside at len (Some ZeroPage) fits = tt
read_inside at len (Some (Sees p)) fits = fits

write_inside : (at : ℕ) (new : List ℕ) (o : Option Sight) → at + length new ≤ 4096 → IsInside (pending_write o at new)
write_inside at new None fits = tt
write_inside at new (Some ZeroPage) fits = tt
write_inside at new (Some (Sees p)) fits = fits

read_fits : (s : State) (pid address len : ℕ) (r : Result State Errno) → ((t : State) → r ≡ Ok t → address % 4096 + len ≤ 4096) → IsInside (read_before_copy s pid address len r).due
read_fits s pid address len (Err e) fits = tt
read_fits s pid address len (Ok t) fits = read_inside (address % 4096) len (sight_at t pid (address / 4096)) (fits t refl)

write_fits : (s : State) (pid address : ℕ) (new : List ℕ) (r : Result State Errno) → ((t : State) → r ≡ Ok t → address % 4096 + length new ≤ 4096) → IsInside (write_before_copy s pid address new r).due
write_fits s pid address new (Err e) fits = tt
write_fits s pid address new (Ok t) fits = write_inside (address % 4096) new (sight_at t pid (address / 4096)) (fits t refl)

access_inside : (s : State) (a : Access) → IsInside (access_before_copy s a).due
access_inside s (Read pid address len) =
    read_fits s pid address len (touch s pid address len false) (λ t e. process_fits s pid address len false (get nat_cmp s.processes pid) t e)
access_inside s (Write pid address new) =
    write_fits s pid address new (touch s pid address (length new) true) (λ t e. process_fits s pid address (length new) true (get nat_cmp s.processes pid) t e)

early_inside : (s : State) (moved : List Page) (a : Access) → IsInside (before_copy s moved a).due
early_inside s moved a =
    elim (is_held moved (site_of_access s a)) as (λ b. IsInside (due_of (if b then held_before_copy s else access_before_copy s a))) [ true ↦ tt | false ↦ access_inside s a ]

-- what is left to do stays so while others are touched
pub touches_still : (s : State) (l : List ℕ) (moved : List Page) (accesses : List Access) (d : PendingAccess) → IsSoundInFlight s l → ConcernsPage s d → ConcernsPage (all_before_copy s moved accesses).state d
touches_still s l moved accesses (Known answer) h on = tt
touches_still s l moved accesses (ToRead page at len) h on =
    subst (λ o. IsSome o) (sym (all_stay page (get page_cmp s.place page) (get page_cmp s.bytes page) l moved accesses s (record { sound = h; some = on; place = refl; bytes = refl })).place) on
touches_still s l moved accesses (ToWrite page at new) h on =
    subst (λ o. IsSome o) (sym (all_stay page (get page_cmp s.place page) (get page_cmp s.bytes page) l moved accesses s (record { sound = h; some = on; place = refl; bytes = refl })).place) on

pub all_due : (l : List ℕ) (moved : List Page) (accesses : List Access) (s : State) → IsSoundInFlight s l → let e = all_before_copy s moved accesses in AllByRecursion (IsPending moved e.state) e.all_due × IsSoundInFlight e.state l
all_due l moved [] s h = (tt, h)
all_due l moved (a ∷ accesses) s h =
    let now = before_copy s moved a in
    let ready = early_ready s l moved a h in
    let rest = all_due l moved accesses now.state ready.sound in
    (((touches_still now.state l moved accesses now.due ready.sound ready.on, early_beside s l moved h a, early_inside s moved a), rest.0), rest.1)

-- the nodes stay
read_layout : (s : State) (pid address len : ℕ) (r : Result State Errno) → Shows s pid (address / 4096) r → (read_before_copy s pid address len r).state.layout ≡ s.layout
unfolding Shows
read_layout s pid address len (Err e) shows = refl
read_layout s pid address len (Ok t) shows = shows.2

write_layout : (s : State) (pid address : ℕ) (new : List ℕ) (r : Result State Errno) → Shows s pid (address / 4096) r → (write_before_copy s pid address new r).state.layout ≡ s.layout
unfolding Shows
write_layout s pid address new (Err e) shows = refl
write_layout s pid address new (Ok t) shows = shows.2

access_layout : (s : State) (a : Access) → (access_before_copy s a).state.layout ≡ s.layout
access_layout s (Read pid address len) = read_layout s pid address len (touch s pid address len false) (touch_shows s pid address len false)
access_layout s (Write pid address new) = write_layout s pid address new (touch s pid address (length new) true) (touch_shows s pid address (length new) true)

pub all_layout : (moved : List Page) (accesses : List Access) (s : State) → (all_before_copy s moved accesses).state.layout ≡ s.layout
all_layout moved [] s = refl
all_layout moved (a ∷ accesses) s =
    all_layout moved accesses (before_copy s moved a).state
    ∙ elim (is_held moved (site_of_access s a)) as (λ b. (state_of (if b then held_before_copy s else access_before_copy s a)).layout ≡ s.layout) [ true ↦ refl | false ↦ access_layout s a ]
