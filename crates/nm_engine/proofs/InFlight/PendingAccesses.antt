-- What is left to do for a read or a write, by what its touch found.
use Rattle.std.proofs.Common.{◌≡◌, ℕ, ◌/◌, ◌%◌, List, Bool, true, false, refl, sym, ap, subst, ◌∙◌, length}
use Rattle.std.specs.Prelude.{Option, Some, Result, Ok, Err, if◌then◌else◌}
use Rattle.std.specs.List.{list_any}
use Rattle.std.specs.Ordering.{nat_cmp}
use Rattle.nm_types.specs.declared.page.Page.{Page}
use Rattle.nm_types.specs.declared.errno.Errno.{Errno}
use Rattle.nm_types.specs.declared.machine_error.MachineError.{MachineError}
use Rattle.nm_types.specs.declared.machine_error.MachineError.TheVariants as error
use Rattle.nm_types.specs.declared.sight.Sight.TheVariants.{Sees}
use Rattle.nm_types.specs.Map.{get, same_page}
use Rattle.nm_types.specs.State.{State, page_at}
use Rattle.nm_types.proofs.Cases.{some_is}
use Rattle.nm_model.specs.definitions.Seen.{sight_at}
use Rattle.nm_model.specs.definitions.Touch.{AccessSite, shown_at, site, touch_site, touch_sight, touch, Read, Write, Refused}
use Rattle.nm_model.specs.definitions.Touch.{is_held}
use Rattle.nm_model.specs.definitions.Seen.{frame_seen}
use Rattle.nm_model.specs.definitions.Sound.{IsSoundInFlight}
use Rattle.nm_model.specs.definitions.BeforeCopy.{Known, ToRead, ToWrite, BeforeCopy, held_before_copy, pending_read, pending_write, read_before_copy, write_before_copy, before_copy}
use Rattle.nm_engine.specs.definitions.Does.{Touches}
use Rattle.nm_laws.proofs.Seen.Frames.{page_of_frame}
use Rattle.nm_laws.proofs.Early.Seen.{touch_areas}
use Rattle.nm_laws.proofs.Early.Later.{early_ready}
use Rattle.nm_laws.proofs.Early.Ready.{process_page}

module _ (s : State) (moved : List Page) where
  -- a read, by where it comes to
  abbrev read_by : ℕ → ℕ → ℕ → Result AccessSite Errno → BeforeCopy
  read_by pid address len r = if is_held moved r then held_before_copy s else read_before_copy s pid address len (touch_site s false r)

  pub read_refused : (pid address len : ℕ) (e : Errno) → site s pid address len ≡ Err e → before_copy s moved (Read pid address len) ≡ record { state = s; due = Known (Refused e) }
  read_refused pid address len e is = ap (read_by pid address len) is

  pub read_held : (pid address len : ℕ) (at : AccessSite) → site s pid address len ≡ Ok at → list_any (same_page (shown_at at)) moved ≡ true → before_copy s moved (Read pid address len) ≡ held_before_copy s
  read_held pid address len at is held = ap (read_by pid address len) is ∙ ap (λ b. if b then held_before_copy s else read_before_copy s pid address len (touch_site s false (Ok at))) held

  pub read_goes : (pid address len : ℕ) (at : AccessSite) (r : Result State Errno) → site s pid address len ≡ Ok at → list_any (same_page (shown_at at)) moved ≡ false
      → touch_sight s at false (get nat_cmp at.process.sees at.vpn) ≡ r → before_copy s moved (Read pid address len) ≡ read_before_copy s pid address len r
  read_goes pid address len at r is free touches =
      ap (read_by pid address len) is ∙ ap (λ b. if b then held_before_copy s else read_before_copy s pid address len (touch_site s false (Ok at))) free ∙ ap (read_before_copy s pid address len) touches

  -- a read whose touch is refused
  pub read_turned_down : (t : State) (pid address len : ℕ) (at : AccessSite) (r : MachineError) (e : Errno) → site s pid address len ≡ Ok at → list_any (same_page (shown_at at)) moved ≡ false → r ≡ error.Refused e
      → Touches {T = Option ℕ} (Err r) s t (touch_sight s at false (get nat_cmp at.process.sees at.vpn)) → (t ≡ s) × (before_copy s moved (Read pid address len) ≡ record { state = s; due = Known (Refused e) })
  read_turned_down t pid address len at r e is free told touches =
      let h = subst (λ z. Touches {T = Option ℕ} (Err z) s t (touch_sight s at false (get nat_cmp at.process.sees at.vpn))) told touches in
      (h.1, read_goes pid address len at (Err e) is free h.0)

  -- a write
  abbrev write_by : ℕ → ℕ → List ℕ → Result AccessSite Errno → BeforeCopy
  write_by pid address new r = if is_held moved r then held_before_copy s else write_before_copy s pid address new (touch_site s true r)

  pub write_goes : (pid address : ℕ) (new : List ℕ) (at : AccessSite) (r : Result State Errno) → site s pid address (length new) ≡ Ok at → list_any (same_page (shown_at at)) moved ≡ false
      → touch_sight s at true (get nat_cmp at.process.sees at.vpn) ≡ r → before_copy s moved (Write pid address new) ≡ write_before_copy s pid address new r
  write_goes pid address new at r is free touches =
      ap (write_by pid address new) is ∙ ap (λ b. if b then held_before_copy s else write_before_copy s pid address new (touch_site s true (Ok at))) free ∙ ap (write_before_copy s pid address new) touches

  pub write_refused : (pid address : ℕ) (new : List ℕ) (e : Errno) → site s pid address (length new) ≡ Err e → before_copy s moved (Write pid address new) ≡ record { state = s; due = Known (Refused e) }
  write_refused pid address new e is = ap (write_by pid address new) is

  pub write_held : (pid address : ℕ) (new : List ℕ) (at : AccessSite) → site s pid address (length new) ≡ Ok at → list_any (same_page (shown_at at)) moved ≡ true → before_copy s moved (Write pid address new) ≡ held_before_copy s
  write_held pid address new at is held = ap (write_by pid address new) is ∙ ap (λ b. if b then held_before_copy s else write_before_copy s pid address new (touch_site s true (Ok at))) held

  pub write_turned_down : (t : State) (pid address : ℕ) (new : List ℕ) (at : AccessSite) (r : MachineError) (e : Errno) → site s pid address (length new) ≡ Ok at → list_any (same_page (shown_at at)) moved ≡ false → r ≡ error.Refused e
      → Touches {T = Option ℕ} (Err r) s t (touch_sight s at true (get nat_cmp at.process.sees at.vpn)) → (t ≡ s) × (before_copy s moved (Write pid address new) ≡ record { state = s; due = Known (Refused e) })
  write_turned_down t pid address new at r e is free told touches =
      let h = subst (λ z. Touches {T = Option ℕ} (Err z) s t (touch_sight s at true (get nat_cmp at.process.sees at.vpn))) told touches in
      (h.1, write_goes pid address new at (Err e) is free h.0)

-- the page that is seen after a touch is the one that is shown
page_seen : (t : State) (l : List ℕ) (pid v f : ℕ) (p : Page) → IsSoundInFlight t l → page_at t.areas pid v ≡ Some p → frame_seen t pid v ≡ Some f → sight_at t pid v ≡ Some (Sees p)
page_seen t l pid v f p h at seen =
    let q = page_of_frame t.place (sight_at t pid v) f seen in
    let same : q.0 ≡ p = some_is (sym (h.shown pid v q.0 q.1).0 ∙ at) in
    q.1 ∙ ap (λ r. Some (Sees r)) same

module _ (s t : State) (l : List ℕ) (h : IsSoundInFlight t l) (pid address : ℕ) (at : AccessSite) (page : page_at s.areas pid (address / 4096) ≡ Some (shown_at at)) where
  shown_then : (len : ℕ) (writes : Bool) → site s pid address len ≡ Ok at → touch s pid address len writes ≡ Ok t → page_at t.areas pid (address / 4096) ≡ Some (shown_at at)
  shown_then len writes is touches =
      ap (λ areas. page_at areas pid (address / 4096)) (touch_areas s t pid address len writes touches) ∙ page

  touches_so : (len : ℕ) (writes : Bool) → site s pid address len ≡ Ok at → touch_sight s at writes (get nat_cmp at.process.sees at.vpn) ≡ Ok t → touch s pid address len writes ≡ Ok t
  touches_so len writes is touches = ap (touch_site s writes) is ∙ touches

  pub read_frame : (len f : ℕ) → site s pid address len ≡ Ok at → touch_sight s at false (get nat_cmp at.process.sees at.vpn) ≡ Ok t → frame_seen t pid (address / 4096) ≡ Some f
      → (read_before_copy s pid address len (Ok t)).due ≡ ToRead (shown_at at) (address % 4096) len
  read_frame len f is touches seen =
      ap (λ o. pending_read o (address % 4096) len) (page_seen t l pid (address / 4096) f (shown_at at) h (shown_then len false is (touches_so len false is touches)) seen)

  pub write_frame : (new : List ℕ) (f : ℕ) → site s pid address (length new) ≡ Ok at → touch_sight s at true (get nat_cmp at.process.sees at.vpn) ≡ Ok t → frame_seen t pid (address / 4096) ≡ Some f
      → (write_before_copy s pid address new (Ok t)).due ≡ ToWrite (shown_at at) (address % 4096) new
  write_frame new f is touches seen =
      ap (λ o. pending_write o (address % 4096) new) (page_seen t l pid (address / 4096) f (shown_at at) h (shown_then (length new) true is (touches_so (length new) true is touches)) seen)

-- what is left to do after a touch that gave a frame
module _ (s t : State) (l : List ℕ) (moved : List Page) (pid address f : ℕ) (at : AccessSite) (h : IsSoundInFlight s l) (free : list_any (same_page (shown_at at)) moved ≡ false) (seen : frame_seen t pid (address / 4096) ≡ Some f) where
  pub read_due : (len : ℕ) → site s pid address len ≡ Ok at → touch_sight s at false (get nat_cmp at.process.sees at.vpn) ≡ Ok t → (before_copy s moved (Read pid address len)).due ≡ ToRead (shown_at at) (address % 4096) len
  read_due len is touches =
      let goes = read_goes s moved pid address len at (Ok t) is free touches in
      let sound = subst (λ (e : BeforeCopy). IsSoundInFlight e.state l) goes (early_ready s l moved (Read pid address len) h).sound in
      ap (λ (e : BeforeCopy). e.due) goes ∙ read_frame s t l sound pid address at (process_page s pid address len (get nat_cmp s.processes pid) at refl is) len f is touches seen

  pub write_due : (new : List ℕ) → site s pid address (length new) ≡ Ok at → touch_sight s at true (get nat_cmp at.process.sees at.vpn) ≡ Ok t → (before_copy s moved (Write pid address new)).due ≡ ToWrite (shown_at at) (address % 4096) new
  write_due new is touches =
      let goes = write_goes s moved pid address new at (Ok t) is free touches in
      let sound = subst (λ (e : BeforeCopy). IsSoundInFlight e.state l) goes (early_ready s l moved (Write pid address new) h).sound in
      ap (λ (e : BeforeCopy). e.due) goes ∙ write_frame s t l sound pid address at (process_page s pid address (length new) (get nat_cmp s.processes pid) at refl is) new f is touches seen
