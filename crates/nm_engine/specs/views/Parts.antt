-- Address spaces and frames, each by itself, also while a run has frames.
use Rattle.std.specs.Prelude.{◌≡◌, ℕ, Bool, List, Option, Some, Result}
use Rattle.std.specs.Ordering.{nat_cmp}
use Rattle.std.specs.Result.{result_err}
use Rattle.nm_types.specs.Map.{Map, get, page_cmp}
use Rattle.nm_types.specs.declared.errno.Errno.{Errno}
use Rattle.nm_types.specs.declared.machine_error.MachineError.{MachineError}
use Rattle.nm_types.specs.declared.sight.Sight.{Sight}
use Rattle.nm_types.specs.declared.area.Area.{Area}
use Rattle.nm_types.specs.State.{Process, PlacedArea, State, area_over, page_of}
use Rattle.nm_engine.specs.declared.resolved_address.ResolvedAddress.{ResolvedAddress}
use Rattle.nm_model.specs.definitions.Effect.{info_of}
use Rattle.nm_model.specs.definitions.Seen.{sight_in}
use Rattle.nm_model.specs.definitions.Touch.{AccessSite, site, touch_sight}
use Rattle.nm_spaces.specs.views.AddressSpaces.{AddressSpacesView}
use Rattle.nm_pool.specs.views.Frames.{FramesView}
use Rattle.nm_engine.specs.declared.prepared_run.undo.Undo.{Undo}
use Rattle.nm_engine.specs.definitions.Does.{AsksLast, Touches}
use Rattle.nm_engine.specs.definitions.Undo.{undo_of}
use Rattle.nm_engine.specs.views.RunState.{IsSoundMachine}
use Rattle.nm_engine.specs.views.Shown.{shown_by}

-- the place of a touch by this process in this area
abbrev pub access_site : ResolvedAddress → Process → PlacedArea → AccessSite
access_site t process area = record { pid = t.pid; process = process; area = area; vpn = t.vpn }

-- the process exists, and so does the area, which shows the page
pub record IsSiteOf (processes : Map ℕ Process) (areas : Map (ℕ × ℕ) Area) (t : ResolvedAddress) (process : Process)
    (area : PlacedArea) : Type 0 where
  pub known : get nat_cmp processes t.pid ≡ Some process
  pub info : info_of process ≡ t.info
  pub over : area_over areas t.pid t.vpn ≡ Some area
  pub policy : area.1.policy ≡ t.policy
  pub page : page_of area t.vpn ≡ t.page

-- together they are sound but for the frames that a run has, whatever has been counted
abbrev pub AreKept : AddressSpacesView → FramesView → List ℕ → Type 0
AreKept y k online = (moved failed : ℕ) → IsSoundMachine (shown_by y k online moved failed) k.vacated y.frames

-- the address is that of an area of a process
abbrev pub HasSite : Map ℕ Process → Map (ℕ × ℕ) Area → ResolvedAddress → Type 0
HasSite processes areas t = (p : Process) × (a : PlacedArea) × IsSiteOf processes areas t p a

-- where an access finds its bytes, or why it does not, in each state with these processes and areas
abbrev pub SiteIs : AddressSpacesView → ℕ → ℕ → ℕ → Result AccessSite Errno → Type 0
SiteIs y pid addr len found = (s : State) → s.processes ≡ y.processes → s.areas ≡ y.areas → site s pid addr len ≡ found

-- what the process sees there
abbrev pub seen_by : AddressSpacesView → ResolvedAddress → Option Sight
seen_by y t = sight_in (get nat_cmp y.processes t.pid) t.vpn

-- what a touch there makes of a state, by a process, in an area
abbrev pub Effect : Type 0
Effect = State → Process → AccessSite → Result State Errno

-- the touch of a read or of a write
abbrev pub touched_by : ResolvedAddress → Bool → Effect
touched_by t writes s p at = touch_sight s at writes (get nat_cmp p.sees t.vpn)

-- how to undo the touch that found these address spaces, and returned this frame
abbrev pub noted_by : ResolvedAddress → AddressSpacesView → Option ℕ → Option Undo
noted_by t y frame = undo_of t.pid t.vpn t.page (seen_by y t) (get page_cmp y.place t.page) frame

module _ {T : Type 0} where
  -- whatever has been counted, a touch has this effect on address spaces and frames
  abbrev pub TouchesBoth : Result T MachineError → ResolvedAddress → AddressSpacesView → FramesView → AddressSpacesView → FramesView
      → List ℕ → Effect → Type 0
  TouchesBoth result t y k z w online effect =
      (moved failed : ℕ) (p : Process) (a : PlacedArea) → IsSiteOf y.processes y.areas t p a →
      let s = shown_by y k online moved failed in
      Touches result s (shown_by z w online moved failed) (effect s p (access_site t p a))

  -- whatever has been counted, a touch of this effect allocates only if it is not refused
  abbrev pub TouchesLast : Result T MachineError → ResolvedAddress → AddressSpacesView → FramesView → List ℕ → Effect → Type 0
  TouchesLast result t y k online effect =
      (moved failed : ℕ) (p : Process) (a : PlacedArea) → IsSiteOf y.processes y.areas t p a →
      AsksLast result (result_err (effect (shown_by y k online moved failed) p (access_site t p a)))
