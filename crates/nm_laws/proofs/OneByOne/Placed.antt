-- A page that is to move has a place, which is the frame that it leaves.
use Rattle.std.proofs.Common.{◌≡◌, ◌≢◌, ℕ, Bool, true, false, not, ◌&&◌, refl, sym, ◌∙◌, eq-eqb}
use Rattle.std.proofs.lemmas.Bool.{false≢true}
use Rattle.std.specs.Prelude.{Option, Some, None, Result, Ok, Err, pos, ◌==◌, if◌then◌else◌}
use Rattle.nm_types.specs.declared.errno.Errno.{Errno}
use Rattle.nm_types.specs.declared.errno.Errno.TheVariants.{Eacces, Ebusy}
use Rattle.nm_types.specs.declared.page.Page.{Page}
use Rattle.nm_types.specs.Map.{get, page_cmp}
use Rattle.nm_types.specs.Layout.{node_of}
use Rattle.nm_types.specs.State.{State}
use Rattle.nm_types.specs.declared.request.Class.{Class}
use Rattle.nm_types.specs.declared.request.Class.TheVariants.{Status, Move}
use Rattle.nm_types.specs.declared.request.Wanted.{Wanted}
use Rattle.nm_types.specs.declared.request.Wanted.TheVariants.{At as Spot, Whole}
use Rattle.nm_model.specs.definitions.Seen.{is_pinned, page_seen}
use Rattle.nm_model.specs.definitions.Status.{code, others_see, page_status, seen_status, status_or_move}
use Rattle.nm_laws.proofs.InFlight.Elsewhere.{IsElsewhere, status_elsewhere}

abbrev pub ClassIsPlaced : State → Class → Type 0
ClassIsPlaced s (Status status) = Unit {0}
ClassIsPlaced s (Move page from) = get page_cmp s.place page ≡ Some from

page_placed : (s : State) (target : ℕ) (kept : Bool) (p : Page) (o : Option ℕ) → get page_cmp s.place p ≡ o → ClassIsPlaced s (page_status s target kept p o)
page_placed s target kept p None h = tt
page_placed s target kept p (Some frame) h =
    elim (node_of s.layout frame == target) as (λ b. ClassIsPlaced s (if b then Status (pos target) else (if kept then Status (code Eacces) else (if is_pinned s p then Status (code Ebusy) else Move p frame)))) [
      | true ↦ tt
      | false ↦ elim kept as (λ b. ClassIsPlaced s (if b then Status (code Eacces) else (if is_pinned s p then Status (code Ebusy) else Move p frame))) [
        | true ↦ tt
        | false ↦ elim (is_pinned s p) as (λ b. ClassIsPlaced s (if b then Status (code Ebusy) else Move p frame)) [ true ↦ tt | false ↦ h ]
      ]
    ]

seen_placed : (s : State) (target pid : ℕ) (all : Bool) (r : Result Page Errno) → ClassIsPlaced s (seen_status s target pid all r)
seen_placed s target pid all (Err e) = tt
seen_placed s target pid all (Ok p) = page_placed s target (others_see s pid p && not all) p (get page_cmp s.place p) refl

pub status_placed : (s : State) (target : ℕ) (w : Wanted) → ClassIsPlaced s (status_or_move s target w)
status_placed s target (Spot pid v all) = seen_placed s target pid all (page_seen s pid v)
status_placed s target (Whole p) = page_placed s target false p (get page_cmp s.place p) refl

-- and that frame is not on the target
abbrev pub ClassIsAway : State → ℕ → Class → Type 0
ClassIsAway s target (Status status) = Unit {0}
ClassIsAway s target (Move page from) = node_of s.layout from ≢ target

class_away : (s : State) (target : ℕ) (c : Class) → IsElsewhere s target c → ClassIsAway s target c
class_away s target (Status status) h = tt
class_away s target (Move page from) h = λ e. false≢true (sym h ∙ eq-eqb _ _ e)

pub status_away : (s : State) (target : ℕ) (w : Wanted) → ClassIsAway s target (status_or_move s target w)
status_away s target w = class_away s target (status_or_move s target w) (status_elsewhere s target w)
