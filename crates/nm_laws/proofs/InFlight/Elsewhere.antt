-- A page that is to move is not on the target.
use Rattle.std.proofs.Common.{◌≡◌, ℕ, Bool, true, false, not, ◌&&◌, refl}
use Rattle.std.specs.Prelude.{Option, Some, None, Result, Ok, Err, pos, ◌==◌, if◌then◌else◌}
use Rattle.nm_types.specs.declared.errno.Errno.{Errno}
use Rattle.nm_types.specs.declared.errno.Errno.TheVariants.{Eacces, Ebusy}
use Rattle.nm_types.specs.declared.page.Page.{Page}
use Rattle.nm_types.specs.Map.{get, page_cmp}
use Rattle.nm_types.specs.Layout.{node_of}
use Rattle.nm_types.specs.State.{State}
use Rattle.nm_types.specs.declared.request.Class.{Class}
use Rattle.nm_types.specs.declared.request.Class.TheVariants.{Status, Move}
use Rattle.nm_types.specs.declared.request.Wanted.{Wanted}
use Rattle.nm_types.specs.declared.request.Wanted.TheVariants.{At as Spot, Whole}
use Rattle.nm_model.specs.definitions.Seen.{is_pinned, page_seen}
use Rattle.nm_model.specs.definitions.Status.{code, others_see, page_status, seen_status, status_or_move}

abbrev pub IsElsewhere : State → ℕ → Class → Type 0
IsElsewhere s target (Status status) = Unit {0}
IsElsewhere s target (Move page from) = (node_of s.layout from == target) ≡ false

page_elsewhere : (s : State) (target : ℕ) (kept : Bool) (p : Page) (o : Option ℕ) → IsElsewhere s target (page_status s target kept p o)
page_elsewhere s target kept p None = tt
page_elsewhere s target kept p (Some frame) =
    elim (node_of s.layout frame == target) as (λ b. (node_of s.layout frame == target) ≡ b → IsElsewhere s target (if b then Status (pos target) else (if kept then Status (code Eacces) else (if is_pinned s p then Status (code Ebusy) else Move p frame)))) [
      | true ↦ λ e. tt
      | false ↦ λ e. elim kept as (λ b. IsElsewhere s target (if b then Status (code Eacces) else (if is_pinned s p then Status (code Ebusy) else Move p frame))) [
        | true ↦ tt
        | false ↦ elim (is_pinned s p) as (λ b. IsElsewhere s target (if b then Status (code Ebusy) else Move p frame)) [ true ↦ tt | false ↦ e ]
      ]
    ] refl

seen_elsewhere : (s : State) (target pid : ℕ) (all : Bool) (r : Result Page Errno) → IsElsewhere s target (seen_status s target pid all r)
seen_elsewhere s target pid all (Err e) = tt
seen_elsewhere s target pid all (Ok p) = page_elsewhere s target (others_see s pid p && not all) p (get page_cmp s.place p)

pub status_elsewhere : (s : State) (target : ℕ) (w : Wanted) → IsElsewhere s target (status_or_move s target w)
status_elsewhere s target (Spot pid v all) = seen_elsewhere s target pid all (page_seen s pid v)
status_elsewhere s target (Whole p) = page_elsewhere s target false p (get page_cmp s.place p)
