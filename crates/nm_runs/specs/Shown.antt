-- The class of a request, from a view of what it names.
use Rattle.std.specs.Prelude.{ℕ, pos, ◌<◌, ◌==◌, Bool, Option, Some, None, IfSome, if◌then◌else◌}
use Rattle.nm_types.specs.declared.page.Page.{Page}
use Rattle.nm_types.specs.declared.seen.Seen.{Seen}
use Rattle.nm_types.specs.declared.seen.Seen.TheVariants.{NoArea, Absent, Zero, At}
use Rattle.nm_types.specs.Layout.{Layout, frame_count, node_of}
use Rattle.nm_types.specs.declared.errno.Errno.TheVariants.{Ebusy, Enoent}
use Rattle.nm_types.specs.declared.request.Class.{Class}
use Rattle.nm_types.specs.declared.request.Class.TheVariants.{Status, Move}
use Rattle.nm_types.specs.declared.request.Wanted.{Wanted}
use Rattle.nm_types.specs.declared.request.Wanted.TheVariants.{At as Spot, Whole}
use Rattle.nm_model.specs.definitions.Status.{class_of_look, code}

-- where a frame is seen, its number is below this one
abbrev pub HasFrameBelow : ℕ → Seen → Type 0
HasFrameBelow frames NoArea = Unit {0}
HasFrameBelow frames Absent = Unit {0}
HasFrameBelow frames Zero = Unit {0}
HasFrameBelow frames (At page frame processes pinned) = frame < frames

-- the view shows frames of the machine only, at page numbers and for pages
pub record ShowsItsFrames (g : Layout) (seen_at : ℕ → ℕ → Seen) (placed_at : Page → Option (ℕ × Bool)) : Type 0 where
  pub seen : (pid v : ℕ) → HasFrameBelow (frame_count g) (seen_at pid v)
  pub placed : (p : Page) → IfSome (placed_at p) (λ place. place.0 < frame_count g)

-- the class of a request for a page, which moves whoever sees it, from its frame and whether it has a pin
abbrev pub class_of_place : Layout → ℕ → Page → Option (ℕ × Bool) → Class
class_of_place g target p None = Status (code Enoent)
class_of_place g target p (Some place) =
    if node_of g place.0 == target then Status (pos target)
    else (if place.1 then Status (code Ebusy) else Move p place.0)

-- the class of a request, where a view shows this at page numbers and for pages
abbrev pub class_shown : Layout → (ℕ → ℕ → Seen) → (Page → Option (ℕ × Bool)) → ℕ → Wanted → Class
class_shown g seen_at placed_at target (Spot pid v all) = class_of_look g target all (seen_at pid v)
class_shown g seen_at placed_at target (Whole p) = class_of_place g target p (placed_at p)
