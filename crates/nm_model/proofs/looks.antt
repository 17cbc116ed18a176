-- What a look at a page number finds, by the definitions.
use Rattle.std.proofs.Common.{List, ◌≡◌, ℕ, ℤ, refl, ap, ◌∙◌}
use Rattle.std.specs.Prelude.{Option, Some, None, Result, Ok, Err, IsSome, pos}
use Rattle.std.specs.Option.{unwrap_or, option_map}
use Rattle.nm_types.specs.declared.errno.Errno.{Errno}
use Rattle.nm_types.specs.declared.errno.Errno.TheVariants.{Enoent, Efault}
use Rattle.nm_types.specs.declared.page.Page.{Page}
use Rattle.nm_types.specs.declared.seen.Seen.{Seen}
use Rattle.nm_types.specs.declared.seen.Seen.TheVariants.{NoArea, Absent, Zero, At}
use Rattle.nm_types.specs.declared.sight.Sight.{Sight}
use Rattle.nm_types.specs.declared.sight.Sight.TheVariants.{ZeroPage, Sees}
use Rattle.nm_types.specs.Layout.{Layout, node_of}
use Rattle.nm_types.specs.Map.{get, page_cmp}
use Rattle.nm_types.specs.State.{State, page_at}
use Rattle.nm_types.proofs.Cases.{none_is_not}
use Rattle.nm_model.specs.definitions.Seen.{sight_at, page_or_error, page_seen, look, look_at_place, look_behind}
use Rattle.nm_model.specs.definitions.Sound.{IsSoundInFlight}
use Rattle.nm_model.specs.definitions.Status.{code, node_or_error, node_status}

-- the node of the page that a look shows, or why it shows none
abbrev pub node_of_look : Layout → Seen → ℤ
node_of_look g NoArea = code Efault
node_of_look g Absent = code Enoent
node_of_look g Zero = code Efault
node_of_look g (At p frame processes pinned) = pos (node_of g frame)

node_placed : (s : State) (p : Page) (o : Option ℕ) → node_of_look s.layout (look_at_place s.processes s.pins p o) ≡ unwrap_or (option_map (λ frame. pos (node_of s.layout frame)) o) (code Enoent)
node_placed s p None = refl
node_placed s p (Some frame) = refl

node_behind : (s : State) (shown : Option Page) (o : Option Sight) → node_of_look s.layout (look_behind s.processes s.place s.pins shown o) ≡ node_or_error s (page_or_error shown o)
node_behind s None o = refl
node_behind s (Some shown) None = refl
node_behind s (Some shown) (Some ZeroPage) = refl
node_behind s (Some shown) (Some (Sees p)) = node_placed s p (get page_cmp s.place p)

pub look_tells_node : (s : State) (pid v : ℕ) → node_of_look s.layout (look s pid v) ≡ node_status s pid v
look_tells_node s pid v = node_behind s (page_at s.areas pid v) (sight_at s pid v)

-- the page that a look shows, or why it shows none
abbrev pub page_of_look : Seen → Result Page Errno
page_of_look NoArea = Err Efault
page_of_look Absent = Err Enoent
page_of_look Zero = Err Efault
page_of_look (At p frame processes pinned) = Ok p

page_placed : (s : State) (p : Page) (o : Option ℕ) → IsSome o → page_of_look (look_at_place s.processes s.pins p o) ≡ Ok p
page_placed s p None h = absurd (none_is_not ℕ h)
page_placed s p (Some frame) h = refl

page_behind : (s : State) (shown : Option Page) (o : Option Sight) → ((p : Page) → o ≡ Some (Sees p) → IsSome (get page_cmp s.place p)) → page_of_look (look_behind s.processes s.place s.pins shown o) ≡ page_or_error shown o
page_behind s None o h = refl
page_behind s (Some shown) None h = refl
page_behind s (Some shown) (Some ZeroPage) h = refl
page_behind s (Some shown) (Some (Sees p)) h = page_placed s p (get page_cmp s.place p) (h p refl)

-- every page that is seen has a frame
pub look_tells_page : (s : State) (l : List ℕ) (pid v : ℕ) → IsSoundInFlight s l → page_of_look (look s pid v) ≡ page_seen s pid v
look_tells_page s l pid v h = page_behind s (page_at s.areas pid v) (sight_at s pid v) (λ p e. (h.shown pid v p e).1)

-- the page that a process sees at a page number
pub sees_page : (s : State) (l : List ℕ) (pid v : ℕ) (p : Page) → IsSoundInFlight s l → sight_at s pid v ≡ Some (Sees p) → page_seen s pid v ≡ Ok p
sees_page s l pid v p h seen =
    ap (λ o. page_or_error o (sight_at s pid v)) (h.shown pid v p seen).0 ∙ ap (page_or_error (Some p)) seen
