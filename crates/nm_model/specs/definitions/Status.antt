-- The status of a request, and of a look at a page.
use Rattle.std.specs.Prelude.{ℕ, ◌-◌, ℤ, pos, negsuc, Bool, true, false, not, ◌&&◌, nat_lt, ◌==◌, Option, Some, None, Result, Ok, Err, if◌then◌else◌}
use Rattle.std.specs.Option.{unwrap_or, option_map}
use Rattle.std.specs.List.{list_any}
use Rattle.nm_types.specs.declared.page.Page.{Page}
use Rattle.nm_types.specs.declared.seen.Seen.{Seen}
use Rattle.nm_types.specs.declared.seen.Seen.TheVariants.{NoArea, Absent, Zero, At}
use Rattle.nm_types.specs.declared.errno.Errno.{Errno}
use Rattle.nm_types.specs.declared.errno.Errno.TheVariants.{Enoent, Eacces, Efault, Ebusy}
use Rattle.nm_types.specs.Names.{number_of}
use Rattle.nm_types.specs.Map.{page_cmp, get}
use Rattle.nm_types.specs.Layout.{Layout, node_of}
use Rattle.nm_types.specs.State.{State}
use Rattle.nm_types.specs.declared.request.Class.{Class}
use Rattle.nm_types.specs.declared.request.Class.TheVariants.{Status, Move}
use Rattle.nm_types.specs.declared.request.Wanted.{Wanted}
use Rattle.nm_types.specs.declared.request.Wanted.TheVariants.{At as Spot, Whole}
use Rattle.nm_model.specs.definitions.Seen.{users, is_pinned, page_seen, look_at_page, look}

-- the status of a page that does not move because of an error: the error's number with a minus sign
abbrev pub code : Errno → ℤ
code e = negsuc (number_of e - 1)

-- whether a process other than this one sees the page
abbrev pub others_see : State → ℕ → Page → Bool
others_see s pid p = list_any (λ user. not (user == pid)) (users s.processes p)

-- a page with this frame: it is on the target, may not move because of other processes (`kept`) or a pin, or is to move
abbrev pub page_status : State → ℕ → Bool → Page → Option ℕ → Class
page_status s target kept p None = Status (code Enoent)
page_status s target kept p (Some frame) =
    if node_of s.layout frame == target then Status (pos target)
    else (if kept then Status (code Eacces) else (if is_pinned s p then Status (code Ebusy) else Move p frame))

-- what is seen: no page, and why not, or a page, which stays if other processes see it too, unless `all` is set
abbrev pub seen_status : State → ℕ → ℕ → Bool → Result Page Errno → Class
seen_status s target pid all (Err e) = Status (code e)
seen_status s target pid all (Ok p) = page_status s target (others_see s pid p && not all) p (get page_cmp s.place p)

-- the first case that holds of a request: its status, or the page that is to move
abbrev pub status_or_move : State → ℕ → Wanted → Class
status_or_move s target (Spot pid v all) = seen_status s target pid all (page_seen s pid v)
status_or_move s target (Whole p) = page_status s target false p (get page_cmp s.place p)

-- the same, from a look that counts the processes that see the page
abbrev pub class_of_look : Layout → ℕ → Bool → Seen → Class
class_of_look g target all NoArea = Status (code Efault)
class_of_look g target all Absent = Status (code Enoent)
class_of_look g target all Zero = Status (code Efault)
class_of_look g target all (At p frame processes pinned) =
    if node_of g frame == target then Status (pos target)
    else (if nat_lt 1 processes && not all then Status (code Eacces)
    else (if pinned then Status (code Ebusy) else Move p frame))

-- the class of a request, from a look at what it names
abbrev pub class_of : State → ℕ → Wanted → Class
class_of s target (Spot pid v all) = class_of_look s.layout target all (look s pid v)
class_of s target (Whole p) = class_of_look s.layout target true (look_at_page s p (get page_cmp s.place p))

-- the node of a page that is seen, or why none is
abbrev pub node_or_error : State → Result Page Errno → ℤ
node_or_error s (Err e) = code e
node_or_error s (Ok p) =
    unwrap_or (option_map (λ frame. pos (node_of s.layout frame)) (get page_cmp s.place p)) (code Enoent)

-- the status of a page number of a process if no target is named
abbrev pub node_status : State → ℕ → ℕ → ℤ
node_status s pid v = node_or_error s (page_seen s pid v)
