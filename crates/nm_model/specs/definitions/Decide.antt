-- Deciding a run, from the classes of its requests and the free frames of its target.
use Rattle.std.specs.Prelude.{ℕ, ℤ, pos, Bool, false, List, [], ◌∷◌, ◌++◌, map, Option, position, if◌then◌else◌}
use Rattle.std.specs.List.{list_any, zip}
use Rattle.std.specs.Ordering.{int_eq}
use Rattle.nm_types.specs.declared.errno.Errno.TheVariants.{Enomem}
use Rattle.nm_types.specs.declared.page.Page.{Page}
use Rattle.nm_types.specs.Map.{same_page}
use Rattle.nm_types.specs.declared.request.Class.{Class}
use Rattle.nm_types.specs.declared.request.Class.TheVariants.{Status, Move}
use Rattle.nm_model.specs.definitions.Status.{code}
use Rattle.nm_types.specs.declared.page_move.PageMove.{PageMove}

-- the decision on one request, and the free frames left for the next
pub record Choice : Type 0 where
  pub status : ℤ
  pub taken : List PageMove
  pub front : List ℕ

-- the decisions on the requests of a run
pub record Decisions : Type 0 where
  pub statuses : List ℤ
  pub taken : List PageMove

-- whether one of these moves is the page's
abbrev pub has_moved : List PageMove → Page → Bool
has_moved taken page = list_any (λ t. same_page page t.page) taken

-- a page that has not moved yet takes the front frame
abbrev pub take_front : Page → ℕ → List ℕ → ℕ → Choice
take_front page from [] target = record { status = code Enomem; taken = []; front = [] }
take_front page from (frame ∷ front) target =
    record { status = pos target; taken = record { page = page; from = from; to = frame } ∷ []; front = front }

-- the decision on a request, after these moves
abbrev pub choose : Class → List PageMove → List ℕ → ℕ → Choice
choose (Status status) moved front target = record { status = status; taken = []; front = front }
choose (Move page from) moved front target =
    if has_moved moved page then record { status = pos target; taken = []; front = front }
    else take_front page from front target

-- the decisions, one request after another, since each leaves less for the next
abbrev pub decide : List Class → List PageMove → List ℕ → ℕ → Decisions
decide [] moved front target = record { statuses = []; taken = [] }
decide (class ∷ classes) moved front target =
    let now = choose class moved front target in
    let rest = decide classes (moved ++ now.taken) now.front target in
    record { statuses = now.status ∷ rest.statuses; taken = now.taken ++ rest.taken }

-- which frame's page goes to which frame, in order
abbrev pub moves : Decisions → List (ℕ × ℕ)
moves d = map (λ t. (t.from, t.to)) d.taken

-- whether a page was to move and found no free frame
abbrev pub is_short : Class × ℤ → Bool
is_short (Status other, status) = false
is_short (Move page from, status) = int_eq status (code Enomem)

-- the index of the first request whose page found no free frame
abbrev pub shortage : List Class → Decisions → Option ℕ
shortage classes d = position is_short (zip classes d.statuses)

-- a plan: the decisions on the requests, and the index of the first one whose page found no free frame
pub record RunPlan : Type 0 where
  pub statuses : List ℤ
  pub taken : List PageMove
  pub shortage : Option ℕ

-- the plan of a run with these classes
abbrev pub plan_run : List Class → List ℕ → ℕ → RunPlan
plan_run classes front target =
    let d = decide classes [] front target in
    record { statuses = d.statuses; taken = d.taken; shortage = shortage classes d }
