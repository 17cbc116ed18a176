-- Passes over nodes that have no free frame.
use Rattle.std.proofs.Common.{arith, ⊎_elim, ◌≡◌, ℕ, zero, suc, ℤ, ◌+◌, ◌*◌, ◌<◌, ◌≤◌, Bool, true, false, not, ◌&&◌, ◌||◌, cond, List, [], ◌∷◌, ◌++◌, length, map, drop, refl, sym, ap, subst, ◌∙◌, length-append, length-drop, suc-mul, mul-le-mul_right}
use Rattle.std.proofs.lemmas.List.{length-map, append-nil, map-append, get_or-set_other, drop_all}
use Rattle.std.proofs.lemmas.Bool.{eq-eqb, cases_lt}
use Rattle.std.proofs.lemmas.Grind.{div_ceil_times}
use Rattle.std.specs.Prelude.{Option, Some, None, Result, Ok, Err, pos, ◌==◌, if◌then◌else◌}
use Rattle.std.specs.List.{AllByRecursion, filter, flat_map, fold, zip}
use Rattle.std.specs.Ordering.{int_eq}
use Rattle.nm_types.specs.declared.errno.Errno.{Errno}
use Rattle.nm_types.specs.declared.errno.Errno.TheVariants.{Eacces, Ebusy, Enomem}
use Rattle.nm_types.specs.declared.page.Page.{Page}
use Rattle.nm_types.specs.declared.sight.Sight.{Sight}
use Rattle.nm_types.specs.declared.sight.Sight.TheVariants.{ZeroPage, Sees}
use Rattle.nm_types.specs.Map.{get, page_cmp}
use Rattle.nm_types.specs.Layout.{node_of}
use Rattle.nm_types.specs.State.{State, page_at, free_list}
use Rattle.nm_types.proofs.Cases.{true_false}
use Rattle.nm_types.specs.declared.request.Class.{Class}
use Rattle.nm_types.specs.declared.request.Class.TheVariants.{Status, Move}
use Rattle.nm_types.specs.declared.request.Wanted.{Wanted}
use Rattle.nm_types.specs.declared.request.Wanted.TheVariants.{At as Spot, Whole}
use Rattle.nm_model.specs.definitions.Seen.{sight_at, is_pinned, page_or_error, page_seen}
use Rattle.nm_model.specs.definitions.Status.{code, others_see, page_status, seen_status, status_or_move}
use Rattle.nm_model.specs.definitions.Cut.{Stretch, in_front, cut, all_to}
use Rattle.nm_model.specs.definitions.Cut.{pieces_in, pieces, pieces_within, cut_within}
use Rattle.nm_model.specs.definitions.Run.{Decision, moved_page, decision, one_request, Progress, each_request, with_free, with_all_free, frames_left, failures, total_after, with_counts, RunResult, run}
use Rattle.nm_model.specs.definitions.Run.{runs_from}
use Rattle.nm_laws.proofs.InFlight.Elsewhere.{IsElsewhere, status_elsewhere}
use Rattle.nm_passes.specs.definitions.Passes.{short_of_frames}
use Rattle.nm_passes.specs.laws.Full.{StandsOn, WouldMove, pass, rounded_up, FullNodeTakesNone, LeftWouldMove, MovesElsewhere, RunsGoByLength, NextPassTakesNone}
use Rattle.nm_passes.proofs.Batches.StatusCounts.{each_layout, run_length}
use Rattle.nm_runs.proofs.Pieces.{pieces_joined}

-- the status of a page that does not move is not that of one without a frame
abbrev IsOther : Class → Type 0
IsOther (Status status) = int_eq status (code Enomem) ≡ false
IsOther (Move page from) = Unit {0}

page_other : (s : State) (target : ℕ) (kept : Bool) (p : Page) (o : Option ℕ) → IsOther (page_status s target kept p o)
page_other s target kept p None = refl
page_other s target kept p (Some frame) =
    elim (node_of s.layout frame == target) as (λ b. IsOther (if b then Status (pos target) else (if kept then Status (code Eacces) else (if is_pinned s p then Status (code Ebusy) else Move p frame)))) [
      | true ↦ refl
      | false ↦ elim kept as (λ b. IsOther (if b then Status (code Eacces) else (if is_pinned s p then Status (code Ebusy) else Move p frame))) [
        | true ↦ refl
        | false ↦ elim (is_pinned s p) as (λ b. IsOther (if b then Status (code Ebusy) else Move p frame)) [ true ↦ refl | false ↦ tt ]
      ]
    ]

seen_other : (s : State) (target pid : ℕ) (all : Bool) (p : Option Page) (o : Option Sight) → IsOther (seen_status s target pid all (page_or_error p o))
seen_other s target pid all None o = refl
seen_other s target pid all (Some shown) None = refl
seen_other s target pid all (Some shown) (Some ZeroPage) = refl
seen_other s target pid all (Some shown) (Some (Sees p)) = page_other s target (others_see s pid p && not all) p (get page_cmp s.place p)

status_other : (s : State) (target : ℕ) (w : Wanted) → IsOther (status_or_move s target w)
status_other s target (Spot pid v all) = seen_other s target pid all (page_at s.areas pid v) (sight_at s pid v)
status_other s target (Whole p) = page_other s target false p (get page_cmp s.place p)

-- what a request asks for depends neither on the free frames nor on the totals
class_free : (s : State) (frame target : ℕ) (w : Wanted) → status_or_move (with_free s frame) target w ≡ status_or_move s target w
class_free s frame target (Spot pid v all) = refl
class_free s frame target (Whole p) = refl

class_freed : (s : State) (frames : List ℕ) (target : ℕ) (w : Wanted) → status_or_move (with_all_free s frames) target w ≡ status_or_move s target w
class_freed s [] target w = refl
class_freed s (frame ∷ frames) target w = class_freed (with_free s frame) frames target w ∙ class_free s frame target w

pub class_counted : (s : State) (m n target : ℕ) (w : Wanted) → status_or_move (with_counts s m n) target w ≡ status_or_move s target w
class_counted s m n target (Spot pid v all) = refl
class_counted s m n target (Whole p) = refl

-- a frame that is freed on another node is none of the target's
free_elsewhere : (s : State) (frame target : ℕ) → (node_of s.layout frame == target) ≡ false → free_list (with_free s frame) target ≡ free_list s target
free_elsewhere s frame target other =
    let node = node_of s.layout frame in
    get_or-set_other s.free node target (free_list s node ++ frame ∷ []) [] (λ e. true_false (sym (eq-eqb node target (sym e)) ∙ other))

all_elsewhere : (s : State) (frames : List ℕ) (target : ℕ) → AllByRecursion (λ f. (node_of s.layout f == target) ≡ false) frames → free_list (with_all_free s frames) target ≡ free_list s target
all_elsewhere s [] target h = refl
all_elsewhere s (frame ∷ frames) target h =
    all_elsewhere (with_free s frame) frames target h.1 ∙ free_elsewhere s frame target h.0

-- a run's pages leave frames of other nodes
abbrev LeavesOthers : State → ℕ → Progress → Type 0
LeavesOthers s target p = AllByRecursion (λ f. (node_of s.layout f == target) ≡ false) (frames_left p.taken)

-- what follows a request
abbrev then_each : ℕ → List Wanted → Decision → Progress
then_each target ws now =
    let rest = each_request now.state target ws in
    record { state = rest.state; statuses = now.status ∷ rest.statuses; taken = now.taken ++ rest.taken }

leaves_taking : (s : State) (target : ℕ) (ws : List Wanted) (page : Page) (from : ℕ) (frames : List ℕ) → (node_of s.layout from == target) ≡ false → ((t : State) → LeavesOthers t target (each_request t target ws))
    → LeavesOthers s target (then_each target ws (moved_page s target page from frames))
leaves_taking s target ws page from [] h rest = rest s
leaves_taking s target ws page from (frame ∷ frames) h rest = (h, rest (moved_page s target page from (frame ∷ frames)).state)

leaves_deciding : (s : State) (target : ℕ) (ws : List Wanted) (c : Class) → IsElsewhere s target c → ((t : State) → LeavesOthers t target (each_request t target ws)) → LeavesOthers s target (then_each target ws (decision s target c))
leaves_deciding s target ws (Status status) h rest = rest s
leaves_deciding s target ws (Move page from) h rest = leaves_taking s target ws page from (free_list s target) h rest

each_leaves : (s : State) (target : ℕ) (ws : List Wanted) → LeavesOthers s target (each_request s target ws)
each_leaves s target [] = tt
each_leaves s target (w ∷ ws) =
    leaves_deciding s target ws (status_or_move s target w) (status_elsewhere s target w) (λ t. each_leaves t target ws)

-- a node without a free frame takes nothing
none_decided : (s : State) (target : ℕ) (c : Class) → free_list s target ≡ [] → ((decision s target c).state ≡ s) × ((decision s target c).taken ≡ [])
none_decided s target (Status status) none = (refl, refl)
none_decided s target (Move page from) none =
    (ap (λ l. (moved_page s target page from l).state) none, ap (λ l. (moved_page s target page from l).taken) none)

none_taken : (s : State) (target : ℕ) (ws : List Wanted) → free_list s target ≡ [] → ((each_request s target ws).state ≡ s) × ((each_request s target ws).taken ≡ [])
none_taken s target [] none = (refl, refl)
none_taken s target (w ∷ ws) none =
    let now = one_request s target w in
    let first = none_decided s target (status_or_move s target w) none in
    let rest = none_taken s target ws none in (
      ap (λ t. (each_request t target ws).state) first.0 ∙ rest.0,
      ap (λ l. l ++ (each_request now.state target ws).taken) first.1 ∙ ap (λ t. (each_request t target ws).taken) first.0 ∙ rest.1,
    )

-- what is wanted would move to a node, which has no free frame
abbrev Waits : State → ℕ → Wanted → Type 0
Waits s target w = WouldMove s target w × (free_list s target ≡ [])

-- the front of what is left, and the rest
abbrev with_rest : Bool → Wanted → ℤ → List Wanted → List ℤ → List Wanted
with_rest b w z ws zs =
    map {B = Wanted} (λ (e : Wanted × ℤ). e.0) (cond b ((w, z) ∷ filter (λ e. int_eq e.1 (code Enomem)) (zip ws zs)) (filter (λ e. int_eq e.1 (code Enomem)) (zip ws zs)))

-- all that a run leaves waits after its requests
abbrev LeftWaits : ℕ → List Wanted → Progress → Type 0
LeftWaits target ws p = AllByRecursion (Waits p.state target) (short_of_frames ws p.statuses)

waits_taking : (s : State) (target : ℕ) (w : Wanted) (ws : List Wanted) (page : Page) (from : ℕ) (frames : List ℕ) → status_or_move s target w ≡ Move page from → free_list s target ≡ frames → ((t : State) → LeftWaits target ws (each_request t target ws))
    → LeftWaits target (w ∷ ws) (then_each target ws (moved_page s target page from frames))
waits_taking s target w ws page from [] is none rest =
    let same = (none_taken s target ws none).0 in
    let here : Waits s target w = ((page, from, is), none) in
    (subst (λ t. Waits t target w) (sym same) here, rest s)
waits_taking s target w ws page from (frame ∷ frames) is some rest = rest (moved_page s target page from (frame ∷ frames)).state

waits_deciding : (s : State) (target : ℕ) (w : Wanted) (ws : List Wanted) (c : Class) → status_or_move s target w ≡ c → IsOther c → ((t : State) → LeftWaits target ws (each_request t target ws))
    → LeftWaits target (w ∷ ws) (then_each target ws (decision s target c))
waits_deciding s target w ws (Status status) is other rest =
    let moves = each_request s target ws in
    subst (λ b. AllByRecursion (Waits moves.state target) (with_rest b w status ws moves.statuses)) (sym other) (rest s)
waits_deciding s target w ws (Move page from) is other rest = waits_taking s target w ws page from (free_list s target) is refl rest

each_waits : (s : State) (target : ℕ) (ws : List Wanted) → LeftWaits target ws (each_request s target ws)
each_waits s target [] = tt
each_waits s target (w ∷ ws) =
    waits_deciding s target w ws (status_or_move s target w) refl (status_other s target w) (λ t. each_waits t target ws)

all_still : (P Q : Wanted → Type 0) (ws : List Wanted) → ((w : Wanted) → P w → Q w) → AllByRecursion P ws → AllByRecursion Q ws
all_still P Q [] f h = tt
all_still P Q (w ∷ ws) f h = (f w h.0, all_still P Q ws f h.1)

-- .. and after its end
ended_waits : (s : State) (frames : List ℕ) (m n target : ℕ) (w : Wanted) → AllByRecursion (λ f. (node_of s.layout f == target) ≡ false) frames → Waits s target w → Waits (with_counts (with_all_free s frames) m n) target w
ended_waits s frames m n target w others h =
    ((h.0.0, h.0.1, class_counted (with_all_free s frames) m n target w ∙ class_freed s frames target w ∙ h.0.2), all_elsewhere s frames target others ∙ h.1)

run_waits : (s : State) (target : ℕ) (ws : List Wanted) → AllByRecursion (Waits (run s target ws []).state target) (short_of_frames ws (run s target ws []).statuses)
run_waits s target ws =
    let moves = each_request s target ws in
    let others = subst (λ g. AllByRecursion (λ f. (node_of g f == target) ≡ false) (frames_left moves.taken)) (sym (each_layout s target ws)) (each_leaves s target ws) in
    all_still (Waits moves.state target) (Waits (run s target ws []).state target) (short_of_frames ws moves.statuses)
    (λ w. ended_waits moves.state (frames_left moves.taken) (length moves.taken) (failures moves.statuses) target w others) (each_waits s target ws)

-- what waits waits on after a run for the same node
waits_on : (s : State) (target : ℕ) (ws : List Wanted) (w : Wanted) → Waits s target w → Waits (run s target ws []).state target w
waits_on s target ws w h =
    let moves = each_request s target ws in
    let none = none_taken s target ws h.1 in
    let same : with_all_free moves.state (frames_left moves.taken) ≡ s = ap (λ l. with_all_free moves.state (frames_left l)) none.1 ∙ none.0 in
    let here : Waits (with_counts s (length moves.taken) (failures moves.statuses)) target w = ended_waits s [] (length moves.taken) (failures moves.statuses) target w tt h in
    subst (λ t. Waits (with_counts t (length moves.taken) (failures moves.statuses)) target w) (sym same) here

-- runs for one node
abbrev to_node : ℕ → List (List Wanted) → List Stretch
to_node t wss = map (λ ws. record { target = t; wanted = ws }) wss

runs_wait_on : (k : ℕ) (s : State) (target : ℕ) (wss : List (List Wanted)) (w : Wanted) → Waits s target w → Waits (runs_from k s (to_node target wss) []).state target w
runs_wait_on k s target [] w h = h
runs_wait_on k s target (ws ∷ wss) w h =
    runs_wait_on (k + 1) (run s target ws []).state target wss w (waits_on s target ws w h)

-- what is left of two parts is left of one or the other
all_parted : (P : Wanted → Type 0) (xs : List Wanted) (zs : List ℤ) (ys : List Wanted) (us : List ℤ) → length xs ≡ length zs → AllByRecursion P (short_of_frames xs zs) → AllByRecursion P (short_of_frames ys us) → AllByRecursion P (short_of_frames (xs ++ ys) (zs ++ us))
all_parted P [] [] ys us same h k = k
all_parted P [] (z ∷ zs) ys us same h k = let e : ⊥ = omega (arith, same) in absurd e
all_parted P (x ∷ xs) [] ys us same h k = let e : ⊥ = omega (arith, same) in absurd e
all_parted P (x ∷ xs) (z ∷ zs) ys us same h k =
    let fewer : length xs ≡ length zs = omega (arith, same) in
    elim (int_eq z (code Enomem)) as (λ b. AllByRecursion P (with_rest b x z xs zs) → AllByRecursion P (with_rest b x z (xs ++ ys) (zs ++ us))) [
      | true ↦ λ h. (h.0, all_parted P xs zs ys us fewer h.1 k)
      | false ↦ λ h. all_parted P xs zs ys us fewer h k
    ] h

abbrev flat : List (List Wanted) → List Wanted
flat wss = flat_map (λ ws. ws) wss

runs_wait : (k : ℕ) (s : State) (target : ℕ) (wss : List (List Wanted)) → AllByRecursion (Waits (runs_from k s (to_node target wss) []).state target) (short_of_frames (flat wss) (runs_from k s (to_node target wss) []).statuses)
runs_wait k s target [] = tt
runs_wait k s target (ws ∷ wss) =
    let now = run s target ws [] in
    let rest = runs_from (k + 1) now.state (to_node target wss) [] in
    all_parted (Waits rest.state target) ws now.statuses (flat wss) rest.statuses (sym (run_length s target ws []))
    (all_still (Waits now.state target) (Waits rest.state target) (short_of_frames ws now.statuses) (runs_wait_on (k + 1) now.state target wss) (run_waits s target ws))
    (runs_wait (k + 1) now.state target wss)

-- a batch for one node is one stretch, which is cut into pieces
cut_one : (node : ℕ) (w : Wanted) (ws : List Wanted) → cut (all_to node (w ∷ ws)) ≡ record { target = node; wanted = w ∷ ws } ∷ []
cut_one node w [] = refl
cut_one node w (v ∷ vs) =
    let whole : List Stretch = record { target = node; wanted = w ∷ v ∷ vs } ∷ [] in
    let apart : List Stretch = record { target = node; wanted = w ∷ [] } ∷ record { target = node; wanted = v ∷ vs } ∷ [] in
    let join : List Stretch → List Stretch = in_front (record { target = node; wanted = w }) in
    let same : (node == node) ≡ true = eq-eqb node node refl in
    ap join (cut_one node v vs) ∙ ap (λ b. if b then whole else apart) same

pub pass_runs : (limit node : ℕ) (ws : List Wanted) → cut_within limit (all_to node ws) ≡ to_node node (pieces limit ws)
pass_runs limit node [] = refl
pass_runs limit node (w ∷ ws) =
    ap (flat_map (pieces_within limit)) (cut_one node w ws) ∙ append-nil (pieces_within limit (record { target = node; wanted = w ∷ ws }))

pass_waits : (limit : ℕ) (s : State) (node : ℕ) (ws : List Wanted) → 0 < limit → AllByRecursion (Waits (pass limit s node ws).state node) (short_of_frames ws (pass limit s node ws).statuses)
pass_waits limit s node ws some =
    let made = runs_from 0 s (to_node node (pieces limit ws)) [] in
    let enough : length ws ≤ length ws = omega arith in
    subst (λ rs. AllByRecursion (Waits (runs_from 0 s rs []).state node) (short_of_frames ws (runs_from 0 s rs []).statuses)) (sym (pass_runs limit node ws))
    (subst (λ vs. AllByRecursion (Waits made.state node) (short_of_frames vs made.statuses)) (pieces_joined limit ws (length ws) some enough) (runs_wait 0 s node (pieces limit ws)))

pub left_would_move : LeftWouldMove
left_would_move limit s node ws some =
    let made = pass limit s node ws in
    all_still (Waits made.state node) (WouldMove made.state node) (short_of_frames ws made.statuses) (λ w h. h.0) (pass_waits limit s node ws some)

-- a page that would move to one node would move to another, by the tests of both
moves_by_tests : (node next : ℕ) (p : Page) (frame : ℕ) (here there kept pinned : Bool)
    → ((page : Page) × (from : ℕ) × ((if here then Status (pos node) else (if kept then Status (code Eacces) else (if pinned then Status (code Ebusy) else Move p frame))) ≡ Move page from))
    → ((if there then Status (pos next) else (if kept then Status (code Eacces) else (if pinned then Status (code Ebusy) else Move p frame))) ≡ Status (pos next) → ⊥)
    → (page : Page) × (from : ℕ) × ((if there then Status (pos next) else (if kept then Status (code Eacces) else (if pinned then Status (code Ebusy) else Move p frame))) ≡ Move page from)
moves_by_tests node next p frame true there kept pinned h away = let e = h.2 in cc
moves_by_tests node next p frame false true kept pinned h away = absurd (away refl)
moves_by_tests node next p frame false false true pinned h away = let e = h.2 in cc
moves_by_tests node next p frame false false false true h away = let e = h.2 in cc
moves_by_tests node next p frame false false false false h away = (p, frame, refl)

page_moves : (s : State) (node next : ℕ) (kept : Bool) (p : Page) (o : Option ℕ) → ((page : Page) × (from : ℕ) × (page_status s node kept p o ≡ Move page from)) → (page_status s next kept p o ≡ Status (pos next) → ⊥)
    → (page : Page) × (from : ℕ) × (page_status s next kept p o ≡ Move page from)
page_moves s node next kept p None h away = h
page_moves s node next kept p (Some frame) h away =
    moves_by_tests node next p frame (node_of s.layout frame == node) (node_of s.layout frame == next) kept (is_pinned s p) h away

seen_moves : (s : State) (node next pid : ℕ) (all : Bool) (r : Result Page Errno) → ((page : Page) × (from : ℕ) × (seen_status s node pid all r ≡ Move page from)) → (seen_status s next pid all r ≡ Status (pos next) → ⊥)
    → (page : Page) × (from : ℕ) × (seen_status s next pid all r ≡ Move page from)
seen_moves s node next pid all (Err e) h away = h
seen_moves s node next pid all (Ok p) h away = page_moves s node next (others_see s pid p && not all) p (get page_cmp s.place p) h away

pub moves_elsewhere : MovesElsewhere
moves_elsewhere s node next (Spot pid v all) h away = seen_moves s node next pid all (page_seen s pid v) h away
moves_elsewhere s node next (Whole p) h away = page_moves s node next false p (get page_cmp s.place p) h away

pub all_elsewhere_move : (s : State) (node next : ℕ) (ws : List Wanted) → AllByRecursion (WouldMove s node) ws → AllByRecursion (λ w. StandsOn s next w → ⊥) ws → AllByRecursion (WouldMove s next) ws
all_elsewhere_move s node next [] h away = tt
all_elsewhere_move s node next (w ∷ ws) h away = (moves_elsewhere s node next w h.0 away.0, all_elsewhere_move s node next ws h.1 away.1)

-- the statuses of pages without a frame
abbrev no_frame : List Wanted → List ℤ
no_frame ws = map {B = ℤ} (λ w. code Enomem) ws

all_left : (ws : List Wanted) → short_of_frames ws (no_frame ws) ≡ ws
all_left [] = refl
all_left (w ∷ ws) = ap (λ l. w ∷ l) (all_left ws)

-- the failures of a list, after some
abbrev and_failed : ℕ → ℤ → ℕ
and_failed n status = n + cond (int_eq status (code Ebusy) || int_eq status (code Enomem)) 1 0

fail_after : (ws : List Wanted) (n : ℕ) → fold and_failed n (no_frame ws) ≡ n + length ws
fail_after [] n = let e : n ≡ n + 0 = omega arith in e
fail_after (w ∷ ws) n =
    let e : n + 1 + length ws ≡ n + suc (length ws) = omega arith in
    fail_after ws (n + 1) ∙ e

all_fail : (ws : List Wanted) → failures (no_frame ws) ≡ length ws
all_fail ws = let e : 0 + length ws ≡ length ws = omega arith in fail_after ws 0 ∙ e

each_fails : (s : State) (node : ℕ) (ws : List Wanted) → free_list s node ≡ [] → AllByRecursion (WouldMove s node) ws → each_request s node ws ≡ record { state = s; statuses = no_frame ws; taken = [] }
each_fails s node [] none h = refl
each_fails s node (w ∷ ws) none h =
    let short : one_request s node w ≡ record { state = s; status = code Enomem; taken = [] } = ap (decision s node) h.0.2 ∙ ap (moved_page s node h.0.0 h.0.1) none in
    let add : Progress → Progress = λ rest. record { state = rest.state; statuses = code Enomem ∷ rest.statuses; taken = rest.taken } in
    ap (then_each node ws) short ∙ ap add (each_fails s node ws none h.1)

-- what follows the requests of a run
abbrev pub then_run : Progress → RunResult
then_run moves =
    record {
      state = with_counts (with_all_free moves.state (frames_left moves.taken)) (length moves.taken) (failures moves.statuses);
      statuses = moves.statuses;
      answers = [] ∷ [];
    }

run_fails : (s : State) (node : ℕ) (ws : List Wanted) → free_list s node ≡ [] → AllByRecursion (WouldMove s node) ws → run s node ws [] ≡ record { state = with_counts s 0 (length ws); statuses = no_frame ws; answers = [] ∷ [] }
run_fails s node ws none h =
    let total : ℕ → RunResult = λ n. record { state = with_counts s 0 n; statuses = no_frame ws; answers = [] ∷ [] } in
    ap then_run (each_fails s node ws none h) ∙ ap total (all_fail ws)

counted_again : (s : State) (n m : ℕ) → with_counts (with_counts s 0 n) 0 m ≡ with_counts s 0 (n + m)
counted_again s n m =
    let moved : total_after (total_after s.moved 0) 0 ≡ total_after s.moved 0 = omega arith in
    let failed : total_after (total_after s.failed n) m ≡ total_after s.failed (n + m) = omega arith in
    ap (λ x. record s { moved = x; failed = total_after (total_after s.failed n) m }) moved ∙ ap (λ x. record s { moved = total_after s.moved 0; failed = x }) failed

-- this many have failed, and these of them last
abbrev Fail : State → ℕ → List Wanted → RunResult → Type 0
Fail s n ws made = (made.state ≡ with_counts s 0 n) × (made.statuses ≡ no_frame ws)

then_fail : (k : ℕ) (s t : State) (node n m : ℕ) (ws : List Wanted) (wss : List (List Wanted)) → run t node ws [] ≡ record { state = with_counts s 0 n; statuses = no_frame ws; answers = [] ∷ [] }
    → Fail s m (flat wss) (runs_from (k + 1) (with_counts s 0 n) (to_node node wss) []) → Fail s m (ws ++ flat wss) (runs_from k t (to_node node (ws ∷ wss)) [])
then_fail k s t node n m ws wss first rest =
    let after : RunResult → RunResult = λ now. runs_from (k + 1) now.state (to_node node wss) [] in (
      ap (λ (now : RunResult). (after now).state) first ∙ rest.0,
      ap (λ (now : RunResult). now.statuses ++ (after now).statuses) first ∙ ap (λ l. no_frame ws ++ l) rest.1 ∙ sym (map-append {B = ℤ} (λ w. code Enomem) ws (flat wss)),
    )

all_front : (P : Wanted → Type 0) (xs ys : List Wanted) → AllByRecursion P (xs ++ ys) → AllByRecursion P xs × AllByRecursion P ys
all_front P [] ys h = (tt, h)
all_front P (x ∷ xs) ys h = let rest = all_front P xs ys h.1 in ((h.0, rest.0), rest.1)

runs_fail : (k : ℕ) (s : State) (node n : ℕ) (wss : List (List Wanted)) → free_list s node ≡ [] → AllByRecursion (WouldMove s node) (flat wss) → Fail s (n + length (flat wss)) (flat wss) (runs_from k (with_counts s 0 n) (to_node node wss) [])
runs_fail k s node n [] none h = let e : n ≡ n + 0 = omega arith in (ap (with_counts s 0) e, refl)
runs_fail k s node n (ws ∷ wss) none h =
    let parts = all_front (WouldMove s node) ws (flat wss) h in
    let t = with_counts s 0 n in
    let still = all_still (WouldMove s node) (WouldMove t node) ws (λ w e. (e.0, e.1, class_counted s 0 n node w ∙ e.2)) parts.0 in
    let m = length ws in
    let count : State → RunResult = λ u. record { state = u; statuses = no_frame ws; answers = [] ∷ [] } in
    let first = run_fails t node ws none still ∙ ap count (counted_again s n m) in
    let e : n + m + length (flat wss) ≡ n + length (ws ++ flat wss) = omega (arith, length-append ws (flat wss)) in
    subst (λ j. Fail s j (ws ++ flat wss) (runs_from k t (to_node node (ws ∷ wss)) [])) e
    (then_fail k s t node (n + m) (n + m + length (flat wss)) ws wss first (runs_fail (k + 1) s node (n + m) wss none parts.1))

pieces_fail : (s : State) (node : ℕ) (wanted : List Wanted) (wss : List (List Wanted)) → flat wss ≡ wanted → 0 < length wanted → free_list s node ≡ [] → AllByRecursion (WouldMove s node) wanted
    → Fail s (length wanted) wanted (runs_from 0 s (to_node node wss) [])
pieces_fail s node wanted [] is has none h = let e : 0 ≡ length wanted = ap length is in let z : ⊥ = omega (arith, e, has) in absurd z
pieces_fail s node wanted (ws ∷ wss) is has none h =
    let parts = all_front (WouldMove s node) ws (flat wss) (subst (AllByRecursion (WouldMove s node)) (sym is) h) in
    let m = length ws in
    let e : m + length (flat wss) ≡ length (ws ++ flat wss) = omega (arith, length-append ws (flat wss)) in
    let made = runs_from 0 s (to_node node (ws ∷ wss)) [] in
    let all : Fail s (m + length (flat wss)) (ws ++ flat wss) made = then_fail 0 s s node m (m + length (flat wss)) ws wss (run_fails s node ws none parts.0) (runs_fail (0 + 1) s node m wss none parts.1) in
    subst (λ l. Fail s (length l) l made) is (subst (λ j. Fail s j (ws ++ flat wss) made) e all)

pub full_node_takes_none : FullNodeTakesNone
full_node_takes_none limit s node wanted some has none h =
    let enough : length wanted ≤ length wanted = omega arith in
    let fail : Fail s (length wanted) wanted (pass limit s node wanted) =
    subst (λ rs. Fail s (length wanted) wanted (runs_from 0 s rs [])) (sym (pass_runs limit node wanted))
    (pieces_fail s node wanted (pieces limit wanted) (pieces_joined limit wanted (length wanted) some enough) has none h) in
    (fail.0, ap (short_of_frames wanted) fail.1 ∙ all_left wanted)

pub next_pass_takes_none : NextPassTakesNone
next_pass_takes_none limit s node next wanted some has none away =
    let first = pass limit s node wanted in
    let ws = short_of_frames wanted first.statuses in
    full_node_takes_none limit first.state next ws some has none
    (all_elsewhere_move first.state node next ws (left_would_move limit s node wanted some) away)

-- this many pieces hold this many, and one fewer would not
abbrev Hold : ℕ → ℕ → ℕ → Type 0
Hold limit n k = (n ≤ k * limit) × (k * limit < n + limit)

pieces_hold : (limit : ℕ) (ws : List Wanted) (n : ℕ) → 0 < limit → length ws ≤ n → Hold limit (length ws) (length (pieces_in limit ws n))
pieces_hold limit [] n some enough = (omega arith, omega (arith, some))
pieces_hold limit (w ∷ ws) zero some enough = let z : ⊥ = omega (arith, enough) in absurd z
pieces_hold limit (w ∷ ws) (suc n) some enough =
    let len = length-drop limit (w ∷ ws) in
    let rest = drop limit (w ∷ ws) in
    let k = length (pieces_in limit rest n) in
    let held = pieces_hold limit rest n some (omega (arith, len, some, enough)) in
    let one_more : suc k * limit ≡ k * limit + limit = suc-mul k limit in
    let below = held.1 in
    let above = held.0 in
    ⊎_elim
    (λ (long : limit < length (w ∷ ws)). let both : Hold limit (length (w ∷ ws)) (suc k) = (omega (arith, one_more, above, len, long), omega (arith, one_more, below, len, long)) in both)
    (λ (short : length (w ∷ ws) ≤ limit).
    let none : k * limit ≡ 0 = ap (λ l. length (pieces_in limit l n) * limit) (drop_all limit (w ∷ ws) short) ∙ omega arith in
    let both : Hold limit (length (w ∷ ws)) (suc k) = (omega (arith, one_more, short), omega (arith, one_more, none)) in both) (cases_lt limit (length (w ∷ ws)))

-- there is one such number
one_number : (limit n k q : ℕ) → Hold limit n k → Hold limit n q → k ≡ q
one_number limit n k q h g =
    ⊎_elim (λ (less : k < q). let z : ⊥ = apart k q less h.0 g.1 in absurd z)
    (λ (more : q ≤ k). ⊎_elim (λ (less : q < k). let z : ⊥ = apart q k less g.0 h.1 in absurd z) (λ (most : k ≤ q). omega (arith, more, most)) (cases_lt q k)) (cases_lt k q)
  where
    apart : (a b : ℕ) → a < b → n ≤ a * limit → b * limit < n + limit → ⊥
    apart a b less enough few =
        let steps = mul-le-mul_right {m = suc a} {n = b} limit (omega (arith, less)) in
        let one_more : suc a * limit ≡ a * limit + limit = suc-mul a limit in
        omega (arith, steps, one_more, enough, few)

pub runs_go_by_length : RunsGoByLength
runs_go_by_length limit node wanted some =
    let enough : length wanted ≤ length wanted = omega arith in
    ap length (pass_runs limit node wanted) ∙ length-map {B = Stretch} (pieces limit wanted) (λ ws. record { target = node; wanted = ws })
    ∙ one_number limit (length wanted) (length (pieces limit wanted)) (rounded_up (length wanted) limit) (pieces_hold limit wanted (length wanted) some enough) (div_ceil_times (length wanted) limit some)
