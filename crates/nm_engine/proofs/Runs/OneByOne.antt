-- A run by its plan is a run one after another.
use Rattle.std.proofs.Common.{◌≡◌, ◌≢◌, ℕ, zero, suc, ◌<◌, ◌≤◌, Bool, true, false, List, [], ◌∷◌, ◌++◌, map, length, take, drop, refl, sym, ap, subst, ◌∙◌, arith}
use Rattle.std.specs.Prelude.{Option, Some, None, IfSome, slice_get, slice_set, if◌then◌else◌, pos}
use Rattle.std.specs.Option.{option_map}
use Rattle.std.specs.List.{sum_by}
use Rattle.std.specs.List.Sorted.{IsStrictlySortedBy}
use Rattle.std.specs.Map.{keys_of, values_of}
use Rattle.std.specs.Ordering.{nat_cmp}
use Rattle.nm_types.specs.declared.page.Page.{Page}
use Rattle.nm_types.specs.declared.sight.Sight.{Sight}
use Rattle.nm_types.specs.declared.sight.Sight.TheVariants.{ZeroPage, Sees}
use Rattle.nm_types.specs.Layout.{frame_count, node_of}
use Rattle.nm_types.specs.Map.{get, page_cmp}
use Rattle.nm_types.specs.State.{State, free_list, page_at}
use Rattle.nm_types.specs.declared.request.Class.{Class}
use Rattle.nm_types.specs.declared.request.Class.TheVariants.{Status, Move}
use Rattle.nm_types.specs.declared.request.Wanted.{Wanted}
use Rattle.nm_types.specs.declared.request.Wanted.TheVariants.{At as Spot, Whole}
use Rattle.nm_model.specs.definitions.Seen.{sight_in, look_in, look_at_place, look_behind, frame_and_pin, is_pinned}
use Rattle.nm_runs.specs.Shown.{class_of_place, class_shown, HasFrameBelow, ShowsItsFrames}
use Rattle.nm_model.specs.definitions.Status.{page_status, status_or_move}
use Rattle.nm_types.specs.declared.page_move.PageMove.{PageMove}
use Rattle.nm_model.specs.definitions.Decide.{Choice, Decisions, has_moved, take_front, decide, shortage, RunPlan, plan_run}
use Rattle.nm_model.specs.definitions.Run.{moved_page, decision, each_request, HasOneAll}
use Rattle.nm_model.specs.definitions.Sound.{times, FramesAreOnce, OwnsItsFree}
use Rattle.nm_laws.specs.Laws.{Agrees, with_move}
use Rattle.nm_laws.specs.Moves.{CanMove, IsPlanOf}
use Rattle.nm_laws.proofs.Soundness.Once.{counted_place}
use Rattle.nm_laws.proofs.Soundness.Counted.{counted_below}
use Rattle.nm_laws.proofs.OneByOne.Looks.{looks_suffice}
use Rattle.nm_laws.proofs.OneByOne.Planned.{plan_agrees}
use Rattle.nm_laws.proofs.OneByOne.Placed.{ClassIsPlaced, status_placed, ClassIsAway, status_away}

-- what can be done after a request
abbrev Later : List Wanted → ℕ → Type 0
Later ws target = (s : State) → CanMove s target (each_request s target ws).taken

page_can : (s : State) (target : ℕ) (p : Page) (from : ℕ) (ws : List Wanted) → get page_cmp s.place p ≡ Some from → node_of s.layout from ≢ target → Later ws target → (front : List ℕ) → free_list s target ≡ front
    → CanMove s target ((moved_page s target p from front).taken ++ (each_request (moved_page s target p from front).state target ws).taken)
page_can s target p from ws placed away later [] e = later s
page_can s target p from ws placed away later (frame ∷ rest) e =
    let t : PageMove = record { page = p; from = from; to = frame } in
    let after = λ (fs : List ℕ). record (with_move target s t) { free = slice_set s.free target fs } in (
      placed,
      ap (λ (fs : List ℕ). slice_get fs 0) e,
      away,
      subst (λ (fs : List ℕ). CanMove (after (drop 1 fs)) target (each_request (moved_page s target p from (frame ∷ rest)).state target ws).taken) (sym e) (later (moved_page s target p from (frame ∷ rest)).state),
    )

class_can : (s : State) (target : ℕ) (c : Class) (ws : List Wanted) → ClassIsPlaced s c → ClassIsAway s target c → Later ws target → CanMove s target ((decision s target c).taken ++ (each_request (decision s target c).state target ws).taken)
class_can s target (Status status) ws placed away later = later s
class_can s target (Move p from) ws placed away later = page_can s target p from ws placed away later (free_list s target) refl

-- the moves of requests, one after another, can be made
pub each_can : (ws : List Wanted) (target : ℕ) → Later ws target
each_can [] target s = tt
each_can (w ∷ ws) target s = class_can s target (status_or_move s target w) ws (status_placed s target w) (status_away s target w) (each_can ws target)

-- as many frames as requests are enough
after_few : Bool → Page → ℕ → List Class → List PageMove → List ℕ → ℕ → Decisions
after_few b page from classes moved front target =
    let now : Choice = if b then record { status = pos target; taken = []; front = front } else take_front page from front target in
    let rest = decide classes (moved ++ now.taken) now.front target in
    record { statuses = now.status ∷ rest.statuses; taken = now.taken ++ rest.taken }

abbrev FewSuffice : List Class → ℕ → Type 0
FewSuffice classes target = (moved : List PageMove) (front : List ℕ) (n : ℕ) → length classes ≤ n → decide classes moved (take n front) target ≡ decide classes moved front target

new_few : (classes : List Class) (target : ℕ) → FewSuffice classes target → (page : Page) (from : ℕ) (moved : List PageMove) (front : List ℕ) (n : ℕ) → length classes ≤ n
    → after_few false page from classes moved (take (suc n) front) target ≡ after_few false page from classes moved front target
unfolding after_few
new_few classes target rest page from moved [] n enough = refl
new_few classes target rest page from moved (x ∷ front) n enough =
    let t : PageMove = record { page = page; from = from; to = x } in
    ap (λ (d : Decisions). record { statuses = pos target ∷ d.statuses; taken = t ∷ d.taken }) (rest (moved ++ t ∷ []) front n enough)

pub few_suffice : (classes : List Class) (target : ℕ) → FewSuffice classes target
unfolding after_few
few_suffice [] target moved front n enough = refl
few_suffice (Status status ∷ classes) target moved front n enough =
    ap (λ (d : Decisions). record { statuses = status ∷ d.statuses; taken = d.taken }) (few_suffice classes target (moved ++ []) front n (omega (arith, enough)))
few_suffice (Move page from ∷ classes) target moved front zero enough = absurd (omega (arith, enough))
few_suffice (Move page from ∷ classes) target moved front (suc n) enough =
    elim (has_moved moved page) as (λ b. after_few b page from classes moved (take (suc n) front) target ≡ after_few b page from classes moved front target) [
      | true ↦ ap (λ (d : Decisions). record { statuses = pos target ∷ d.statuses; taken = d.taken }) (few_suffice classes target (moved ++ []) front (suc n) (omega (arith, enough)))
      | false ↦ new_few classes target (few_suffice classes target) page from moved front n (omega (arith, enough))
    ]

-- of a page that is asked for by its name the frame and the pin suffice
place_suffices : (s : State) (target : ℕ) (p : Page) (o : Option ℕ) → class_of_place s.layout target p (option_map (λ frame. (frame, is_pinned s p)) o) ≡ page_status s target false p o
place_suffices s target p None = refl
place_suffices s target p (Some frame) = refl

-- the class by the view of a state is its class
pub class_by_view : (s : State) (target : ℕ) (w : Wanted) → IsStrictlySortedBy nat_cmp (keys_of s.processes)
    → class_shown s.layout (λ pid v. look_in s.processes s.areas s.place s.pins pid v) (λ p. frame_and_pin s.place s.pins p) target w ≡ status_or_move s target w
class_by_view s target (Spot pid v all) order = looks_suffice s target (Spot pid v all) order
class_by_view s target (Whole p) order = place_suffices s target p (get page_cmp s.place p)

pub classes_by_view : (s : State) (target : ℕ) (ws : List Wanted) → IsStrictlySortedBy nat_cmp (keys_of s.processes)
    → map (class_shown s.layout (λ pid v. look_in s.processes s.areas s.place s.pins pid v) (λ p. frame_and_pin s.place s.pins p) target) ws ≡ map (status_or_move s target) ws
classes_by_view s target [] order = refl
classes_by_view s target (w ∷ ws) order =
    ap (λ c. c ∷ map (class_shown s.layout (λ pid v. look_in s.processes s.areas s.place s.pins pid v) (λ p. frame_and_pin s.place s.pins p) target) ws) (class_by_view s target w order)
    ∙ ap (λ cs. status_or_move s target w ∷ cs) (classes_by_view s target ws order)

-- a sound machine's pages are in its frames, and no others are seen
placed_below : (s : State) (l : List ℕ) (p : Page) (f : ℕ) → FramesAreOnce s.layout s.place s.free l → get page_cmp s.place p ≡ Some f → f < frame_count s.layout
placed_below s l p f h e =
    counted_below (times f (values_of s.place)) (sum_by (times f) s.free) (times f l) f (frame_count s.layout) (h.once f) (let some = counted_place s.place p f e in omega (arith, some))

look_below : (s : State) (l : List ℕ) (p : Page) (o : Option ℕ) → FramesAreOnce s.layout s.place s.free l → get page_cmp s.place p ≡ o → HasFrameBelow (frame_count s.layout) (look_at_place s.processes s.pins p o)
look_below s l p None h e = tt
look_below s l p (Some f) h e = placed_below s l p f h e

place_below : (s : State) (l : List ℕ) (p : Page) (o : Option ℕ) → FramesAreOnce s.layout s.place s.free l → get page_cmp s.place p ≡ o → IfSome {T = ℕ × Bool} (option_map (λ frame. (frame, is_pinned s p)) o) (λ place. place.0 < frame_count s.layout)
place_below s l p None h e = tt
place_below s l p (Some f) h e = placed_below s l p f h e

sight_below : (s : State) (l : List ℕ) (o : Option Page) (x : Option Sight) → FramesAreOnce s.layout s.place s.free l → HasFrameBelow (frame_count s.layout) (look_behind s.processes s.place s.pins o x)
sight_below s l None x h = tt
sight_below s l (Some q) None h = tt
sight_below s l (Some q) (Some ZeroPage) h = tt
sight_below s l (Some q) (Some (Sees p)) h = look_below s l p (get page_cmp s.place p) h refl

pub shows_its_frames : (s : State) (l : List ℕ) → FramesAreOnce s.layout s.place s.free l
    → ShowsItsFrames s.layout (λ pid v. look_in s.processes s.areas s.place s.pins pid v) (λ p. frame_and_pin s.place s.pins p)
shows_its_frames s l h = record {
  seen = λ pid v. sight_below s l (page_at s.areas pid v) (sight_in (get nat_cmp s.processes pid) v) h;
  placed = λ p. place_below s l p (get page_cmp s.place p) h refl;
}

-- the plan by the classes of a view, with at most as many free frames as requests
pub planned_is : (s : State) (target n : ℕ) (classes : List Class) (front : List ℕ) (ws : List Wanted) → classes ≡ map (status_or_move s target) ws → front ≡ take n (free_list s target) → length classes ≤ n
    → plan_run classes front target ≡ plan_run (map (status_or_move s target) ws) (free_list s target) target
planned_is s target n classes front ws by at enough =
    let told : List Class → Decisions → RunPlan = λ cs d. record { statuses = d.statuses; taken = d.taken; shortage = shortage cs d } in
    ap (λ (fs : List ℕ). plan_run classes fs target) at
    ∙ ap (told classes) (few_suffice classes target [] (free_list s target) n enough)
    ∙ ap (λ (cs : List Class). plan_run cs (free_list s target) target) by

-- the plan for requests says what becomes of them one after another
pub is_plan_of : (s : State) (target : ℕ) (ws : List Wanted) (p : RunPlan) → IsStrictlySortedBy nat_cmp (keys_of s.processes) → OwnsItsFree s.layout s.free target → HasOneAll ws
    → p ≡ plan_run (map (status_or_move s target) ws) (free_list s target) target → IsPlanOf s target ws p
is_plan_of s target ws p order own alike is =
    let agrees = plan_agrees s target ws order own alike in
    let both : RunPlan → Decisions = λ q. record { statuses = q.statuses; taken = q.taken } in
    record {
      planned = is;
      agrees = subst (λ (q : RunPlan). Agrees s target (each_request s target ws) (both q)) (sym is) agrees;
      can = subst (CanMove s target) (agrees.taken ∙ sym (ap (λ (q : RunPlan). q.taken) is)) (each_can ws target s);
    }
