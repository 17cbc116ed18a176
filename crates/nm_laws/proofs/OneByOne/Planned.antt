-- Deciding from the classes at the start of a run is deciding one after another.
use Rattle.std.proofs.Common.{◌≡◌, ℕ, suc, zero, Bool, true, false, cond, length, not, ◌&&◌, ◌||◌, List, [], ◌∷◌, ◌++◌, map, drop, refl, sym, ap, subst, ◌∙◌, eq-eqb}
use Rattle.std.specs.Prelude.{Option, Some, None, pos, ℤ, nat_lt, ◌==◌, if◌then◌else◌, slice_index_or, slice_set}
use Rattle.std.specs.List.{AllByRecursion}
use Rattle.std.specs.List.Sorted.{IsStrictlySortedBy}
use Rattle.std.specs.Map.{keys_of}
use Rattle.std.specs.Ordering.{nat_cmp}
use Rattle.std.specs.Bool.{MatchBool}
use Rattle.nm_types.specs.declared.errno.Errno.TheVariants.{Eacces, Ebusy, Enomem}
use Rattle.nm_types.specs.declared.page.Page.{Page}
use Rattle.nm_types.specs.Map.{Map, get, set, page_cmp, same_page}
use Rattle.nm_types.specs.Layout.{node_of}
use Rattle.nm_types.specs.declared.sight.Sight.{Sight}
use Rattle.nm_types.specs.declared.sight.Sight.TheVariants.{ZeroPage, Sees}
use Rattle.nm_types.specs.State.{State, page_at, free_list}
use Rattle.nm_types.specs.declared.request.Class.{Class}
use Rattle.nm_types.specs.declared.request.Class.TheVariants.{Status, Move}
use Rattle.nm_types.specs.declared.request.Wanted.{Wanted}
use Rattle.nm_types.specs.declared.request.Wanted.TheVariants.{At as Spot, Whole}
use Rattle.nm_model.specs.definitions.Seen.{sight_at, users, is_pinned, look_at_page, look_under}
use Rattle.nm_model.specs.definitions.Status.{code, status_or_move, class_of_look, class_of}
use Rattle.nm_types.specs.declared.page_move.PageMove.{PageMove}
use Rattle.nm_model.specs.definitions.Decide.{Choice, Decisions, has_moved, take_front, choose, decide}
use Rattle.nm_model.specs.definitions.Run.{Decision, Progress, moved_page, decision, each_request, moves_all, HasOneAll}
use Rattle.nm_model.specs.definitions.Sound.{OwnsItsFree}
use Rattle.nm_laws.specs.Laws.{Agrees, with_moves}
use Rattle.nm_types.proofs.Maps.{page_cmp_total, exact_page, equal, get-set}
use Rattle.nm_types.proofs.Members.{or_swap}
use Rattle.nm_laws.proofs.OneByOne.Looks.{looks_suffice}

-- the class of a page that has this place
abbrev pub page_class : State → ℕ → Bool → Page → Option ℕ → Class
page_class s target all p o = class_of_look s.layout target all (look_at_page s p o)

-- a state in the middle of a run
abbrev pub in_flight : State → Map Page ℕ → List (List ℕ) → State
in_flight s m f = record s { place = m; free = f }

-- only a page itself can be what its class moves
OfPage : Page → Class → Type 0
OfPage p (Status status) = Unit {0}
OfPage p (Move q from) = q ≡ p

of_page : (s : State) (target : ℕ) (all : Bool) (p : Page) (o : Option ℕ) → OfPage p (page_class s target all p o)
unfolding OfPage
of_page s target all p None = tt
of_page s target all p (Some frame) =
    elim (node_of s.layout frame == target) as (λ b. OfPage p (if b then Status (pos target) else (if nat_lt 1 (length (users s.processes p)) && not all then Status (code Eacces) else (if is_pinned s p then Status (code Ebusy) else Move p frame)))) [
      | true ↦ tt
      | false ↦ elim (nat_lt 1 (length (users s.processes p)) && not all) as (λ b. OfPage p (if b then Status (code Eacces) else (if is_pinned s p then Status (code Ebusy) else Move p frame))) [
        | true ↦ tt
        | false ↦ elim (is_pinned s p) as (λ b. OfPage p (if b then Status (code Ebusy) else Move p frame)) [ true ↦ tt | false ↦ refl ]
      ]
    ]

on_target : (s : State) (target : ℕ) (all : Bool) (p : Page) (frame : ℕ) → node_of s.layout frame ≡ target → page_class s target all p (Some frame) ≡ Status (pos target)
on_target s target all p frame own =
    ap (λ b. if b then Status (pos target) else (if nat_lt 1 (length (users s.processes p)) && not all then Status (code Eacces) else (if is_pinned s p then Status (code Ebusy) else Move p frame))) (eq-eqb _ _ own)

-- where a page is, and where it was at the start
abbrev Stands : State → ℕ → Bool → Option ℕ → Option ℕ → Type 0
Stands s target moved now before = MatchBool moved ((frame : ℕ) × (now ≡ Some frame) × (node_of s.layout frame ≡ target)) (now ≡ before)

-- in_flight, a page has moved to the target or is where it was, and only pages move whose class says so
record Midway (s : State) (target : ℕ) (all : Bool) (m : Map Page ℕ) (f : List (List ℕ)) (moved : List PageMove) : Type 0 where
  places : (q : Page) → Stands s target (has_moved moved q) (get page_cmp m q) (get page_cmp s.place q)
  classes : (q : Page) → has_moved moved q ≡ true → (from : ℕ) × (page_class s target all q (get page_cmp s.place q) ≡ Move q from)
  own : AllByRecursion (λ frame. node_of s.layout frame ≡ target) (slice_index_or f target [])

-- the class in_flight of a request that has this class at the start
Becomes : ℕ → List PageMove → Class → Class → Type 0
Becomes target moved (Status status) now = now ≡ Status status
Becomes target moved (Move p from) now = MatchBool (has_moved moved p) (now ≡ Status (pos target)) (now ≡ Move p from)

stays : (target : ℕ) (moved : List PageMove) (p : Page) (c : Class) → OfPage p c → has_moved moved p ≡ false → Becomes target moved c c
unfolding OfPage Becomes
stays target moved p (Status status) of e = refl
stays target moved p (Move q from) of e = subst (λ b. MatchBool b (Move q from ≡ Status (pos target)) (Move q from ≡ Move q from)) (sym (ap (has_moved moved) of ∙ e)) refl

arrives : (target : ℕ) (moved : List PageMove) (p : Page) (from : ℕ) (now : Class) → has_moved moved p ≡ true → now ≡ Status (pos target) → Becomes target moved (Move p from) now
unfolding Becomes
arrives target moved p from now e is = subst (λ b. MatchBool b (now ≡ Status (pos target)) (now ≡ Move p from)) (sym e) is

page_becomes : (s : State) (target : ℕ) (all : Bool) (m : Map Page ℕ) (f : List (List ℕ)) (moved : List PageMove) → Midway s target all m f moved → (p : Page)
    → Becomes target moved (page_class s target all p (get page_cmp s.place p)) (page_class s target all p (get page_cmp m p))
page_becomes s target all m f moved i p =
    elim (has_moved moved p) as (λ b. has_moved moved p ≡ b → Stands s target b (get page_cmp m p) (get page_cmp s.place p) → Becomes target moved (page_class s target all p (get page_cmp s.place p)) (page_class s target all p (get page_cmp m p))) [
      | true ↦ λ e stands.
          let class = i.classes p e in
          subst (λ c. Becomes target moved c (page_class s target all p (get page_cmp m p))) (sym class.1)
          (arrives target moved p class.0 _ e (ap (page_class s target all p) stands.1 ∙ on_target s target all p stands.0 stands.2))
      | false ↦ λ e stands.
          subst (λ o. Becomes target moved (page_class s target all p (get page_cmp s.place p)) (page_class s target all p o)) (sym stands)
          (stays target moved p _ (of_page s target all p (get page_cmp s.place p)) e)
    ] refl (i.places p)

seen_becomes : (s : State) (target : ℕ) (all : Bool) (m : Map Page ℕ) (f : List (List ℕ)) (moved : List PageMove) → Midway s target all m f moved → (o : Option Page) (x : Option Sight)
    → Becomes target moved (class_of_look s.layout target all (look_under s o x)) (class_of_look s.layout target all (look_under (in_flight s m f) o x))
unfolding Becomes
seen_becomes s target all m f moved i None x = refl
seen_becomes s target all m f moved i (Some q) None = refl
seen_becomes s target all m f moved i (Some q) (Some ZeroPage) = refl
seen_becomes s target all m f moved i (Some q) (Some (Sees p)) = page_becomes s target all m f moved i p

class_becomes : (s : State) (target : ℕ) (all : Bool) (m : Map Page ℕ) (f : List (List ℕ)) (moved : List PageMove) → Midway s target all m f moved → (w : Wanted) → moves_all w ≡ all
    → Becomes target moved (class_of s target w) (class_of (in_flight s m f) target w)
class_becomes s target all m f moved i (Spot pid v b) e =
    subst (λ a. Becomes target moved (class_of s target (Spot pid v a)) (class_of (in_flight s m f) target (Spot pid v a))) (sym e)
    (seen_becomes s target all m f moved i (page_at s.areas pid v) (sight_at s pid v))
class_becomes s target all m f moved i (Whole p) e =
    subst (λ a. Midway s target a m f moved → Becomes target moved (class_of s target (Whole p)) (class_of (in_flight s m f) target (Whole p))) e
    (λ j. page_becomes s target true m f moved j p) i

-- a request that moves a page has that page's class
IsItsClass : State → ℕ → Bool → Class → Type 0
IsItsClass s target all (Status status) = Unit {0}
IsItsClass s target all (Move p from) = page_class s target all p (get page_cmp s.place p) ≡ Move p from

its_page : (s : State) (target : ℕ) (all : Bool) (p : Page) (c : Class) → c ≡ page_class s target all p (get page_cmp s.place p) → OfPage p c → IsItsClass s target all c
unfolding OfPage IsItsClass
its_page s target all p (Status status) e of = tt
its_page s target all p (Move q from) e of = ap (λ x. page_class s target all x (get page_cmp s.place x)) of ∙ sym e

its_seen : (s : State) (target : ℕ) (all : Bool) (o : Option Page) (x : Option Sight) → IsItsClass s target all (class_of_look s.layout target all (look_under s o x))
unfolding IsItsClass
its_seen s target all None x = tt
its_seen s target all (Some q) None = tt
its_seen s target all (Some q) (Some ZeroPage) = tt
its_seen s target all (Some q) (Some (Sees p)) = its_page s target all p _ refl (of_page s target all p (get page_cmp s.place p))

its_class : (s : State) (target : ℕ) (all : Bool) (w : Wanted) → moves_all w ≡ all → IsItsClass s target all (class_of s target w)
its_class s target all (Spot pid v b) e =
    subst (λ a. IsItsClass s target all (class_of s target (Spot pid v a))) (sym e) (its_seen s target all (page_at s.areas pid v) (sight_at s pid v))
its_class s target all (Whole p) e =
    subst (λ a. IsItsClass s target a (class_of s target (Whole p))) e (its_page s target true p _ refl (of_page s target true p (get page_cmp s.place p)))

pub list_now : (f : List (List ℕ)) (target frame : ℕ) (rest : List ℕ) → slice_index_or f target [] ≡ frame ∷ rest → slice_index_or (slice_set f target rest) target [] ≡ rest
list_now [] target frame rest e = cc
list_now (x ∷ f) zero frame rest e = refl
list_now (x ∷ f) (suc i) frame rest e = list_now f i frame rest e

after_move : (s : State) (target : ℕ) (all : Bool) (m : Map Page ℕ) (f : List (List ℕ)) (moved : List PageMove) → Midway s target all m f moved
    → (p : Page) (from frame : ℕ) (rest : List ℕ) → page_class s target all p (get page_cmp s.place p) ≡ Move p from → slice_index_or f target [] ≡ frame ∷ rest
    → Midway s target all (set page_cmp m p frame) (slice_set f target rest) (record { page = p; from = from; to = frame } ∷ moved)
after_move s target all m f moved i p from frame rest class front =
    let own : AllByRecursion (λ x. node_of s.layout x ≡ target) (frame ∷ rest) = subst (AllByRecursion (λ x. node_of s.layout x ≡ target)) front i.own in
    record {
      places = λ q.
          subst (λ o. Stands s target (same_page q p || has_moved moved q) o (get page_cmp s.place q)) (sym (get-set page_cmp_total m p frame q))
          (elim (same_page q p) as (λ b. Stands s target (b || has_moved moved q) (cond b (Some frame) (get page_cmp m q)) (get page_cmp s.place q)) [
            | true ↦ (frame, refl, own.0)
            | false ↦ i.places q
          ]);
      classes = λ q.
          elim (same_page q p) as (λ b. same_page q p ≡ b → (b || has_moved moved q) ≡ true → (x : ℕ) × (page_class s target all q (get page_cmp s.place q) ≡ Move q x)) [
            | true ↦ λ e h. (from, subst (λ x. page_class s target all x (get page_cmp s.place x) ≡ Move x from) (sym (exact_page q p (equal _ e))) class)
            | false ↦ λ e h. i.classes q h
          ] refl;
      own = subst (AllByRecursion (λ x. node_of s.layout x ≡ target)) (sym (list_now f target frame rest front)) own.1;
    }

-- at the end of the moves is as good as in front
moved_at_end : (moved : List PageMove) (t : PageMove) (q : Page) → has_moved (t ∷ moved) q ≡ has_moved (moved ++ t ∷ []) q
moved_at_end [] t q = refl
moved_at_end (x ∷ moved) t q = or_swap (same_page q t.page) (same_page q x.page) (has_moved moved q) ∙ ap (λ b. same_page q x.page || b) (moved_at_end moved t q)

midway_same : (s : State) (target : ℕ) (all : Bool) (m : Map Page ℕ) (f : List (List ℕ)) (xs ys : List PageMove) → ((q : Page) → has_moved xs q ≡ has_moved ys q)
    → Midway s target all m f xs → Midway s target all m f ys
midway_same s target all m f xs ys same i =
    record {
      places = λ q. subst (λ b. Stands s target b (get page_cmp m q) (get page_cmp s.place q)) (same q) (i.places q);
      classes = λ q h. i.classes q (same q ∙ h);
      own = i.own;
    }

append-nil : {A : Type 0} (xs : List A) → xs ++ [] ≡ xs
append-nil [] = refl
append-nil (x ∷ xs) = ap (λ l. x ∷ l) (append-nil xs)

-- one outcome, and then the requests that are left
abbrev then_each : Decision → ℕ → List Wanted → Progress
then_each now target ws =
    let rest = each_request now.state target ws in
    record { state = rest.state; statuses = now.status ∷ rest.statuses; taken = now.taken ++ rest.taken }

abbrev then_decide : Choice → List Class → List PageMove → ℕ → Decisions
then_decide now classes moved target =
    let rest = decide classes (moved ++ now.taken) now.front target in
    record { statuses = now.status ∷ rest.statuses; taken = now.taken ++ rest.taken }

-- what holds of the requests that are left, at any point of the run
abbrev Rest : State → ℕ → Bool → List Wanted → Type 0
Rest s target all ws =
    (m : Map Page ℕ) (f : List (List ℕ)) (moved : List PageMove) → Midway s target all m f moved →
    Agrees (in_flight s m f) target (each_request (in_flight s m f) target ws) (decide (map (status_or_move s target) ws) moved (slice_index_or f target []) target)

module _ (s : State) (target : ℕ) (all : Bool) (ws : List Wanted) (rest : Rest s target all ws) (m : Map Page ℕ) (f : List (List ℕ)) (moved : List PageMove) (i : Midway s target all m f moved) where
  -- nothing moves
  no_move : (status : ℤ) → Agrees (in_flight s m f) target
      (then_each (record { state = in_flight s m f; status = status; taken = [] }) target ws)
      (then_decide (record { status = status; taken = []; front = slice_index_or f target [] }) (map (status_or_move s target) ws) moved target)
  no_move status = let r = subst (λ l. Agrees (in_flight s m f) target (each_request (in_flight s m f) target ws) (decide (map (status_or_move s target) ws) l (slice_index_or f target []) target)) (sym (append-nil moved)) (rest m f moved i) in record { statuses = ap (λ x. status ∷ x) r.statuses; taken = r.taken; state = r.state }

  -- the page takes the front, or nothing is free
  takes : (p : Page) (from : ℕ) → page_class s target all p (get page_cmp s.place p) ≡ Move p from → (front : List ℕ) → slice_index_or f target [] ≡ front → Agrees (in_flight s m f) target
      (then_each (moved_page (in_flight s m f) target p from front) target ws)
      (then_decide (take_front p from front target) (map (status_or_move s target) ws) moved target)
  takes p from class [] e =
      subst (λ l. Agrees (in_flight s m f) target (then_each (record { state = in_flight s m f; status = code Enomem; taken = [] }) target ws) (then_decide (record { status = code Enomem; taken = []; front = l }) (map (status_or_move s target) ws) moved target)) e (no_move (code Enomem))
  takes p from class (frame ∷ left) e =
      let t : PageMove = record { page = p; from = from; to = frame } in
      let r = subst (λ l. Agrees (in_flight s (set page_cmp m p frame) (slice_set f target left)) target (each_request (in_flight s (set page_cmp m p frame) (slice_set f target left)) target ws) (decide (map (status_or_move s target) ws) (moved ++ t ∷ []) l target))
      (list_now f target frame left e)
      (rest (set page_cmp m p frame) (slice_set f target left) (moved ++ t ∷ [])
      (midway_same s target all (set page_cmp m p frame) (slice_set f target left) (t ∷ moved) (moved ++ t ∷ []) (moved_at_end moved t) (after_move s target all m f moved i p from frame left class e))) in
      record {
        statuses = ap (λ x. pos target ∷ x) r.statuses;
        taken = ap (λ x. t ∷ x) r.taken;
        state = r.state ∙ ap (λ l. with_moves (in_flight s (set page_cmp m p frame) (slice_set f target (drop 1 l))) target (decide (map (status_or_move s target) ws) (moved ++ t ∷ []) left target).taken) (sym e);
      }

  step : (c now : Class) → Becomes target moved c now → IsItsClass s target all c → Agrees (in_flight s m f) target
      (then_each (decision (in_flight s m f) target now) target ws)
      (then_decide (choose c moved (slice_index_or f target []) target) (map (status_or_move s target) ws) moved target)
  unfolding Becomes IsItsClass
  step (Status status) now becomes class =
      subst (λ c. Agrees (in_flight s m f) target (then_each (decision (in_flight s m f) target c) target ws) (then_decide (choose (Status status) moved (slice_index_or f target []) target) (map (status_or_move s target) ws) moved target)) (sym becomes) (no_move status)
  step (Move p from) now becomes class =
      elim (has_moved moved p) as (λ b. MatchBool b (now ≡ Status (pos target)) (now ≡ Move p from) → Agrees (in_flight s m f) target
      (then_each (decision (in_flight s m f) target now) target ws)
      (then_decide (if b then record { status = pos target; taken = []; front = slice_index_or f target [] } else take_front p from (slice_index_or f target []) target) (map (status_or_move s target) ws) moved target)) [
        | true ↦ λ is. subst (λ c. Agrees (in_flight s m f) target (then_each (decision (in_flight s m f) target c) target ws) (then_decide (record { status = pos target; taken = []; front = slice_index_or f target [] }) (map (status_or_move s target) ws) moved target)) (sym is) (no_move (pos target))
        | false ↦ λ is. subst (λ c. Agrees (in_flight s m f) target (then_each (decision (in_flight s m f) target c) target ws) (then_decide (take_front p from (slice_index_or f target []) target) (map (status_or_move s target) ws) moved target)) (sym is) (takes p from class (slice_index_or f target []) refl)
      ] becomes

no_true : false ≡ true → ⊥
no_true e = cc

agree : (s : State) (target : ℕ) (all : Bool) (ws : List Wanted) → IsStrictlySortedBy nat_cmp (keys_of s.processes) → AllByRecursion (λ w. moves_all w ≡ all) ws → Rest s target all ws
agree s target all [] order h = λ m f moved i. record { statuses = refl; taken = refl; state = refl }
agree s target all (w ∷ ws) order h = λ m f moved i.
    let becomes = subst (λ c. Becomes target moved c (status_or_move (in_flight s m f) target w)) (looks_suffice s target w order)
    (subst (λ c. Becomes target moved (class_of s target w) c) (looks_suffice (in_flight s m f) target w order) (class_becomes s target all m f moved i w h.0)) in
    step s target all ws (agree s target all ws order h.1) m f moved i (status_or_move s target w) (status_or_move (in_flight s m f) target w) becomes
    (subst (IsItsClass s target all) (looks_suffice s target w order) (its_class s target all w h.0))

pub plan_agrees : (s : State) (target : ℕ) (ws : List Wanted) → IsStrictlySortedBy nat_cmp (keys_of s.processes) → OwnsItsFree s.layout s.free target → HasOneAll ws
    → Agrees s target (each_request s target ws) (decide (map (status_or_move s target) ws) [] (free_list s target) target)
plan_agrees s target ws order own h =
    agree s target h.0 ws order h.1 s.place s.free [] (record { places = λ q. refl; classes = λ q e. absurd (no_true e); own = own })
