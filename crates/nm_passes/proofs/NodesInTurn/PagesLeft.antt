-- The nodes that the pages left are on, and what that means for the next pass.
use Rattle.std.proofs.Common.{arith, ◌≡◌, ℕ, ◌+◌, ◌<◌, ◌≤◌, Bool, true, false, not, ◌&&◌, ◌||◌, is_none, List, [], ◌∷◌, ◌++◌, length, take, get_or, refl, sym, ap, subst, ◌∙◌}
use Rattle.std.proofs.lemmas.Bool.{eqb-true, eq-eqb}
use Rattle.std.proofs.lemmas.List.{take_more}
use Rattle.std.proofs.lemmas.List.Elements.{All-push, recursion_from_All}
use Rattle.std.specs.Prelude.{Option, Some, None, Result, Ok, Err, IfSome, Any, pos, ◌==◌, if◌then◌else◌}
use Rattle.std.specs.Option.{unwrap_or, option_map}
use Rattle.std.specs.List.{AllByRecursion}
use Rattle.std.specs.Ordering.{nat_cmp}
use Rattle.std.specs.BTreeSet.{insert_key}
use Rattle.nm_types.specs.declared.errno.Errno.{Errno}
use Rattle.nm_types.specs.declared.errno.Errno.TheVariants.{Enoent, Eacces, Ebusy}
use Rattle.nm_types.specs.declared.page.Page.{Page}
use Rattle.nm_types.specs.Map.{get, page_cmp}
use Rattle.nm_types.specs.Layout.{node_of}
use Rattle.nm_types.specs.Nodes.{is_in}
use Rattle.nm_types.specs.State.{State, free_list}
use Rattle.nm_types.proofs.Cases.{true_false, some_is}
use Rattle.nm_types.proofs.Members.{is_in_insert}
use Rattle.nm_types.specs.declared.request.Class.{Class}
use Rattle.nm_types.specs.declared.request.Class.TheVariants.{Status, Move}
use Rattle.nm_types.specs.declared.request.Wanted.{Wanted}
use Rattle.nm_types.specs.declared.request.Wanted.TheVariants.{At as Spot, Whole}
use Rattle.nm_model.specs.definitions.Seen.{is_pinned, page_seen}
use Rattle.nm_model.specs.definitions.Status.{code, others_see, page_status, seen_status}
use Rattle.nm_model.specs.definitions.Status.{node_or_error, node_status}
use Rattle.nm_model.specs.definitions.Touch.{has_free}
use Rattle.nm_model.specs.definitions.Run.{with_counts}
use Rattle.nm_passes.specs.laws.Full.{StandsOn, StandAmong, EachHasSome, AreStanding, HasFailed, WouldMove}
use Rattle.nm_passes.proofs.NodesInTurn.FullNodes.{class_counted, all_elsewhere_move}
use Rattle.nm_passes.proofs.NodesInTurn.Passes.{nothing_is}

-- a page has the status of its target where its frame is there
stands_by_tests : (target : ℕ) (p : Page) (frame node : ℕ) (here kept pinned : Bool) → (node == target) ≡ here
    → (if here then Status (pos target) else (if kept then Status (code Eacces) else (if pinned then Status (code Ebusy) else Move p frame))) ≡ Status (pos target) → node ≡ target
stands_by_tests target p frame node true kept pinned b h = eqb-true node target b
stands_by_tests target p frame node false true pinned b h = cc
stands_by_tests target p frame node false false true b h = cc
stands_by_tests target p frame node false false false b h = cc

page_stands : (s : State) (target : ℕ) (kept : Bool) (p : Page) (o : Option ℕ) → page_status s target kept p o ≡ Status (pos target) → option_map (node_of s.layout) o ≡ Some target
page_stands s target kept p None h = cc
page_stands s target kept p (Some frame) h =
    let node = node_of s.layout frame in
    ap (λ n. Some n) (stands_by_tests target p frame node (node == target) kept (is_pinned s p) refl h)

frame_stands : (s : State) (target : ℕ) (kept : Bool) (p : Page) (o : Option ℕ) → page_status s target kept p o ≡ Status (pos target) → unwrap_or (option_map (λ frame. pos (node_of s.layout frame)) o) (code Enoent) ≡ pos target
frame_stands s target kept p None h = cc
frame_stands s target kept p (Some frame) h = ap pos (some_is (page_stands s target kept p (Some frame) h))

seen_stands : (s : State) (target pid : ℕ) (all : Bool) (r : Result Page Errno) → seen_status s target pid all r ≡ Status (pos target) → node_or_error s r ≡ pos target
seen_stands s target pid all (Err e) h = cc
seen_stands s target pid all (Ok p) h = frame_stands s target (others_see s pid p && not all) p (get page_cmp s.place p) h

-- a page requested by address is where its status says
pub spot_stands : (s : State) (target pid v : ℕ) (all : Bool) → StandsOn s target (Spot pid v all) → node_status s pid v ≡ pos target
spot_stands s target pid v all h = seen_stands s target pid all (page_seen s pid v) h

-- a page requested by name is where its frame is
pub whole_stands : (s : State) (target : ℕ) (p : Page) → StandsOn s target (Whole p) → option_map (node_of s.layout) (get page_cmp s.place p) ≡ Some target
whole_stands s target p h = page_stands s target false p (get page_cmp s.place p) h

or_true : (a : Bool) → (a || true) ≡ true
or_true true = refl
or_true false = refl

-- and where the frame is there, that is the status
stands_at : (target node : ℕ) (other : Class) → node ≡ target → (if node == target then Status (pos target) else other) ≡ Status (pos target)
stands_at target node other e = ap (λ b. if b then Status (pos target) else other) (eq-eqb node target e)

page_there : (s : State) (target : ℕ) (kept : Bool) (p : Page) (o : Option ℕ) → option_map (node_of s.layout) o ≡ Some target → page_status s target kept p o ≡ Status (pos target)
page_there s target kept p None h = cc
page_there s target kept p (Some frame) h = stands_at target (node_of s.layout frame) _ (some_is h)

frame_there : (s : State) (target : ℕ) (kept : Bool) (p : Page) (o : Option ℕ) → unwrap_or (option_map (λ frame. pos (node_of s.layout frame)) o) (code Enoent) ≡ pos target → page_status s target kept p o ≡ Status (pos target)
frame_there s target kept p None h = cc
frame_there s target kept p (Some frame) h = let same : node_of s.layout frame ≡ target = cc in stands_at target (node_of s.layout frame) _ same

seen_there : (s : State) (target pid : ℕ) (all : Bool) (r : Result Page Errno) → node_or_error s r ≡ pos target → seen_status s target pid all r ≡ Status (pos target)
seen_there s target pid all (Err e) h = cc
seen_there s target pid all (Ok p) h = frame_there s target (others_see s pid p && not all) p (get page_cmp s.place p) h

pub spot_there : (s : State) (target pid v : ℕ) (all : Bool) → node_status s pid v ≡ pos target → StandsOn s target (Spot pid v all)
spot_there s target pid v all h = seen_there s target pid all (page_seen s pid v) h

pub whole_there : (s : State) (target : ℕ) (p : Page) → option_map (node_of s.layout) (get page_cmp s.place p) ≡ Some target → StandsOn s target (Whole p)
whole_there s target p h = page_there s target false p (get page_cmp s.place p) h

-- the nodes of what was asked first
abbrev OnAmong : State → List ℕ → Wanted → Type 0
OnAmong s nodes w = (node : ℕ) → node < 64 → StandsOn s node w → is_in nodes node ≡ true

among_push : (s : State) (nodes : List ℕ) (ws : List Wanted) (k : ℕ) (w : Wanted) → k < length ws → w ≡ get_or ws k w → StandAmong s nodes (take k ws) → OnAmong s nodes w → StandAmong s nodes (take (k + 1) ws)
among_push s nodes ws k w lt is front here =
    subst (StandAmong s nodes) (sym (take_more ws k w lt ∙ ap (λ x. take k ws ++ x ∷ []) (sym is)))
    (All-push (OnAmong s nodes) (take k ws) w front here)

-- a page that is on a node, which is added ..
pub stands_there : (s : State) (nodes : List ℕ) (ws : List Wanted) (k : ℕ) (w : Wanted) (node : ℕ) → k < length ws → w ≡ get_or ws k w → StandAmong s nodes (take k ws) → ((m : ℕ) → StandsOn s m w → Some node ≡ Some m) → StandAmong s (insert_key nat_cmp nodes node) (take (k + 1) ws)
stands_there s nodes ws k w node lt is front on =
    among_push s (insert_key nat_cmp nodes node) ws k w lt is
    (λ j d below m few h. is_in_insert nodes node m ∙ ap (λ b. (node == m) || b) (front j d below m few h) ∙ or_true (node == m))
    (λ m few h. is_in_insert nodes node m ∙ ap (λ b. b || is_in nodes m) (eq-eqb node m (some_is (on m h))))

-- .. and then has some
pub some_there : (s : State) (nodes : List ℕ) (ws : List Wanted) (k : ℕ) (w : Wanted) (node : ℕ) → k < length ws → w ≡ get_or ws k w → EachHasSome s nodes ws → StandsOn s node w → EachHasSome s (insert_key nat_cmp nodes node) ws
some_there s nodes ws k w node lt is had on = λ m h.
    elim (node == m) as (λ b. (node == m) ≡ b → (b || is_in nodes m) ≡ true → Any (StandsOn s m) ws) [
      | true ↦ λ e r. subst (λ (n : ℕ). Any (StandsOn s n) ws) (eqb-true node m e) (k, w, lt, sym is, on)
      | false ↦ λ e r. had m r
    ] refl (sym (is_in_insert nodes node m) ∙ h)

-- .. or on none below 64
pub stands_nowhere : (s : State) (nodes : List ℕ) (ws : List Wanted) (k : ℕ) (w : Wanted) → k < length ws → w ≡ get_or ws k w → StandAmong s nodes (take k ws) → ((m : ℕ) → m < 64 → StandsOn s m w → ⊥) → StandAmong s nodes (take (k + 1) ws)
stands_nowhere s nodes ws k w lt is front off =
    among_push s nodes ws k w lt is front (λ m few h. absurd (off m few h))

-- if a node is none of those, no page is on it
pub none_there : (s : State) (nodes : List ℕ) (node : ℕ) (ws : List Wanted) → node < 64 → is_in nodes node ≡ false → StandAmong s nodes ws → AllByRecursion (λ w. StandsOn s node w → ⊥) ws
none_there s nodes node ws few out among =
    recursion_from_All (λ w. StandsOn s node w → ⊥) ws (λ k d lt on. true_false (sym (among k d lt node few on) ∙ out))

-- so all that has failed would move there
pub all_would_move : (s : State) (nodes : List ℕ) (node : ℕ) (ws : List Wanted) → node < 64 → is_in nodes node ≡ false → StandAmong s nodes ws → HasFailed s ws → AllByRecursion (WouldMove s node) ws
all_would_move s nodes node ws few out among failed =
    all_elsewhere_move s failed.0 node ws failed.1 (none_there s nodes node ws few out among)

-- a node that has no free frame has an empty list
pub none_free : (s : State) (node : ℕ) → has_free s.free node ≡ false → free_list s node ≡ []
none_free s node h = nothing_is (free_list s node) (length (free_list s node)) refl (not_false (length (free_list s node) == 0) h)
  where
    not_false : (b : Bool) → not b ≡ false → b ≡ true
    not_false true e = refl
    not_false false e = cc

-- failures that are counted change nothing of this
among_counted : (s : State) (m n : ℕ) (nodes : List ℕ) (ws : List Wanted) → StandAmong s nodes ws → StandAmong (with_counts s m n) nodes ws
among_counted s m n nodes ws among k d lt node few on =
    let w = get_or ws k d in
    among k d lt node few (sym (class_counted s m n node w) ∙ on)

pub some_counted : (s : State) (m n : ℕ) (nodes : List ℕ) (ws : List Wanted) → EachHasSome s nodes ws → EachHasSome (with_counts s m n) nodes ws
some_counted s m n nodes ws some = λ node h.
    let one = some node h in
    (one.0, one.1, one.2, one.3, class_counted s m n node one.1 ∙ one.4)

pub standing_counted : (s : State) (m n : ℕ) (nodes : List ℕ) (ws : List Wanted) → AreStanding s nodes ws → AreStanding (with_counts s m n) nodes ws
standing_counted s m n nodes ws are = record {
  all = among_counted s m n nodes ws are.all;
  some = some_counted s m n nodes ws are.some;
}

pub move_counted : (s : State) (m n node : ℕ) (ws : List Wanted) → AllByRecursion (WouldMove s node) ws → AllByRecursion (WouldMove (with_counts s m n) node) ws
move_counted s m n node [] h = tt
move_counted s m n node (w ∷ ws) h =
    ((h.0.0, h.0.1, class_counted s m n node w ∙ h.0.2), move_counted s m n node ws h.1)

-- a node of 64 or above is not below 64
pub past_all : (number node m : ℕ) → 64 ≤ number → number ≡ node → node ≡ m → m < 64 → ⊥
past_all number node m past is same few = omega (arith, past, is, same, few)

pub none_is : (m : ℕ) → None ≡ Some m → ⊥
none_is m e = cc

-- what is said of some nodes, said of others that are the same
pub standing_if : (s : State) (o : Option (List ℕ)) (nodes : List ℕ) (ws : List Wanted) → IfSome o (λ ns. AreStanding s ns ws) → o ≡ Some nodes → AreStanding s nodes ws
standing_if s None nodes ws h e = absurd (true_false (ap (λ (o : Option (List ℕ)). is_none o) e))
standing_if s (Some ns) nodes ws h e = subst (λ ns. AreStanding s ns ws) (some_is e) h
