-- Worked examples of orders of nodes, and of plans.
use Rattle.std.specs.Prelude.{◌≡◌, ℕ, pos, negsuc, List, [], ◌∷◌, map, Some, None}
use Rattle.nm_types.specs.declared.page.Page.{Page}
use Rattle.nm_types.specs.declared.area.Policy.TheVariants.{Preferred, Bind, Interleave}
use Rattle.nm_types.specs.Layout.{Layout}
use Rattle.nm_model.specs.definitions.Order.{zonelist, first_touch_order}
use Rattle.nm_types.specs.declared.request.Class.{Class}
use Rattle.nm_types.specs.declared.request.Class.TheVariants.{Status, Move}
use Rattle.nm_model.specs.definitions.Decide.{decide, moves, shortage}

-- three nodes, with node 2 in the middle
abbrev pub middle_node_two : Layout
middle_node_two =
    let distances : List (List ℕ) = (10 ∷ 30 ∷ 20 ∷ []) ∷ (30 ∷ 10 ∷ 20 ∷ []) ∷ (20 ∷ 20 ∷ 10 ∷ []) ∷ [] in
    record { sizes = 4 ∷ 4 ∷ 4 ∷ []; distances = distances }

-- from each node, and then with node 2 offline
abbrev pub NodesAreOrderedByDistance : Type 0
NodesAreOrderedByDistance =
    (map (zonelist middle_node_two (0 ∷ 1 ∷ 2 ∷ [])) (0 ∷ 1 ∷ 2 ∷ [])
    ≡ (0 ∷ 2 ∷ 1 ∷ []) ∷ (1 ∷ 2 ∷ 0 ∷ []) ∷ (2 ∷ 0 ∷ 1 ∷ []) ∷ [])
    × (map (zonelist middle_node_two (0 ∷ 1 ∷ [])) (0 ∷ 2 ∷ []) ≡ (0 ∷ 1 ∷ []) ∷ (0 ∷ 1 ∷ []) ∷ [])

-- BIND tries its own nodes only, PREFERRED its own node first, and INTERLEAVE begins with the node whose turn it is
abbrev pub PolicyOrdersTheNodes : Type 0
PolicyOrdersTheNodes =
    let all : List ℕ = 0 ∷ 1 ∷ 2 ∷ [] in
    (first_touch_order middle_node_two all 0 all (Bind (1 ∷ 2 ∷ [])) 0 ≡ 2 ∷ 1 ∷ [])
    × (first_touch_order middle_node_two all 0 all (Preferred 1) 0 ≡ 1 ∷ 2 ∷ 0 ∷ [])
    × (first_touch_order middle_node_two all 0 all (Interleave (0 ∷ 1 ∷ [])) 3 ≡ 1 ∷ 2 ∷ 0 ∷ [])

-- a page of the first segment
abbrev pub page : ℕ → Page
page index = record { segment = 0; index = index }

-- seven requests, in which two pages appear twice
abbrev pub classes : List Class
classes =
    Move (page 0) 0 ∷ Status (negsuc 12) ∷ Move (page 1) 1 ∷ Move (page 0) 0 ∷ Move (page 2) 2 ∷ Status (pos 1)
    ∷ Move (page 2) 2 ∷ []

-- a page that appears again takes no other frame
abbrev pub PlanResolvesRepeats : Type 0
PlanResolvesRepeats =
    let plan = decide classes [] (6 ∷ 7 ∷ []) 1 in
    (plan.statuses ≡ pos 1 ∷ negsuc 12 ∷ pos 1 ∷ pos 1 ∷ negsuc 11 ∷ pos 1 ∷ negsuc 11 ∷ [])
    × (moves plan ≡ (0, 6) ∷ (1, 7) ∷ []) × (shortage classes plan ≡ Some 4)

-- without free frames nothing moves
abbrev pub PlanWithoutFrames : Type 0
PlanWithoutFrames =
    let plan = decide (Move (page 0) 0 ∷ []) [] [] 1 in
    (plan.statuses ≡ negsuc 11 ∷ []) × (moves plan ≡ []) × (shortage (Move (page 0) 0 ∷ []) plan ≡ Some 0)

-- without requests there is nothing to decide
abbrev pub PlanWithoutRequests : Type 0
PlanWithoutRequests =
    let plan = decide [] [] (6 ∷ []) 1 in
    (plan ≡ record { statuses = []; taken = [] }) × (shortage [] plan ≡ None)
