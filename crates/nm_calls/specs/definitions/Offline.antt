-- Taking nodes offline and bringing them online: what is refused, and which pages move.
use Rattle.std.specs.Prelude.{◌≡◌, ℕ, nat_le, Bool, ◌&&◌, List, [], ◌∷◌, map, Option, if◌then◌else◌}
use Rattle.std.specs.List.{list_any}
use Rattle.nm_types.specs.declared.errno.Errno.{Errno}
use Rattle.nm_types.specs.declared.errno.Errno.TheVariants.{Ebusy, Einval}
use Rattle.nm_types.specs.Layout.{node_count}
use Rattle.nm_types.specs.Nodes.{is_in, without_node}
use Rattle.nm_types.specs.State.{State}
use Rattle.nm_model.specs.definitions.Order.{zonelist}
use Rattle.nm_types.specs.declared.request.Wanted.{Wanted}
use Rattle.nm_types.specs.declared.request.Wanted.TheVariants.{Whole}
use Rattle.nm_model.specs.definitions.Cut.{Stretch}
use Rattle.nm_model.specs.definitions.Run.{runs_from}
use Rattle.nm_model.specs.definitions.Seen.{placed_on}
use Rattle.nm_model.specs.definitions.Effect.{first_error}
use Rattle.nm_passes.specs.definitions.Listing.{is_on}
use Rattle.nm_passes.specs.definitions.Passes.{passes}
use Rattle.nm_passes.specs.definitions.Permission.{is_none}

-- EINVAL: no such node; EBUSY: no other node is online
abbrev pub offline_refusal : State → ℕ → Option Errno
offline_refusal s node =
    let only = is_in s.online node && is_none (without_node s.online node) in
    first_error ((nat_le (node_count s.layout) node, Einval) ∷ (only, Ebusy) ∷ [])

-- the other online nodes, by their distance from a node
abbrev pub refuges : State → ℕ → List ℕ
refuges s node = zonelist s.layout (without_node s.online node) node

-- the runs: passes over those nodes, with all pages of the node. None for a node that is offline already
abbrev pub offline_runs : ℕ → State → ℕ → List Stretch
offline_runs limit s node =
    if is_in s.online node then passes limit s (refuges s node) (map Whole (placed_on s node)) else []

-- whether a page of a node that was online before the moves is still on it after them
abbrev pub still_on : State → State → ℕ → Bool
still_on old new node = is_in old.online node && list_any (is_on new node) (placed_on old node)

-- a state with other nodes online
abbrev pub with_online : List ℕ → State → State
with_online online s = record s { online = online }

-- runs do not depend on which nodes are online: a node may go offline before its pages leave it, or after
pub record RunsIgnoreOnline : Type 0 where
  pub runs :
      (s : State) (online : List ℕ) (runs : List Stretch) → let made = runs_from 0 s runs [] in
      runs_from 0 (with_online online s) runs [] ≡ record made { state = with_online online made.state }
  pub passes :
      (limit : ℕ) (s : State) (online : List ℕ) (nodes : List ℕ) (wanted : List Wanted) →
      passes limit (with_online online s) nodes wanted ≡ passes limit s nodes wanted
