use Rattle.std.proofs.Common.{◌≡◌, ℕ, true, false, cond, List, [], ◌∷◌, Option, Some, length, refl, ap, ◌∙◌}
use Rattle.std.specs.Prelude.{◌==◌, find, not, slice_index_or}
use Rattle.nm_types.specs.Layout.{Layout}
use Rattle.nm_types.specs.Nodes.{is_in}
use Rattle.nm_model.specs.definitions.Order.{first_touch_order}
use Rattle.nm_model.specs.definitions.Touch.{first_free, has_free}
use Rattle.nm_engine.proofs.touch.first_node.Goals as goal

-- the first node of a set, where that has the nodes with a free frame
found_first : (free : List (List ℕ)) (nodes order : List ℕ) → ((n : ℕ) → is_in nodes n ≡ has_free free n) → find (is_in nodes) order ≡ first_free free order
found_first free nodes [] same = refl
found_first free nodes (n ∷ ns) same =
    ap (λ b. cond b (Some n) (find (is_in nodes) ns)) (same n)
    ∙ ap (λ (o : Option ℕ). cond (has_free free n) (Some n) o) (found_first free nodes ns same)
    ∙ (elim (length (slice_index_or free n []) == 0) as (λ b. cond (not b) (Some n) (first_free free ns) ≡ cond b (first_free free ns) (Some n)) [
      | true ↦ refl
      | false ↦ refl
    ])

pub returns : goal.returns
returns g c =
    let k = c.args.frames.now in
    let t = c.args.t.now in
    let order = λ (layout : Layout) (online : List ℕ). first_touch_order layout online t.info.home t.info.allowed t.policy t.page.index in
    c.first_touch_node.ensures
    ∙ found_first k.free c.free_nodes-free.result (order c.geometry-geometry.result.now c.args.online) c.free_nodes-free.ensures
    ∙ ap (λ layout. first_free k.free (order layout c.args.online)) c.geometry-geometry.ensures
