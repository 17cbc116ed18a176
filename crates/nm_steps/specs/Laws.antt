-- What holds of the faults of steps.
use Rattle.std.specs.Prelude.{◌≡◌, ℕ, zero, suc, ◌<◌, Option, Some, None, IsSome}
use Rattle.serde_json.specs.Data.{Data, Items, no_items, item}
use Rattle.nm_steps.specs.Form.{each, step_of}
use Rattle.nm_steps.specs.Faults.{first_bad}

-- the item at an index
abbrev pub item_at : Items → ℕ → Option Data
item_at no_items k = None
item_at (item d ds) zero = Some d
item_at (item d ds) (suc k) = item_at ds k

-- if not every item is a step, the one that is reported is not, and all before it are
abbrev pub FirstBadIsLeast : Type 0
FirstBadIsLeast =
    (limit : ℕ) (ds : Items) → each (step_of limit) ds ≡ None →
    ((d : Data) × (item_at ds (first_bad limit ds) ≡ Some d) × (step_of limit d ≡ None))
    × ((k : ℕ) → k < first_bad limit ds → (d : Data) × (item_at ds k ≡ Some d) × IsSome (step_of limit d))
