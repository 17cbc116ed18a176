-- The first item that is no step.
use Rattle.std.proofs.Common.{◌≡◌, ℕ, zero, suc, ◌<◌, List, ◌∷◌, Option, Some, None, IsSome, is_some, if◌then◌else◌, refl, arith}
use Rattle.serde_json.specs.Data.{Data, Items, no_items, item}
use Rattle.nm_requests.specs.Calls.{Call}
use Rattle.nm_steps.specs.Form.{◌>>=◌, each, step_of}
use Rattle.nm_steps.specs.Faults.{first_bad}
use Rattle.nm_steps.specs.Laws.{item_at, FirstBadIsLeast}

-- after an item that is a step
rest_fails : (call : Call) (rest : Option (List Call)) → (rest >>= λ xs. Some (call ∷ xs)) ≡ None → rest ≡ None
rest_fails call None h = refl
rest_fails call (Some calls) h = grind (arith, h)

module _ (limit : ℕ) where
  -- what is reported of items, where the first of them is this
  abbrev Told : Data → Items → Option Call → Type 0
  Told d ds o =
      let place = if is_some o then suc (first_bad limit ds) else 0 in
      ((e : Data) × (item_at (item d ds) place ≡ Some e) × (step_of limit e ≡ None))
      × ((k : ℕ) → k < place → (e : Data) × (item_at (item d ds) k ≡ Some e) × IsSome (step_of limit e))

  -- what is reported of the items after the first
  abbrev ToldBehind : Items → Type 0
  ToldBehind ds =
      ((e : Data) × (item_at ds (first_bad limit ds) ≡ Some e) × (step_of limit e ≡ None))
      × ((k : ℕ) → k < first_bad limit ds → (e : Data) × (item_at ds k ≡ Some e) × IsSome (step_of limit e))

  before : (d : Data) (ds : Items) (call : Call) → step_of limit d ≡ Some call → ToldBehind ds → (k : ℕ) → k < suc (first_bad limit ds) → (e : Data) × (item_at (item d ds) k ≡ Some e) × IsSome (step_of limit e)
  before d ds call is told zero lt = (d, refl, rw is refl)
  before d ds call is told (suc k) lt = told.1 k (omega (arith, lt))

  by_step : (d : Data) (ds : Items) (o : Option Call) → step_of limit d ≡ o → (o >>= λ x. each (step_of limit) ds >>= λ xs. Some (x ∷ xs)) ≡ None → (each (step_of limit) ds ≡ None → ToldBehind ds) → Told d ds o
  by_step d ds None is h rest = ((d, refl, is), λ k lt. absurd (omega (arith, lt)))
  by_step d ds (Some call) is h rest =
      let told = rest (rest_fails call (each (step_of limit) ds) h) in
      (told.0, before d ds call is told)

pub first_bad_is_least : FirstBadIsLeast
first_bad_is_least limit no_items h = grind (arith, h)
first_bad_is_least limit (item d ds) h = by_step limit d ds (step_of limit d) refl h (first_bad_is_least limit ds)
