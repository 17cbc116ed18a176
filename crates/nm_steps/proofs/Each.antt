-- Reading the items of a list one after the other, as a loop does.
use Rattle.std.proofs.Common.{◌≡◌, ℕ, zero, suc, ◌+◌, ◌≤◌, ◌<◌, List, [], ◌∷◌, ◌++◌, Bool, true, Option, Some, None, is_some, length, get_or, drop, option_map, refl, sym, ap, ◌∙◌, append_assoc, add-one, drop-cons, arith}
use Rattle.std.proofs.lemmas.List.{append-nil, drop_all}
use Rattle.serde_json.specs.Data.{Data}
use Rattle.nm_steps.specs.Lists.{items_seen}
use Rattle.nm_steps.specs.declared.step_error.StepError.{StepError}
use Rattle.nm_steps.specs.declared.step_error.StepError.TheVariants.{Bad, Memory}
use Rattle.nm_requests.specs.Calls.{Call}
use Rattle.nm_steps.specs.Form.{◌>>=◌, each, step_of}
use Rattle.nm_steps.specs.Faults.{first_bad}
use Rattle.nm_steps.specs.Memory.{starts, begins}
use Rattle.nm_steps.specs.Gives.{FailsStep}

-- what was read before, and what is still read
abbrev pub with_front : {A : Type 0} → List A → Option (List A) → Option (List A)
with_front front rest = option_map (λ xs. front ++ xs) rest

regroup : {A : Type 0} (front : List A) (x : A) (rest : Option (List A)) → with_front front (rest >>= λ xs. Some (x ∷ xs)) ≡ with_front (front ++ x ∷ []) rest
regroup front x (Some xs) = ap Some (simp append_assoc)
regroup front x None = refl

module _ {A V : Type 0} (f : Data → Option A) (front : List A) (view : V → Data) (vs : List V) (i : ℕ) (v : V) (total : Option (List A)) (lt : i < length vs) (is : v ≡ get_or vs i v) where
  split : drop i vs ≡ v ∷ drop (i + 1) vs
  split = rw (add-one, drop-cons vs i v) (ap (λ w. w ∷ drop (suc i) vs) (sym is))

  pub goes_on : (x : A) → f (view v) ≡ Some x → with_front front (each f (items_seen view (drop i vs))) ≡ total → with_front (front ++ x ∷ []) (each f (items_seen view (drop (i + 1) vs))) ≡ total
  goes_on x h so_far =
      let one : with_front front (each f (items_seen view (drop i vs))) ≡ with_front (front ++ x ∷ []) (each f (items_seen view (drop (i + 1) vs))) = rw (split, h) (regroup front x (each f (items_seen view (drop (i + 1) vs)))) in
      sym one ∙ so_far

  pub ends : (e : StepError) → FailsStep e (f (view v)) → with_front front (each f (items_seen view (drop i vs))) ≡ total → FailsStep e total
  ends Memory h so_far = tt
  ends Bad h so_far =
      let one : with_front front (each f (items_seen view (drop i vs))) ≡ None = rw (split, h) refl in
      sym so_far ∙ one

-- the first item can be read, as this one can, and the first if this is a later one
pub starts_by : {A V : Type 0} (f : Data → Option A) (view : V → Data) (vs : List V) (i : ℕ) (v : V) → i < length vs → v ≡ get_or vs i v → is_some (f (view v)) ≡ true → (0 < i → starts f (items_seen view vs) ≡ true) → starts f (items_seen view vs) ≡ true
starts_by f view [] i v lt is h before = absurd (omega (arith, lt))
starts_by f view (w ∷ ws) zero v lt is h before = ap (λ u. is_some (f (view u))) (sym is) ∙ h
starts_by f view (w ∷ ws) (suc i) v lt is h before = before (omega arith)

-- the first item is such a one, as this one is, and the first if this is a later one
pub begins_by : {V : Type 0} (such : Data → Bool) (view : V → Data) (vs : List V) (i : ℕ) (v : V) → i < length vs → v ≡ get_or vs i v → such (view v) ≡ true → (0 < i → begins such (items_seen view vs) ≡ true) → begins such (items_seen view vs) ≡ true
begins_by such view [] i v lt is h before = absurd (omega (arith, lt))
begins_by such view (w ∷ ws) zero v lt is h before = ap (λ u. such (view u)) (sym is) ∙ h
begins_by such view (w ∷ ws) (suc i) v lt is h before = before (omega arith)

pub is_done : {A V : Type 0} (f : Data → Option A) (front : List A) (view : V → Data) (vs : List V) (i : ℕ) (total : Option (List A)) → length vs ≤ i → with_front front (each f (items_seen view (drop i vs))) ≡ total → total ≡ Some front
is_done f front view vs i total le so_far =
    let none : drop i vs ≡ [] = drop_all i vs le in
    let one : with_front front (each f (items_seen view (drop i vs))) ≡ Some front = rw none (ap Some (append-nil front)) in
    sym so_far ∙ one

-- the first item that is no step comes after one that is a step
pub is_later : {V : Type 0} (limit : ℕ) (view : V → Data) (vs : List V) (i : ℕ) (v : V) → i < length vs → v ≡ get_or vs i v → (call : Call) → step_of limit (view v) ≡ Some call → (place : ℕ) → i + first_bad limit (items_seen view (drop i vs)) ≡ place → (i + 1) + first_bad limit (items_seen view (drop (i + 1) vs)) ≡ place
is_later limit view vs i v lt is call h place so_far =
    let split : drop i vs ≡ v ∷ drop (i + 1) vs = rw (add-one, drop-cons vs i v) (ap (λ w. w ∷ drop (suc i) vs) (sym is)) in
    let one : first_bad limit (items_seen view (drop i vs)) ≡ suc (first_bad limit (items_seen view (drop (i + 1) vs))) = rw (split, h) refl in
    omega (arith, one, so_far)

-- an item that is no step is the first
pub is_here : {V : Type 0} (limit : ℕ) (view : V → Data) (vs : List V) (i : ℕ) (v : V) → i < length vs → v ≡ get_or vs i v → step_of limit (view v) ≡ None → (place : ℕ) → i + first_bad limit (items_seen view (drop i vs)) ≡ place → place ≡ i
is_here limit view vs i v lt is h place so_far =
    let split : drop i vs ≡ v ∷ drop (i + 1) vs = rw (add-one, drop-cons vs i v) (ap (λ w. w ∷ drop (suc i) vs) (sym is)) in
    let one : first_bad limit (items_seen view (drop i vs)) ≡ 0 = rw (split, h) refl in
    omega (arith, one, so_far)
