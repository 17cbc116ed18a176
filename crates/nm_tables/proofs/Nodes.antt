-- What a node has after one of its parts is changed.
use Rattle.std.proofs.Common.{◌≡◌, ℕ, ◌≤◌, [], ◌∷◌, sym, ap, subst, ◌∙◌}
use Rattle.std.specs.Prelude.{Some, None, IsSome}
use Rattle.std.specs.Option.{option_map}
use Rattle.std.specs.List.Sorted.{IsStrictlySortedBy}
use Rattle.std.specs.Ordering.{nat_cmp}
use Rattle.std.specs.Cmp.{nat_cmp_total}
use Rattle.std.proofs.lemmas.Map.Lookups.{exact_unsigned}
use Rattle.nm_types.specs.Map.{Map, get, set, replace, without}
use Rattle.nm_types.proofs.Maps.{get-values, with_values-set, with_values-replace, with_values-without, with_values-replace_alike}
use Rattle.nm_types.proofs.Keys.{keys-replace, sorted-set, sorted-without}
use Rattle.nm_tables.specs.definitions.Tree.{flatten, IsPart, AreParts}
use Rattle.nm_tables.proofs.Joined.{get-joined, get-joined_none}
use Rattle.nm_tables.specs.definitions.Nodes.{slots_shown, IsNode, are_parts}
use Rattle.nm_tables.proofs.Changed.{all-found, all-replaced, all-put, all-taken, joined-set, joined-replace, joined-without, joined-gone, joined-new, without-nothing}

module _ {P V : Type 0} (entries : P → Map ℕ V) (number : ℕ → ℕ) (whole : P → Type 0) (is_in : P → ℕ → Type 0)
    (part : (x : P) (i : ℕ) → whole x → is_in x i → IsPart number i (entries x)) (upwards : (a b : ℕ) → a ≤ b → number a ≤ number b) (parts : Map ℕ P) (is : IsNode whole is_in parts) where
  are : AreParts number (slots_shown entries parts)
  are = are_parts entries number whole is_in part parts is

  pub found : (i : ℕ) (x : P) → get nat_cmp parts i ≡ Some x → whole x × is_in x i
  found i x h = all-found (λ i x. whole x × is_in x i) parts i x is.1 h

  at_shown : (i : ℕ) (x : P) → get nat_cmp parts i ≡ Some x → get nat_cmp (slots_shown entries parts) i ≡ Some (entries x)
  at_shown i x h = get-values exact_unsigned (λ i x. entries x) parts i ∙ ap (option_map entries) h

  none_shown : (i : ℕ) → get nat_cmp parts i ≡ None → get nat_cmp (slots_shown entries parts) i ≡ None
  none_shown i h = get-values exact_unsigned (λ i x. entries x) parts i ∙ ap (option_map entries) h

  shown-replace : (i : ℕ) (x : P) (m : Map ℕ V) → entries x ≡ m → flatten (slots_shown entries (replace nat_cmp parts i x)) ≡ flatten (replace nat_cmp (slots_shown entries parts) i m)
  shown-replace i x m e = ap flatten (with_values-replace exact_unsigned (λ i x. entries x) parts i x ∙ ap (replace nat_cmp (slots_shown entries parts) i) e)

  pub node-get : (v : ℕ) (x : P) → get nat_cmp parts (number v) ≡ Some x → get nat_cmp (flatten (slots_shown entries parts)) v ≡ get nat_cmp (entries x) v
  node-get v x h = get-joined number upwards (slots_shown entries parts) v (entries x) are (at_shown (number v) x h)

  pub node-get_none : (v : ℕ) → get nat_cmp parts (number v) ≡ None → get nat_cmp (flatten (slots_shown entries parts)) v ≡ None
  node-get_none v h = get-joined_none number upwards (slots_shown entries parts) v are.1 (none_shown (number v) h)

  -- the part that has the number of v is changed to y
  module _ (v : ℕ) (x y : P) (h : get nat_cmp parts (number v) ≡ Some x) where
    pub node-set : (e : V) → entries y ≡ set nat_cmp (entries x) v e → flatten (slots_shown entries (replace nat_cmp parts (number v) y)) ≡ set nat_cmp (flatten (slots_shown entries parts)) v e
    node-set e is = shown-replace (number v) y (set nat_cmp (entries x) v e) is ∙ joined-set number upwards (slots_shown entries parts) are v e (entries x) (at_shown (number v) x h)

    pub node-replace : (e : V) → entries y ≡ replace nat_cmp (entries x) v e → IsSome (get nat_cmp (flatten (slots_shown entries parts)) v)
        → flatten (slots_shown entries (replace nat_cmp parts (number v) y)) ≡ replace nat_cmp (flatten (slots_shown entries parts)) v e
    node-replace e is there =
        shown-replace (number v) y (replace nat_cmp (entries x) v e) is ∙ joined-replace number upwards (slots_shown entries parts) are v e (entries x) (at_shown (number v) x h) there

    pub node-without : entries y ≡ without nat_cmp (entries x) v → flatten (slots_shown entries (replace nat_cmp parts (number v) y)) ≡ without nat_cmp (flatten (slots_shown entries parts)) v
    node-without is = shown-replace (number v) y (without nat_cmp (entries x) v) is ∙ joined-without number upwards (slots_shown entries parts) are v (entries x) (at_shown (number v) x h)

  pub node-same : (v : ℕ) (x y : P) → get nat_cmp parts (number v) ≡ Some x → entries y ≡ entries x → flatten (slots_shown entries (replace nat_cmp parts (number v) y)) ≡ flatten (slots_shown entries parts)
  node-same v x y h e = ap flatten (with_values-replace_alike nat_cmp (λ i x. entries x) parts (number v) x y h (λ q. e))

  pub node-kept : (i : ℕ) (y : P) → whole y → is_in y i → IsNode whole is_in (replace nat_cmp parts i y)
  node-kept i y w n =
      (subst (IsStrictlySortedBy nat_cmp) (sym (keys-replace nat_cmp parts i y)) is.0, all-replaced (λ i x. whole x × is_in x i) parts i y is.1 (w, n))

  pub node-new : (v : ℕ) (y : P) (e : V) → get nat_cmp parts (number v) ≡ None → entries y ≡ (v, e) ∷ [] → flatten (slots_shown entries (set nat_cmp parts (number v) y)) ≡ set nat_cmp (flatten (slots_shown entries parts)) v e
  node-new v y e h is =
      ap flatten (with_values-set exact_unsigned (λ i x. entries x) parts (number v) y ∙ ap (set nat_cmp (slots_shown entries parts) (number v)) is)
      ∙ joined-new number upwards (slots_shown entries parts) are v e (none_shown (number v) h)

  pub node-more : (i : ℕ) (y : P) → whole y → is_in y i → IsNode whole is_in (set nat_cmp parts i y)
  node-more i y w n = (sorted-set nat_cmp nat_cmp_total parts i y is.0, all-put (λ i x. whole x × is_in x i) parts i y is.1 (w, n))

  -- a part that has nothing else is removed
  pub node-gone : (v : ℕ) (x : P) → get nat_cmp parts (number v) ≡ Some x → without nat_cmp (entries x) v ≡ []
      → flatten (slots_shown entries (without nat_cmp parts (number v))) ≡ without nat_cmp (flatten (slots_shown entries parts)) v
  node-gone v x h only =
      ap flatten (with_values-without nat_cmp (λ i x. entries x) parts (number v)) ∙ joined-gone number upwards (slots_shown entries parts) are v (entries x) (at_shown (number v) x h) only

  pub node-less : (i : ℕ) → IsNode whole is_in (without nat_cmp parts i)
  node-less i = (sorted-without nat_cmp parts i is.0, all-taken (λ i x. whole x × is_in x i) parts i is.1)

  pub node-without_nothing : (v : ℕ) → get nat_cmp parts (number v) ≡ None → without nat_cmp (flatten (slots_shown entries parts)) v ≡ flatten (slots_shown entries parts)
  node-without_nothing v h = without-nothing number upwards (slots_shown entries parts) are v (none_shown (number v) h)
