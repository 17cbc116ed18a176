-- Where processes stand in their table.
use Rattle.std.proofs.Common.{◌≡◌, ℕ, List, true, false, cond, nat_eq, eqb-true, eq-eqb, slice_get, position, refl, sym, ap, subst, ◌∙◌}
use Rattle.std.specs.Prelude.{Option, Some, None, IsSome, IfSome}
use Rattle.std.specs.Option.{option_map}
use Rattle.std.specs.Map.{keys_of, values_of, lookup}
use Rattle.std.proofs.lemmas.List.Quantifiers.{position-Some}
use Rattle.std.proofs.lemmas.Option.{slice_get-map, slice_get-get_or}
use Rattle.std.specs.Cmp.{nat_eq_equiv}
use Rattle.std.specs.Ordering.{nat_cmp}
use Rattle.indexmap.specs.IndexMap.{IndexMap, IsUnique, with_value_at}
use Rattle.indexmap.proofs.CallerLemmas.{updates-with_value_at}
use Rattle.nm_types.specs.Map.{Map, replace}
use Rattle.nm_types.proofs.Cases.{none_some, some_is, true_false}
use Rattle.nm_model.specs.definitions.PageTables.{Task}
use Rattle.nm_spaces.specs.views.ProcessTable.{by_pid}
use Rattle.nm_spaces.proofs.ProcessTable.Changes.{rewritten}

module _ {V : Type 0} (es : List (ℕ × V)) where
  -- the key of an entry, as it is asked for
  pub key_there : (i p : ℕ) (e : ℕ × V) → Some e ≡ slice_get es i → nat_eq e.0 p ≡ true → slice_get (keys_of es) i ≡ Some p
  key_there i p e at same = slice_get-map (λ e. e.0) es i ∙ ap (option_map (λ e. e.0)) (sym at) ∙ ap Some (eqb-true e.0 p same)

  -- an entry with another key
  pub other_there : (i p : ℕ) (e : ℕ × V) → Some e ≡ slice_get es i → nat_eq e.0 p ≡ false → slice_get (keys_of es) i ≡ Some p → ⊥
  other_there i p e at other there =
      let same = some_is (ap (option_map (λ e. e.0)) at ∙ sym (slice_get-map (λ e. e.0) es i) ∙ there) in
      true_false (sym (eq-eqb e.0 p same) ∙ other)

  -- nothing stands where no entry does
  pub none_there : (i p : ℕ) → None ≡ slice_get es i → slice_get (keys_of es) i ≡ Some p → ⊥
  none_there i p at there = none_some (ap (option_map (λ e. e.0)) at ∙ sym (slice_get-map (λ e. e.0) es i) ∙ there)

  -- the value there is the one that is found by the key
  pub value_there : (i p : ℕ) (e : ℕ × V) → Some e ≡ slice_get es i → nat_eq e.0 p ≡ true → lookup (nat_eq e.0) es ≡ Some e.1 → slice_get (values_of es) i ≡ lookup (nat_eq p) es
  value_there i p e at same found =
      slice_get-map (λ e. e.1) es i ∙ ap (option_map (λ e. e.1)) (sym at) ∙ sym found ∙ ap (λ k. lookup (nat_eq k) es) (eqb-true e.0 p same)

  -- what is at the index of a key has that key
  pub key_found : (p i : ℕ) → position (nat_eq p) (keys_of es) ≡ Some i → slice_get (keys_of es) i ≡ Some p
  key_found p i at =
      let found = position-Some (nat_eq p) (keys_of es) i p at in
      slice_get-get_or (keys_of es) i p found.0 ∙ ap Some (sym (eqb-true p _ found.1))

  pub key_if_found : (p : ℕ) (r : Option ℕ) → r ≡ position (nat_eq p) (keys_of es) → IfSome r (λ i. slice_get (keys_of es) i ≡ Some p)
  key_if_found p None is = tt
  key_if_found p (Some i) is = key_found p i (sym is)

  -- an entry at the place of a key has that key
  pub same_key : (i p k : ℕ) (v : V) → slice_get (keys_of es) i ≡ Some p → slice_get es i ≡ Some (k, v) → k ≡ p
  same_key i p k v key at = some_is (sym (slice_get-map (λ e. e.0) es i ∙ ap (option_map (λ e. e.0)) at) ∙ key)

  -- the value there is found by that key
  pub found_there : (i p k : ℕ) (v : V) → slice_get (values_of es) i ≡ lookup (nat_eq p) es → slice_get es i ≡ Some (k, v) → Some v ≡ lookup (nat_eq p) es
  found_there i p k v found at = sym (slice_get-map (λ e. e.1) es i ∙ ap (option_map (λ e. e.1)) at) ∙ found

-- what a process becomes that is written at its place
pub written_there : {S : Type 0} (m : IndexMap ℕ Task S) (now : Map ℕ Task) (i p k : ℕ) (v w : Task) → by_pid m.entries ≡ now → IsUnique nat_eq m
    → slice_get (keys_of m.entries) i ≡ Some p → slice_get (values_of m.entries) i ≡ lookup (nat_eq p) m.entries → slice_get m.entries i ≡ Some (k, v)
    → by_pid (with_value_at m i w).entries ≡ replace nat_cmp now p w
written_there m now i p k v w same unique key found at =
    let es = m.entries in
    let updates = updates-with_value_at m i w nat_eq_equiv unique k v at in
    rewritten es (with_value_at m i w).entries now p w same (subst IsSome (found_there es i p k v found at) refl) (λ q.
    updates.0 q ∙ ap (λ n. cond (nat_eq n q) (Some w) (lookup (nat_eq q) es)) (same_key es i p k v key at))
