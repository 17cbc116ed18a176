-- A walk over the parts of a node.
use Rattle.std.proofs.Common.{◌≡◌, ℕ, ◌≤◌, ◌<◌, [], ◌∷◌, true, false, cond, refl, sym, ap, subst, ◌∙◌, arith}
use Rattle.std.specs.Prelude.{Some, None, Bool, not, ◌&&◌}
use Rattle.std.specs.List.{AllByRecursion, filter}
use Rattle.std.specs.List.Sorted.{IsStrictlySortedBy}
use Rattle.std.specs.Map.{keys_of}
use Rattle.std.specs.Ordering.{nat_cmp, is_le}
use Rattle.std.specs.Cmp.{ranked}
use Rattle.std.specs.declared.cmp.Ordering.TheVariants.{Less, Equal, Greater}
use Rattle.std.specs.declared.ops.Bound.TheVariants.{Included, Unbounded}
use Rattle.std.specs.BTreeMap.Range.{entries_between, range_contains}
use Rattle.nm_types.specs.Map.{Map, get}
use Rattle.nm_types.proofs.Maps.{keys-values}
use Rattle.nm_types.proofs.Cases.{none_some}
use Rattle.nm_tables.specs.definitions.Tree.{flatten, IsPart}
use Rattle.nm_tables.specs.laws.Orders.{keys_above}
use Rattle.nm_tables.proofs.Joined.{one_or_other, get-here, get-later, get-absent, get-append_some, get-append_none, none_elsewhere}
use Rattle.nm_tables.specs.definitions.Nodes.{slots_shown, IsNode, are_parts}
use Rattle.nm_tables.proofs.Nodes.{node-get, node-get_none}

pub from_it : (a k : ℕ) → a ≤ k → is_le (nat_cmp a k) ≡ true
from_it a k l =
    elim (nat_cmp a k) as (λ r. nat_cmp a k ≡ r → is_le r ≡ true) [
      | Less ↦ λ r. refl
      | Equal ↦ λ r. refl
      | Greater ↦ λ r. let g : k < a = ranked a k Greater (sym r) in absurd (omega (arith, l, g))
    ] refl

pub passes : (a k : ℕ) → a ≤ k → range_contains nat_cmp (Included a) Unbounded k ≡ true
passes a k l = ap (λ b. b && not false) (from_it a k l)

module _ {P : Type 0} (p : ℕ → Bool) where
  pub all-filter : (Q : ℕ × P → Type 0) (ps : Map ℕ P) → AllByRecursion Q ps → AllByRecursion Q (filter (λ e. p e.0) ps)
  all-filter Q [] h = tt
  all-filter Q (e ∷ ps) h = elim (p e.0) as (λ b. AllByRecursion Q (cond b (e ∷ filter (λ e. p e.0) ps) (filter (λ e. p e.0) ps))) [ true ↦ (h.0, all-filter Q ps h.1) | false ↦ all-filter Q ps h.1 ]

  keys-filter : (Q : ℕ → Type 0) (ps : Map ℕ P) → AllByRecursion Q (keys_of ps) → AllByRecursion Q (keys_of (filter (λ e. p e.0) ps))
  keys-filter Q [] h = tt
  keys-filter Q (e ∷ ps) h = elim (p e.0) as (λ b. AllByRecursion Q (keys_of (cond b (e ∷ filter (λ e. p e.0) ps) (filter (λ e. p e.0) ps)))) [ true ↦ (h.0, keys-filter Q ps h.1) | false ↦ keys-filter Q ps h.1 ]

  pub sorted-filter : (ps : Map ℕ P) → IsStrictlySortedBy nat_cmp (keys_of ps) → IsStrictlySortedBy nat_cmp (keys_of (filter (λ e. p e.0) ps))
  unfolding IsStrictlySortedBy
  sorted-filter [] s = tt
  sorted-filter (e ∷ ps) s =
      elim (p e.0) as (λ b. IsStrictlySortedBy nat_cmp (keys_of (cond b (e ∷ filter (λ e. p e.0) ps) (filter (λ e. p e.0) ps)))) [
        | true ↦ (keys-filter (λ y. nat_cmp e.0 y ≡ Less) ps s.0, sorted-filter ps s.1)
        | false ↦ sorted-filter ps s.1
      ]

  step : (e : ℕ × P) (ps : Map ℕ P) (i : ℕ) → p i ≡ true → get nat_cmp (filter (λ e. p e.0) ps) i ≡ get nat_cmp ps i → Dec (i ≡ e.0)
      → get nat_cmp (cond (p e.0) (e ∷ filter (λ e. p e.0) ps) (filter (λ e. p e.0) ps)) i ≡ get nat_cmp (e ∷ ps) i
  step e ps i h rest (yes z) =
      ap (λ b. get nat_cmp (cond b (e ∷ filter (λ e. p e.0) ps) (filter (λ e. p e.0) ps)) i) (ap p (sym z) ∙ h) ∙ get-here e (filter (λ e. p e.0) ps) i z ∙ sym (get-here e ps i z)
  step e ps i h rest (no n) =
      elim (p e.0) as (λ b. get nat_cmp (cond b (e ∷ filter (λ e. p e.0) ps) (filter (λ e. p e.0) ps)) i ≡ get nat_cmp (e ∷ ps) i) [
        | true ↦ get-later e (filter (λ e. p e.0) ps) i n ∙ rest ∙ sym (get-later e ps i n)
        | false ↦ rest ∙ sym (get-later e ps i n)
      ]

  -- a key that passes is found as before
  pub get-filter : (ps : Map ℕ P) (i : ℕ) → p i ≡ true → get nat_cmp (filter (λ e. p e.0) ps) i ≡ get nat_cmp ps i
  get-filter [] i h = refl
  get-filter (e ∷ ps) i h = step e ps i h (get-filter ps i h) (one_or_other i e.0)

module _ {P V : Type 0} (entries : P → Map ℕ V) (number : ℕ → ℕ) (whole : P → Type 0) (is_in : P → ℕ → Type 0)
    (part : (x : P) (i : ℕ) → whole x → is_in x i → IsPart number i (entries x)) (upwards : (a b : ℕ) → a ≤ b → number a ≤ number b) where
  pub node-tail : (e : ℕ × P) (ps : Map ℕ P) → IsNode whole is_in (e ∷ ps) → IsNode whole is_in ps
  unfolding IsStrictlySortedBy
  node-tail e ps is = (is.0.1, is.1.1)

  none_later : (e : ℕ × P) (ps : Map ℕ P) → IsNode whole is_in (e ∷ ps) → (v : ℕ) → number v ≤ e.0 → get nat_cmp (flatten (slots_shown entries ps)) v ≡ None
  unfolding IsStrictlySortedBy
  none_later e ps is v low =
      get-absent (λ k. e.0 < number k) (flatten (slots_shown entries ps)) v
      (keys_above number upwards e.0 (slots_shown entries ps) (subst (AllByRecursion (λ j. nat_cmp e.0 j ≡ Less)) (sym (keys-values (λ i x. entries x) ps)) is.0.0)
      (are_parts entries number whole is_in part ps (is.0.1, is.1.1)).1)
      (λ l. absurd (omega (arith, l, low)))

  -- the first entry of the first part that has one
  pub walk-some : (e : ℕ × P) (ps : Map ℕ P) (k : ℕ) (x : V) → get nat_cmp (entries e.1) k ≡ Some x → get nat_cmp (flatten (slots_shown entries (e ∷ ps))) k ≡ Some x
  walk-some e ps k x h = get-append_some (entries e.1) (flatten (slots_shown entries ps)) k x h

  own : (e : ℕ × P) (ps : Map ℕ P) → IsNode whole is_in (e ∷ ps) → (k : ℕ) (x : V) → get nat_cmp (entries e.1) k ≡ Some x → Dec (number k ≡ e.0) → number k ≡ e.0
  own e ps is k x h (yes z) = z
  own e ps is k x h (no n) = absurd (none_some (sym (none_elsewhere number upwards e.0 (entries e.1) k (part e.1 e.0 is.1.0.0 is.1.0.1) n) ∙ h))

  pub walk-before : (e : ℕ × P) (ps : Map ℕ P) → IsNode whole is_in (e ∷ ps) → (k : ℕ) (x : V) → get nat_cmp (entries e.1) k ≡ Some x
      → (v : ℕ) → v < k → get nat_cmp (entries e.1) v ≡ None → get nat_cmp (flatten (slots_shown entries (e ∷ ps))) v ≡ None
  walk-before e ps is k x h v low none =
      let up = upwards v k (omega (arith, low)) in
      let at = own e ps is k x h (one_or_other (number k) e.0) in
      get-append_none (entries e.1) (flatten (slots_shown entries ps)) v none ∙ none_later e ps is v (omega (arith, up, at))

  pub walk-on : (e : ℕ × P) (ps : Map ℕ P) (v : ℕ) → get nat_cmp (entries e.1) v ≡ None → get nat_cmp (flatten (slots_shown entries (e ∷ ps))) v ≡ get nat_cmp (flatten (slots_shown entries ps)) v
  walk-on e ps v none = get-append_none (entries e.1) (flatten (slots_shown entries ps)) v none

  pub node-range : (a : ℕ) (ps : Map ℕ P) → IsNode whole is_in ps → IsNode whole is_in (entries_between nat_cmp (Included a) Unbounded ps)
  node-range a ps is =
      (sorted-filter (range_contains nat_cmp (Included a) Unbounded) ps is.0, all-filter (range_contains nat_cmp (Included a) Unbounded) (λ e. whole e.1 × is_in e.1 e.0) ps is.1)

  pub walk-start : (at : ℕ) (ps : Map ℕ P) → IsNode whole is_in ps → (v : ℕ) → at ≤ v
      → get nat_cmp (flatten (slots_shown entries ps)) v ≡ get nat_cmp (flatten (slots_shown entries (entries_between nat_cmp (Included (number at)) Unbounded ps))) v
  walk-start at ps is v low =
      let rest = entries_between nat_cmp (Included (number at)) Unbounded ps in
      let node = node-range (number at) ps is in
      let same : get nat_cmp rest (number v) ≡ get nat_cmp ps (number v) =
      get-filter (range_contains nat_cmp (Included (number at)) Unbounded) ps (number v) (passes (number at) (number v) (upwards at v low)) in
      elim (get nat_cmp ps (number v)) as (λ o. get nat_cmp ps (number v) ≡ o → get nat_cmp (flatten (slots_shown entries ps)) v ≡ get nat_cmp (flatten (slots_shown entries rest)) v) [
        | None ↦ λ o. node-get_none entries number whole is_in part upwards ps is v o ∙ sym (node-get_none entries number whole is_in part upwards rest node v (same ∙ o))
        | Some x ↦ λ o. node-get entries number whole is_in part upwards ps is v x o ∙ sym (node-get entries number whole is_in part upwards rest node v x (same ∙ o))
      ] refl
