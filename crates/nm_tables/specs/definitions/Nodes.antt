-- An inner node: parts by their numbers, each with a map whose keys are its own.
use Rattle.std.proofs.Common.{◌≡◌, ℕ, ◌≤◌, ◌/◌, List, [], ◌∷◌, ◌++◌, refl, sym, ap, subst, ◌∙◌, arith}
use Rattle.std.specs.List.{AllByRecursion}
use Rattle.std.specs.List.Sorted.{IsStrictlySortedBy}
use Rattle.std.specs.Map.{keys_of}
use Rattle.std.specs.Ordering.{nat_cmp}
use Rattle.nm_types.specs.Map.{Map, with_values}
use Rattle.nm_types.proofs.Maps.{keys-values}
use Rattle.nm_tables.specs.definitions.Tree.{flatten, IsPart, AreParts}
use Rattle.nm_tables.specs.laws.Orders.{sorted-joined, all-append}

module _ {P : Type 0} where
  -- the parts are in order, each valid and with its own number
  abbrev pub IsNode : (P → Type 0) → (P → ℕ → Type 0) → Map ℕ P → Type 0
  IsNode whole is_in parts = IsStrictlySortedBy nat_cmp (keys_of parts) × AllByRecursion (λ e. whole e.1 × is_in e.1 e.0) parts

  -- the same, and there is at least one part
  abbrev pub IsFilledNode : (P → Type 0) → (P → ℕ → Type 0) → Map ℕ P → Type 0
  IsFilledNode whole is_in parts = IsNode whole is_in parts × (parts ≡ [] → ⊥)

module _ {P V : Type 0} where
  -- the entries of each part
  abbrev pub slots_shown : (P → Map ℕ V) → Map ℕ P → Map ℕ (Map ℕ V)
  slots_shown entries parts = with_values (λ i part. entries part) parts

module _ {P V : Type 0} (entries : P → Map ℕ V) (number : ℕ → ℕ) (whole : P → Type 0) (is_in : P → ℕ → Type 0)
    (part : (x : P) (i : ℕ) → whole x → is_in x i → IsPart number i (entries x)) where
  shown_parts : (parts : Map ℕ P) → AllByRecursion (λ e. whole e.1 × is_in e.1 e.0) parts
      → AllByRecursion (λ e. IsPart number e.0 e.1) (slots_shown entries parts)
  shown_parts [] h = tt
  shown_parts (e ∷ parts) h = (part e.1 e.0 h.0.0 h.0.1, shown_parts parts h.1)

  -- the entries shown of a node are parts
  pub are_parts : (parts : Map ℕ P) → IsNode whole is_in parts → AreParts number (slots_shown entries parts)
  are_parts parts is = (subst (IsStrictlySortedBy nat_cmp) (sym (keys-values (λ i x. entries x) parts)) is.0, shown_parts parts is.1)

  -- the entries of a node are in ascending order
  pub node_ordered : ((a b : ℕ) → a ≤ b → number a ≤ number b) → (parts : Map ℕ P) → IsNode whole is_in parts
      → IsStrictlySortedBy nat_cmp (keys_of (flatten (slots_shown entries parts)))
  node_ordered upwards parts is = sorted-joined number upwards (slots_shown entries parts) (are_parts parts is)

  above : (i k : ℕ) (ks : List ℕ) → AllByRecursion (λ q. number q ≡ k) ks → k / 512 ≡ i → AllByRecursion (λ q. number q / 512 ≡ i) ks
  above i k [] h e = tt
  above i k (q ∷ ks) h e = (ap (λ n. n / 512) h.0 ∙ e, above i k ks h.1 e)

  -- the numbers of a node's parts determine the node's own
  node_keys : (parts : Map ℕ P) (i : ℕ) → AllByRecursion (λ e. whole e.1 × is_in e.1 e.0) parts
      → AllByRecursion (λ k. k / 512 ≡ i) (keys_of parts)
      → AllByRecursion (λ k. number k / 512 ≡ i) (keys_of (flatten (slots_shown entries parts)))
  node_keys [] i h keys = tt
  node_keys (e ∷ parts) i h keys =
      all-append (λ k. number k / 512 ≡ i) (entries e.1) (flatten (slots_shown entries parts))
      (above i e.0 (keys_of (entries e.1)) (part e.1 e.0 h.0.0 h.0.1).1 keys.0) (node_keys parts i h.1 keys.1)

  -- the entries of a node have its number
  pub node_part : ((a b : ℕ) → a ≤ b → number a ≤ number b) → (parts : Map ℕ P) (i : ℕ) → IsNode whole is_in parts
      → AllByRecursion (λ k. k / 512 ≡ i) (keys_of parts)
      → IsPart (λ k. number k / 512) i (flatten (slots_shown entries parts))
  node_part upwards parts i is keys = (node_ordered upwards parts is, node_keys parts i is.1 keys)

module _ {P V : Type 0} (entries : P → Map ℕ V) (whole : P → Type 0) (is_in : P → ℕ → Type 0)
    (filled : (x : P) → whole x → entries x ≡ [] → ⊥) where
  front_filled : (a b : Map ℕ V) → a ++ b ≡ [] → (a ≡ [] → ⊥) → ⊥
  front_filled [] b e some = some refl
  front_filled (x ∷ a) b e some = cc

  -- a node whose parts all have entries has entries
  pub node_filled : (parts : Map ℕ P) → IsFilledNode whole is_in parts → flatten (slots_shown entries parts) ≡ [] → ⊥
  node_filled [] is e = is.1 refl
  node_filled (x ∷ parts) is e = front_filled (entries x.1) (flatten (slots_shown entries parts)) e (filled x.1 is.0.1.0.0)

module _ (number : ℕ → ℕ) where
  -- if numbers never decrease, neither do their quotients by 512
  pub upwards_again : ((a b : ℕ) → a ≤ b → number a ≤ number b) → (a b : ℕ) → a ≤ b → number a / 512 ≤ number b / 512
  upwards_again up a b l = let h = up a b l in omega (arith, h)
