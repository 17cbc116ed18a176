-- One part by itself: what is found of it, and what comes beside it.
use Rattle.std.proofs.Common.{◌≡◌, ◌==◌, ℕ, ◌<◌, ◌≤◌, List, [], ◌∷◌, true, false, refl, sym, ap, subst, ◌∙◌, arith}
use Rattle.std.proofs.lemmas.Bool.{eqb-true, eq-eqb}
use Rattle.std.specs.Prelude.{Some, None, IsSome}
use Rattle.std.specs.List.Sorted.{IsStrictlySortedBy}
use Rattle.std.specs.Ordering.{nat_cmp}
use Rattle.nm_types.specs.Map.{Map, get, set}
use Rattle.nm_types.proofs.Cases.{some_none, none_is_not}
use Rattle.nm_tables.specs.definitions.Tree.{flatten, IsPart}
use Rattle.nm_tables.specs.definitions.Nodes.{slots_shown, IsNode}
use Rattle.nm_tables.specs.views.Branches.{IsOne}
use Rattle.nm_tables.specs.declared.branch.Branch.{Branch}
use Rattle.nm_tables.specs.declared.branch.Branch.TheVariants.{One, Many}
use Rattle.nm_tables.proofs.Joined.{get-here, get-later}
use Rattle.nm_tables.proofs.Nodes.{node-get_none}
use Rattle.nm_tables.proofs.Parts.{set-between}

module _ {P A : Type 0} where
  -- what is one part by itself is no other
  pub is_no_other : (b : Branch P A) → IsOne b → ((n : ℕ) (x : P) → b ≡ One n x → ⊥) → ⊥
  is_no_other (One n x) one other = other n x refl
  is_no_other (Many node) one other = one

module _ {P : Type 0} where
  -- a part by itself is a node's parts
  pub one_part : (whole : P → Type 0) (is_in : P → ℕ → Type 0) (n q : ℕ) (x : P) → whole x → is_in x q → n ≡ q → IsNode whole is_in ((n, x) ∷ [])
  unfolding IsStrictlySortedBy
  one_part whole is_in n q x w own e = ((tt, tt), ((w, subst (is_in x) (sym e) own), tt))

  -- another number is not found
  pub absent_beside : (parts : Map ℕ P) (n q : ℕ) (x : P) → parts ≡ (n, x) ∷ [] → (n ≡ q → ⊥) → get nat_cmp parts q ≡ None
  absent_beside parts n q x one apart = ap (λ ps. get nat_cmp ps q) one ∙ get-later (n, x) [] q (λ e. apart (sym e))

  -- what is not found has another number
  pub another : (parts : Map ℕ P) (n q : ℕ) (x : P) → parts ≡ (n, x) ∷ [] → get nat_cmp parts q ≡ None → n ≡ q → ⊥
  another parts n q x one none e =
      let here : get nat_cmp parts q ≡ Some x = ap (λ ps. get nat_cmp ps q) one ∙ get-here (n, x) [] q (sym e) in
      some_none (sym here ∙ none)

  -- a part with a lower number comes before it, and one with a higher number after it
  pub set_behind : (n q : ℕ) (x y : P) → n < q → (n, x) ∷ (q, y) ∷ [] ≡ set nat_cmp ((n, x) ∷ []) q y
  set_behind n q x y l = set-between ((n, x) ∷ []) 1 q y (omega arith, (l, tt), tt)

  pub set_before : (n q : ℕ) (x y : P) → q < n → (q, y) ∷ (n, x) ∷ [] ≡ set nat_cmp ((n, x) ∷ []) q y
  set_before n q x y l = set-between ((n, x) ∷ []) 0 q y (omega arith, tt, (l, tt))

-- a single part is not empty
pub one_some : {X : Type 0} (parts : List X) (x : X) → parts ≡ x ∷ [] → parts ≡ [] → ⊥
one_some parts x one none = cc

-- where something is found that one number alone can have, it is this number
pub its_number : (n q : ℕ) (Found : Type 0) → ((n ≡ q → ⊥) → Found → ⊥) → Found → n ≡ q
its_number n q Found only found =
    elim (n == q) as (λ b. (n == q) ≡ b → n ≡ q) [
      | true ↦ λ e. eqb-true n q e
      | false ↦ λ e. absurd (only (λ s. let yes : (n == q) ≡ true = eq-eqb n q s in cc) found)
    ] refl

pub above_it : (n q : ℕ) → q ≤ n → (n ≡ q → ⊥) → q < n
above_it n q low same = grind arith

-- what is found of a part by itself is in the part
module _ {P V : Type 0} (entries : P → Map ℕ V) (number : ℕ → ℕ) (whole : P → Type 0) (is_in : P → ℕ → Type 0)
    (part : (x : P) (i : ℕ) → whole x → is_in x i → IsPart number i (entries x)) (upwards : (a b : ℕ) → a ≤ b → number a ≤ number b) (parts : Map ℕ P) (is : IsNode whole is_in parts) where
  pub found_inside : (n v : ℕ) (x : P) → parts ≡ (n, x) ∷ [] → IsSome (get nat_cmp (flatten (slots_shown entries parts)) v) → is_in x (number v)
  found_inside n v x one there =
      let own = its_number n (number v) (IsSome (get nat_cmp (flatten (slots_shown entries parts)) v))
      (λ apart some. none_is_not V (subst IsSome (node-get_none entries number whole is_in part upwards parts is v (absent_beside parts n (number v) x one apart)) some)) there in
      subst (is_in x) own (subst (IsNode whole is_in) one is).1.0.1
