-- The areas of a process from one page number up to another, one after another, and their policy.
use Rattle.std.proofs.Common.{◌≡◌, ℕ, [], ◌∷◌, true, false, cond, refl, sym, ap, ◌∙◌, eq-eqb}
use Rattle.std.specs.Prelude.{Some, None, ◌==◌}
use Rattle.std.specs.declared.cmp.Ordering.{Ordering}
use Rattle.std.specs.Ordering.{nat_cmp, is_eq}
use Rattle.std.proofs.lemmas.Bool.{eqb-true}
use Rattle.std.proofs.lemmas.Map.Lookups.{exact_unsigned, exact_pairs, CmpEqualImpliesEq}
use Rattle.nm_types.specs.declared.area.Area.{Area}
use Rattle.nm_types.specs.Map.{Map, get, replace, spot_cmp, with_values}
use Rattle.nm_types.proofs.Cases.{true_false, some_none}
use Rattle.nm_types.specs.declared.area.Policy.{Policy}
use Rattle.std.specs.Map.{keys_of}
use Rattle.nm_model.specs.definitions.Areas.{with_policy_in}

pub keys_painted : (pid first past : ℕ) (policy : Policy) (m : Map (ℕ × ℕ) Area) → keys_of (with_values (with_policy_in pid first past policy) m) ≡ keys_of m
keys_painted pid first past policy [] = refl
keys_painted pid first past policy (e ∷ m) = ap (λ ks. e.0 ∷ ks) (keys_painted pid first past policy m)

pub exact_spot : CmpEqualImpliesEq spot_cmp
exact_spot = exact_pairs nat_cmp nat_cmp exact_unsigned exact_unsigned

-- where there is nothing, nothing is replaced
pub put_nowhere : {K V : Type 0} (cmp : K → K → Ordering) (m : Map K V) (k : K) (x : V) → None ≡ get cmp m k → replace cmp m k x ≡ m
put_nowhere cmp [] k x h = refl
put_nowhere cmp (e ∷ m) k x h =
    elim (is_eq (cmp k e.0)) as (λ b. None ≡ cond b (Some e.1) (get cmp m k) → cond b ((e.0, x) ∷ m) (e ∷ replace cmp m k x) ≡ e ∷ m) [
      | true ↦ λ h. absurd (some_none (sym h))
      | false ↦ λ h. ap (λ es. e ∷ es) (put_nowhere cmp m k x h)
    ] h

pub past_first : (n pid : ℕ) → true ≡ (n == pid) → n ≡ pid
past_first n pid own = eqb-true n pid (sym own)

pub past_not : (n pid : ℕ) → false ≡ (n == pid) → n ≡ pid → ⊥
past_not n pid other same = true_false (sym (eq-eqb n pid same) ∙ sym other)
