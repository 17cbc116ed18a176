-- What keeps the index of the areas by segment.
use Rattle.std.proofs.Common.{◌≡◌, ℕ, List, [], ◌∷◌, Bool, true, false, cond, refl, sym, ap, subst, ◌∙◌}
use Rattle.std.specs.Prelude.{Option, Some, None, IfSome, ◌==◌}
use Rattle.std.specs.Option.{option_map}
use Rattle.std.specs.BTreeMap.{is_at}
use Rattle.std.specs.List.{list_any}
use Rattle.std.specs.Ordering.{nat_cmp, is_eq}
use Rattle.std.specs.Cmp.{IsTotalOrder, nat_cmp_total, tied_itself}
use Rattle.std.proofs.lemmas.Bool.{eqb-true, false_from_ne_true}
use Rattle.std.proofs.lemmas.Cmp.{then_total, on_total}
use Rattle.std.proofs.lemmas.Map.Lookups.{exact_unsigned, exact_pairs, CmpEqualImpliesEq}
use Rattle.std.proofs.Common.{eq-eqb}
use Rattle.nm_types.specs.declared.area.Area.{Area}
use Rattle.nm_types.specs.declared.area.Policy.{Policy}
use Rattle.nm_types.specs.Map.{Map, get, replace, with_values, spot_cmp}
use Rattle.nm_types.proofs.Cases.{true_false, some_is}
use Rattle.nm_areas.specs.Index.{Key, key_cmp, is_of, is_key, IsIndex}
use Rattle.nm_model.specs.definitions.Areas.{with_policy_in}
use Rattle.nm_model.specs.definitions.Areas.{begins_in}
use Rattle.nm_types.proofs.Maps.{equal, spot_cmp_total, get-values}
use Rattle.nm_model.proofs.areas.Painted.{exact_spot, put_nowhere}

pub exact_key : CmpEqualImpliesEq key_cmp
exact_key x y e =
    ap (λ (z : (ℕ × ℕ) × ℕ). (z.0.0, z.0.1, z.1)) (exact_pairs spot_cmp nat_cmp exact_spot exact_unsigned ((x.0, x.1), x.2) ((y.0, y.1), y.2) e)

pub key_total : IsTotalOrder key_cmp
key_total = then_total (then_total (on_total (λ k. k.0) nat_cmp_total) (on_total (λ k. k.1) nat_cmp_total)) (on_total (λ k. k.2) nat_cmp_total)

pub same_key : (k q : Key) → is_eq (key_cmp k q) ≡ true → k ≡ q
same_key k q h = exact_key k q (equal _ h)

pub key_itself : (k q : Key) → k ≡ q → is_eq (key_cmp k q) ≡ true
key_itself k q e = ap (λ (z : Key). is_eq (key_cmp k z)) (sym e) ∙ ap is_eq (tied_itself key_total k)

pub spot_itself : (s q : ℕ × ℕ) → s ≡ q → is_eq (spot_cmp s q) ≡ true
spot_itself s q e = ap (λ (z : ℕ × ℕ). is_eq (spot_cmp s z)) (sym e) ∙ ap is_eq (tied_itself spot_cmp_total s)

abbrev pub has : List Key → Key → Bool
has keys k = list_any (is_at (key_cmp k)) keys

-- ---- what is at one place changes, and the key of that place and a segment with it

module _ (keys new_keys : List Key) (areas new : Map (ℕ × ℕ) Area) (n : ℕ) (s : ℕ × ℕ) (w : Option Area) (b : Bool)
    (index : IsIndex keys areas) (key : (q : Key) → has new_keys q ≡ cond (is_eq (key_cmp (n, s.0, s.1) q)) b (has keys q))
    (area : (q : ℕ × ℕ) → get spot_cmp new q ≡ cond (is_eq (spot_cmp s q)) w (get spot_cmp areas q))
    (now : is_of n w ≡ b) (others : (m : ℕ) → (n ≡ m → ⊥) → is_of m (get spot_cmp areas s) ≡ is_of m w) where
  abbrev it : Key
  it = (n, s.0, s.1)

  at_place : (q : Key) → s ≡ (q.1, q.2) → has new_keys q ≡ is_of q.0 w
  at_place q same =
      key q ∙ elim (is_eq (key_cmp it q)) as (λ u. is_eq (key_cmp it q) ≡ u → cond u b (has keys q) ≡ is_of q.0 w) [
        | true ↦ λ u. sym now ∙ ap (λ (z : Key). is_of z.0 w) (same_key it q u)
        | false ↦ λ u.
            index q ∙ ap (λ (z : ℕ × ℕ). is_of q.0 (get spot_cmp areas z)) (sym same)
            ∙ others q.0 (λ e. true_false (sym (key_itself it q (λ i. (e i, (same i).0, (same i).1))) ∙ u))
      ] refl

  elsewhere : (q : Key) → is_eq (spot_cmp s (q.1, q.2)) ≡ false → has new_keys q ≡ is_of q.0 (get spot_cmp areas (q.1, q.2))
  elsewhere q other =
      key q ∙ elim (is_eq (key_cmp it q)) as (λ u. is_eq (key_cmp it q) ≡ u → cond u b (has keys q) ≡ is_of q.0 (get spot_cmp areas (q.1, q.2))) [
        | true ↦ λ u. absurd (true_false (sym (spot_itself s (q.1, q.2) (ap (λ (z : Key). (z.1, z.2)) (same_key it q u))) ∙ other))
        | false ↦ λ u. index q
      ] refl

  pub changed : IsIndex new_keys new
  changed q =
      elim (is_eq (spot_cmp s (q.1, q.2))) as (λ t. is_eq (spot_cmp s (q.1, q.2)) ≡ t → has new_keys q ≡ is_of q.0 (cond t w (get spot_cmp areas (q.1, q.2)))) [
        | true ↦ λ t. at_place q (exact_spot s (q.1, q.2) (equal _ t))
        | false ↦ λ t. elsewhere q t
      ] refl ∙ ap (is_of q.0) (sym (area (q.1, q.2)))

-- ---- an area more, and one less

module _ (keys new_keys : List Key) (areas new : Map (ℕ × ℕ) Area) (s : ℕ × ℕ) (x : Area) (index : IsIndex keys areas) where
  abbrev number : ℕ
  number = x.page.segment

  pub one_more : get spot_cmp areas s ≡ None → ((q : Key) → has new_keys q ≡ cond (is_eq (key_cmp (number, s.0, s.1) q)) true (has keys q))
      → ((q : ℕ × ℕ) → get spot_cmp new q ≡ cond (is_eq (spot_cmp s q)) (Some x) (get spot_cmp areas q)) → IsIndex new_keys new
  one_more fresh key area =
      changed keys new_keys areas new number s (Some x) true index key area (eq-eqb number number refl)
      (λ m other. ap (is_of m) fresh ∙ sym (false_from_ne_true (number == m) (λ e. other (eqb-true number m e))))

  pub one_less : get spot_cmp areas s ≡ Some x → ((q : Key) → has new_keys q ≡ cond (is_eq (key_cmp (number, s.0, s.1) q)) false (has keys q))
      → ((q : ℕ × ℕ) → get spot_cmp new q ≡ cond (is_eq (spot_cmp s q)) None (get spot_cmp areas q)) → IsIndex new_keys new
  one_less there key area =
      changed keys new_keys areas new number s None false index key area refl
      (λ m other. ap (is_of m) there ∙ false_from_ne_true (number == m) (λ e. other (eqb-true number m e)))

-- a key that is added and removed again
pub key_undone : (keys more back : List Key) (areas : Map (ℕ × ℕ) Area) (k : Key) → IsIndex keys areas → get spot_cmp areas (k.1, k.2) ≡ None → ((q : Key) → has more q ≡ cond (is_eq (key_cmp k q)) true (has keys q))
    → ((q : Key) → has back q ≡ cond (is_eq (key_cmp k q)) false (has more q)) → IsIndex back areas
key_undone keys more back areas k index fresh came went q =
    went q ∙ elim (is_eq (key_cmp k q)) as (λ u. is_eq (key_cmp k q) ≡ u → cond u false (has more q) ≡ is_key areas q) [
      | true ↦ λ u. sym (ap (λ (z : Key). is_key areas z) (sym (same_key k q u)) ∙ ap (is_of k.0) fresh)
      | false ↦ λ u. came q ∙ ap (λ t. cond t true (has keys q)) u ∙ index q
    ] refl

-- ---- other areas of the same segments

put_same : (m : Map (ℕ × ℕ) Area) (s : ℕ × ℕ) (x y : Area) → get spot_cmp m s ≡ Some y → y.page.segment ≡ x.page.segment → (n : ℕ) (q : ℕ × ℕ) → is_of n (get spot_cmp (replace spot_cmp m s x) q) ≡ is_of n (get spot_cmp m q)
put_same [] s x y there same n q = refl
put_same (e ∷ m) s x y there same n q =
    elim (is_eq (spot_cmp s e.0)) as (λ b. cond b (Some e.1) (get spot_cmp m s) ≡ Some y → is_of n (get spot_cmp (cond b ((e.0, x) ∷ m) (e ∷ replace spot_cmp m s x)) q) ≡ is_of n (get spot_cmp (e ∷ m) q)) [
      | true ↦ λ h.
          let value : e.1.page.segment ≡ x.page.segment = ap (λ (z : Area). z.page.segment) (some_is h) ∙ same in
          elim (is_eq (spot_cmp q e.0)) as (λ c. is_of n (cond c (Some x) (get spot_cmp m q)) ≡ is_of n (cond c (Some e.1) (get spot_cmp m q))) [
            | true ↦ ap (λ (k : ℕ). k == n) (sym value)
            | false ↦ refl
          ]
      | false ↦ λ h. elim (is_eq (spot_cmp q e.0)) as (λ c. is_of n (cond c (Some e.1) (get spot_cmp (replace spot_cmp m s x) q)) ≡ is_of n (cond c (Some e.1) (get spot_cmp m q))) [
        | true ↦ refl
        | false ↦ put_same m s x y h same n q
      ]
    ] there

pub put_index : (keys : List Key) (areas new : Map (ℕ × ℕ) Area) (s : ℕ × ℕ) (x : Area) → IsIndex keys areas → IfSome (get spot_cmp areas s) (λ a. a.page.segment ≡ x.page.segment) → new ≡ replace spot_cmp areas s x → IsIndex keys new
put_index keys areas new s x index same is =
    subst (IsIndex keys) (sym is)
    (elim (get spot_cmp areas s) as (λ o. get spot_cmp areas s ≡ o → IfSome o (λ a. a.page.segment ≡ x.page.segment) → IsIndex keys (replace spot_cmp areas s x)) [
      | None ↦ λ o h. subst (IsIndex keys) (sym (put_nowhere spot_cmp areas s x (sym o))) index
      | Some y ↦ λ o h. λ q. index q ∙ sym (put_same areas s x y o h q.0 (q.1, q.2))
    ] refl same)

module _ (pid first end : ℕ) (policy : Policy) where
  painted_of : (n : ℕ) (q : ℕ × ℕ) (o : Option Area) → is_of n (option_map (with_policy_in pid first end policy q) o) ≡ is_of n o
  painted_of n q None = refl
  painted_of n q (Some x) = elim (begins_in pid first end q) as (λ b. (cond b (record x { policy = policy }) x).page.segment == n ≡ (x.page.segment == n)) [ true ↦ refl | false ↦ refl ]

  pub paint_index : (keys : List Key) (areas new : Map (ℕ × ℕ) Area) → IsIndex keys areas → new ≡ with_values (with_policy_in pid first end policy) areas → IsIndex keys new
  paint_index keys areas new index is =
      subst (IsIndex keys) (sym is)
      (λ q. index q ∙ sym (ap (is_of q.0) (get-values exact_spot (with_policy_in pid first end policy) areas (q.1, q.2)) ∙ painted_of q.0 (q.1, q.2) (get spot_cmp areas (q.1, q.2))))
