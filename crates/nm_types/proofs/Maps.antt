-- What a look-up in a map returns, and what it shows, after a change.
use Rattle.std.proofs.Common.{◌≡◌, ℕ, [], ◌∷◌, true, false, cond, refl, sym, ap, subst, ◌∙◌}
use Rattle.std.specs.Prelude.{Some, None, IsSome}
use Rattle.std.specs.Option.{option_map}
use Rattle.std.specs.Map.{keys_of}
use Rattle.std.specs.List.{AllByRecursion}
use Rattle.std.specs.List.Sorted.{IsStrictlySortedBy}
use Rattle.std.specs.Cmp.{IsTotalOrder, nat_cmp_total, eq_by_cmp_equiv}
use Rattle.std.specs.Ordering.{is_eq, nat_cmp, eq_by_cmp, match_ordering}
use Rattle.std.specs.BTreeMap.{is_at}
use Rattle.std.proofs.lemmas.Map.Lookups.{exact_pairs, exact_unsigned, CmpEqualImpliesEq}
use Rattle.std.specs.declared.cmp.Ordering.{Ordering}
use Rattle.std.specs.declared.cmp.Ordering.TheVariants.{Less, Equal, Greater}
use Rattle.std.specs.FinMap.Entries.{find, put, by_order, find-put}
use Rattle.std.proofs.lemmas.Cmp.{then_total, on_total}
use Rattle.std.specs.Cmp.{tied_itself, tied_back}
use Rattle.std.proofs.lemmas.Bool.{false_from_ne_true}
use Rattle.std.proofs.lemmas.Map.{lookup-none, lookup-set_value}
use Rattle.std.proofs.lemmas.Map.Entries.{none_past_head, none_below_head}
use Rattle.std.proofs.lemmas.Map.Keys.{IsDistinct-from_sorted, sorted_tail}
use Rattle.nm_types.specs.Map.{Map, get, set, without, replace, with_values, page_cmp, spot_cmp}
use Rattle.nm_types.proofs.Cases.{none_some, none_is_not}

pub page_cmp_total : IsTotalOrder page_cmp
page_cmp_total = then_total (on_total (λ p. p.segment) nat_cmp_total) (on_total (λ p. p.index) nat_cmp_total)

pub spot_cmp_total : IsTotalOrder spot_cmp
spot_cmp_total = then_total (on_total (λ p. p.0) nat_cmp_total) (on_total (λ p. p.1) nat_cmp_total)

pub equal : (r : Ordering) → is_eq r ≡ true → r ≡ Equal
equal Less e = cc
equal Equal e = refl
equal Greater e = cc

pub exact_page : CmpEqualImpliesEq page_cmp
exact_page q p e =
    ap (λ (x : ℕ × ℕ). record { segment = x.0; index = x.1 })
    (exact_pairs nat_cmp nat_cmp exact_unsigned exact_unsigned (q.segment, q.index) (p.segment, p.index) e)

find_get : {K V : Type 0} (R : K → K → Ordering) (m : Map K V) (q : K) → get R m q ≡ find R q m
find_get R [] q = refl
find_get R (e ∷ m) q = ap (cond (eq_by_cmp R q e.0) (Some e.1)) (find_get R m q)

put_set : {K V : Type 0} (R : K → K → Ordering) (m : Map K V) (k : K) (v : V) → set R m k v ≡ put R k v m
put_set R [] k v = refl
put_set R (e ∷ m) k v =
    elim (R k e.0) as (λ o. match_ordering o ((k, v) ∷ e ∷ m) ((e.0, v) ∷ m) (e ∷ set R m k v) ≡ by_order o ((k, v) ∷ e ∷ m) ((e.0, v) ∷ m) (e ∷ put R k v m)) [
      | Less ↦ refl
      | Equal ↦ refl
      | Greater ↦ ap (λ es. e ∷ es) (put_set R m k v)
    ]

pub get-set : {K V : Type 0} {R : K → K → Ordering} → IsTotalOrder R → (m : Map K V) (k : K) (v : V) (q : K) → get R (set R m k v) q ≡ cond (eq_by_cmp R q k) (Some v) (get R m q)
get-set {R = R} o m k v q =
    find_get R (set R m k v) q ∙ ap (find R q) (put_set R m k v) ∙ find-put R o q k v m ∙ ap (cond (eq_by_cmp R q k) (Some v)) (sym (find_get R m q))

greater_equal : Greater ≡ Equal → ⊥
greater_equal e = cc

-- the values shown by F
module _ {K V W : Type 0} {R : K → K → Ordering} (exact : CmpEqualImpliesEq R) (F : K → V → W) where
  pub get-values : (m : Map K V) (q : K) → get R (with_values F m) q ≡ option_map (F q) (get R m q)
  get-values [] q = refl
  get-values (e ∷ m) q =
      elim (R q e.0) as (λ r. R q e.0 ≡ r → cond (is_eq r) (Some (F e.0 e.1)) (get R (with_values F m) q) ≡ option_map (F q) (cond (is_eq r) (Some e.1) (get R m q))) [
        | Less ↦ λ h. get-values m q
        | Equal ↦ λ h. ap (λ k. Some (F k e.1)) (sym (exact q e.0 h))
        | Greater ↦ λ h. get-values m q
      ] refl

  pub with_values-set : (m : Map K V) (k : K) (v : V) → with_values F (set R m k v) ≡ set R (with_values F m) k (F k v)
  with_values-set [] k v = refl
  with_values-set (e ∷ m) k v =
      elim (R k e.0) as (λ r. R k e.0 ≡ r → with_values F (match_ordering r ((k, v) ∷ e ∷ m) ((e.0, v) ∷ m) (e ∷ set R m k v))
      ≡ match_ordering r ((k, F k v) ∷ (e.0, F e.0 e.1) ∷ with_values F m) ((e.0, F k v) ∷ with_values F m) ((e.0, F e.0 e.1) ∷ set R (with_values F m) k (F k v))) [
        | Less ↦ λ h. refl
        | Equal ↦ λ h. ap (λ q. (e.0, F q v) ∷ with_values F m) (sym (exact k e.0 h))
        | Greater ↦ λ h. ap (λ es. (e.0, F e.0 e.1) ∷ es) (with_values-set m k v)
      ] refl

  pub with_values-replace : (m : Map K V) (k : K) (v : V) → with_values F (replace R m k v) ≡ replace R (with_values F m) k (F k v)
  with_values-replace [] k v = refl
  with_values-replace (e ∷ m) k v =
      elim (R k e.0) as (λ r. R k e.0 ≡ r → with_values F (cond (is_eq r) ((e.0, v) ∷ m) (e ∷ replace R m k v))
      ≡ cond (is_eq r) ((e.0, F k v) ∷ with_values F m) ((e.0, F e.0 e.1) ∷ replace R (with_values F m) k (F k v))) [
        | Less ↦ λ h. ap (λ es. (e.0, F e.0 e.1) ∷ es) (with_values-replace m k v)
        | Equal ↦ λ h. ap (λ q. (e.0, F q v) ∷ with_values F m) (sym (exact k e.0 h))
        | Greater ↦ λ h. ap (λ es. (e.0, F e.0 e.1) ∷ es) (with_values-replace m k v)
      ] refl

module _ {K V W : Type 0} (R : K → K → Ordering) (F : K → V → W) where
  pub with_values-without : (m : Map K V) (k : K) → with_values F (without R m k) ≡ without R (with_values F m) k
  with_values-without [] k = refl
  with_values-without (e ∷ m) k =
      elim (is_eq (R k e.0)) as (λ b. with_values F (cond b m (e ∷ without R m k)) ≡ cond b (with_values F m) ((e.0, F e.0 e.1) ∷ without R (with_values F m) k)) [
        | true ↦ refl
        | false ↦ ap (λ es. (e.0, F e.0 e.1) ∷ es) (with_values-without m k)
      ]

  -- another value that is shown alike
  pub with_values-replace_alike : (m : Map K V) (k : K) (v w : V) → get R m k ≡ Some v → ((q : K) → F q w ≡ F q v) → with_values F (replace R m k w) ≡ with_values F m
  with_values-replace_alike [] k v w h alike = refl
  with_values-replace_alike (e ∷ m) k v w h alike =
      elim (is_eq (R k e.0)) as (λ b. cond b (Some e.1) (get R m k) ≡ Some v → with_values F (cond b ((e.0, w) ∷ m) (e ∷ replace R m k w)) ≡ with_values F (e ∷ m)) [
        | true ↦ λ h. let s : e.1 ≡ v = cc in ap (λ x. (e.0, x) ∷ with_values F m) (alike e.0 ∙ ap (F e.0) (sym s))
        | false ↦ λ h. ap (λ es. (e.0, F e.0 e.1) ∷ es) (with_values-replace_alike m k v w h alike)
      ] h

  -- values that are shown alike by G
  pub with_values-agree : (G : K → V → W) (m : Map K V) → AllByRecursion (λ e. F e.0 e.1 ≡ G e.0 e.1) m → with_values F m ≡ with_values G m
  with_values-agree G [] h = refl
  with_values-agree G (e ∷ m) h = ap (λ x. (e.0, x) ∷ with_values F m) h.0 ∙ ap (λ es. (e.0, G e.0 e.1) ∷ es) (with_values-agree G m h.1)

module _ {K V : Type 0} {R : K → K → Ordering} (o : IsTotalOrder R) (exact : CmpEqualImpliesEq R) where
  none_after : (e : K × V) (m : Map K V) → IsStrictlySortedBy R (keys_of (e ∷ m)) → (q : K) → is_eq (R q e.0) ≡ true → get R m q ≡ None
  none_after e m s q h = lookup-none (is_at (R q)) m (none_past_head (eq_by_cmp_equiv o) q e m (IsDistinct-from_sorted R (keys_of (e ∷ m)) s) h)

  pub found_later : (e : K × V) (m : Map K V) → IsStrictlySortedBy R (keys_of (e ∷ m)) → (q : K) (v : V) → get R m q ≡ Some v → get R (e ∷ m) q ≡ Some v
  found_later e m s q v found =
      elim (is_eq (R q e.0)) as (λ b. is_eq (R q e.0) ≡ b → cond b (Some e.1) (get R m q) ≡ Some v) [
        | true ↦ λ b. absurd (none_some (sym (none_after e m s q b) ∙ found))
        | false ↦ λ b. found
      ] refl

  pub found_first : (e : K × V) (m : Map K V) → get R (e ∷ m) e.0 ≡ Some e.1
  found_first e m = ap (λ r. cond (is_eq r) (Some e.1) (get R m e.0)) (tied_itself o e.0)

  -- what holds of each value that is found holds of all
  pub all_from_get : (P : K → V → Type 0) (m : Map K V) → IsStrictlySortedBy R (keys_of m) → ((q : K) (v : V) → get R m q ≡ Some v → P q v) → AllByRecursion (λ e. P e.0 e.1) m
  all_from_get P [] s h = tt
  all_from_get P (e ∷ m) s h =
      (h e.0 e.1 (found_first e m), all_from_get P m (sorted_tail R e.0 (keys_of m) s) (λ q v found. h q v (found_later e m s q v found)))

  pub agree : {W : Type 0} (F G : K → V → W) (m : Map K V) → IsStrictlySortedBy R (keys_of m) → ((q : K) (v : V) → get R m q ≡ Some v → F q v ≡ G q v) → with_values F m ≡ with_values G m
  agree F G m s h = with_values-agree R F G m (all_from_get (λ q v. F q v ≡ G q v) m s h)

  -- the same values but at a key whose value is set anyway
  pub set_agree : {W : Type 0} (F G : K → V → W) (m : Map K V) (k : K) (w : W) → IsStrictlySortedBy R (keys_of m) → ((q : K) (v : V) → get R m q ≡ Some v → is_eq (R q k) ≡ false → F q v ≡ G q v)
      → set R (with_values F m) k w ≡ set R (with_values G m) k w
  set_agree F G [] k w s h = refl
  set_agree F G (e ∷ m) k w s h =
      elim (R k e.0) as (λ r. R k e.0 ≡ r → match_ordering r ((k, w) ∷ with_values F (e ∷ m)) ((e.0, w) ∷ with_values F m) ((e.0, F e.0 e.1) ∷ set R (with_values F m) k w)
      ≡ match_ordering r ((k, w) ∷ with_values G (e ∷ m)) ((e.0, w) ∷ with_values G m) ((e.0, G e.0 e.1) ∷ set R (with_values G m) k w)) [
        | Less ↦ λ r. ap (λ es. (k, w) ∷ es) (agree F G (e ∷ m) s (λ q v found. h q v found (false_from_ne_true _ (λ b.
            none_some (sym (lookup-none (is_at (R k)) (e ∷ m) (none_below_head o k e m s r)) ∙ subst (λ q. get R (e ∷ m) q ≡ Some v) (exact q k (equal _ b)) found)))))
        | Equal ↦ λ r. ap (λ es. (e.0, w) ∷ es) (agree F G m (sorted_tail R e.0 (keys_of m) s) (λ q v found. h q v (found_later e m s q v found) (false_from_ne_true _ (λ b.
            none_some (sym (none_after e m s q (subst (λ q. is_eq (R q e.0) ≡ true) (sym (exact q k (equal _ b))) (ap is_eq r))) ∙ found)))))
        | Greater ↦ λ r.
            ap (λ x. (e.0, x) ∷ set R (with_values F m) k w) (h e.0 e.1 (found_first e m) (false_from_ne_true _ (λ b. greater_equal (sym r ∙ tied_back o e.0 k (equal _ b)))))
            ∙ ap (λ es. (e.0, G e.0 e.1) ∷ es) (set_agree F G m k w (sorted_tail R e.0 (keys_of m) s) (λ q v found. h q v (found_later e m s q v found)))
      ] refl

  pub get-replace : (m : Map K V) (k : K) (v : V) (q : K) → IsSome (get R m k) → get R (replace R m k v) q ≡ cond (is_eq (R k q)) (Some v) (get R m q)
  get-replace m k v q there = lookup-set_value (eq_by_cmp_equiv o) (is_at (R k)) (λ x y h. ap is_eq (o.congr k x y (equal _ h))) q v m there

  -- the value that is there
  pub set_same : (m : Map K V) (k : K) (v : V) → IsStrictlySortedBy R (keys_of m) → get R m k ≡ Some v → set R m k v ≡ m
  set_same [] k v s h = cc
  set_same (e ∷ m) k v s h =
      elim (R k e.0) as (λ r. R k e.0 ≡ r → cond (is_eq r) (Some e.1) (get R m k) ≡ Some v → match_ordering r ((k, v) ∷ e ∷ m) ((e.0, v) ∷ m) (e ∷ set R m k v) ≡ e ∷ m) [
        | Less ↦ λ r c. absurd (none_some (sym (lookup-none (is_at (R k)) (e ∷ m) (none_below_head o k e m s r)) ∙ h))
        | Equal ↦ λ r c. let same : e.1 ≡ v = cc in ap (λ x. (e.0, x) ∷ m) (sym same)
        | Greater ↦ λ r c. ap (λ es. e ∷ es) (set_same m k v (sorted_tail R e.0 (keys_of m) s) c)
      ] refl h

  -- one key has another value v, and all are shown as they were
  pub with_values-moved : {W : Type 0} (F G : V → W) (m : Map K V) (k : K) (v w : V) → IsStrictlySortedBy R (keys_of m) → get R m k ≡ Some v → F w ≡ G v
      → ((q : K) (x : V) → get R m q ≡ Some x → is_eq (R q k) ≡ false → F x ≡ G x) → with_values (λ q. F) (set R m k w) ≡ with_values (λ q. G) m
  with_values-moved F G m k v w s h new others =
      with_values-set exact (λ q. F) m k w ∙ ap (set R (with_values (λ q. F) m) k) new ∙ set_agree (λ q. F) (λ q. G) m k (G v) s others
      ∙ sym (with_values-set exact (λ q. G) m k v) ∙ ap (with_values (λ q. G)) (set_same m k v s h)

  -- another value for a key that is there
  pub keys-set : (k : K) (m : Map K V) (v w : V) → IsStrictlySortedBy R (keys_of m) → get R m k ≡ Some w → keys_of (set R m k v) ≡ keys_of m
  keys-set k [] v w s e = cc
  keys-set k (x ∷ m) v w s e =
      elim (R k x.0) as (λ r. R k x.0 ≡ r → cond (is_eq r) (Some x.1) (get R m k) ≡ Some w → keys_of (match_ordering r ((k, v) ∷ x ∷ m) ((x.0, v) ∷ m) (x ∷ set R m k v)) ≡ keys_of (x ∷ m)) [
        | Less ↦ λ r h. absurd (none_some (sym (lookup-none (is_at (R k)) (x ∷ m) (none_below_head o k x m s r)) ∙ e))
        | Equal ↦ λ r h. refl
        | Greater ↦ λ r h. ap (λ ks. x.0 ∷ ks) (keys-set k m v w (sorted_tail R x.0 (keys_of m) s) h)
      ] refl e

  -- to replace a value is to set it
  pub replace_is_set : (m : Map K V) (k : K) (v : V) → IsStrictlySortedBy R (keys_of m) → IsSome (get R m k) → replace R m k v ≡ set R m k v
  replace_is_set [] k v s h = cc
  replace_is_set (e ∷ m) k v s h =
      elim (R k e.0) as (λ r. R k e.0 ≡ r → IsSome (cond (is_eq r) (Some e.1) (get R m k)) → cond (is_eq r) ((e.0, v) ∷ m) (e ∷ replace R m k v) ≡ match_ordering r ((k, v) ∷ e ∷ m) ((e.0, v) ∷ m) (e ∷ set R m k v)) [
        | Less ↦ λ r c. absurd (none_is_not V (subst IsSome (lookup-none (is_at (R k)) (e ∷ m) (none_below_head o k e m s r)) h))
        | Equal ↦ λ r c. refl
        | Greater ↦ λ r c. ap (λ es. e ∷ es) (replace_is_set m k v (sorted_tail R e.0 (keys_of m) s) c)
      ] refl h

  -- a new key that is removed again leaves the map as it was
  pub without-set : (m : Map K V) (k : K) (v : V) → IsStrictlySortedBy R (keys_of m) → get R m k ≡ None → without R (set R m k v) k ≡ m
  without-set [] k v s h = ap (λ r. cond (is_eq r) [] ((k, v) ∷ [])) (tied_itself o k)
  without-set (e ∷ m) k v s h =
      elim (R k e.0) as (λ r. R k e.0 ≡ r → cond (is_eq r) (Some e.1) (get R m k) ≡ None → without R (match_ordering r ((k, v) ∷ e ∷ m) ((e.0, v) ∷ m) (e ∷ set R m k v)) k ≡ e ∷ m) [
        | Less ↦ λ r c. ap (λ r. cond (is_eq r) (e ∷ m) ((k, v) ∷ without R (e ∷ m) k)) (tied_itself o k)
        | Equal ↦ λ r c. absurd (none_some (sym c))
        | Greater ↦ λ r c. ap (λ r. cond (is_eq r) (set R m k v) (e ∷ without R (set R m k v) k)) r ∙ ap (λ es. e ∷ es) (without-set m k v (sorted_tail R e.0 (keys_of m) s) c)
      ] refl h

-- the keys stay where each value is changed
pub keys-values : {K V W : Type 0} (F : K → V → W) (m : Map K V) → keys_of (with_values F m) ≡ keys_of m
keys-values F [] = refl
keys-values F (e ∷ m) = ap (λ ks. e.0 ∷ ks) (keys-values F m)
