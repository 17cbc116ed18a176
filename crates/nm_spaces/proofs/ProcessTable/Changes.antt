-- The table of processes after a change.
use Rattle.std.proofs.Common.{◌≡◌, ℕ, suc, length, List, [], ◌∷◌, true, false, cond, nat_eq, refl, sym, ap, subst, ◌∙◌}
use Rattle.std.specs.Prelude.{Some, None, IsSome, Result, Ok, Err, OnOk, OnErr, IfOk, IfErr}
use Rattle.std.specs.List.{IsDistinct}
use Rattle.std.specs.List.Sorted.{IsStrictlySortedBy}
use Rattle.std.specs.Map.{keys_of, lookup, set_value}
use Rattle.std.specs.BTreeMap.{is_at}
use Rattle.std.specs.Cmp.{nat_cmp_total, nat_eq_equiv, eq_by_cmp_equiv, unsigned_ties}
use Rattle.std.specs.Ordering.{nat_cmp, is_eq, is_lt, match_ordering}
use Rattle.std.specs.declared.cmp.Ordering.TheVariants.{Less, Equal, Greater}
use Rattle.std.proofs.lemmas.Map.{lookup-none, lookup-set_value, lookup-remove_entry}
use Rattle.std.proofs.lemmas.Map.Entries.{none_past_head}
use Rattle.std.proofs.lemmas.Map.Keys.{IsDistinct-from_sorted}
use Rattle.std.proofs.lemmas.Map.Lookups.{exact_unsigned}
use Rattle.std.proofs.lemmas.Map.Steps.{set_value_same}
use Rattle.std.specs.List.{AllByRecursion}
use Rattle.std.specs.Prelude.{Bool, T, ◌&&◌}
use Rattle.std.specs.Ordering.{eq_by_cmp}
use Rattle.std.specs.FinMap.Entries.{find, below_all, is_sorted, same_entries}
use Rattle.nm_types.specs.Map.{Map, get, set, replace, without}
use Rattle.nm_types.proofs.Cases.{some_is}
use Rattle.nm_types.proofs.Maps.{equal, get-set, get-replace}
use Rattle.nm_types.proofs.Keys.{sorted-set, sorted-without, keys-replace}
use Rattle.nm_model.specs.definitions.PageTables.{Task}
use Rattle.nm_spaces.specs.views.ProcessTable.{by_pid}

both : (a b : Bool) → T a → T b → T (a && b)
both true true g h = tt
both true false g h = h
both false b g h = g

module _ {V : Type 0} where
  below : (x : ℕ) (m : Map ℕ V) → AllByRecursion (λ y. nat_cmp x y ≡ Less) (keys_of m) → T (below_all nat_cmp x m)
  below x [] h = tt
  below x (e ∷ m) h = both (is_lt (nat_cmp x e.0)) (below_all nat_cmp x m) (subst (λ r. T (is_lt r)) (sym h.0) tt) (below x m h.1)

  in_order : (m : Map ℕ V) → IsStrictlySortedBy nat_cmp (keys_of m) → T (is_sorted nat_cmp m)
  unfolding IsStrictlySortedBy
  in_order [] s = tt
  in_order (e ∷ m) s = both (below_all nat_cmp e.0 m) (is_sorted nat_cmp m) (below e.0 m s.0) (in_order m s.1)

  find_get : (m : Map ℕ V) (q : ℕ) → find nat_cmp q m ≡ get nat_cmp m q
  find_get [] q = refl
  find_get (e ∷ m) q = ap (cond (eq_by_cmp nat_cmp q e.0) (Some e.1)) (find_get m q)

  -- maps in order of the same look-ups are the same
  pub same_tables : (m n : Map ℕ V) → IsStrictlySortedBy nat_cmp (keys_of m) → IsStrictlySortedBy nat_cmp (keys_of n) → ((q : ℕ) → get nat_cmp m q ≡ get nat_cmp n q) → m ≡ n
  same_tables m n s t h = same_entries nat_cmp nat_cmp_total exact_unsigned m n (in_order m s) (in_order n t) (λ q. find_get m q ∙ h q ∙ sym (find_get n q))

-- how many there are with a key that was not there
one_more : {V : Type 0} (m : Map ℕ V) (k : ℕ) (v : V) → get nat_cmp m k ≡ None → length (set nat_cmp m k v) ≡ suc (length m)
one_more [] k v h = refl
one_more (e ∷ m) k v h =
    elim (nat_cmp k e.0) as (λ r. cond (is_eq r) (Some e.1) (get nat_cmp m k) ≡ None → length (match_ordering r ((k, v) ∷ e ∷ m) ((e.0, v) ∷ m) (e ∷ set nat_cmp m k v)) ≡ suc (suc (length m))) [
      | Less ↦ λ h. refl
      | Equal ↦ λ h. cc
      | Greater ↦ λ h. ap suc (one_more m k v h)
    ] h

-- the processes by pid are in order, whatever the order of the entries
pub by_pid_sorted : (es : List (ℕ × Task)) → IsStrictlySortedBy nat_cmp (keys_of (by_pid es))
unfolding IsStrictlySortedBy
by_pid_sorted [] = tt
by_pid_sorted (e ∷ es) = sorted-set nat_cmp nat_cmp_total (by_pid es) e.0 e.1 (by_pid_sorted es)

-- a process is found by its pid as it is among the entries
pub by_pid_get : (es : List (ℕ × Task)) (k : ℕ) → lookup (nat_eq k) es ≡ get nat_cmp (by_pid es) k
by_pid_get [] k = refl
by_pid_get (e ∷ es) k =
    ap (λ b. cond b (Some e.1) (lookup (nat_eq k) es)) (unsigned_ties k e.0) ∙ ap (cond (eq_by_cmp nat_cmp k e.0) (Some e.1)) (by_pid_get es k)
    ∙ sym (get-set nat_cmp_total (by_pid es) e.0 e.1 k)

-- there are as many as there are entries
pub by_pid_length : (es : List (ℕ × Task)) → IsDistinct nat_eq (keys_of es) → length (by_pid es) ≡ length es
unfolding IsDistinct
by_pid_length [] d = refl
by_pid_length (e ∷ es) d =
    one_more (by_pid es) e.0 e.1 (sym (by_pid_get es e.0) ∙ lookup-none (nat_eq e.0) es (none_past_head nat_eq_equiv e.0 e es d (nat_eq_equiv.refl e.0)))
    ∙ ap suc (by_pid_length es d.1)

-- entries with the look-ups of a map in order are that map
by_look_ups : (es : List (ℕ × Task)) (m : Map ℕ Task) → IsStrictlySortedBy nat_cmp (keys_of m) → ((q : ℕ) → lookup (nat_eq q) es ≡ get nat_cmp m q) → by_pid es ≡ m
by_look_ups es m s h = same_tables (by_pid es) m (by_pid_sorted es) s (λ q. sym (by_pid_get es q) ∙ h q)

-- a process that is added
pub added : (es now : List (ℕ × Task)) (k : ℕ) (v : Task) → ((q : ℕ) → lookup (nat_eq q) now ≡ cond (nat_eq k q) (Some v) (lookup (nat_eq q) es)) → by_pid now ≡ set nat_cmp (by_pid es) k v
added es now k v h =
    by_look_ups now (set nat_cmp (by_pid es) k v) (sorted-set nat_cmp nat_cmp_total (by_pid es) k v (by_pid_sorted es)) (λ q.
    h q ∙ ap (λ o. cond (nat_eq k q) (Some v) o) (by_pid_get es q) ∙ ap (λ b. cond b (Some v) (get nat_cmp (by_pid es) q)) (nat_eq_equiv.symm k q ∙ unsigned_ties q k)
    ∙ sym (get-set nat_cmp_total (by_pid es) k v q))

-- a process that is removed
pub removed : (es now : List (ℕ × Task)) (k : ℕ) → ((q : ℕ) → lookup (nat_eq q) now ≡ cond (nat_eq k q) None (lookup (nat_eq q) es)) → by_pid now ≡ without nat_cmp (by_pid es) k
removed es now k h =
    by_look_ups now (without nat_cmp (by_pid es) k) (sorted-without nat_cmp (by_pid es) k (by_pid_sorted es)) (λ q.
    h q ∙ ap (λ o. cond (nat_eq k q) None o) (by_pid_get es q) ∙ ap (λ b. cond b None (get nat_cmp (by_pid es) q)) (unsigned_ties k q)
    ∙ sym (lookup-remove_entry (eq_by_cmp_equiv nat_cmp_total) (is_at (nat_cmp k)) (λ x y t. ap is_eq (nat_cmp_total.congr k x y (equal _ t))) q (by_pid es) (IsDistinct-from_sorted nat_cmp (keys_of (by_pid es)) (by_pid_sorted es))))

-- what a process becomes, by what is found
pub rewritten : (es after : List (ℕ × Task)) (now : Map ℕ Task) (k : ℕ) (w : Task) → by_pid es ≡ now → IsSome (lookup (nat_eq k) es) → ((q : ℕ) → lookup (nat_eq q) after ≡ cond (nat_eq k q) (Some w) (lookup (nat_eq q) es)) → by_pid after ≡ replace nat_cmp now k w
rewritten es after now k w same there h =
    by_look_ups after (replace nat_cmp (by_pid es) k w) (subst (IsStrictlySortedBy nat_cmp) (sym (keys-replace nat_cmp (by_pid es) k w)) (by_pid_sorted es)) (λ q.
    h q
    ∙ ap (λ b. cond b (Some w) (lookup (nat_eq q) es)) (unsigned_ties k q) ∙ ap (λ o. cond (eq_by_cmp nat_cmp k q) (Some w) o) (by_pid_get es q)
    ∙ sym (get-replace nat_cmp_total exact_unsigned (by_pid es) k w q (subst IsSome (by_pid_get es k) there)))
    ∙ ap (λ m. replace nat_cmp m k w) same

-- what a process becomes through a reference
pub written : (es after : List (ℕ × Task)) (now : Map ℕ Task) (k : ℕ) (x w v : Task) → by_pid es ≡ now → Some x ≡ lookup (nat_eq k) es → after ≡ set_value (nat_eq k) es w → w ≡ v → by_pid after ≡ replace nat_cmp now k v
written es after now k x w v same found is to =
    ap by_pid is
    ∙ rewritten es (set_value (nat_eq k) es w) now k w same (subst IsSome found refl) (λ q. lookup-set_value nat_eq_equiv (nat_eq k) (λ a b t. nat_eq_equiv.congr k a b t) q w es (subst IsSome found refl))
    ∙ ap (replace nat_cmp now k) to

-- what is written is what was there
pub written_same : (es after : List (ℕ × Task)) (now : Map ℕ Task) (k : ℕ) (w x : Task) → by_pid es ≡ now → Some x ≡ lookup (nat_eq k) es → after ≡ set_value (nat_eq k) es w → w ≡ x → by_pid after ≡ now
written_same es after now k w x same found is to = ap by_pid (is ∙ ap (set_value (nat_eq k) es) to ∙ set_value_same (nat_eq k) es x (sym found)) ∙ same

module _ {V : Type 0} where
  -- the last value counts
  pub replace_twice : (m : Map ℕ V) (k : ℕ) (v w : V) → replace nat_cmp (replace nat_cmp m k v) k w ≡ replace nat_cmp m k w
  replace_twice [] k v w = refl
  replace_twice (e ∷ m) k v w =
      elim (is_eq (nat_cmp k e.0)) as (λ b. is_eq (nat_cmp k e.0) ≡ b → replace nat_cmp (cond b ((e.0, v) ∷ m) (e ∷ replace nat_cmp m k v)) k w ≡ cond b ((e.0, w) ∷ m) (e ∷ replace nat_cmp m k w)) [
        | true ↦ λ b. ap (λ c. cond c ((e.0, w) ∷ m) ((e.0, v) ∷ replace nat_cmp m k w)) b
        | false ↦ λ b. ap (λ c. cond c ((e.0, w) ∷ replace nat_cmp m k v) (e ∷ replace nat_cmp (replace nat_cmp m k v) k w)) b ∙ ap (λ es. e ∷ es) (replace_twice m k v w)
      ] refl

-- what is looked up among the entries
pub looked : (es : List (ℕ × Task)) (now : Map ℕ Task) (k : ℕ) → by_pid es ≡ now → lookup (nat_eq k) es ≡ get nat_cmp now k
looked es now k same = by_pid_get es k ∙ ap (λ m. get nat_cmp m k) same

-- the process that was found is there
pub found_value : (es : List (ℕ × Task)) (now : Map ℕ Task) (k : ℕ) (x : Task) → by_pid es ≡ now → Some x ≡ lookup (nat_eq k) es → get nat_cmp now k ≡ Some x
found_value es now k x same found = sym (found ∙ looked es now k same)

-- no process is found where there is none
pub none_found : (es : List (ℕ × Task)) (now : Map ℕ Task) (k : ℕ) → by_pid es ≡ now → None ≡ lookup (nat_eq k) es → get nat_cmp now k ≡ None
none_found es now k same found = sym (found ∙ looked es now k same)

-- what a process becomes, stated for the one that is found
pub becomes : (F : Task → Task) (es after : List (ℕ × Task)) (now : Map ℕ Task) (k : ℕ) (x w t : Task) → by_pid es ≡ now → Some x ≡ lookup (nat_eq k) es → after ≡ set_value (nat_eq k) es w → w ≡ F x
    → get nat_cmp now k ≡ Some t → by_pid after ≡ replace nat_cmp now k (F t)
becomes F es after now k x w t same found is to there =
    written es after now k x w (F t) same found is (to ∙ ap F (some_is (sym (found_value es now k x same found) ∙ there)))

-- what follows on an error
pub on_err : {T E P Q : Type 0} (r : Result T E) → (P → Q) → OnErr r P → OnErr r Q
on_err (Ok x) f p = tt
on_err (Err e) f p = f p

-- what holds anyway
pub on_any : {T E P : Type 0} (r : Result T E) → P → OnErr r P
on_any (Ok x) p = tt
on_any (Err e) p = p

-- what follows where there is no error
pub on_ok : {T E P Q : Type 0} (r : Result T E) → (P → Q) → OnOk r P → OnOk r Q
on_ok (Ok x) f p = f p
on_ok (Err e) f p = tt

-- what follows in both cases
pub on_both : {T E P Q R : Type 0} (r : Result T E) → (P → R) → (Q → R) → OnOk r P → OnErr r Q → R
on_both (Ok x) f g p q = f p
on_both (Err e) f g p q = g q

-- what follows of what a call gives
pub if_ok : {T E : Type 0} {P Q : T → Type 0} (r : Result T E) → ((x : T) → P x → Q x) → IfOk r P → IfOk r Q
if_ok (Ok x) f p = f x p
if_ok (Err e) f p = tt

-- what follows of the error that it gives
pub if_err : {T E : Type 0} {P Q : E → Type 0} (r : Result T E) → ((x : E) → P x → Q x) → IfErr r P → IfErr r Q
if_err (Ok x) f p = tt
if_err (Err e) f p = f e p
