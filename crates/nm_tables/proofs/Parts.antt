-- A list of parts in order: what is found at a place, changed there, put there, and left from there on.
use Rattle.std.proofs.Common.{◌≡◌, ℕ, zero, suc, ◌+◌, ◌≤◌, ◌<◌, List, [], ◌∷◌, length, get_or, take, drop, false, cond, refl, sym, ap, subst, ◌∙◌, arith, add-one}
use Rattle.std.specs.Prelude.{Some, None, not, ◌&&◌, set as put}
use Rattle.std.specs.List.{AllByRecursion, insert, remove}
use Rattle.std.specs.List.Sorted.{IsStrictlySortedBy}
use Rattle.std.specs.Map.{keys_of}
use Rattle.std.specs.Ordering.{nat_cmp, is_eq, is_le, match_ordering}
use Rattle.std.specs.Cmp.{nat_cmp_is, ranked}
use Rattle.std.specs.declared.cmp.Ordering.TheVariants.{Less, Equal, Greater}
use Rattle.std.specs.declared.ops.Bound.TheVariants.{Included, Unbounded}
use Rattle.std.specs.BTreeMap.Range.{entries_between, range_contains}
use Rattle.nm_types.specs.Map.{Map, get, set, replace, without}
use Rattle.nm_tables.specs.definitions.Nodes.{IsNode}
use Rattle.nm_tables.specs.definitions.Parts.{StandsAt, FitsAt, BeginsAt}
use Rattle.nm_tables.proofs.Walks.{passes}
use Rattle.nm_tables.proofs.Joined.{all_above, itself, is_same, same_number, get-here, get-later, get-absent}

apart : (a b : ℕ) → a < b → b ≡ a → ⊥
apart a b l e = absurd (omega (arith, l, e))

no_lower : (a : ℕ) (ks : List ℕ) → AllByRecursion (λ y. nat_cmp a y ≡ Less) ks → AllByRecursion (λ k. a ≤ k) ks
no_lower a [] h = tt
no_lower a (k ∷ ks) h = let l : a < k = ranked a k Less (sym h.0) in (omega (arith, l), no_lower a ks h.1)

no_lower_than : (n : ℕ) (ks : List ℕ) → AllByRecursion (λ k. n < k) ks → AllByRecursion (λ k. n ≤ k) ks
no_lower_than n [] h = tt
no_lower_than n (k ∷ ks) h = let l = h.0 in (omega (arith, l), no_lower_than n ks h.1)

pub fails : (a k : ℕ) → k < a → range_contains nat_cmp (Included a) Unbounded k ≡ false
fails a k l =
    let greater : nat_cmp a k ≡ Greater = sym (nat_cmp_is a k Greater l) in
    ap (λ r. is_le r && not false) greater

-- no parts are the parts of a node
pub no_parts : {P : Type 0} (whole : P → Type 0) (is_in : P → ℕ → Type 0) → IsNode whole is_in []
unfolding IsStrictlySortedBy
no_parts whole is_in = (tt, tt)

module _ {P : Type 0} where
  -- a key is below each that comes after it
  pub later_key : (a : ℕ) (m : Map ℕ P) (i : ℕ) (d : ℕ × P) → AllByRecursion (λ y. nat_cmp a y ≡ Less) (keys_of m) → i < length m → a < (get_or m i d).0
  later_key a [] i d h l = absurd (omega (arith, l))
  later_key a (e ∷ m) zero d h l = ranked a e.0 Less (sym h.0)
  later_key a (e ∷ m) (suc i) d h l = later_key a m i d h.1 (omega (arith, l))

  -- the part at a place is found by its key
  pub get-at : (m : Map ℕ P) (i : ℕ) (d : ℕ × P) → IsStrictlySortedBy nat_cmp (keys_of m) → i < length m → get nat_cmp m (get_or m i d).0 ≡ Some (get_or m i d).1
  unfolding IsStrictlySortedBy
  get-at [] i d s l = absurd (omega (arith, l))
  get-at (e ∷ m) zero d s l = get-here e m e.0 refl
  get-at (e ∷ m) (suc i) d s l =
      let rest : i < length m = omega (arith, l) in
      get-later e m (get_or m i d).0 (apart e.0 (get_or m i d).0 (later_key e.0 m i d s.0 rest)) ∙ get-at m i d s.1 rest

  replaced_later : (e : ℕ × P) (m : Map ℕ P) (q : ℕ) (y : P) → (q ≡ e.0 → ⊥) → replace nat_cmp (e ∷ m) q y ≡ e ∷ replace nat_cmp m q y
  replaced_later e m q y h =
      elim (nat_cmp q e.0) as (λ r. nat_cmp q e.0 ≡ r → cond (is_eq r) ((e.0, y) ∷ m) (e ∷ replace nat_cmp m q y) ≡ e ∷ replace nat_cmp m q y) [
        | Less ↦ λ r. refl
        | Equal ↦ λ r. absurd (h (is_same q e.0 r))
        | Greater ↦ λ r. refl
      ] refl

  -- writing at a place replaces the value of its key
  pub replace-at : (m : Map ℕ P) (i : ℕ) (d : ℕ × P) (y : P) → IsStrictlySortedBy nat_cmp (keys_of m) → i < length m
      → put m i ((get_or m i d).0, y) ≡ replace nat_cmp m (get_or m i d).0 y
  unfolding IsStrictlySortedBy
  replace-at [] i d y s l = absurd (omega (arith, l))
  replace-at (e ∷ m) zero d y s l = ap (λ r. cond (is_eq r) ((e.0, y) ∷ m) (e ∷ replace nat_cmp m e.0 y)) (sym (same_number e.0 e.0 refl))
  replace-at (e ∷ m) (suc i) d y s l =
      let rest : i < length m = omega (arith, l) in
      ap (λ n. e ∷ n) (replace-at m i d y s.1 rest) ∙ sym (replaced_later e m (get_or m i d).0 y (apart e.0 (get_or m i d).0 (later_key e.0 m i d s.0 rest)))

  removed_later : (e : ℕ × P) (m : Map ℕ P) (q : ℕ) → (q ≡ e.0 → ⊥) → without nat_cmp (e ∷ m) q ≡ e ∷ without nat_cmp m q
  removed_later e m q h =
      elim (nat_cmp q e.0) as (λ r. nat_cmp q e.0 ≡ r → cond (is_eq r) m (e ∷ without nat_cmp m q) ≡ e ∷ without nat_cmp m q) [
        | Less ↦ λ r. refl
        | Equal ↦ λ r. absurd (h (is_same q e.0 r))
        | Greater ↦ λ r. refl
      ] refl

  -- removing the part at a place removes its key
  remove-at : (m : Map ℕ P) (i : ℕ) (d : ℕ × P) → IsStrictlySortedBy nat_cmp (keys_of m) → i < length m → remove m i ≡ without nat_cmp m (get_or m i d).0
  unfolding IsStrictlySortedBy
  remove-at [] i d s l = absurd (omega (arith, l))
  remove-at (e ∷ m) zero d s l = ap (λ r. cond (is_eq r) m (e ∷ without nat_cmp m e.0)) (sym (same_number e.0 e.0 refl))
  remove-at (e ∷ m) (suc i) d s l =
      let rest : i < length m = omega (arith, l) in
      ap (λ n. e ∷ n) (remove-at m i d s.1 rest) ∙ sym (removed_later e m (get_or m i d).0 (apart e.0 (get_or m i d).0 (later_key e.0 m i d s.0 rest)))

  -- also where it was written before
  remove-put : (m : Map ℕ P) (i : ℕ) (x : ℕ × P) → remove (put m i x) i ≡ remove m i
  remove-put [] i x = refl
  remove-put (e ∷ m) zero x = refl
  remove-put (e ∷ m) (suc i) x = ap (λ n. e ∷ n) (remove-put m i x)

  below_it : (m : Map ℕ P) (i : ℕ) (d : ℕ × P) (n : ℕ) → IsStrictlySortedBy nat_cmp (keys_of m) → i < length m → (get_or m i d).0 < n → AllByRecursion (λ k. k < n) (keys_of (take (suc i) m))
  unfolding IsStrictlySortedBy
  below_it [] i d n s l h = absurd (omega (arith, l))
  below_it (e ∷ m) zero d n s l h = (h, tt)
  below_it (e ∷ m) (suc i) d n s l h =
      let rest : i < length m = omega (arith, l) in
      let low = later_key e.0 m i d s.0 rest in
      (omega (arith, low, h), below_it m i d n s.1 rest h)

  -- the parts before a place with a lower key, and the one at it, have lower keys
  pub below_at : (m : Map ℕ P) (i : ℕ) (d : ℕ × P) (n : ℕ) → IsStrictlySortedBy nat_cmp (keys_of m) → i < length m → (get_or m i d).0 < n → AllByRecursion (λ k. k < n) (keys_of (take (i + 1) m))
  below_at m i d n s l h = subst (λ j. AllByRecursion (λ k. k < n) (keys_of (take j m))) (sym (add-one i)) (below_it m i d n s l h)

  -- the parts from a place with a higher key on have higher keys
  pub above_at : (m : Map ℕ P) (i : ℕ) (d : ℕ × P) (n : ℕ) → IsStrictlySortedBy nat_cmp (keys_of m) → i < length m → n < (get_or m i d).0 → AllByRecursion (λ k. n < k) (keys_of (drop i m))
  unfolding IsStrictlySortedBy
  above_at [] i d n s l h = absurd (omega (arith, l))
  above_at (e ∷ m) zero d n s l h = (h, all_above n e.0 (keys_of m) h s.0)
  above_at (e ∷ m) (suc i) d n s l h = above_at m i d n s.1 (omega (arith, l)) h

  -- a number that belongs at a place is not there
  pub get-between : (m : Map ℕ P) (i : ℕ) (n : ℕ) → FitsAt m n i → get nat_cmp m n ≡ None
  get-between m zero n fits = get-absent (λ k. n < k) m n fits.2 (itself n)
  get-between [] (suc i) n fits = refl
  get-between (e ∷ m) (suc i) n fits =
      let le = fits.0 in
      get-later e m n (λ z. let l : e.0 < n = fits.1.0 in absurd (omega (arith, l, z))) ∙ get-between m i n (omega (arith, le), fits.1.1, fits.2)

  -- putting it there sets it
  pub set-between : (m : Map ℕ P) (i : ℕ) (n : ℕ) (y : P) → FitsAt m n i → insert m i (n, y) ≡ set nat_cmp m n y
  set-between [] zero n y fits = refl
  set-between (e ∷ m) zero n y fits =
      let less : nat_cmp n e.0 ≡ Less = sym (nat_cmp_is n e.0 Less fits.2.0) in
      ap (λ r. match_ordering r ((n, y) ∷ e ∷ m) ((e.0, y) ∷ m) (e ∷ set nat_cmp m n y)) (sym less)
  set-between [] (suc i) n y fits = let le : suc i ≤ 0 = fits.0 in absurd (omega (arith, le))
  set-between (e ∷ m) (suc i) n y fits =
      let le = fits.0 in
      let greater : nat_cmp n e.0 ≡ Greater = sym (nat_cmp_is n e.0 Greater fits.1.0) in
      ap (λ l. e ∷ l) (set-between m i n y (omega (arith, le), fits.1.1, fits.2))
      ∙ ap (λ r. match_ordering r ((n, y) ∷ e ∷ m) ((e.0, y) ∷ m) (e ∷ set nat_cmp m n y)) (sym greater)

module _ {P : Type 0} where
  -- the parts before a place have keys below its key
  pub before_at : (m : Map ℕ P) (i : ℕ) (d : ℕ × P) → IsStrictlySortedBy nat_cmp (keys_of m) → i < length m → AllByRecursion (λ k. k < (get_or m i d).0) (keys_of (take i m))
  unfolding IsStrictlySortedBy
  before_at [] i d s l = absurd (omega (arith, l))
  before_at (e ∷ m) zero d s l = tt
  before_at (e ∷ m) (suc i) d s l = let rest : i < length m = omega (arith, l) in (later_key e.0 m i d s.0 rest, before_at m i d s.1 rest)

  -- the parts from a place on have its key or higher ones
  pub from_at : (m : Map ℕ P) (i : ℕ) (d : ℕ × P) → IsStrictlySortedBy nat_cmp (keys_of m) → i < length m → AllByRecursion (λ k. (get_or m i d).0 ≤ k) (keys_of (drop i m))
  unfolding IsStrictlySortedBy
  from_at [] i d s l = absurd (omega (arith, l))
  from_at (e ∷ m) zero d s l = (omega arith, no_lower e.0 (keys_of m) s.0)
  from_at (e ∷ m) (suc i) d s l = from_at m i d s.1 (omega (arith, l))

  -- where a part is, or belongs, those with its number or a higher one begin
  pub begins_there : (m : Map ℕ P) (n i : ℕ) → IsStrictlySortedBy nat_cmp (keys_of m) → StandsAt m n i → BeginsAt m n i
  begins_there [] n i s stands = let l = stands.0 in absurd (omega (arith, l))
  begins_there (e ∷ m) n i s stands =
      let l = stands.0 in
      subst (λ q. BeginsAt (e ∷ m) q i) (stands.1 e) (omega (arith, l), before_at (e ∷ m) i e s l, from_at (e ∷ m) i e s l)

  pub begins_between : (m : Map ℕ P) (n i : ℕ) → FitsAt m n i → BeginsAt m n i
  begins_between m n i fits = (fits.0, fits.1, no_lower_than n (keys_of (drop i m)) fits.2)

  all_pass : (n : ℕ) (m : Map ℕ P) → AllByRecursion (λ k. n ≤ k) (keys_of m) → entries_between nat_cmp (Included n) Unbounded m ≡ m
  all_pass n [] h = refl
  all_pass n (e ∷ m) h =
      ap (λ b. cond b (e ∷ entries_between nat_cmp (Included n) Unbounded m) (entries_between nat_cmp (Included n) Unbounded m)) (passes n e.0 h.0)
      ∙ ap (λ l. e ∷ l) (all_pass n m h.1)

  -- the parts from a place on are those with this number or a higher one
  pub between_is : (m : Map ℕ P) (i : ℕ) (n : ℕ) → BeginsAt m n i → entries_between nat_cmp (Included n) Unbounded m ≡ drop i m
  between_is m zero n begins = all_pass n m begins.2
  between_is [] (suc i) n begins = refl
  between_is (e ∷ m) (suc i) n begins =
      let le = begins.0 in
      ap (λ b. cond b (e ∷ entries_between nat_cmp (Included n) Unbounded m) (entries_between nat_cmp (Included n) Unbounded m)) (fails n e.0 begins.1.0)
      ∙ between_is m i n (omega (arith, le), begins.1.1, begins.2)

-- e is the part with the number, the one at index i
pub record IsPartAt {P : Type 0} (m : Map ℕ P) (number i : ℕ) (e : ℕ × P) : Type 0 where
  pub found : get nat_cmp m number ≡ Some e.1
  -- another part that is written there is the part with the number
  pub written : (y : P) → put m i (e.0, y) ≡ replace nat_cmp m number y
  -- once that is removed, the number has no part
  pub removed : (y : P) → remove (put m i (e.0, y)) i ≡ without nat_cmp m number

-- what a search of a list in order gives, where the list is seen as m and the number as `number`
module _ {P : Type 0} (m seen : Map ℕ P) (number n i : ℕ) (shows : seen ≡ m) (named : n ≡ number) where
  module _ (e : ℕ × P) (sorted : IsStrictlySortedBy nat_cmp (keys_of m)) (stands : StandsAt seen n i) (is : e ≡ get_or m i e) where
    inside : i < length m
    inside = subst (λ s. i < length s) shows stands.0

    its_key : (get_or m i e).0 ≡ number
    its_key = ap (λ s. (get_or s i e).0) (sym shows) ∙ stands.1 e ∙ named

    -- the part there is the one with the number
    pub part_at : IsPartAt m number i e
    part_at = record {
      found = subst (λ q. get nat_cmp m q ≡ Some e.1) its_key (get-at m i e sorted inside ∙ ap (λ d. Some d.1) (sym is));
      written = λ y. subst (λ q. put m i (e.0, y) ≡ replace nat_cmp m q y) its_key (ap (λ d. put m i (d.0, y)) is ∙ replace-at m i e y sorted inside);
      removed = λ y. subst (λ q. remove (put m i (e.0, y)) i ≡ without nat_cmp m q) its_key (remove-put m i (e.0, y) ∙ remove-at m i e sorted inside);
    }

  fits_here : FitsAt seen n i → FitsAt m number i
  fits_here fits = subst (λ q. FitsAt m q i) named (subst (λ s. FitsAt s n i) shows fits)

  -- a part that belongs there is not there yet
  pub absent_at : FitsAt seen n i → get nat_cmp m number ≡ None
  absent_at fits = get-between m i number (fits_here fits)

  -- a part that is put there is the part with the number
  pub inserted_at : FitsAt seen n i → (y : P) → insert m i (n, y) ≡ set nat_cmp m number y
  inserted_at fits y = ap (λ q. insert m i (q, y)) named ∙ set-between m i number y (fits_here fits)
