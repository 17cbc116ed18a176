-- What a map has from one key to another, both of them too.
use Rattle.std.proofs.Common.{◌≡◌, ℕ, ◌+◌, ◌≤◌, ◌<◌, List, [], ◌∷◌, true, false, cond, refl, sym, ap, ◌∙◌, arith}
use Rattle.std.specs.Prelude.{Bool, Some, None, not, ◌&&◌}
use Rattle.std.specs.List.{AllByRecursion, filter}
use Rattle.std.specs.List.Sorted.{IsStrictlySortedBy}
use Rattle.std.specs.Map.{keys_of}
use Rattle.std.specs.Ordering.{nat_cmp, is_le, is_lt}
use Rattle.std.specs.Cmp.{nat_cmp_is, ranked}
use Rattle.std.specs.declared.cmp.Ordering.TheVariants.{Less, Equal, Greater}
use Rattle.std.specs.declared.ops.Bound.TheVariants.{Included, Excluded}
use Rattle.std.specs.BTreeMap.Range.{entries_between, range_contains}
use Rattle.std.proofs.Math.Decide.{dec_lt}
use Rattle.nm_types.specs.Map.{Map, get}
use Rattle.nm_types.proofs.Cases.{true_false}
use Rattle.nm_tables.proofs.Joined.{one_or_other, get-here, get-later, get-absent, alike}
use Rattle.nm_tables.proofs.Walks.{from_it, sorted-filter, get-filter}

lt_yes : (a b : ℕ) → a < b → is_lt (nat_cmp a b) ≡ true
lt_yes a b l = ap is_lt (sym (nat_cmp_is a b Less l))

lt_no : (a b : ℕ) → b ≤ a → is_lt (nat_cmp a b) ≡ false
lt_no a b l =
    elim (nat_cmp a b) as (λ r. nat_cmp a b ≡ r → is_lt r ≡ false) [
      | Less ↦ λ r. let g : a < b = ranked a b Less (sym r) in absurd (omega (arith, l, g))
      | Equal ↦ λ r. refl
      | Greater ↦ λ r. refl
    ] refl

le_no : (a b : ℕ) → b < a → is_le (nat_cmp a b) ≡ false
le_no a b l = ap is_le (sym (nat_cmp_is a b Greater l))

and_no : (b : Bool) → (b && false) ≡ false
and_no true = refl
and_no false = refl

inside : (a z k : ℕ) → a ≤ k → k ≤ z → range_contains nat_cmp (Included a) (Included z) k ≡ true
inside a z k low high = ap (λ b. b && not (is_lt (nat_cmp z k))) (from_it a k low) ∙ ap (λ b. true && not b) (lt_no z k high)

pub below : (a z k : ℕ) → k < a → range_contains nat_cmp (Included a) (Included z) k ≡ false
below a z k l = ap (λ b. b && not (is_lt (nat_cmp z k))) (le_no a k l)

pub beyond : (a z k : ℕ) → z < k → range_contains nat_cmp (Included a) (Included z) k ≡ false
beyond a z k l = ap (λ b. is_le (nat_cmp a k) && not b) (lt_yes z k l) ∙ and_no (is_le (nat_cmp a k))

not_below : (a z k : ℕ) → range_contains nat_cmp (Included a) (Included z) k ≡ true → Dec (k < a) → a ≤ k
not_below a z k h (yes l) = absurd (true_false (sym h ∙ below a z k l))
not_below a z k h (no n) = omega (arith, n)

past : (b z : ℕ) (ks : List ℕ) → AllByRecursion (λ k. range_contains nat_cmp (Included (b + 1)) (Included z) k ≡ true) ks → AllByRecursion (λ k. nat_cmp b k ≡ Less) ks
past b z [] all = tt
past b z (k ∷ ks) all =
    let low = not_below (b + 1) z k all.0 (dec_lt k (b + 1)) in
    (sym (nat_cmp_is b k Less (omega (arith, low))), past b z ks all.1)

above : (q b : ℕ) → (q < b → ⊥) → (q ≡ b → ⊥) → b + 1 ≤ q
above q b n apart = grind arith

-- up to a key and without it
same_end : (a z end k : ℕ) → z + 1 ≡ end → Dec (z < k) → range_contains nat_cmp (Included a) (Included z) k ≡ range_contains nat_cmp (Included a) (Excluded end) k
same_end a z end k e (yes l) = ap (λ b. is_le (nat_cmp a k) && not b) (lt_yes z k l ∙ sym (from_it end k (omega (arith, e, l))))
same_end a z end k e (no n) = ap (λ b. is_le (nat_cmp a k) && not b) (lt_no z k (omega (arith, n)) ∙ sym (le_no end k (omega (arith, e, n))))

module _ {V : Type 0} where
  -- the keys of a filter pass it
  all_pass : (p : ℕ → Bool) (m : Map ℕ V) → AllByRecursion (λ k. p k ≡ true) (keys_of (filter (λ e. p e.0) m))
  all_pass p [] = tt
  all_pass p (e ∷ m) =
      elim (p e.0) as (λ b. p e.0 ≡ b → AllByRecursion (λ k. p k ≡ true) (keys_of (cond b (e ∷ filter (λ e. p e.0) m) (filter (λ e. p e.0) m)))) [
        | true ↦ λ h. (h, all_pass p m)
        | false ↦ λ h. all_pass p m
      ] refl

  get_out : (p : ℕ → Bool) (m : Map ℕ V) (q : ℕ) → p q ≡ false → get nat_cmp (filter (λ e. p e.0) m) q ≡ None
  get_out p m q out = get-absent (λ k. p k ≡ true) (filter (λ e. p e.0) m) q (all_pass p m) (λ t. true_false (sym t ∙ out))

  -- from one key to another
  abbrev pub within : ℕ → ℕ → Map ℕ V → Map ℕ V
  within a z m = entries_between nat_cmp (Included a) (Included z) m

  module _ (a z : ℕ) (m : Map ℕ V) where
    get_in : (q : ℕ) → a ≤ q → q ≤ z → get nat_cmp (within a z m) q ≡ get nat_cmp m q
    get_in q low high = get-filter (range_contains nat_cmp (Included a) (Included z)) m q (inside a z q low high)

    get_below : (q : ℕ) → q < a → get nat_cmp (within a z m) q ≡ None
    get_below q l = get_out (range_contains nat_cmp (Included a) (Included z)) m q (below a z q l)

    get_beyond : (q : ℕ) → z < q → get nat_cmp (within a z m) q ≡ None
    get_beyond q l = get_out (range_contains nat_cmp (Included a) (Included z)) m q (beyond a z q l)

    pub in_order : IsStrictlySortedBy nat_cmp (keys_of m) → IsStrictlySortedBy nat_cmp (keys_of (within a z m))
    in_order sorted = sorted-filter (range_contains nat_cmp (Included a) (Included z)) m sorted

  -- of two maps, or from two keys on
  alike_by : (a b z : ℕ) (m n : Map ℕ V) → ((q : ℕ) → q ≤ z → get nat_cmp (within a z m) q ≡ get nat_cmp (within b z n) q) → (q : ℕ) → Dec (z < q) → get nat_cmp (within a z m) q ≡ get nat_cmp (within b z n) q
  alike_by a b z m n same q (yes l) = get_beyond a z m q l ∙ sym (get_beyond b z n q l)
  alike_by a b z m n same q (no s) = same q (omega (arith, s))

  within_alike : (a b z : ℕ) (m n : Map ℕ V) → IsStrictlySortedBy nat_cmp (keys_of m) → IsStrictlySortedBy nat_cmp (keys_of n)
      → ((q : ℕ) → q ≤ z → get nat_cmp (within a z m) q ≡ get nat_cmp (within b z n) q) → within a z m ≡ within b z n
  within_alike a b z m n sm sn same = alike (within a z m) (within b z n) (in_order a z m sm) (in_order b z n sn) (λ q. alike_by a b z m n same q (dec_lt z q))

  module _ (z : ℕ) (m : Map ℕ V) (sorted : IsStrictlySortedBy nat_cmp (keys_of m)) where
    from_at : (a b q : ℕ) → q ≤ z → (a ≤ q → q < b → get nat_cmp m q ≡ None) → (b ≤ q → q < a → get nat_cmp m q ≡ None) → Dec (q < a) → Dec (q < b)
        → get nat_cmp (within a z m) q ≡ get nat_cmp (within b z m) q
    from_at a b q high first second (yes l) (yes k) = get_below a z m q l ∙ sym (get_below b z m q k)
    from_at a b q high first second (yes l) (no k) = get_below a z m q l ∙ sym (get_in b z m q (omega (arith, k)) high ∙ second (omega (arith, k)) l)
    from_at a b q high first second (no l) (yes k) = get_in a z m q (omega (arith, l)) high ∙ first (omega (arith, l)) k ∙ sym (get_below b z m q k)
    from_at a b q high first second (no l) (no k) = get_in a z m q (omega (arith, l)) high ∙ sym (get_in b z m q (omega (arith, k)) high)

    -- from another key on, if nothing is between the two
    pub within_from : (a b : ℕ) → ((q : ℕ) → a ≤ q → q < b → get nat_cmp m q ≡ None) → ((q : ℕ) → b ≤ q → q < a → get nat_cmp m q ≡ None) → within a z m ≡ within b z m
    within_from a b first second = within_alike a b z m m sorted sorted (λ q high. from_at a b q high (first q) (second q) (dec_lt q a) (dec_lt q b))

    none_at : (a q : ℕ) → ((k : ℕ) → a ≤ k → k ≤ z → get nat_cmp m k ≡ None) → Dec (q < a) → Dec (z < q) → get nat_cmp (within a z m) q ≡ None
    none_at a q none (yes l) d = get_below a z m q l
    none_at a q none (no l) (yes h) = get_beyond a z m q h
    none_at a q none (no l) (no h) = get_in a z m q (omega (arith, l)) (omega (arith, h)) ∙ none q (omega (arith, l)) (omega (arith, h))

    -- nothing, if nothing is there
    pub within_none : (a : ℕ) → ((k : ℕ) → a ≤ k → k ≤ z → get nat_cmp m k ≡ None) → within a z m ≡ []
    unfolding IsStrictlySortedBy
    within_none a none = alike (within a z m) [] (in_order a z m sorted) tt (λ q. none_at a q none (dec_lt q a) (dec_lt z q))

    -- all, if nothing is before or after
    all_at : (a q : ℕ) → ((k : ℕ) → k < a → get nat_cmp m k ≡ None) → ((k : ℕ) → z < k → get nat_cmp m k ≡ None) → Dec (q < a) → Dec (z < q) → get nat_cmp (within a z m) q ≡ get nat_cmp m q
    all_at a q first second (yes l) d = get_below a z m q l ∙ sym (first q l)
    all_at a q first second (no l) (yes h) = get_beyond a z m q h ∙ sym (second q h)
    all_at a q first second (no l) (no h) = get_in a z m q (omega (arith, l)) (omega (arith, h))

    pub within_all : (a : ℕ) → ((k : ℕ) → k < a → get nat_cmp m k ≡ None) → ((k : ℕ) → z < k → get nat_cmp m k ≡ None) → within a z m ≡ m
    within_all a first second = alike (within a z m) m (in_order a z m sorted) sorted (λ q. all_at a q first second (dec_lt q a) (dec_lt z q))

    module _ (a b : ℕ) (x : V) (low : a ≤ b) (high : b ≤ z) (h : get nat_cmp m b ≡ Some x) (none : (k : ℕ) → a ≤ k → k < b → get nat_cmp m k ≡ None) where
      later_sorted : IsStrictlySortedBy nat_cmp (keys_of ((b, x) ∷ within (b + 1) z m))
      unfolding IsStrictlySortedBy
      later_sorted = (past b z (keys_of (within (b + 1) z m)) (all_pass (range_contains nat_cmp (Included (b + 1)) (Included z)) m), in_order (b + 1) z m sorted)

      later : (q : ℕ) → (q ≡ b → ⊥) → Dec (q < b) → Dec (z < q) → Dec (q < a) → get nat_cmp (within a z m) q ≡ get nat_cmp (within (b + 1) z m) q
      later q apart d (yes far) c = get_beyond a z m q far ∙ sym (get_beyond (b + 1) z m q far)
      later q apart (yes l) (no far) (yes below_a) = get_below a z m q below_a ∙ sym (get_below (b + 1) z m q (omega (arith, l)))
      later q apart (yes l) (no far) (no s) = get_in a z m q (omega (arith, s)) (omega (arith, far)) ∙ none q (omega (arith, s)) l ∙ sym (get_below (b + 1) z m q (omega (arith, l)))
      later q apart (no n) (no far) c =
          let up = above q b n apart in
          get_in a z m q (omega (arith, up, low)) (omega (arith, far)) ∙ sym (get_in (b + 1) z m q up (omega (arith, far)))

      -- the first from there on, and what comes after it
      pub within_next : within a z m ≡ (b, x) ∷ within (b + 1) z m
      within_next =
          alike (within a z m) ((b, x) ∷ within (b + 1) z m) (in_order a z m sorted) later_sorted (λ q.
          elim (one_or_other q b) as (λ _. get nat_cmp (within a z m) q ≡ get nat_cmp ((b, x) ∷ within (b + 1) z m) q) [
            | yes e ↦ ap (get nat_cmp (within a z m)) e ∙ get_in a z m b low high ∙ h ∙ sym (get-here (b, x) (within (b + 1) z m) q e)
            | no n ↦ later q n (dec_lt q b) (dec_lt z q) (dec_lt q a) ∙ sym (get-later (b, x) (within (b + 1) z m) q n)
          ])

  -- up to a key and without it
  pub within_end : (a z end : ℕ) → z + 1 ≡ end → (m : Map ℕ V) → within a z m ≡ entries_between nat_cmp (Included a) (Excluded end) m
  within_end a z end e [] = refl
  within_end a z end e (x ∷ m) =
      ap (λ b. cond b (x ∷ within a z m) (within a z m)) (same_end a z end x.0 e (dec_lt z x.0))
      ∙ ap (λ l. cond (range_contains nat_cmp (Included a) (Excluded end) x.0) (x ∷ l) l) (within_end a z end e m)

  -- there is nothing below 0
  pub none_below : (a : ℕ) (m : Map ℕ V) → entries_between nat_cmp (Included a) (Excluded 0) m ≡ []
  none_below a [] = refl
  none_below a (x ∷ m) =
      ap (λ b. cond (is_le (nat_cmp a x.0) && not b) (x ∷ entries_between nat_cmp (Included a) (Excluded 0) m) (entries_between nat_cmp (Included a) (Excluded 0) m)) (from_it 0 x.0 (omega arith))
      ∙ ap (λ b. cond b (x ∷ entries_between nat_cmp (Included a) (Excluded 0) m) (entries_between nat_cmp (Included a) (Excluded 0) m)) (and_no (is_le (nat_cmp a x.0)))
      ∙ none_below a m
