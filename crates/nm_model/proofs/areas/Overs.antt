-- The last area up to a place, and the area over it.
use Rattle.std.proofs.Common.{◌≡◌, ℕ, ◌≤◌, ◌<◌, List, [], ◌∷◌, ◌++◌, Bool, true, false, cond, refl, sym, ap, subst, ◌∙◌, arith, inl, inr}
use Rattle.std.specs.Prelude.{Option, Some, None, IsSome, nat_lt, nat_le, ◌==◌, ◌⊎◌, ◌||◌, ◌&&◌, not}
use Rattle.std.specs.Option.{is_some}
use Rattle.std.specs.BTreeMap.{BTreeMap}
use Rattle.std.specs.BTreeMap.Range.{IsRangeOf}
use Rattle.std.specs.declared.ops.Bound.TheVariants.{Included, Excluded, Unbounded}
use Rattle.std.specs.List.{AllByRecursion, list_any}
use Rattle.std.specs.Ordering.{nat_cmp, ordering_then, is_eq, is_lt, is_gt}
use Rattle.std.specs.Cmp.{nat_cmp_is, ranked, tied_itself}
use Rattle.std.specs.declared.cmp.Ordering.{Ordering}
use Rattle.std.specs.declared.cmp.Ordering.TheVariants.{Less, Equal, Greater}
use Rattle.std.proofs.lemmas.Bool.{and_parts, and_from, eqb-true, ltb-true, lt-ltb, eq-eqb, ltb-false, leb-true, leb-false, false_from_ne_true}
use Rattle.std.proofs.lemmas.Map.Lookups.{exact_unsigned, exact_pairs}
use Rattle.nm_types.specs.declared.area.Area.{Area}
use Rattle.nm_types.specs.Map.{Map, get, spot_cmp}
use Rattle.nm_types.specs.State.{PlacedArea, covers, area_over}
use Rattle.nm_types.proofs.Cases.{true_false, some_is}
use Rattle.nm_model.specs.definitions.AreaRefusal.{overlaps}
use Rattle.nm_model.specs.definitions.Areas.{AreasAreApart, IsSomePages}
use Rattle.nm_model.proofs.areas.Apart.{behind_last, covers_parts, covers_from}
use Rattle.nm_model.proofs.areas.Parted.{Among, All-among, among_over, over_among, among_any}
use Rattle.nm_types.proofs.Maps.{spot_cmp_total}

-- one spot after another, or the other way round
spot_ranked : (a b : ℕ × ℕ) (r : Ordering) → spot_cmp a b ≡ r → (a.0 < b.0) ⊎ ((b.0 < a.0) ⊎ ((a.0 ≡ b.0) × (r ≡ nat_cmp a.1 b.1)))
spot_ranked a b r h =
    elim (nat_cmp a.0 b.0) as (λ k. k ≡ nat_cmp a.0 b.0 → ordering_then k (nat_cmp a.1 b.1) ≡ r → (a.0 < b.0) ⊎ ((b.0 < a.0) ⊎ ((a.0 ≡ b.0) × (r ≡ nat_cmp a.1 b.1)))) [
      | Less ↦ λ k e. inl (ranked a.0 b.0 Less k)
      | Equal ↦ λ k e. inr (inr (ranked a.0 b.0 Equal k, sym e))
      | Greater ↦ λ k e. inr (inl (ranked a.0 b.0 Greater k))
    ] refl h

pub spot_before : (a b : ℕ × ℕ) → a.0 < b.0 → spot_cmp a b ≡ Less
spot_before a b h = ap (λ r. ordering_then r (nat_cmp a.1 b.1)) (sym (nat_cmp_is a.0 b.0 Less h))

pub spot_behind : (a b : ℕ × ℕ) → b.0 < a.0 → spot_cmp a b ≡ Greater
spot_behind a b h = ap (λ r. ordering_then r (nat_cmp a.1 b.1)) (sym (nat_cmp_is a.0 b.0 Greater h))

pub spot_same : (a b : ℕ × ℕ) → a.0 ≡ b.0 → spot_cmp a b ≡ nat_cmp a.1 b.1
spot_same a b h = ap (λ r. ordering_then r (nat_cmp a.1 b.1)) (sym (nat_cmp_is a.0 b.0 Equal h))

-- a spot and one that does not come before it
abbrev pub UpTo : ℕ × ℕ → ℕ × ℕ → Type 0
UpTo a b = (a.0 < b.0) ⊎ ((a.0 ≡ b.0) × (a.1 ≤ b.1))

pub up_to : (a b : ℕ × ℕ) → is_gt (spot_cmp a b) ≡ false → UpTo a b
up_to a b h =
    elim (spot_ranked a b (spot_cmp a b) refl) as (λ _. UpTo a b) [
      | inl k ↦ inl k
      | inr k ↦ elim k as (λ _. UpTo a b) [
        | inl j ↦ absurd (true_false (ap is_gt (sym (spot_behind a b j)) ∙ h))
        | inr j ↦ inr (
          j.0,
          elim (nat_cmp a.1 b.1) as (λ r. r ≡ nat_cmp a.1 b.1 → is_gt r ≡ false → a.1 ≤ b.1) [
            | Less ↦ λ r e. let l : a.1 < b.1 = ranked a.1 b.1 Less r in omega arith
            | Equal ↦ λ r e. let l : a.1 ≡ b.1 = ranked a.1 b.1 Equal r in omega arith
            | Greater ↦ λ r e. absurd (true_false e)
          ] refl (ap is_gt (sym (spot_same a b j.0)) ∙ h),
        )
      ]
    ]

pub from_up_to : (a b : ℕ × ℕ) → a.0 ≡ b.0 → a.1 ≤ b.1 → is_gt (spot_cmp a b) ≡ false
from_up_to a b e l =
    ap is_gt (spot_same a b e)
    ∙ elim (nat_cmp a.1 b.1) as (λ r. r ≡ nat_cmp a.1 b.1 → is_gt r ≡ false) [
      | Less ↦ λ r. refl
      | Equal ↦ λ r. refl
      | Greater ↦ λ r. let g : b.1 < a.1 = ranked a.1 b.1 Greater r in absurd (omega arith)
    ] refl

below : (a b : ℕ × ℕ) → spot_cmp a b ≡ Less → a.0 ≡ b.0 → a.1 < b.1
below a b h e = ranked a.1 b.1 Less (sym h ∙ spot_same a b e)

from_below : (a b : ℕ × ℕ) → a.0 ≡ b.0 → a.1 < b.1 → spot_cmp a b ≡ Less
from_below a b e l = spot_same a b e ∙ sym (nat_cmp_is a.1 b.1 Less l)

-- of two spots of which the first does not come first
not_before : (a b : ℕ × ℕ) → is_lt (spot_cmp a b) ≡ false → UpTo b a
not_before a b h =
    elim (spot_ranked a b (spot_cmp a b) refl) as (λ _. UpTo b a) [
      | inl k ↦ absurd (true_false (ap is_lt (sym (spot_before a b k)) ∙ h))
      | inr k ↦ elim k as (λ _. UpTo b a) [
        | inl j ↦ inl j
        | inr j ↦ inr (
          sym j.0,
          elim (nat_cmp a.1 b.1) as (λ r. r ≡ nat_cmp a.1 b.1 → is_lt r ≡ false → b.1 ≤ a.1) [
            | Less ↦ λ r e. absurd (true_false e)
            | Equal ↦ λ r e. let l : a.1 ≡ b.1 = ranked a.1 b.1 Equal r in omega arith
            | Greater ↦ λ r e. let l : b.1 < a.1 = ranked a.1 b.1 Greater r in omega arith
          ] refl (ap is_lt (sym (spot_same a b j.0)) ∙ h),
        )
      ]
    ]

pub get_among : (areas : Map (ℕ × ℕ) Area) (k : ℕ × ℕ) (x : Area) → get spot_cmp areas k ≡ Some x → Among (k, x) areas
get_among [] k x h = cc
get_among (e ∷ areas) k x h =
    elim (spot_cmp k e.0) as (λ r. spot_cmp k e.0 ≡ r → cond (is_eq r) (Some e.1) (get spot_cmp areas k) ≡ Some x → Among (k, x) (e ∷ areas)) [
      | Less ↦ λ r g. inr (get_among areas k x g)
      | Equal ↦ λ r g.
          let same : k ≡ e.0 = exact_pairs nat_cmp nat_cmp exact_unsigned exact_unsigned k e.0 r in
          let value : e.1 ≡ x = cc in
          inl (ap (λ (z : ℕ × ℕ). (z, x)) same ∙ ap (λ (z : Area). (e.0, z)) (sym value))
      | Greater ↦ λ r g. inr (get_among areas k x g)
    ] refl h

among_get : (areas : Map (ℕ × ℕ) Area) (a : PlacedArea) → Among a areas → IsSome (get spot_cmp areas a.0)
among_get [] a m = absurd m
among_get (e ∷ areas) a (inl s) =
    subst (λ (z : PlacedArea). IsSome (get spot_cmp (z ∷ areas) a.0)) s (ap (λ r. is_some (cond (is_eq r) (Some a.1) (get spot_cmp areas a.0))) (tied_itself spot_cmp_total a.0))
among_get (e ∷ areas) a (inr m) =
    elim (is_eq (spot_cmp a.0 e.0)) as (λ b. IsSome (cond b (Some e.1) (get spot_cmp areas a.0))) [
      | true ↦ refl
      | false ↦ among_get areas a m
    ]

pub get_not_none : (areas : Map (ℕ × ℕ) Area) (a : PlacedArea) → Among a areas → get spot_cmp areas a.0 ≡ None → ⊥
get_not_none areas a m h = true_false (sym (subst (λ (o : Option Area). is_some o ≡ true) h (among_get areas a m)))

any_none : (test : PlacedArea → Bool) (areas : List PlacedArea) → ((a : PlacedArea) → Among a areas → test a ≡ true → ⊥) → list_any test areas ≡ false
any_none test [] h = refl
any_none test (x ∷ areas) h =
    elim (test x) as (λ b. test x ≡ b → (b || list_any test areas) ≡ false) [
      | true ↦ λ b. absurd (h x (inl refl) b)
      | false ↦ λ b. any_none test areas (λ a m. h a (inr m))
    ] refl

-- what it means that an area overlaps
overlaps_parts : (pid first end : ℕ) (a : PlacedArea) → overlaps pid first end a ≡ true → (a.0.0 ≡ pid) × (a.0.1 < end) × (first < behind_last a)
overlaps_parts pid first end a h =
    let both = and_parts ((a.0.0 == pid) && nat_lt a.0.1 end) (nat_lt first (behind_last a)) h in
    let front = and_parts (a.0.0 == pid) (nat_lt a.0.1 end) both.0 in
    (eqb-true a.0.0 pid front.0, ltb-true a.0.1 end front.1, ltb-true first (behind_last a) both.1)

overlaps_from : (pid first end : ℕ) (a : PlacedArea) → a.0.0 ≡ pid → a.0.1 < end → first < behind_last a → overlaps pid first end a ≡ true
overlaps_from pid first end a e low high = and_from _ _ (and_from _ _ (eq-eqb a.0.0 pid e) (lt-ltb a.0.1 end low)) (lt-ltb first (behind_last a) high)

-- of an area of the process that begins before the end
free_says : (pid first end : ℕ) (e : PlacedArea) → e.0.0 ≡ pid → e.0.1 < end → nat_le (behind_last e) first ≡ not (overlaps pid first end e)
free_says pid first end e of low =
    elim (nat_le (behind_last e) first) as (λ b. nat_le (behind_last e) first ≡ b → b ≡ not (overlaps pid first end e)) [
      | true ↦ λ b. ap not (sym (false_from_ne_true _ (λ k.
          let parts = overlaps_parts pid first end e k in
          let short : behind_last e ≤ first = leb-true (behind_last e) first b in
          absurd (omega (arith, parts.2, short)))))
      | false ↦ λ b. ap not (sym (overlaps_from pid first end e of low (leb-false (behind_last e) first b)))
    ] refl

module _ (areas : Map (ℕ × ℕ) Area) (apart : AreasAreApart areas) (some : AllByRecursion IsSomePages areas) where
  -- two areas over one page number are one
  same_area : (pid v : ℕ) (a b : PlacedArea) → Among a areas → Among b areas → covers a pid v ≡ true → covers b pid v ≡ true → a ≡ b
  same_area pid v a b m n c k = some_is (sym (over_among areas pid v a apart m c) ∙ over_among areas pid v b apart n k)

  -- an area that begins no later, and ends after the first page of another, is that one
  alone : (a e : PlacedArea) → Among a areas → Among e areas → a.0.0 ≡ e.0.0 → a.0.1 ≤ e.0.1 → e.0.1 < behind_last a → a ≡ e
  alone a e m n same low high =
      let has : 0 < e.1.pages = All-among IsSomePages areas e some n in
      same_area e.0.0 e.0.1 a e m n (covers_from a e.0.0 e.0.1 same low high) (covers_from e e.0.0 e.0.1 refl (omega arith) (omega (arith, has)))

  -- the last area at a spot or before it covers it, or none does
  over_last : (pid v : ℕ) (e : PlacedArea) → Among e areas → is_gt (spot_cmp e.0 (pid, v)) ≡ false
      → ((q : ℕ × ℕ) → is_gt (spot_cmp q (pid, v)) ≡ false → IsSome (get spot_cmp areas q) → is_lt (spot_cmp e.0 q) ≡ false)
      → (a : PlacedArea) → Among a areas → covers a pid v ≡ true → a ≡ e
  over_last pid v e n at last a m c =
      let parts = covers_parts a pid v c in
      let order : UpTo a.0 e.0 = not_before e.0 a.0 (last a.0 (from_up_to a.0 (pid, v) parts.0 parts.1) (among_get areas a m)) in
      let ends : UpTo e.0 (pid, v) = up_to e.0 (pid, v) at in
      elim order as (λ _. a ≡ e) [
        | inl k ↦ elim ends as (λ _. a ≡ e) [
          | inl j ↦ absurd (omega (arith, k, j, parts.0))
          | inr j ↦ absurd (omega (arith, k, j.0, parts.0))
        ]
        | inr k ↦ elim ends as (λ _. a ≡ e) [
          | inl j ↦ absurd (omega (arith, k.0, j, parts.0))
          | inr j ↦ alone a e m n k.0 k.1 (omega (arith, j.1, parts.2))
        ]
      ]

  -- the last area before the end of a range overlaps it, or none does
  free_last : (pid first end : ℕ) (e : PlacedArea) → Among e areas → spot_cmp e.0 (pid, end) ≡ Less
      → ((q : ℕ × ℕ) → spot_cmp q (pid, end) ≡ Less → IsSome (get spot_cmp areas q) → is_lt (spot_cmp e.0 q) ≡ false)
      → overlaps pid first end e ≡ false → (a : PlacedArea) → Among a areas → overlaps pid first end a ≡ true → ⊥
  free_last pid first end e n at last h a m c =
      let parts = overlaps_parts pid first end a c in
      let order : UpTo a.0 e.0 = not_before e.0 a.0 (last a.0 (from_below a.0 (pid, end) parts.0 parts.1) (among_get areas a m)) in
      elim order as (λ _. ⊥) [
        | inl k ↦ true_false (ap is_lt (sym at ∙ spot_behind e.0 (pid, end) (subst (λ p. p < e.0.0) parts.0 k)))
        | inr k ↦
            let of : e.0.0 ≡ pid = sym k.0 ∙ parts.0 in
            let low : e.0.1 < end = below e.0 (pid, end) at of in
            elim (nat_lt first (behind_last e)) as (λ b. nat_lt first (behind_last e) ≡ b → ⊥) [
              | true ↦ λ b. true_false (sym (overlaps_from pid first end e of low (ltb-true first (behind_last e) b)) ∙ h)
              | false ↦ λ b.
                  let short : behind_last e ≤ first = ltb-false first (behind_last e) b in
                  let one : a ≡ e = alone a e m n k.0 k.1 (omega (arith, short, parts.2)) in
                  true_false (sym (subst (λ y. overlaps pid first end y ≡ true) one c) ∙ h)
            ] refl
      ]

-- by what `range` and `next_back` say
module _ (m : BTreeMap (ℕ × ℕ) Area) (areas : Map (ℕ × ℕ) Area) (is : m.entries ≡ areas) (apart : AreasAreApart areas) (some : AllByRecursion IsSomePages areas) where
  apart_here : AreasAreApart m.entries
  apart_here = subst AreasAreApart (sym is) apart

  some_here : AllByRecursion IsSomePages m.entries
  some_here = subst (AllByRecursion IsSomePages) (sym is) some

  over_found : (pid v : ℕ) (r t : List PlacedArea) (e : PlacedArea) → IsRangeOf spot_cmp Unbounded (Included (pid, v)) m r → r ≡ t ++ e ∷ []
      → area_over areas pid v ≡ cond (covers e pid v) (Some e) None
  over_found pid v r t e range last =
      let here = range.3 e t last in
      let among : Among e m.entries = get_among m.entries e.0 e.1 here.1 in
      let only = over_last m.entries apart_here some_here pid v e among here.0.1 (λ q low. range.4 e t last q (tt, low)) in
      ap (λ es. area_over es pid v) (sym is)
      ∙ elim (covers e pid v) as (λ b. covers e pid v ≡ b → area_over m.entries pid v ≡ cond b (Some e) None) [
        | true ↦ λ b. over_among m.entries pid v e apart_here among b
        | false ↦ λ b. elim (area_over m.entries pid v) as (λ o. area_over m.entries pid v ≡ o → o ≡ None) [
          | None ↦ λ k. refl
          | Some a ↦ λ k.
              let found = among_over m.entries pid v a k in
              absurd (true_false (sym (subst (λ y. covers y pid v ≡ true) (only a found.0 found.1) found.1) ∙ b))
        ] refl
      ] refl

  pub over_it : (pid v : ℕ) (r t : List PlacedArea) (e : PlacedArea) → IsRangeOf spot_cmp Unbounded (Included (pid, v)) m r → r ≡ t ++ e ∷ [] → true ≡ (e.0.0 == pid) → e.0.1 ≤ v → v < behind_last e
      → Some ((pid, e.0.1), e.1) ≡ area_over areas pid v
  over_it pid v r t e range last own low high =
      let of : e.0.0 ≡ pid = eqb-true e.0.0 pid (sym own) in
      ap (λ p. Some ((p, e.0.1), e.1)) (sym of) ∙ sym (over_found pid v r t e range last ∙ ap (λ b. cond b (Some e) None) (covers_from e pid v of low high))

  pub over_not : (pid v : ℕ) (r t : List PlacedArea) (e : PlacedArea) → IsRangeOf spot_cmp Unbounded (Included (pid, v)) m r → r ≡ t ++ e ∷ [] → (covers e pid v ≡ true → ⊥) → area_over areas pid v ≡ None
  over_not pid v r t e range last h = over_found pid v r t e range last ∙ ap (λ b. cond b (Some e) None) (false_from_ne_true _ h)

  pub over_none : (pid v : ℕ) (r : List PlacedArea) → IsRangeOf spot_cmp Unbounded (Included (pid, v)) m r → r ≡ [] → area_over areas pid v ≡ None
  over_none pid v r range empty =
      ap (λ es. area_over es pid v) (sym is)
      ∙ elim (area_over m.entries pid v) as (λ o. area_over m.entries pid v ≡ o → o ≡ None) [
        | None ↦ λ k. refl
        | Some a ↦ λ k.
            let found = among_over m.entries pid v a k in
            let parts = covers_parts a pid v found.1 in
            absurd (get_not_none m.entries a found.0 (range.5 empty a.0 (tt, from_up_to a.0 (pid, v) parts.0 parts.1)))
      ] refl

  free_found : (pid first end : ℕ) (r t : List PlacedArea) (e : PlacedArea) → IsRangeOf spot_cmp Unbounded (Excluded (pid, end)) m r → r ≡ t ++ e ∷ []
      → list_any (overlaps pid first end) areas ≡ overlaps pid first end e
  free_found pid first end r t e range last =
      let here = range.3 e t last in
      let among : Among e m.entries = get_among m.entries e.0 e.1 here.1 in
      ap (list_any (overlaps pid first end)) (sym is)
      ∙ elim (overlaps pid first end e) as (λ b. overlaps pid first end e ≡ b → list_any (overlaps pid first end) m.entries ≡ b) [
        | true ↦ λ b. among_any (overlaps pid first end) m.entries e among b
        | false ↦ λ b. any_none (overlaps pid first end) m.entries (free_last m.entries apart_here some_here pid first end e among here.0.1 (λ q low. range.4 e t last q (tt, low)) b)
      ] refl

  -- the last area is another process's
  pub free_other : (pid first end last : ℕ) (r t : List PlacedArea) (e : PlacedArea) → IsRangeOf spot_cmp Unbounded (Excluded (pid, end)) m r → r ≡ t ++ e ∷ [] → end ≡ last → (e.0.0 == pid) ≡ false
      → true ≡ not (list_any (overlaps pid first last) areas)
  free_other pid first end last r t e range is_last same other =
      subst (λ n. true ≡ not (list_any (overlaps pid first n) areas)) same
      (sym (ap not (free_found pid first end r t e range is_last) ∙ ap (λ b. not ((b && nat_lt e.0.1 end) && nat_lt first (behind_last e))) other))

  -- it is the process's own
  pub free_own : (pid first end last : ℕ) (r t : List PlacedArea) (e : PlacedArea) → IsRangeOf spot_cmp Unbounded (Excluded (pid, end)) m r → r ≡ t ++ e ∷ [] → end ≡ last → (e.0.0 == pid) ≡ true
      → nat_le (behind_last e) first ≡ not (list_any (overlaps pid first last) areas)
  free_own pid first end last r t e range is_last same own =
      let of : e.0.0 ≡ pid = eqb-true e.0.0 pid own in
      let here = range.3 e t is_last in
      subst (λ n. nat_le (behind_last e) first ≡ not (list_any (overlaps pid first n) areas)) same
      (free_says pid first end e of (below e.0 (pid, end) here.0.1 of) ∙ sym (ap not (free_found pid first end r t e range is_last)))

  -- there is none
  pub free_none : (pid first end last : ℕ) (r : List PlacedArea) → IsRangeOf spot_cmp Unbounded (Excluded (pid, end)) m r → r ≡ [] → end ≡ last → true ≡ not (list_any (overlaps pid first last) areas)
  free_none pid first end last r range empty same =
      subst (λ n. true ≡ not (list_any (overlaps pid first n) areas)) same
      (sym (ap (λ es. not (list_any (overlaps pid first end) es)) (sym is)
      ∙ ap not (any_none (overlaps pid first end) m.entries (λ a n c.
      let parts = overlaps_parts pid first end a c in
      get_not_none m.entries a n (range.5 empty a.0 (tt, from_below a.0 (pid, end) parts.0 parts.1))))))

  -- what holds of all areas holds of the last one before a spot
  pub last_has : (P : PlacedArea → Type 0) (pid end : ℕ) (r t : List PlacedArea) (e : PlacedArea) → IsRangeOf spot_cmp Unbounded (Excluded (pid, end)) m r → r ≡ t ++ e ∷ [] → AllByRecursion P areas → P e
  last_has P pid end r t e range last h =
      let here = range.3 e t last in
      All-among P areas e h (subst (Among e) is (get_among m.entries e.0 e.1 here.1))
