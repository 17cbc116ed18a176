-- Areas that are split at a page number.
use Rattle.std.proofs.Common.{◌≡◌, ℕ, ◌+◌, ◌-◌, ◌≤◌, ◌<◌, [], ◌∷◌, ◌++◌, true, false, cond, refl, sym, ap, subst, ◌∙◌, arith, inl, inr, eq-eqb}
use Rattle.std.specs.Prelude.{Option, Some, None, IfSome, nat_lt, ◌==◌, ◌⊎◌, min, max}
use Rattle.std.specs.List.{AllByRecursion}
use Rattle.std.specs.List.Sorted.{IsStrictlySortedBy}
use Rattle.std.specs.Map.{keys_of}
use Rattle.std.specs.Ordering.{is_eq, match_ordering}
use Rattle.std.specs.Cmp.{nat_cmp_is, tied_itself}
use Rattle.std.specs.declared.cmp.Ordering.TheVariants.{Less, Greater}
use Rattle.std.proofs.lemmas.Bool.{eqb-true, ltb-true, ltb-false, lt-ltb, false_from_ne_true}
use Rattle.std.proofs.lemmas.Map.Keys.{sorted_head, sorted_tail}
use Rattle.nm_types.specs.declared.page.Page.{Page}
use Rattle.nm_types.specs.declared.area.Area.{Area}
use Rattle.nm_types.specs.declared.area.Segment.{Segment}
use Rattle.nm_types.specs.Map.{Map, set, replace, without, spot_cmp}
use Rattle.nm_types.specs.State.{PlacedArea, covers, area_over}
use Rattle.nm_types.proofs.Cases.{true_false, none_some, some_is}
use Rattle.nm_model.specs.definitions.Areas.{before, behind, parts_outside, AreasAreApart, IsSomePages, split_at}
use Rattle.nm_model.specs.views.Table.{with_areas, Table}
use Rattle.nm_types.proofs.Maps.{spot_cmp_total}
use Rattle.nm_model.proofs.areas.Apart.{behind_last, covers_parts, covers_from}
use Rattle.nm_model.proofs.areas.Parted.{Among, All-among, all_from_among, among_over, over_among}
use Rattle.nm_model.proofs.areas.Halves.{less_to, less_from, among_keys}
use Rattle.nm_model.proofs.areas.Overs.{spot_same, spot_behind}

-- an area up to a page number ..
abbrev pub shorter : ℕ → PlacedArea → Area
shorter at a = record (a.1) { pages = at - a.0.1 }

-- .. and from it on
abbrev pub later : ℕ → PlacedArea → Area
later at a =
    let page : Page = record { segment = a.1.page.segment; index = a.1.page.index + (at - a.0.1) } in
    record (a.1) { pages = a.1.pages - (at - a.0.1); page = page }

-- areas of the same page numbers and pages are the same
pub same_placed : (a b : PlacedArea) → a.0.0 ≡ b.0.0 → a.0.1 ≡ b.0.1 → a.1.pages ≡ b.1.pages → a.1.policy ≡ b.1.policy → a.1.page.segment ≡ b.1.page.segment → a.1.page.index ≡ b.1.page.index → a ≡ b
same_placed a b p v n o s i = λ t. ((p t, v t), record { pages = n t; policy = o t; page = record { segment = s t; index = i t } })

pub one : {a b : PlacedArea} → a ≡ b → a ∷ [] ≡ b ∷ []
one e = ap (λ x. x ∷ []) e

-- ---- in front of a page number and from it on

abbrev pub front_of : ℕ → PlacedArea → PlacedArea
front_of at a = (a.0, record (a.1) { pages = min a.1.pages (at - a.0.1) })

pub before_none : (at : ℕ) (a : PlacedArea) → at ≤ a.0.1 → before at a ≡ []
before_none at a low =
    elim (nat_lt a.0.1 at) as (λ b. nat_lt a.0.1 at ≡ b → cond b (front_of at a ∷ []) [] ≡ []) [
      | true ↦ λ b. let high : a.0.1 < at = ltb-true a.0.1 at b in absurd (omega (arith, low, high))
      | false ↦ λ b. refl
    ] refl

pub before_some : (at : ℕ) (a : PlacedArea) → a.0.1 < at → before at a ≡ front_of at a ∷ []
before_some at a high = ap (λ b. cond b (front_of at a ∷ []) []) (lt-ltb a.0.1 at high)

abbrev pub rest_of : ℕ → PlacedArea → PlacedArea
rest_of at a =
    let from = max at a.0.1 in
    let page : Page = record { segment = a.1.page.segment; index = a.1.page.index + (from - a.0.1) } in
    let rest : Area = record (a.1) { pages = (a.0.1 + a.1.pages) - from; page = page } in
    ((a.0.0, from), rest)

pub behind_none : (at : ℕ) (a : PlacedArea) → 0 < a.1.pages → behind_last a ≤ at → behind at a ≡ []
behind_none at a some high =
    elim (nat_lt (max at a.0.1) (behind_last a)) as (λ b. nat_lt (max at a.0.1) (behind_last a) ≡ b → cond b (rest_of at a ∷ []) [] ≡ []) [
      | true ↦ λ b. let low : max at a.0.1 < behind_last a = ltb-true (max at a.0.1) (behind_last a) b in absurd (omega (arith, low, high))
      | false ↦ λ b. refl
    ] refl

pub behind_some : (at : ℕ) (a : PlacedArea) → 0 < a.1.pages → at < behind_last a → behind at a ≡ rest_of at a ∷ []
behind_some at a some low = ap (λ b. cond b (rest_of at a ∷ []) []) (lt-ltb (max at a.0.1) (behind_last a) (omega (arith, some, low)))

-- ---- an area that is split

pub cut_other : (pid at : ℕ) (a : PlacedArea) → (a.0.0 ≡ pid → ⊥) → parts_outside pid at at a ≡ a ∷ []
cut_other pid at a h = ap (λ b. cond b (before at a ++ behind at a) (a ∷ [])) (false_from_ne_true (a.0.0 == pid) (λ e. h (eqb-true a.0.0 pid e)))

own_parts : (pid at : ℕ) (a : PlacedArea) → a.0.0 ≡ pid → parts_outside pid at at a ≡ before at a ++ behind at a
own_parts pid at a e = ap (λ b. cond b (before at a ++ behind at a) (a ∷ [])) (eq-eqb a.0.0 pid e)

pub cut_low : (pid at : ℕ) (a : PlacedArea) → 0 < a.1.pages → behind_last a ≤ at → parts_outside pid at at a ≡ a ∷ []
cut_low pid at a some high =
    elim (a.0.0 == pid) as (λ b. cond b (before at a ++ behind at a) (a ∷ []) ≡ a ∷ []) [
      | false ↦ refl
      | true ↦
          ap (λ xs. xs ++ behind at a) (before_some at a (omega (arith, some, high))) ∙ ap (λ xs. front_of at a ∷ xs) (behind_none at a some high)
          ∙ one (same_placed (front_of at a) a refl refl (omega (arith, high)) refl refl refl)
    ]

pub cut_high : (pid at : ℕ) (a : PlacedArea) → 0 < a.1.pages → at ≤ a.0.1 → parts_outside pid at at a ≡ a ∷ []
cut_high pid at a some low =
    elim (a.0.0 == pid) as (λ b. cond b (before at a ++ behind at a) (a ∷ []) ≡ a ∷ []) [
      | false ↦ refl
      | true ↦
          ap (λ xs. xs ++ behind at a) (before_none at a low) ∙ behind_some at a some (omega (arith, some, low))
          ∙ one (same_placed (rest_of at a) a refl (omega (arith, low)) (omega (arith, low)) refl refl (omega (arith, low)))
    ]

pub cut_mid : (pid at : ℕ) (a : PlacedArea) → a.0.0 ≡ pid → a.0.1 < at → at < behind_last a → parts_outside pid at at a ≡ (a.0, shorter at a) ∷ ((a.0.0, at), later at a) ∷ []
cut_mid pid at a own low high =
    own_parts pid at a own
    ∙ ap (λ xs. xs ++ behind at a) (before_some at a low) ∙ ap (λ xs. front_of at a ∷ xs) (behind_some at a (omega (arith, low, high)) high)
    ∙ ap (λ x. x ∷ rest_of at a ∷ []) (same_placed (front_of at a) (a.0, shorter at a) refl refl (omega (arith, high)) refl refl refl)
    ∙ ap (λ x. (a.0, shorter at a) ∷ x ∷ []) (same_placed (rest_of at a) ((a.0.0, at), later at a) refl (omega (arith, low)) (omega (arith, low)) refl refl (omega (arith, low)))

-- an area that does not cover the page number, or begins there, stays as it is
pub cut_not : (pid at : ℕ) (a : PlacedArea) → 0 < a.1.pages → (a.0.0 ≡ pid → a.0.1 < at → at < behind_last a → ⊥) → parts_outside pid at at a ≡ a ∷ []
cut_not pid at a some h =
    elim (nat_lt a.0.1 at) as (λ b. nat_lt a.0.1 at ≡ b → parts_outside pid at at a ≡ a ∷ []) [
      | false ↦ λ b. cut_high pid at a some (ltb-false a.0.1 at b)
      | true ↦ λ b. elim (nat_lt at (behind_last a)) as (λ c. nat_lt at (behind_last a) ≡ c → parts_outside pid at at a ≡ a ∷ []) [
        | false ↦ λ c. cut_low pid at a some (ltb-false at (behind_last a) c)
        | true ↦ λ c. cut_other pid at a (λ own. h own (ltb-true a.0.1 at b) (ltb-true at (behind_last a) c))
      ] refl
    ] refl

-- no area is split
pub split_none : (pid at : ℕ) (areas : Map (ℕ × ℕ) Area) → AllByRecursion IsSomePages areas → ((a : PlacedArea) → Among a areas → a.0.0 ≡ pid → a.0.1 < at → at < behind_last a → ⊥) → split_at pid at areas ≡ areas
split_none pid at [] some h = refl
split_none pid at (a ∷ areas) some h =
    ap (λ xs. xs ++ split_at pid at areas) (cut_not pid at a some.0 (h a (inl refl))) ∙ ap (λ xs. a ∷ xs) (split_none pid at areas some.1 (λ b m. h b (inr m)))

-- ---- one area is split

module _ (pid at : ℕ) (a : PlacedArea) (own : a.0.0 ≡ pid) (low : a.0.1 < at) (high : at < behind_last a) where
  at_it : covers a pid at ≡ true
  at_it = covers_from a pid at own (omega (arith, low)) high

  -- an area after it
  comes_later : (y : PlacedArea) → ((q v : ℕ) → covers a q v ≡ true → covers y q v ≡ false) → 0 < y.1.pages → spot_cmp a.0 y.0 ≡ Less → spot_cmp (pid, at) y.0 ≡ Less
  comes_later y apart some less =
      less_from (pid, at) y.0 (elim (less_to a.0 y.0 less) as (λ _. (pid < y.0.0) ⊎ ((pid ≡ y.0.0) × (at < y.0.1))) [
        | inl k ↦ inl (omega (arith, k, own))
        | inr k ↦ inr (
          sym own ∙ k.0,
          elim (nat_lt y.0.1 (behind_last a)) as (λ b. nat_lt y.0.1 (behind_last a) ≡ b → at < y.0.1) [
            | true ↦ λ b.
                let here = covers_from a y.0.0 y.0.1 k.0 (omega (arith, k.1)) (ltb-true y.0.1 (behind_last a) b) in
                absurd (true_false (sym (covers_from y y.0.0 y.0.1 refl (omega arith) (omega (arith, some))) ∙ apart y.0.0 y.0.1 here))
            | false ↦ λ b. let past : behind_last a ≤ y.0.1 = ltb-false y.0.1 (behind_last a) b in omega (arith, past, high)
          ] refl,
        )
      ])

  -- one more before all others
  set_front : (xs : Map (ℕ × ℕ) Area) (new : Area) → AllByRecursion (λ y. spot_cmp (pid, at) y.0 ≡ Less) xs → set spot_cmp xs (pid, at) new ≡ ((pid, at), new) ∷ xs
  set_front [] new h = refl
  set_front (y ∷ xs) new h = ap (λ r. match_ordering r (((pid, at), new) ∷ y ∷ xs) ((y.0, new) ∷ xs) (y ∷ set spot_cmp xs (pid, at) new)) h.0

  past_it : spot_cmp (pid, at) a.0 ≡ Greater
  past_it = spot_same (pid, at) a.0 (sym own) ∙ sym (nat_cmp_is at a.0.1 Greater low)

  -- the areas after it stay
  module _ (xs : Map (ℕ × ℕ) Area) (some : AllByRecursion IsSomePages xs) (apart : AllByRecursion (λ b. (q v : ℕ) → covers a q v ≡ true → covers b q v ≡ false) xs) (sorted : AllByRecursion (λ k. spot_cmp a.0 k ≡ Less) (keys_of xs)) where
    rest_stays : split_at pid at xs ≡ xs
    rest_stays = split_none pid at xs some (λ y m of from to.
        true_false (sym (covers_from y pid at of (omega (arith, from)) to) ∙ All-among (λ b. (q v : ℕ) → covers a q v ≡ true → covers b q v ≡ false) xs y apart m pid at at_it))

    rest_later : AllByRecursion (λ y. spot_cmp (pid, at) y.0 ≡ Less) xs
    rest_later = all_from_among (λ y. spot_cmp (pid, at) y.0 ≡ Less) xs (λ y m.
        comes_later y (All-among (λ b. (q v : ℕ) → covers a q v ≡ true → covers b q v ≡ false) xs y apart m) (All-among IsSomePages xs y some m) (among_keys (λ k. spot_cmp a.0 k ≡ Less) xs y sorted m))

    first_split : split_at pid at (a ∷ xs) ≡ (a.0, shorter at a) ∷ ((pid, at), later at a) ∷ xs
    first_split =
        ap (λ ys. ys ++ split_at pid at xs) (cut_mid pid at a own low high) ∙ ap (λ ys. (a.0, shorter at a) ∷ ((a.0.0, at), later at a) ∷ ys) rest_stays
        ∙ ap (λ (n : ℕ). (a.0, shorter at a) ∷ ((n, at), later at a) ∷ xs) own

    pub first_is : replace spot_cmp (set spot_cmp (a ∷ xs) (pid, at) (later at a)) a.0 (shorter at a) ≡ split_at pid at (a ∷ xs)
    first_is =
        ap (λ r. replace spot_cmp (match_ordering r (((pid, at), later at a) ∷ a ∷ xs) ((a.0, later at a) ∷ xs) (a ∷ set spot_cmp xs (pid, at) (later at a))) a.0 (shorter at a)) past_it
        ∙ ap (λ r. cond (is_eq r) ((a.0, shorter at a) ∷ set spot_cmp xs (pid, at) (later at a)) (a ∷ replace spot_cmp (set spot_cmp xs (pid, at) (later at a)) a.0 (shorter at a))) (tied_itself spot_cmp_total a.0)
        ∙ ap (λ ys. (a.0, shorter at a) ∷ ys) (set_front xs (later at a) rest_later)
        ∙ sym first_split

    pub first_back : replace spot_cmp (without spot_cmp (split_at pid at (a ∷ xs)) (pid, at)) a.0 a.1 ≡ a ∷ xs
    first_back =
        ap (λ ys. replace spot_cmp (without spot_cmp ys (pid, at)) a.0 a.1) first_split
        ∙ ap (λ r. replace spot_cmp (cond (is_eq r) (((pid, at), later at a) ∷ xs) ((a.0, shorter at a) ∷ without spot_cmp (((pid, at), later at a) ∷ xs) (pid, at))) a.0 a.1) past_it
        ∙ ap (λ r. replace spot_cmp ((a.0, shorter at a) ∷ cond (is_eq r) xs (((pid, at), later at a) ∷ without spot_cmp xs (pid, at))) a.0 a.1) (tied_itself spot_cmp_total (pid, at))
        ∙ ap (λ r. cond (is_eq r) ((a.0, a.1) ∷ xs) ((a.0, shorter at a) ∷ replace spot_cmp xs a.0 a.1)) (tied_itself spot_cmp_total a.0)

  -- an area before it
  module _ (x : PlacedArea) (some : 0 < x.1.pages) (apart : (q v : ℕ) → covers x q v ≡ true → covers a q v ≡ false) (less : spot_cmp x.0 a.0 ≡ Less) where
    front_stays : parts_outside pid at at x ≡ x ∷ []
    front_stays = cut_not pid at x some (λ of from to. true_false (sym at_it ∙ apart pid at (covers_from x pid at of (omega (arith, from)) to)))

    front_of_at : spot_cmp (pid, at) x.0 ≡ Greater
    front_of_at = elim (less_to x.0 a.0 less) as (λ _. spot_cmp (pid, at) x.0 ≡ Greater) [
      | inl k ↦ spot_behind (pid, at) x.0 (omega (arith, k, own))
      | inr k ↦ spot_same (pid, at) x.0 (sym own ∙ sym k.0) ∙ sym (nat_cmp_is at x.0.1 Greater (omega (arith, k.1, low)))
    ]

    front_of_it : spot_cmp a.0 x.0 ≡ Greater
    front_of_it = elim (less_to x.0 a.0 less) as (λ _. spot_cmp a.0 x.0 ≡ Greater) [
      | inl k ↦ spot_behind a.0 x.0 k
      | inr k ↦ spot_same a.0 x.0 (sym k.0) ∙ sym (nat_cmp_is a.0.1 x.0.1 Greater k.1)
    ]

    split_behind : (xs : Map (ℕ × ℕ) Area) → split_at pid at (x ∷ xs) ≡ x ∷ split_at pid at xs
    split_behind xs = ap (λ ys. ys ++ split_at pid at xs) front_stays

    pub later_is : (xs : Map (ℕ × ℕ) Area) → replace spot_cmp (set spot_cmp xs (pid, at) (later at a)) a.0 (shorter at a) ≡ split_at pid at xs
        → replace spot_cmp (set spot_cmp (x ∷ xs) (pid, at) (later at a)) a.0 (shorter at a) ≡ split_at pid at (x ∷ xs)
    later_is xs is =
        ap (λ r. replace spot_cmp (match_ordering r (((pid, at), later at a) ∷ x ∷ xs) ((x.0, later at a) ∷ xs) (x ∷ set spot_cmp xs (pid, at) (later at a))) a.0 (shorter at a)) front_of_at
        ∙ ap (λ r. cond (is_eq r) ((x.0, shorter at a) ∷ set spot_cmp xs (pid, at) (later at a)) (x ∷ replace spot_cmp (set spot_cmp xs (pid, at) (later at a)) a.0 (shorter at a))) front_of_it
        ∙ ap (λ ys. x ∷ ys) is ∙ sym (split_behind xs)

    pub later_back : (xs : Map (ℕ × ℕ) Area) → replace spot_cmp (without spot_cmp (split_at pid at xs) (pid, at)) a.0 a.1 ≡ xs
        → replace spot_cmp (without spot_cmp (split_at pid at (x ∷ xs)) (pid, at)) a.0 a.1 ≡ x ∷ xs
    later_back xs is =
        ap (λ ys. replace spot_cmp (without spot_cmp ys (pid, at)) a.0 a.1) (split_behind xs)
        ∙ ap (λ r. replace spot_cmp (cond (is_eq r) (split_at pid at xs) (x ∷ without spot_cmp (split_at pid at xs) (pid, at))) a.0 a.1) front_of_at
        ∙ ap (λ r. cond (is_eq r) ((x.0, a.1) ∷ without spot_cmp (split_at pid at xs) (pid, at)) (x ∷ replace spot_cmp (without spot_cmp (split_at pid at xs) (pid, at)) a.0 a.1)) front_of_it
        ∙ ap (λ ys. x ∷ ys) is

-- one more area from the page number on, and the one in front shorter
pub split_is : (pid at : ℕ) (a : PlacedArea) → a.0.0 ≡ pid → a.0.1 < at → at < behind_last a → (areas : Map (ℕ × ℕ) Area) → AllByRecursion IsSomePages areas → AreasAreApart areas → IsStrictlySortedBy spot_cmp (keys_of areas) → Among a areas
    → replace spot_cmp (set spot_cmp areas (pid, at) (later at a)) a.0 (shorter at a) ≡ split_at pid at areas
split_is pid at a own low high [] some apart sorted m = absurd m
split_is pid at a own low high (x ∷ areas) some apart sorted (inl e) =
    subst (λ (y : PlacedArea). replace spot_cmp (set spot_cmp (y ∷ areas) (pid, at) (later at a)) a.0 (shorter at a) ≡ split_at pid at (y ∷ areas)) e
    (first_is pid at a own low high areas some.1 (subst (λ (y : PlacedArea). AllByRecursion (λ b. (q v : ℕ) → covers y q v ≡ true → covers b q v ≡ false) areas) (sym e) apart.0)
    (subst (λ (y : PlacedArea). AllByRecursion (λ k. spot_cmp y.0 k ≡ Less) (keys_of areas)) (sym e) (sorted_head spot_cmp x.0 (keys_of areas) sorted)))
split_is pid at a own low high (x ∷ areas) some apart sorted (inr m) =
    later_is pid at a own low high x some.0 (All-among (λ b. (q v : ℕ) → covers x q v ≡ true → covers b q v ≡ false) areas a apart.0 m) (among_keys (λ k. spot_cmp x.0 k ≡ Less) areas a (sorted_head spot_cmp x.0 (keys_of areas) sorted) m) areas
    (split_is pid at a own low high areas some.1 apart.1 (sorted_tail spot_cmp x.0 (keys_of areas) sorted) m)

-- without it, and with the old length in front, the areas are as they were
pub split_back : (pid at : ℕ) (a : PlacedArea) → a.0.0 ≡ pid → a.0.1 < at → at < behind_last a → (areas : Map (ℕ × ℕ) Area) → AllByRecursion IsSomePages areas → AreasAreApart areas → IsStrictlySortedBy spot_cmp (keys_of areas) → Among a areas
    → replace spot_cmp (without spot_cmp (split_at pid at areas) (pid, at)) a.0 a.1 ≡ areas
split_back pid at a own low high [] some apart sorted m = absurd m
split_back pid at a own low high (x ∷ areas) some apart sorted (inl e) =
    subst (λ (y : PlacedArea). replace spot_cmp (without spot_cmp (split_at pid at (y ∷ areas)) (pid, at)) a.0 a.1 ≡ y ∷ areas) e
    (first_back pid at a own low high areas some.1 (subst (λ (y : PlacedArea). AllByRecursion (λ b. (q v : ℕ) → covers y q v ≡ true → covers b q v ≡ false) areas) (sym e) apart.0)
    (subst (λ (y : PlacedArea). AllByRecursion (λ k. spot_cmp y.0 k ≡ Less) (keys_of areas)) (sym e) (sorted_head spot_cmp x.0 (keys_of areas) sorted)))
split_back pid at a own low high (x ∷ areas) some apart sorted (inr m) =
    later_back pid at a own low high x some.0 (All-among (λ b. (q v : ℕ) → covers x q v ≡ true → covers b q v ≡ false) areas a apart.0 m) (among_keys (λ k. spot_cmp x.0 k ≡ Less) areas a (sorted_head spot_cmp x.0 (keys_of areas) sorted) m) areas
    (split_back pid at a own low high areas some.1 apart.1 (sorted_tail spot_cmp x.0 (keys_of areas) sorted) m)

-- ---- what the area over a page number tells

-- there is nothing to split
pub split_nothing : (pid at : ℕ) (areas : Map (ℕ × ℕ) Area) (o : Option PlacedArea) → AllByRecursion IsSomePages areas → AreasAreApart areas → o ≡ area_over areas pid at → IfSome o (λ e. at ≤ e.0.1) → split_at pid at areas ≡ areas
split_nothing pid at areas None some apart h begins =
    split_none pid at areas some (λ a m own low high. none_some (h ∙ over_among areas pid at a apart m (covers_from a pid at own (omega (arith, low)) high)))
split_nothing pid at areas (Some e) some apart h begins =
    split_none pid at areas some (λ a m own low high.
    let same : e ≡ a = some_is (h ∙ over_among areas pid at a apart m (covers_from a pid at own (omega (arith, low)) high)) in
    let start : e.0.1 ≡ a.0.1 = ap (λ (y : PlacedArea). y.0.1) same in
    absurd (omega (arith, start, low, begins)))

-- it is there, begins no later and ends after the page number
pub over_facts : (pid at : ℕ) (areas : Map (ℕ × ℕ) Area) (start : ℕ) (area : Area) → Some ((pid, start), area) ≡ area_over areas pid at → Among ((pid, start), area) areas × (start ≤ at) × (at < start + area.pages)
over_facts pid at areas start area h =
    let found = among_over areas pid at ((pid, start), area) (sym h) in
    let parts = covers_parts ((pid, start), area) pid at found.1 in
    (found.0, parts.1, parts.2)

-- the areas after one more and a shorter area in front
pub split_made : (pid at start n : ℕ) (area : Area) (now more new : Table) → Some ((pid, start), area) ≡ area_over now.areas pid at → n ≡ at - start → start < at
    → AllByRecursion IsSomePages now.areas → AreasAreApart now.areas → IsStrictlySortedBy spot_cmp (keys_of now.areas)
    → more ≡ with_areas now (set spot_cmp now.areas (pid, at) (record { pages = area.pages - n; policy = area.policy; page = record { segment = area.page.segment; index = area.page.index + n } }))
    → new ≡ with_areas more (replace spot_cmp more.areas (pid, start) (record { pages = n; policy = area.policy; page = area.page })) → new ≡ with_areas now (split_at pid at now.areas)
split_made pid at start n area now more new over size low some apart sorted added put =
    let a : PlacedArea = ((pid, start), area) in
    let facts = over_facts pid at now.areas start area over in
    put ∙ ap (λ (m : Table). with_areas m (replace spot_cmp m.areas (pid, start) (record { pages = n; policy = area.policy; page = area.page }))) added
    ∙ ap (λ (k : ℕ). with_areas now (replace spot_cmp (set spot_cmp now.areas (pid, at) (record { pages = area.pages - k; policy = area.policy; page = record { segment = area.page.segment; index = area.page.index + k } })) (pid, start) (record { pages = k; policy = area.policy; page = area.page }))) size
    ∙ ap (with_areas now) (split_is pid at a refl low facts.2 now.areas some apart sorted facts.0)

-- the areas alone have changed
pub areas_alone : (old new next_areas : Map (ℕ × ℕ) Area) (segments : Map ℕ Segment) (next : ℕ) (m : Table) → record { areas = old; segments = segments; next = next } ≡ m → new ≡ next_areas
    → record { areas = new; segments = segments; next = next } ≡ with_areas m next_areas
areas_alone old new next_areas segments next m is change =
    ap (λ (x : Map (ℕ × ℕ) Area). record { areas = x; segments = segments; next = next }) change ∙ ap (λ (x : Table). with_areas x next_areas) is

-- a split that is undone
pub undone : (pid at start : ℕ) (area : Area) (now split back : Table) → start < at → area_over now.areas pid at ≡ Some ((pid, start), area)
    → AllByRecursion IsSomePages now.areas → AreasAreApart now.areas → IsStrictlySortedBy spot_cmp (keys_of now.areas) → split ≡ with_areas now (split_at pid at now.areas)
    → back ≡ with_areas split (replace spot_cmp (without spot_cmp split.areas (pid, at)) (pid, start) area) → back ≡ now
undone pid at start area now split back low over some apart sorted is undo =
    let facts = over_facts pid at now.areas start area (sym over) in
    undo ∙ ap (λ (m : Table). with_areas m (replace spot_cmp (without spot_cmp m.areas (pid, at)) (pid, start) area)) is
    ∙ ap (with_areas now) (split_back pid at ((pid, start), area) refl low facts.2 now.areas some apart sorted facts.0)
