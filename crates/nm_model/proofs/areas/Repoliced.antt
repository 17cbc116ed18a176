-- Areas that are split at both ends of a range, and have another policy inside.
use Rattle.std.proofs.Common.{◌≡◌, ℕ, suc, zero, ◌+◌, ◌-◌, ◌≤◌, ◌<◌, List, [], ◌∷◌, ◌++◌, true, false, ◌&&◌, cond, refl, sym, ap, ◌∙◌, arith, eq-eqb}
use Rattle.std.specs.Prelude.{Some, nat_lt, nat_le, ◌==◌, min, max}
use Rattle.std.specs.Option.{is_some}
use Rattle.std.specs.List.{AllByRecursion, flat_map}
use Rattle.std.specs.List.Sorted.{IsStrictlySortedBy}
use Rattle.std.specs.Map.{keys_of}
use Rattle.std.proofs.lemmas.Bool.{eqb-true, eqb-false, leb-true, ltb-true, ltb-false, lt-ltb, le-leb, and_parts, and_from, false_from_ne_true}
use Rattle.nm_types.specs.declared.page.Page.{Page}
use Rattle.nm_types.specs.declared.area.Policy.{Policy}
use Rattle.nm_types.specs.declared.area.Area.{Area}
use Rattle.nm_types.specs.Map.{Map, with_values, spot_cmp}
use Rattle.nm_types.specs.State.{PlacedArea, area_over}
use Rattle.nm_model.specs.definitions.Areas.{before, behind, parts_outside, AreasAreApart, IsSomePages, HasIndices}
use Rattle.nm_model.specs.definitions.Areas.{inside, parts_with_policy, is_well_formed, split_at, with_policy_in}
use Rattle.nm_model.proofs.areas.Apart.{behind_last, covers_from}
use Rattle.nm_model.proofs.areas.Parted.{Among, All-among, all_from_among, among_flat, over_among, IsPart, part_of}
use Rattle.nm_model.proofs.areas.Halves.{flat_apart, flat_sorted}
use Rattle.nm_model.proofs.areas.Cut.{front_of, rest_of, shorter, later, same_placed, one, before_none, before_some, behind_none, behind_some, cut_other, cut_low, cut_high, cut_mid, over_facts}

-- ---- what holds of all areas holds when one is split

module _ (pid at : ℕ) (areas : Map (ℕ × ℕ) Area) (some : AllByRecursion IsSomePages areas) where
  pub all_parts : (P : PlacedArea → Type 0) → ((a b : PlacedArea) → Among a areas → IsPart pid at at a b → P b) → AllByRecursion P (split_at pid at areas)
  all_parts P h = all_from_among P (split_at pid at areas) (λ b m.
      let from = among_flat (parts_outside pid at at) areas b m in
      h from.0 b from.1 (part_of pid at at from.0 (All-among IsSomePages areas from.0 some from.1) b from.2))

  pub split_some : AllByRecursion IsSomePages (split_at pid at areas)
  split_some = all_parts IsSomePages (λ a b m p. p.some)

  pub split_indices : AllByRecursion HasIndices areas → AllByRecursion HasIndices (split_at pid at areas)
  split_indices few = all_parts HasIndices (λ a b m p.
      let under : HasIndices a = All-among HasIndices areas a few m in
      omega (arith, under, p.index, p.high, p.low))

  pub split_apart : AreasAreApart areas → AreasAreApart (split_at pid at areas)
  split_apart apart = flat_apart pid at at (omega arith) areas some apart

  pub split_sorted : AreasAreApart areas → IsStrictlySortedBy spot_cmp (keys_of areas) → IsStrictlySortedBy spot_cmp (keys_of (split_at pid at areas))
  split_sorted apart sorted = flat_sorted pid at at (omega arith) areas some apart sorted

-- ---- page after page

mapped_step : (areas : Map (ℕ × ℕ) Area) (pid n r at : ℕ) → ((v : ℕ) → at ≤ v → v < at + n → is_some (area_over areas pid v) ≡ true) → is_well_formed areas pid at (n + r) ≡ is_well_formed areas pid (at + n) r
mapped_step areas pid zero r at h =
    let same : zero + r ≡ r = omega arith in
    let here : at ≡ at + zero = omega arith in
    ap (is_well_formed areas pid at) same ∙ ap (λ k. is_well_formed areas pid k r) here
mapped_step areas pid (suc n) r at h =
    let same : suc n + r ≡ suc (n + r) = omega arith in
    let there : (at + 1) + n ≡ at + suc n = omega arith in
    ap (is_well_formed areas pid at) same ∙ ap (λ b. b && is_well_formed areas pid (at + 1) (n + r)) (h at (omega arith) (omega arith))
    ∙ mapped_step areas pid n r (at + 1) (λ v low high. h v (omega (arith, low)) (omega (arith, high)))
    ∙ ap (λ k. is_well_formed areas pid k r) there

-- after an area that covers a page number
mapped_on : (areas : Map (ℕ × ℕ) Area) (pid at end start to : ℕ) (area : Area) → AreasAreApart areas → Some ((pid, start), area) ≡ area_over areas pid at → to ≡ start + area.pages → at < end
    → is_well_formed areas pid at (end - at) ≡ is_well_formed areas pid to (end - to)
mapped_on areas pid at end start to area apart over is more =
    let a : PlacedArea = ((pid, start), area) in
    let facts = over_facts pid at areas start area over in
    let there : (v : ℕ) → at ≤ v → v < start + area.pages → is_some (area_over areas pid v) ≡ true = λ v low high.
    ap is_some (over_among areas pid v a apart facts.0 (covers_from a pid v refl (omega (arith, facts.1, low)) high)) in
    elim (nat_lt to end) as (λ b. nat_lt to end ≡ b → is_well_formed areas pid at (end - at) ≡ is_well_formed areas pid to (end - to)) [
      | true ↦ λ b.
          let short : to < end = ltb-true to end b in
          let sum : end - at ≡ (to - at) + (end - to) = omega (arith, short, is, facts.2, more) in
          let next : at + (to - at) ≡ to = omega (arith, is, facts.2) in
          ap (is_well_formed areas pid at) sum ∙ mapped_step areas pid (to - at) (end - to) at (λ v low high. there v low (omega (arith, high, next, is)))
          ∙ ap (λ k. is_well_formed areas pid k (end - to)) next
      | false ↦ λ b.
          let long : end ≤ to = ltb-false to end b in
          let sum : end - at ≡ (end - at) + 0 = omega arith in
          let none : end - to ≡ 0 = omega (arith, long) in
          ap (is_well_formed areas pid at) sum ∙ mapped_step areas pid (end - at) 0 at (λ v low high. there v low (omega (arith, high, long, is, more)))
          ∙ sym (ap (is_well_formed areas pid to) none)
    ] refl

pub mapped_next : (areas : Map (ℕ × ℕ) Area) (pid at end start n : ℕ) (area : Area) → AreasAreApart areas → Some ((pid, start), area) ≡ area_over areas pid at → n ≡ start → at < end
    → is_well_formed areas pid at (end - at) ≡ is_well_formed areas pid (n + area.pages) (end - (n + area.pages))
mapped_next areas pid at end start n area apart over is more = mapped_on areas pid at end start (n + area.pages) area apart over (ap (λ (k : ℕ). k + area.pages) is) more

-- an area that covers all of them
pub mapped_whole : (areas : Map (ℕ × ℕ) Area) (pid at count start : ℕ) (area : Area) → AreasAreApart areas → Some ((pid, start), area) ≡ area_over areas pid at → at + count ≤ start + area.pages → is_well_formed areas pid at count ≡ true
mapped_whole areas pid at count start area apart over long =
    let a : PlacedArea = ((pid, start), area) in
    let facts = over_facts pid at areas start area over in
    let sum : count ≡ count + 0 = omega arith in
    ap (is_well_formed areas pid at) sum
    ∙ mapped_step areas pid count 0 at (λ v low high. ap is_some (over_among areas pid v a apart facts.0 (covers_from a pid v refl (omega (arith, facts.1, low)) (omega (arith, high, long)))))

-- ---- what is inside has the policy

joined : (xs ys zs : List PlacedArea) → (xs ++ ys) ++ zs ≡ xs ++ (ys ++ zs)
joined [] ys zs = refl
joined (x ∷ xs) ys zs = ap (λ l. x ∷ l) (joined xs ys zs)

module _ (pid first end : ℕ) (policy : Policy) (range : first < end) where
  abbrev paint : ℕ × ℕ → Area → Area
  paint = with_policy_in pid first end policy

  painted_in : (k : ℕ × ℕ) (x : Area) → k.0 ≡ pid → first ≤ k.1 → k.1 < end → paint k x ≡ record x { policy = policy }
  painted_in k x own low high =
      ap (λ b. cond b (record x { policy = policy }) x) (and_from _ _ (eq-eqb k.0 pid own) (and_from _ _ (le-leb first k.1 low) (lt-ltb k.1 end high)))

  painted_out : (k : ℕ × ℕ) (x : Area) → (k.0 ≡ pid → first ≤ k.1 → k.1 < end → ⊥) → paint k x ≡ x
  painted_out k x out =
      ap (λ b. cond b (record x { policy = policy }) x) (false_from_ne_true ((k.0 == pid) && (nat_le first k.1 && nat_lt k.1 end)) (λ h.
      let both = and_parts (k.0 == pid) (nat_le first k.1 && nat_lt k.1 end) h in
      let ends = and_parts (nat_le first k.1) (nat_lt k.1 end) both.1 in
      out (eqb-true k.0 pid both.0) (leb-true first k.1 ends.0) (ltb-true k.1 end ends.1)))

  abbrev part_in : PlacedArea → PlacedArea
  part_in a =
      let from = max first a.0.1 in
      let page : Page = record { segment = a.1.page.segment; index = a.1.page.index + (from - a.0.1) } in
      let area : Area = record { pages = min end (a.0.1 + a.1.pages) - from; policy = policy; page = page } in
      ((a.0.0, from), area)

  inside_none : (a : PlacedArea) → min end (behind_last a) ≤ max first a.0.1 → inside first end policy a ≡ []
  inside_none a h =
      ap (λ b. cond b (part_in a ∷ []) []) (false_from_ne_true (nat_lt (max first a.0.1) (min end (behind_last a))) (λ k.
      let less : max first a.0.1 < min end (behind_last a) = ltb-true (max first a.0.1) (min end (behind_last a)) k in
      absurd (omega (arith, h, less))))

  inside_some : (a : PlacedArea) → max first a.0.1 < min end (behind_last a) → inside first end policy a ≡ part_in a ∷ []
  inside_some a h = ap (λ b. cond b (part_in a ∷ []) []) (lt-ltb (max first a.0.1) (min end (behind_last a)) h)

  three : (a : PlacedArea) (xs ys zs : List PlacedArea) → a.0.0 ≡ pid → before first a ≡ xs → inside first end policy a ≡ ys → behind end a ≡ zs → xs ++ ys ++ zs ≡ parts_with_policy pid first end policy a
  three a xs ys zs own x y z =
      sym (ap (λ b. cond b (before first a ++ inside first end policy a ++ behind end a) (a ∷ [])) (eq-eqb a.0.0 pid own)
      ∙ ap (λ l. l ++ inside first end policy a ++ behind end a) x ∙ ap (λ l. xs ++ l ++ behind end a) y ∙ ap (λ l. xs ++ ys ++ l) z)

  abbrev both : PlacedArea → List PlacedArea
  both a = with_values paint (flat_map (parts_outside pid end end) (parts_outside pid first first a))

  -- cut into nothing
  whole : (a : PlacedArea) → parts_outside pid first first a ≡ a ∷ [] → parts_outside pid end end a ≡ a ∷ [] → both a ≡ (a.0, paint a.0 a.1) ∷ []
  whole a e f = ap (λ l. with_values paint (flat_map (parts_outside pid end end) l)) e ∙ ap (λ l. with_values paint (l ++ [])) f

  -- before the range
  in_front : (a : PlacedArea) → 0 < a.1.pages → a.0.0 ≡ pid → behind_last a ≤ first → both a ≡ parts_with_policy pid first end policy a
  in_front a some own low =
      whole a (cut_low pid first a some low) (cut_low pid end a some (omega (arith, low, range)))
      ∙ one (ap (λ (x : Area). (a.0, x)) (painted_out a.0 a.1 (λ p k l. absurd (omega (arith, k, low, some)))) ∙ same_placed a (front_of first a) refl refl (omega (arith, low)) refl refl refl)
      ∙ three a (front_of first a ∷ []) [] [] own (before_some first a (omega (arith, low, some))) (inside_none a (omega (arith, low))) (behind_none end a some (omega (arith, low, range)))

  -- after it
  in_back : (a : PlacedArea) → 0 < a.1.pages → a.0.0 ≡ pid → end ≤ a.0.1 → both a ≡ parts_with_policy pid first end policy a
  in_back a some own high =
      whole a (cut_high pid first a some (omega (arith, high, range))) (cut_high pid end a some high)
      ∙ one (ap (λ (x : Area). (a.0, x)) (painted_out a.0 a.1 (λ p k l. absurd (omega (arith, l, high)))) ∙ same_placed a (rest_of end a) refl (omega (arith, high)) (omega (arith, high)) refl refl (omega (arith, high)))
      ∙ three a [] [] (rest_of end a ∷ []) own (before_none first a (omega (arith, high, range))) (inside_none a (omega (arith, high))) (behind_some end a some (omega (arith, high, some)))

  -- whole inside
  in_range : (a : PlacedArea) → 0 < a.1.pages → a.0.0 ≡ pid → first ≤ a.0.1 → behind_last a ≤ end → both a ≡ parts_with_policy pid first end policy a
  in_range a some own low high =
      whole a (cut_high pid first a some low) (cut_low pid end a some high)
      ∙ one (ap (λ (x : Area). (a.0, x)) (painted_in a.0 a.1 own low (omega (arith, high, some))) ∙ same_placed (a.0, record (a.1) { policy = policy }) (part_in a) refl (omega (arith, low)) (omega (arith, low, high)) refl refl (omega (arith, low)))
      ∙ three a [] (part_in a ∷ []) [] own (before_none first a low) (inside_some a (omega (arith, low, high, some))) (behind_none end a some high)

  -- over the end
  over_end : (a : PlacedArea) → 0 < a.1.pages → a.0.0 ≡ pid → first ≤ a.0.1 → a.0.1 < end → end < behind_last a → both a ≡ parts_with_policy pid first end policy a
  over_end a some own low mid high =
      ap (λ l. with_values paint (flat_map (parts_outside pid end end) l)) (cut_high pid first a some low)
      ∙ ap (λ l. with_values paint (l ++ [])) (cut_mid pid end a own mid high)
      ∙ ap (λ x. x ∷ ((a.0.0, end), paint (a.0.0, end) (later end a)) ∷ []) (ap (λ (x : Area). (a.0, x)) (painted_in a.0 (shorter end a) own low mid) ∙ same_placed (a.0, record (shorter end a) { policy = policy }) (part_in a) refl (omega (arith, low)) (omega (arith, low, high)) refl refl (omega (arith, low)))
      ∙ ap (λ x. part_in a ∷ x ∷ []) (ap (λ (x : Area). ((a.0.0, end), x)) (painted_out (a.0.0, end) (later end a) (λ p k l. absurd (omega (arith, l)))) ∙ same_placed ((a.0.0, end), later end a) (rest_of end a) refl (omega (arith, mid)) (omega (arith, mid)) refl refl (omega (arith, mid)))
      ∙ three a [] (part_in a ∷ []) (rest_of end a ∷ []) own (before_none first a low) (inside_some a (omega (arith, low, mid, high))) (behind_some end a some high)

  -- over the start
  over_start : (a : PlacedArea) → 0 < a.1.pages → a.0.0 ≡ pid → a.0.1 < first → first < behind_last a → behind_last a ≤ end → both a ≡ parts_with_policy pid first end policy a
  over_start a some own low mid high =
      let front : PlacedArea = (a.0, shorter first a) in
      let rest : PlacedArea = ((a.0.0, first), later first a) in
      ap (λ l. with_values paint (flat_map (parts_outside pid end end) l)) (cut_mid pid first a own low mid)
      ∙ ap (λ l. with_values paint (l ++ (parts_outside pid end end rest ++ []))) (cut_low pid end front (omega (arith, low)) (omega (arith, low, range)))
      ∙ ap (λ l. with_values paint (front ∷ (l ++ []))) (cut_low pid end rest (omega (arith, low, mid)) (omega (arith, low, mid, high)))
      ∙ ap (λ x. x ∷ (rest.0, paint rest.0 rest.1) ∷ []) (ap (λ (x : Area). (a.0, x)) (painted_out a.0 (shorter first a) (λ p k l. absurd (omega (arith, k, low)))) ∙ same_placed front (front_of first a) refl refl (omega (arith, mid)) refl refl refl)
      ∙ ap (λ x. front_of first a ∷ x ∷ []) (ap (λ (x : Area). (rest.0, x)) (painted_in rest.0 rest.1 own (omega arith) range) ∙ same_placed (rest.0, record (later first a) { policy = policy }) (part_in a) refl (omega (arith, low)) (omega (arith, low, high)) refl refl (omega (arith, low)))
      ∙ three a (front_of first a ∷ []) (part_in a ∷ []) [] own (before_some first a low) (inside_some a (omega (arith, low, mid, range))) (behind_none end a some high)

  -- over both
  over_both : (a : PlacedArea) → 0 < a.1.pages → a.0.0 ≡ pid → a.0.1 < first → end < behind_last a → both a ≡ parts_with_policy pid first end policy a
  over_both a some own low high =
      let front : PlacedArea = (a.0, shorter first a) in
      let rest : PlacedArea = ((a.0.0, first), later first a) in
      ap (λ l. with_values paint (flat_map (parts_outside pid end end) l)) (cut_mid pid first a own low (omega (arith, high, range)))
      ∙ ap (λ l. with_values paint (l ++ (parts_outside pid end end rest ++ []))) (cut_low pid end front (omega (arith, low)) (omega (arith, low, range)))
      ∙ ap (λ l. with_values paint (front ∷ (l ++ []))) (cut_mid pid end rest own range (omega (arith, low, high)))
      ∙ ap (λ x. x ∷ (rest.0, paint rest.0 (shorter end rest)) ∷ ((a.0.0, end), paint (a.0.0, end) (later end rest)) ∷ []) (ap (λ (x : Area). (a.0, x)) (painted_out a.0 (shorter first a) (λ p k l. absurd (omega (arith, k, low)))) ∙ same_placed front (front_of first a) refl refl (omega (arith, high, range)) refl refl refl)
      ∙ ap (λ x. front_of first a ∷ x ∷ ((a.0.0, end), paint (a.0.0, end) (later end rest)) ∷ []) (ap (λ (x : Area). (rest.0, x)) (painted_in rest.0 (shorter end rest) own (omega arith) range) ∙ same_placed (rest.0, record (shorter end rest) { policy = policy }) (part_in a) refl (omega (arith, low)) (omega (arith, low, high, range)) refl refl (omega (arith, low)))
      ∙ ap (λ x. front_of first a ∷ part_in a ∷ x ∷ []) (ap (λ (x : Area). ((a.0.0, end), x)) (painted_out (a.0.0, end) (later end rest) (λ p k l. absurd (omega (arith, l)))) ∙ same_placed ((a.0.0, end), later end rest) (rest_of end a) refl (omega (arith, low, range)) (omega (arith, low, range, high)) refl refl (omega (arith, low, range)))
      ∙ three a (front_of first a ∷ []) (part_in a ∷ []) (rest_of end a ∷ []) own (before_some first a low) (inside_some a (omega (arith, low, high, range))) (behind_some end a some high)

  own_repoliced : (a : PlacedArea) → 0 < a.1.pages → a.0.0 ≡ pid → both a ≡ parts_with_policy pid first end policy a
  own_repoliced a some own =
      elim (nat_lt a.0.1 first) as (λ b. nat_lt a.0.1 first ≡ b → both a ≡ parts_with_policy pid first end policy a) [
        | true ↦ λ b.
            let low : a.0.1 < first = ltb-true a.0.1 first b in
            elim (nat_lt first (behind_last a)) as (λ c. nat_lt first (behind_last a) ≡ c → both a ≡ parts_with_policy pid first end policy a) [
              | false ↦ λ c. in_front a some own (ltb-false first (behind_last a) c)
              | true ↦ λ c.
                  let mid : first < behind_last a = ltb-true first (behind_last a) c in
                  elim (nat_lt end (behind_last a)) as (λ d. nat_lt end (behind_last a) ≡ d → both a ≡ parts_with_policy pid first end policy a) [
                    | false ↦ λ d. over_start a some own low mid (ltb-false end (behind_last a) d)
                    | true ↦ λ d. over_both a some own low (ltb-true end (behind_last a) d)
                  ] refl
            ] refl
        | false ↦ λ b.
            let low : first ≤ a.0.1 = ltb-false a.0.1 first b in
            elim (nat_lt a.0.1 end) as (λ c. nat_lt a.0.1 end ≡ c → both a ≡ parts_with_policy pid first end policy a) [
              | false ↦ λ c. in_back a some own (ltb-false a.0.1 end c)
              | true ↦ λ c.
                  let mid : a.0.1 < end = ltb-true a.0.1 end c in
                  elim (nat_lt end (behind_last a)) as (λ d. nat_lt end (behind_last a) ≡ d → both a ≡ parts_with_policy pid first end policy a) [
                    | false ↦ λ d. in_range a some own low (ltb-false end (behind_last a) d)
                    | true ↦ λ d. over_end a some own low mid (ltb-true end (behind_last a) d)
                  ] refl
            ] refl
      ] refl

  pub one_repoliced : (a : PlacedArea) → 0 < a.1.pages → both a ≡ parts_with_policy pid first end policy a
  one_repoliced a some =
      elim (a.0.0 == pid) as (λ b. (a.0.0 == pid) ≡ b → both a ≡ cond b (before first a ++ inside first end policy a ++ behind end a) (a ∷ [])) [
        | false ↦ λ b.
            whole a (cut_other pid first a (eqb-false a.0.0 pid b)) (cut_other pid end a (eqb-false a.0.0 pid b))
            ∙ one (ap (λ (x : Area). (a.0, x)) (painted_out a.0 a.1 (λ p k l. eqb-false a.0.0 pid b p)))
        | true ↦ λ b.
            let own = eqb-true a.0.0 pid b in
            own_repoliced a some own ∙ ap (λ t. cond t (before first a ++ inside first end policy a ++ behind end a) (a ∷ [])) b
      ] refl

  values_append : (xs ys : Map (ℕ × ℕ) Area) → with_values paint (xs ++ ys) ≡ with_values paint xs ++ with_values paint ys
  values_append [] ys = refl
  values_append (x ∷ xs) ys = ap (λ l. (x.0, paint x.0 x.1) ∷ l) (values_append xs ys)

  flat_append : (f : PlacedArea → List PlacedArea) (xs ys : List PlacedArea) → flat_map f (xs ++ ys) ≡ flat_map f xs ++ flat_map f ys
  flat_append f [] ys = refl
  flat_append f (x ∷ xs) ys = ap (λ l. f x ++ l) (flat_append f xs ys) ∙ sym (joined (f x) (flat_map f xs) (flat_map f ys))

  -- split at both ends, with the policy between
  pub all_repoliced : (areas : Map (ℕ × ℕ) Area) → AllByRecursion IsSomePages areas → with_values paint (split_at pid end (split_at pid first areas)) ≡ flat_map (parts_with_policy pid first end policy) areas
  all_repoliced [] some = refl
  all_repoliced (a ∷ areas) some =
      ap (with_values paint) (flat_append (parts_outside pid end end) (parts_outside pid first first a) (split_at pid first areas))
      ∙ values_append (flat_map (parts_outside pid end end) (parts_outside pid first first a)) (split_at pid end (split_at pid first areas))
      ∙ ap (λ l. l ++ with_values paint (split_at pid end (split_at pid first areas))) (one_repoliced a some.0)
      ∙ ap (λ l. parts_with_policy pid first end policy a ++ l) (all_repoliced areas some.1)
