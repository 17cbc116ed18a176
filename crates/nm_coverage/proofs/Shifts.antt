-- Parts and steps of a stretch that grow or fall.
use Rattle.std.proofs.Common.{◌≡◌, ℕ, ◌+◌, ◌-◌, ◌^◌, ◌%◌, [], ◌∷◌, Bool, true, false, not, ◌&&◌, cond, refl, sym, ap, subst, ◌∙◌, arith}
use Rattle.std.specs.Prelude.{Option, Some, None, IsSome, ◌==◌, if◌then◌else◌}
use Rattle.std.specs.Option.{option_map}
use Rattle.std.specs.List.{AllByRecursion}
use Rattle.std.specs.List.Sorted.{IsStrictlySortedBy}
use Rattle.std.specs.Map.{keys_of}
use Rattle.std.specs.Ordering.{is_eq, is_lt, is_le, is_gt}
use Rattle.std.specs.declared.cmp.Ordering.TheVariants.{Less, Equal, Greater}
use Rattle.std.proofs.lemmas.Bool.{eqb-true, eqb-false, false_from_ne_true}
use Rattle.std.proofs.lemmas.Cmp.{upto}
use Rattle.std.proofs.lemmas.Map.Keys.{sorted_head, sorted_tail}
use Rattle.nm_types.specs.declared.page.Page.{Page}
use Rattle.nm_types.specs.Map.{Map, get, page_cmp, with_values}
use Rattle.nm_types.proofs.Cases.{true_false, none_is_not}
use Rattle.nm_types.proofs.Maps.{exact_page, page_cmp_total}
use Rattle.nm_coverage.specs.declared.parts.Part.{Part}
use Rattle.nm_coverage.specs.declared.step.Step.{Step}
use Rattle.nm_coverage.specs.Parts.{add_from, add_at}
use Rattle.nm_coverage.specs.Shifted.{one_more_or_less, shift_step, is_page_within, with_add}
use Rattle.nm_coverage.proofs.Orders.{le_gt, le_is, before_is}

-- ---- where the last part up to a page begins

abbrev is_from : Page → Option Page → Bool
is_from a None = false
is_from a (Some k) = is_le (page_cmp a k)

abbrev last_key : Option Page → Map Page Part → Page → Option Page
last_key o [] p = o
last_key o (e ∷ m) p = last_key (if is_lt (page_cmp p e.0) then o else Some e.0) m p

module _ (a p : Page) where
  stays_from : (o : Option Page) (m : Map Page Part) → AllByRecursion (λ q. page_cmp a q ≡ Less) (keys_of m) → is_from a o ≡ true → is_from a (last_key o m p) ≡ true
  stays_from o [] later h = h
  stays_from o (e ∷ m) later h =
      elim (is_lt (page_cmp p e.0)) as (λ b. is_from a (last_key (if b then o else Some e.0) m p) ≡ true) [
        | true ↦ stays_from o m later.1 h
        | false ↦ stays_from (Some e.0) m later.1 (ap is_le later.0)
      ]

  from_key : (o : Option Page) (m : Map Page Part) → IsStrictlySortedBy page_cmp (keys_of m) → IsSome (get page_cmp m a) → is_gt (page_cmp a p) ≡ false → is_from a (last_key o m p) ≡ true
  from_key o [] sorted has low = absurd (none_is_not Part has)
  from_key o (e ∷ m) sorted has low =
      let next : Option Page = if is_lt (page_cmp p e.0) then o else Some e.0 in
      let rest = sorted_tail page_cmp e.0 (keys_of m) sorted in
      elim (page_cmp a e.0) as (λ r. page_cmp a e.0 ≡ r → IsSome (cond (is_eq r) (Some e.1) (get page_cmp m a)) → is_from a (last_key (if is_lt (page_cmp p e.0) then o else Some e.0) m p) ≡ true) [
        | Less ↦ λ r k. from_key next m rest k low
        | Equal ↦ λ r k.
            let same = exact_page a e.0 r in
            let behind : is_lt (page_cmp p e.0) ≡ false = ap (λ q. is_lt (page_cmp p q)) (sym same) ∙ before_is p a ∙ low in
            let later : AllByRecursion (λ q. page_cmp a q ≡ Less) (keys_of m) = subst (λ h. AllByRecursion (λ q. page_cmp h q ≡ Less) (keys_of m)) (sym same) (sorted_head page_cmp e.0 (keys_of m) sorted) in
            ap (λ b. is_from a (last_key (if b then o else Some e.0) m p)) behind ∙ stays_from (Some e.0) m later (ap is_le r)
        | Greater ↦ λ r k. from_key next m rest k low
      ] refl has

  stays_before : (o : Option Page) (m : Map Page Part) → is_gt (page_cmp a p) ≡ true → is_from a o ≡ false → is_from a (last_key o m p) ≡ false
  stays_before o [] high h = h
  stays_before o (e ∷ m) high h =
      elim (is_lt (page_cmp p e.0)) as (λ b. is_lt (page_cmp p e.0) ≡ b → is_from a (last_key (if b then o else Some e.0) m p) ≡ false) [
        | true ↦ λ b. stays_before o m high h
        | false ↦ λ b. stays_before (Some e.0) m high (false_from_ne_true _ (λ k.
            true_false (sym high ∙ upto page_cmp_total a e.0 p (le_is (page_cmp a e.0) k) (sym (before_is p e.0) ∙ b))))
      ] refl

  -- it begins from a part's page on where the page does
  last_from : (m : Map Page Part) → IsStrictlySortedBy page_cmp (keys_of m) → IsSome (get page_cmp m a) → is_from a (last_key None m p) ≡ is_le (page_cmp a p)
  last_from m sorted has =
      elim (is_gt (page_cmp a p)) as (λ b. is_gt (page_cmp a p) ≡ b → is_from a (last_key None m p) ≡ is_le (page_cmp a p)) [
        | true ↦ λ b. stays_before None m b refl ∙ sym (le_gt (page_cmp a p) ∙ ap not b)
        | false ↦ λ b. from_key None m sorted has b ∙ sym (le_gt (page_cmp a p) ∙ ap not b)
      ] refl

-- ---- parts

module _ (from to : Page) (up : Bool) where
  abbrev pub moved : Page → Part → Part
  moved k v = if is_page_within from to k then record v { add = one_more_or_less up v.add } else v

  pub moved_inside : (k : Page) (v : Part) → is_page_within from to k ≡ true → moved k v ≡ record v { add = one_more_or_less up v.add }
  moved_inside k v h = ap (λ b. if b then record v { add = one_more_or_less up v.add } else v) h

  pub moved_outside : (k : Page) (v : Part) → is_page_within from to k ≡ false → moved k v ≡ v
  moved_outside k v h = ap (λ b. if b then record v { add = one_more_or_less up v.add } else v) h

  abbrev inside : Option Page → Bool
  inside o = is_from from o && not (is_from to o)

  moved_add : (b : Bool) (v : Part) → (if b then record v { add = one_more_or_less up v.add } else v).add ≡ (if b then one_more_or_less up v.add else v.add)
  moved_add true v = refl
  moved_add false v = refl

  by_last : (p : Page) (o : Option Page) (z w : ℕ) → w ≡ (if inside o then one_more_or_less up z else z) → (m : Map Page Part)
      → add_from w (with_values moved m) p ≡ (if inside (last_key o m p) then one_more_or_less up (add_from z m p) else add_from z m p)
  by_last p o z w is [] = is
  by_last p o z w is (e ∷ m) =
      elim (is_lt (page_cmp p e.0)) as (λ b. add_from (if b then w else (moved e.0 e.1).add) (with_values moved m) p
      ≡ (if inside (last_key (if b then o else Some e.0) m p) then one_more_or_less up (add_from (if b then z else e.1.add) m p) else add_from (if b then z else e.1.add) m p)) [
        | true ↦ by_last p o z w is m
        | false ↦ by_last p (Some e.0) e.1.add (moved e.0 e.1).add (moved_add (is_page_within from to e.0) e.1) m
      ]

  pub parts_moved : (m new : Map Page Part) → IsStrictlySortedBy page_cmp (keys_of m) → IsSome (get page_cmp m from) → IsSome (get page_cmp m to) → new ≡ with_values moved m → (p : Page)
      → add_at new p ≡ (if is_page_within from to p then one_more_or_less up (add_at m p) else add_at m p)
  parts_moved m new sorted first last now p =
      ap (λ n. add_at n p) now ∙ by_last p None 0 0 refl m
      ∙ ap (λ b. if b then one_more_or_less up (add_at m p) else add_at m p) (ap (λ b. b && not (is_from to (last_key None m p))) (last_from from p m sorted first) ∙ ap (λ b. is_le (page_cmp from p) && not b) (last_from to p m sorted last))

  -- the same of steps
  abbrev pub stepped : Page → Step → Step
  stepped k v = if is_page_within from to k then shift_step up v else v

  pub stepped_inside : (k : Page) (v : Step) → is_page_within from to k ≡ true → stepped k v ≡ shift_step up v
  stepped_inside k v h = ap (λ b. if b then shift_step up v else v) h

  pub stepped_outside : (k : Page) (v : Step) → is_page_within from to k ≡ false → stepped k v ≡ v
  stepped_outside k v h = ap (λ b. if b then shift_step up v else v) h

-- ---- numbers

raised_left : (up : Bool) (s n : ℕ) → (one_more_or_less up s + n) % 2 ^ 64 ≡ one_more_or_less up ((s + n) % 2 ^ 64)
raised_left true s n =
    elim (s == 2 ^ 64 - 1) as (λ b. (s == 2 ^ 64 - 1) ≡ b → ((if b then 0 else s + 1) + n) % 2 ^ 64 ≡ one_more_or_less true ((s + n) % 2 ^ 64)) [
      | true ↦ λ b. let h = eqb-true s (2 ^ 64 - 1) b in
          elim ((s + n) % 2 ^ 64 == 2 ^ 64 - 1) as (λ d. ((s + n) % 2 ^ 64 == 2 ^ 64 - 1) ≡ d → (0 + n) % 2 ^ 64 ≡ (if d then 0 else (s + n) % 2 ^ 64 + 1)) [
            | true ↦ λ d. let k = eqb-true ((s + n) % 2 ^ 64) (2 ^ 64 - 1) d in omega (arith, h, k)
            | false ↦ λ d. let k = eqb-false ((s + n) % 2 ^ 64) (2 ^ 64 - 1) d in omega (arith, h, k)
          ] refl
      | false ↦ λ b.
          elim ((s + n) % 2 ^ 64 == 2 ^ 64 - 1) as (λ d. ((s + n) % 2 ^ 64 == 2 ^ 64 - 1) ≡ d → ((s + 1) + n) % 2 ^ 64 ≡ (if d then 0 else (s + n) % 2 ^ 64 + 1)) [
            | true ↦ λ d. let k = eqb-true ((s + n) % 2 ^ 64) (2 ^ 64 - 1) d in omega (arith, k)
            | false ↦ λ d. let k = eqb-false ((s + n) % 2 ^ 64) (2 ^ 64 - 1) d in omega (arith, k)
          ] refl
    ] refl
raised_left false s n =
    elim (s == 0) as (λ b. (s == 0) ≡ b → ((if b then 2 ^ 64 - 1 else s - 1) + n) % 2 ^ 64 ≡ one_more_or_less false ((s + n) % 2 ^ 64)) [
      | true ↦ λ b. let h = eqb-true s 0 b in
          elim ((s + n) % 2 ^ 64 == 0) as (λ d. ((s + n) % 2 ^ 64 == 0) ≡ d → ((2 ^ 64 - 1) + n) % 2 ^ 64 ≡ (if d then 2 ^ 64 - 1 else (s + n) % 2 ^ 64 - 1)) [
            | true ↦ λ d. let k = eqb-true ((s + n) % 2 ^ 64) 0 d in omega (arith, h, k)
            | false ↦ λ d. let k = eqb-false ((s + n) % 2 ^ 64) 0 d in omega (arith, h, k)
          ] refl
      | false ↦ λ b. let h = eqb-false s 0 b in
          elim ((s + n) % 2 ^ 64 == 0) as (λ d. ((s + n) % 2 ^ 64 == 0) ≡ d → ((s - 1) + n) % 2 ^ 64 ≡ (if d then 2 ^ 64 - 1 else (s + n) % 2 ^ 64 - 1)) [
            | true ↦ λ d. let k = eqb-true ((s + n) % 2 ^ 64) 0 d in omega (arith, h, k)
            | false ↦ λ d. let k = eqb-false ((s + n) % 2 ^ 64) 0 d in omega (arith, h, k)
          ] refl
    ] refl

turned : (s n : ℕ) → (s + n) % 2 ^ 64 ≡ (n + s) % 2 ^ 64
turned s n = let same : s + n ≡ n + s = omega arith in ap (λ k. k % 2 ^ 64) same

abbrev with_covers : Step → ℕ → Step
with_covers s n = record s { covers = n }

step_first : (up : Bool) (n : ℕ) (s : Step) → with_add n (shift_step up s) ≡ shift_step up (with_add n s)
step_first up n s = ap (with_covers s) (raised_left up s.covers n)

add_first : (up : Bool) (n : ℕ) (s : Step) → with_add (one_more_or_less up n) s ≡ shift_step up (with_add n s)
add_first up n s = ap (with_covers s) (turned s.covers (one_more_or_less up n) ∙ raised_left up n s.covers ∙ ap (one_more_or_less up) (turned n s.covers))

-- ---- the steps before the first whole part, the whole parts, and the steps behind them

abbrev joined : ℕ → Bool → Bool → Bool → Bool → Bool → Step → Step
joined n up f x y t s = with_add (if x && not y then one_more_or_less up n else n) (if y && not t then shift_step up (if f && not x then shift_step up s else s) else (if f && not x then shift_step up s else s))

all_joined : (n : ℕ) (up f x y t : Bool) → (x ≡ true → f ≡ true) → (y ≡ true → x ≡ true) → (t ≡ true → y ≡ true) → (s : Step) → joined n up f x y t s ≡ (if f && not t then shift_step up (with_add n s) else with_add n s)
all_joined n up false true y t h i j s = absurd (true_false (sym (h refl)))
all_joined n up false false true t h i j s = absurd (true_false (sym (i refl)))
all_joined n up false false false true h i j s = absurd (true_false (sym (j refl)))
all_joined n up false false false false h i j s = refl
all_joined n up true false true t h i j s = absurd (true_false (sym (i refl)))
all_joined n up true false false true h i j s = absurd (true_false (sym (j refl)))
all_joined n up true false false false h i j s = step_first up n s
all_joined n up true true false true h i j s = absurd (true_false (sym (j refl)))
all_joined n up true true false false h i j s = add_first up n s
all_joined n up true true true false h i j s = step_first up n s
all_joined n up true true true true h i j s = refl

abbrev if_shifted : Bool → Bool → Step → Step
if_shifted up b s = if b then shift_step up s else s

pub all_at : (n : ℕ) (up f x y t : Bool) → (x ≡ true → f ≡ true) → (y ≡ true → x ≡ true) → (t ≡ true → y ≡ true) → (o : Option Step)
    → option_map (with_add (if x && not y then one_more_or_less up n else n)) (option_map (if_shifted up (y && not t)) (option_map (if_shifted up (f && not x)) o)) ≡ option_map (if_shifted up (f && not t)) (option_map (with_add n) o)
all_at n up f x y t h i j None = refl
all_at n up f x y t h i j (Some s) = ap Some (all_joined n up f x y t h i j s)

pub one_at : (n : ℕ) (up w : Bool) (o : Option Step) → option_map (with_add n) (option_map (if_shifted up w) o) ≡ option_map (if_shifted up w) (option_map (with_add n) o)
one_at n up w None = refl
one_at n up true (Some s) = ap Some (step_first up n s)
one_at n up false (Some s) = refl
