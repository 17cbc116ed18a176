-- Where areas begin.
use Rattle.std.proofs.Common.{◌≡◌, ℕ, ◌+◌, ◌/◌, ◌<◌, Bool, [], ◌∷◌, true, false, not, cond, refl, sym, ap, subst, ◌∙◌, arith, inl, inr, eq-eqb}
use Rattle.std.specs.Prelude.{Some, None, IfSome}
use Rattle.std.specs.List.{AllByRecursion, list_any}
use Rattle.std.specs.Ordering.{eq_by_cmp, is_eq}
use Rattle.std.proofs.lemmas.Bool.{and_from, lt-ltb}
use Rattle.nm_types.specs.declared.area.Area.{Area}
use Rattle.nm_types.specs.Map.{Map, get, set, without, spot_cmp}
use Rattle.nm_types.specs.State.{PlacedArea, covers, area_over}
use Rattle.nm_types.proofs.Cases.{true_false, some_is}
use Rattle.nm_model.specs.definitions.Areas.{AreasAreApart, IsSomePages}
use Rattle.nm_model.specs.definitions.Areas.{parts_outside}
use Rattle.nm_model.specs.definitions.Areas.{split_at}
use Rattle.nm_model.specs.definitions.AreaRefusal.{overlaps}
use Rattle.nm_types.proofs.Maps.{spot_cmp_total, get-set}
use Rattle.nm_model.proofs.areas.Apart.{covers_from}
use Rattle.nm_model.proofs.areas.Parted.{Among, All-among, over_among, among_over, among_flat, part_of, part_covers, among_any}
use Rattle.nm_model.proofs.areas.Overs.{get_among}

among_without : (areas : Map (ℕ × ℕ) Area) (k : ℕ × ℕ) (a : PlacedArea) → Among a (without spot_cmp areas k) → Among a areas
among_without [] k a m = absurd m
among_without (e ∷ areas) k a m =
    elim (is_eq (spot_cmp k e.0)) as (λ b. Among a (cond b areas (e ∷ without spot_cmp areas k)) → Among a (e ∷ areas)) [
      | true ↦ λ m. inr m
      | false ↦ λ m. elim m as (λ _. Among a (e ∷ areas)) [
        | inl i ↦ inl i
        | inr n ↦ inr (among_without areas k a n)
      ]
    ] m

-- an area covers its first page number
covers_first : (areas : Map (ℕ × ℕ) Area) (a : PlacedArea) → AllByRecursion IsSomePages areas → Among a areas → covers a a.0.0 a.0.1 ≡ true
covers_first areas a whole m =
    let some = All-among IsSomePages areas a whole m in
    covers_from a a.0.0 a.0.1 refl (omega arith) (omega (arith, some))

-- where no area overlaps, none begins
pub none_begins : (areas : Map (ℕ × ℕ) Area) (pid first pages : ℕ) → 0 < pages → AllByRecursion IsSomePages areas → true ≡ not (list_any (overlaps pid first (first + pages)) areas) → get spot_cmp areas (pid, first) ≡ None
none_begins areas pid first pages some whole free =
    elim (get spot_cmp areas (pid, first)) as (λ o. get spot_cmp areas (pid, first) ≡ o → o ≡ None) [
      | None ↦ λ o. refl
      | Some y ↦ λ o.
          let m = get_among areas (pid, first) y o in
          let has = All-among IsSomePages areas ((pid, first), y) whole m in
          let over = and_from _ _ (and_from _ _ (eq-eqb pid pid refl) (lt-ltb first (first + pages) (omega (arith, some)))) (lt-ltb first (first + y.pages) (omega (arith, has))) in
          absurd (true_false (free ∙ ap not (among_any (overlaps pid first (first + pages)) areas ((pid, first), y) m over)))
    ] refl

module _ (pid at start : ℕ) (area : Area) (areas : Map (ℕ × ℕ) Area) (apart : AreasAreApart areas) (whole : AllByRecursion IsSomePages areas) (over : area_over areas pid at ≡ Some ((pid, start), area)) where
  -- no area begins inside another
  pub none_inside : start < at → get spot_cmp areas (pid, at) ≡ None
  none_inside low =
      elim (get spot_cmp areas (pid, at)) as (λ o. get spot_cmp areas (pid, at) ≡ o → o ≡ None) [
        | None ↦ λ o. refl
        | Some y ↦ λ o.
            let m = get_among areas (pid, at) y o in
            let same = some_is (sym (over_among areas pid at ((pid, at), y) apart m (covers_first areas ((pid, at), y) whole m)) ∙ over) in
            let begin : at ≡ start = ap (λ (z : PlacedArea). z.0.1) same in
            absurd (omega (arith, begin, low))
      ] refl

  -- the area over its first page number is it
  one_over : (a : PlacedArea) → Among a areas → covers a pid start ≡ true → a ≡ ((pid, start), area)
  one_over a m c =
      let it = (among_over areas pid at ((pid, start), area) over).0 in
      some_is (sym (over_among areas pid start a apart m c) ∙ over_among areas pid start ((pid, start), area) apart it (covers_first areas ((pid, start), area) whole it))

  same_begin : (y : Area) → get spot_cmp areas (pid, start) ≡ Some y → y ≡ area
  same_begin y o =
      let m = get_among areas (pid, start) y o in
      ap (λ (z : PlacedArea). z.1) (one_over ((pid, start), y) m (covers_first areas ((pid, start), y) whole m))

  -- with its rest after it
  pub same_front : (rest : Area) (now : Map (ℕ × ℕ) Area) → rest.page.segment ≡ area.page.segment → now ≡ set spot_cmp areas (pid, at) rest → IfSome (get spot_cmp now (pid, start)) (λ a. a.page.segment ≡ area.page.segment)
  same_front rest now same is =
      elim (get spot_cmp now (pid, start)) as (λ o. get spot_cmp now (pid, start) ≡ o → IfSome o (λ a. a.page.segment ≡ area.page.segment)) [
        | None ↦ λ o. tt
        | Some y ↦ λ o.
            let found : cond (eq_by_cmp spot_cmp (pid, start) (pid, at)) (Some rest) (get spot_cmp areas (pid, start)) ≡ Some y = sym (ap (λ (m : Map (ℕ × ℕ) Area). get spot_cmp m (pid, start)) is ∙ get-set spot_cmp_total areas (pid, at) rest (pid, start)) ∙ o in
            elim (eq_by_cmp spot_cmp (pid, start) (pid, at)) as (λ b. cond b (Some rest) (get spot_cmp areas (pid, start)) ≡ Some y → y.page.segment ≡ area.page.segment) [
              | true ↦ λ h. ap (λ (z : Area). z.page.segment) (sym (some_is h)) ∙ same
              | false ↦ λ h. ap (λ (z : Area). z.page.segment) (same_begin y h)
            ] found
      ] refl

  -- and with the rest removed again
  pub same_back : (now : Map (ℕ × ℕ) Area) → now ≡ split_at pid at areas → IfSome (get spot_cmp (without spot_cmp now (pid, at)) (pid, start)) (λ a. a.page.segment ≡ area.page.segment)
  same_back now is =
      elim (get spot_cmp (without spot_cmp now (pid, at)) (pid, start)) as (λ o. get spot_cmp (without spot_cmp now (pid, at)) (pid, start) ≡ o → IfSome o (λ a. a.page.segment ≡ area.page.segment)) [
        | None ↦ λ o. tt
        | Some y ↦ λ o.
            let b : PlacedArea = ((pid, start), y) in
            let here : Among b (split_at pid at areas) = subst (Among b) is (among_without now (pid, at) b (get_among (without spot_cmp now (pid, at)) (pid, start) y o)) in
            let from = among_flat (parts_outside pid at at) areas b here in
            let part = part_of pid at at from.0 (All-among IsSomePages areas from.0 whole from.1) b from.2 in
            let some = part.some in
            let whose = one_over from.0 from.1 (part_covers pid at at from.0 b pid start part (covers_from b pid start refl (omega arith) (omega (arith, some)))) in
            part.segment ∙ ap (λ (z : PlacedArea). z.1.page.segment) whose
      ] refl

-- whether a range is free, in the number of its pages
pub free_pages : (areas : Map (ℕ × ℕ) Area) (pid addr pages : ℕ) {first end : ℕ} {free : Bool} → first ≡ addr / 4096 → end ≡ addr / 4096 + pages → free ≡ not (list_any (overlaps pid first end) areas)
    → free ≡ not (list_any (overlaps pid first (first + pages)) areas)
free_pages areas pid addr pages {first} at past told =
    told ∙ ap (λ (n : ℕ). not (list_any (overlaps pid first n) areas)) (past ∙ ap (λ (n : ℕ). n + pages) (sym at))
