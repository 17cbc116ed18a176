-- Areas of a process, each right after another.
use Rattle.std.proofs.Common.{◌≡◌, ℕ, ◌+◌, ◌≤◌, ◌<◌, true, false, ◌&&◌, refl, sym, ap, subst, ◌∙◌, arith}
use Rattle.std.specs.Prelude.{Option, option_map, Some, None, zero, suc, max, nat_lt}
use Rattle.std.specs.Option.{is_some}
use Rattle.std.specs.List.{AllByRecursion}
use Rattle.std.proofs.lemmas.Bool.{ltb-true, ltb-false}
use Rattle.std.proofs.Math.Bool.{and-false}
use Rattle.nm_types.specs.declared.area.Area.{Area}
use Rattle.nm_types.specs.Map.{Map, get, spot_cmp}
use Rattle.nm_types.specs.State.{PlacedArea, covers, area_over}
use Rattle.nm_types.proofs.Cases.{none_some, some_is, true_false}
use Rattle.nm_model.specs.definitions.Areas.{AreasAreApart, IsSomePages}
use Rattle.nm_model.specs.definitions.Areas.{is_well_formed}
use Rattle.nm_model.proofs.areas.Apart.{covers_parts, covers_from}
use Rattle.nm_model.proofs.areas.Parted.{Among, All-among, among_over, over_among}
use Rattle.nm_model.proofs.areas.Overs.{get_among, get_not_none}
use Rattle.nm_areas.proofs.Own.{NoneBegins}
use Rattle.nm_model.proofs.areas.Cut.{over_facts}
use Rattle.nm_areas.proofs.Searched.{begun_all, over_all}

-- no area that covers a page number begins before it
abbrev pub NoneReaches : Map (ℕ × ℕ) Area → ℕ → ℕ → Type 0
NoneReaches areas pid at = (a : PlacedArea) → Among a areas → covers a pid at ≡ true → at ≤ a.0.1

-- an area covers all of its page numbers
abbrev pub IsOver : Map (ℕ × ℕ) Area → ℕ → ℕ → Area → Type 0
IsOver areas pid start x = (v : ℕ) → start ≤ v → v < start + x.pages → area_over areas pid v ≡ Some ((pid, start), x)

pub pages_some : (areas : Map (ℕ × ℕ) Area) (pid start : ℕ) (x : Area) → AllByRecursion IsSomePages areas → get spot_cmp areas (pid, start) ≡ Some x → 0 < x.pages
pages_some areas pid start x whole there = All-among IsSomePages areas ((pid, start), x) whole (get_among areas (pid, start) x there)

-- after an area
module _ (areas : Map (ℕ × ℕ) Area) (apart : AreasAreApart areas) (whole : AllByRecursion IsSomePages areas) (pid start : ℕ) (x : Area) (some : 0 < x.pages) (its : IsOver areas pid start x) where
  pub none_within : NoneBegins areas pid (start + 1) (start + x.pages)
  none_within v low high =
      elim (get spot_cmp areas (pid, v)) as (λ o. get spot_cmp areas (pid, v) ≡ o → o ≡ None) [
        | None ↦ λ o. refl
        | Some y ↦ λ o.
            let some = All-among IsSomePages areas ((pid, v), y) whole (get_among areas (pid, v) y o) in
            let mine : PlacedArea = ((pid, v), y) in
            let other : PlacedArea = ((pid, start), x) in
            let one : mine ≡ other = some_is (sym (begun_all areas apart pid v y o v (omega arith) (omega (arith, some))) ∙ its v (omega (arith, low)) high) in
            let same : v ≡ start = ap (λ (a : PlacedArea). a.0.1) one in
            absurd (omega (arith, low, same))
      ] refl

  reaches_none : NoneReaches areas pid (start + x.pages)
  reaches_none a m over =
      let parts = covers_parts a pid (start + x.pages) over in
      elim (nat_lt a.0.1 (start + x.pages)) as (λ b. nat_lt a.0.1 (start + x.pages) ≡ b → start + x.pages ≤ a.0.1) [
        | false ↦ λ b. ltb-false a.0.1 (start + x.pages) b
        | true ↦ λ b.
            let before : a.0.1 < start + x.pages = ltb-true a.0.1 (start + x.pages) b in
            let v = max start a.0.1 in
            let one : a ≡ ((pid, start), x) = some_is (sym (over_among areas pid v a apart m (covers_from a pid v parts.0 (omega arith) (omega (arith, some, before, parts.2)))) ∙ its v (omega arith) (omega (arith, some, before))) in
            let end : a.0.1 + a.1.pages ≡ start + x.pages = ap (λ (a : PlacedArea). a.0.1 + a.1.pages) one in
            absurd (omega (arith, end, parts.2))
      ] refl

  pub none_reaches : (n : ℕ) → n ≡ start → NoneReaches areas pid (n + x.pages)
  none_reaches n is = subst (λ (n : ℕ). NoneReaches areas pid (n + x.pages)) (sym is) reaches_none

module _ (areas : Map (ℕ × ℕ) Area) (pid at : ℕ) (reaches : NoneReaches areas pid at) where
  -- where none begins
  pub none_there : get spot_cmp areas (pid, at) ≡ None → area_over areas pid at ≡ None
  none_there none =
      elim (area_over areas pid at) as (λ o. area_over areas pid at ≡ o → o ≡ None) [
        | None ↦ λ o. refl
        | Some a ↦ λ o.
            let found = among_over areas pid at a o in
            let parts = covers_parts a pid at found.1 in
            let up = reaches a found.0 found.1 in
            let same : a.0.1 ≡ at = omega (arith, up, parts.1) in
            absurd (get_not_none areas a found.0 (ap (λ (k : ℕ × ℕ). get spot_cmp areas k) (λ i. (parts.0 i, same i)) ∙ none))
      ] refl

-- an area that begins there or later, where none begins before a page number
pub begins_from : (areas : Map (ℕ × ℕ) Area) (pid from at start : ℕ) (x : Area) → NoneBegins areas pid from at → from ≤ start → get spot_cmp areas (pid, start) ≡ Some x → at ≤ start
begins_from areas pid from at start x none low there =
    elim (nat_lt start at) as (λ b. nat_lt start at ≡ b → at ≤ start) [
      | true ↦ λ b. absurd (none_some (sym (none start low (ltb-true start at b)) ∙ there))
      | false ↦ λ b. ltb-false start at b
    ] refl

-- a page number without an area
pub hole_first : (areas : Map (ℕ × ℕ) Area) (pid at n : ℕ) → 0 < n → area_over areas pid at ≡ None → is_well_formed areas pid at n ≡ false
hole_first areas pid at zero some none = absurd (omega (arith, some))
hole_first areas pid at (suc n) some none = ap (λ o. is_some o && is_well_formed areas pid (at + 1) n) none

-- .. or one further on
pub hole_within : (areas : Map (ℕ × ℕ) Area) (pid at n v : ℕ) → at ≤ v → v < at + n → area_over areas pid v ≡ None → is_well_formed areas pid at n ≡ false
hole_within areas pid at zero v low high none = absurd (omega (arith, low, high))
hole_within areas pid at (suc n) v low high none =
    elim (nat_lt at v) as (λ b. nat_lt at v ≡ b → is_well_formed areas pid at (suc n) ≡ false) [
      | true ↦ λ b. ap (λ rest. is_some (area_over areas pid at) && rest) (hole_within areas pid (at + 1) n v (omega (arith, ltb-true at v b)) (omega (arith, high)) none) ∙ and-false (is_some (area_over areas pid at))
      | false ↦ λ b.
          let same : at ≡ v = omega (arith, low, ltb-false at v b) in
          ap (λ o. is_some o && is_well_formed areas pid (at + 1) n) (ap (area_over areas pid) same ∙ none)
    ] refl

-- what was looked up as no area is none
pub no_area : (found : Option (ℕ × Area)) (pid : ℕ) (over : Option PlacedArea) → is_some found ≡ false → option_map {U = PlacedArea} (λ a. ((pid, a.0), a.1)) found ≡ over → over ≡ None
no_area None pid over none is = sym is
no_area (Some a) pid over none is = absurd (true_false none)

-- the same areas by another name
module _ (inside areas : Map (ℕ × ℕ) Area) (is : inside ≡ areas) (pid at : ℕ) where
  pub over_inside : (x : Area) → IsOver areas pid at x → IsOver inside pid at x
  over_inside x = subst (λ m. IsOver m pid at x) (sym is)

  pub mapped_inside : (n : ℕ) → is_well_formed inside pid at n ≡ is_well_formed areas pid at n
  mapped_inside n = ap (λ m. is_well_formed m pid at n) is

-- where an area covers a later page number, and begins no later than this one
module _ (areas : Map (ℕ × ℕ) Area) (apart : AreasAreApart areas) (pid at v start : ℕ) (x : Area) (later : at ≤ v) (there : area_over areas pid v ≡ Some ((pid, start), x)) where
  over_earlier : start ≤ at → area_over areas pid at ≡ Some ((pid, start), x)
  over_earlier low = let facts = over_facts pid v areas start x (sym there) in over_all areas apart pid v start x (sym there) at low (omega (arith, later, facts.2))

  pub begin_some : (other : ℕ) (y : Area) → Some ((pid, other), y) ≡ area_over areas pid at → other ≤ start
  begin_some other y over =
      elim (nat_lt start other) as (λ b. nat_lt start other ≡ b → other ≤ start) [
        | false ↦ λ b. ltb-false start other b
        | true ↦ λ b.
            let before : start < other = ltb-true start other b in
            let facts = over_facts pid at areas other y over in
            let mine : PlacedArea = ((pid, other), y) in
            let earlier : PlacedArea = ((pid, start), x) in
            let one : mine ≡ earlier = some_is (over ∙ over_earlier (omega (arith, before, facts.1))) in
            let same : other ≡ start = ap (λ (a : PlacedArea). a.0.1) one in
            absurd (omega (arith, before, same))
      ] refl

  pub begin_none : None ≡ area_over areas pid at → at ≤ start
  begin_none free =
      elim (nat_lt start at) as (λ b. nat_lt start at ≡ b → at ≤ start) [
        | false ↦ λ b. ltb-false start at b
        | true ↦ λ b. let before : start < at = ltb-true start at b in absurd (none_some (free ∙ over_earlier (omega (arith, before))))
      ] refl
