-- What areas show after a change.
use Rattle.std.proofs.Common.{◌≡◌, ℕ, ◌+◌, ◌≤◌, ◌<◌, [], ◌∷◌, Bool, true, false, ◌&&◌, not, cond, refl, sym, ap, ◌∙◌, arith, inl, inr, eq-eqb}
use Rattle.std.specs.Prelude.{Some, None, nat_lt, nat_le, ◌==◌, ◌⊎◌, if◌then◌else◌}
use Rattle.std.specs.List.{AllByRecursion, flat_map, list_any}
use Rattle.std.proofs.lemmas.Bool.{and_parts, and_from, eqb-true, leb-true, ltb-true, ltb-false, le-leb}
use Rattle.nm_types.specs.declared.page.Page.{Page}
use Rattle.nm_types.specs.declared.area.Policy.{Policy}
use Rattle.nm_types.specs.declared.area.Area.{Area}
use Rattle.nm_types.specs.Map.{Map, set, with_values, spot_cmp}
use Rattle.nm_types.specs.State.{covers, area_over, page_shown, page_at}
use Rattle.nm_types.proofs.Cases.{true_false, none_some}
use Rattle.nm_model.specs.views.Table.{Table}
use Rattle.nm_model.specs.definitions.Areas.{AreasAreApart, IsSomePages, mapping_of, IsWellFormed, over_with, parts_outside}
use Rattle.nm_model.specs.definitions.AreaRefusal.{overlaps}
use Rattle.nm_model.specs.definitions.Areas.{parts_with_policy, split_at, with_policy_in, areas_left, begins_in}
use Rattle.nm_model.proofs.areas.Apart.{all_from_none, area_over-set, covers_parts}
use Rattle.nm_model.proofs.areas.Parted.{All-among, among_over, over_among, among_flat, flat_among, part_of, part_covers, part_page, part_there}
use Rattle.nm_model.proofs.areas.Halves.{flat_apart}
use Rattle.nm_model.proofs.areas.Repoliced.{split_some, split_apart, all_repoliced}

-- ---- without a range

module _ (pid first end : ℕ) (range : first ≤ end) (areas : Map (ℕ × ℕ) Area) (some : AllByRecursion IsSomePages areas) (apart : AreasAreApart areas) where
  -- what is not between is still shown
  pub left_outside : (q w : ℕ) → (q ≡ pid → (w < first) ⊎ (end ≤ w)) → page_at (areas_left areas pid first end) q w ≡ page_at areas q w
  left_outside q w out =
      elim (area_over areas q w) as (λ o. area_over areas q w ≡ o → page_at (areas_left areas pid first end) q w ≡ page_shown o w) [
        | Some a ↦ λ o.
            let found = among_over areas q w a o in
            let b = part_there pid first end a q w found.1 out in
            let part = part_of pid first end a (All-among IsSomePages areas a some found.0) b.0 b.1 in
            let m = flat_among (parts_outside pid first end) areas a b.0 found.0 b.1 in
            ap (λ o. page_shown o w) (over_among (areas_left areas pid first end) q w b.0 (flat_apart pid first end range areas some apart) m b.2) ∙ ap Some (part_page pid first end a b.0 q w part b.2)
        | None ↦ λ o. elim (area_over (areas_left areas pid first end) q w) as (λ r. area_over (areas_left areas pid first end) q w ≡ r → page_shown r w ≡ None) [
          | None ↦ λ r. refl
          | Some b ↦ λ r.
              let found = among_over (areas_left areas pid first end) q w b r in
              let from = among_flat (parts_outside pid first end) areas b found.0 in
              let part = part_of pid first end from.0 (All-among IsSomePages areas from.0 some from.1) b from.2 in
              absurd (none_some (sym o ∙ over_among areas q w from.0 apart from.1 (part_covers pid first end from.0 b q w part found.1)))
        ] refl
      ] refl

  -- and nothing between
  pub left_between : (w : ℕ) → first ≤ w → w < end → page_at (areas_left areas pid first end) pid w ≡ None
  left_between w low high =
      elim (area_over (areas_left areas pid first end) pid w) as (λ r. area_over (areas_left areas pid first end) pid w ≡ r → page_shown r w ≡ None) [
        | None ↦ λ r. refl
        | Some b ↦ λ r.
            let found = among_over (areas_left areas pid first end) pid w b r in
            let from = among_flat (parts_outside pid first end) areas b found.0 in
            let part = part_of pid first end from.0 (All-among IsSomePages areas from.0 some from.1) b from.2 in
            let parts = covers_parts b pid w found.1 in
            elim (part.outside (sym part.process ∙ parts.0)) as (λ _. page_shown (Some b) w ≡ None) [
              | inl k ↦ absurd (omega (arith, k, low, parts.2))
              | inr k ↦ absurd (omega (arith, k, high, parts.1))
            ]
      ] refl

  -- both at once
  pub left_shows : (q w : ℕ) → page_at (areas_left areas pid first end) q w ≡ (if begins_in pid first end (q, w) then None else page_at areas q w)
  left_shows q w =
      elim (begins_in pid first end (q, w)) as (λ b. begins_in pid first end (q, w) ≡ b → page_at (areas_left areas pid first end) q w ≡ (if b then None else page_at areas q w)) [
        | true ↦ λ b.
            let both = and_parts (q == pid) (nat_le first w && nat_lt w end) b in
            let ends = and_parts (nat_le first w) (nat_lt w end) both.1 in
            ap (λ (p : ℕ). page_at (areas_left areas pid first end) p w) (eqb-true q pid both.0) ∙ left_between w (leb-true first w ends.0) (ltb-true w end ends.1)
        | false ↦ λ b.
            left_outside q w (λ own. elim (nat_lt w first) as (λ c. nat_lt w first ≡ c → (w < first) ⊎ (end ≤ w)) [
              | true ↦ λ c. inl (ltb-true w first c)
              | false ↦ λ c. elim (nat_lt w end) as (λ d. nat_lt w end ≡ d → (w < first) ⊎ (end ≤ w)) [
                | false ↦ λ d. inr (ltb-false w end d)
                | true ↦ λ d.
                    let low : first ≤ w = ltb-false w first c in
                    absurd (true_false (sym (and_from _ _ (eq-eqb q pid own) (and_from _ _ (le-leb first w low) d)) ∙ b))
              ] refl
            ] refl)
      ] refl

-- ---- with another policy

pub either_side : (pid at q w : ℕ) → q ≡ pid → (w < at) ⊎ (at ≤ w)
either_side pid at q w own = elim (nat_lt w at) as (λ b. nat_lt w at ≡ b → (w < at) ⊎ (at ≤ w)) [ true ↦ λ b. inl (ltb-true w at b) | false ↦ λ b. inr (ltb-false w at b) ] refl

-- areas that are split show what they showed
pub split_shows : (pid at : ℕ) (areas : Map (ℕ × ℕ) Area) → AllByRecursion IsSomePages areas → AreasAreApart areas → (q w : ℕ) → page_at (split_at pid at areas) q w ≡ page_at areas q w
split_shows pid at areas some apart q w = left_outside pid at at (omega arith) areas some apart q w (either_side pid at q w)

module _ (pid first end : ℕ) (policy : Policy) where
  pub painted_shows : (areas : Map (ℕ × ℕ) Area) (q w : ℕ) → page_at (with_values (with_policy_in pid first end policy) areas) q w ≡ page_at areas q w
  painted_shows [] q w = refl
  painted_shows (e ∷ areas) q w =
      elim (begins_in pid first end e.0) as (λ t. page_shown (cond (covers (e.0, cond t (record (e.1) { policy = policy }) e.1) q w) (Some (e.0, cond t (record (e.1) { policy = policy }) e.1)) (area_over (with_values (with_policy_in pid first end policy) areas) q w)) w
      ≡ page_shown (cond (covers e q w) (Some e) (area_over areas q w)) w) [
        | true ↦ elim (covers e q w) as (λ b. page_shown (cond b (Some (e.0, record (e.1) { policy = policy })) (area_over (with_values (with_policy_in pid first end policy) areas) q w)) w ≡ page_shown (cond b (Some e) (area_over areas q w)) w) [ true ↦ refl | false ↦ painted_shows areas q w ]
        | false ↦ elim (covers e q w) as (λ b. page_shown (cond b (Some e) (area_over (with_values (with_policy_in pid first end policy) areas) q w)) w ≡ page_shown (cond b (Some e) (area_over areas q w)) w) [ true ↦ refl | false ↦ painted_shows areas q w ]
      ]

  -- and those with another policy
  pub repoliced_shows : first < end → (areas : Map (ℕ × ℕ) Area) → AllByRecursion IsSomePages areas → AreasAreApart areas → (q w : ℕ) → page_at (flat_map (parts_with_policy pid first end policy) areas) q w ≡ page_at areas q w
  repoliced_shows range areas some apart q w =
      let once = split_at pid first areas in
      ap (λ es. page_at es q w) (sym (all_repoliced pid first end policy range areas some)) ∙ painted_shows (split_at pid end once) q w
      ∙ split_shows pid end once (split_some pid first areas some) (split_apart pid first areas some apart) q w ∙ split_shows pid first areas some apart q w

-- ---- with one area more

not_true : (b : Bool) → true ≡ not b → b ≡ false
not_true true h = cc
not_true false h = refl

pub over_more : (t now : Table) (place : Map Page ℕ) (pid first address : ℕ) (new : Area) → IsWellFormed (mapping_of t place) → 0 < new.pages → first ≡ address → true ≡ not (list_any (overlaps pid first (first + new.pages)) t.areas)
    → now.areas ≡ set spot_cmp t.areas (pid, first) new → (q v : ℕ) → area_over now.areas q v ≡ over_with t.areas ((pid, address), new) q v
over_more t now place pid first address new h some at free is q v =
    ap (λ es. area_over es q v) is ∙ area_over-set pid first new t.areas q v some h.whole (all_from_none t.areas (overlaps pid first (first + new.pages)) (not_true _ free))
    ∙ ap (λ (n : ℕ). over_with t.areas ((pid, n), new) q v) at
