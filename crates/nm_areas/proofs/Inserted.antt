-- What another area preserves of all areas.
use Rattle.std.proofs.Common.{◌≡◌, ℕ, suc, ◌+◌, ◌≤◌, ◌<◌, ◌^◌, [], ◌∷◌, Bool, true, false, not, cond, refl, sym, subst, ◌∙◌, arith, ◌||◌, eq-eqb}
use Rattle.std.specs.Prelude.{None, Some}
use Rattle.std.specs.List.{AllByRecursion, list_any}
use Rattle.std.specs.Ordering.{nat_cmp, is_eq, match_ordering}
use Rattle.std.specs.Cmp.{nat_cmp_total}
use Rattle.std.specs.declared.cmp.Ordering.TheVariants.{Less, Equal, Greater}
use Rattle.std.proofs.lemmas.Bool.{leb-true, and_parts, or_left, or_right}
use Rattle.std.proofs.lemmas.Map.Lookups.{exact_unsigned}
use Rattle.nm_types.specs.declared.page.Page.{Page}
use Rattle.nm_types.specs.declared.area.Area.{Area}
use Rattle.nm_types.specs.declared.area.Segment.{Segment}
use Rattle.nm_types.specs.Map.{Map, get, set, spot_cmp}
use Rattle.nm_types.specs.State.{PlacedArea}
use Rattle.nm_types.proofs.Cases.{true_false}
use Rattle.nm_model.specs.views.Table.{Table, with_areas}
use Rattle.nm_model.specs.definitions.Areas.{mapping_of, IsSomePages, EndsLow, HasIndices, shows_segment, AllShown, PrivateIsOnce, IsWellFormed}
use Rattle.nm_model.specs.definitions.AreaRefusal.{overlaps, is_stretch}
use Rattle.nm_model.specs.definitions.Areas.{new_area}
use Rattle.nm_model.specs.definitions.Areas.{is_shared}
use Rattle.nm_types.proofs.Maps.{equal, spot_cmp_total}
use Rattle.nm_types.proofs.Keys.{All-set, All-get, sorted-set}
use Rattle.nm_model.proofs.areas.Apart.{NoneOverlaps, one_more, other_key, apart-set, all_from_none, each_set, same_key, all_then}
use Rattle.nm_model.proofs.areas.Policed.{IsFine, with_fine}
use Rattle.nm_areas.proofs.Private.{shared_before, once_more}

-- no entry has a number that is past all of them
pub none_next : {V : Type 0} (m : Map ℕ V) (n : ℕ) → AllByRecursion (λ e. e.0 < n) m → get nat_cmp m n ≡ None
none_next [] n h = refl
none_next (e ∷ m) n h =
    elim (is_eq (nat_cmp n e.0)) as (λ b. is_eq (nat_cmp n e.0) ≡ b → cond b (Some e.1) (get nat_cmp m n) ≡ None) [
      | true ↦ λ b. let same : n ≡ e.0 = exact_unsigned n e.0 (equal _ b) in absurd (omega (arith, same, h.0))
      | false ↦ λ b. none_next m n h.1
    ] refl

all_up : (m : Map ℕ Segment) (n : ℕ) → AllByRecursion (λ e. e.0 < n) m → AllByRecursion (λ e. e.0 < suc n) m
all_up [] n h = tt
all_up (e ∷ m) n h = (omega (arith, h.0), all_up m n h.1)

-- the next number is used
numbers_next : (m : Map ℕ Segment) (n : ℕ) (new : Segment) → AllByRecursion (λ e. e.0 < n) m → AllByRecursion (λ e. e.0 < suc n) (set nat_cmp m n new)
numbers_next [] n new h = (omega arith, tt)
numbers_next (e ∷ m) n new h =
    elim (nat_cmp n e.0) as (λ r. AllByRecursion (λ e. e.0 < suc n) (match_ordering r ((n, new) ∷ e ∷ m) ((e.0, new) ∷ m) (e ∷ set nat_cmp m n new))) [
      | Less ↦ (omega arith, (omega (arith, h.0), all_up m n h.1))
      | Equal ↦ (omega (arith, h.0), all_up m n h.1)
      | Greater ↦ (omega (arith, h.0), numbers_next m n new h.1)
    ]

not_true : (b : Bool) → true ≡ not b → b ≡ false
not_true true h = cc
not_true false h = refl

-- another area
module _ (t : Table) (place : Map Page ℕ) (h : IsWellFormed (mapping_of t place)) (pid first : ℕ) (new : Area) (some : 0 < new.pages) (low : first + new.pages ≤ 2 ^ 35) (index : new.page.index + new.pages < 2 ^ 64)
    (free : true ≡ not (list_any (overlaps pid first (first + new.pages)) t.areas)) where
  -- what an area showed is still shown
  any_more : (test : PlacedArea → Bool) (areas : Map (ℕ × ℕ) Area) → AllByRecursion IsSomePages areas → NoneOverlaps pid first new areas → list_any test areas ≡ true → list_any test (set spot_cmp areas (pid, first) new) ≡ true
  any_more test [] each none h = cc
  any_more test (a ∷ areas) each none h =
      elim (spot_cmp (pid, first) a.0) as (λ r. spot_cmp (pid, first) a.0 ≡ r → list_any test (match_ordering r (one_more pid first new ∷ a ∷ areas) ((a.0, new) ∷ areas) (a ∷ set spot_cmp areas (pid, first) new)) ≡ true) [
        | Less ↦ λ r. or_right _ _ h
        | Equal ↦ λ r. absurd (other_key pid first new a each.0 some none.0 r)
        | Greater ↦ λ r. elim (test a) as (λ b. (b || list_any test areas) ≡ true → (b || list_any test (set spot_cmp areas (pid, first) new)) ≡ true) [
          | true ↦ λ k. refl
          | false ↦ λ k. any_more test areas each.1 none.1 k
        ] h
      ] refl

  shown_more : (segments : Map ℕ Segment) → AllShown t.areas segments → AllShown (set spot_cmp t.areas (pid, first) new) segments
  shown_more [] s = tt
  shown_more (e ∷ segments) s =
      (any_more (shows_segment e.0) t.areas h.whole (all_from_none t.areas (overlaps pid first (first + new.pages)) (not_true _ free)) s.0, shown_more segments s.1)

  none_overlaps : NoneOverlaps pid first new t.areas
  none_overlaps = all_from_none t.areas (overlaps pid first (first + new.pages)) (not_true _ free)

  pub fine_more : IsFine (set spot_cmp t.areas (pid, first) new)
  fine_more =
      record {
        ordered = sorted-set spot_cmp spot_cmp_total t.areas (pid, first) new h.ordered;
        apart = apart-set pid first new t.areas some h.whole none_overlaps h.apart;
        whole = each_set pid first new IsSomePages t.areas (λ a k. some) some h.whole;
        low = each_set pid first new EndsLow t.areas (λ a k. subst EndsLow (sym (same_key pid first new a k)) low) low h.low;
        indices = each_set pid first new HasIndices t.areas (λ a k. index) index h.indices;
      }

  pub below_more : (next : ℕ) → t.next ≤ next → new.page.segment < next → AllByRecursion (λ a. a.1.page.segment < next) (set spot_cmp t.areas (pid, first) new)
  below_more next up under =
      each_set pid first new (λ a. a.1.page.segment < next) t.areas (λ a k. under) under
      (all_then t.areas (λ a. a.1.page.segment < t.next) (λ a. a.1.page.segment < next) (λ a k. omega (arith, k, up)) h.below)

  pub once_with : (segments : Map ℕ Segment) → ((n : ℕ) → n < t.next → is_shared segments n ≡ is_shared t.segments n) → (is_shared segments new.page.segment ≡ false → new.page.segment < t.next → ⊥)
      → PrivateIsOnce (set spot_cmp t.areas (pid, first) new) segments
  once_with segments same alone = once_more pid first new t.areas some h.whole none_overlaps t.segments segments t.next h.below same alone h.once

  pub attached_mapped : (now : Table) → is_shared t.segments new.page.segment ≡ true → new.page.segment < t.next → now ≡ with_areas t (set spot_cmp t.areas (pid, first) new) → IsWellFormed (mapping_of now place)
  attached_mapped now shared under is =
      subst (λ (u : Table). IsWellFormed (mapping_of u place)) (sym is)
      (with_fine t place h (set spot_cmp t.areas (pid, first) new) fine_more (shown_more t.segments h.shown) (below_more t.next (omega arith) under)
      (once_with t.segments (λ n k. refl) (λ private k. true_false (sym shared ∙ private))))

-- the new area is there
new_there : (test : PlacedArea → Bool) (pid first : ℕ) (new : Area) → test ((pid, first), new) ≡ true → (areas : Map (ℕ × ℕ) Area) → list_any test (set spot_cmp areas (pid, first) new) ≡ true
new_there test pid first new h [] = or_left _ _ h
new_there test pid first new h (a ∷ areas) =
    elim (spot_cmp (pid, first) a.0) as (λ r. spot_cmp (pid, first) a.0 ≡ r → list_any test (match_ordering r (((pid, first), new) ∷ a ∷ areas) ((a.0, new) ∷ areas) (a ∷ set spot_cmp areas (pid, first) new)) ≡ true) [
      | Less ↦ λ r. or_left _ _ h
      | Equal ↦ λ r. or_left _ _ (subst (λ x. test x ≡ true) (sym (same_key pid first new a r)) h)
      | Greater ↦ λ r. or_right _ _ (new_there test pid first new h areas)
    ] refl

all_with : (areas : Map (ℕ × ℕ) Area) (segments : Map ℕ Segment) (n : ℕ) (segment : Segment) → list_any (shows_segment n) areas ≡ true → AllShown areas segments → AllShown areas (set nat_cmp segments n segment)
all_with areas [] n segment new h = (new, tt)
all_with areas (e ∷ segments) n segment new h =
    elim (nat_cmp n e.0) as (λ r. AllShown areas (match_ordering r ((n, segment) ∷ e ∷ segments) ((e.0, segment) ∷ segments) (e ∷ set nat_cmp segments n segment))) [
      | Less ↦ (new, h)
      | Equal ↦ h
      | Greater ↦ (h.0, all_with areas segments n segment new h.1)
    ]

-- another segment, and an area over it
pub inserted_mapped : (t now : Table) (place : Map Page ℕ) (pid first pages : ℕ) (shared : Bool) → IsWellFormed (mapping_of t place) → 0 < pages → first + pages ≤ 2 ^ 35 → true ≡ not (list_any (overlaps pid first (first + pages)) t.areas)
    → now ≡ record {
      areas = set spot_cmp t.areas (pid, first) (new_area t.next 0 pages);
      segments = set nat_cmp t.segments t.next (record { pages = pages; shared = shared });
      next = suc t.next;
    }
    → IsWellFormed (mapping_of now place)
inserted_mapped t now place pid first pages shared h some low free is =
    let segment : Segment = record { pages = pages; shared = shared } in
    let new = new_area t.next 0 pages in
    let more = fine_more t place h pid first new some low (omega (arith, low)) free in
    subst (λ (u : Table). IsWellFormed (mapping_of u place)) (sym is) (record {
      ordered = more.ordered;
      apart = more.apart;
      whole = more.whole;
      low = more.low;
      indices = more.indices;
      named = sorted-set nat_cmp nat_cmp_total t.segments t.next segment h.named;
      below = below_more t place h pid first new some low (omega (arith, low)) free (suc t.next) (omega arith) (omega arith);
      numbers = numbers_next t.segments t.next segment h.numbers;
      lengths = All-set nat_cmp (λ (q : Segment). q.pages ≤ 2 ^ 35) t.segments t.next segment h.lengths (omega (arith, low));
      shown = all_with _ t.segments t.next segment (new_there (shows_segment t.next) pid first new (eq-eqb t.next t.next refl) t.areas) (shown_more t place h pid first new some low (omega (arith, low)) free t.segments h.shown);
      once = once_with t place h pid first new some low (omega (arith, low)) free (set nat_cmp t.segments t.next segment) (λ n k. shared_before t.segments t.next n segment k) (λ private k. absurd (omega (arith, k)));
      places = h.places;
    })

-- a stretch of a segment ends where the segment does
pub stretch_ends : (m : Map ℕ Segment) (number offset pages : ℕ) → AllByRecursion (λ e. e.1.pages ≤ 2 ^ 35) m → true ≡ is_stretch (get nat_cmp m number) offset pages → offset + pages < 2 ^ 64
stretch_ends m number offset pages h is =
    elim (get nat_cmp m number) as (λ o. get nat_cmp m number ≡ o → true ≡ is_stretch o offset pages → offset + pages < 2 ^ 64) [
      | None ↦ λ o k. cc
      | Some segment ↦ λ o k.
          let few : segment.pages ≤ 2 ^ 35 = All-get nat_cmp (λ (q : Segment). q.pages ≤ 2 ^ 35) m number segment h o in
          let ends : offset + pages ≤ segment.pages = leb-true (offset + pages) segment.pages (and_parts segment.shared _ (sym k)).1 in
          omega (arith, few, ends)
    ] refl is
