-- Numbers of pages of shared segments.
use Rattle.std.proofs.Common.{◌≡◌, ℕ, suc, ◌+◌, ◌≤◌, ◌<◌, [], ◌∷◌, Bool, true, false, cond, refl, sym, ap, ◌∙◌, arith, length, eq-eqb}
use Rattle.std.specs.Prelude.{Option, Some, None, nat_lt, ◌&&◌, ◌||◌, if◌then◌else◌}
use Rattle.std.specs.Option.{unwrap_or, option_map}
use Rattle.std.specs.List.{AllByRecursion, list_any}
use Rattle.std.specs.Ordering.{nat_cmp, is_eq, eq_by_cmp}
use Rattle.std.specs.Cmp.{nat_cmp_total, tied_itself}
use Rattle.std.proofs.lemmas.Bool.{and_parts, eqb-true, false_from_ne_true}
use Rattle.std.proofs.lemmas.Map.Lookups.{exact_unsigned}
use Rattle.nm_types.specs.declared.page.Page.{Page}
use Rattle.nm_types.specs.declared.area.Area.{Area}
use Rattle.nm_types.specs.declared.area.Segment.{Segment}
use Rattle.nm_types.specs.Map.{Map, get, set, same_page, spot_cmp}
use Rattle.nm_types.specs.State.{PlacedArea, covers, page_of}
use Rattle.nm_types.proofs.Cases.{true_false}
use Rattle.nm_types.proofs.Maps.{equal, get-set}
use Rattle.nm_coverage.specs.declared.step.Step.{Step}
use Rattle.nm_areas.specs.Coverage.{sum_over_areas, IsSteps, IsFlat, IsCoverage, IsWith, of_shared, ends_at, covers_at, ends_of, covers_of, end_of, split_of}
use Rattle.nm_model.specs.definitions.Areas.{is_shared}
use Rattle.nm_model.specs.definitions.Areas.{IsSomePages, shows_segment}
use Rattle.nm_model.specs.definitions.Areas.{shows_page}
use Rattle.nm_model.specs.definitions.Areas.{page_in, segments_left}
use Rattle.nm_areas.proofs.Counted.{areas_flat, areas_few, total_set}
use Rattle.nm_areas.proofs.Private.{get_kept}
use Rattle.nm_coverage.proofs.Orders.{pages_same}
use Rattle.nm_coverage.proofs.Between.{between_parts}
use Rattle.nm_areas.proofs.Steps.{steps_same}

-- ---- at one page

module _ (segments : Map ℕ Segment) where
  pub masked_same : (f g : Page → ℕ) (p : Page) → (is_shared segments p.segment ≡ true → f p ≡ g p) → of_shared segments f p ≡ of_shared segments g p
  masked_same f g p h = elim (is_shared segments p.segment) as (λ b. is_shared segments p.segment ≡ b → (if b then f p else 0) ≡ (if b then g p else 0)) [ true ↦ λ b. h b | false ↦ λ b. refl ] refl

  pub masked_as : (f : Page → ℕ) (p : Page) → is_shared segments p.segment ≡ true → of_shared segments f p ≡ f p
  masked_as f p shared = ap (λ b. if b then f p else 0) shared

  pub masked_add : (f g : Page → ℕ) (p : Page) → of_shared segments (λ q. f q + g q) p ≡ of_shared segments f p + of_shared segments g p
  masked_add f g p = elim (is_shared segments p.segment) as (λ b. (if b then f p + g p else 0) ≡ (if b then f p else 0) + (if b then g p else 0)) [ true ↦ refl | false ↦ omega arith ]

  pub masked_few : (f : Page → ℕ) (p : Page) → of_shared segments f p ≤ f p
  masked_few f p = elim (is_shared segments p.segment) as (λ b. (if b then f p else 0) ≤ f p) [ true ↦ omega arith | false ↦ omega arith ]

  pub masked_flat : (ends covers : Page → ℕ) → IsFlat ends covers → IsFlat (of_shared segments ends) (of_shared segments covers)
  masked_flat ends covers flat = (
    λ s. elim (is_shared segments s) as (λ b. (if b then ends (page_in s 0) else 0) ≡ 0 → (if b then covers (page_in s 0) else 0) ≡ 0) [ true ↦ flat.0 s | false ↦ λ h. refl ],
    λ s i. elim (is_shared segments s) as (λ b. (if b then ends (page_in s (suc i)) else 0) ≡ 0 → (if b then covers (page_in s (suc i)) else 0) ≡ (if b then covers (page_in s i) else 0)) [ true ↦ flat.1 s i | false ↦ λ h. refl ],
  )

  -- a number that only pages of one segment have
  module _ (n : ℕ) (g : Page → ℕ) (away : (p : Page) → (p.segment ≡ n → ⊥) → g p ≡ 0) where
    pub masked_kept : is_shared segments n ≡ true → (p : Page) → of_shared segments g p ≡ g p
    masked_kept shared p =
        elim (is_shared segments p.segment) as (λ b. is_shared segments p.segment ≡ b → (if b then g p else 0) ≡ g p) [
          | true ↦ λ b. refl
          | false ↦ λ b. sym (away p (λ e. true_false (sym shared ∙ ap (is_shared segments) (sym e) ∙ b)))
        ] refl

    pub masked_gone : is_shared segments n ≡ false → (p : Page) → of_shared segments g p ≡ 0
    masked_gone private p =
        elim (is_shared segments p.segment) as (λ b. is_shared segments p.segment ≡ b → (if b then g p else 0) ≡ 0) [
          | true ↦ λ b. away p (λ e. true_false (sym b ∙ ap (is_shared segments) e ∙ private))
          | false ↦ λ b. refl
        ] refl

    pub masked_by : (shared : Bool) → shared ≡ is_shared segments n → (p : Page) → of_shared segments g p ≡ (if shared then g p else 0)
    masked_by true is = masked_kept (sym is)
    masked_by false is = masked_gone (sym is)

-- ---- an area has no number at the pages of another segment

one_none : (b : Bool) → (b ≡ true → ⊥) → ◌≡◌ {A = ℕ} (if b then 1 else 0) 0
one_none true h = absurd (h refl)
one_none false h = refl

module _ (x : Area) (p : Page) (other : p.segment ≡ x.page.segment → ⊥) where
  pub ends_away : ends_of p x ≡ 0
  ends_away =
      let first = one_none (same_page x.page p) (λ k. other (ap (λ (q : Page). q.segment) (sym (pages_same x.page p k)))) in
      let last = one_none (same_page (end_of x) p) (λ k. other (ap (λ (q : Page). q.segment) (sym (pages_same (end_of x) p k)))) in
      omega (arith, first, last)

  pub covers_away : covers_of p x ≡ 0
  covers_away = one_none (shows_page p x) (λ k. other (sym (between_parts x.page.segment x.page.index (x.page.index + x.pages) p k).0))

pub split_away : (pid at : ℕ) (p : Page) (a : PlacedArea) → (p.segment ≡ a.1.page.segment → ⊥) → split_of pid at p a ≡ 0
split_away pid at p a other =
    ap (λ b. if b then 2 else 0) (false_from_ne_true _ (λ k.
    let both = and_parts (covers a pid at) (nat_lt a.0.1 at && same_page (page_of a at) p) k in
    let last = and_parts (nat_lt a.0.1 at) (same_page (page_of a at) p) both.1 in
    other (ap (λ (q : Page). q.segment) (sym (pages_same (page_of a at) p last.1)))))

-- ---- areas of other segments

rest_none : (a b : Bool) → (a || b) ≡ false → b ≡ false
rest_none true b e = absurd (true_false e)
rest_none false b e = e

pub zero_if : (b : Bool) (n : ℕ) → n ≡ 0 → (if b then n else 0) ≡ 0
zero_if true n e = e
zero_if false n e = refl

-- no area shows a segment whose number is above those of all areas
pub none_shows : (n : ℕ) (areas : Map (ℕ × ℕ) Area) → AllByRecursion (λ a. a.1.page.segment < n) areas → list_any (shows_segment n) areas ≡ false
none_shows n [] below = refl
none_shows n (a ∷ areas) below =
    ap (λ b. b || list_any (shows_segment n) areas) (false_from_ne_true (shows_segment n a) (λ k. let same = eqb-true a.1.page.segment n k in let low = below.0 in absurd (omega (arith, same, low))))
    ∙ none_shows n areas below.1

-- a number of areas, which one has at the pages of its own segment alone
module _ (f : Page → Area → ℕ) (away : (p : Page) (x : Area) → (p.segment ≡ x.page.segment → ⊥) → f p x ≡ 0) where
  pub none_at : (p : Page) (areas : Map (ℕ × ℕ) Area) → list_any (shows_segment p.segment) areas ≡ false → sum_over_areas (λ a. f p a.1) areas ≡ 0
  none_at p [] none = refl
  none_at p (a ∷ areas) none =
      let here = away p a.1 (λ e. true_false (sym (ap (λ b. b || list_any (shows_segment p.segment) areas) (eq-eqb a.1.page.segment p.segment (sym e))) ∙ none)) in
      let rest = none_at p areas (rest_none (shows_segment p.segment a) _ none) in
      omega (arith, here, rest)

  -- one more area
  pub masked_set : (segments : Map ℕ Segment) (areas : Map (ℕ × ℕ) Area) (s : ℕ × ℕ) (y : Area) → get spot_cmp areas s ≡ None → (shared : Bool) → shared ≡ is_shared segments y.page.segment → (p : Page)
      → of_shared segments (λ q. sum_over_areas (λ a. f q a.1) areas) p + (if shared then f p y else 0) ≡ of_shared segments (λ q. sum_over_areas (λ a. f q a.1) (set spot_cmp areas s y)) p
  masked_set segments areas s y free shared is p =
      ap (λ n. of_shared segments (λ q. sum_over_areas (λ a. f q a.1) areas) p + n) (sym (masked_by segments y.page.segment (λ q. f q y) (λ q. away q y) shared is p))
      ∙ sym (masked_add segments (λ q. sum_over_areas (λ a. f q a.1) areas) (λ q. f q y) p)
      ∙ masked_same segments (λ q. sum_over_areas (λ a. f q a.1) areas + f q y) (λ q. sum_over_areas (λ a. f q a.1) (set spot_cmp areas s y)) p (λ k. sym (total_set (λ b. f p b.1) areas s y free))

  -- the segments that no area shows may be others
  module _ (old now : Map ℕ Segment) (areas : Map (ℕ × ℕ) Area) (same : (n : ℕ) → list_any (shows_segment n) areas ≡ true → is_shared old n ≡ is_shared now n) where
    pub masked_other : (p : Page) → of_shared old (λ q. sum_over_areas (λ a. f q a.1) areas) p ≡ of_shared now (λ q. sum_over_areas (λ a. f q a.1) areas) p
    masked_other p =
        elim (list_any (shows_segment p.segment) areas) as (λ b. list_any (shows_segment p.segment) areas ≡ b → of_shared old (λ q. sum_over_areas (λ a. f q a.1) areas) p ≡ of_shared now (λ q. sum_over_areas (λ a. f q a.1) areas) p) [
          | true ↦ λ b. ap (λ c. if c then sum_over_areas (λ a. f p a.1) areas else 0) (same p.segment b)
          | false ↦ λ b. let none = none_at p areas b in zero_if (is_shared old p.segment) _ none ∙ sym (zero_if (is_shared now p.segment) _ none)
        ] refl

-- ---- the counts

pub shared_flat : (segments : Map ℕ Segment) (areas : Map (ℕ × ℕ) Area) → IsFlat (of_shared segments (ends_at areas)) (of_shared segments (covers_at areas))
shared_flat segments areas = masked_flat segments (ends_at areas) (covers_at areas) (areas_flat areas)

pub shared_few : (segments : Map ℕ Segment) (areas : Map (ℕ × ℕ) Area) → AllByRecursion IsSomePages areas → (p : Page) → (of_shared segments (ends_at areas) p ≤ length areas) × (of_shared segments (covers_at areas) p ≤ length areas)
shared_few segments areas some p =
    let few = areas_few areas some p in
    let ends = masked_few segments (ends_at areas) p in
    let covers = masked_few segments (covers_at areas) p in
    (omega (arith, few.0, ends), omega (arith, few.1, covers))

-- the segments that no area shows may be others
pub other_covered : (m : Map Page Step) (old now : Map ℕ Segment) (areas : Map (ℕ × ℕ) Area) → ((n : ℕ) → list_any (shows_segment n) areas ≡ true → is_shared old n ≡ is_shared now n) → IsCoverage m old areas → IsCoverage m now areas
other_covered m old now areas same h =
    steps_same m _ _ _ _ h (masked_other ends_of (λ p x. ends_away x p) old now areas same) (masked_other covers_of (λ p x. covers_away x p) old now areas same)

pub left_covered : (m : Map Page Step) (segments : Map ℕ Segment) (areas : Map (ℕ × ℕ) Area) → IsCoverage m segments areas → IsCoverage m (segments_left segments areas) areas
left_covered m segments areas = other_covered m segments (segments_left segments areas) areas (λ n shown. ap (λ o. unwrap_or (option_map (λ (x : Segment). x.shared) o) false) (sym (get_kept areas segments n shown)))

-- another area, over an existing segment or a new one
pub more_covered : (m : Map Page Step) (old now : Map ℕ Segment) (areas : Map (ℕ × ℕ) Area) (s : ℕ × ℕ) (y : Area) (shared : Bool) → get spot_cmp areas s ≡ None → shared ≡ is_shared now y.page.segment
    → ((n : ℕ) → list_any (shows_segment n) areas ≡ true → is_shared old n ≡ is_shared now n) → IsWith m old areas y shared → IsCoverage m now (set spot_cmp areas s y)
more_covered m old now areas s y shared free is same h =
    steps_same m _ _ _ _ h
    (λ p. ap (λ n. n + (if shared then ends_of p y else 0)) (masked_other ends_of (λ q x. ends_away x q) old now areas same p) ∙ masked_set ends_of (λ q x. ends_away x q) now areas s y free shared is p)
    (λ p. ap (λ n. n + (if shared then covers_of p y else 0)) (masked_other covers_of (λ q x. covers_away x q) old now areas same p) ∙ masked_set covers_of (λ q x. covers_away x q) now areas s y free shared is p)

-- a new segment, with a number above those of all areas
module _ (segments : Map ℕ Segment) (next : ℕ) (new : Segment) where
  abbrev shown_segment : Option Segment → Bool
  shown_segment o = unwrap_or (option_map (λ (x : Segment). x.shared) o) false

  pub new_shared : new.shared ≡ is_shared (set nat_cmp segments next new) next
  new_shared = sym (ap shown_segment (get-set nat_cmp_total segments next new next ∙ ap (λ b. cond b (Some new) (get nat_cmp segments next)) (ap is_eq (tied_itself nat_cmp_total next))))

  pub old_shared : (areas : Map (ℕ × ℕ) Area) → AllByRecursion (λ a. a.1.page.segment < next) areas → (n : ℕ) → list_any (shows_segment n) areas ≡ true → is_shared segments n ≡ is_shared (set nat_cmp segments next new) n
  old_shared areas below n shown =
      let other : eq_by_cmp nat_cmp n next ≡ false = false_from_ne_true _ (λ b. true_false (sym shown ∙ ap (λ k. list_any (shows_segment k) areas) (exact_unsigned n next (equal _ b)) ∙ none_shows next areas below)) in
      sym (ap shown_segment (get-set nat_cmp_total segments next new n ∙ ap (λ b. cond b (Some new) (get nat_cmp segments n)) other))

-- what areas have together, counted in two parts
pub masked_parts : (m : Map Page Step) (segments : Map ℕ Segment) (areas left own : Map (ℕ × ℕ) Area) → ((f : PlacedArea → ℕ) → sum_over_areas f areas ≡ sum_over_areas f left + sum_over_areas f own) → IsCoverage m segments areas
    → IsSteps m (of_shared segments (λ p. ends_at left p + ends_at own p)) (of_shared segments (λ p. covers_at left p + covers_at own p))
masked_parts m segments areas left own sum h =
    steps_same m _ _ _ _ h
    (λ p. masked_same segments (ends_at areas) (λ q. ends_at left q + ends_at own q) p (λ k. sum (λ b. ends_of p b.1)))
    (λ p. masked_same segments (covers_at areas) (λ q. covers_at left q + covers_at own q) p (λ k. sum (λ b. covers_of p b.1)))

-- the first of the second part by itself
pub masked_next : (m : Map Page Step) (segments : Map ℕ Segment) (left own rest : Map (ℕ × ℕ) Area) (s : ℕ × ℕ) (x : Area) → ((f : PlacedArea → ℕ) → sum_over_areas f left + sum_over_areas f own ≡ (sum_over_areas f left + sum_over_areas f rest) + f (s, x))
    → IsSteps m (of_shared segments (λ p. ends_at left p + ends_at own p)) (of_shared segments (λ p. covers_at left p + covers_at own p))
    → IsSteps m (of_shared segments (λ p. (ends_at left p + ends_at rest p) + ends_of p x)) (of_shared segments (λ p. (covers_at left p + covers_at rest p) + covers_of p x))
masked_next m segments left own rest s x sum h =
    steps_same m _ _ _ _ h
    (λ p. masked_same segments (λ q. ends_at left q + ends_at own q) (λ q. (ends_at left q + ends_at rest q) + ends_of q x) p (λ k. sum (λ b. ends_of p b.1)))
    (λ p. masked_same segments (λ q. covers_at left q + covers_at own q) (λ q. (covers_at left q + covers_at rest q) + covers_of q x) p (λ k. sum (λ b. covers_of p b.1)))

-- nothing is left of the second part
pub masked_end : (m : Map Page Step) (segments : Map ℕ Segment) (left own : Map (ℕ × ℕ) Area) → own ≡ []
    → IsSteps m (of_shared segments (λ p. ends_at left p + ends_at own p)) (of_shared segments (λ p. covers_at left p + covers_at own p)) → IsCoverage m segments left
masked_end m segments left own none h =
    let alone = λ (f : PlacedArea → ℕ). let zero = ap (sum_over_areas f) none in let sum : sum_over_areas f left + sum_over_areas f own ≡ sum_over_areas f left = omega (arith, zero) in sum in
    steps_same m _ _ _ _ h
    (λ p. masked_same segments (λ q. ends_at left q + ends_at own q) (ends_at left) p (λ k. alone (λ b. ends_of p b.1)))
    (λ p. masked_same segments (λ q. covers_at left q + covers_at own q) (covers_at left) p (λ k. alone (λ b. covers_of p b.1)))
