-- What another policy of a range keeps of all areas.
use Rattle.std.proofs.Common.{◌≡◌, ℕ, ◌+◌, ◌<◌, [], ◌∷◌, true, false, ◌&&◌, cond, refl, sym, ap, subst, ◌∙◌, arith, ◌||◌, ◌≤◌, inl, inr}
use Rattle.std.specs.Prelude.{nat_lt, nat_le, ◌==◌, ◌⊎◌, Bool}
use Rattle.std.specs.List.{AllByRecursion, flat_map, list_any}
use Rattle.std.proofs.lemmas.Bool.{ltb-true, ltb-false}
use Rattle.std.specs.List.Sorted.{IsStrictlySortedBy}
use Rattle.std.specs.Map.{keys_of}
use Rattle.nm_types.specs.declared.page.Page.{Page}
use Rattle.nm_types.specs.declared.area.Policy.{Policy}
use Rattle.nm_types.specs.declared.area.Area.{Area}
use Rattle.nm_types.specs.declared.area.Segment.{Segment}
use Rattle.nm_types.specs.Map.{Map, with_values, spot_cmp}
use Rattle.nm_types.specs.State.{PlacedArea, covers}
use Rattle.nm_model.specs.views.Table.{Table, with_areas}
use Rattle.nm_model.specs.definitions.Areas.{mapping_of, AreasAreApart, IsSomePages, EndsLow, HasIndices, shows_segment, AllShown, PrivateIsOnce, IsWellFormed}
use Rattle.nm_model.specs.definitions.Areas.{parts_outside, parts_with_policy, split_at, with_policy_in}
use Rattle.nm_model.proofs.areas.Apart.{covers_from}
use Rattle.nm_model.proofs.areas.Parted.{All-among, flat_among, part_of, part_there, any_among, among_any}
use Rattle.nm_model.proofs.areas.Painted.{keys_painted}
use Rattle.nm_model.proofs.areas.Shown.{repoliced_shows}
use Rattle.nm_model.proofs.areas.Repoliced.{all_parts, split_some, split_indices, split_apart, split_sorted, all_repoliced}

-- what holds of the areas
pub record IsFine (areas : Map (ℕ × ℕ) Area) : Type 0 where
  pub ordered : IsStrictlySortedBy spot_cmp (keys_of areas)
  pub apart : AreasAreApart areas
  pub whole : AllByRecursion IsSomePages areas
  pub low : AllByRecursion EndsLow areas
  pub indices : AllByRecursion HasIndices areas

pub fine_split : (pid at : ℕ) (areas : Map (ℕ × ℕ) Area) → IsFine areas → IsFine (split_at pid at areas)
fine_split pid at areas fine =
    record {
      ordered = split_sorted pid at areas fine.whole fine.apart fine.ordered;
      apart = split_apart pid at areas fine.whole fine.apart;
      whole = split_some pid at areas fine.whole;
      low = all_parts pid at areas fine.whole EndsLow (λ a b m p. let under : EndsLow a = All-among EndsLow areas a fine.low m in omega (arith, under, p.high));
      indices = split_indices pid at areas fine.whole fine.indices;
    }

-- a segment that is shown is shown by a part
pub shown_split : (pid at : ℕ) (areas : Map (ℕ × ℕ) Area) → AllByRecursion IsSomePages areas → (n : ℕ) → list_any (shows_segment n) areas ≡ true → list_any (shows_segment n) (split_at pid at areas) ≡ true
shown_split pid at areas some n h =
    let found = any_among (shows_segment n) areas h in
    let a = found.0 in
    let has = All-among IsSomePages areas a some found.1 in
    let w = a.0.1 in
    let side : a.0.0 ≡ pid → (w < at) ⊎ (at ≤ w) = λ own. elim (nat_lt w at) as (λ b. nat_lt w at ≡ b → (w < at) ⊎ (at ≤ w)) [ true ↦ λ b. inl (ltb-true w at b) | false ↦ λ b. inr (ltb-false w at b) ] refl in
    let b = part_there pid at at a a.0.0 w (covers_from a a.0.0 w refl (omega arith) (omega (arith, has))) side in
    let part = part_of pid at at a has b.0 b.1 in
    among_any (shows_segment n) (split_at pid at areas) b.0 (flat_among (parts_outside pid at at) areas a b.0 found.1 b.1) (ap (λ (m : ℕ). m == n) part.segment ∙ found.2)

-- parts show pages of the same segments
below_split : (pid at next : ℕ) (areas : Map (ℕ × ℕ) Area) → AllByRecursion IsSomePages areas → AllByRecursion (λ a. a.1.page.segment < next) areas → AllByRecursion (λ a. a.1.page.segment < next) (split_at pid at areas)
below_split pid at next areas some below =
    all_parts pid at areas some (λ a. a.1.page.segment < next) (λ a b m p. let under : a.1.page.segment < next = All-among (λ x. x.1.page.segment < next) areas a below m in omega (arith, under, p.segment))

module _ (pid first end : ℕ) (policy : Policy) where
  abbrev pub paint : ℕ × ℕ → Area → Area
  paint = with_policy_in pid first end policy

  -- what holds whatever the policy
  pub any_policy : (P : Area → Type 0) (k : ℕ × ℕ) (x : Area) → P x → P (record x { policy = policy }) → P (paint k x)
  any_policy P k x p r = elim ((k.0 == pid) && (nat_le first k.1 && nat_lt k.1 end)) as (λ b. P (cond b (record x { policy = policy }) x)) [ true ↦ r | false ↦ p ]

  covers_painted : (e : PlacedArea) (q w : ℕ) → covers (e.0, paint e.0 e.1) q w ≡ covers e q w
  covers_painted e q w = any_policy (λ x. covers (e.0, x) q w ≡ covers e q w) e.0 e.1 refl refl

  pub all_painted : (P Q : PlacedArea → Type 0) → ((e : PlacedArea) → P e → Q (e.0, paint e.0 e.1)) → (areas : Map (ℕ × ℕ) Area) → AllByRecursion P areas → AllByRecursion Q (with_values paint areas)
  all_painted P Q f [] h = tt
  all_painted P Q f (e ∷ areas) h = (f e h.0, all_painted P Q f areas h.1)

  pub apart_painted : (areas : Map (ℕ × ℕ) Area) → AreasAreApart areas → AreasAreApart (with_values paint areas)
  apart_painted [] h = tt
  apart_painted (e ∷ areas) h = (
    all_painted (λ b. (q w : ℕ) → covers e q w ≡ true → covers b q w ≡ false) (λ b. (q w : ℕ) → covers (e.0, paint e.0 e.1) q w ≡ true → covers b q w ≡ false)
        (λ b apart q w c. covers_painted b q w ∙ apart q w (sym (covers_painted e q w) ∙ c)) areas h.0,
    apart_painted areas h.1,
  )

  fine_painted : (areas : Map (ℕ × ℕ) Area) → IsFine areas → IsFine (with_values paint areas)
  fine_painted areas fine =
      record {
        ordered = subst (IsStrictlySortedBy spot_cmp) (sym (keys_painted pid first end policy areas)) fine.ordered;
        apart = apart_painted areas fine.apart;
        whole = all_painted IsSomePages IsSomePages (λ e some. any_policy (λ x. IsSomePages (e.0, x)) e.0 e.1 some some) areas fine.whole;
        low = all_painted EndsLow EndsLow (λ e under. any_policy (λ x. EndsLow (e.0, x)) e.0 e.1 under under) areas fine.low;
        indices = all_painted HasIndices HasIndices (λ e under. any_policy (λ x. HasIndices (e.0, x)) e.0 e.1 under under) areas fine.indices;
      }

  fine_repoliced : (areas : Map (ℕ × ℕ) Area) → first < end → IsFine areas → IsFine (flat_map (parts_with_policy pid first end policy) areas)
  fine_repoliced areas range fine =
      subst IsFine (all_repoliced pid first end policy range areas fine.whole)
      (fine_painted (split_at pid end (split_at pid first areas)) (fine_split pid end (split_at pid first areas) (fine_split pid first areas fine)))

  below_repoliced : (next : ℕ) → first < end → (areas : Map (ℕ × ℕ) Area) → AllByRecursion IsSomePages areas → AllByRecursion (λ a. a.1.page.segment < next) areas → AllByRecursion (λ a. a.1.page.segment < next) (flat_map (parts_with_policy pid first end policy) areas)
  below_repoliced next range areas some below =
      let Low : PlacedArea → Type 0 = λ a. a.1.page.segment < next in
      subst (AllByRecursion Low) (all_repoliced pid first end policy range areas some)
      (all_painted Low Low (λ e under. any_policy (λ x. x.page.segment < next) e.0 e.1 under under) (split_at pid end (split_at pid first areas))
      (below_split pid end next (split_at pid first areas) (split_some pid first areas some) (below_split pid first next areas some below)))

  any_painted : (test : PlacedArea → Bool) → ((e : PlacedArea) → test (e.0, paint e.0 e.1) ≡ test e) → (areas : Map (ℕ × ℕ) Area) → list_any test (with_values paint areas) ≡ list_any test areas
  any_painted test h [] = refl
  any_painted test h (e ∷ areas) = ap (λ b. b || list_any test (with_values paint areas)) (h e) ∙ ap (λ b. test e || b) (any_painted test h areas)

  pub shown_repoliced : first < end → (areas : Map (ℕ × ℕ) Area) → AllByRecursion IsSomePages areas → (n : ℕ) → list_any (shows_segment n) areas ≡ true → list_any (shows_segment n) (flat_map (parts_with_policy pid first end policy) areas) ≡ true
  shown_repoliced range areas some n h =
      ap (list_any (shows_segment n)) (sym (all_repoliced pid first end policy range areas some))
      ∙ any_painted (shows_segment n) (λ e. any_policy (λ x. shows_segment n (e.0, x) ≡ shows_segment n e) e.0 e.1 refl refl) (split_at pid end (split_at pid first areas))
      ∙ shown_split pid end (split_at pid first areas) (split_some pid first areas some) n (shown_split pid first areas some n h)

pub all_shown : (areas now : Map (ℕ × ℕ) Area) → ((n : ℕ) → list_any (shows_segment n) areas ≡ true → list_any (shows_segment n) now ≡ true) → (segments : Map ℕ Segment) → AllShown areas segments → AllShown now segments
all_shown areas now f [] h = tt
all_shown areas now f (e ∷ segments) h = (f e.0 h.0, all_shown areas now f segments h.1)

-- other areas under the same segments
module _ (t : Table) (place : Map Page ℕ) (h : IsWellFormed (mapping_of t place)) where
  pub fine_here : IsFine t.areas
  fine_here = record { ordered = h.ordered; apart = h.apart; whole = h.whole; low = h.low; indices = h.indices }

  pub with_fine : (areas : Map (ℕ × ℕ) Area) → IsFine areas → AllShown areas t.segments → AllByRecursion (λ a. a.1.page.segment < t.next) areas → PrivateIsOnce areas t.segments → IsWellFormed (mapping_of (with_areas t areas) place)
  with_fine areas fine shown below once =
      record {
        ordered = fine.ordered;
        apart = fine.apart;
        whole = fine.whole;
        low = fine.low;
        indices = fine.indices;
        named = h.named;
        below = below;
        numbers = h.numbers;
        lengths = h.lengths;
        shown = shown;
        once = once;
        places = h.places;
      }

  pub policed_mapped : (now : Table) (pid first count : ℕ) (policy : Policy) → 0 < count → now ≡ with_areas t (flat_map (parts_with_policy pid first (first + count) policy) t.areas) → IsWellFormed (mapping_of now place)
  policed_mapped now pid first count policy some is =
      subst (λ (u : Table). IsWellFormed (mapping_of u place)) (sym is)
      (with_fine (flat_map (parts_with_policy pid first (first + count) policy) t.areas) (fine_repoliced pid first (first + count) policy t.areas (omega (arith, some)) fine_here)
      (all_shown t.areas _ (shown_repoliced pid first (first + count) policy (omega (arith, some)) t.areas h.whole) t.segments h.shown)
      (below_repoliced pid first (first + count) policy t.next (omega (arith, some)) t.areas h.whole h.below)
      (λ q v r w p here there private.
      let shows = repoliced_shows pid first (first + count) policy (omega (arith, some)) t.areas h.whole h.apart in
      h.once q v r w p (sym (shows q v) ∙ here) (sym (shows r w) ∙ there) private))
