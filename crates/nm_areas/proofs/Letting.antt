-- What is left when a process unmaps a range of page numbers, from the areas split at both ends.
use Rattle.std.proofs.Common.{◌≡◌, ℕ, ◌+◌, ◌-◌, ◌≤◌, ◌<◌, List, [], ◌∷◌, ◌++◌, Bool, true, false, not, ◌&&◌, cond, refl, sym, ap, subst, ◌∙◌, arith, append-nil, eq-eqb}
use Rattle.std.specs.Prelude.{nat_lt, nat_le, ◌==◌, min, max, if◌then◌else◌}
use Rattle.std.specs.List.{AllByRecursion, list_any, filter, flat_map, fold}
use Rattle.std.specs.List.Sorted.{IsStrictlySortedBy}
use Rattle.std.specs.Map.{keys_of}
use Rattle.std.specs.Ordering.{nat_cmp}
use Rattle.std.proofs.lemmas.Bool.{eqb-true, leb-true, ltb-true, ltb-false, and_parts, and_from, le-leb, lt-ltb, false_from_ne_true}
use Rattle.std.proofs.lemmas.List.Elements.{filter-append}
use Rattle.std.proofs.lemmas.Grind.{flat_map-append}
use Rattle.nm_types.specs.declared.page.Page.{Page}
use Rattle.nm_types.specs.declared.area.Policy.TheVariants.{Default}
use Rattle.nm_types.specs.declared.area.Area.{Area}
use Rattle.nm_types.specs.declared.area.Segment.{Segment}
use Rattle.nm_types.specs.Map.{Map, with_values, without, page_cmp}
use Rattle.nm_types.specs.State.{PlacedArea}
use Rattle.nm_model.specs.views.Table.{Table, with_areas}
use Rattle.nm_model.specs.definitions.Areas.{Mapping, mapping_of, IsSomePages, EndsLow, HasIndices, shows_segment, AllShown, IsWellFormed}
use Rattle.nm_model.specs.definitions.Areas.{pages_from, pages_between, before, behind, parts_outside, is_covered}
use Rattle.nm_model.specs.definitions.Areas.{inside, parts_with_policy, split_at, with_policy_in}
use Rattle.nm_model.specs.definitions.Areas.{areas_left, segments_left, pages_gone, place_left, all_lost, after_removal, frames_lost, begins_in, is_own, others, without_own, pages_of_area, pages_of_own}
use Rattle.nm_types.proofs.Keys.{sorted-without}
use Rattle.nm_model.proofs.areas.Parted.{All-among, all_from_among, among_flat, IsPart, part_of}
use Rattle.nm_model.proofs.areas.Halves.{flat_apart, flat_sorted}
use Rattle.nm_model.proofs.areas.Repoliced.{split_some, all_repoliced}
use Rattle.nm_model.proofs.areas.Policed.{fine_split, fine_here, shown_split, all_shown}
use Rattle.nm_areas.proofs.Private.{once_left}

module _ (pid first end : ℕ) where
  abbrev is_other : PlacedArea → Bool
  is_other a = not (is_own pid first end a)

  abbrev pages_of : PlacedArea → List Page
  pages_of a = pages_of_area a.1

  outside : (k : ℕ × ℕ) → (k.0 ≡ pid → first ≤ k.1 → k.1 < end → ⊥) → begins_in pid first end k ≡ false
  outside k out = false_from_ne_true (begins_in pid first end k) (λ h.
      let both = and_parts (k.0 == pid) (nat_le first k.1 && nat_lt k.1 end) h in
      let ends = and_parts (nat_le first k.1) (nat_lt k.1 end) both.1 in
      out (eqb-true k.0 pid both.0) (leb-true first k.1 ends.0) (ltb-true k.1 end ends.1))

  -- ---- a policy makes no difference

  others_painted : (areas : Map (ℕ × ℕ) Area) → others pid first end (with_values (with_policy_in pid first end Default) areas) ≡ others pid first end areas
  others_painted [] = refl
  others_painted (e ∷ areas) =
      elim (begins_in pid first end e.0) as (λ b. cond (not b) ((e.0, cond b (record (e.1) { policy = Default }) e.1) ∷ others pid first end (with_values (with_policy_in pid first end Default) areas)) (others pid first end (with_values (with_policy_in pid first end Default) areas))
      ≡ cond (not b) (e ∷ others pid first end areas) (others pid first end areas)) [
        | true ↦ others_painted areas
        | false ↦ ap (λ l. e ∷ l) (others_painted areas)
      ]

  own_painted : (areas : Map (ℕ × ℕ) Area) → pages_of_own pid first end (with_values (with_policy_in pid first end Default) areas) ≡ pages_of_own pid first end areas
  own_painted [] = refl
  own_painted (e ∷ areas) =
      let rest = filter (is_own pid first end) (with_values (with_policy_in pid first end Default) areas) in
      elim (begins_in pid first end e.0) as (λ b. flat_map pages_of (cond b ((e.0, cond b (record (e.1) { policy = Default }) e.1) ∷ rest) rest) ≡ flat_map pages_of (cond b (e ∷ filter (is_own pid first end) areas) (filter (is_own pid first end) areas))) [
        | true ↦ ap (λ l. pages_of e ++ l) (own_painted areas)
        | false ↦ own_painted areas
      ]

  -- ---- the parts of one area

  keep : (a : PlacedArea) → begins_in pid first end a.0 ≡ false → (filter is_other (a ∷ []) ≡ a ∷ []) × (filter (is_own pid first end) (a ∷ []) ≡ [])
  keep a h = (ap (λ b. cond (not b) (a ∷ []) []) h, ap (λ b. cond b (a ∷ []) []) h)

  abbrev IsKept : List PlacedArea → Type 0
  IsKept areas = (filter is_other areas ≡ areas) × (filter (is_own pid first end) areas ≡ [])

  before_kept : (a : PlacedArea) → IsKept (before first a)
  before_kept a =
      let cut : PlacedArea = (a.0, record (a.1) { pages = min a.1.pages (first - a.0.1) }) in
      elim (nat_lt a.0.1 first) as (λ b. nat_lt a.0.1 first ≡ b → IsKept (cond b (cut ∷ []) [])) [
        | true ↦ λ b. let less : a.0.1 < first = ltb-true a.0.1 first b in keep cut (outside a.0 (λ p low high. omega (arith, low, less)))
        | false ↦ λ b. (refl, refl)
      ] refl

  behind_kept : (a : PlacedArea) → IsKept (behind end a)
  behind_kept a =
      let from = max end a.0.1 in
      let page : Page = record { segment = a.1.page.segment; index = a.1.page.index + (from - a.0.1) } in
      let rest : Area = record (a.1) { pages = (a.0.1 + a.1.pages) - from; page = page } in
      elim (nat_lt from (a.0.1 + a.1.pages)) as (λ b. IsKept (cond b (((a.0.0, from), rest) ∷ []) [])) [
        | true ↦ keep ((a.0.0, from), rest) (outside (a.0.0, from) (λ p low high. omega (arith, high)))
        | false ↦ (refl, refl)
      ]

  inside_goes : (a : PlacedArea) → a.0.0 ≡ pid → (filter is_other (inside first end Default a) ≡ []) × (flat_map pages_of (filter (is_own pid first end) (inside first end Default a)) ≡ pages_between first end a)
  inside_goes a own =
      let from = max first a.0.1 in
      let last = min end (a.0.1 + a.1.pages) in
      let page : Page = record { segment = a.1.page.segment; index = a.1.page.index + (from - a.0.1) } in
      let part : Area = record { pages = last - from; policy = Default; page = page } in
      elim (nat_lt from last) as (λ b. nat_lt from last ≡ b → (filter is_other (cond b (((a.0.0, from), part) ∷ []) []) ≡ []) × (flat_map pages_of (filter (is_own pid first end) (cond b (((a.0.0, from), part) ∷ []) [])) ≡ pages_between first end a)) [
        | true ↦ λ b.
            let less : from < last = ltb-true from last b in
            let is : begins_in pid first end (a.0.0, from) ≡ true = and_from _ _ (eq-eqb a.0.0 pid own) (and_from _ _ (le-leb first from (omega arith)) (lt-ltb from end (omega (arith, less)))) in (
              ap (λ c. cond (not c) (((a.0.0, from), part) ∷ []) []) is,
              ap (λ c. flat_map pages_of (cond c (((a.0.0, from), part) ∷ []) [])) is ∙ append-nil (pages_between first end a),
            )
        | false ↦ λ b.
            let more : last ≤ from = ltb-false from last b in
            let none : 0 ≡ last - from = omega (arith, more) in
            (refl, ap (λ k. pages_from a.1.page.segment (a.1.page.index + (from - a.0.1)) k) none)
      ] refl

  -- what is before, inside and after
  three_others : (xs ys zs : List PlacedArea) → IsKept xs → filter is_other ys ≡ [] → IsKept zs → filter is_other ((xs ++ ys) ++ zs) ≡ xs ++ zs
  three_others xs ys zs x y z =
      filter-append is_other (xs ++ ys) zs
      ∙ ap (λ l. l ++ filter is_other zs) (filter-append is_other xs ys ∙ ap (λ l. l ++ filter is_other ys) x.0 ∙ ap (λ l. xs ++ l) y ∙ append-nil xs)
      ∙ ap (λ l. xs ++ l) z.0

  three_own : (xs ys zs : List PlacedArea) → IsKept xs → IsKept zs → flat_map pages_of (filter (is_own pid first end) ((xs ++ ys) ++ zs)) ≡ flat_map pages_of (filter (is_own pid first end) ys)
  three_own xs ys zs x z =
      ap (flat_map pages_of) (filter-append (is_own pid first end) (xs ++ ys) zs ∙ ap (λ l. filter (is_own pid first end) (xs ++ ys) ++ l) z.1 ∙ append-nil (filter (is_own pid first end) (xs ++ ys))
      ∙ filter-append (is_own pid first end) xs ys ∙ ap (λ l. l ++ filter (is_own pid first end) ys) x.1)

  one_other : (a : PlacedArea) → filter is_other (parts_with_policy pid first end Default a) ≡ parts_outside pid first end a
  one_other a =
      elim (a.0.0 == pid) as (λ b. (a.0.0 == pid) ≡ b → filter is_other (cond b (before first a ++ inside first end Default a ++ behind end a) (a ∷ [])) ≡ cond b (before first a ++ behind end a) (a ∷ [])) [
        | true ↦ λ b. three_others (before first a) (inside first end Default a) (behind end a) (before_kept a) (inside_goes a (eqb-true a.0.0 pid b)).0 (behind_kept a)
        | false ↦ λ b. (keep a (ap (λ c. c && (nat_le first a.0.1 && nat_lt a.0.1 end)) b)).0
      ] refl

  one_own : (a : PlacedArea) → flat_map pages_of (filter (is_own pid first end) (parts_with_policy pid first end Default a)) ≡ cond (a.0.0 == pid) (pages_between first end a) []
  one_own a =
      elim (a.0.0 == pid) as (λ b. (a.0.0 == pid) ≡ b → flat_map pages_of (filter (is_own pid first end) (cond b (before first a ++ inside first end Default a ++ behind end a) (a ∷ []))) ≡ cond b (pages_between first end a) []) [
        | true ↦ λ b. three_own (before first a) (inside first end Default a) (behind end a) (before_kept a) (behind_kept a) ∙ (inside_goes a (eqb-true a.0.0 pid b)).1
        | false ↦ λ b. ap (flat_map pages_of) (keep a (ap (λ c. c && (nat_le first a.0.1 && nat_lt a.0.1 end)) b)).1
      ] refl

  -- ---- all areas

  all_others : (areas : Map (ℕ × ℕ) Area) → others pid first end (flat_map (parts_with_policy pid first end Default) areas) ≡ areas_left areas pid first end
  all_others [] = refl
  all_others (a ∷ areas) =
      filter-append is_other (parts_with_policy pid first end Default a) (flat_map (parts_with_policy pid first end Default) areas)
      ∙ ap (λ l. l ++ others pid first end (flat_map (parts_with_policy pid first end Default) areas)) (one_other a) ∙ ap (λ l. parts_outside pid first end a ++ l) (all_others areas)

  all_own : (areas : Map (ℕ × ℕ) Area) → pages_of_own pid first end (flat_map (parts_with_policy pid first end Default) areas) ≡ pages_gone areas pid first end
  all_own [] = refl
  all_own (a ∷ areas) =
      let gone = filter (λ x. x.0.0 == pid) areas in
      ap (flat_map pages_of) (filter-append (is_own pid first end) (parts_with_policy pid first end Default a) (flat_map (parts_with_policy pid first end Default) areas))
      ∙ flat_map-append pages_of (filter (is_own pid first end) (parts_with_policy pid first end Default a)) (filter (is_own pid first end) (flat_map (parts_with_policy pid first end Default) areas))
      ∙ ap (λ l. l ++ pages_of_own pid first end (flat_map (parts_with_policy pid first end Default) areas)) (one_own a) ∙ ap (λ l. cond (a.0.0 == pid) (pages_between first end a) [] ++ l) (all_own areas)
      ∙ elim (a.0.0 == pid) as (λ b. cond b (pages_between first end a) [] ++ flat_map (pages_between first end) gone ≡ flat_map (pages_between first end) (cond b (a ∷ gone) gone)) [ true ↦ refl | false ↦ refl ]

  abbrev cut_both : Map (ℕ × ℕ) Area → Map (ℕ × ℕ) Area
  cut_both areas = split_at pid end (split_at pid first areas)

  pub cut_others : first < end → (areas : Map (ℕ × ℕ) Area) → AllByRecursion IsSomePages areas → others pid first end (cut_both areas) ≡ areas_left areas pid first end
  cut_others range areas some = sym (others_painted (cut_both areas)) ∙ ap (others pid first end) (all_repoliced pid first end Default range areas some) ∙ all_others areas

  pub cut_own : first < end → (areas : Map (ℕ × ℕ) Area) → AllByRecursion IsSomePages areas → pages_of_own pid first end (cut_both areas) ≡ pages_gone areas pid first end
  cut_own range areas some = sym (own_painted (cut_both areas)) ∙ ap (pages_of_own pid first end) (all_repoliced pid first end Default range areas some) ∙ all_own areas

-- ---- what is left is in order

all_filter : {X : Type 0} (P : X → Type 0) (test : X → Bool) (xs : List X) → AllByRecursion P xs → AllByRecursion P (filter test xs)
all_filter P test [] h = tt
all_filter P test (x ∷ xs) h = elim (test x) as (λ b. AllByRecursion P (cond b (x ∷ filter test xs) (filter test xs))) [ true ↦ (h.0, all_filter P test xs h.1) | false ↦ all_filter P test xs h.1 ]

keys_filter : (P : ℕ → Type 0) (test : ℕ × Segment → Bool) (m : Map ℕ Segment) → AllByRecursion P (keys_of m) → AllByRecursion P (keys_of (filter test m))
keys_filter P test [] h = tt
keys_filter P test (e ∷ m) h = elim (test e) as (λ b. AllByRecursion P (keys_of (cond b (e ∷ filter test m) (filter test m)))) [ true ↦ (h.0, keys_filter P test m h.1) | false ↦ keys_filter P test m h.1 ]

sorted_filter : (test : ℕ × Segment → Bool) (m : Map ℕ Segment) → IsStrictlySortedBy nat_cmp (keys_of m) → IsStrictlySortedBy nat_cmp (keys_of (filter test m))
unfolding IsStrictlySortedBy
sorted_filter test [] h = tt
sorted_filter test (e ∷ m) h =
    elim (test e) as (λ b. IsStrictlySortedBy nat_cmp (keys_of (cond b (e ∷ filter test m) (filter test m)))) [ true ↦ (keys_filter _ test m h.0, sorted_filter test m h.1) | false ↦ sorted_filter test m h.1 ]

left_shown : (areas : Map (ℕ × ℕ) Area) (segments : Map ℕ Segment) → AllShown areas (segments_left segments areas)
left_shown areas [] = tt
left_shown areas (e ∷ segments) =
    elim (list_any (shows_segment e.0) areas) as (λ b. list_any (shows_segment e.0) areas ≡ b → AllShown areas (cond b (e ∷ segments_left segments areas) (segments_left segments areas))) [
      | true ↦ λ b. (b, left_shown areas segments)
      | false ↦ λ b. left_shown areas segments
    ] refl

places_sorted : (areas : Map (ℕ × ℕ) Area) (pages : List Page) (place : Map Page ℕ) → IsStrictlySortedBy page_cmp (keys_of place) → IsStrictlySortedBy page_cmp (keys_of (fold (place_left areas) place pages))
places_sorted areas [] place h = h
places_sorted areas (p ∷ pages) place h =
    places_sorted areas pages (place_left areas place p)
    (elim (is_covered areas p) as (λ b. IsStrictlySortedBy page_cmp (keys_of (if b then place else without page_cmp place p))) [ true ↦ h | false ↦ sorted-without page_cmp place p h ])

module _ (m : Mapping) (h : IsWellFormed m) (pid first end : ℕ) (range : first ≤ end) where
  each_part : (P : PlacedArea → Type 0) → AllByRecursion P m.areas → ((a b : PlacedArea) → P a → IsPart pid first end a b → P b) → AllByRecursion P (areas_left m.areas pid first end)
  each_part P all f = all_from_among P (areas_left m.areas pid first end) (λ b n.
      let from = among_flat (parts_outside pid first end) m.areas b n in
      f from.0 b (All-among P m.areas from.0 all from.1) (part_of pid first end from.0 (All-among IsSomePages m.areas from.0 h.whole from.1) b from.2))

  pub removed_mapped : IsWellFormed (after_removal m pid first end)
  removed_mapped =
      let left = areas_left m.areas pid first end in
      let test : ℕ × Segment → Bool = λ e. list_any (shows_segment e.0) left in
      record {
        ordered = flat_sorted pid first end range m.areas h.whole h.apart h.ordered;
        apart = flat_apart pid first end range m.areas h.whole h.apart;
        whole = each_part IsSomePages h.whole (λ a b some p. p.some);
        low = each_part EndsLow h.low (λ a b low p. omega (arith, low, p.high));
        indices = each_part HasIndices h.indices (λ a b under p. omega (arith, under, p.index, p.high, p.low));
        named = sorted_filter test m.segments h.named;
        below = each_part (λ a. a.1.page.segment < m.next) h.below (λ a b under p. omega (arith, under, p.segment));
        numbers = all_filter (λ e. e.0 < m.next) test m.segments h.numbers;
        lengths = all_filter _ test m.segments h.lengths;
        shown = left_shown left m.segments;
        once = once_left pid first end range m.areas h.whole h.apart m.segments h.once;
        places = places_sorted left (pages_gone m.areas pid first end) m.place h.places;
      }

-- the areas that are split at both ends
module _ (t : Table) (place : Map Page ℕ) (h : IsWellFormed (mapping_of t place)) (pid first end : ℕ) (cut : Table) (was : cut ≡ with_areas t (split_at pid end (split_at pid first t.areas))) where
  pub cut_indices : AllByRecursion HasIndices cut.areas
  cut_indices = subst (λ (u : Table). AllByRecursion HasIndices u.areas) (sym was) (fine_split pid end (split_at pid first t.areas) (fine_split pid first t.areas (fine_here t place h))).indices

  pub cut_shown : AllShown cut.areas cut.segments
  cut_shown =
      let once = split_at pid first t.areas in
      let some = split_some pid first t.areas h.whole in
      subst (λ (u : Table). AllShown u.areas u.segments) (sym was)
      (all_shown t.areas (split_at pid end once) (λ n shown. shown_split pid end once some n (shown_split pid first t.areas h.whole n shown)) t.segments h.shown)

-- the areas and the frames after the call
module _ (t : Table) (place : Map Page ℕ) (h : IsWellFormed (mapping_of t place)) (pid first end : ℕ) (range : first < end) (cut now : Table) (places : Map Page ℕ) (was : cut ≡ with_areas t (split_at pid end (split_at pid first t.areas)))
    (is : now ≡ without_own cut pid first end) (left : places ≡ fold (place_left (others pid first end cut.areas)) place (pages_of_own pid first end cut.areas)) where
  cut_left : others pid first end cut.areas ≡ areas_left t.areas pid first end
  cut_left = ap (λ (u : Table). others pid first end u.areas) was ∙ cut_others pid first end range t.areas h.whole

  cut_gone : pages_of_own pid first end cut.areas ≡ pages_gone t.areas pid first end
  cut_gone = ap (λ (u : Table). pages_of_own pid first end u.areas) was ∙ cut_own pid first end range t.areas h.whole

  pub now_left : now ≡ record t { areas = areas_left t.areas pid first end; segments = segments_left t.segments (areas_left t.areas pid first end) }
  now_left =
      is ∙ ap (λ (areas : Map (ℕ × ℕ) Area). record cut { areas = areas; segments = segments_left cut.segments areas }) cut_left
      ∙ ap (λ (u : Table). record u { areas = areas_left t.areas pid first end; segments = segments_left u.segments (areas_left t.areas pid first end) }) was

  places_left : places ≡ fold (place_left (areas_left t.areas pid first end)) place (pages_gone t.areas pid first end)
  places_left = left ∙ ap (λ areas. fold (place_left areas) place (pages_of_own pid first end cut.areas)) cut_left ∙ ap (fold (place_left (areas_left t.areas pid first end)) place) cut_gone

  pub after_is : mapping_of now places ≡ after_removal (mapping_of t place) pid first end
  after_is = ap (λ (u : Table). mapping_of u places) now_left ∙ ap (mapping_of (record t { areas = areas_left t.areas pid first end; segments = segments_left t.segments (areas_left t.areas pid first end) })) places_left

  pub after_mapped : IsWellFormed (mapping_of now places)
  after_mapped = subst IsWellFormed (sym after_is) (removed_mapped (mapping_of t place) h pid first end (omega (arith, range)))

  pub lost_is : (none freed : List (Page × ℕ)) → none ≡ [] → freed ≡ none ++ all_lost (others pid first end cut.areas) place (pages_of_own pid first end cut.areas) → freed ≡ frames_lost (mapping_of t place) pid first end
  lost_is none freed empty e =
      e ∙ ap (λ l. l ++ all_lost (others pid first end cut.areas) place (pages_of_own pid first end cut.areas)) empty
      ∙ ap (λ areas. all_lost areas place (pages_of_own pid first end cut.areas)) cut_left ∙ ap (all_lost (areas_left t.areas pid first end) place) cut_gone
