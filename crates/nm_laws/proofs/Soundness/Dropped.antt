-- A process unmaps a range of page numbers, or all that it has.
use Rattle.std.proofs.Common.{◌≡◌, ℕ, suc, zero, ◌+◌, ◌-◌, ◌/◌, ◌^◌, ◌≤◌, ◌<◌, List, [], ◌∷◌, ◌++◌, Bool, true, false, not, ◌&&◌, ◌||◌, cond, refl, sym, ap, subst, ◌∙◌, arith, inl, inr, eq-eqb}
use Rattle.std.specs.Prelude.{Option, Some, None, IsSome, nat_lt, nat_le, ◌==◌, ◌⊎◌, if◌then◌else◌, min, max}
use Rattle.std.specs.List.{AllByRecursion, list_any, filter, flat_map, fold}
use Rattle.std.specs.List.Sorted.{IsStrictlySortedBy}
use Rattle.std.specs.Option.{unwrap_or, option_map}
use Rattle.std.specs.Map.{keys_of}
use Rattle.std.specs.Ordering.{nat_cmp, is_eq}
use Rattle.std.specs.BTreeMap.{is_at}
use Rattle.std.specs.Cmp.{nat_cmp_total, eq_by_cmp_equiv}
use Rattle.std.proofs.lemmas.Bool.{or_left, or_right, and_parts, eqb-true, eqb-false, ltb-true, ltb-false, leb-true, leb-false, lt-ltb, le-leb}
use Rattle.std.proofs.lemmas.Map.{lookup-remove_entry}
use Rattle.std.proofs.lemmas.Map.Entries.{lookup-filter-keys}
use Rattle.std.proofs.lemmas.Map.Keys.{IsDistinct-from_sorted}
use Rattle.std.proofs.lemmas.Map.Lookups.{exact_unsigned}
use Rattle.nm_types.specs.declared.page.Page.{Page}
use Rattle.nm_types.specs.declared.area.Area.{Area}
use Rattle.nm_types.specs.declared.area.Segment.{Segment}
use Rattle.nm_types.specs.Map.{Map, get, with_values, without, page_cmp, spot_cmp}
use Rattle.nm_types.specs.declared.sight.Sight.{Sight}
use Rattle.nm_types.specs.declared.sight.Sight.TheVariants.{ZeroPage, Sees}
use Rattle.nm_types.specs.State.{Process, State, PlacedArea, covers, area_over, page_of, page_shown, page_at}
use Rattle.nm_types.proofs.Cases.{true_false, none_some, some_is}
use Rattle.nm_model.specs.definitions.Seen.{sight_in, sight_at}
use Rattle.nm_model.specs.definitions.Areas.{is_shared}
use Rattle.nm_model.specs.definitions.Effect.{pages_from, pages_between, parts_outside, covers_page, is_covered, released_from, release_page, blind_between, drop_range, unmap, exit}
use Rattle.nm_model.specs.definitions.Sound.{AreasAreApart, HasPages, IsWhole, IsSoundInFlight, IsSound}
use Rattle.nm_types.proofs.Maps.{equal, get-values, keys-values}
use Rattle.nm_types.proofs.Keys.{some_from_keys, sorted-without, few-without, as_many-values}
use Rattle.nm_model.proofs.areas.Apart.{covers_parts, covers_from, all_then}
use Rattle.nm_laws.proofs.Soundness.Allocated.{shows_within, shown_covered}
use Rattle.nm_model.proofs.areas.Parted.{Among, All-among, all_from_among, among_over, over_among, among_flat, flat_among, IsPart, part_of, part_covers, part_page, part_there, any_among, among_any}
use Rattle.nm_model.proofs.areas.Halves.{flat_apart, flat_sorted}
use Rattle.nm_laws.proofs.Soundness.Called.{other_processes}
use Rattle.nm_laws.proofs.Soundness.Released.{Listed, Pending, all_released}

-- ---- what areas cover

-- the page number at which an area shows a page that it covers
abbrev pub shown_number : PlacedArea → Page → ℕ
shown_number a p = a.0.1 + (p.index - a.1.page.index)

pub covers_shown : (a : PlacedArea) (p : Page) → covers_page p a ≡ true → (covers a a.0.0 (shown_number a p) ≡ true) × (page_of a (shown_number a p) ≡ p)
covers_shown a p h =
    let both = and_parts (a.1.page.segment == p.segment) _ h in
    let range = and_parts (nat_le a.1.page.index p.index) (nat_lt p.index (a.1.page.index + a.1.pages)) both.1 in
    let low = leb-true a.1.page.index p.index range.0 in
    let high = ltb-true p.index (a.1.page.index + a.1.pages) range.1 in
    let seg = eqb-true a.1.page.segment p.segment both.0 in
    let same : a.1.page.index + (shown_number a p - a.0.1) ≡ p.index = omega (arith, low) in
    (covers_from a a.0.0 (shown_number a p) refl (omega arith) (omega (arith, low, high)), λ i. record { segment = seg i; index = same i })

pub listed_from : (segment : ℕ) (n index : ℕ) (p : Page) → segment ≡ p.segment → index ≤ p.index → p.index < index + n → Listed p (pages_from segment index n)
listed_from segment zero index p e low high = absurd (omega arith)
listed_from segment (suc n) index p e low high =
    elim (index == p.index) as (λ b. (index == p.index) ≡ b → Listed p (pages_from segment index (suc n))) [
      | true ↦ λ b. let at = eqb-true index p.index b in inl (λ i. record { segment = sym e i; index = sym at i })
      | false ↦ λ b. let other = eqb-false index p.index b in inr (listed_from segment n (index + 1) p e (omega (arith, low, other)) (omega (arith, high)))
    ] refl

listed_left : (xs ys : List Page) (p : Page) → Listed p xs → Listed p (xs ++ ys)
listed_left [] ys p m = absurd m
listed_left (x ∷ xs) ys p (inl e) = inl e
listed_left (x ∷ xs) ys p (inr m) = inr (listed_left xs ys p m)

listed_right : (xs ys : List Page) (p : Page) → Listed p ys → Listed p (xs ++ ys)
listed_right [] ys p m = m
listed_right (x ∷ xs) ys p m = inr (listed_right xs ys p m)

listed_flat : (f : PlacedArea → List Page) (test : PlacedArea → Bool) (areas : List PlacedArea) (a : PlacedArea) (p : Page) → Among a areas → test a ≡ true → Listed p (f a) → Listed p (flat_map f (filter test areas))
listed_flat f test [] a p m t k = absurd m
listed_flat f test (x ∷ areas) a p (inl e) t k =
    subst (λ b. Listed p (flat_map f (cond b (x ∷ filter test areas) (filter test areas)))) (sym (ap test (sym e) ∙ t)) (listed_left (f x) (flat_map f (filter test areas)) p (subst (λ y. Listed p (f y)) e k))
listed_flat f test (x ∷ areas) a p (inr m) t k =
    let more = listed_flat f test areas a p m t k in
    elim (test x) as (λ b. Listed p (flat_map f (cond b (x ∷ filter test areas) (filter test areas)))) [ true ↦ listed_right (f x) (flat_map f (filter test areas)) p more | false ↦ more ]

-- a part of an area ends within the segment, as the area does
pub part_within : (pid first end : ℕ) (a b : PlacedArea) → IsPart pid first end a b → (o : ℕ → Option Segment) → HasPages (o a.1.page.segment) (a.1.page.index + a.1.pages) → HasPages (o b.1.page.segment) (b.1.page.index + b.1.pages)
part_within pid first end a b part o within =
    subst (λ n. HasPages (o n) (b.1.page.index + b.1.pages)) (sym part.segment)
    (elim (o a.1.page.segment) as (λ s. HasPages s (a.1.page.index + a.1.pages) → HasPages s (b.1.page.index + b.1.pages)) [
      | None ↦ λ h. h
      | Some segment ↦ λ h. omega (arith, h, part.index, part.low, part.high)
    ] within)

-- ---- what processes see

keys_all_filter : {V : Type 0} (P : ℕ → Type 0) (test : ℕ → Bool) (m : Map ℕ V) → AllByRecursion P (keys_of m) → AllByRecursion P (keys_of (filter (λ e. test e.0) m))
keys_all_filter P test [] h = tt
keys_all_filter P test (e ∷ m) h =
    elim (test e.0) as (λ b. AllByRecursion P (keys_of (cond b (e ∷ filter (λ e. test e.0) m) (filter (λ e. test e.0) m)))) [ true ↦ (h.0, keys_all_filter P test m h.1) | false ↦ keys_all_filter P test m h.1 ]

sorted_filter : {V : Type 0} (test : ℕ → Bool) (m : Map ℕ V) → IsStrictlySortedBy nat_cmp (keys_of m) → IsStrictlySortedBy nat_cmp (keys_of (filter (λ e. test e.0) m))
unfolding IsStrictlySortedBy
sorted_filter test [] h = tt
sorted_filter test (e ∷ m) h =
    elim (test e.0) as (λ b. IsStrictlySortedBy nat_cmp (keys_of (cond b (e ∷ filter (λ e. test e.0) m) (filter (λ e. test e.0) m)))) [ true ↦ (keys_all_filter _ test m h.0, sorted_filter test m h.1) | false ↦ sorted_filter test m h.1 ]

all_blind : (pid first end : ℕ) (ps : Map ℕ Process) → AllByRecursion (λ e. IsStrictlySortedBy nat_cmp (keys_of e.1.sees)) ps
    → AllByRecursion (λ e. IsStrictlySortedBy nat_cmp (keys_of e.1.sees)) (with_values (λ q process. if q == pid then blind_between first end process else process) ps)
all_blind pid first end [] h = tt
all_blind pid first end (e ∷ ps) h = (
  elim (e.0 == pid) as (λ b. IsStrictlySortedBy nat_cmp (keys_of (if b then blind_between first end e.1 else e.1).sees)) [
    | true ↦ sorted_filter (λ k. nat_lt k first || nat_le end k) e.1.sees h.0
    | false ↦ h.0
  ],
  all_blind pid first end ps h.1,
)

module _ (s : State) (l : List ℕ) (h : IsSoundInFlight s l) (pid first end : ℕ) (range : first ≤ end) where
  -- what is not between
  abbrev Out : ℕ → ℕ → Type 0
  Out q w = q ≡ pid → (w < first) ⊎ (end ≤ w)

  parts : PlacedArea → List PlacedArea
  parts = parts_outside pid first end

  areas : Map (ℕ × ℕ) Area
  areas = flat_map (parts_outside pid first end) s.areas

  some : AllByRecursion (λ a. 0 < a.1.pages) s.areas
  some = all_then s.areas (IsWhole s) (λ a. 0 < a.1.pages) (λ a whole. whole.0) h.areas

  -- a part and its area
  whose : (b : PlacedArea) → Among b areas → (a : PlacedArea) × Among a s.areas × IsPart pid first end a b
  unfolding areas
  whose b m =
      let from = among_flat (parts_outside pid first end) s.areas b m in
      (from.0, from.1, part_of pid first end from.0 (All-among (λ a. 0 < a.1.pages) s.areas from.0 some from.1) b from.2)

  shown_back : (q w : ℕ) (p : Page) → page_at areas q w ≡ Some p → (page_at s.areas q w ≡ Some p) × Out q w
  shown_back q w p e =
      elim (area_over areas q w) as (λ o. area_over areas q w ≡ o → page_shown o w ≡ Some p → (page_at s.areas q w ≡ Some p) × Out q w) [
        | None ↦ λ o k. absurd (none_some k)
        | Some b ↦ λ o k.
            let found = among_over areas q w b o in
            let a = whose b found.0 in
            let over = part_covers pid first end a.0 b q w a.2 found.1 in
            let parts = covers_parts b q w found.1 in (
              ap (λ o. page_shown o w) (over_among s.areas q w a.0 h.disjoint a.1 over) ∙ ap Some (sym (part_page pid first end a.0 b q w a.2 found.1)) ∙ k,
              λ same. elim (a.2.outside (sym a.2.process ∙ parts.0 ∙ same)) as (λ _. (w < first) ⊎ (end ≤ w)) [ inl low ↦ inl (omega (arith, low, parts.2)) | inr high ↦ inr (omega (arith, high, parts.1)) ],
            )
      ] refl e

  pub shown_back_all : (q w : ℕ) (p : Page) → page_at (flat_map (parts_outside pid first end) s.areas) q w ≡ Some p → (page_at s.areas q w ≡ Some p) × (q ≡ pid → (w < first) ⊎ (end ≤ w))
  unfolding areas
  shown_back_all q w p e = shown_back q w p e

  there : (a : PlacedArea) (q w : ℕ) → Among a s.areas → covers a q w ≡ true → Out q w → (b : PlacedArea) × Among b areas × (covers b q w ≡ true)
  unfolding areas
  there a q w m c out =
      let b = part_there pid first end a q w c out in
      (b.0, flat_among (parts_outside pid first end) s.areas a b.0 m b.1, b.2)

  shown_on : (q w : ℕ) (p : Page) → page_at s.areas q w ≡ Some p → Out q w → page_at areas q w ≡ Some p
  unfolding areas
  shown_on q w p e out =
      elim (area_over s.areas q w) as (λ o. area_over s.areas q w ≡ o → page_shown o w ≡ Some p → page_at areas q w ≡ Some p) [
        | None ↦ λ o k. absurd (none_some k)
        | Some a ↦ λ o k.
            let found = among_over s.areas q w a o in
            let cut = part_there pid first end a q w found.1 out in
            let part = part_of pid first end a (All-among (λ a. 0 < a.1.pages) s.areas a some found.0) cut.0 cut.1 in
            let m = flat_among (parts_outside pid first end) s.areas a cut.0 found.0 cut.1 in
            ap (λ o. page_shown o w) (over_among areas q w cut.0 (flat_apart pid first end range s.areas some h.disjoint) m cut.2) ∙ ap Some (part_page pid first end a cut.0 q w part cut.2) ∙ k
      ] refl e

  still_covered : (a : PlacedArea) (p : Page) → Among a s.areas → covers_page p a ≡ true → Out a.0.0 (shown_number a p) → is_covered areas p ≡ true
  still_covered a p m c out =
      let at = covers_shown a p c in
      let w = shown_number a p in
      let b = there a a.0.0 w m at.0 out in
      let of = whose b.0 b.1 in
      let over = part_covers pid first end of.0 b.0 a.0.0 w of.2 b.2 in
      let same : page_of b.0 w ≡ p =
      part_page pid first end of.0 b.0 a.0.0 w of.2 b.2
      ∙ some_is (sym (ap (λ o. page_shown o w) (over_among s.areas a.0.0 w of.0 h.disjoint of.1 over)) ∙ ap (λ o. page_shown o w) (over_among s.areas a.0.0 w a h.disjoint m at.0)) ∙ at.1 in
      among_any (covers_page p) areas b.0 b.1 (subst (λ r. covers_page r b.0 ≡ true) same (shows_within b.0 a.0.0 w b.2))

  pages : List Page
  pages = flat_map (pages_between first end) (filter (λ a. a.0.0 == pid) s.areas)

  -- a page that was covered is covered, or is unmapped
  covered_or_listed : (p : Page) → is_covered s.areas p ≡ true → (is_covered areas p ≡ true) ⊎ Listed p pages
  unfolding pages
  covered_or_listed p c =
      let found = any_among (covers_page p) s.areas c in
      let a = found.0 in
      let at = covers_shown a p found.2 in
      let w = shown_number a p in
      let over = covers_parts a a.0.0 w at.0 in
      elim (a.0.0 == pid) as (λ b. (a.0.0 == pid) ≡ b → (is_covered areas p ≡ true) ⊎ Listed p pages) [
        | false ↦ λ b. inl (still_covered a p found.1 found.2 (λ same. absurd (eqb-false a.0.0 pid b same)))
        | true ↦ λ b. elim (nat_lt w first) as (λ t. nat_lt w first ≡ t → (is_covered areas p ≡ true) ⊎ Listed p pages) [
          | true ↦ λ t. inl (still_covered a p found.1 found.2 (λ same. inl (ltb-true w first t)))
          | false ↦ λ t. elim (nat_le end w) as (λ u. nat_le end w ≡ u → (is_covered areas p ≡ true) ⊎ Listed p pages) [
            | true ↦ λ u. inl (still_covered a p found.1 found.2 (λ same. inr (leb-true end w u)))
            | false ↦ λ u.
                let low = ltb-false w first t in
                let high = leb-false end w u in
                let both = and_parts (a.1.page.segment == p.segment) _ found.2 in
                let here = and_parts (nat_le a.1.page.index p.index) (nat_lt p.index (a.1.page.index + a.1.pages)) both.1 in
                let index = leb-true a.1.page.index p.index here.0 in
                inr (listed_flat (pages_between first end) (λ a. a.0.0 == pid) s.areas a p found.1 b
                (listed_from a.1.page.segment (min end (a.0.1 + a.1.pages) - max first a.0.1) (a.1.page.index + (max first a.0.1 - a.0.1)) p (eqb-true a.1.page.segment p.segment both.0)
                (omega (arith, low, high, index, over.1, over.2)) (omega (arith, low, high, index, over.1, over.2))))
          ] refl
        ] refl
      ] refl

  -- ---- who sees what, and the segments that are left

  blind : Map ℕ Process
  blind = with_values (λ q process. if q == pid then blind_between first end process else process) s.processes

  swapped : (V : Type 0) (b : Bool) (o : Option V) → cond b o None ≡ cond (not b) None o
  swapped V true o = refl
  swapped V false o = refl

  both_none : (V : Type 0) (b : Bool) (o : Option V) → o ≡ cond b o o
  both_none V true o = refl
  both_none V false o = refl

  seen_blind : (q w : ℕ) → sight_in (get nat_cmp blind q) w ≡ cond ((q == pid) && not (nat_lt w first || nat_le end w)) None (sight_at s q w)
  unfolding blind
  seen_blind q w =
      let F : ℕ → Process → Process = λ q process. if q == pid then blind_between first end process else process in
      ap (λ o. sight_in o w) (get-values exact_unsigned F s.processes q)
      ∙ elim (get nat_cmp s.processes q) as (λ o. sight_in (option_map (F q) o) w ≡ cond ((q == pid) && not (nat_lt w first || nat_le end w)) None (sight_in o w)) [
        | None ↦ both_none Sight ((q == pid) && not (nat_lt w first || nat_le end w)) None
        | Some process ↦ elim (q == pid) as (λ b. sight_in (Some (if b then blind_between first end process else process)) w ≡ cond (b && not (nat_lt w first || nat_le end w)) None (sight_in (Some process) w)) [
          | true ↦
              lookup-filter-keys (is_at (nat_cmp w)) (λ k. nat_lt k first || nat_le end k) (nat_lt w first || nat_le end w)
              (λ k e. ap (λ j. nat_lt j first || nat_le end j) (sym (exact_unsigned w k (equal _ e)))) process.sees
              ∙ swapped Sight (nat_lt w first || nat_le end w) (get nat_cmp process.sees w)
          | false ↦ refl
        ]
      ]

  out_from : (q w : ℕ) → ((q == pid) && not (nat_lt w first || nat_le end w)) ≡ false → Out q w
  out_from q w k = λ same.
      elim (nat_lt w first) as (λ b. nat_lt w first ≡ b → ((q == pid) && not (b || nat_le end w)) ≡ false → (w < first) ⊎ (end ≤ w)) [
        | true ↦ λ b k. inl (ltb-true w first b)
        | false ↦ λ b k. elim (nat_le end w) as (λ c. nat_le end w ≡ c → ((q == pid) && not c) ≡ false → (w < first) ⊎ (end ≤ w)) [
          | true ↦ λ c k. inr (leb-true end w c)
          | false ↦ λ c k. absurd (true_false (sym (ap (λ t. t && true) (eq-eqb q pid same)) ∙ k))
        ] refl k
      ] refl k

  from_out : (q w : ℕ) → Out q w → ((q == pid) && not (nat_lt w first || nat_le end w)) ≡ false
  from_out q w out =
      elim (q == pid) as (λ b. (q == pid) ≡ b → (b && not (nat_lt w first || nat_le end w)) ≡ false) [
        | true ↦ λ b. elim (out (eqb-true q pid b)) as (λ _. not (nat_lt w first || nat_le end w) ≡ false) [
          | inl low ↦ ap not (or_left (nat_lt w first) (nat_le end w) (lt-ltb w first low))
          | inr high ↦ ap not (or_right (nat_lt w first) (nat_le end w) (le-leb end w high))
        ]
        | false ↦ λ b. refl
      ] refl

  seen_back : (q w : ℕ) (y : Sight) → sight_in (get nat_cmp blind q) w ≡ Some y → (sight_at s q w ≡ Some y) × Out q w
  seen_back q w y e =
      elim ((q == pid) && not (nat_lt w first || nat_le end w)) as (λ b. ((q == pid) && not (nat_lt w first || nat_le end w)) ≡ b → cond b None (sight_at s q w) ≡ Some y → (sight_at s q w ≡ Some y) × Out q w) [
        | true ↦ λ b k. absurd (none_some k)
        | false ↦ λ b k. (k, out_from q w b)
      ] refl (sym (seen_blind q w) ∙ e)

  seen_on : (q w : ℕ) (y : Sight) → sight_at s q w ≡ Some y → Out q w → sight_in (get nat_cmp blind q) w ≡ Some y
  seen_on q w y e out = seen_blind q w ∙ ap (λ b. cond b None (sight_at s q w)) (from_out q w out) ∙ e

  segments : Map ℕ Segment
  segments = filter (λ e. list_any (λ a. a.1.page.segment == e.0) areas) s.segments

  get_segment : (n : ℕ) → list_any (λ a. a.1.page.segment == n) areas ≡ true → get nat_cmp segments n ≡ get nat_cmp s.segments n
  unfolding segments
  get_segment n used =
      lookup-filter-keys (is_at (nat_cmp n)) (λ k. list_any (λ a. a.1.page.segment == k) areas) true
      (λ k e. ap (λ j. list_any (λ a. a.1.page.segment == j) areas) (sym (exact_unsigned n k (equal _ e))) ∙ used) s.segments

  segment_there : (n : ℕ) → IsSome (get nat_cmp segments n) → IsSome (get nat_cmp s.segments n)
  unfolding segments
  segment_there n e =
      let found = lookup-filter-keys (is_at (nat_cmp n)) (λ k. list_any (λ a. a.1.page.segment == k) areas) (list_any (λ a. a.1.page.segment == n) areas)
      (λ k e. ap (λ j. list_any (λ a. a.1.page.segment == j) areas) (sym (exact_unsigned n k (equal _ e)))) s.segments in
      elim (list_any (λ a. a.1.page.segment == n) areas) as (λ b. IsSome (cond b (get nat_cmp s.segments n) None) → IsSome (get nat_cmp s.segments n)) [
        | true ↦ λ k. k
        | false ↦ λ k. cc
      ] (subst IsSome found e)

  used : (p : Page) → is_covered areas p ≡ true → list_any (λ a. a.1.page.segment == p.segment) areas ≡ true
  used p c =
      let found = any_among (covers_page p) areas c in
      among_any (λ a. a.1.page.segment == p.segment) areas found.0 found.1 (and_parts (found.0.1.page.segment == p.segment) _ found.2).0

  -- ---- the state before the pages lose their frames

  left : State
  left = record s { processes = blind; areas = areas; segments = segments }

  same_shared : (p : Page) → is_covered areas p ≡ true → is_shared left.segments p.segment ≡ is_shared s.segments p.segment
  unfolding left
  same_shared p c = ap (λ o. unwrap_or (option_map (λ (g : Segment). g.shared) o) false) (get_segment p.segment (used p c))

  disjoint : AreasAreApart areas
  unfolding areas
  disjoint = flat_apart pid first end range s.areas some h.disjoint

  sorted : IsStrictlySortedBy spot_cmp (keys_of areas)
  unfolding areas
  sorted = flat_sorted pid first end range s.areas some h.disjoint h.order.areas

  -- where a page is covered still, nobody saw it in the range
  stays_out : (p : Page) (q w : ℕ) → is_covered areas p ≡ true → is_shared s.segments p.segment ≡ false → page_at s.areas q w ≡ Some p → Out q w
  stays_out p q w c private e =
      let found = any_among (covers_page p) areas c in
      let b = found.0 in
      let at = covers_shown b p found.2 in
      let v = shown_number b p in
      let shown : page_at areas b.0.0 v ≡ Some p = ap (λ o. page_shown o v) (over_among areas b.0.0 v b disjoint found.1 at.0) ∙ ap Some at.1 in
      let back = shown_back b.0.0 v p shown in
      let same = h.once b.0.0 v q w p back.0 e private in
      λ is. elim (back.1 (same.0 ∙ is)) as (λ _. (w < first) ⊎ (end ≤ w)) [ inl low ↦ inl (omega (arith, low, same.1)) | inr high ↦ inr (omega (arith, high, same.1)) ]

  same_keys : keys_of blind ≡ keys_of s.processes
  unfolding blind
  same_keys = keys-values (λ q process. if q == pid then blind_between first end process else process) s.processes

  blind_sorted : AllByRecursion (λ e. IsStrictlySortedBy nat_cmp (keys_of e.1.sees)) blind
  unfolding blind
  blind_sorted = all_blind pid first end s.processes h.order.sees

  part_whole : (b : PlacedArea) → Among b areas → IsWhole left b
  unfolding left
  part_whole b m =
      let a = whose b m in
      let whole = All-among (IsWhole s) s.areas a.0 h.areas a.1 in
      let process = some_from_keys nat_cmp s.processes blind a.0.0.0 (sym same_keys) whole.2 in
      let used = among_any (λ x. x.1.page.segment == b.1.page.segment) areas b m (eq-eqb b.1.page.segment b.1.page.segment refl) in (
        a.2.some,
        omega (arith, a.2.high, whole.1),
        subst (λ n. IsSome (get nat_cmp blind n)) (sym a.2.process) process,
        subst (λ o. HasPages o (b.1.page.index + b.1.pages)) (sym (get_segment b.1.page.segment used)) (part_within pid first end a.0 b a.2 (get nat_cmp s.segments) whole.3),
      )

  left_pending : Pending left l pages
  unfolding left segments blind
  left_pending =
      record {
        order = record {
          processes = subst (IsStrictlySortedBy nat_cmp) (sym same_keys) h.order.processes;
          sees = blind_sorted;
          areas = sorted;
          segments = sorted_filter (λ n. list_any (λ a. a.1.page.segment == n) areas) s.segments h.order.segments;
          place = h.order.place;
        };
        frames = h.frames;
        shown = λ q w p e. let was = seen_back q w (Sees p) e in let shown = h.shown q w p was.0 in (shown_on q w p shown.0 was.1, shown.1);
        zeros = λ q w e.
            let was = seen_back q w ZeroPage e in
            let zero = h.zeros q w was.0 in
            let shown = shown_on q w zero.0 zero.1 was.1 in
            (zero.0, shown, same_shared zero.0 (shown_covered areas q w zero.0 shown) ∙ zero.2);
        covered = λ p e. covered_or_listed p (h.covered p e);
        bytes = h.bytes;
        pins = h.pins;
        seen = λ p e c private.
            let was_private = sym (same_shared p c) ∙ private in
            let was = h.seen p e was_private in
            (was.0, was.1, seen_on was.0 was.1 (Sees p) was.2 (stays_out p was.0 was.1 c was_private (h.shown was.0 was.1 p was.2).0));
        once = λ q w r x p e k private.
            h.once q w r x p (shown_back q w p e).0 (shown_back r x p k).0 (sym (same_shared p (shown_covered areas q w p e)) ∙ private);
        areas = all_from_among (IsWhole left) areas part_whole;
        numbers = record { below = λ n e. h.numbers.below n (segment_there n e); few = h.numbers.few };
        disjoint = disjoint;
        online = h.online;
        few = subst (λ n. n ≤ 1024) (sym (as_many-values (λ q process. if q == pid then blind_between first end process else process) s.processes)) h.few;
      }

  pub dropped_sound : IsSoundInFlight (drop_range s pid first end) l
  unfolding left blind areas segments pages
  dropped_sound = all_released pages left l left_pending

pub unmap_sound : (s : State) (pid address pages : ℕ) → IsSound s → IsSound (unmap s pid address pages)
unmap_sound s pid address pages h = dropped_sound s [] h pid (address / 4096) (address / 4096 + pages) (omega arith)

-- ---- a process that goes

released_areas : (s : State) (p : Page) → (release_page s p).areas ≡ s.areas
released_areas s p =
    elim (is_covered s.areas p) as (λ b. (if b then s else released_from s p (get page_cmp s.place p)).areas ≡ s.areas) [
      | true ↦ refl
      | false ↦ elim (get page_cmp s.place p) as (λ o. (released_from s p o).areas ≡ s.areas) [ None ↦ refl | Some frame ↦ refl ]
    ]

all_areas : (pages : List Page) (s : State) → (fold release_page s pages).areas ≡ s.areas
all_areas [] s = refl
all_areas (p ∷ pages) s = all_areas pages (release_page s p) ∙ released_areas s p

-- a sight needs an area
sight_area : (s : State) (l : List ℕ) (q w : ℕ) (o : Option Sight) → IsSoundInFlight s l → sight_at s q w ≡ o → ((p : Page) → page_at s.areas q w ≡ Some p → ⊥) → o ≡ None
sight_area s l q w None h e none = refl
sight_area s l q w (Some ZeroPage) h e none = let zero = h.zeros q w e in absurd (none zero.0 zero.1)
sight_area s l q w (Some (Sees p)) h e none = absurd (none p (h.shown q w p e).0)

-- no area is over such a page number
past_all : (s : State) (h : IsSound s) (q w : ℕ) (p : Page) → 2 ^ 35 ≤ w → page_at s.areas q w ≡ Some p → ⊥
past_all s h q w p high e =
    elim (area_over s.areas q w) as (λ o. area_over s.areas q w ≡ o → page_shown o w ≡ Some p → ⊥) [
      | None ↦ λ o k. none_some k
      | Some a ↦ λ o k.
          let found = among_over s.areas q w a o in
          let whole = All-among (IsWhole s) s.areas a h.areas found.0 in
          let parts = covers_parts a q w found.1 in
          absurd (omega (arith, high, whole.1, parts.2))
    ] refl e

all_left : (ps : Map ℕ Process) (pid : ℕ) → AllByRecursion (λ e. IsStrictlySortedBy nat_cmp (keys_of e.1.sees)) ps → AllByRecursion (λ e. IsStrictlySortedBy nat_cmp (keys_of e.1.sees)) (without nat_cmp ps pid)
all_left [] pid h = tt
all_left (e ∷ ps) pid h = elim (is_eq (nat_cmp pid e.0)) as (λ b. AllByRecursion (λ e. IsStrictlySortedBy nat_cmp (keys_of e.1.sees)) (cond b ps (e ∷ without nat_cmp ps pid))) [ true ↦ h.1 | false ↦ (h.0, all_left ps pid h.1) ]

module _ (s : State) (h : IsSound s) (pid : ℕ) where
  rest : State
  rest = drop_range s pid 0 (2 ^ 35)

  rest_sound : IsSound rest
  unfolding rest
  rest_sound = dropped_sound s [] h pid 0 (2 ^ 35) (omega arith)

  rest_areas : rest.areas ≡ flat_map (parts_outside pid 0 (2 ^ 35)) s.areas
  unfolding rest
  rest_areas =
      let areas = flat_map (parts_outside pid 0 (2 ^ 35)) s.areas in
      let blind = with_values (λ q process. if q == pid then blind_between 0 (2 ^ 35) process else process) s.processes in
      let segments = filter (λ e. list_any (λ a. a.1.page.segment == e.0) areas) s.segments in
      all_areas (flat_map (pages_between 0 (2 ^ 35)) (filter (λ a. a.0.0 == pid) s.areas)) (record s { processes = blind; areas = areas; segments = segments })

  -- nothing is shown to it
  nothing_shown : (w : ℕ) (p : Page) → page_at rest.areas pid w ≡ Some p → ⊥
  nothing_shown w p e =
      let back = shown_back_all s [] h pid 0 (2 ^ 35) (omega arith) pid w p (ap (λ areas. page_at areas pid w) (sym rest_areas) ∙ e) in
      elim (back.1 refl) as (λ _. ⊥) [
        | inl low ↦ omega (arith, low)
        | inr high ↦ past_all s h pid w p high back.0
      ]

  nothing_seen : (w : ℕ) → sight_at rest pid w ≡ None
  nothing_seen w = sight_area rest [] pid w (sight_at rest pid w) rest_sound refl (nothing_shown w)

  other_area : (a : PlacedArea) → Among a rest.areas → a.0.0 ≡ pid → ⊥
  other_area a m e =
      let whole = All-among (IsWhole rest) rest.areas a rest_sound.areas m in
      let over = over_among rest.areas a.0.0 a.0.1 a rest_sound.disjoint m (covers_from a a.0.0 a.0.1 refl (omega arith) (omega (arith, whole.0))) in
      nothing_shown a.0.1 (page_of a a.0.1) (subst (λ q. page_at rest.areas q a.0.1 ≡ Some (page_of a a.0.1)) e (ap (λ o. page_shown o a.0.1) over))

  get_left : (q : ℕ) → get nat_cmp (without nat_cmp rest.processes pid) q ≡ cond (is_eq (nat_cmp pid q)) None (get nat_cmp rest.processes q)
  get_left q = lookup-remove_entry (eq_by_cmp_equiv nat_cmp_total) (is_at (nat_cmp pid)) (λ x y e. ap is_eq (nat_cmp_total.congr pid x y (equal _ e))) q rest.processes (IsDistinct-from_sorted nat_cmp (keys_of rest.processes) rest_sound.order.processes)

  same_sight : (q w : ℕ) → sight_in (get nat_cmp (without nat_cmp rest.processes pid) q) w ≡ sight_at rest q w
  same_sight q w =
      ap (λ o. sight_in o w) (get_left q)
      ∙ elim (is_eq (nat_cmp pid q)) as (λ b. is_eq (nat_cmp pid q) ≡ b → sight_in (cond b None (get nat_cmp rest.processes q)) w ≡ sight_at rest q w) [
        | true ↦ λ b. sym (ap (λ k. sight_at rest k w) (sym (exact_unsigned pid q (equal _ b))) ∙ nothing_seen w)
        | false ↦ λ b. refl
      ] refl

  still_there : (a : PlacedArea) → Among a rest.areas → IsSome (get nat_cmp (without nat_cmp rest.processes pid) a.0.0)
  still_there a m =
      let whole = All-among (IsWhole rest) rest.areas a rest_sound.areas m in
      subst IsSome (sym (get_left a.0.0))
      (elim (is_eq (nat_cmp pid a.0.0)) as (λ b. is_eq (nat_cmp pid a.0.0) ≡ b → IsSome (cond b None (get nat_cmp rest.processes a.0.0))) [
        | true ↦ λ b. absurd (other_area a m (sym (exact_unsigned pid a.0.0 (equal _ b))))
        | false ↦ λ b. whole.2
      ] refl)

  pub exit_sound : IsSound (exit s pid)
  unfolding rest
  exit_sound =
      other_processes rest [] (without nat_cmp rest.processes pid) rest_sound (sorted-without nat_cmp rest.processes pid rest_sound.order.processes)
      (all_left rest.processes pid rest_sound.order.sees) same_sight
      (all_from_among (IsWhole (record rest { processes = without nat_cmp rest.processes pid })) rest.areas (λ a m.
      let whole = All-among (IsWhole rest) rest.areas a rest_sound.areas m in
      (whole.0, whole.1, still_there a m, whole.3)))
      (let fewer = few-without nat_cmp rest.processes pid in let few = rest_sound.few in omega (arith, fewer, few))

  -- it sees nothing before it is removed
  pub sees_none : (w : ℕ) → sight_at (drop_range s pid 0 (2 ^ 35)) pid w ≡ None
  unfolding rest
  sees_none = nothing_seen
