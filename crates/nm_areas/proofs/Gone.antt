-- Areas that are removed, and the segments that no other area shows.
use Rattle.std.proofs.Common.{◌≡◌, ℕ, suc, ◌≤◌, ◌<◌, arith, List, [], ◌∷◌, length, Bool, true, false, not, ◌||◌, cond, refl, sym, ap, subst, ◌∙◌, eq-eqb, inl, inr}
use Rattle.std.specs.Prelude.{Some, ◌==◌}
use Rattle.std.specs.List.{AllByRecursion, list_any, filter}
use Rattle.std.specs.List.Sorted.{IsStrictlySortedBy}
use Rattle.std.specs.Map.{keys_of}
use Rattle.std.specs.Ordering.{nat_cmp, is_eq}
use Rattle.std.specs.Cmp.{nat_cmp_total, tied_itself}
use Rattle.std.specs.declared.cmp.Ordering.{Ordering}
use Rattle.std.specs.declared.cmp.Ordering.TheVariants.{Less}
use Rattle.std.proofs.lemmas.Bool.{eqb-true, false_from_ne_true}
use Rattle.std.proofs.lemmas.Map.Keys.{sorted_head, sorted_tail}
use Rattle.std.proofs.lemmas.Map.Lookups.{exact_unsigned}
use Rattle.nm_types.specs.declared.area.Area.{Area}
use Rattle.nm_types.specs.declared.area.Segment.{Segment}
use Rattle.nm_types.specs.Map.{Map, get, without, spot_cmp}
use Rattle.nm_types.specs.State.{PlacedArea}
use Rattle.nm_types.proofs.Cases.{true_false, some_none}
use Rattle.nm_model.specs.definitions.Areas.{shows_segment, AllShown}
use Rattle.nm_model.specs.definitions.Areas.{segments_left, begins_in, is_own, others, without_own}
use Rattle.nm_model.specs.views.Table.{Table, with_areas}
use Rattle.nm_types.proofs.Maps.{equal}
use Rattle.nm_types.proofs.Members.{or_swap}
use Rattle.nm_model.proofs.areas.Parted.{Among}
use Rattle.nm_model.proofs.areas.Overs.{get_not_none}
use Rattle.nm_model.proofs.areas.Painted.{exact_spot}
use Rattle.nm_areas.proofs.Own.{NoneBegins, own_parts, own_from}

less_equal : {r : Ordering} → r ≡ Less → is_eq r ≡ true → ⊥
less_equal h e = true_false (sym e ∙ ap is_eq h)

-- ---- areas

module _ (pid first end : ℕ) where
  -- without one of them the others are the same
  pub others_without : (areas : Map (ℕ × ℕ) Area) (k : ℕ × ℕ) → begins_in pid first end k ≡ true → others pid first end (without spot_cmp areas k) ≡ others pid first end areas
  others_without [] k own = refl
  others_without (e ∷ areas) k own =
      elim (is_eq (spot_cmp k e.0)) as (λ b. is_eq (spot_cmp k e.0) ≡ b → others pid first end (cond b areas (e ∷ without spot_cmp areas k)) ≡ others pid first end (e ∷ areas)) [
        | true ↦ λ b.
            let same : k ≡ e.0 = exact_spot k e.0 (equal _ b) in
            sym (ap (λ t. cond (not t) (e ∷ others pid first end areas) (others pid first end areas)) (ap (begins_in pid first end) (sym same) ∙ own))
        | false ↦ λ b. ap (λ l. cond (not (is_own pid first end e)) (e ∷ l) l) (others_without areas k own)
      ] refl

  filter_all : (test : PlacedArea → Bool) (areas : List PlacedArea) → ((a : PlacedArea) → Among a areas → test a ≡ true) → filter test areas ≡ areas
  filter_all test [] h = refl
  filter_all test (x ∷ areas) h = ap (λ b. cond b (x ∷ filter test areas) (filter test areas)) (h x (inl refl)) ∙ ap (λ l. x ∷ l) (filter_all test areas (λ a m. h a (inr m)))

  -- where there is none, all are others
  pub others_all : (areas : Map (ℕ × ℕ) Area) → NoneBegins areas pid first end → others pid first end areas ≡ areas
  others_all areas none =
      filter_all (λ a. not (is_own pid first end a)) areas (λ a m.
      ap not (false_from_ne_true (is_own pid first end a) (λ h.
      let parts = own_parts pid first end a h in
      get_not_none areas a m (ap (λ (p : ℕ). get spot_cmp areas (p, a.0.1)) parts.0 ∙ none a.0.1 parts.1 parts.2))))

-- one area fewer
pub fewer : (areas : Map (ℕ × ℕ) Area) (k : ℕ × ℕ) (x : Area) → get spot_cmp areas k ≡ Some x → length (without spot_cmp areas k) < length areas
fewer [] k x h = absurd (some_none (sym h))
fewer (e ∷ areas) k x h =
    elim (is_eq (spot_cmp k e.0)) as (λ b. cond b (Some e.1) (get spot_cmp areas k) ≡ Some x → length (cond b areas (e ∷ without spot_cmp areas k)) < suc (length areas)) [
      | true ↦ λ g. omega arith
      | false ↦ λ g. let less = fewer areas k x g in omega (arith, less)
    ] h

-- ---- segments

-- an area and those without it
any_without : (test : PlacedArea → Bool) (areas : Map (ℕ × ℕ) Area) (k : ℕ × ℕ) (x : Area) → get spot_cmp areas k ≡ Some x → list_any test areas ≡ (test (k, x) || list_any test (without spot_cmp areas k))
any_without test [] k x h = absurd (some_none (sym h))
any_without test (e ∷ areas) k x h =
    elim (is_eq (spot_cmp k e.0)) as (λ b. is_eq (spot_cmp k e.0) ≡ b → cond b (Some e.1) (get spot_cmp areas k) ≡ Some x → (test e || list_any test areas) ≡ (test (k, x) || list_any test (cond b areas (e ∷ without spot_cmp areas k)))) [
      | true ↦ λ b g.
          let same : k ≡ e.0 = exact_spot k e.0 (equal _ b) in
          let value : e.1 ≡ x = cc in
          ap (λ (z : Area). test (e.0, z) || list_any test areas) value ∙ ap (λ (q : ℕ × ℕ). test (q, x) || list_any test areas) (sym same)
      | false ↦ λ b g. ap (λ c. test e || c) (any_without test areas k x g) ∙ or_swap (test e) (test (k, x)) (list_any test (without spot_cmp areas k))
    ] refl h

module _ (areas : Map (ℕ × ℕ) Area) (k : ℕ × ℕ) (x : Area) (there : get spot_cmp areas k ≡ Some x) where
  abbrev rest : Map (ℕ × ℕ) Area
  rest = without spot_cmp areas k

  abbrev number : ℕ
  number = x.page.segment

  -- another area shows its segment
  pub segments_same : list_any (shows_segment number) rest ≡ true → (segments : Map ℕ Segment) → segments_left segments areas ≡ segments_left segments rest
  segments_same shown [] = refl
  segments_same shown (e ∷ segments) =
      let same : list_any (shows_segment e.0) areas ≡ list_any (shows_segment e.0) rest =
      any_without (shows_segment e.0) areas k x there
      ∙ elim (number == e.0) as (λ b. (number == e.0) ≡ b → (b || list_any (shows_segment e.0) rest) ≡ list_any (shows_segment e.0) rest) [
        | true ↦ λ b. sym (ap (λ (n : ℕ). list_any (shows_segment n) rest) (sym (eqb-true number e.0 b)) ∙ shown)
        | false ↦ λ b. refl
      ] refl in
      ap (λ b. cond b (e ∷ segments_left segments areas) (segments_left segments areas)) same
      ∙ ap (λ l. cond (list_any (shows_segment e.0) rest) (e ∷ l) l) (segments_same shown segments)

  -- a segment of another number
  other_segment : (n : ℕ) → (number == n) ≡ false → list_any (shows_segment n) areas ≡ list_any (shows_segment n) rest
  other_segment n h = any_without (shows_segment n) areas k x there ∙ ap (λ b. b || list_any (shows_segment n) rest) h

  other_segments : (segments : Map ℕ Segment) → AllByRecursion (λ n. nat_cmp number n ≡ Less) (keys_of segments) → segments_left segments areas ≡ segments_left segments rest
  other_segments [] h = refl
  other_segments (e ∷ segments) h =
      let apart : (number == e.0) ≡ false = false_from_ne_true _ (λ b. less_equal h.0 (ap (λ (n : ℕ). is_eq (nat_cmp number n)) (sym (eqb-true number e.0 b)) ∙ ap is_eq (tied_itself nat_cmp_total number))) in
      ap (λ b. cond b (e ∷ segments_left segments areas) (segments_left segments areas)) (other_segment e.0 apart)
      ∙ ap (λ l. cond (list_any (shows_segment e.0) rest) (e ∷ l) l) (other_segments segments h.1)

  -- no other area shows it
  pub segment_gone : list_any (shows_segment number) rest ≡ false → (segments : Map ℕ Segment) → IsStrictlySortedBy nat_cmp (keys_of segments) → without nat_cmp (segments_left segments areas) number ≡ segments_left segments rest
  segment_gone gone [] sorted = refl
  segment_gone gone (e ∷ segments) sorted =
      let tail = sorted_tail nat_cmp e.0 (keys_of segments) sorted in
      elim (is_eq (nat_cmp number e.0)) as (λ b. is_eq (nat_cmp number e.0) ≡ b → without nat_cmp (segments_left (e ∷ segments) areas) number ≡ segments_left (e ∷ segments) rest) [
        | true ↦ λ b.
            let same : number ≡ e.0 = exact_unsigned number e.0 (equal _ b) in
            let was : list_any (shows_segment e.0) areas ≡ true = any_without (shows_segment e.0) areas k x there ∙ ap (λ c. c || list_any (shows_segment e.0) rest) (eq-eqb number e.0 same) in
            let is : list_any (shows_segment e.0) rest ≡ false = ap (λ (n : ℕ). list_any (shows_segment n) rest) (sym same) ∙ gone in
            ap (λ c. without nat_cmp (cond c (e ∷ segments_left segments areas) (segments_left segments areas)) number) was
            ∙ ap (λ c. cond c (segments_left segments areas) (e ∷ without nat_cmp (segments_left segments areas) number)) b
            ∙ other_segments segments (subst (λ (n : ℕ). AllByRecursion (λ m. nat_cmp n m ≡ Less) (keys_of segments)) (sym same) (sorted_head nat_cmp e.0 (keys_of segments) sorted))
            ∙ sym (ap (λ c. cond c (e ∷ segments_left segments rest) (segments_left segments rest)) is)
        | false ↦ λ b.
            let apart : (number == e.0) ≡ false = false_from_ne_true _ (λ c. true_false (sym (ap (λ (n : ℕ). is_eq (nat_cmp number n)) (sym (eqb-true number e.0 c)) ∙ ap is_eq (tied_itself nat_cmp_total number)) ∙ b)) in
            ap (λ c. without nat_cmp (cond c (e ∷ segments_left segments areas) (segments_left segments areas)) number) (other_segment e.0 apart)
            ∙ elim (list_any (shows_segment e.0) rest) as (λ c. without nat_cmp (cond c (e ∷ segments_left segments areas) (segments_left segments areas)) number ≡ cond c (e ∷ segments_left segments rest) (segments_left segments rest)) [
              | true ↦ ap (λ c. cond c (segments_left segments areas) (e ∷ without nat_cmp (segments_left segments areas) number)) b ∙ ap (λ l. e ∷ l) (segment_gone gone segments tail)
              | false ↦ segment_gone gone segments tail
            ]
      ] refl

-- all segments are shown
pub all_left : (areas : Map (ℕ × ℕ) Area) (segments : Map ℕ Segment) → AllShown areas segments → segments ≡ segments_left segments areas
all_left areas [] h = refl
all_left areas (e ∷ segments) h = ap (λ l. e ∷ l) (all_left areas segments h.1) ∙ sym (ap (λ b. cond b (e ∷ segments_left segments areas) (segments_left segments areas)) h.0)

-- ---- one area goes

module _ (pid first end : ℕ) (areas now : Map (ℕ × ℕ) Area) (s : ℕ) (x : Area) (there : get spot_cmp areas (pid, s) ≡ Some x) (gone : now ≡ without spot_cmp areas (pid, s)) where
  pub step_others : first ≤ s → s < end → (total : Map (ℕ × ℕ) Area) → others pid first end areas ≡ total → others pid first end now ≡ total
  step_others low high total so_far =
      ap (others pid first end) gone ∙ others_without pid first end areas (pid, s) (own_from pid first end ((pid, s), x) refl low high) ∙ so_far

  pub step_shown : (r : Bool) → r ≡ list_any (shows_segment x.page.segment) now → r ≡ true → (segments all : Map ℕ Segment) → segments ≡ segments_left all areas → segments ≡ segments_left all now
  step_shown r is shown segments all so_far =
      so_far ∙ segments_same areas (pid, s) x there (ap (list_any (shows_segment x.page.segment)) (sym gone) ∙ sym is ∙ shown) all ∙ ap (segments_left all) (sym gone)

  pub step_gone : (r : Bool) → r ≡ list_any (shows_segment x.page.segment) now → r ≡ false → (segments new all : Map ℕ Segment) → IsStrictlySortedBy nat_cmp (keys_of all) → segments ≡ segments_left all areas
      → new ≡ without nat_cmp segments x.page.segment → new ≡ segments_left all now
  step_gone r is shown segments new all sorted so_far removed =
      removed ∙ ap (λ m. without nat_cmp m x.page.segment) so_far
      ∙ segment_gone areas (pid, s) x there (ap (list_any (shows_segment x.page.segment)) (sym gone) ∙ sym is ∙ shown) all sorted ∙ ap (segments_left all) (sym gone)

-- all are removed
pub both_left : (pid first end : ℕ) (t now : Table) → now.areas ≡ others pid first end t.areas → now.next ≡ t.next → now.segments ≡ segments_left t.segments now.areas → now ≡ without_own t pid first end
both_left pid first end t now areas next segments =
    let left = segments ∙ ap (segments_left t.segments) areas in
    λ i. record { areas = areas i; segments = left i; next = next i }

-- a segment is removed after an area
pub dropped_from : (t taken dropped : Table) (areas : Map (ℕ × ℕ) Area) (n : ℕ) → taken ≡ with_areas t areas → dropped ≡ record taken { segments = without nat_cmp taken.segments n } → dropped.segments ≡ without nat_cmp t.segments n
dropped_from t taken dropped areas n took is = ap (λ (u : Table). u.segments) is ∙ ap (λ (u : Table). without nat_cmp u.segments n) took
