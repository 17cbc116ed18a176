-- A private page is shown at one page number alone.
use Rattle.std.proofs.Common.{◌≡◌, ℕ, ◌+◌, ◌-◌, ◌≤◌, ◌<◌, [], ◌∷◌, true, false, cond, refl, sym, ap, subst, ◌∙◌, arith, inl, inr, eq-eqb}
use Rattle.std.specs.Prelude.{Some, None, ◌⊎◌, if◌then◌else◌}
use Rattle.std.specs.Option.{unwrap_or, option_map}
use Rattle.std.specs.List.{AllByRecursion, list_any}
use Rattle.std.specs.Ordering.{nat_cmp, is_eq, eq_by_cmp}
use Rattle.std.specs.Cmp.{nat_cmp_total}
use Rattle.std.proofs.lemmas.Bool.{and_parts, false_from_ne_true}
use Rattle.std.proofs.lemmas.Map.Lookups.{exact_unsigned}
use Rattle.nm_types.specs.declared.page.Page.{Page}
use Rattle.nm_types.specs.declared.area.Area.{Area}
use Rattle.nm_types.specs.declared.area.Segment.{Segment}
use Rattle.nm_types.specs.Map.{Map, get, set, spot_cmp}
use Rattle.nm_types.specs.State.{PlacedArea, covers, area_over, page_of, page_shown, page_at}
use Rattle.nm_types.proofs.Cases.{true_false, none_some, some_is}
use Rattle.nm_model.specs.definitions.Areas.{is_shared}
use Rattle.nm_model.specs.definitions.Areas.{AreasAreApart, IsSomePages, shows_segment, PrivateIsOnce}
use Rattle.nm_model.specs.definitions.AreaRefusal.{is_stretch}
use Rattle.nm_model.specs.definitions.Areas.{areas_left, segments_left, begins_in}
use Rattle.nm_types.proofs.Maps.{equal, get-set}
use Rattle.nm_model.proofs.areas.Apart.{one_more, NoneOverlaps, area_over-set, covers_parts}
use Rattle.nm_model.proofs.areas.Parted.{Among, All-among, among_over, among_any}
use Rattle.nm_model.proofs.areas.Shown.{left_shows}

-- ---- the area behind a page that is shown

shown_by : (areas : Map (ℕ × ℕ) Area) (q v : ℕ) (p : Page) → page_at areas q v ≡ Some p → (a : PlacedArea) × Among a areas × (covers a q v ≡ true) × (page_of a v ≡ p)
shown_by areas q v p h =
    elim (area_over areas q v) as (λ o. area_over areas q v ≡ o → page_shown o v ≡ Some p → (a : PlacedArea) × Among a areas × (covers a q v ≡ true) × (page_of a v ≡ p)) [
      | None ↦ λ o k. absurd (none_some k)
      | Some a ↦ λ o k. let found = among_over areas q v a o in (a, found.0, found.1, some_is k)
    ] refl h

-- its segment has a number below the next one's
pub shown_below : (areas : Map (ℕ × ℕ) Area) (next q v : ℕ) (p : Page) → AllByRecursion (λ a. a.1.page.segment < next) areas → page_at areas q v ≡ Some p → p.segment < next
shown_below areas next q v p below h =
    let a = shown_by areas q v p h in
    let low = All-among (λ x. x.1.page.segment < next) areas a.0 below a.1 in
    subst (λ (n : ℕ). n < next) (ap (λ (r : Page). r.segment) a.3) low

-- ---- other areas that show the same

pub once_same : (areas now : Map (ℕ × ℕ) Area) (segments : Map ℕ Segment) → ((q v : ℕ) → page_at now q v ≡ page_at areas q v) → PrivateIsOnce areas segments → PrivateIsOnce now segments
once_same areas now segments same once pid v q w p here there private = once pid v q w p (sym (same pid v) ∙ here) (sym (same q w) ∙ there) private

-- ---- less

module _ (areas : Map (ℕ × ℕ) Area) where
  -- a segment that is shown is kept
  pub get_kept : (segments : Map ℕ Segment) (n : ℕ) → list_any (shows_segment n) areas ≡ true → get nat_cmp (segments_left segments areas) n ≡ get nat_cmp segments n
  get_kept [] n h = refl
  get_kept (e ∷ segments) n h =
      let more = get_kept segments n h in
      elim (list_any (shows_segment e.0) areas) as (λ b. list_any (shows_segment e.0) areas ≡ b → get nat_cmp (cond b (e ∷ segments_left segments areas) (segments_left segments areas)) n ≡ get nat_cmp (e ∷ segments) n) [
        | true ↦ λ b. ap (cond (is_eq (nat_cmp n e.0)) (Some e.1)) more
        | false ↦ λ b. elim (is_eq (nat_cmp n e.0)) as (λ c. is_eq (nat_cmp n e.0) ≡ c → get nat_cmp (segments_left segments areas) n ≡ cond c (Some e.1) (get nat_cmp segments n)) [
          | true ↦ λ c. absurd (true_false (sym h ∙ ap (λ (m : ℕ). list_any (shows_segment m) areas) (exact_unsigned n e.0 (equal _ c)) ∙ b))
          | false ↦ λ c. more
        ] refl
      ] refl

module _ (pid first end : ℕ) (range : first ≤ end) (areas : Map (ℕ × ℕ) Area) (some : AllByRecursion IsSomePages areas) (apart : AreasAreApart areas) where
  was_shown : (q v : ℕ) (p : Page) → page_at (areas_left areas pid first end) q v ≡ Some p → page_at areas q v ≡ Some p
  was_shown q v p h =
      elim (begins_in pid first end (q, v)) as (λ b. (if b then None else page_at areas q v) ≡ Some p → page_at areas q v ≡ Some p) [
        | true ↦ λ k. absurd (none_some k)
        | false ↦ λ k. k
      ] (sym (left_shows pid first end range areas some apart q v) ∙ h)

  pub once_left : (segments : Map ℕ Segment) → PrivateIsOnce areas segments → PrivateIsOnce (areas_left areas pid first end) (segments_left segments (areas_left areas pid first end))
  once_left segments once q v r w p here there private =
      let left = areas_left areas pid first end in
      let a = shown_by left q v p here in
      let shown : list_any (shows_segment p.segment) left ≡ true = among_any (shows_segment p.segment) left a.0 a.1 (eq-eqb a.0.1.page.segment p.segment (ap (λ (x : Page). x.segment) a.3)) in
      once q v r w p (was_shown q v p here) (was_shown r w p there)
      (ap (λ o. unwrap_or (option_map (λ segment. segment.shared) o) false) (sym (get_kept left segments p.segment shown)) ∙ private)

-- ---- one area more

-- an existing segment has a number below the next one's
pub numbered : (m : Map ℕ Segment) (n next : ℕ) (segment : Segment) → AllByRecursion (λ e. e.0 < next) m → get nat_cmp m n ≡ Some segment → n < next
numbered [] n next segment h found = absurd (none_some found)
numbered (e ∷ m) n next segment h found =
    elim (is_eq (nat_cmp n e.0)) as (λ b. is_eq (nat_cmp n e.0) ≡ b → cond b (Some e.1) (get nat_cmp m n) ≡ Some segment → n < next) [
      | true ↦ λ b k. let same : n ≡ e.0 = exact_unsigned n e.0 (equal _ b) in omega (arith, same, h.0)
      | false ↦ λ b k. numbered m n next segment h.1 k
    ] refl found

-- a segment with such a range exists, and is shared
pub stretch_shared : (m : Map ℕ Segment) (number offset pages next : ℕ) → AllByRecursion (λ e. e.0 < next) m → true ≡ is_stretch (get nat_cmp m number) offset pages → (is_shared m number ≡ true) × (number < next)
stretch_shared m number offset pages next h is =
    elim (get nat_cmp m number) as (λ o. get nat_cmp m number ≡ o → true ≡ is_stretch o offset pages → (is_shared m number ≡ true) × (number < next)) [
      | None ↦ λ o k. absurd (true_false k)
      | Some segment ↦ λ o k. (
        ap (λ x. unwrap_or (option_map (λ s. s.shared) x) false) o ∙ (and_parts segment.shared _ (sym k)).0,
        numbered m number next segment h o,
      )
    ] refl is

-- any segment other than the next one is shared as before
pub shared_before : (m : Map ℕ Segment) (next n : ℕ) (segment : Segment) → n < next → is_shared (set nat_cmp m next segment) n ≡ is_shared m n
shared_before m next n segment low =
    let other : eq_by_cmp nat_cmp n next ≡ false = false_from_ne_true _ (λ b. let same : n ≡ next = exact_unsigned n next (equal _ b) in omega (arith, same, low)) in
    ap (λ o. unwrap_or (option_map (λ s. s.shared) o) false) (get-set nat_cmp_total m next segment n ∙ ap (λ b. cond b (Some segment) (get nat_cmp m n)) other)

module _ (pid first : ℕ) (new : Area) (areas : Map (ℕ × ℕ) Area) (fresh : 0 < new.pages) (some : AllByRecursion IsSomePages areas) (none : NoneOverlaps pid first new areas) where
  abbrev more : Map (ℕ × ℕ) Area
  more = set spot_cmp areas (pid, first) new

  -- what is shown was shown, or is the new area's
  old_or_new : (q v : ℕ) (p : Page) → page_at more q v ≡ Some p → (page_at areas q v ≡ Some p) ⊎ ((covers (one_more pid first new) q v ≡ true) × (page_of (one_more pid first new) v ≡ p))
  old_or_new q v p h =
      elim (covers (one_more pid first new) q v) as (λ b. covers (one_more pid first new) q v ≡ b → page_shown (cond b (Some (one_more pid first new)) (area_over areas q v)) v ≡ Some p
      → (page_at areas q v ≡ Some p) ⊎ ((covers (one_more pid first new) q v ≡ true) × (page_of (one_more pid first new) v ≡ p))) [
        | true ↦ λ b k. inr (b, some_is k)
        | false ↦ λ b k. inl k
      ] refl (sym (ap (λ o. page_shown o v) (area_over-set pid first new areas q v fresh some none)) ∙ h)

  -- the new area shows each page once
  new_once : (q v r w : ℕ) (p : Page) → covers (one_more pid first new) q v ≡ true → page_of (one_more pid first new) v ≡ p → covers (one_more pid first new) r w ≡ true → page_of (one_more pid first new) w ≡ p → (q ≡ r) × (v ≡ w)
  new_once q v r w p here at there to =
      let x = covers_parts (one_more pid first new) q v here in
      let y = covers_parts (one_more pid first new) r w there in
      let same : new.page.index + (v - first) ≡ new.page.index + (w - first) = ap (λ (z : Page). z.index) (at ∙ sym to) in
      (sym x.0 ∙ y.0, omega (arith, same, x.1, y.1))

  -- where there are new segments, and the new area's is shared or shown by no other area
  pub once_more : (old now : Map ℕ Segment) (next : ℕ) → AllByRecursion (λ a. a.1.page.segment < next) areas → ((n : ℕ) → n < next → is_shared now n ≡ is_shared old n)
      → (is_shared now new.page.segment ≡ false → new.page.segment < next → ⊥) → PrivateIsOnce areas old → PrivateIsOnce more now
  once_more old now next below same alone once q v r w p here there private =
      let number : (x : ℕ) → page_of (one_more pid first new) x ≡ p → new.page.segment ≡ p.segment = λ x at. ap (λ (z : Page). z.segment) at in
      let cross : (x y u : ℕ) → page_of (one_more pid first new) x ≡ p → page_at areas y u ≡ Some p → ⊥ = λ x y u at shown.
      alone (ap (is_shared now) (number x at) ∙ private) (subst (λ (n : ℕ). n < next) (sym (number x at)) (shown_below areas next y u p below shown)) in
      elim (old_or_new q v p here) as (λ _. (q ≡ r) × (v ≡ w)) [
        | inl k ↦ elim (old_or_new r w p there) as (λ _. (q ≡ r) × (v ≡ w)) [
          | inl j ↦ once q v r w p k j (sym (same p.segment (shown_below areas next q v p below k)) ∙ private)
          | inr j ↦ absurd (cross w q v j.1 k)
        ]
        | inr k ↦ elim (old_or_new r w p there) as (λ _. (q ≡ r) × (v ≡ w)) [
          | inl j ↦ absurd (cross v r w k.1 j)
          | inr j ↦ new_once q v r w p k.0 k.1 j.0 j.1
        ]
      ]
