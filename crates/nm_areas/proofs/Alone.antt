-- No other area covers a page of a private segment.
use Rattle.std.proofs.Common.{◌≡◌, ℕ, ◌+◌, ◌-◌, ◌≤◌, ◌<◌, List, [], ◌∷◌, Bool, true, false, not, ◌&&◌, cond, refl, sym, ap, subst, ◌∙◌, arith, inl, inr}
use Rattle.std.specs.Prelude.{Some, nat_lt, nat_le, ◌==◌, ◌⊎◌}
use Rattle.std.specs.List.{AllByRecursion, filter}
use Rattle.std.proofs.lemmas.Bool.{and_parts, eqb-true, leb-true, ltb-true, ltb-false, false_from_ne_true}
use Rattle.nm_types.specs.declared.page.Page.{Page}
use Rattle.nm_types.specs.declared.area.Area.{Area}
use Rattle.nm_types.specs.declared.area.Segment.{Segment}
use Rattle.nm_types.specs.Map.{Map, get, spot_cmp}
use Rattle.nm_types.specs.State.{PlacedArea, area_over, page_shown, page_at}
use Rattle.nm_types.proofs.Cases.{true_false, some_is}
use Rattle.nm_model.specs.definitions.Areas.{is_shared}
use Rattle.nm_model.specs.definitions.Areas.{mapping_of, AreasAreApart, IsWellFormed, IsSomePages, PrivateIsOnce}
use Rattle.nm_model.specs.definitions.Areas.{covers_page, is_covered}
use Rattle.nm_model.specs.definitions.Areas.{split_at}
use Rattle.nm_model.specs.definitions.Areas.{is_own, others, page_in}
use Rattle.nm_model.specs.views.Table.{Table, with_areas}
use Rattle.nm_model.proofs.areas.Apart.{covers_from}
use Rattle.nm_model.proofs.areas.Parted.{Among, over_among, any_among}
use Rattle.nm_model.proofs.areas.Overs.{get_among}
use Rattle.nm_areas.proofs.Own.{own_from}
use Rattle.nm_model.proofs.areas.Policed.{fine_here, fine_split}
use Rattle.nm_areas.proofs.Private.{once_same}
use Rattle.nm_model.proofs.areas.Repoliced.{split_some, split_apart}
use Rattle.nm_model.proofs.areas.Shown.{left_outside}

-- ---- split areas show the same

side : (at pid q w : ℕ) → q ≡ pid → (w < at) ⊎ (at ≤ w)
side at pid q w own = elim (nat_lt w at) as (λ b. nat_lt w at ≡ b → (w < at) ⊎ (at ≤ w)) [ true ↦ λ b. inl (ltb-true w at b) | false ↦ λ b. inr (ltb-false w at b) ] refl

split_shows : (pid at : ℕ) (areas : Map (ℕ × ℕ) Area) → AllByRecursion IsSomePages areas → AreasAreApart areas → (q w : ℕ) → page_at (split_at pid at areas) q w ≡ page_at areas q w
split_shows pid at areas some apart q w = left_outside pid at at (omega arith) areas some apart q w (side at pid q w)

module _ (t : Table) (place : Map Page ℕ) (h : IsWellFormed (mapping_of t place)) (pid first end : ℕ) (cut : Table) (was : cut ≡ with_areas t (split_at pid end (split_at pid first t.areas))) where
  pub cut_apart : AreasAreApart cut.areas
  cut_apart = subst (λ (u : Table). AreasAreApart u.areas) (sym was) (fine_split pid end (split_at pid first t.areas) (fine_split pid first t.areas (fine_here t place h))).apart

  pub cut_once : PrivateIsOnce cut.areas cut.segments
  cut_once =
      let once = split_at pid first t.areas in
      let some = split_some pid first t.areas h.whole in
      let apart = split_apart pid first t.areas h.whole h.apart in
      subst (λ (u : Table). PrivateIsOnce u.areas u.segments) (sym was)
      (once_same t.areas (split_at pid end once) t.segments (λ q w. split_shows pid end once some apart q w ∙ split_shows pid first t.areas h.whole h.apart q w) h.once)

-- ---- no other area covers a private page

among_filter : (test : PlacedArea → Bool) (areas : List PlacedArea) (a : PlacedArea) → Among a (filter test areas) → Among a areas × (test a ≡ true)
among_filter test [] a m = absurd m
among_filter test (x ∷ areas) a m =
    elim (test x) as (λ b. test x ≡ b → Among a (cond b (x ∷ filter test areas) (filter test areas)) → Among a (x ∷ areas) × (test a ≡ true)) [
      | true ↦ λ b m. elim m as (λ _. Among a (x ∷ areas) × (test a ≡ true)) [
        | inl e ↦ (inl e, ap test e ∙ b)
        | inr n ↦ let rest = among_filter test areas a n in (inr rest.0, rest.1)
      ]
      | false ↦ λ b m. let rest = among_filter test areas a m in (inr rest.0, rest.1)
    ] refl m

-- where an area shows a page of its stretch
shows_at : (areas : Map (ℕ × ℕ) Area) (apart : AreasAreApart areas) (a : PlacedArea) (p : Page) → Among a areas → a.1.page.segment ≡ p.segment → a.1.page.index ≤ p.index → p.index < a.1.page.index + a.1.pages
    → (area_over areas a.0.0 (a.0.1 + (p.index - a.1.page.index)) ≡ Some a) × (page_at areas a.0.0 (a.0.1 + (p.index - a.1.page.index)) ≡ Some p)
shows_at areas apart a p m number low high =
    let w = a.0.1 + (p.index - a.1.page.index) in
    let over = over_among areas a.0.0 w a apart m (covers_from a a.0.0 w refl (omega arith) (omega (arith, low, high))) in
    let index : a.1.page.index + (w - a.0.1) ≡ p.index = omega (arith, low) in
    (over, ap (λ o. page_shown o w) over ∙ (λ i. Some (record { segment = number i; index = index i })))

page_parts : (p : Page) (a : PlacedArea) → covers_page p a ≡ true → (a.1.page.segment ≡ p.segment) × (a.1.page.index ≤ p.index) × (p.index < a.1.page.index + a.1.pages)
page_parts p a h =
    let both = and_parts (a.1.page.segment == p.segment) (nat_le a.1.page.index p.index && nat_lt p.index (a.1.page.index + a.1.pages)) h in
    let ends = and_parts (nat_le a.1.page.index p.index) (nat_lt p.index (a.1.page.index + a.1.pages)) both.1 in
    (eqb-true a.1.page.segment p.segment both.0, leb-true a.1.page.index p.index ends.0, ltb-true p.index (a.1.page.index + a.1.pages) ends.1)

pub none_beside : (areas : Map (ℕ × ℕ) Area) (segments : Map ℕ Segment) (pid first end s : ℕ) (x : Area) → AreasAreApart areas → PrivateIsOnce areas segments → get spot_cmp areas (pid, s) ≡ Some x → first ≤ s → s < end
    → is_shared segments x.page.segment ≡ false → (i : ℕ) → x.page.index ≤ i → i < x.page.index + x.pages → is_covered (others pid first end areas) (page_in x.page.segment i) ≡ false
none_beside areas segments pid first end s x apart once there low high private i from to =
    let p = page_in x.page.segment i in
    let it : PlacedArea = ((pid, s), x) in
    false_from_ne_true (is_covered (others pid first end areas) p) (λ covered.
    let found = any_among (covers_page p) (others pid first end areas) covered in
    let a = found.0 in
    let other = among_filter (λ y. not (is_own pid first end y)) areas a found.1 in
    let parts = page_parts p a found.2 in
    let mine = shows_at areas apart it p (get_among areas (pid, s) x there) refl from to in
    let theirs = shows_at areas apart a p other.0 parts.0 parts.1 parts.2 in
    let same = once pid (s + (i - x.page.index)) a.0.0 (a.0.1 + (i - a.1.page.index)) p mine.1 theirs.1 private in
    let is : it ≡ a = some_is (sym mine.0 ∙ ap (λ (q : ℕ). area_over areas q (s + (i - x.page.index))) same.0 ∙ ap (area_over areas a.0.0) same.1 ∙ theirs.0) in
    true_false (sym other.1 ∙ ap (λ (y : PlacedArea). not (is_own pid first end y)) (sym is) ∙ ap not (own_from pid first end it refl low high)))
