-- Whether an area of a process shows a pinned page.
use Rattle.std.proofs.Common.{◌≡◌, ℕ, suc, zero, ◌+◌, ◌-◌, ◌<◌, ◌≤◌, Bool, true, false, ◌&&◌, ◌||◌, List, [], ◌∷◌, refl, sym, ap, subst, ◌∙◌, arith, inl, inr}
use Rattle.std.specs.Prelude.{Some, None, nat_lt, ◌==◌, max, min, slice_index_or}
use Rattle.std.specs.List.{list_any}
use Rattle.std.specs.Option.{unwrap_or, option_map}
use Rattle.std.proofs.lemmas.Bool.{or_left, or_right, eqb-true, eq-eqb, lt-ltb}
use Rattle.nm_types.specs.declared.page.Page.{Page}
use Rattle.nm_types.specs.declared.area.Area.{Area}
use Rattle.nm_types.specs.Map.{Map, get, page_cmp}
use Rattle.nm_model.specs.definitions.Areas.{Mapping}
use Rattle.nm_rmap.specs.Mappers.{Mappers}
use Rattle.nm_rmap.specs.Mappers.{frame_pins as pins_of_frame}
use Rattle.nm_model.specs.definitions.PageTables.{Task}
use Rattle.nm_spaces.specs.views.AddressSpaces.{AddressSpacesView, spaces_view, pins_here}
use Rattle.nm_types.specs.State.{PlacedArea, area_over, page_of, page_shown, page_at}
use Rattle.nm_types.proofs.Cases.{none_some, some_is, true_false}
use Rattle.nm_model.specs.definitions.Effect.{pages_from, pages_between}
use Rattle.nm_model.specs.definitions.Effect.{shows_pinned}
use Rattle.nm_model.specs.definitions.Sound.{AreasAreApart}
use Rattle.nm_model.proofs.areas.Apart.{covers_parts, covers_from}
use Rattle.nm_model.proofs.areas.Parted.{Among, among_over, over_among, among_any}
use Rattle.nm_laws.proofs.Soundness.Released.{Listed}
use Rattle.nm_laws.proofs.Soundness.Dropped.{listed_from}
use Rattle.nm_types.proofs.Maps.{exact_page, get-values}
use Rattle.nm_spaces.proofs.Tied.PinChanges.{pins_shown}

any_listed : (test : Page → Bool) (pages : List Page) (p : Page) → Listed p pages → test p ≡ true → list_any test pages ≡ true
any_listed test [] p m h = absurd m
any_listed test (q ∷ pages) p (inl e) h = or_left _ _ (ap test (sym e) ∙ h)
any_listed test (q ∷ pages) p (inr m) h = or_right _ _ (any_listed test pages p m h)

-- pages in a row, none of which passes a test
none_in_row : (test : Page → Bool) (segment n index : ℕ) → ((j : ℕ) → j < n → test (record { segment = segment; index = index + j }) ≡ false) → list_any test (pages_from segment index n) ≡ false
none_in_row test segment zero index h = refl
none_in_row test segment (suc n) index h =
    let at : ℕ → Page = λ i. record { segment = segment; index = i } in
    let here : index ≡ index + 0 = omega arith in
    let head : test (at index) ≡ false = ap (λ i. test (at i)) here ∙ h 0 (omega arith) in
    let rest : list_any test (pages_from segment (index + 1) n) ≡ false = none_in_row test segment n (index + 1) (λ j lt.
    let next : (index + 1) + j ≡ index + suc j = omega arith in
    ap (λ i. test (at i)) next ∙ h (suc j) (omega (arith, lt))) in
    ap (λ b. b || list_any test (pages_from segment (index + 1) n)) head ∙ rest

none_among : (test : PlacedArea → Bool) (areas : List PlacedArea) → ((a : PlacedArea) → Among a areas → test a ≡ false) → list_any test areas ≡ false
none_among test [] h = refl
none_among test (a ∷ areas) h = ap (λ b. b || list_any test areas) (h a (inl refl)) ∙ none_among test areas (λ b m. h b (inr m))

module _ (areas : Map (ℕ × ℕ) Area) (pins : Map Page ℕ) (pid first end : ℕ) where
  abbrev has_pins : Page → Bool
  has_pins p = nat_lt 0 (unwrap_or (get page_cmp pins p) 0)

  -- a pinned page that is shown in the range
  pub busy_there : (v : ℕ) (p : Page) → page_at areas pid v ≡ Some p → first ≤ v → v < end → has_pins p ≡ true → shows_pinned areas pins pid first end ≡ true
  busy_there v p shown low high pinned =
      elim (area_over areas pid v) as (λ o. area_over areas pid v ≡ o → page_shown o v ≡ Some p → shows_pinned areas pins pid first end ≡ true) [
        | None ↦ λ o k. absurd (none_some k)
        | Some a ↦ λ o k.
            let found = among_over areas pid v a o in
            let parts = covers_parts a pid v found.1 in
            let is : page_of a v ≡ p = some_is k in
            let listed = listed_from a.1.page.segment (min end (a.0.1 + a.1.pages) - max first a.0.1) (a.1.page.index + (max first a.0.1 - a.0.1)) (page_of a v) refl
            (omega (arith, low, parts.1)) (omega (arith, low, high, parts.1, parts.2)) in
            let one : list_any has_pins (pages_between first end a) ≡ true =
            any_listed has_pins (pages_between first end a) (page_of a v) listed (ap has_pins is ∙ pinned) in
            among_any (λ (a : PlacedArea). (a.0.0 == pid) && list_any has_pins (pages_between first end a)) areas a found.0
            (ap (λ b. b && list_any has_pins (pages_between first end a)) (eq-eqb a.0.0 pid parts.0) ∙ one)
      ] refl shown

  -- no page that is shown in the range is pinned
  pub none_busy : AreasAreApart areas → ((v : ℕ) (p : Page) → first ≤ v → v < end → page_at areas pid v ≡ Some p → has_pins p ≡ false) → shows_pinned areas pins pid first end ≡ false
  none_busy apart none =
      none_among (λ (a : PlacedArea). (a.0.0 == pid) && list_any has_pins (pages_between first end a)) areas (λ a m.
      elim (a.0.0 == pid) as (λ b. (a.0.0 == pid) ≡ b → (b && list_any has_pins (pages_between first end a)) ≡ false) [
        | false ↦ λ b. refl
        | true ↦ λ b.
            let from = max first a.0.1 in
            none_in_row has_pins a.1.page.segment (min end (a.0.1 + a.1.pages) - from) (a.1.page.index + (from - a.0.1)) (λ j lt.
            let v = from + j in
            let over = over_among areas pid v a apart m (covers_from a pid v (eqb-true a.0.0 pid b) (omega arith) (omega (arith, lt))) in
            let at : a.1.page.index + (v - a.0.1) ≡ a.1.page.index + (from - a.0.1) + j = omega arith in
            let page : page_of a v ≡ record { segment = a.1.page.segment; index = a.1.page.index + (from - a.0.1) + j } = λ i. record { segment = a.1.page.segment; index = at i } in
            none v _ (omega arith) (omega (arith, lt)) (ap (λ o. page_shown o v) over ∙ ap Some page))
      ] refl)

none_listed : (test : Page → Bool) (pages : List Page) → ((p : Page) → test p ≡ false) → list_any test pages ≡ false
none_listed test [] h = refl
none_listed test (p ∷ pages) h = ap (λ b. b || list_any test pages) (h p) ∙ none_listed test pages h

-- where no frame of a list is pinned, none at a place is
unpinned_at : (pins : List ℕ) (f : ℕ) → list_any (λ n. nat_lt 0 n) pins ≡ false → nat_lt 0 (slice_index_or pins f 0) ≡ false
unpinned_at [] f h = refl
unpinned_at (n ∷ pins) zero h = elim (nat_lt 0 n) as (λ b. (b || list_any (λ n. nat_lt 0 n) pins) ≡ false → b ≡ false) [ true ↦ λ e. e | false ↦ λ e. refl ] h
unpinned_at (n ∷ pins) (suc f) h = unpinned_at pins f (elim (nat_lt 0 n) as (λ b. (b || list_any (λ n. nat_lt 0 n) pins) ≡ false → list_any (λ n. nat_lt 0 n) pins ≡ false) [ true ↦ λ e. absurd (true_false e) | false ↦ λ e. e ] h)

-- ---- the pins of pages that a process shows, by the reverse map

module _ (y : AddressSpacesView) (tasks : Map ℕ Task) (m : Mapping) (r : Mappers) (is : spaces_view tasks m r ≡ y) where
  pub placed_pins : (p : Page) (f : ℕ) → get page_cmp m.place p ≡ Some f → pins_here y p ≡ pins_of_frame r f
  placed_pins p f placed = pins_shown y tasks m r p f is (ap (λ (y : AddressSpacesView). get page_cmp y.place p) (sym is) ∙ placed)

  pub unplaced_pins : (p : Page) → get page_cmp m.place p ≡ None → nat_lt 0 (pins_here y p) ≡ false
  unplaced_pins p none =
      ap (λ (y : AddressSpacesView). nat_lt 0 (pins_here y p)) (sym is)
      ∙ ap (λ o. nat_lt 0 (unwrap_or o 0)) (get-values exact_page (λ q f. pins_of_frame r f) m.place p ∙ ap (option_map (λ f. pins_of_frame r f)) none)

  -- none is pinned where no frame of a page is that is shown
  pub none_at_all : (pid first end : ℕ) → AreasAreApart m.areas → ((v : ℕ) (p : Page) (f : ℕ) → first ≤ v → v < end → page_at m.areas pid v ≡ Some p → get page_cmp m.place p ≡ Some f → pins_of_frame r f ≡ 0)
      → shows_pinned y.areas y.pins pid first end ≡ false
  none_at_all pid first end apart none =
      let same : y.areas ≡ m.areas = ap (λ (y : AddressSpacesView). y.areas) (sym is) in
      none_busy y.areas y.pins pid first end (subst AreasAreApart (sym same) apart) (λ v p low high here.
      let there : page_at m.areas pid v ≡ Some p = ap (λ areas. page_at areas pid v) (sym same) ∙ here in
      elim (get page_cmp m.place p) as (λ o. get page_cmp m.place p ≡ o → nat_lt 0 (pins_here y p) ≡ false) [
        | None ↦ λ e. unplaced_pins p e
        | Some f ↦ λ e. ap (nat_lt 0) (placed_pins p f e ∙ none v p f low high there e)
      ] refl)

  -- one is pinned
  pub one_there : (pid first end w : ℕ) (q : Page) (f : ℕ) → first ≤ w → w < end → page_at m.areas pid w ≡ Some q → get page_cmp m.place q ≡ Some f → 0 < pins_of_frame r f
      → shows_pinned y.areas y.pins pid first end ≡ true
  one_there pid first end w q f low high shown placed some =
      let same : y.areas ≡ m.areas = ap (λ (y : AddressSpacesView). y.areas) (sym is) in
      busy_there y.areas y.pins pid first end w q (ap (λ areas. page_at areas pid w) same ∙ shown) low high
      (ap (nat_lt 0) (placed_pins q f placed) ∙ lt-ltb 0 (pins_of_frame r f) some)

  -- where no frame is pinned, no page is
  pub none_pinned : (pid first end : ℕ) → list_any (λ n. nat_lt 0 n) r.pins ≡ false → shows_pinned y.areas y.pins pid first end ≡ false
  none_pinned pid first end h =
      let unpinned : (p : Page) → nat_lt 0 (pins_here y p) ≡ false = λ p.
      elim (get page_cmp m.place p) as (λ o. get page_cmp m.place p ≡ o → nat_lt 0 (pins_here y p) ≡ false) [
        | None ↦ λ e. unplaced_pins p e
        | Some f ↦ λ e. ap (nat_lt 0) (placed_pins p f e) ∙ unpinned_at r.pins f h
      ] refl in
      none_among (λ (a : PlacedArea). (a.0.0 == pid) && list_any (λ p. nat_lt 0 (pins_here y p)) (pages_between first end a)) y.areas (λ a m.
      elim (a.0.0 == pid) as (λ b. (b && list_any (λ p. nat_lt 0 (pins_here y p)) (pages_between first end a)) ≡ false) [
        | false ↦ refl
        | true ↦ none_listed (λ p. nat_lt 0 (pins_here y p)) (pages_between first end a) unpinned
      ])
