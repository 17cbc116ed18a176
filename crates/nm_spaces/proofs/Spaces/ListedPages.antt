-- The pages that a process sees, listed from the entries of its page table.
use Rattle.std.proofs.Common.{◌≡◌, ℕ, zero, suc, ◌+◌, ◌<◌, ◌≤◌, nat_lt, ◌&&◌, Bool, true, false, cond, List, [], ◌∷◌, ◌++◌, length, drop, get_or, refl, sym, ap, subst, ◌∙◌, append_assoc, drop-cons, length-append, arith, ◌-◌}
use Rattle.std.proofs.lemmas.List.{drop_all, append-nil, length-map}
use Rattle.std.proofs.lemmas.List.Concat.{flat_map-cons}
use Rattle.std.proofs.lemmas.Map.Lookups.{exact_unsigned}
use Rattle.std.specs.Cmp.{nat_cmp_total}
use Rattle.std.specs.List.{AllByRecursion, filter}
use Rattle.std.specs.Ordering.{nat_cmp}
use Rattle.std.specs.Option.{unwrap_or}
use Rattle.std.specs.Prelude.{nat_le, Option, Some, None}
use Rattle.nm_types.specs.declared.page.Page.{Page}
use Rattle.nm_types.specs.declared.area.Area.{Area}
use Rattle.nm_types.specs.declared.sight.Sight.{Sight}
use Rattle.nm_types.specs.declared.sight.Sight.TheVariants.{ZeroPage, Sees}
use Rattle.nm_types.specs.Layout.{Layout}
use Rattle.nm_types.specs.Map.{Map, get, page_cmp, with_values}
use Rattle.nm_types.specs.State.{page_at}
use Rattle.nm_types.proofs.Maps.{all_from_get}
use Rattle.nm_types.specs.declared.entry.Entry.{Entry}
use Rattle.nm_model.specs.definitions.Areas.{Mapping}
use Rattle.nm_rmap.specs.Mappers.{Mappers}
use Rattle.nm_tables.specs.definitions.Lists.{IsCutShort}
use Rattle.nm_types.specs.declared.located_page.LocatedPage.{LocatedPage}
use Rattle.nm_spaces.specs.views.AddressSpaces.{AddressSpacesView, spaces_view}
use Rattle.nm_model.specs.definitions.PageTables.{sight_of, page_here}
use Rattle.nm_model.specs.definitions.Seen.{locate, located_in, in_frame}
use Rattle.nm_model.specs.definitions.PageTables.{Task, entry_at}
use Rattle.nm_spaces.specs.views.ProcessTable.{entries_in, names}
use Rattle.nm_model.specs.definitions.Seen.{between, sights}
use Rattle.nm_spaces.specs.definitions.Tied.{IsTied}
use Rattle.nm_spaces.proofs.Spaces.Walks.{found_in, sorted_of, range_shown, few_between, next_sight, no_sight}

-- the pages behind entries of a process
abbrev pub pages_in : Layout → Map Page ℕ → Map (ℕ × ℕ) Area → ℕ → Map ℕ Entry → List LocatedPage
pages_in g place areas pid es = located_in g place (with_values (sight_of areas pid) es)

-- ---- one entry after another

module _ (g : Layout) (place : Map Page ℕ) (areas : Map (ℕ × ℕ) Area) (pid : ℕ) (es : Map ℕ Entry) (k : ℕ) where
  module _ (e : ℕ × Entry) (low : k < length es) (is : e ≡ get_or es k e) where
    next : pages_in g place areas pid (drop k es) ≡ locate g place e.0 (sight_of areas pid e.0 e.1) ++ pages_in g place areas pid (drop (k + 1) es)
    next =
        let more : suc k ≡ k + 1 = omega arith in
        ap (pages_in g place areas pid) (drop-cons es k e low ∙ ap (λ (x : ℕ × Entry). x ∷ drop (suc k) es) (sym is) ∙ ap (λ j. e ∷ drop j es) more)
        ∙ flat_map-cons (λ (x : ℕ × _). locate g place x.0 x.1) (e.0, sight_of areas pid e.0 e.1) (with_values (sight_of areas pid) (drop (k + 1) es))

    -- an entry with these pages behind it
    pub step : (pages done all : List LocatedPage) → locate g place e.0 (sight_of areas pid e.0 e.1) ≡ pages → done ++ pages_in g place areas pid (drop k es) ≡ all → (done ++ pages) ++ pages_in g place areas pid (drop (k + 1) es) ≡ all
    step pages done all here before =
        append_assoc done pages (pages_in g place areas pid (drop (k + 1) es))
        ∙ ap (λ xs. done ++ (xs ++ pages_in g place areas pid (drop (k + 1) es))) (sym here)
        ∙ ap (λ xs. done ++ xs) (sym next)
        ∙ before

    -- an entry without a page
    pub step_over : (done all : List LocatedPage) → locate g place e.0 (sight_of areas pid e.0 e.1) ≡ [] → done ++ pages_in g place areas pid (drop k es) ≡ all → done ++ pages_in g place areas pid (drop (k + 1) es) ≡ all
    step_over done all here before =
        ap (λ xs. done ++ (xs ++ pages_in g place areas pid (drop (k + 1) es))) (sym here) ∙ ap (λ xs. done ++ xs) (sym next) ∙ before

  -- no entry is left
  pub ended : (done all : List LocatedPage) → length es ≤ k → done ++ pages_in g place areas pid (drop k es) ≡ all → done ≡ all
  ended done all past before =
      sym (append-nil done) ∙ ap (λ xs. done ++ pages_in g place areas pid xs) (sym (drop_all k es past)) ∙ before

module _ (g : Layout) (place : Map Page ℕ) where
  one_at_most : (v : ℕ) (x : Sight) → length (locate g place v x) ≤ 1
  one_at_most v ZeroPage = omega arith
  one_at_most v (Sees p) =
      elim (get page_cmp place p) as (λ o. length (in_frame g v p o) ≤ 1) [ None ↦ omega arith | Some frame ↦ omega arith ]

  -- there are no more pages than entries
  few_behind : (areas : Map (ℕ × ℕ) Area) (pid : ℕ) (es : Map ℕ Entry) → length (pages_in g place areas pid es) ≤ length es
  few_behind areas pid [] = omega arith
  few_behind areas pid (e ∷ es) =
      let x = sight_of areas pid e.0 e.1 in
      let all =
      ap length (flat_map-cons (λ (x : ℕ × _). locate g place x.0 x.1) (e.0, x) (with_values (sight_of areas pid) es))
      ∙ length-append (locate g place e.0 x) (pages_in g place areas pid es) in
      omega (arith, all, one_at_most e.0 x, few_behind areas pid es)

  all_both : (P : LocatedPage → Type 0) (xs ys : List LocatedPage) → AllByRecursion P xs → AllByRecursion P ys → AllByRecursion P (xs ++ ys)
  all_both P [] ys h k = k
  all_both P (x ∷ xs) ys h k = (h.0, all_both P xs ys h.1 k)

  in_its_frame : (v : ℕ) (p : Page) (o : Option ℕ) → get page_cmp place p ≡ o → AllByRecursion (λ e. get page_cmp place e.page ≡ Some e.frame) (in_frame g v p o)
  in_its_frame v p None e = tt
  in_its_frame v p (Some frame) e = (e, tt)

  in_place : (v : ℕ) (x : Sight) → AllByRecursion (λ e. get page_cmp place e.page ≡ Some e.frame) (locate g place v x)
  in_place v ZeroPage = tt
  in_place v (Sees p) = in_its_frame v p (get page_cmp place p) refl

  -- each page has the frame that is listed for it
  pub all_in_place : (sees : Map ℕ Sight) → AllByRecursion (λ e. get page_cmp place e.page ≡ Some e.frame) (located_in g place sees)
  all_in_place [] = tt
  all_in_place (e ∷ sees) =
      subst (AllByRecursion (λ e. get page_cmp place e.page ≡ Some e.frame)) (sym (flat_map-cons (λ (x : ℕ × _). locate g place x.0 x.1) e sees))
      (all_both (λ e. get page_cmp place e.page ≡ Some e.frame) (locate g place e.0 e.1) (located_in g place sees) (in_place e.0 e.1) (all_in_place sees))

-- ---- what stands behind an entry

all_filtered : {X : Type 0} (P : X → Type 0) (test : X → Bool) (xs : List X) → AllByRecursion P xs → AllByRecursion P (filter test xs)
all_filtered P test [] h = tt
all_filtered P test (x ∷ xs) h =
    elim (test x) as (λ b. AllByRecursion P (cond b (x ∷ filter test xs) (filter test xs))) [
      | true ↦ (h.0, all_filtered P test xs h.1)
      | false ↦ all_filtered P test xs h.1
    ]

pub all_at : {X : Type 0} (P : X → Type 0) (xs : List X) (k : ℕ) (x : X) → AllByRecursion P xs → k < length xs → P (get_or xs k x)
all_at P [] k x h low = absurd (omega (arith, low))
all_at P (y ∷ xs) zero x h low = h.0
all_at P (y ∷ xs) (suc k) x h low = all_at P xs k x h.1 (omega (arith, low))

module _ (y : AddressSpacesView) (tasks : Map ℕ Task) (m : Mapping) (r : Mappers) (pid : ℕ) (is : spaces_view tasks m r ≡ y) (h : IsTied tasks m r) where
  found : AllByRecursion (λ e. entry_at tasks pid e.0 ≡ Some e.1) (entries_in tasks pid)
  found =
      all_from_get nat_cmp_total exact_unsigned (λ v x. entry_at tasks pid v ≡ Some x) (entries_in tasks pid) (sorted_of tasks pid (get nat_cmp tasks pid) h.tables refl)
      (λ v x there. found_in (get nat_cmp tasks pid) v ∙ there)

  -- an entry of a range is the process's entry at its page number
  pub found_between : (first end k : ℕ) (es : Map ℕ Entry) (e : ℕ × Entry) → es ≡ between first end (entries_in tasks pid) → k < length es → e ≡ get_or es k e → entry_at tasks pid e.0 ≡ Some e.1
  found_between first end k es e range low at =
      subst (λ (x : ℕ × Entry). entry_at tasks pid x.0 ≡ Some x.1) (sym at)
      (all_at (λ (x : ℕ × Entry). entry_at tasks pid x.0 ≡ Some x.1) es k e
      (subst (AllByRecursion (λ (x : ℕ × Entry). entry_at tasks pid x.0 ≡ Some x.1)) (sym range)
      (all_filtered (λ (x : ℕ × Entry). entry_at tasks pid x.0 ≡ Some x.1) (λ (x : ℕ × Entry). nat_le first x.0 && nat_lt x.0 end) (entries_in tasks pid) found)) low)

  module _ (v f : ℕ) (e : Entry) (there : entry_at tasks pid v ≡ Some e) (named : names f (Some e) ≡ true) where
    -- the page that is shown where an entry names a frame has that frame
    pub page_behind : (p : Page) × (page_at y.areas pid v ≡ Some p) × (get page_cmp y.place p ≡ Some f)
    page_behind =
        let s = h.shows f pid v (ap (names f) there ∙ named) in
        (s.0, ap (λ (z : AddressSpacesView). page_at z.areas pid v) (sym is) ∙ s.1, ap (λ (z : AddressSpacesView). get page_cmp z.place s.0) (sym is) ∙ s.2)

    pub frame_behind : f < y.frames
    frame_behind = let s = h.shows f pid v (ap (names f) there ∙ named) in subst (λ (z : AddressSpacesView). f < z.frames) is (h.in_range s.0 f s.2)

    pub located_behind : (g : Layout) → in_frame g v (page_here y.areas pid v) (get page_cmp y.place (page_here y.areas pid v)) ≡ in_frame g v (page_here y.areas pid v) (Some f)
    located_behind g =
        let s = page_behind in
        ap (in_frame g v (page_here y.areas pid v)) (ap (λ o. get page_cmp y.place (unwrap_or o (record { segment = 0; index = 0 }))) s.1 ∙ s.2)

  -- the pages of a range begin with what stands behind its first entry
  pub next_located : (g : Layout) (first end v : ℕ) (e : Entry) (pages : List LocatedPage) → first ≤ v → v < end → entry_at tasks pid v ≡ Some e → ((w : ℕ) → first ≤ w → w < v → entry_at tasks pid w ≡ None)
      → locate g y.place v (sight_of y.areas pid v e) ≡ pages
      → located_in g y.place (between first end (sights y.processes pid)) ≡ pages ++ located_in g y.place (between (v + 1) end (sights y.processes pid))
  next_located g first end v e pages low high there none here =
      let rest = between (v + 1) end (sights y.processes pid) in
      ap (located_in g y.place) (next_sight y tasks m r pid is h first end v e (sight_of m.areas pid v e) low high there none refl)
      ∙ flat_map-cons (λ (x : ℕ × Sight). locate g y.place x.0 x.1) (v, sight_of m.areas pid v e) rest
      ∙ ap (λ xs. xs ++ located_in g y.place rest) (ap (λ (z : AddressSpacesView). locate g y.place v (sight_of z.areas pid v e)) is ∙ here)

  -- no page is in a range without entries
  pub none_located : (g : Layout) (first end : ℕ) → ((w : ℕ) → first ≤ w → w < end → entry_at tasks pid w ≡ None) → located_in g y.place (between first end (sights y.processes pid)) ≡ []
  none_located g first end none = ap (located_in g y.place) (no_sight y tasks m r pid is h first end none)

  -- there are no more pages than page numbers
  pub few_listed : (g : Layout) (first end : ℕ) (es : Map ℕ Entry) → es ≡ between first end (entries_in tasks pid) → length (pages_in g y.place y.areas pid es) ≤ end - first
  few_listed g first end es range =
      let few = few_between (entries_in tasks pid) first end (sorted_of tasks pid (get nat_cmp tasks pid) h.tables refl) in
      omega (arith, few_behind g y.place y.areas pid es, ap length range, few)

  -- all entries of a range, listed
  pub all_listed : (g : Layout) (first end : ℕ) (es : Map ℕ Entry) → es ≡ between first end (entries_in tasks pid) → pages_in g y.place y.areas pid es ≡ located_in g y.place (between first end (sights y.processes pid))
  all_listed g first end es range =
      ap (pages_in g y.place y.areas pid) range
      ∙ ap (λ (z : AddressSpacesView). located_in g y.place (with_values (sight_of z.areas pid) (between first end (entries_in tasks pid)))) (sym is)
      ∙ ap (located_in g y.place) (sym (range_shown y tasks m r pid is h first end))

  -- what is seen in a range is as much as there are entries
  pub some_seen : (first end : ℕ) → 0 < length (between first end (entries_in tasks pid)) → 0 < length (between first end (sights y.processes pid))
  some_seen first end low =
      let entries = between first end (entries_in tasks pid) in
      let many = ap length (range_shown y tasks m r pid is h first end) ∙ length-map entries (λ (e : ℕ × Entry). (e.0, sight_of m.areas pid e.0 e.1)) in
      omega (arith, low, many)

-- where a list was cut short, there was something to list
pub some_left : {X : Type 0} (list all : List X) → IsCutShort list all → 0 < length all
some_left list all cut =
    let many = ap length cut.2 ∙ length-append list (cut.0 ∷ cut.1) in
    omega (arith, many)
