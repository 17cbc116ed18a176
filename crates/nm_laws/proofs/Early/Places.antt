-- Touches while pages move, and the moves of those pages, may come in any order.
use Rattle.std.proofs.Common.{◌≡◌, ℕ, ◌<◌, List, [], ◌∷◌, true, false, map, length, drop, refl, sym, ap, subst, ◌∙◌, arith, length-set}
use Rattle.std.specs.Prelude.{Some, None, Ok, slice_set, slice_index_or, suc}
use Rattle.std.specs.Option.{option_map}
use Rattle.std.specs.List.{AllByRecursion, list_any}
use Rattle.std.specs.List.Sorted.{IsStrictlySortedBy}
use Rattle.std.specs.Map.{keys_of}
use Rattle.std.specs.Ordering.{is_eq}
use Rattle.std.specs.Cmp.{tied_itself}
use Rattle.std.proofs.lemmas.List.{get_or-set_same, set-set, set-get_or}
use Rattle.std.proofs.lemmas.Bool.{or_left, or_right}
use Rattle.std.proofs.Math.Seq.{drop-nil}
use Rattle.nm_types.specs.declared.page.Page.{Page}
use Rattle.nm_types.specs.Map.{Map, get, set, page_cmp, same_page, with_values}
use Rattle.nm_types.specs.State.{State, free_list}
use Rattle.nm_types.proofs.Keys.{sorted-set}
use Rattle.nm_types.proofs.Maps.{page_cmp_total, exact_page, get-values}
use Rattle.nm_types.specs.declared.page_move.PageMove.{PageMove}
use Rattle.nm_model.specs.definitions.Touch.{AccessSite, shown_at, Access, is_held}
use Rattle.nm_laws.specs.Laws.{with_move, with_moves}
use Rattle.nm_laws.specs.Moves.{CanMove}
use Rattle.nm_model.specs.definitions.BeforeCopy.{AllBeforeCopy, all_before_copy, at_page, with_place, with_places, without_fronts}
use Rattle.nm_laws.proofs.Early.Beside.{Spares, all_early_too, found}
use Rattle.nm_laws.proofs.Early.Later.{at_page_beside, new_beside, changed_is_set}

no : false ≡ true → ⊥
no e = cc

-- a page that is none of these is none of them
not_moving : (p q : Page) (moved : List Page) → list_any (same_page q) moved ≡ true → list_any (same_page p) moved ≡ false → q ≡ p → ⊥
not_moving p q moved among other e = no (sym other ∙ ap (λ r. list_any (same_page r) moved) (sym e) ∙ among)

page_beside : (place : Map Page ℕ) (q : Page) (to : ℕ) (p : Page) → (q ≡ p → ⊥) → get page_cmp (with_values (at_page q (λ from. to)) place) p ≡ get page_cmp place p
page_beside place q to p other =
    get-values exact_page (at_page q (λ from. to)) place p
    ∙ elim (get page_cmp place p) as (λ o. option_map (at_page q (λ from. to) p) o ≡ o) [ None ↦ refl | Some f ↦ ap Some (at_page_beside q (λ from. to) p f other) ]

module _ (moved : List Page) where
  place_spares : (t : PageMove) → list_any (same_page t.page) moved ≡ true → (s : State) (at : AccessSite) → is_held moved (Ok at) ≡ false → Spares (with_values (at_page t.page (λ from. t.to))) (λ m. m) s at
  place_spares t among s at held =
      let other = not_moving (shown_at at) t.page moved among held in
      record {
        place = page_beside s.place t.page t.to (shown_at at) other;
        placed = λ f. new_beside s.place t.page (λ from. t.to) (shown_at at) f other;
        unplaced = λ e. refl;
        zero = λ e. refl;
        absent = λ e private. refl;
      }

  place_too : (t : PageMove) → list_any (same_page t.page) moved ≡ true → (accesses : List Access) (s : State) → all_before_copy (with_place s t) moved accesses ≡ (let e = all_before_copy s moved accesses in record e { state = with_place (e.state) t })
  place_too t among accesses s =
      all_early_too (with_values (at_page t.page (λ from. t.to))) (λ m. m) (λ s. Unit {0}) moved
      (λ s a k held at e. (found s a at e, place_spares t among s at (subst (λ r. is_held moved r ≡ false) e held))) (λ s a k. tt) accesses s tt

  abbrev placed_after : List PageMove → AllBeforeCopy → AllBeforeCopy
  placed_after taken e = record { state = with_places e.state taken; all_due = e.all_due }

  -- the moves of pages come before or after
  pub places_too : (taken : List PageMove) → AllByRecursion (λ t. list_any (same_page t.page) moved ≡ true) taken → (accesses : List Access) (s : State)
      → all_before_copy (with_places s taken) moved accesses ≡ (let e = all_before_copy s moved accesses in record e { state = with_places (e.state) taken })
  places_too [] all accesses s = refl
  places_too (t ∷ taken) all accesses s =
      places_too taken all.1 accesses (with_place s t) ∙ ap (placed_after taken) (place_too t all.0 accesses s)

-- the pages of moves are among them
among_more : (p : Page) (moved : List Page) (taken : List PageMove) → AllByRecursion (λ t. list_any (same_page t.page) moved ≡ true) taken → AllByRecursion (λ t. list_any (same_page t.page) (p ∷ moved) ≡ true) taken
among_more p moved [] h = tt
among_more p moved (t ∷ taken) h = (or_right (same_page t.page p) _ h.0, among_more p moved taken h.1)

pub pages_among : (taken : List PageMove) → AllByRecursion (λ t. list_any (same_page t.page) (map (λ (t : PageMove). t.page) taken) ≡ true) taken
pages_among [] = tt
pages_among (t ∷ taken) = (or_left _ _ (ap is_eq (tied_itself page_cmp_total t.page)), among_more t.page (map (λ (t : PageMove). t.page) taken) taken (pages_among taken))

-- ---- moves are frames taken and places changed

drop_drop : (n : ℕ) (l : List ℕ) → drop n (drop 1 l) ≡ drop (suc n) l
drop_drop n [] = drop-nil n ∙ sym (drop-nil (suc n))
drop_drop n (x ∷ l) = refl

fronts_more : (free : List (List ℕ)) (target n : ℕ) → target < length free
    → slice_set (slice_set free target (drop 1 (slice_index_or free target []))) target (drop n (slice_index_or (slice_set free target (drop 1 (slice_index_or free target []))) target []))
    ≡ slice_set free target (drop (suc n) (slice_index_or free target []))
fronts_more free target n inside =
    let l = slice_index_or free target [] in
    set-set free target (drop 1 l) (drop n (slice_index_or (slice_set free target (drop 1 l)) target []))
    ∙ ap (λ (xs : List ℕ). slice_set free target xs) (ap (λ (xs : List ℕ). drop n xs) (get_or-set_same free target (drop 1 l) [] inside) ∙ drop_drop n l)

place_is_set : (place : Map Page ℕ) (t : PageMove) → IsStrictlySortedBy page_cmp (keys_of place) → get page_cmp place t.page ≡ Some t.from → with_values (at_page t.page (λ from. t.to)) place ≡ set page_cmp place t.page t.to
place_is_set place t sorted placed = changed_is_set place t.page (λ from. t.to) t.from sorted placed

pub moves_are_places : (taken : List PageMove) (s : State) (target : ℕ) → target < length s.free → IsStrictlySortedBy page_cmp (keys_of s.place) → CanMove s target taken
    → with_moves s target taken ≡ with_places (without_fronts s target (length taken)) taken
moves_are_places [] s target inside sorted can = ap (λ free. record s { free = free }) (sym (set-get_or s.free target []))
moves_are_places (t ∷ taken) s target inside sorted can =
    let next = with_move target s t in
    moves_are_places taken next target (omega (arith, inside, length-set s.free target (drop 1 (free_list s target)))) (sorted-set page_cmp page_cmp_total s.place t.page t.to sorted) can.3
    ∙ (λ i. with_places (record s { place = sym (place_is_set s.place t sorted can.0) i; free = fronts_more s.free target (length taken) inside i }) taken)
