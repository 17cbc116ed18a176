-- Which pages have moved, by a search of the first moves, a look at a few after them, and a set.
use Rattle.std.proofs.Common.{Ordering, Less, Equal, Greater, ◌≡◌, ℕ, ◌<◌, ◌≤◌, ◌+◌, ◌-◌, Bool, true, false, cond, ◌||◌, List, [], ◌∷◌, ◌++◌, length, take, drop, get_or, Result, Ok, Err, is_ok, ⊎_elim, sym, ap, ◌∙◌, refl, subst, arith}
use Rattle.std.proofs.lemmas.List.{take-append-drop, take-append-le, drop-append-le, drop_all, take_all, length-append, length-drop}
use Rattle.std.proofs.lemmas.List.Elements.{All-from_get_or}
use Rattle.std.proofs.lemmas.List.Folds.{list_any-append, list_any_at, list_any_none}
use Rattle.std.proofs.lemmas.List.Sorted.{IsNonDecreasingBy-push}
use Rattle.std.proofs.lemmas.Bool.{cases_lt}
use Rattle.std.proofs.Math.Nat.{min-eq_left, min-eq_right}
use Rattle.std.specs.BTreeMap.{is_at}
use Rattle.std.specs.BTreeSet.{BTreeSet, Updates}
use Rattle.std.specs.Cmp.{eq_by_cmp_equiv}
use Rattle.std.specs.List.Sorted.{IsBinarySearchResult, IsSearchInRange}
use Rattle.std.specs.Ordering.{is_eq, ordering_index, ordering_reverse}
use Rattle.std.specs.Prelude.{min}
use Rattle.nm_types.proofs.Maps.{page_cmp_total}
use Rattle.nm_types.specs.declared.page.Page.{Page}
use Rattle.nm_types.specs.Map.{page_cmp, same_page}
use Rattle.nm_types.specs.declared.page_move.PageMove.{PageMove}
use Rattle.nm_plan.specs.declared.search.Search.{Search}
use Rattle.nm_model.specs.definitions.Decide.{has_moved}
use Rattle.nm_plan.specs.Found.{Ascends, IsPast, Finds}

same_back : (p q : Page) → same_page p q ≡ same_page q p
same_back = (eq_by_cmp_equiv page_cmp_total).symm

-- the result of a search by halves, of moves whose pages ascend
pub found_by_halves : (ts : List PageMove) (p : Page) (r : Result ℕ ℕ) → Ascends ts → IsSearchInRange r (length ts) → IsBinarySearchResult (λ t. page_cmp t.page p) ts r → is_ok r ≡ has_moved ts p
found_by_halves [] p (Ok i) up l h = absurd (omega (arith, l))
found_by_halves (t ∷ ts) p (Ok i) up l h = sym (list_any_at (λ u. same_page p u.page) (t ∷ ts) i t l (same_back p (get_or (t ∷ ts) i t).page ∙ ap is_eq (h t)))
found_by_halves [] p (Err i) up l h = refl
found_by_halves (t ∷ ts) p (Err i) up l h =
    let parted = h (up p) in
    sym (list_any_none (λ u. same_page p u.page) (t ∷ ts) (All-from_get_or (λ u. same_page p u.page ≡ false) (t ∷ ts) t (λ k w.
    same_back p (get_or (t ∷ ts) k t).page
    ∙ ⊎_elim (λ low. ap is_eq (parted.0 k t (omega arith) low)) (λ high. ap is_eq (parted.1 k t high w)) (cases_lt k i))))

lowest : (o : Ordering) → ordering_index o ≤ 0 → o ≡ Less
lowest Less low = refl
lowest Equal low = absurd (omega (arith, low))
lowest Greater low = absurd (omega (arith, low))

-- a page past the last of moves whose pages ascend is among none of them
pub past_all : (ts : List PageMove) (p : Page) → Ascends ts → IsPast ts p → has_moved ts p ≡ false
past_all [] p up past = refl
past_all (t ∷ ts) p up past =
    let all = t ∷ ts in
    let last = ap ordering_index (past t (omega arith)) in
    list_any_none (λ u. same_page p u.page) all (All-from_get_or (λ u. same_page p u.page ≡ false) all t (λ k w.
    same_back p (get_or all k t).page
    ∙ ap is_eq (lowest (page_cmp (get_or all k t).page p) (omega (arith, last, up p k (length all - 1) t (omega arith) (omega arith))))))

-- a page below another compares no higher with any page
reversed : (x y : Page) (o : Ordering) → page_cmp x y ≡ o → page_cmp y x ≡ ordering_reverse o
reversed x y o e = page_cmp_total.antisymm y x ∙ ap ordering_reverse e

rises : (x y p : Page) (o : Ordering) → page_cmp x y ≡ Less → page_cmp y p ≡ o → ordering_index (page_cmp x p) ≤ ordering_index o
rises x y p Less low e = subst (λ o. ordering_index o ≤ 0) (sym (page_cmp_total.trans x y p low e)) (omega arith)
rises x y p Equal low e = subst (λ o. ordering_index o ≤ 1) (sym (reversed p x Greater (sym (page_cmp_total.congr y p x e) ∙ reversed x y Less low))) (omega arith)
rises x y p Greater low e = high (page_cmp x p)
  where
    high : (o : Ordering) → ordering_index o ≤ 2
    high Less = omega arith
    high Equal = omega arith
    high Greater = omega arith

-- one more move, whose page is past the last
pub ascends_on : (ts : List PageMove) (t : PageMove) → Ascends ts → IsPast ts t.page → Ascends (ts ++ t ∷ [])
ascends_on ts t up past p = IsNonDecreasingBy-push (λ u. ordering_index (page_cmp u.page p)) ts t (up p) (λ d some. rises (get_or ts (length ts - 1) d).page t.page p (page_cmp t.page p) (past d some) refl)

-- all moves, in three parts
pub moved_in_parts : (ts : List PageMove) (n : ℕ) (p : Page) → has_moved ts p ≡ (has_moved (take n ts) p || (has_moved (take 8 (drop n ts)) p || has_moved (drop 8 (drop n ts)) p))
moved_in_parts ts n p =
    sym (ap (λ (us : List PageMove). has_moved us p) (take-append-drop n ts)) ∙ list_any-append (λ t. same_page p t.page) (take n ts) (drop n ts)
    ∙ ap (λ b. has_moved (take n ts) p || b) (sym (ap (λ (us : List PageMove). has_moved us p) (take-append-drop 8 (drop n ts))) ∙ list_any-append (λ t. same_page p t.page) (take 8 (drop n ts)) (drop 8 (drop n ts)))

-- the first few, where they are counted
pub first_few : (ts : List PageMove) (n : ℕ) → n ≡ min (length ts) 8 → take n ts ≡ take 8 ts
first_few ts n e =
    ⊎_elim (λ few. ap (λ k. take k ts) (e ∙ min-eq_left (omega arith)) ∙ take_all (length ts) ts (omega arith) ∙ sym (take_all 8 ts (omega arith)))
    (λ many. ap (λ k. take k ts) (e ∙ min-eq_right many)) (cases_lt (length ts) 8)

-- the moves past the few after the first n
abbrev past_few : ℕ → List PageMove → List PageMove
past_few n ts = drop 8 (drop n ts)

few_past : (n : ℕ) (ts : List PageMove) → length ts ≤ n + 8 → past_few n ts ≡ []
few_past n ts few = drop_all 8 (drop n ts) (omega (arith, length-drop n ts))

module _ {A : Type 0} (s : Search A) (ts : List PageMove) (t : PageMove) (h : Finds s ts) where
  longer : length (ts ++ t ∷ []) ≡ length ts + 1
  longer = length-append ts (t ∷ [])

  -- one more move, which ascends
  pub one_ascends : s.ascending ≡ length ts → IsPast ts t.page → Finds {A = A} (record { ascending = s.ascending + 1; later = s.later }) (ts ++ t ∷ [])
  one_ascends all past =
      let whole = take_all s.ascending ts (omega (arith, all)) in
      let more = take_all (s.ascending + 1) (ts ++ t ∷ []) (omega (arith, all, longer)) in
      record {
        within = omega (arith, all, longer);
        ascends = subst Ascends (sym more) (ascends_on ts t (subst Ascends whole h.ascends) past);
        later = λ p. h.later p ∙ ap (λ (us : List PageMove). has_moved us p) (few_past s.ascending ts (omega (arith, all)) ∙ sym (few_past (s.ascending + 1) (ts ++ t ∷ []) (omega (arith, all, longer))));
      }

  first_kept : Ascends (take s.ascending (ts ++ t ∷ []))
  first_kept = subst Ascends (sym (take-append-le s.ascending ts (t ∷ []) h.within)) h.ascends

  -- one of the few
  pub one_of_few : length ts < s.ascending + 8 → Finds {A = A} s (ts ++ t ∷ [])
  one_of_few few = record {
    within = omega (arith, h.within, longer);
    ascends = first_kept;
    later = λ p. h.later p ∙ ap (λ (us : List PageMove). has_moved us p) (few_past s.ascending ts (omega arith) ∙ sym (few_past s.ascending (ts ++ t ∷ []) (omega (arith, longer))));
  }

  cond_or : (b h : Bool) → cond b true h ≡ (h || (b || false))
  cond_or true true = refl
  cond_or true false = refl
  cond_or false true = refl
  cond_or false false = refl

  -- one past them, whose page the set then has
  pub one_past_few : (new : BTreeSet Page) → s.ascending + 8 ≤ length ts → Updates page_cmp s.later new t.page true → Finds {A = A} (record { ascending = s.ascending; later = new }) (ts ++ t ∷ [])
  one_past_few new many updates =
      let behind = λ (p : Page).
      ap (λ (us : List PageMove). has_moved (drop 8 us) p) (drop-append-le s.ascending ts (t ∷ []) h.within)
      ∙ ap (λ (us : List PageMove). has_moved us p) (drop-append-le 8 (drop s.ascending ts) (t ∷ []) (omega (arith, length-drop s.ascending ts)))
      ∙ list_any-append (λ u. same_page p u.page) (past_few s.ascending ts) (t ∷ []) in
      record {
        within = omega (arith, h.within, longer);
        ascends = first_kept;
        later = λ p.
            updates.0 p ∙ ap (λ b. cond (is_at (page_cmp t.page) p) true b) (h.later p)
            ∙ cond_or (is_at (page_cmp t.page) p) (has_moved (past_few s.ascending ts) p)
            ∙ ap (λ b. has_moved (past_few s.ascending ts) p || (b || false)) (same_back t.page p)
            ∙ sym (behind p);
      }
