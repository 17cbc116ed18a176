-- Pages that ascend, each before the next, are there once.
use Rattle.std.proofs.Common.{◌≡◌, suc, ◌+◌, Bool, true, cond, not, List, [], ◌∷◌, length, get_or, refl, ap, subst, ◌∙◌, arith}
use Rattle.std.specs.List.{AllByRecursion, AllAdjacentBelow, filter}
use Rattle.std.specs.Ordering.{is_eq, is_lt}
use Rattle.std.specs.declared.cmp.Ordering.{Ordering}
use Rattle.std.specs.declared.cmp.Ordering.TheVariants.{Less, Equal, Greater}
use Rattle.nm_types.specs.declared.page.Page.{Page}
use Rattle.nm_types.specs.Map.{page_cmp, same_page}
use Rattle.nm_types.proofs.Maps.{page_cmp_total}
use Rattle.nm_passes.specs.definitions.Listing.{once}

less : (o : Ordering) → true ≡ is_lt o → o ≡ Less
less Less e = refl
less Equal e = cc
less Greater e = cc

module _ {X : Type 0} (page : X → Page) where
  abbrev IsBefore : X → X → Type 0
  IsBefore x y = true ≡ is_lt (page_cmp (page x) (page y))

  -- each comes before all after it
  abbrev AllAscend : List X → Type 0
  AllAscend [] = Unit {0}
  AllAscend (x ∷ xs) = AllByRecursion (λ y. page_cmp (page x) (page y) ≡ Less) xs × AllAscend xs

  tail : (x : X) (xs : List X) → AllAdjacentBelow IsBefore (x ∷ xs) (length (x ∷ xs)) → AllAdjacentBelow IsBefore xs (length xs)
  tail x xs h k d low =
      let next : suc k + 1 ≡ suc (k + 1) = omega arith in
      subst (λ n. IsBefore (get_or xs k d) (get_or (x ∷ xs) n d)) next (h (suc k) d (omega (arith, low)))

  further : (x y : X) (xs : List X) → page_cmp (page x) (page y) ≡ Less → AllByRecursion (λ z. page_cmp (page y) (page z) ≡ Less) xs
      → AllByRecursion (λ z. page_cmp (page x) (page z) ≡ Less) xs
  further x y [] first h = tt
  further x y (z ∷ xs) first h = (page_cmp_total.trans (page x) (page y) (page z) first h.0, further x y xs first h.1)

  ascend : (xs : List X) → AllAdjacentBelow IsBefore xs (length xs) → AllAscend xs
  ascend [] h = tt
  ascend (x ∷ []) h = (tt, tt)
  ascend (x ∷ y ∷ xs) h =
      let rest = ascend (y ∷ xs) (tail x (y ∷ xs) h) in
      let first = less (page_cmp (page x) (page y)) (h 0 x (omega arith)) in
      ((first, further x y xs first rest.0), rest)

  abbrev alike : X → X → Bool
  alike x y = same_page (page x) (page y)

  kept : (x : X) (xs : List X) → AllByRecursion (λ y. page_cmp (page x) (page y) ≡ Less) xs → filter (λ y. not (alike x y)) xs ≡ xs
  kept x [] h = refl
  kept x (y ∷ xs) h =
      let rest = filter (λ z. not (alike x z)) xs in
      ap (λ b. cond (not b) (y ∷ rest) rest) (ap is_eq h.0) ∙ ap (λ ys. y ∷ ys) (kept x xs h.1)

  ascending : (xs : List X) → AllAscend xs → once alike xs ≡ xs
  ascending [] h = refl
  ascending (x ∷ xs) h = ap (λ ys. x ∷ filter (λ y. not (alike x y)) ys) (ascending xs h.1) ∙ ap (λ ys. x ∷ ys) (kept x xs h.0)

  -- pages of which each comes before the next are there once
  pub ascending_once : (xs : List X) → AllAdjacentBelow IsBefore xs (length xs) → once alike xs ≡ xs
  ascending_once xs h = ascending xs (ascend xs h)
