-- The pages that have a frame are no more than the frames.
use Rattle.std.proofs.Common.{⊎_elim, ◌≡◌, ℕ, zero, suc, ◌<◌, ◌≤◌, Bool, true, false, cond, length, List, [], ◌∷◌, refl, sym, ap, subst, arith, eq-eqb}
use Rattle.std.specs.Prelude.{◌==◌, not, All}
use Rattle.std.specs.List.{AllByRecursion, filter, sum_by}
use Rattle.std.specs.Map.{values_of}
use Rattle.std.proofs.lemmas.Bool.{cases_lt}
use Rattle.std.proofs.lemmas.List.{length-map}
use Rattle.std.proofs.lemmas.List.Elements.{All-from_recursion}
use Rattle.std.proofs.lemmas.List.Filters.{length-filter_both}
use Rattle.std.proofs.lemmas.List.Sums.{length-filter, count_by-le-length}
use Rattle.nm_types.specs.declared.page.Page.{Page}
use Rattle.nm_types.specs.Map.{Map}
use Rattle.nm_types.specs.Layout.{frame_count, node_of}
use Rattle.nm_types.specs.State.{State}
use Rattle.nm_model.specs.definitions.Seen.{placed_on}
use Rattle.nm_model.specs.definitions.Sound.{times, FramesAreOnce}
use Rattle.nm_laws.proofs.Soundness.Frames.{here, times_cons}
use Rattle.nm_laws.proofs.Soundness.Sounded.{all_counted}
use Rattle.nm_laws.proofs.Soundness.Counted.{counted_below, counted_once}

-- the numbers of a list but for one
abbrev others : ℕ → List ℕ → List ℕ
others n xs = filter (λ x. not (x == n)) xs

fewer : (n f : ℕ) (xs : List ℕ) → times f (others n xs) ≤ times f xs
fewer n f [] = omega arith
fewer n f (x ∷ xs) =
    let rest = fewer n f xs in
    let all = times_cons f x xs in
    let kept = times_cons f x (others n xs) in
    elim (x == n) as (λ b. times f (cond (not b) (x ∷ others n xs) (others n xs)) ≤ times f (x ∷ xs)) [
      | true ↦ omega (arith, rest, all)
      | false ↦ omega (arith, rest, all, kept)
    ]

none_of_it : (n : ℕ) (xs : List ℕ) → times n (others n xs) ≡ 0
none_of_it n [] = refl
none_of_it n (x ∷ xs) =
    let rest = none_of_it n xs in
    elim (x == n) as (λ b. x == n ≡ b → times n (cond (not b) (x ∷ others n xs) (others n xs)) ≡ 0) [
      | true ↦ λ e. rest
      | false ↦ λ e. let not_it : here n x ≡ 0 = ap (λ b. cond b 1 0) e in omega (arith, rest, times_cons n x (others n xs), not_it)
    ] refl

-- different numbers below one are no more than it
pub different_are_few : (n : ℕ) (xs : List ℕ) → ((f : ℕ) → times f xs ≤ 1) → ((f : ℕ) → 1 ≤ times f xs → f < n) → length xs ≤ n
different_are_few zero [] once below = omega arith
different_are_few zero (x ∷ xs) once below =
    let one : here x x ≡ 1 = ap (λ b. cond b 1 0) (eq-eqb x x refl) in
    let none = below x (omega (arith, one, times_cons x x xs)) in
    absurd (omega (arith, none))
different_are_few (suc n) xs once below =
    let ys = others n xs in
    let split = length-filter_both (λ x. x == n) (λ x. not (x == n)) (λ x. refl) xs in
    let one = once n in
    let first = length-filter (λ x. x == n) xs in
    let rest =
    different_are_few n ys (λ f. let less = fewer n f xs in let most = once f in omega (arith, less, most))
    (λ f some.
    let less = fewer n f xs in
    let low = below f (omega (arith, less, some)) in
    ⊎_elim (λ lt. lt)
    (λ past.
    let is : f ≡ n = omega (arith, past, low) in
    let none : times f ys ≡ 0 = subst (λ m. times m ys ≡ 0) (sym is) (none_of_it n xs) in
    absurd (omega (arith, none, some))) (cases_lt f n)) in
    omega (arith, split, first, one, rest)

module _ (s : State) (l : List ℕ) (h : FramesAreOnce s.layout s.place s.free l) where
  -- how often a frame is elsewhere
  abbrev free_of : ℕ → ℕ
  free_of f = sum_by (times f) s.free

  below : (f : ℕ) → 1 ≤ times f (values_of s.place) → f < frame_count s.layout
  below f some =
      counted_below (times f (values_of s.place)) (free_of f) (times f l) f (frame_count s.layout) (h.once f) (omega (arith, some))

  once : (f : ℕ) → times f (values_of s.place) ≤ 1
  once f =
      let most = counted_once (times f (values_of s.place)) (free_of f) (times f l) _ (h.once f) in
      omega (arith, most)

  of_values : (n : ℕ) (m : Map Page ℕ) → AllByRecursion (λ f. f < n) (values_of m) → AllByRecursion (λ e. e.1 < n) m
  of_values n [] k = tt
  of_values n (e ∷ m) k = (k.0, of_values n m k.1)

  -- the frames of pages are the machine's
  pub places_below : All (λ (e : Page × ℕ). e.1 < frame_count s.layout) s.place
  places_below =
      All-from_recursion (λ (e : Page × ℕ). e.1 < frame_count s.layout) s.place
      (of_values (frame_count s.layout) s.place (all_counted (λ f. f < frame_count s.layout) (values_of s.place) below))

  pub placed_few : (node : ℕ) → length (placed_on s node) ≤ frame_count s.layout
  placed_few node =
      let on : Page × ℕ → Bool = λ e. node_of s.layout e.1 == node in
      let all = different_are_few (frame_count s.layout) (values_of s.place) once below in
      let values = length-map {B = ℕ} s.place (λ (e : Page × ℕ). e.1) in
      let keys = length-map {B = Page} (filter on s.place) (λ (e : Page × ℕ). e.0) in
      let kept = length-filter on s.place in
      let few = count_by-le-length on s.place in
      omega (arith, all, values, keys, kept, few)
