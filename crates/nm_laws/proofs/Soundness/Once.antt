-- Where each frame is counted once, it is the place of one page.
use Rattle.std.proofs.Common.{◌≡◌, ℕ, ◌+◌, ◌≤◌, List, [], ◌∷◌, Bool, true, false, cond, refl, sym, ap, ◌∙◌, arith, eq-eqb}
use Rattle.std.specs.Prelude.{Some, nat_lt}
use Rattle.std.specs.List.{sum_by}
use Rattle.std.specs.Map.{values_of}
use Rattle.std.specs.Ordering.{is_eq}
use Rattle.nm_types.specs.declared.page.Page.{Page}
use Rattle.nm_types.specs.Map.{Map, get, page_cmp}
use Rattle.nm_types.specs.Layout.{Layout, frame_count}
use Rattle.nm_types.proofs.Cases.{some_is}
use Rattle.nm_model.specs.definitions.Sound.{times, FramesAreOnce, PlacesAreApart}
use Rattle.nm_types.proofs.Maps.{equal, exact_page}
use Rattle.nm_laws.proofs.Soundness.Frames.{here, times_cons}

one_here : (f g : ℕ) → g ≡ f → here f g ≡ 1
one_here f g e = ap (λ b. cond b 1 0) (eq-eqb g f e)

-- a place is counted
pub counted_place : (m : Map Page ℕ) (p : Page) (f : ℕ) → get page_cmp m p ≡ Some f → 1 ≤ times f (values_of m)
counted_place [] p f h = cc
counted_place (e ∷ m) p f h =
    elim (is_eq (page_cmp p e.0)) as (λ b. cond b (Some e.1) (get page_cmp m p) ≡ Some f → 1 ≤ times f (values_of (e ∷ m))) [
      | true ↦ λ k. omega (arith, times_cons f e.1 (values_of m), one_here f e.1 (some_is k))
      | false ↦ λ k. let more = counted_place m p f k in omega (arith, more, times_cons f e.1 (values_of m))
    ] h

apart_from_once : (m : Map Page ℕ) (p q : Page) (f : ℕ) → times f (values_of m) ≤ 1 → get page_cmp m p ≡ Some f → get page_cmp m q ≡ Some f → p ≡ q
apart_from_once [] p q f once h k = cc
apart_from_once (e ∷ m) p q f once h k =
    let sum = times_cons f e.1 (values_of m) in
    elim (is_eq (page_cmp p e.0)) as (λ b. is_eq (page_cmp p e.0) ≡ b → cond b (Some e.1) (get page_cmp m p) ≡ Some f → p ≡ q) [
      | true ↦ λ b h. elim (is_eq (page_cmp q e.0)) as (λ c. is_eq (page_cmp q e.0) ≡ c → cond c (Some e.1) (get page_cmp m q) ≡ Some f → p ≡ q) [
        | true ↦ λ c k. exact_page p e.0 (equal _ b) ∙ sym (exact_page q e.0 (equal _ c))
        | false ↦ λ c k. absurd (omega (arith, once, sum, one_here f e.1 (some_is h), counted_place m q f k))
      ] refl k
      | false ↦ λ b h. elim (is_eq (page_cmp q e.0)) as (λ c. is_eq (page_cmp q e.0) ≡ c → cond c (Some e.1) (get page_cmp m q) ≡ Some f → p ≡ q) [
        | true ↦ λ c k. absurd (omega (arith, once, sum, one_here f e.1 (some_is k), counted_place m p f h))
        | false ↦ λ c k. apart_from_once m p q f (omega (arith, once, sum)) h k
      ] refl k
    ] refl h

one_or_none : (b : Bool) → cond b 1 0 ≤ 1
one_or_none true = omega arith
one_or_none false = omega arith

at_most : (a b c k : ℕ) → a + b + c ≡ k → k ≤ 1 → a ≤ 1
at_most a b c k e h = omega arith

pub places_are_apart : {g : Layout} {place : Map Page ℕ} {free : List (List ℕ)} {left : List ℕ} → FramesAreOnce g place free left → PlacesAreApart place
places_are_apart {g} {place} {free} {left} h = λ p q f.
    apart_from_once place p q f
    (at_most (times f (values_of place)) (sum_by (times f) free) (times f left) _ (h.once f) (one_or_none (nat_lt f (frame_count g))))
