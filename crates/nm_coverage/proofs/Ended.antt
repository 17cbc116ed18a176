-- A part ends: its pages join the part before it.
use Rattle.std.proofs.Common.{◌≡◌, ℕ, [], ◌∷◌, true, false, cond, refl, sym, ap, ◌∙◌}
use Rattle.std.specs.Prelude.{Some, IsSome, if◌then◌else◌}
use Rattle.std.specs.List.{AllByRecursion}
use Rattle.std.specs.List.Sorted.{IsStrictlySortedBy}
use Rattle.std.specs.Map.{keys_of}
use Rattle.std.specs.Ordering.{is_eq, is_lt, is_gt}
use Rattle.std.specs.declared.cmp.Ordering.TheVariants.{Less}
use Rattle.std.proofs.lemmas.Map.Keys.{sorted_head, sorted_tail}
use Rattle.nm_types.specs.declared.page.Page.{Page}
use Rattle.nm_types.specs.Map.{Map, get, without, page_cmp}
use Rattle.nm_types.proofs.Cases.{none_is_not}
use Rattle.nm_types.proofs.Maps.{equal, exact_page}
use Rattle.nm_coverage.specs.declared.parts.Part.{Part}
use Rattle.nm_coverage.specs.Parts.{add_from, add_at}
use Rattle.nm_coverage.proofs.Orders.{all_later, before_is}

-- a part that begins at a page or before it adds its own number
module _ (q p : Page) (low : is_gt (page_cmp q p) ≡ false) where
  not_behind : (h : Page) → is_eq (page_cmp q h) ≡ true → is_lt (page_cmp p h) ≡ false
  not_behind h same = ap (λ x. is_lt (page_cmp p x)) (sym (exact_page q h (equal _ same))) ∙ before_is p q ∙ low

  begun_anew : (z w : ℕ) (m : Map Page Part) → IsSome (get page_cmp m q) → add_from z m p ≡ add_from w m p
  begun_anew z w [] has = absurd (none_is_not Part has)
  begun_anew z w (e ∷ m) has =
      elim (is_eq (page_cmp q e.0)) as (λ b. is_eq (page_cmp q e.0) ≡ b → IsSome (cond b (Some e.1) (get page_cmp m q)) → add_from z (e ∷ m) p ≡ add_from w (e ∷ m) p) [
        | true ↦ λ b h.
            let here = not_behind e.0 b in
            ap (λ d. add_from (if d then z else e.1.add) m p) here ∙ sym (ap (λ d. add_from (if d then w else e.1.add) m p) here)
        | false ↦ λ b h. begun_anew (if is_lt (page_cmp p e.0) then z else e.1.add) (if is_lt (page_cmp p e.0) then w else e.1.add) m h
      ] refl has

none_there : (k : Page) (m : Map Page Part) → AllByRecursion (λ h. page_cmp k h ≡ Less) (keys_of m) → without page_cmp m k ≡ m
none_there k [] all = refl
none_there k (e ∷ m) all = ap (λ r. cond (is_eq r) m (e ∷ without page_cmp m k)) all.0 ∙ ap (λ es. e ∷ es) (none_there k m all.1)

module _ (k p : Page) where
  ended_before : (z : ℕ) (m : Map Page Part) → is_gt (page_cmp k p) ≡ true → add_from z (without page_cmp m k) p ≡ add_from z m p
  ended_before z [] less = refl
  ended_before z (e ∷ m) less =
      elim (is_eq (page_cmp k e.0)) as (λ b. is_eq (page_cmp k e.0) ≡ b → add_from z (cond b m (e ∷ without page_cmp m k)) p ≡ add_from z (e ∷ m) p) [
        | true ↦ λ b.
            let here : is_lt (page_cmp p e.0) ≡ true = ap (λ x. is_lt (page_cmp p x)) (sym (exact_page k e.0 (equal _ b))) ∙ before_is p k ∙ less in
            sym (ap (λ d. add_from (if d then z else e.1.add) m p) here)
        | false ↦ λ b. ended_before (if is_lt (page_cmp p e.0) then z else e.1.add) m less
      ] refl

  module _ (q : Page) (past : page_cmp k q ≡ Less) (low : is_gt (page_cmp q p) ≡ false) where
    ended_behind : (z : ℕ) (m : Map Page Part) → IsStrictlySortedBy page_cmp (keys_of m) → IsSome (get page_cmp m q) → add_from z (without page_cmp m k) p ≡ add_from z m p
    ended_behind z [] sorted has = refl
    ended_behind z (e ∷ m) sorted has =
        elim (is_eq (page_cmp q e.0)) as (λ b. is_eq (page_cmp q e.0) ≡ b → IsSome (cond b (Some e.1) (get page_cmp m q)) → add_from z (without page_cmp (e ∷ m) k) p ≡ add_from z (e ∷ m) p) [
          | true ↦ λ b h.
              let less : page_cmp k e.0 ≡ Less = ap (page_cmp k) (sym (exact_page q e.0 (equal _ b))) ∙ past in
              ap (λ l. add_from z l p) (none_there k (e ∷ m) (less, all_later k e.0 less (keys_of m) (sorted_head page_cmp e.0 (keys_of m) sorted)))
          | false ↦ λ b h.
              elim (is_eq (page_cmp k e.0)) as (λ d. add_from z (cond d m (e ∷ without page_cmp m k)) p ≡ add_from z (e ∷ m) p) [
                | true ↦ begun_anew q p low z (if is_lt (page_cmp p e.0) then z else e.1.add) m h
                | false ↦ ended_behind (if is_lt (page_cmp p e.0) then z else e.1.add) m (sorted_tail page_cmp e.0 (keys_of m) sorted) h
              ]
        ] refl has

-- where a later part begins for each page from the part's on
pub ended : (m new : Map Page Part) (k p : Page) → IsStrictlySortedBy page_cmp (keys_of m) → new ≡ without page_cmp m k
    → (is_gt (page_cmp k p) ≡ false → (q : Page) × (page_cmp k q ≡ Less) × (is_gt (page_cmp q p) ≡ false) × IsSome (get page_cmp m q)) → add_at new p ≡ add_at m p
ended m new k p sorted now later =
    ap (λ l. add_at l p) now
    ∙ elim (is_gt (page_cmp k p)) as (λ b. is_gt (page_cmp k p) ≡ b → add_at (without page_cmp m k) p ≡ add_at m p) [
      | true ↦ λ b. ended_before k p 0 m b
      | false ↦ λ b. let next = later b in ended_behind k p next.0 next.1 next.2 0 m sorted next.3
    ] refl
