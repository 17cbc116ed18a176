-- A part begins at a page, with the number that is added there anyway.
use Rattle.std.proofs.Common.{◌≡◌, ℕ, [], ◌∷◌, true, false, refl, sym, ap, subst, ◌∙◌}
use Rattle.std.specs.Prelude.{if◌then◌else◌}
use Rattle.std.specs.List.{AllByRecursion}
use Rattle.std.specs.List.Sorted.{IsStrictlySortedBy}
use Rattle.std.specs.Map.{keys_of}
use Rattle.std.specs.Ordering.{is_lt, match_ordering}
use Rattle.std.specs.declared.cmp.Ordering.TheVariants.{Less, Equal, Greater}
use Rattle.std.proofs.lemmas.Map.Keys.{sorted_head, sorted_tail}
use Rattle.nm_types.specs.declared.page.Page.{Page}
use Rattle.nm_types.specs.Map.{Map, set, page_cmp}
use Rattle.nm_types.proofs.Maps.{exact_page}
use Rattle.nm_coverage.specs.declared.parts.Part.{Part}
use Rattle.nm_coverage.specs.Parts.{add_from, add_at}
use Rattle.nm_coverage.proofs.Orders.{all_later, past_both}

-- parts that begin later add nothing
none_yet : (p : Page) (m : Map Page Part) (z : ℕ) → AllByRecursion (λ q. page_cmp p q ≡ Less) (keys_of m) → add_from z m p ≡ z
none_yet p [] z h = refl
none_yet p (e ∷ m) z h = ap (λ r. add_from (if is_lt r then z else e.1.add) m p) h.0 ∙ none_yet p m z h.1

module _ (k : Page) (v : Part) (p : Page) where
  set_before : (z : ℕ) (m : Map Page Part) → is_lt (page_cmp p k) ≡ true → add_from z (set page_cmp m k v) p ≡ add_from z m p
  set_before z [] less = ap (λ b. if b then z else v.add) less
  set_before z (e ∷ m) less =
      elim (page_cmp k e.0) as (λ r. page_cmp k e.0 ≡ r → add_from z (match_ordering r ((k, v) ∷ e ∷ m) ((e.0, v) ∷ m) (e ∷ set page_cmp m k v)) p ≡ add_from z (e ∷ m) p) [
        | Less ↦ λ r. ap (λ b. add_from (if b then z else v.add) (e ∷ m) p) less
        | Equal ↦ λ r.
            let here : is_lt (page_cmp p e.0) ≡ true = ap (λ q. is_lt (page_cmp p q)) (sym (exact_page k e.0 r)) ∙ less in
            ap (λ b. add_from (if b then z else v.add) m p) here ∙ sym (ap (λ b. add_from (if b then z else e.1.add) m p) here)
        | Greater ↦ λ r. set_before (if is_lt (page_cmp p e.0) then z else e.1.add) m less
      ] refl

  set_after : (z : ℕ) (m : Map Page Part) → IsStrictlySortedBy page_cmp (keys_of m) → is_lt (page_cmp p k) ≡ false → v.add ≡ add_from z m k → add_from z (set page_cmp m k v) p ≡ add_from z m p
  set_after z [] sorted behind is = ap (λ b. if b then z else v.add) behind ∙ is
  set_after z (e ∷ m) sorted behind is =
      let later = sorted_head page_cmp e.0 (keys_of m) sorted in
      elim (page_cmp k e.0) as (λ r. page_cmp k e.0 ≡ r → add_from z (match_ordering r ((k, v) ∷ e ∷ m) ((e.0, v) ∷ m) (e ∷ set page_cmp m k v)) p ≡ add_from z (e ∷ m) p) [
        | Less ↦ λ r.
            ap (λ b. add_from (if b then z else v.add) (e ∷ m) p) behind
            ∙ ap (λ n. add_from n (e ∷ m) p) (is ∙ none_yet k (e ∷ m) z (r, all_later k e.0 r (keys_of m) later))
        | Equal ↦ λ r.
            let same : v.add ≡ e.1.add = is ∙ ap (λ o. add_from (if is_lt o then z else e.1.add) m k) r ∙ none_yet k m e.1.add (at_head m (exact_page k e.0 r) later) in
            ap (λ n. add_from (if is_lt (page_cmp p e.0) then z else n) m p) same
        | Greater ↦ λ r.
            let here = past_both e.0 k p r behind in
            ap (λ b. add_from (if b then z else e.1.add) (set page_cmp m k v) p) here
            ∙ set_after e.1.add m (sorted_tail page_cmp e.0 (keys_of m) sorted) behind (is ∙ ap (λ o. add_from (if is_lt o then z else e.1.add) m k) r)
            ∙ sym (ap (λ b. add_from (if b then z else e.1.add) m p) here)
      ] refl
    where
      at_head : (m : Map Page Part) {h : Page} → k ≡ h → AllByRecursion (λ q. page_cmp h q ≡ Less) (keys_of m) → AllByRecursion (λ q. page_cmp k q ≡ Less) (keys_of m)
      at_head m same all = subst (λ h. AllByRecursion (λ q. page_cmp h q ≡ Less) (keys_of m)) (sym same) all

pub begun : (m new : Map Page Part) (k : Page) (v : Part) → IsStrictlySortedBy page_cmp (keys_of m) → v.add ≡ add_at m k → new ≡ set page_cmp m k v → (p : Page) → add_at new p ≡ add_at m p
begun m new k v sorted is now p =
    ap (λ n. add_at n p) now
    ∙ elim (is_lt (page_cmp p k)) as (λ b. is_lt (page_cmp p k) ≡ b → add_at (set page_cmp m k v) p ≡ add_at m p) [
      | true ↦ λ b. set_before k v p 0 m b
      | false ↦ λ b. set_after k v p 0 m sorted b is
    ] refl
