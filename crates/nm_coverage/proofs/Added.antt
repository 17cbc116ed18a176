-- Which number is added at a page.
use Rattle.std.proofs.Common.{◌≡◌, ℕ, [], ◌∷◌, ◌++◌, true, false, not, cond, refl, sym, ap, ◌∙◌}
use Rattle.std.specs.Prelude.{if◌then◌else◌}
use Rattle.std.specs.BTreeMap.Range.{entries_between}
use Rattle.std.specs.declared.ops.Bound.TheVariants.{Included, Unbounded}
use Rattle.std.specs.Ordering.{is_lt}
use Rattle.nm_types.specs.declared.page.Page.{Page}
use Rattle.nm_types.specs.Map.{Map, page_cmp}
use Rattle.nm_coverage.specs.declared.parts.Part.{Part}
use Rattle.nm_coverage.specs.Parts.{add_from, add_at}

abbrev last_add : ℕ → Map Page Part → ℕ
last_add z [] = z
last_add z (e ∷ m) = last_add e.1.add m

abbrev up_to : Page → Map Page Part → Map Page Part
up_to p m = entries_between page_cmp Unbounded (Included p) m

by_last : (p : Page) (m : Map Page Part) (z : ℕ) → add_from z m p ≡ last_add z (up_to p m)
by_last p [] z = refl
by_last p (e ∷ m) z =
    elim (is_lt (page_cmp p e.0)) as (λ b. add_from (if b then z else e.1.add) m p ≡ last_add z (cond (not b) (e ∷ up_to p m) (up_to p m))) [
      | true ↦ by_last p m z
      | false ↦ by_last p m e.1.add
    ]

last_of : (t : Map Page Part) (e : Page × Part) (z : ℕ) → last_add z (t ++ e ∷ []) ≡ e.1.add
last_of [] e z = refl
last_of (x ∷ t) e z = last_of t e x.1.add

pub last_adds : (m r t : Map Page Part) (p : Page) (e : Page × Part) → r ≡ entries_between page_cmp Unbounded (Included p) m → r ≡ t ++ e ∷ [] → e.1.add ≡ add_at m p
last_adds m r t p e is last = sym (by_last p m 0 ∙ ap (last_add 0) (sym is ∙ last) ∙ last_of t e 0)

pub none_adds : (m r : Map Page Part) (p : Page) → r ≡ entries_between page_cmp Unbounded (Included p) m → r ≡ [] → 0 ≡ add_at m p
none_adds m r p is none = sym (by_last p m 0 ∙ ap (last_add 0) (sym is ∙ none))
