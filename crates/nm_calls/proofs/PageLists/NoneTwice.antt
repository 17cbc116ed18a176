-- No page is listed twice.
use Rattle.std.proofs.Common.{◌≡◌, ◌≢◌, ℕ, true, false, cond, not, List, [], ◌∷◌, ◌++◌, map, refl, sym, ap, ◌∙◌, Option, Some, None}
use Rattle.std.specs.Prelude.{◌==◌, nat_eq}
use Rattle.std.specs.List.{AllByRecursion, IsDistinct, filter, flat_map}
use Rattle.std.specs.Map.{values_of}
use Rattle.std.specs.Option.{unwrap_or, option_map}
use Rattle.std.proofs.lemmas.Bool.{eqb-true, eq-eqb, ne_eqb, false≢true, false_from_ne_true}
use Rattle.nm_types.specs.declared.page.Page.{Page}
use Rattle.nm_types.specs.Layout.{node_of}
use Rattle.nm_types.specs.Map.{Map, get, page_cmp, same_page}
use Rattle.nm_types.specs.State.{State}
use Rattle.nm_types.proofs.Maps.{equal, exact_page}
use Rattle.nm_policy.specs.declared.pairing.Pair.{Pair}
use Rattle.nm_policy.proofs.Paired.{each_set_is_paired_in_order}
use Rattle.nm_model.specs.definitions.Seen.{sights}
use Rattle.nm_passes.specs.definitions.Listing.{pages_in}
use Rattle.nm_passes.specs.definitions.Listing.{pages_seen, is_on, pages_on}
use Rattle.nm_calls.specs.laws.Migrations.{EachPageIsListedOnce}
use Rattle.nm_passes.proofs.PageLists.FirstPages.{once_valued}
use Rattle.nm_calls.proofs.PageLists.RequestsDiffer.{Differs, AllDiffer, differ_filtered, left_differs}

abbrev its_page : ℕ × Page → Page
its_page e = e.1

once_differs : (es : Map ℕ Page) → AllDiffer its_page (once_valued same_page es)
once_differs [] = tt
once_differs (e ∷ es) =
    (left_differs its_page e (once_valued same_page es), differ_filtered its_page (λ f. not (same_page e.1 f.1)) (once_valued same_page es) (once_differs es))

-- a page is on one node
on_one : (s : State) (n m : ℕ) (o : Option ℕ) → n ≢ m → unwrap_or (option_map (λ frame. node_of s.layout frame == n) o) false ≡ true → unwrap_or (option_map (λ frame. node_of s.layout frame == m) o) false ≡ false
on_one s n m None other h = refl
on_one s n m (Some frame) other h = ne_eqb (node_of s.layout frame) m (λ e. other (sym (eqb-true (node_of s.layout frame) n h) ∙ e))

all_on : (s : State) (n : ℕ) (es : Map ℕ Page) → AllByRecursion (λ e. is_on s n e.1 ≡ true) (filter (λ e. is_on s n e.1) es)
all_on s n [] = tt
all_on s n (e ∷ es) =
    let rest = all_on s n es in
    elim (is_on s n e.1) as (λ b. is_on s n e.1 ≡ b → AllByRecursion (λ e. is_on s n e.1 ≡ true) (cond b (e ∷ filter (λ e. is_on s n e.1) es) (filter (λ e. is_on s n e.1) es))) [
      | true ↦ λ h. (h, rest)
      | false ↦ λ h. rest
    ] refl

all_map : (P Q : ℕ × Page → Type 0) (es : Map ℕ Page) → ((e : ℕ × Page) → P e → Q e) → AllByRecursion P es → AllByRecursion Q es
all_map P Q [] f h = tt
all_map P Q (e ∷ es) f h = (f e h.0, all_map P Q es f h.1)

all-append : (P : ℕ × Page → Type 0) (es fs : Map ℕ Page) → AllByRecursion P es → AllByRecursion P fs → AllByRecursion P (es ++ fs)
all-append P [] fs h k = k
all-append P (e ∷ es) fs h k = (h.0, all-append P es fs h.1 k)

differ-append : (es fs : Map ℕ Page) → AllDiffer its_page es → AllDiffer its_page fs → AllByRecursion (λ e. AllByRecursion (Differs its_page e) fs) es → AllDiffer its_page (es ++ fs)
differ-append [] fs h k cross = k
differ-append (e ∷ es) fs h k cross = (all-append (Differs its_page e) es fs h.0 cross.0, differ-append es fs h.1 k cross.1)

-- a page on a node differs from any page that is not on it
apart : (s : State) (n : ℕ) (e f : ℕ × Page) → is_on s n e.1 ≡ true → is_on s n f.1 ≡ false → Differs its_page e f
apart s n e f here there =
    false_from_ne_true (same_page e.1 f.1) (λ same. false≢true (sym there ∙ ap (is_on s n) (sym (exact_page e.1 f.1 (equal _ same))) ∙ here))

-- what leaves the nodes of pairs, in their order
abbrev leaving : State → ℕ → List Pair → Map ℕ Page
leaving s pid ps = flat_map (λ p. pages_on s pid p.from) ps

none_on : (s : State) (pid n : ℕ) (ps : List Pair) → AllByRecursion (λ m. nat_eq n m ≡ false) (map (λ p. p.from) ps) → AllByRecursion (λ e. is_on s n e.1 ≡ false) (leaving s pid ps)
none_on s pid n [] h = tt
none_on s pid n (p ∷ ps) h =
    all-append (λ e. is_on s n e.1 ≡ false) (pages_on s pid p.from) (leaving s pid ps)
    (all_map (λ e. is_on s p.from e.1 ≡ true) (λ e. is_on s n e.1 ≡ false) (pages_on s pid p.from)
    (λ e on. on_one s p.from n (get page_cmp s.place e.1) (λ same. false≢true (sym h.0 ∙ eq-eqb n p.from (sym same))) on) (all_on s p.from (pages_seen s pid)))
    (none_on s pid n ps h.1)

leaving_differ : (s : State) (pid : ℕ) (ps : List Pair) → IsDistinct nat_eq (map (λ p. p.from) ps) → AllDiffer its_page (leaving s pid ps)
unfolding IsDistinct
leaving_differ s pid [] h = tt
leaving_differ s pid (p ∷ ps) h =
    differ-append (pages_on s pid p.from) (leaving s pid ps) (differ_filtered its_page (λ e. is_on s p.from e.1) (pages_seen s pid) (once_differs (pages_in (sights s.processes pid)))) (leaving_differ s pid ps h.1)
    (all_map (λ e. is_on s p.from e.1 ≡ true) (λ e. AllByRecursion (Differs its_page e) (leaving s pid ps)) (pages_on s pid p.from)
    (λ e on. all_map (λ f. is_on s p.from f.1 ≡ false) (Differs its_page e) (leaving s pid ps) (λ f off. apart s p.from e f on off) (none_on s pid p.from ps h.0)) (all_on s p.from (pages_seen s pid)))

others_of : (e : ℕ × Page) (es : Map ℕ Page) → AllByRecursion (Differs its_page e) es → AllByRecursion (λ q. same_page e.1 q ≡ false) (values_of es)
others_of e [] h = tt
others_of e (f ∷ es) h = (h.0, others_of e es h.1)

pages_differ : (es : Map ℕ Page) → AllDiffer its_page es → IsDistinct same_page (values_of es)
unfolding IsDistinct
pages_differ [] h = tt
pages_differ (e ∷ es) h = (others_of e es h.0, pages_differ es h.1)

pub each_page_is_listed_once : EachPageIsListedOnce
each_page_is_listed_once s pid old new set =
    let order = each_set_is_paired_in_order old new set.upwards in
    pages_differ (leaving s pid _) (leaving_differ s pid _ order.once)
