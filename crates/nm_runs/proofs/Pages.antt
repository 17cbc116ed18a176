-- The requests of a batch of pages, each with the node at the same index.
use Rattle.std.proofs.Common.{arith, ◌≡◌, ℕ, zero, suc, ◌<◌, ◌/◌, Bool, List, [], ◌∷◌, length, map, take, drop, refl, sym, ap, ◌∙◌}
use Rattle.std.specs.Prelude.{◌==◌, slice_index}
use Rattle.std.specs.List.{take_while}
use Rattle.nm_types.specs.declared.request.Wanted.{Wanted}
use Rattle.nm_types.specs.declared.request.Wanted.TheVariants.{At}
use Rattle.nm_model.specs.definitions.Cut.{Request, requests_of, targets_of, wanted_of, first_target, same_front, IsFirst}
use Rattle.nm_runs.proofs.Stretches.{first_stretch, same_targets}

-- what is asked of the page at an address
abbrev pub at_address : ℕ → Bool → ℕ → Wanted
at_address pid all a = At pid (a / 4096) all

pub pages_length : (pid : ℕ) (all : Bool) (ps ns : List ℕ) → length ps ≡ length ns → length (requests_of pid all ps ns) ≡ length ns
pages_length pid all [] [] e = refl
pages_length pid all [] (n ∷ ns) e = absurd (omega (arith, e))
pages_length pid all (p ∷ ps) [] e = absurd (omega (arith, e))
pages_length pid all (p ∷ ps) (n ∷ ns) e = ap suc (pages_length pid all ps ns (omega (arith, e)))

pub pages_drop : (pid : ℕ) (all : Bool) (k : ℕ) (ps ns : List ℕ) → length ps ≡ length ns → drop k (requests_of pid all ps ns) ≡ requests_of pid all (drop k ps) (drop k ns)
pages_drop pid all zero ps ns e = refl
pages_drop pid all (suc k) [] ns e = refl
pages_drop pid all (suc k) (p ∷ ps) [] e = absurd (omega (arith, e))
pages_drop pid all (suc k) (p ∷ ps) (n ∷ ns) e = pages_drop pid all k ps ns (omega (arith, e))

pub pages_take : (pid : ℕ) (all : Bool) (k : ℕ) (ps ns : List ℕ) → length ps ≡ length ns → take k (requests_of pid all ps ns) ≡ requests_of pid all (take k ps) (take k ns)
pages_take pid all zero ps ns e = refl
pages_take pid all (suc k) [] ns e = refl
pages_take pid all (suc k) (p ∷ ps) [] e = absurd (omega (arith, e))
pages_take pid all (suc k) (p ∷ ps) (n ∷ ns) e =
    ap (λ (es : List Request). record { target = n; wanted = at_address pid all p } ∷ es) (pages_take pid all k ps ns (omega (arith, e)))

pages_targets : (pid : ℕ) (all : Bool) (ps ns : List ℕ) → length ps ≡ length ns → targets_of (requests_of pid all ps ns) ≡ ns
pages_targets pid all [] [] e = refl
pages_targets pid all [] (n ∷ ns) e = absurd (omega (arith, e))
pages_targets pid all (p ∷ ps) [] e = absurd (omega (arith, e))
pages_targets pid all (p ∷ ps) (n ∷ ns) e = ap (λ ms. n ∷ ms) (pages_targets pid all ps ns (omega (arith, e)))

pages_wanted : (pid : ℕ) (all : Bool) (ps ns : List ℕ) → length ps ≡ length ns → wanted_of (requests_of pid all ps ns) ≡ map (at_address pid all) ps
pages_wanted pid all [] ns e = refl
pages_wanted pid all (p ∷ ps) [] e = absurd (omega (arith, e))
pages_wanted pid all (p ∷ ps) (n ∷ ns) e = ap (λ (ws : List Wanted). at_address pid all p ∷ ws) (pages_wanted pid all ps ns (omega (arith, e)))

pages_first : (pid : ℕ) (all : Bool) (ps ns : List ℕ) → length ps ≡ length ns → 0 < length ns → slice_index ns 0 ≡ first_target (requests_of pid all ps ns)
pages_first pid all ps [] e some = absurd (omega (arith, some))
pages_first pid all [] (n ∷ ns) e some = absurd (omega (arith, e))
pages_first pid all (p ∷ ps) (n ∷ ns) e some = refl

-- the pages for which the nodes at the front are one node are the first stretch
pub pages_stretch : (pid : ℕ) (all : Bool) (ps ns : List ℕ) (count target : ℕ) (wanted : List Wanted) → length ps ≡ length ns → 0 < length ns → count ≡ length (take_while (λ n. n == slice_index ns 0) ns) → target ≡ slice_index ns 0
    → wanted ≡ map (at_address pid all) (take count ps) → length (take count ps) ≡ length (take count ns) → IsFirst (requests_of pid all ps ns) target wanted
pages_stretch pid all ps ns count target wanted e some front first asked fit =
    let es = requests_of pid all ps ns in
    let len = pages_length pid all ps ns e in
    let named = pages_targets pid all ps ns e in
    let same : count ≡ same_front es = front ∙ ap (λ ms. length (take_while (λ n. n == slice_index ms 0) ms)) (sym named) ∙ same_targets es (omega (arith, len, some)) in
    first_stretch es target wanted (omega (arith, len, some)) (first ∙ pages_first pid all ps ns e some)
    (asked ∙ sym (pages_wanted pid all (take count ps) (take count ns) fit) ∙ sym (ap wanted_of (pages_take pid all count ps ns e)) ∙ ap (λ k. wanted_of (take k es)) same)
