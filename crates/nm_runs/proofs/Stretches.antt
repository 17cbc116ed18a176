-- The first stretch of a batch.
use Rattle.std.proofs.Common.{arith, ◌≡◌, ℕ, suc, ◌<◌, ◌≤◌, Bool, true, false, List, [], ◌∷◌, length, take, drop, cond, refl, sym, ap, ◌∙◌, slice_index_or}
use Rattle.std.proofs.lemmas.Bool.{eqb-true, eqb-false, eq-eqb, ne_eqb}
use Rattle.std.proofs.lemmas.Grind.{common_steps}
use Rattle.std.proofs.lemmas.List.{length-map}
use Rattle.std.proofs.lemmas.List.Sums.{take_while-cons}
use Rattle.std.specs.Prelude.{◌==◌, slice_index}
use Rattle.std.specs.List.{take_while}
use Rattle.nm_types.specs.declared.request.Wanted.{Wanted}
use Rattle.nm_types.specs.declared.request.Wanted.TheVariants.{Whole}
use Rattle.nm_model.specs.definitions.Cut.{Request, Stretch, in_front, cut, wanted_of, first_target, same_front, IsFirst}
use Rattle.nm_model.specs.definitions.Cut.{for_nodes, targets_of}

-- how many at the front name this node
abbrev front : ℕ → List Request → ℕ
front t es = length (take_while (λ e. e.target == t) es)

front_same : (t : ℕ) (e : Request) (es : List Request) → (e.target == t) ≡ true → front t (e ∷ es) ≡ suc (front t es)
front_same t e es h = ap length (take_while-cons (λ f. f.target == t) e es ∙ ap (λ b. cond b (e ∷ take_while (λ f. f.target == t) es) []) h)

front_other : (t : ℕ) (e : Request) (es : List Request) → (e.target == t) ≡ false → front t (e ∷ es) ≡ 0
front_other t e es h = ap length (take_while-cons (λ f. f.target == t) e es ∙ ap (λ b. cond b (e ∷ take_while (λ f. f.target == t) es) []) h)

front_within : (t : ℕ) (es : List Request) → front t es ≤ length es
front_within t es = grind (arith, common_steps)

-- a request and k more of its target, and the stretches of the rest
abbrev first_of : ℕ → Wanted → ℕ → List Request → List Stretch
first_of t w k es = record { target = t; wanted = w ∷ wanted_of (take k es) } ∷ cut (drop k es)

by_test : (e f : Request) (es : List Request) → cut (f ∷ es) ≡ first_of f.target f.wanted (front f.target es) es → (b : Bool) → (e.target == f.target) ≡ b → cut (e ∷ f ∷ es) ≡ first_of e.target e.wanted (front e.target (f ∷ es)) (f ∷ es)
by_test e f es next true h =
    let ws = wanted_of (take (suc (front f.target es)) (f ∷ es)) in
    let rs = cut (drop (front f.target es) es) in
    let same = eqb-true e.target f.target h in
    let with_it : List Stretch = record { target = f.target; wanted = e.wanted ∷ ws } ∷ rs in
    let alone : List Stretch = record { target = e.target; wanted = e.wanted ∷ [] } ∷ record { target = f.target; wanted = ws } ∷ rs in
    ap (in_front e) next
    ∙ ap (λ b. cond b with_it alone) h
    ∙ ap (λ t. first_of t e.wanted (suc (front t es)) (f ∷ es)) (sym same)
    ∙ ap (λ k. first_of e.target e.wanted k (f ∷ es)) (sym (front_same e.target f es (eq-eqb f.target e.target (sym same))))
by_test e f es next false h =
    let ws = wanted_of (take (suc (front f.target es)) (f ∷ es)) in
    let rs = cut (drop (front f.target es) es) in
    let with_it : List Stretch = record { target = f.target; wanted = e.wanted ∷ ws } ∷ rs in
    let alone : List Stretch = record { target = e.target; wanted = e.wanted ∷ [] } ∷ record { target = f.target; wanted = ws } ∷ rs in
    let one : Stretch = record { target = e.target; wanted = e.wanted ∷ [] } in
    ap (in_front e) next
    ∙ ap (λ b. cond b with_it alone) h
    ∙ ap (λ left. one ∷ left) (sym next)
    ∙ ap (λ k. first_of e.target e.wanted k (f ∷ es)) (sym (front_other e.target f es (ne_eqb f.target e.target (λ s. eqb-false e.target f.target h (sym s)))))

cut_from : (e : Request) (es : List Request) → cut (e ∷ es) ≡ first_of e.target e.wanted (front e.target es) es
cut_from e [] = refl
cut_from e (f ∷ es) = by_test e f es (cut_from f es) (e.target == f.target) refl

wanted_length : (k : ℕ) (es : List Request) → k ≤ length es → length (wanted_of (take k es)) ≡ k
wanted_length k es h = grind (arith, common_steps)

-- the front of one target is the first stretch
pub first_stretch : (es : List Request) (target : ℕ) (wanted : List Wanted) → 0 < length es → target ≡ first_target es → wanted ≡ wanted_of (take (same_front es) es) → IsFirst es target wanted
first_stretch [] target wanted some ht hw = grind arith
first_stretch (e ∷ es) target wanted some ht hw =
    let k = front e.target es in
    let ws = e.wanted ∷ wanted_of (take k es) in
    let len : length ws ≡ suc k = ap suc (wanted_length k es (front_within e.target es)) in
    let is : wanted ≡ ws = hw ∙ ap (λ j. wanted_of (take j (e ∷ es))) (front_same e.target e es (eq-eqb e.target e.target refl)) in
    rw ht (rw is (cut_from e es ∙ ap (λ j. record { target = e.target; wanted = ws } ∷ cut (drop j (e ∷ es))) (sym len)))

-- the first request names the first node
pub first_is : (es : List Request) (e : Request) → 0 < length es → (slice_index_or es 0 e).target ≡ first_target es
first_is [] e some = grind arith
first_is (f ∷ es) e some = refl

by_target : (t : ℕ) (e : Request) (es : List Request) (b : Bool) → length (take_while (λ m. m == t) (targets_of es)) ≡ front t es
    → length (cond b (e.target ∷ take_while (λ m. m == t) (targets_of es)) []) ≡ length (cond b (e ∷ take_while (λ (f : Request). f.target == t) es) [])
by_target t e es true h = ap suc h
by_target t e es false h = refl

-- the requests at the front that name a node are as many as the nodes at the front that are this one
front_of_targets : (t : ℕ) (es : List Request) → length (take_while (λ n. n == t) (targets_of es)) ≡ front t es
front_of_targets t [] = refl
front_of_targets t (e ∷ es) =
    let right = take_while-cons (λ (f : Request). f.target == t) e es in
    ap length (take_while-cons (λ m. m == t) e.target (targets_of es)) ∙ by_target t e es (e.target == t) (front_of_targets t es) ∙ sym (ap length right)

pub same_targets : (es : List Request) → 0 < length es → length (take_while (λ n. n == slice_index (targets_of es) 0) (targets_of es)) ≡ same_front es
same_targets [] some = let z : ⊥ = omega (arith, some) in absurd z
same_targets (e ∷ es) some = front_of_targets e.target (e ∷ es)

-- a request for a node
abbrev no_page : Wanted
no_page = Whole (record { segment = 0; index = 0 })

by_node : (t n : ℕ) (ns : List ℕ) (b : Bool) → length (take_while (λ m. m == t) ns) ≡ front t (for_nodes ns)
    → length (cond b (n ∷ take_while (λ m. m == t) ns) []) ≡ length (cond b (record { target = n; wanted = no_page } ∷ take_while (λ (e : Request). e.target == t) (for_nodes ns)) [])
by_node t n ns true h = ap suc h
by_node t n ns false h = refl

-- the nodes at the front of a list that are one node, and the requests for them
front_of_nodes : (t : ℕ) (ns : List ℕ) → length (take_while (λ n. n == t) ns) ≡ front t (for_nodes ns)
front_of_nodes t [] = refl
front_of_nodes t (n ∷ ns) =
    let right = take_while-cons (λ (e : Request). e.target == t) (record { target = n; wanted = no_page }) (for_nodes ns) in
    ap length (take_while-cons (λ m. m == t) n ns) ∙ by_node t n ns (n == t) (front_of_nodes t ns) ∙ sym (ap length right)

pub same_nodes : (ns : List ℕ) → 0 < length ns → length (take_while (λ n. n == slice_index ns 0) ns) ≡ same_front (for_nodes ns)
same_nodes [] some = let z : ⊥ = omega (arith, some) in absurd z
same_nodes (n ∷ ns) some = front_of_nodes n (n ∷ ns)

pub nodes_first : (ns : List ℕ) (n : ℕ) → 0 < length ns → n ≡ same_front (for_nodes ns) → n ≤ length ns → (length (wanted_of (take n (for_nodes ns))) ≡ n) × IsFirst (for_nodes ns) (first_target (for_nodes ns)) (wanted_of (take n (for_nodes ns)))
nodes_first ns n some same short =
    let es = for_nodes ns in
    let all : length es ≡ length ns = length-map {B = Request} ns (λ m. record { target = m; wanted = no_page }) in
    (wanted_length n es (omega (arith, all, short)), first_stretch es (first_target es) (wanted_of (take n es)) (omega (arith, all, some)) refl (ap (λ k. wanted_of (take k es)) same))
