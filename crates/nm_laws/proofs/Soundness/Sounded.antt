-- An audit of a sound machine finds each frame in one place.
use Rattle.std.proofs.Common.{◌≡◌, ℕ, suc, ◌+◌, ◌≤◌, ◌<◌, List, [], ◌∷◌, ◌++◌, Bool, true, cond, refl, ap, subst, ◌∙◌, arith, eq-eqb}
use Rattle.std.specs.Prelude.{◌==◌, map, slice_index_or}
use Rattle.std.specs.List.{list_all, sum_by, AllByRecursion}
use Rattle.std.specs.Map.{values_of}
use Rattle.std.proofs.lemmas.Bool.{and_from, lt-ltb}
use Rattle.std.proofs.lemmas.List.Folds.{list_all-append}
use Rattle.std.proofs.lemmas.List.Sums.{sum_by-append, sum_by-cons}
use Rattle.nm_types.specs.Layout.{Layout, frame_count, node_of}
use Rattle.nm_types.specs.Nodes.{up_from}
use Rattle.nm_model.specs.definitions.Sound.{times, is_frame, is_on_its_node, with_numbers}
use Rattle.nm_laws.specs.Laws.{SoundIsAudited}
use Rattle.nm_laws.proofs.Soundness.Frames.{here, times_cons}
use Rattle.nm_laws.proofs.Soundness.Counted.{counted_below, part_of}
use Rattle.nm_laws.proofs.Soundness.New.{up_all}

all_true : {X : Type 0} (test : X → Bool) (xs : List X) → AllByRecursion (λ x. test x ≡ true) xs → list_all test xs ≡ true
all_true test [] h = refl
all_true test (x ∷ xs) h = and_from _ _ h.0 (all_true test xs h.1)

-- what holds of all items of a list
pub all_counted : (P : ℕ → Type 0) (xs : List ℕ) → ((f : ℕ) → 1 ≤ times f xs → P f) → AllByRecursion P xs
all_counted P [] h = tt
all_counted P (x ∷ xs) h =
    let one : here x x ≡ 1 = ap (λ b. cond b 1 0) (eq-eqb x x refl) in (
      h x (omega (arith, times_cons x x xs, one)),
      all_counted P xs (λ f some. h f (omega (arith, times_cons f x xs, some))),
    )

all_both : (P Q R : ℕ → Type 0) (xs : List ℕ) → ((f : ℕ) → P f → Q f → R f) → AllByRecursion P xs → AllByRecursion Q xs → AllByRecursion R xs
all_both P Q R [] f p q = tt
all_both P Q R (x ∷ xs) f p q = (f x p.0 q.0, all_both P Q R xs f p.1 q.1)

-- frames beside their nodes
all_beside : (g : Layout) (node : ℕ) (xs : List ℕ) → AllByRecursion (λ f. is_on_its_node g (node, f) ≡ true) xs → list_all (is_on_its_node g) (map {B = ℕ × ℕ} (λ (f : ℕ). (node, f)) xs) ≡ true
all_beside g node [] h = refl
all_beside g node (x ∷ xs) h = and_from _ _ h.0 (all_beside g node xs h.1)

numbered_own : (g : Layout) (n : ℕ) (free : List (List ℕ)) → ((k : ℕ) → AllByRecursion (λ f. is_on_its_node g (n + k, f) ≡ true) (slice_index_or free k [])) → list_all (is_on_its_node g) (with_numbers n free) ≡ true
numbered_own g n [] h = refl
numbered_own g n (xs ∷ free) h =
    let first : n + 0 ≡ n = omega arith in
    list_all-append (is_on_its_node g) (map {B = ℕ × ℕ} (λ (f : ℕ). (n, f)) xs) (with_numbers (n + 1) free)
    ∙ and_from _ _ (all_beside g n xs (subst (λ m. AllByRecursion (λ f. is_on_its_node g (m, f) ≡ true) xs) first (h 0)))
    (numbered_own g (n + 1) free (λ k.
    let next : n + suc k ≡ n + 1 + k = omega arith in
    subst (λ m. AllByRecursion (λ f. is_on_its_node g (m, f) ≡ true) (slice_index_or free k [])) next (h (suc k))))

-- each frame is as often beside nodes as in their lists
times_beside : (f node : ℕ) (xs : List ℕ) (rest : List (ℕ × ℕ)) → times f (map (λ (e : ℕ × ℕ). e.1) (map {B = ℕ × ℕ} (λ (x : ℕ). (node, x)) xs ++ rest)) ≡ times f xs + times f (map (λ (e : ℕ × ℕ). e.1) rest)
times_beside f node [] rest = omega arith
times_beside f node (x ∷ xs) rest =
    let more = times_beside f node xs rest in
    omega (arith, more, times_cons f x xs, times_cons f x (map (λ (e : ℕ × ℕ). e.1) (map {B = ℕ × ℕ} (λ (x : ℕ). (node, x)) xs ++ rest)))

times_numbered : (f n : ℕ) (free : List (List ℕ)) → times f (map (λ (e : ℕ × ℕ). e.1) (with_numbers n free)) ≡ sum_by (times f) free
times_numbered f n [] = refl
times_numbered f n (xs ∷ free) =
    let more = times_numbered f (n + 1) free in
    omega (arith, more, times_beside f n xs (with_numbers (n + 1) free), sum_by-cons (times f) xs free)

one_place : (a b c : ℕ) → a + b + 0 ≡ 1 → c ≡ b + a → (c == 1) ≡ true
one_place a b c e k = eq-eqb c 1 (omega (arith, e, k))

pub sound_is_audited : SoundIsAudited
sound_is_audited s h =
    let g = s.layout in
    let placed = values_of s.place in
    let free : List ℕ = map (λ (e : ℕ × ℕ). e.1) (with_numbers 0 s.free) in
    let below : (f : ℕ) → 1 ≤ times f placed + sum_by (times f) s.free + 0 → f < frame_count g = λ f some. counted_below (times f placed) (sum_by (times f) s.free) 0 f (frame_count g) (h.frames.once f) some in
    let own = numbered_own g 0 s.free (λ node.
    all_both (λ f. f < frame_count g) (λ f. node_of g f ≡ node) (λ f. is_on_its_node g (0 + node, f) ≡ true) (slice_index_or s.free node [])
    (λ f lt is. and_from _ _ (lt-ltb f (frame_count g) lt) (eq-eqb (node_of g f) (0 + node) (omega (arith, is))))
    (all_counted (λ f. f < frame_count g) (slice_index_or s.free node []) (λ f some. let part = part_of s.free node f in below f (omega (arith, some, part)))) (h.frames.own node)) in
    let frames = all_true (is_frame g) placed (all_counted (λ f. is_frame g f ≡ true) placed (λ f some. lt-ltb f (frame_count g) (below f (omega (arith, some))))) in
    let once = all_true (λ f. times f (free ++ placed) == 1) (up_from 0 (frame_count g)) (up_all (λ f. (times f (free ++ placed) == 1) ≡ true) (frame_count g) 0 (λ f low high.
    one_place (times f placed) (sum_by (times f) s.free) (times f (free ++ placed)) (h.frames.once f ∙ ap (λ b. cond b 1 0) (lt-ltb f (frame_count g) (omega (arith, high))))
    (sum_by-append (here f) free placed ∙ ap (λ n. n + times f placed) (times_numbered f 0 s.free)))) in
    and_from _ _ (and_from _ _ own frames) once
