-- Consecutive frames, and the nodes that own them.
use Rattle.std.proofs.Common.{◌≡◌, ℕ, zero, suc, ◌+◌, ◌-◌, ◌<◌, ◌≤◌, ◌⊎◌, inl, inr, ⊎_elim, true, false, cond, eqb, List, [], ◌∷◌, ◌++◌, length, sum, get_or, refl, sym, subst, ap, ◌∙◌, arith}
use Rattle.std.specs.List.{IsDistinct, AllByRecursion}
use Rattle.std.proofs.lemmas.Bool.{eqb-true, eq-eqb, ne_eqb, lt-ltb, le-ltb, cases_eq, cases_lt, or_cases, or_left, or_right, false≢true}
use Rattle.std.proofs.lemmas.List.Sums.{sum_by-cons}
use Rattle.nm_types.specs.Layout.{owner}
use Rattle.nm_types.specs.Nodes.{up_from, is_in}
use Rattle.nm_model.specs.definitions.Frames.{all_frames}

pub sum-cons : (x : ℕ) (xs : List ℕ) → sum (x ∷ xs) ≡ x + sum xs
sum-cons x xs = sum_by-cons (λ (n : ℕ). n) x xs

pub length-up_from : (n k : ℕ) → length (up_from n k) ≡ k
length-up_from n zero = refl
length-up_from n (suc k) = ap suc (length-up_from (n + 1) k)

-- one more number
pub up_from_more : (n k : ℕ) → up_from n (k + 1) ≡ up_from n k ++ (n + k) ∷ []
up_from_more n zero = let e : n ≡ n + 0 = omega arith in ap (λ (m : ℕ). m ∷ []) e
up_from_more n (suc k) =
    let e : (n + 1) + k ≡ n + suc k = omega arith in
    let more : suc k + 1 ≡ suc (k + 1) = omega arith in
    ap (up_from n) more ∙ ap (λ (ms : List ℕ). n ∷ ms) (up_from_more (n + 1) k ∙ ap (λ (m : ℕ). up_from (n + 1) k ++ m ∷ []) e)

-- a number of a list is its first, or one of the rest
pub is_in-cons : (m : ℕ) (ns : List ℕ) (n : ℕ) → is_in (m ∷ ns) n ≡ true → (m ≡ n) ⊎ (is_in ns n ≡ true)
is_in-cons m ns n h = ⊎_elim (λ e. inl (eqb-true m n e)) (λ r. inr r) (or_cases (eqb m n) (is_in ns n) h)

-- the numbers of a stretch are inside it
pub in_stretch : (n k q : ℕ) → is_in (up_from n k) q ≡ true → (n ≤ q) × (q < n + k)
in_stretch n zero q h = absurd (false≢true h)
in_stretch n (suc k) q h =
    ⊎_elim (λ e. (omega arith, omega arith)) (λ r. let ih = in_stretch (n + 1) k q r in (omega (arith, ih.0), omega (arith, ih.1)))
    (is_in-cons n (up_from (n + 1) k) q h)

-- and every number inside it is one of them
pub is_in-stretch : (n k q : ℕ) → n ≤ q → q < n + k → is_in (up_from n k) q ≡ true
is_in-stretch n zero q le lt = absurd (omega arith)
is_in-stretch n (suc k) q le lt =
    ⊎_elim (λ e. or_left (eqb n q) _ (eq-eqb n q e)) (λ ne. or_right (eqb n q) _ (is_in-stretch (n + 1) k q (omega arith) (omega arith))) (cases_eq n q)

-- none of some numbers upwards from above n is n
above : (n m k : ℕ) → n < m → AllByRecursion (λ y. eqb n y ≡ false) (up_from m k)
above n m zero lt = tt
above n m (suc k) lt = (ne_eqb n m (λ e. omega arith), above n (m + 1) k (omega arith))

pub IsDistinct-up_from : (n k : ℕ) → IsDistinct eqb (up_from n k)
unfolding IsDistinct
IsDistinct-up_from n zero = tt
IsDistinct-up_from n (suc k) = (above n (n + 1) k (omega arith), IsDistinct-up_from (n + 1) k)

pub length-all_frames : (first : ℕ) (sizes : List ℕ) → length (all_frames first sizes) ≡ length sizes
length-all_frames first [] = refl
length-all_frames first (size ∷ sizes) = ap suc (length-all_frames (first + size) sizes)

-- a node's stretch has as many frames as it owns
pub length_of_stretch : (first : ℕ) (sizes : List ℕ) (node : ℕ) → length (get_or (all_frames first sizes) node []) ≡ get_or sizes node 0
length_of_stretch first [] node = refl
length_of_stretch first (size ∷ sizes) zero = length-up_from first size
length_of_stretch first (size ∷ sizes) (suc node) = length_of_stretch (first + size) sizes node

pub distinct_stretch : (first : ℕ) (sizes : List ℕ) (node : ℕ) → IsDistinct eqb (get_or (all_frames first sizes) node [])
unfolding IsDistinct
distinct_stretch first [] node = tt
distinct_stretch first (size ∷ sizes) zero = IsDistinct-up_from first size
distinct_stretch first (size ∷ sizes) (suc node) = distinct_stretch (first + size) sizes node

-- the first node owns a frame below its size, and another node any further one
pub owner_first : (size : ℕ) (sizes : List ℕ) (frame : ℕ) → frame < size → owner (size ∷ sizes) frame ≡ 0
owner_first size sizes frame lt = ap (λ b. cond b 0 (suc (owner sizes (frame - size)))) (lt-ltb frame size lt)

pub owner_later : (size : ℕ) (sizes : List ℕ) (frame : ℕ) → size ≤ frame → owner (size ∷ sizes) frame ≡ suc (owner sizes (frame - size))
owner_later size sizes frame le = ap (λ b. cond b 0 (suc (owner sizes (frame - size)))) (le-ltb frame size le)

-- a frame is in the stretch of its owner
pub owner_has : (first : ℕ) (sizes : List ℕ) (frame : ℕ) → frame < sum sizes → is_in (get_or (all_frames first sizes) (owner sizes frame) []) (first + frame) ≡ true
owner_has first [] frame lt = absurd (omega arith)
owner_has first (size ∷ sizes) frame lt =
    let P : ℕ → Type 0 = λ node. is_in (get_or (all_frames first (size ∷ sizes)) node []) (first + frame) ≡ true in
    ⊎_elim (λ below. subst P (sym (owner_first size sizes frame below)) (is_in-stretch first size (first + frame) (omega arith) (omega arith)))
    (λ beyond.
    let e : (first + size) + (frame - size) ≡ first + frame = omega arith in
    let ih = owner_has (first + size) sizes (frame - size) (omega (arith, sum-cons size sizes)) in
    subst P (sym (owner_later size sizes frame beyond)) (subst (λ q. is_in (get_or (all_frames (first + size) sizes) (owner sizes (frame - size)) []) q ≡ true) e ih))
    (cases_lt frame size)

-- and in no other
pub owner_is : (first : ℕ) (sizes : List ℕ) (node frame : ℕ) → is_in (get_or (all_frames first sizes) node []) frame ≡ true
    → (first ≤ frame) × (frame < first + sum sizes) × (owner sizes (frame - first) ≡ node)
owner_is first [] node frame h = absurd (false≢true h)
owner_is first (size ∷ sizes) zero frame h =
    let inside = in_stretch first size frame h in
    (inside.0, omega (arith, inside.1, sum-cons size sizes), owner_first size sizes (frame - first) (omega (arith, inside.0, inside.1)))
owner_is first (size ∷ sizes) (suc node) frame h =
    let ih = owner_is (first + size) sizes node frame h in
    let e : frame - first - size ≡ frame - (first + size) = omega arith in
    let next : owner sizes (frame - first - size) ≡ node = ap (owner sizes) e ∙ ih.2 in
    (omega (arith, ih.0), omega (arith, ih.1, sum-cons size sizes), owner_later size sizes (frame - first) (omega (arith, ih.0)) ∙ ap suc next)

pub owner-lt : (sizes : List ℕ) (frame : ℕ) → frame < sum sizes → owner sizes frame < length sizes
owner-lt [] frame lt = absurd (omega arith)
owner-lt (size ∷ sizes) frame lt =
    ⊎_elim (λ below. omega (arith, owner_first size sizes frame below))
    (λ beyond. let ih = owner-lt sizes (frame - size) (omega (arith, sum-cons size sizes)) in omega (arith, owner_later size sizes frame beyond, ih)) (cases_lt frame size)
