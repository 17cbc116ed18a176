-- Frames that are listed and counted.
use Rattle.std.proofs.Common.{◌≡◌, ℕ, zero, suc, ◌+◌, ◌≤◌, ◌<◌, List, [], ◌∷◌, ◌++◌, true, false, ◌&&◌, length, take, drop, get_or, set, refl, sym, ap, subst, ◌∙◌, arith, append_assoc, eq-eqb}
use Rattle.std.specs.Prelude.{Some, map, ◌==◌}
use Rattle.std.specs.List.{slice_get, list_all}
use Rattle.std.proofs.Math.Seq.{drop-cons}
use Rattle.std.proofs.lemmas.Bool.{eqb-true, false_from_ne_true}
use Rattle.std.proofs.lemmas.List.{take_more, get_or-set_same, get_or-set_other}
use Rattle.std.proofs.lemmas.List.Sums.{count_by-le-length, count_by_more_yes, count_by_more_no}
use Rattle.std.proofs.lemmas.Option.{slice_get_within, get_or_from_slice_get}
use Rattle.nm_types.specs.Layout.{Layout, frame_count}
use Rattle.nm_types.specs.Nodes.{up_from}
use Rattle.nm_types.proofs.Cases.{true_false}
use Rattle.nm_model.specs.definitions.Sound.{times, is_frame, is_on_its_node, is_audited, with_numbers}

pub take_found : (xs : List ℕ) (i x : ℕ) → slice_get xs i ≡ Some x → take (i + 1) xs ≡ take i xs ++ x ∷ []
take_found xs i x h = take_more xs i x (slice_get_within xs i x h) ∙ ap (λ y. take i xs ++ y ∷ []) (get_or_from_slice_get xs i x x h)

-- a frame beside its node
abbrev pub beside : ℕ → ℕ → ℕ × ℕ
beside node frame = (node, frame)

map_end : (F : ℕ → ℕ × ℕ) (xs : List ℕ) (x : ℕ) → map F (xs ++ x ∷ []) ≡ map F xs ++ F x ∷ []
map_end F [] x = refl
map_end F (y ∷ xs) x = ap (λ t. F y ∷ t) (map_end F xs x)

-- one more frame of a node
pub pushed_more : (node : ℕ) (xs : List ℕ) (i x : ℕ) (front old now : List (ℕ × ℕ)) → slice_get xs i ≡ Some x → old ≡ front ++ map (beside node) (take i xs) → now ≡ old ++ (node, x) ∷ []
    → now ≡ front ++ map (beside node) (take (i + 1) xs)
pushed_more node xs i x front old now h was e =
    e ∙ ap (λ o. o ++ (node, x) ∷ []) was ∙ append_assoc front (map (beside node) (take i xs)) ((node, x) ∷ [])
    ∙ ap (λ t. front ++ t) (sym (ap (map (beside node)) (take_found xs i x h) ∙ map_end (beside node) (take i xs) x))

-- one more node
pub listed_more : (lists : List (List ℕ)) (n : ℕ) (old now all : List (ℕ × ℕ)) → n < length lists → old ++ with_numbers n (drop n lists) ≡ all → now ≡ old ++ map (beside n) (get_or lists n [])
    → now ++ with_numbers (n + 1) (drop (n + 1) lists) ≡ all
listed_more lists n old now all lt was e =
    let same : n + 1 ≡ suc n = omega arith in
    let rest = with_numbers (n + 1) (drop (suc n) lists) in
    ap (λ m. now ++ with_numbers (n + 1) (drop m lists)) same
    ∙ ap (λ o. o ++ rest) e ∙ append_assoc old (map (beside n) (get_or lists n [])) rest
    ∙ ap (λ ls. old ++ with_numbers n ls) (sym (drop-cons lists n [] lt)) ∙ was

-- the counts are those of the frames so far
abbrev pub Tallies : List ℕ → ℕ → List ℕ → Type 0
Tallies counts n frames = (k : ℕ) → k < n → get_or counts k 0 ≡ times k frames

take_few : (xs : List ℕ) (i : ℕ) → length (take i xs) ≤ i
take_few xs zero = omega arith
take_few [] (suc i) = omega arith
take_few (x ∷ xs) (suc i) = let less = take_few xs i in grind (arith, less)

pub few_times : (xs : List ℕ) (i k : ℕ) → times k (take i xs) ≤ i
few_times xs i k = let all = count_by-le-length (λ f. f == k) (take i xs) in let len = take_few xs i in omega (arith, all, len)

pub tallied : (cs xs : List ℕ) (n i x v : ℕ) → i < length xs → x ≡ get_or xs i x → x < n → length cs ≡ n → Tallies cs n (take i xs) → v ≡ get_or cs x 0 + 1 → Tallies (set cs x v) n (take (i + 1) xs)
tallied cs xs n i x v li at lt len h e k below =
    let inside : x < length cs = omega (arith, lt, len) in
    elim (x == k) as (λ b. (x == k) ≡ b → get_or (set cs x v) k 0 ≡ times k (take (i + 1) xs)) [
      | true ↦ λ b.
          subst (λ j. get_or (set cs x v) j 0 ≡ times j (take (i + 1) xs)) (eqb-true x k b)
          (get_or-set_same cs x v 0 inside ∙ e ∙ ap (λ t. t + 1) (h x lt) ∙ sym (count_by_more_yes (λ f. f == x) xs i x li (ap (λ f. f == x) (sym at) ∙ eq-eqb x x refl)))
      | false ↦ λ b.
          get_or-set_other cs x k v 0 (λ s. true_false (sym (eq-eqb x k (sym s)) ∙ b)) ∙ h k below ∙ sym (count_by_more_no (λ f. f == k) xs i x li (ap (λ f. f == k) (sym at) ∙ b))
    ] refl

pub passed_over : (cs xs : List ℕ) (n i x : ℕ) → i < length xs → x ≡ get_or xs i x → n ≤ x → Tallies cs n (take i xs) → Tallies cs n (take (i + 1) xs)
passed_over cs xs n i x li at past h k below =
    h k below ∙ sym (count_by_more_no (λ f. f == k) xs i x li (ap (λ f. f == k) (sym at) ∙ false_from_ne_true _ (λ b. let same = eqb-true x k b in absurd (omega (arith, same, past, below)))))

-- each number below a count is there once if its count is 1
pub once_all : (cs : List ℕ) (a : ℕ) (F : ℕ → ℕ) → ((k : ℕ) → k < length cs → get_or cs k 0 ≡ F (a + k)) → list_all (λ c. c == 1) cs ≡ list_all (λ f. F f == 1) (up_from a (length cs))
once_all [] a F h = refl
once_all (c ∷ cs) a F h =
    let first : c ≡ F a = h 0 (omega arith) ∙ ap F (omega arith) in
    ap (λ t. (t == 1) && list_all (λ x. x == 1) cs) first
    ∙ ap (λ t. (F a == 1) && t) (once_all cs (a + 1) F (λ k lt. let next : a + suc k ≡ a + 1 + k = omega arith in h (suc k) (omega (arith, lt)) ∙ ap F next))

-- the counts show whether each frame is in one place
pub audit_ones : (g : Layout) (free : List (ℕ × ℕ)) (placed frames counts : List ℕ) → list_all (is_on_its_node g) free ≡ true → list_all (is_frame g) placed ≡ true → frames ≡ map (λ (f : ℕ × ℕ). f.1) free ++ placed
    → length counts ≡ frame_count g → Tallies counts (frame_count g) frames → list_all (λ n. n == 1) counts ≡ is_audited g free placed
audit_ones g free placed frames counts own below e len h =
    let all = map (λ (f : ℕ × ℕ). f.1) free ++ placed in
    let last = list_all (λ f. times f all == 1) (up_from 0 (frame_count g)) in
    once_all counts 0 (λ f. times f frames) (λ k lt. h k (omega (arith, lt, len)) ∙ ap (λ f. times f frames) (omega arith))
    ∙ ap (λ n. list_all (λ f. times f frames == 1) (up_from 0 n)) len
    ∙ ap (λ fs. list_all (λ f. times f fs == 1) (up_from 0 (frame_count g))) e
    ∙ sym (ap (λ b. b && list_all (is_frame g) placed && last) own ∙ ap (λ b. b && last) below)
