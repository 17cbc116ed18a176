-- Addresses as text: hexadecimal digits, which are written from the last to the first, between zeros.
use Rattle.std.proofs.Common.{◌≡◌, ℕ, zero, suc, ◌+◌, ◌-◌, ◌/◌, ◌%◌, ◌^◌, ◌<◌, ◌≤◌, Bool, true, false, cond, List, [], ◌∷◌, ◌++◌, length, length-append, replicate, take, drop, set, refl, sym, ap, subst, ◌∙◌, append_assoc, arith, take-take, length-drop, add-one}
use native.Mathlib.Nat.{pow-suc}
use Rattle.std.specs.Prelude.{◌==◌, min, nat_lt, codes}
use Rattle.std.specs.Str.{IsAscii, IsUtf8}
use Rattle.std.proofs.lemmas.Str.{IsUtf8-from_ascii}
use Rattle.std.proofs.lemmas.Str.Ascii.{IsAscii-nil, IsAscii-cons}
use Rattle.std.proofs.lemmas.Bool.{ne_eqb, eq-eqb}
use Rattle.std.proofs.lemmas.List.{take-append-drop, drop-append-le, length-replicate, take-replicate, drop-replicate, drop-set, take-set}
use Rattle.std.specs.Fmt.{digit_glyph, digits, digits_onto}
use Rattle.nm_calls.specs.definitions.Maps.{address_text}

-- the last k digits of n at most, before acc
unfoldable pub spelled : ℕ → ℕ → List ℕ → List ℕ
spelled k n acc = digits_onto k 16 false n acc

chosen : (k n : ℕ) (acc : List ℕ) (b : Bool) → (n / 16 == 0) ≡ b
    → spelled (suc k) n acc ≡ cond b (digit_glyph false (n % 16) ∷ acc) (spelled k (n / 16) (digit_glyph false (n % 16) ∷ acc))
unfolding spelled
chosen k n acc b e = ap (λ c. cond c (digit_glyph false (n % 16) ∷ acc) (spelled k (n / 16) (digit_glyph false (n % 16) ∷ acc))) e

-- the first digit
pub spelled_last : (k n : ℕ) (acc : List ℕ) → n < 16 → spelled (suc k) n acc ≡ digit_glyph false n ∷ acc
spelled_last k n acc lt =
    let none : n / 16 ≡ 0 = omega (arith, lt) in
    let same : n % 16 ≡ n = omega (arith, lt) in
    chosen k n acc true (eq-eqb (n / 16) 0 none) ∙ ap (λ d. digit_glyph false d ∷ acc) same

-- a digit that others come before
pub spelled_more : (k n : ℕ) (acc : List ℕ) → 16 ≤ n → spelled (suc k) n acc ≡ spelled k (n / 16) (digit_glyph false (n % 16) ∷ acc)
spelled_more k n acc le = chosen k n acc false (ne_eqb (n / 16) 0 (λ e. omega (arith, le, e)))

choice_before : (b : Bool) (xs ys zs us acc : List ℕ) → xs ++ acc ≡ zs → ys ++ acc ≡ us → cond b xs ys ++ acc ≡ cond b zs us
choice_before true xs ys zs us acc p q = p
choice_before false xs ys zs us acc p q = q

spelled_before : (k n : ℕ) (xs acc : List ℕ) → spelled k n xs ++ acc ≡ spelled k n (xs ++ acc)
unfolding spelled
spelled_before zero n xs acc = refl
spelled_before (suc k) n xs acc = choice_before (n / 16 == 0) _ _ _ _ acc refl (spelled_before k (n / 16) (digit_glyph false (n % 16) ∷ xs) acc)

pub all_spelled : (n : ℕ) (acc : List ℕ) → spelled 64 n acc ≡ digits 16 false n ++ acc
unfolding digits spelled
all_spelled n acc = sym (spelled_before 64 n [] acc)

-- one digit less
pub one_fewer : (k n : ℕ) → n < 16 ^ (k + 1) → n / 16 < 16 ^ k
one_fewer k n lt = omega (arith, rw (add-one, pow-suc) at lt)

-- a number of more than one digit needs more than one place
pub some_places : (k n : ℕ) → n < 16 ^ (k + 1) → 16 ≤ n → 0 < k
some_places zero n lt le = absurd (omega (arith, lt, le))
some_places (suc k) n lt le = omega arith

module _ (text : List ℕ) (rest at d : ℕ) (whole : List ℕ) (length_is : length text ≡ 19) (within : at ≤ 15) where
  -- one more digit is put
  pub digit_put : 0 < at → 16 ≤ rest → d ≡ digit_glyph false (rest % 16) → spelled (at + 49) rest (drop (at + 1) text) ≡ whole
      → spelled (at - 1 + 49) (rest / 16) (drop (at - 1 + 1) (set text at d)) ≡ whole
  digit_put some more is so_far =
      let back : at - 1 + 1 ≡ at = omega (arith, some) in
      let fuel : at + 49 ≡ suc (at - 1 + 49) = omega (arith, some) in
      ap (λ i. spelled (at - 1 + 49) (rest / 16) (drop i (set text at d))) back
      ∙ ap (spelled (at - 1 + 49) (rest / 16)) (drop-set text at d (omega (arith, length_is, within)))
      ∙ ap (λ e. spelled (at - 1 + 49) (rest / 16) (e ∷ drop (at + 1) text)) is
      ∙ sym (spelled_more (at - 1 + 49) rest (drop (at + 1) text) more)
      ∙ ap (λ k. spelled k rest (drop (at + 1) text)) (sym fuel)
      ∙ so_far

  -- and the first one
  pub first_put : rest < 16 → d ≡ digit_glyph false rest → spelled (at + 49) rest (drop (at + 1) text) ≡ whole → drop at (set text at d) ≡ whole
  first_put less is so_far =
      let fuel : at + 49 ≡ suc (at + 48) = omega arith in
      drop-set text at d (omega (arith, length_is, within))
      ∙ ap (λ e. e ∷ drop (at + 1) text) is
      ∙ sym (spelled_last (at + 48) rest (drop (at + 1) text) less)
      ∙ ap (λ k. spelled k rest (drop (at + 1) text)) (sym fuel)
      ∙ so_far

-- what stands before a place that is put stays
pub front_kept : (text old : List ℕ) (at d : ℕ) → take (at + 1) text ≡ take (at + 1) old → take at (set text at d) ≡ take at old
front_kept text old at d h =
    take-set text at d ∙ sym (take-take at (at + 1) text (omega arith)) ∙ ap (take at) h ∙ take-take at (at + 1) old (omega arith)

zeros_left : (from at k : ℕ) (xs : List ℕ) → from ≤ at → at - from ≡ k → drop from (replicate at 48 ++ xs) ≡ replicate k 48 ++ xs
zeros_left from at k xs le is =
    let fits : from ≤ length (replicate {A = ℕ} at 48) = rw (length-replicate {A = ℕ} at 48) le in
    drop-append-le from (replicate at 48) xs fits ∙ ap (λ t. t ++ xs) (drop-replicate from at 48 ∙ ap (λ n. replicate n 48) is)

-- a text of zeros, and digits and three zeros after them
zeros_and : (at : ℕ) (ds text old : List ℕ) → old ≡ replicate 19 48 → at ≤ 15 → take at text ≡ take at old → drop at text ≡ ds ++ drop 16 old
    → text ≡ replicate at 48 ++ (ds ++ codes "000")
zeros_and at ds text old is within before written =
    let front : take at text ≡ replicate at 48 = before ∙ ap (take at) is ∙ take-replicate at 19 48 (omega (arith, within)) in
    let tail : drop at text ≡ ds ++ codes "000" = written ∙ ap (λ t. ds ++ drop 16 t) is in
    sym (take-append-drop at text) ∙ (λ i. front i ++ tail i)

how_many : (at : ℕ) (ds text old : List ℕ) → length text ≡ 19 → old ≡ replicate 19 48 → at ≤ 15 → drop at text ≡ ds ++ drop 16 old → length ds ≡ 16 - at
how_many at ds text old len is within written =
    let sizes : length (drop at text) ≡ length ds + 3 = ap length (written ∙ ap (λ t. ds ++ drop 16 t) is) ∙ length-append ds (codes "000") in
    omega (arith, sizes, length-drop at text, len, within)

-- the digits of a number after zeros, and three zeros after them
pub filled_is : (n at from : ℕ) (text old : List ℕ) → length text ≡ 19 → old ≡ replicate 19 48 → at ≤ 15 → from ≡ min at 11 → take at text ≡ take at old
    → drop at text ≡ digits 16 false n ++ drop 16 old → drop from text ≡ address_text n
filled_is n at from text old len is within least before written =
    let ds = digits 16 false n in
    let count : length ds ≡ 16 - at = how_many at ds text old len is within written in
    let zeros : at - from ≡ 5 - length ds = omega (arith, least, count, within) in
    ap (drop from) (zeros_and at ds text old is within before written)
    ∙ zeros_left from at (5 - length ds) (ds ++ codes "000") (omega (arith, least)) zeros
    ∙ sym (append_assoc (replicate (5 - length ds) 48) ds (codes "000"))

-- it is text
glyph_below : (a : Bool) (d : ℕ) → d < 16 → nat_lt d 10 ≡ a → cond a (48 + d) (87 + d) < 128
glyph_below true d lt e = omega (arith, lt)
glyph_below false d lt e = omega (arith, lt)

choice_ascii : (b : Bool) (xs ys : List ℕ) → IsAscii xs → IsAscii ys → IsAscii (cond b xs ys)
choice_ascii true xs ys p q = p
choice_ascii false xs ys p q = q

spelled_ascii : (k n : ℕ) (acc : List ℕ) → IsAscii acc → IsAscii (spelled k n acc)
unfolding spelled
spelled_ascii zero n acc h = h
spelled_ascii (suc k) n acc h =
    let below : n % 16 < 16 = omega arith in
    let more = IsAscii-cons (digit_glyph false (n % 16)) acc (glyph_below _ (n % 16) below refl) h in
    choice_ascii (n / 16 == 0) _ _ more (spelled_ascii k (n / 16) _ more)

zeros_ascii : (k : ℕ) (acc : List ℕ) → IsAscii acc → IsAscii (replicate k 48 ++ acc)
zeros_ascii zero acc h = h
zeros_ascii (suc k) acc h = IsAscii-cons 48 _ (omega arith) (zeros_ascii k acc h)

pub address_utf8 : (n : ℕ) → IsUtf8 (address_text n)
address_utf8 n =
    let digits_are = subst IsAscii (all_spelled n (codes "000")) (spelled_ascii 64 n (codes "000") (zeros_ascii 3 [] IsAscii-nil)) in
    IsUtf8-from_ascii (address_text n) (subst IsAscii (sym (append_assoc _ (digits 16 false n) (codes "000"))) (zeros_ascii _ (digits 16 false n ++ codes "000") digits_are))
