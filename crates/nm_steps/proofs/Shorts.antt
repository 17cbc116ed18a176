-- Numbers of a few digits.
use Rattle.std.proofs.Common.{◌≡◌, ℕ, ◌+◌, ◌-◌, ◌%◌, ◌*◌, ◌^◌, ◌<◌, ◌≤◌, List, [], ◌∷◌, ◌++◌, length, get_or, take, Some, false, refl, sym, ap, ◌∙◌, arith, append-nil, lt-ltb, ne_eqb, length-take}
use Rattle.std.proofs.lemmas.Bool.{le-ltb}
use Rattle.std.proofs.lemmas.Int.Digits.{digits_more, digits_value_more}
use Rattle.std.proofs.lemmas.Str.Parse.{digit_at, digits_value_short, numerals_by_value, tells_digits}
use Rattle.std.specs.Char.{digit_value}
use Rattle.std.specs.Str.Parse.{AllDigits, IsNumeral, digits_value}
use Rattle.fast_float.specs.Text.{Parts, text_of, IsWellFormed}
use Rattle.fast_float.proofs.Writing.{scan-text_of}
use Rattle.serde_json.specs.Data.{unsigned}
use Rattle.serde_json.specs.Read.{number_of, number_from}

abbrev plain : List ℕ → Parts
plain ds = record { whole = ds; point = false; fraction = []; exponent_negative = false; exponent = []; len = length (ds ++ []) }

no_minus : (ds rest : List ℕ) → AllDigits 10 ds → 0 < length ds → get_or (ds ++ rest) 0 0 ≡ 45 → ⊥
no_minus [] rest h some e = omega arith
no_minus (d ∷ ds) rest h some e = let digit : digit_value d < 10 = h.0 in let is : d ≡ 45 = e in grind arith

scanned : (ds : List ℕ) → AllDigits 10 ds → 0 < length ds → number_of (text_of (plain ds)) ≡ number_from false (plain ds)
unfolding number_of
scanned ds h some =
    let formed : IsWellFormed (plain ds) = record { whole_digits = h; fraction_digits = tt; exponent_digits = tt; no_point = λ _. refl; no_exponent = λ _. refl; len_is = refl } in
    rw (ne_eqb (get_or (text_of (plain ds)) 0 0) 45 (no_minus ds _ h some)) (ap (number_from false) (scan-text_of (plain ds) formed))

pub few_digits : (k : ℕ) (ds : List ℕ) → AllDigits 10 ds → length ds ≤ k → digits_value 10 ds < 10 ^ k
few_digits k ds h le = digits_value_short (numerals_by_value (AllDigits 10) tells_digits) ds k h le

-- one to nineteen digits are a whole number of 64 bits
pub short_number : (ds : List ℕ) → AllDigits 10 ds → 0 < length ds → length ds ≤ 19 → number_of ds ≡ Some (unsigned (digits_value 10 ds))
short_number ds h some le =
    let small = few_digits 19 ds h le in
    let fits : digits_value 10 ds < 2 ^ 64 = omega (arith, small) in
    ap number_of (sym (append-nil ds)) ∙ scanned ds h some ∙ rw (append-nil, lt-ltb _ _ some, lt-ltb _ _ fits) refl

-- a byte that is a digit
pub digit_is : (b : ℕ) → b < 256 → (b + 208) % 256 ≤ 9 → digit_value b ≡ (b + 208) % 256
digit_is b fits le =
    let low : 48 ≤ b = omega (arith, fits, le) in
    let high : b < 58 = omega (arith, fits, le) in
    let value : (b + 208) % 256 ≡ b - 48 = omega (arith, low, high) in
    rw (le-ltb b 48 low, lt-ltb b 58 high) (sym value)

-- bytes with one that is no digit are no numeral
pub no_numeral : (bytes : List ℕ) (i : ℕ) → i < length bytes → get_or bytes i 0 < 256 → 9 < (get_or bytes i 0 + 208) % 256 → IsNumeral 10 bytes → ⊥
no_numeral bytes i lt fits other h =
    let range = digit_at bytes i h.1 lt in
    omega (arith, fits, other, range.0, range.1)

module _ (bytes : List ℕ) (i number : ℕ) (lt : i < length bytes) (few : length bytes ≤ 19) (fits : get_or bytes i 0 < 256) (digit : (get_or bytes i 0 + 208) % 256 ≤ 9)
    (so_far : AllDigits 10 (take i bytes)) (is : number ≡ digits_value 10 (take i bytes)) where
  pub stays_small : number * 10 + (get_or bytes i 0 + 208) % 256 < 2 ^ 64
  stays_small =
      let small : digits_value 10 (take i bytes) < 10 ^ 18 = few_digits 18 (take i bytes) so_far (omega (arith, length-take i bytes, lt, few)) in
      omega (arith, small, is, digit)

  pub one_more_digit : AllDigits 10 (take (i + 1) bytes)
  one_more_digit = digits_more 10 bytes i lt so_far (omega (arith, digit_is (get_or bytes i 0) fits digit, digit))

  pub one_more_value : number * 10 + (get_or bytes i 0 + 208) % 256 ≡ digits_value 10 (take (i + 1) bytes)
  one_more_value =
      let same = digit_is (get_or bytes i 0) fits digit in
      ap (λ n. n * 10 + (get_or bytes i 0 + 208) % 256) is ∙ ap (λ d. digits_value 10 (take i bytes) * 10 + d) (sym same) ∙ sym (digits_value_more 10 bytes i lt)
