-- One bit of one word is changed.
use Rattle.std.proofs.Common.{◌≡◌, ℕ, ◌/◌, ◌%◌, ◌<◌, ◌≢◌, Bool, List, length, refl, sym, ap, ◌∙◌, arith, eq-eqb}
use Rattle.std.specs.Prelude.{◌==◌, if◌then◌else◌, slice_index_or, slice_set}
use Rattle.std.specs.Int.{bit_at}
use Rattle.std.proofs.lemmas.Bool.{ne_eqb}
use Rattle.std.proofs.lemmas.List.{get_or-set_same, get_or-set_other}
use Rattle.nm_tables.specs.views.Marks.{is_marked}
use Rattle.nm_tables.proofs.Joined.{one_or_other}

module _ (words : List ℕ) (place w : ℕ) (b : Bool) (fits : place / 64 < length words) (here : (bit_at w (place % 64) == 1) ≡ b)
    (others : (j : ℕ) → j < 64 → j ≢ place % 64 → bit_at w j ≡ bit_at (slice_index_or words (place / 64) 0) j) where
  in_word : (i : ℕ) → i / 64 ≡ place / 64 → i % 64 ≢ place % 64 → is_marked (slice_set words (place / 64) w) i ≡ is_marked words i
  in_word i e apart =
      ap (λ n. bit_at (slice_index_or (slice_set words (place / 64) w) n 0) (i % 64) == 1) e
      ∙ ap (λ n. bit_at n (i % 64) == 1) (get_or-set_same words (place / 64) w 0 fits)
      ∙ ap (λ n. n == 1) (others (i % 64) (omega arith) apart)
      ∙ ap (λ n. bit_at (slice_index_or words n 0) (i % 64) == 1) (sym e)

  at_place : is_marked (slice_set words (place / 64) w) place ≡ b
  at_place = ap (λ n. bit_at n (place % 64) == 1) (get_or-set_same words (place / 64) w 0 fits) ∙ here

  elsewhere : (i : ℕ) → i ≢ place → Dec (i / 64 ≡ place / 64) → is_marked (slice_set words (place / 64) w) i ≡ is_marked words i
  elsewhere i apart (yes e) = in_word i e (λ z. apart (omega (arith, e, z)))
  elsewhere i apart (no n) = ap (λ x. bit_at x (i % 64) == 1) (get_or-set_other words (place / 64) (i / 64) w 0 n)

  decided : (i : ℕ) → Dec (i ≡ place) → is_marked (slice_set words (place / 64) w) i ≡ (if i == place then b else is_marked words i)
  decided i (yes z) = ap (is_marked (slice_set words (place / 64) w)) z ∙ at_place ∙ sym (ap (λ t. if t then b else is_marked words i) (ap (λ n. n == place) z ∙ eq-eqb place place refl))
  decided i (no n) = elsewhere i n (one_or_other (i / 64) (place / 64)) ∙ sym (ap (λ t. if t then b else is_marked words i) (ne_eqb i place n))

  pub word-changed : (i : ℕ) → is_marked (slice_set words (place / 64) w) i ≡ (if i == place then b else is_marked words i)
  word-changed i = decided i (one_or_other i place)
