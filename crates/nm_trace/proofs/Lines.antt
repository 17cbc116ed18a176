-- Pieces of text, one after another.
use Rattle.std.proofs.Common.{◌≡◌, ℕ, suc, ◌+◌, ◌<◌, ◌≤◌, List, [], ◌∷◌, ◌++◌, length, get_or, take, drop, map, length-take, ◌/◌, ◌%◌, arith, refl, sym, ap, ◌∙◌, append_assoc, add-one, drop-cons}
use Rattle.std.proofs.lemmas.List.{append-nil, drop_all, flat_map_more, take_more}
use Rattle.std.proofs.Math.Seq.{take-add}
use Rattle.std.specs.List.{flat_map}
use Rattle.std.specs.Prelude.{slice_index, codes, decimal}
use Rattle.hex.specs.Hex.{encode_with, encode_lower}
use Rattle.nm_model.specs.definitions.Touch.{Access, AccessAnswer}
use Rattle.nm_model.specs.views.Asked.{access_shown}
use Rattle.nm_pool.specs.views.Accesses.{answer_shown}
use Rattle.nm_pool.specs.declared.answers.AccessAnswer.{AccessAnswer as Given}
use Rattle.nm_requests.specs.declared.call.InFlight.{InFlight}
use Rattle.nm_requests.specs.Views.{shown_during}
use Rattle.nm_calls.specs.definitions.Outcome.{access_answer}
use Rattle.nm_steps.specs.Form.{access_step}
use Rattle.nm_trace.specs.definitions.Report.{word_of, answer_text, line_of, access_line, access_lines}

-- the list up to a place, and the item there
to_place : {X : Type 0} (xs : List X) (i : ℕ) (x : X) → i < length xs → x ≡ get_or xs i x → take (i + 1) xs ≡ take i xs ++ x ∷ []
to_place xs i x lt is = take_more xs i x lt ∙ ap (λ y. take i xs ++ y ∷ []) (sym is)

-- one more item
pub next_piece : {X : Type 0} (f : X → List ℕ) (xs : List X) (i : ℕ) (x : X) (piece : List ℕ) → i < length xs → x ≡ get_or xs i x → piece ≡ f x
    → flat_map f (take i xs) ++ piece ≡ flat_map f (take (i + 1) xs)
next_piece f xs i x piece lt is e =
    ap (λ p. flat_map f (take i xs) ++ p) e ∙ flat_map_more f [] (take i xs) x ∙ ap (flat_map f) (sym (to_place xs i x lt is))

-- the same, as a number is read
pub next_read : {X : Type 0} (f : X → List ℕ) (xs : List X) (i : ℕ) (d : X) (piece : List ℕ) → i < length xs → piece ≡ f (get_or xs i d)
    → flat_map f (take i xs) ++ piece ≡ flat_map f (take (i + 1) xs)
next_read f xs i d piece lt e =
    ap (λ p. flat_map f (take i xs) ++ p) e ∙ flat_map_more f [] (take i xs) (get_or xs i d) ∙ ap (flat_map f) (sym (take_more xs i d lt))

map_end : {X Y : Type 0} (h : X → Y) (xs : List X) (x : X) → map h (xs ++ x ∷ []) ≡ map h xs ++ h x ∷ []
map_end h [] x = refl
map_end h (y ∷ ys) x = ap (λ t. h y ∷ t) (map_end h ys x)

-- one more item, as it is seen
pub next_shown : {X Y : Type 0} (h : X → Y) (f : Y → List ℕ) (xs : List X) (i : ℕ) (x : X) (piece : List ℕ) → i < length xs → x ≡ get_or xs i x → piece ≡ f (h x)
    → flat_map f (map h (take i xs)) ++ piece ≡ flat_map f (map h (take (i + 1) xs))
next_shown h f xs i x piece lt is e =
    ap (λ p. flat_map f (map h (take i xs)) ++ p) e ∙ flat_map_more f [] (map h (take i xs)) (h x)
    ∙ ap (flat_map f) (sym (ap (map h) (to_place xs i x lt is) ∙ map_end h (take i xs) x))

-- ---- bytes

pub no_digits : encode_lower [] ≡ []
unfolding encode_with
no_digits = refl

encode_append : (t xs ys : List ℕ) → encode_with t (xs ++ ys) ≡ encode_with t xs ++ encode_with t ys
unfolding encode_with
encode_append t [] ys = refl
encode_append t (b ∷ xs) ys = ap (λ e. slice_index t (b / 16) ∷ slice_index t (b % 16) ∷ e) (encode_append t xs ys)

piece_long : (xs rest piece : List ℕ) (m : ℕ) → piece ≡ take m rest → m ≤ length rest → length piece ≡ m
piece_long xs rest piece m is le = ap length is ∙ omega (arith, length-take m rest, le)

-- one more piece of them
pub more_digits : (xs : List ℕ) (i m : ℕ) (rest piece : List ℕ) → rest ≡ drop i xs → piece ≡ take m rest → m ≤ length rest
    → encode_lower (take i xs) ++ encode_lower piece ≡ encode_lower (take (i + length piece) xs)
more_digits xs i m rest piece behind is le =
    let joined : take (i + length piece) xs ≡ take i xs ++ piece =
    ap (λ k. take (i + k) xs) (piece_long xs rest piece m is le) ∙ take-add i m xs ∙ ap (λ p. take i xs ++ p) (sym (is ∙ ap (take m) behind)) in
    sym (ap encode_lower joined ∙ encode_append _ (take i xs) piece)

-- ---- accesses

grouped : (p a b c d e f : List ℕ) → ((p ++ a ++ b ++ c ++ d) ++ e) ++ f ≡ p ++ (a ++ b ++ c ++ d ++ e ++ f)
grouped p a b c d e f =
    let three = ap (λ t. t ++ c) (append_assoc p a b) ∙ append_assoc p (a ++ b) c in
    let four = ap (λ t. t ++ d) three ∙ append_assoc p (a ++ b ++ c) d in
    let five = ap (λ t. t ++ e) four ∙ append_assoc p (a ++ b ++ c ++ d) e in
    ap (λ t. t ++ f) five ∙ append_assoc p (a ++ b ++ c ++ d ++ e) f

-- the pieces of the line of an access, one after another
pub access_line_is : (k j : ℕ) (access : Access) (answer : AccessAnswer)
    → ((decimal k ++ codes "." ++ decimal j ++ codes " " ++ word_of (access_step access) ++ codes " ") ++ answer_text (access_answer answer)) ++ codes "\n" ≡ access_line k j access answer
unfolding access_line line_of
access_line_is k j access answer =
    grouped (decimal k ++ codes ".") (decimal j) (codes " ") (word_of (access_step access)) (codes " ") (answer_text (access_answer answer)) (codes "\n")

-- no lines, where no access is left
pub no_access : (k j : ℕ) (answers : List AccessAnswer) → access_lines k j [] answers ≡ []
no_access k j [] = refl
no_access k j (answer ∷ answers) = refl

-- nor where no answer is
pub no_answer : (k j : ℕ) (during : List (ℕ × Access)) → access_lines k j during [] ≡ []
no_answer k j [] = refl
no_answer k j (flight ∷ during) = refl

-- the list from a place on
from_place : {X : Type 0} (xs : List X) (j : ℕ) (x : X) → j < length xs → x ≡ get_or xs j x → drop j xs ≡ x ∷ drop (j + 1) xs
from_place xs j x lt is = rw (add-one, drop-cons xs j x) (ap (λ y. y ∷ drop (suc j) xs) (sym is))

module _ {A : Type 0} (k j : ℕ) (during : List (InFlight A)) (answers : List (Given A)) (before : List ℕ) (whole : List ℕ) where
  -- what was put, and the lines that are left
  abbrev pub with_lines : List ℕ → ℕ → List ℕ
  with_lines text i = text ++ access_lines k i (shown_during (drop i during)) (map answer_shown (drop i answers))

  -- one more line is put
  pub goes_on : (flight : InFlight A) (answer : Given A) (after : List ℕ) → j < length during → flight ≡ get_or during j flight → j < length answers → answer ≡ get_or answers j answer → after ≡ before ++ access_line k j (access_shown flight.access) (answer_shown answer) → with_lines before j ≡ whole → with_lines after (j + 1) ≡ whole
  goes_on flight answer after d_lt d_is a_lt a_is put so_far =
      let line = access_line k j (access_shown flight.access) (answer_shown answer) in
      let left = access_lines k (j + 1) (shown_during (drop (j + 1) during)) (map answer_shown (drop (j + 1) answers)) in
      let next : with_lines before j ≡ before ++ (line ++ left) = rw (from_place during j flight d_lt d_is, from_place answers j answer a_lt a_is) refl in
      ap (λ text. text ++ left) put ∙ append_assoc before line left ∙ sym next ∙ so_far

  -- no access is left, or no answer
  pub is_done : length during ≤ j → with_lines before j ≡ whole → before ≡ whole
  is_done le so_far =
      let one : with_lines before j ≡ before = rw (drop_all j during le, no_access k j (map answer_shown (drop j answers))) (append-nil before) in
      sym one ∙ so_far

  pub is_told : length answers ≤ j → with_lines before j ≡ whole → before ≡ whole
  is_told le so_far =
      let one : with_lines before j ≡ before = rw (drop_all j answers le, no_answer k j (shown_during (drop j during))) (append-nil before) in
      sym one ∙ so_far
