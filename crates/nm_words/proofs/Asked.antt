-- What the words ask for, and words that are refused.
use Rattle.std.proofs.Common.{◌≡◌, ℕ, ◌<◌, ◌≤◌, List, ◌&&◌, Bool, true, false, Option, Some, None, Result, Ok, Err, refl, sym, ap, ap₂, subst, ◌∙◌, arith}
use Rattle.std.specs.Prelude.{if◌then◌else◌, nat_le, codes}
use Rattle.std.proofs.lemmas.Bool.{le-leb, leb-true}
use Rattle.std.specs.Str.Parse.{ParsesUnsigned, digits_value, without_leading_plus}
use Rattle.clap.specs.Words.{App, FailsBy, HasMatchesOf, ReadsOne, Text, fault_of, found_of, is_simple, is_simple_and_free, matches_of, one_of, one_text}
use Rattle.clap.proofs.WalkLemmas.{both, one_text-rows}
use Rattle.clap.specs.declared.parser.matches.ArgMatches.{ArgMatches}
use Rattle.clap.specs.Values.{IsUnsignedIn}
use Rattle.clap.specs.ValueTests.{is_unsigned_in}
use Rattle.clap.proofs.OnLiterals.{clap_on_literals}
use Rattle.clap.proofs.ValueTestLemmas.{accepts-Accepts, Accepts-accepts}
use Rattle.clap.specs.declared.builder.value_parser.ValueParser.TheVariants as vp
use Rattle.clap.specs.declared.error.Error.{Error}
use Rattle.nm_words.specs.Words.{program, refusals_of, workers_in, workers_of}

-- clap's account holds of the program
pub program_simple : is_simple program ≡ true
unfolding clap_on_literals
program_simple = refl

pub program_free : is_simple_and_free program ≡ true
unfolding clap_on_literals
program_free = refl

-- an answer of clap's to the program's words comes by why they are refused
pub refused_of : {T : Type 0} (a : App) (ws : List Text) (r : Result T Error) → a ≡ program → (is_simple_and_free a ≡ true → FailsBy (fault_of a ws) r) → FailsBy (refusals_of ws) r
refused_of a ws r is h = subst (λ (b : App). FailsBy (fault_of b ws) r) is (h (ap is_simple_and_free is ∙ program_free))

-- and the value that is read of the option is that of the words
pub value_of : (a : App) (ws : List Text) (m : ArgMatches) → a ≡ program → HasMatchesOf a ws m → one_text (found_of m) (codes "workers") ≡ one_of (codes "workers") (matches_of program ws)
value_of a ws m is h =
    one_text-rows (found_of m) (codes "workers") ∙ ap (one_of (codes "workers")) ((h (ap is_simple is ∙ program_simple)).0 ∙ ap (λ (b : App). matches_of b ws) is)

-- ---- the number that is read

-- a text that is read as a number from 1 to 64
pub read_as_asked : (E : Type 0) (text : Text) (n : ℕ) → ParsesUnsigned {E = E} 64 10 text (Ok n) → 0 < n → n ≤ 64 → n ≡ workers_in (Some text)
read_as_asked E text n p some few =
    let is : n ≡ digits_value 10 (without_leading_plus text) = p.1 in
    let least : 1 ≤ digits_value 10 (without_leading_plus text) = omega (arith, is, some) in
    let most : digits_value 10 (without_leading_plus text) ≤ 64 = omega (arith, is, few) in
    let taken : is_unsigned_in 1 64 text ≡ true = Accepts-accepts false (vp.Unsigned 1 64) text (p.0.0, p.0.1, least, most) in
    is ∙ sym (ap (λ b. if b then digits_value 10 (without_leading_plus text) else 4) taken)

-- a text that is none
pub not_asked : (text : Text) → (IsUnsignedIn 1 64 text → ⊥) → 4 ≡ workers_in (Some text)
not_asked text h = go (is_unsigned_in 1 64 text) refl
  where
    go : (b : Bool) → is_unsigned_in 1 64 text ≡ b → 4 ≡ workers_in (Some text)
    go true e = absurd (h (accepts-Accepts false (vp.Unsigned 1 64) text e))
    go false e = sym (ap (λ b. if b then digits_value 10 (without_leading_plus text) else 4) e)

module _ {E : Type 0} (G : List ℕ → Result ℕ E → Type 0) (plain : (t : List ℕ) (r : Result ℕ E) → G t r → ParsesUnsigned {E = E} 64 10 t r) where
  number : (t : Text) (n : ℕ) → G t (Ok n) → (b : Bool) → (nat_le 1 n && nat_le n 64) ≡ b → (if b then n else 4) ≡ workers_in (Some t)
  number t n g true e =
      let parts = both _ _ e in
      read_as_asked E t n (plain t (Ok n) g) (leb-true _ _ parts.0) (leb-true _ _ parts.1)
  number t n g false e =
      let p = plain t (Ok n) g in
      not_asked t (λ h.
      let least : 1 ≤ n = omega (arith, p.1, h.2) in
      let most : n ≤ 64 = omega (arith, p.1, h.3) in
      let bad : true ≡ false = sym (ap₂ (λ a b. a && b) (le-leb _ _ least) (le-leb _ _ most)) ∙ e in
      absurd (cc))

  -- the number that copies is that of the text
  pub asked_of : (o : Option Text) (r : Option ℕ) → (o ≡ None → r ≡ None) → ((t : Text) → o ≡ Some t → ReadsOne G t r) → workers_of r ≡ workers_in o
  asked_of None r none value = ap workers_of (none refl)
  asked_of (Some t) None none value =
      let e = value t refl in
      let no = plain t (Err e.0) e.1 in
      not_asked t (λ h. no (h.0, h.1))
  asked_of (Some t) (Some n) none value = number t n (value t refl) (nat_le 1 n && nat_le n 64) refl
