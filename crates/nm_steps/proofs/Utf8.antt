-- What a reader of UTF-8 says of the value that bytes are.
use Rattle.std.proofs.Common.{◌≡◌, ℕ, ◌<◌, List, [], ◌∷◌, length, Bool, true, false, Option, Some, None, option_and_then, refl, subst, sym, ap, ◌∙◌, cond, inl, inr, arith}
use Rattle.std.specs.Prelude.{Result, Ok, Err}
use Rattle.std.specs.Option.{ok_or}
use Rattle.std.specs.Str.{IsUtf8, is_utf8}
use Rattle.std.proofs.lemmas.Str.{is_utf8-from_IsUtf8, IsUtf8-from_is_utf8}
use Rattle.json.specs.Json.{value, if_last}
use Rattle.json.specs.Lex.{lex, punctuate, tokens}
use Rattle.json.specs.Reads.{opens}
use Rattle.serde_json.specs.Data.{Data}
use Rattle.serde_json.specs.Read.{of_json, read}
use Rattle.nm_steps.specs.declared.trace_error.TraceError.{TraceError}
use Rattle.nm_steps.specs.declared.trace_error.TraceError.TheVariants.{NotJson, HostMemory}
use Rattle.nm_steps.specs.Faults.{TraceContents, ◌>>=◌, Gives, plan_of, trace_of, value_of}
use Rattle.nm_steps.specs.Memory.{IsSomeText, NeedsMemory}
use Rattle.nm_steps.proofs.Memory.{some_is}

pub value_is : (bytes : List ℕ) (d : Data) → IsUtf8 bytes → read bytes ≡ Some d → value_of bytes ≡ Some d
value_is bytes d u h = rw (is_utf8-from_IsUtf8 bytes u) h

chosen : (b : Bool) (o : Option Data) → (b ≡ true → o ≡ None) → cond b o None ≡ None
chosen true o h = h refl
chosen false o h = refl

pub value_none : (bytes : List ℕ) → (IsUtf8 bytes → read bytes ≡ None) → value_of bytes ≡ None
value_none bytes h = chosen (is_utf8 bytes) (read bytes) (λ e. h (IsUtf8-from_is_utf8 bytes e))

-- ---- a text without a byte

no_tokens : tokens [] ≡ []
unfolding lex punctuate
no_tokens = refl

no_value : value 127 [] ≡ None
unfolding value
no_value = refl

nothing_read : read [] ≡ None
nothing_read =
    ap (λ ts. option_and_then of_json (option_and_then (λ p. if_last p.0 p.1) (value 127 ts))) no_tokens
    ∙ ap (λ o. option_and_then of_json (option_and_then (λ p. if_last p.0 p.1) o)) no_value

-- a text that needs memory has a byte
pub needs_some : (room : ℕ) (text : List ℕ) → NeedsMemory room text → 0 < length text
needs_some room [] (inl longer) = absurd (omega (arith, longer))
needs_some room [] (inr opened) = let e : false ≡ true = ap opens (sym no_tokens) ∙ opened in absurd (cc)
needs_some room (x ∷ xs) h = omega arith

taken : {A : Type 0} (b : Bool) (o : Option A) (x : A) → cond b o None ≡ Some x → b ≡ true
taken true o x h = refl
taken false o x h = absurd (cc)

-- and so has one that is a value
text_of_value : (bytes : List ℕ) (d : Data) → value_of bytes ≡ Some d → IsSomeText bytes
text_of_value [] d h = let e : None ≡ Some d = sym (chosen (is_utf8 []) (read []) (λ _. nothing_read)) ∙ h in absurd (cc)
text_of_value (x ∷ xs) d h = (taken (is_utf8 (x ∷ xs)) (read (x ∷ xs)) d h, omega arith)

pub text_of_read : (bytes : List ℕ) (d : Data) → ok_or (value_of bytes) NotJson ≡ Ok d → IsSomeText bytes
text_of_read bytes d h = text_of_value bytes d (some_is (value_of bytes) NotJson d h)

read_first : (r : Result Data TraceError) (f : Data → Result TraceContents TraceError) (plan : TraceContents) → (r >>= f) ≡ Ok plan → (d : Data) × (r ≡ Ok d)
read_first (Ok d) f plan h = (d, refl)
read_first (Err e) f plan h = absurd (cc)

-- so has a trace
pub text_of_trace : (bytes : List ℕ) (plan : TraceContents) → trace_of bytes ≡ Ok plan → IsSomeText bytes
unfolding trace_of
text_of_trace bytes plan h =
    let value = read_first (ok_or (value_of bytes) NotJson) plan_of plan h in
    text_of_read bytes value.0 value.1

-- memory that is refused for a text is refused before the first step
pub before_steps : {X Y : Type 0} (view : X → Y) (found : Result Y TraceError) (r : Result X TraceError) (k : ℕ) → Gives view r found → r ≡ Err (HostMemory k) → r ≡ Err (HostMemory 0)
before_steps view found r k gives is =
    let zero : k ≡ 0 = subst (λ (x : Result _ TraceError). Gives view x found) is gives in
    is ∙ ap (λ (j : ℕ). Err (HostMemory j)) zero
