-- What is found in a tree is what is found in its data.
use Rattle.std.proofs.Common.{◌≡◌, ◌==◌, ℕ, ℤ, Float, List, [], ◌∷◌, ◌++◌, map, drop, slice_index, Bool, true, false, cond, bytes_eq, Option, Some, None, option_map, option_and_then, Bor, Vec, Global, refl, sym, ap, ◌∙◌, rules}
use Rattle.std.specs.Prelude.{Result, Ok, Err}
use Rattle.std.proofs.lemmas.Slice.Eq.{bytes_eq-Decides}
use Rattle.json.specs.Token.{Token}
use Rattle.json.specs.Json.{after_end_array}
use Rattle.json.specs.Reads.{token_of}
use Rattle.json.specs.declared.token.Token.{Token as AToken}
use Rattle.json.specs.declared.token.Token.TheVariants.{BeginObject, EndObject, BeginArray, EndArray, Key, String as AString, Number as ANumber, Bool as ABool, Null as ANull, Bad as BadToken}
use Rattle.fast_float.specs.Text.{Parts, minus, scan}
use Rattle.serde_json.specs.Data.{negative, float, Data, array, object, Members, no_members, put}
use Rattle.serde_json.specs.Find.{get_member, as_u64}
use Rattle.serde_json.specs.Read.{number_of, number_from}
use Rattle.serde_json.proofs.Views.{get_member-put, get_member-put_other}
use Rattle.nm_steps.specs.Gives.{FailsStep, GivesStep}
use Rattle.nm_steps.specs.Lists.{items_seen, whole}
use Rattle.nm_steps.specs.Tree.{put_all, view, items_view, members_view}
use Rattle.nm_steps.specs.declared.step_error.StepError.{StepError}
use Rattle.nm_steps.specs.declared.step_error.StepError.TheVariants.{Bad, Memory}
use Rattle.nm_steps.specs.declared.tree.Tree.{Tree, Numbers, List as AList, Object, the_lemmas}

-- ---- keys

put_last : (xs : List (Bor (List ℕ) × Data)) (x : Bor (List ℕ) × Data) (found : Members) → put_all (xs ++ x ∷ []) found ≡ put x.0.now x.1 (put_all xs found)
put_last [] x found = refl
put_last (y ∷ ys) x found = put_last ys x (put y.0.now y.1 found)

-- the value at a name, after one was put at a key
at_put : (b : Bool) (k name : List ℕ) (d : Data) (ms : Members) → bytes_eq k name ≡ b → get_member name (put k d ms) ≡ cond b (Some d) (get_member name ms)
at_put true k name d ms e = let same : k ≡ name = (bytes_eq-Decides k name).0 e in ap (λ n. get_member n (put k d ms)) (sym same) ∙ get_member-put k d ms
at_put false k name d ms e = get_member-put_other name k d ms (λ same. let yes = (bytes_eq-Decides k name).1 (sym same) in absurd (cc))

abbrev seen : Bor (List ℕ) × Tree → Bor (List ℕ) × Data
seen m = (m.0, view m.1)

mapped : (ms : List (Bor (List ℕ) × Tree)) (m : Bor (List ℕ) × Tree) → map seen (ms ++ m ∷ []) ≡ map seen ms ++ seen m ∷ []
mapped [] m = refl
mapped (n ∷ ns) m = ap (λ xs. seen n ∷ xs) (mapped ns m)

pub one_more_member : (ms : List (Bor (List ℕ) × Tree)) (m : Bor (List ℕ) × Tree) → members_view (ms ++ m ∷ []) ≡ put m.0.now (view m.1) (members_view ms)
one_more_member ms m = ap (λ xs. put_all xs no_members) (mapped ms m) ∙ put_last (map seen ms) (seen m) no_members

pub last_member : (name : List ℕ) (ms : List (Bor (List ℕ) × Tree)) (m : Bor (List ℕ) × Tree) → get_member name (members_view (ms ++ m ∷ [])) ≡ cond (bytes_eq m.0.now name) (Some (view m.1)) (get_member name (members_view ms))
last_member name ms m = ap (get_member name) (one_more_member ms m) ∙ at_put (bytes_eq m.0.now name) m.0.now name (view m.1) (members_view ms) refl

-- ---- lists

pub view-Numbers : (v : Vec ℕ Global) → view (Numbers v) ≡ array (items_seen whole v.items)
view-Numbers v = search (rules, the_lemmas)

pub view-List : (v : Vec Tree Global) → view (AList v) ≡ array (items_view v.items)
view-List v = search (rules, the_lemmas)

pub view-Object : (v : Vec (Bor (List ℕ) × Tree) Global) → view (Object v) ≡ object (members_view v.items)
view-Object v = search (rules, the_lemmas)

pub one_more_tree : (vs : List Tree) (v : Tree) → map view (vs ++ v ∷ []) ≡ map view vs ++ view v ∷ []
one_more_tree [] v = refl
one_more_tree (w ∷ ws) v = ap (λ ds. view w ∷ ds) (one_more_tree ws v)

pub one_more_number : (ns : List ℕ) (n : ℕ) → map whole (ns ++ n ∷ []) ≡ map whole ns ++ whole n ∷ []
one_more_number [] n = refl
one_more_number (m ∷ ms) n = ap (λ ds. whole m ∷ ds) (one_more_number ms n)

-- ---- numbers

no_whole : (a b : Bool) (z : ℤ) (x : Float) → option_and_then as_u64 (cond a (Some (negative z)) (cond b (Some (float x)) None)) ≡ None
no_whole true b z x = refl
no_whole false true z x = refl
no_whole false false z x = refl

pub none_below_zero : (p : Parts) → option_and_then as_u64 (number_from true p) ≡ None
none_below_zero p = no_whole _ _ _ _

pub behind_minus : (s : List ℕ) → (slice_index s 0 == minus) ≡ true → number_of s ≡ number_from true (scan (drop 1 s))
unfolding number_of
behind_minus s e = rw e

pub without_minus : (s : List ℕ) → (slice_index s 0 == minus) ≡ false → number_of s ≡ number_from false (scan s)
unfolding number_of
without_minus s e = rw e

-- ---- faults

pub fails_by : {A : Type 0} (e : StepError) (o : Option A) → o ≡ None → FailsStep e o
fails_by Bad o is = is
fails_by Memory o is = tt

-- what a result gives, beside the tokens that are left
pub given_with : (r : List Token) (result : Result Tree StepError) (o : Option Data) → GivesStep view result o → GivesStep {Y = Data × List Token} (λ t. (view t, r)) result (option_map {U = Data × List Token} (λ d. (d, r)) o)
given_with r (Ok t) o is = ap (option_map {U = Data × List Token} (λ d. (d, r))) is
given_with r (Err Bad) o is = ap (option_map {U = Data × List Token} (λ d. (d, r))) is
given_with r (Err Memory) o is = tt

-- a token that closes no array
pub goes_on : (t : AToken) (r : List Token) → (t ≡ EndArray → ⊥) → after_end_array (token_of t ∷ r) ≡ None
goes_on BeginObject r other = refl
goes_on EndObject r other = refl
goes_on BeginArray r other = refl
goes_on EndArray r other = absurd (other refl)
goes_on (Key s) r other = refl
goes_on (AString s) r other = refl
goes_on (ANumber s) r other = refl
goes_on (ABool b) r other = refl
goes_on ANull r other = refl
goes_on BadToken r other = refl

-- what fails on a part fails on the whole
pub fails_with : {A B : Type 0} (e : StepError) (part : Option A) (whole : Option B) → (part ≡ None → whole ≡ None) → FailsStep e part → FailsStep e whole
fails_with Bad part whole h is = h is
fails_with Memory part whole h is = tt
