-- Pages that are not where a policy wants them, each once.
use Rattle.std.proofs.Common.{ℕ, ◌≡◌, ◌≤◌, length, arith, Bool, true, false, not, ◌||◌, cond, List, [], ◌∷◌, ◌++◌, refl, sym, ap, ◌∙◌, append_assoc}
use Rattle.std.specs.Prelude.{Result, Ok, Err, IfOk}
use Rattle.std.specs.List.{filter, list_any}
use Rattle.std.specs.BTreeMap.{is_at}
use Rattle.std.specs.BTreeSet.{BTreeSet, Updates, contains}
use Rattle.std.proofs.lemmas.List.{append-nil}
use Rattle.std.proofs.lemmas.List.Folds.{list_any-append}
use Rattle.std.proofs.lemmas.List.Elements.{filter-append}
use Rattle.nm_types.specs.declared.page.Page.{Page}
use Rattle.nm_types.specs.Map.{page_cmp, same_page}
use Rattle.nm_types.specs.declared.located_page.LocatedPage.{LocatedPage}
use Rattle.nm_types.specs.declared.area.Policy.{Policy}
use Rattle.nm_model.specs.definitions.Order.{follows}
use Rattle.nm_passes.specs.definitions.Listing.{once}

-- pages without repetition
abbrev pub pages_once : List LocatedPage → List LocatedPage
pages_once = once (λ l m. same_page l.page m.page)

-- whether a page is among some
abbrev pub is_listed : List LocatedPage → Page → Bool
is_listed ls p = list_any (λ l. same_page l.page p) ls

-- one more, which is another page than the earlier ones, or is one of them and is left out
once_more : (ls : List LocatedPage) (x : LocatedPage) → pages_once (ls ++ x ∷ []) ≡ pages_once ls ++ cond (is_listed ls x.page) [] (x ∷ [])
once_more [] x = refl
once_more (l ∷ ls) x =
    let kept : LocatedPage → Bool = λ m. not (same_page l.page m.page) in
    ap (λ ms. l ∷ filter kept ms) (once_more ls x)
    ∙ ap (λ ms. l ∷ ms) (filter-append kept (pages_once ls) (cond (is_listed ls x.page) [] (x ∷ [])))
    ∙ ap (λ ms. l ∷ filter kept (pages_once ls) ++ ms) (tail (same_page l.page x.page) (is_listed ls x.page) refl)
  where
    tail : (a b : Bool) → same_page l.page x.page ≡ a → filter (λ m. not (same_page l.page m.page)) (cond b [] (x ∷ [])) ≡ cond (a || b) [] (x ∷ [])
    tail true true h = refl
    tail true false h = ap (λ c. cond (not c) (x ∷ []) []) h
    tail false true h = refl
    tail false false h = ap (λ c. cond (not c) (x ∷ []) []) h

-- these of all pages are listed, and their names are known; the others are left
pub record HaveListed (all left pages : List LocatedPage) (seen : BTreeSet Page) : Type 0 where
  pub done : List LocatedPage
  pub joined : done ++ left ≡ all
  pub listed : pages ≡ pages_once done
  pub known : (p : Page) → contains page_cmp seen p ≡ is_listed done p

cond_or : (b h : Bool) → cond b true h ≡ (h || (b || false))
cond_or true true = refl
cond_or true false = refl
cond_or false true = refl
cond_or false false = refl

more_known : (seen new : BTreeSet Page) (done : List LocatedPage) (x : LocatedPage) → Updates page_cmp seen new x.page true → ((p : Page) → contains page_cmp seen p ≡ is_listed done p) → (p : Page) → contains page_cmp new p ≡ is_listed (done ++ x ∷ []) p
more_known seen new done x updates known p =
    updates.0 p ∙ ap (λ b. cond (is_at (page_cmp x.page) p) true b) (known p)
    ∙ cond_or (is_at (page_cmp x.page) p) (is_listed done p)
    ∙ sym (list_any-append (λ l. same_page l.page p) done (x ∷ []))

-- one that comes for the first time ..
pub one_listed : (all left rest pages : List LocatedPage) (seen new : BTreeSet Page) (x : LocatedPage) → HaveListed all left pages seen → left ≡ x ∷ rest → Updates page_cmp seen new x.page true → contains page_cmp seen x.page ≡ false → HaveListed all rest (pages ++ x ∷ []) new
one_listed all left rest pages seen new x h is updates first =
    let fresh : is_listed h.done x.page ≡ false = sym (h.known x.page) ∙ first in
    record {
      done = h.done ++ x ∷ [];
      joined = append_assoc h.done (x ∷ []) rest ∙ ap (λ l. h.done ++ l) (sym is) ∙ h.joined;
      listed = ap (λ l. l ++ x ∷ []) h.listed ∙ sym (once_more h.done x ∙ ap (λ b. pages_once h.done ++ cond b [] (x ∷ [])) fresh);
      known = more_known seen new h.done x updates h.known;
    }

-- .. and one that came already
pub one_again : (all left rest pages : List LocatedPage) (seen new : BTreeSet Page) (x : LocatedPage) → HaveListed all left pages seen → left ≡ x ∷ rest → Updates page_cmp seen new x.page true → contains page_cmp seen x.page ≡ true → HaveListed all rest pages new
one_again all left rest pages seen new x h is updates again =
    let there : is_listed h.done x.page ≡ true = sym (h.known x.page) ∙ again in
    record {
      done = h.done ++ x ∷ [];
      joined = append_assoc h.done (x ∷ []) rest ∙ ap (λ l. h.done ++ l) (sym is) ∙ h.joined;
      listed = h.listed ∙ sym (once_more h.done x ∙ ap (λ b. pages_once h.done ++ cond b [] (x ∷ [])) there ∙ append-nil (pages_once h.done));
      known = more_known seen new h.done x updates h.known;
    }

-- none is left
pub all_listed : (all left pages : List LocatedPage) (seen : BTreeSet Page) → HaveListed all left pages seen → left ≡ [] → pages ≡ pages_once all
all_listed all left pages seen h none =
    h.listed ∙ ap pages_once (sym (append-nil h.done) ∙ ap (λ l. h.done ++ l) (sym none) ∙ h.joined)

pub not_true : (b : Bool) → not b ≡ true → b ≡ false
not_true true h = let z : ⊥ = cc in absurd z
not_true false h = refl

pub not_false : (b : Bool) → not b ≡ false → b ≡ true
not_false true h = refl
not_false false h = let z : ⊥ = cc in absurd z

-- what follows of a list that was made
pub if_listed : {X E : Type 0} {P Q : X → Type 0} (r : Result X E) → ((x : X) → P x → Q x) → IfOk r P → IfOk r Q
if_listed (Ok x) f h = f x h
if_listed (Err e) f h = tt

-- no more pass a test than there are
pub few_pass : (test : LocatedPage → Bool) (pages : List LocatedPage) → length (filter test pages) ≤ length pages
few_pass test [] = omega arith
few_pass test (p ∷ pages) =
    let rest = few_pass test pages in
    elim (test p) as (λ b. length (cond b (p ∷ filter test pages) (filter test pages)) ≤ length (p ∷ pages)) [ true ↦ omega (arith, rest) | false ↦ omega (arith, rest) ]

-- none passes a test that all fail
none_passes : (test : LocatedPage → Bool) (pages : List LocatedPage) → ((page : LocatedPage) → test page ≡ false) → filter test pages ≡ []
none_passes test [] h = refl
none_passes test (p ∷ pages) h = ap (λ b. cond b (p ∷ filter test pages) (filter test pages)) (h p) ∙ none_passes test pages h

-- no page strays from a policy that all nodes follow
pub none_strays : (policy : Policy) (pages : List LocatedPage) → ((node : ℕ) → follows policy node ≡ true) → filter (λ l. not (follows policy l.node)) pages ≡ []
none_strays policy pages h = none_passes (λ l. not (follows policy l.node)) pages (λ page. ap not (h page.node))
