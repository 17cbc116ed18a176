-- From the first page that finds no frame on.
use Rattle.std.proofs.Common.{◌≡◌, ℕ, zero, suc, ◌<◌, Bool, true, false, ◌||◌, List, [], ◌∷◌, ◌++◌, refl, sym, ap, ◌∙◌, arith}
use Rattle.std.specs.Prelude.{ℤ, pos, negsuc, if◌then◌else◌, slice_get, Option, Some, None}
use Rattle.std.proofs.lemmas.List.{append-nil}
use Rattle.std.proofs.lemmas.List.Folds.{list_any-append}
use Rattle.nm_types.specs.declared.errno.Errno.TheVariants.{Enomem}
use Rattle.nm_types.specs.declared.page.Page.{Page}
use Rattle.nm_types.specs.Map.{same_page}
use Rattle.nm_types.proofs.Maps.{exact_page, equal}
use Rattle.nm_types.proofs.Cases.{none_some}
use Rattle.std.proofs.lemmas.Bool.{false≢true}
use Rattle.nm_types.specs.declared.request.Class.{Class}
use Rattle.nm_types.specs.declared.request.Class.TheVariants.{Status, Move}
use Rattle.nm_model.specs.definitions.Status.{code}
use Rattle.nm_types.specs.declared.page_move.PageMove.{PageMove}
use Rattle.nm_model.specs.definitions.Decide.{Choice, Decisions, has_moved, take_front, decide}
use Rattle.nm_plan.specs.Closed.{IsNew}

is_move : Option Class → Bool
is_move None = false
is_move (Some (Status s)) = false
is_move (Some (Move p f)) = true

not_status : (s : ℤ) (q : Page) (g : ℕ) → Some (Status s) ≡ Some (Move q g) → ⊥
unfolding is_move
not_status s q g e = false≢true (ap is_move e)

-- what is decided after a choice
chosen : Choice → List Class → List PageMove → ℕ → Decisions
chosen now classes moved target =
    let rest = decide classes (moved ++ now.taken) now.front target in
    record { statuses = now.status ∷ rest.statuses; taken = now.taken ++ rest.taken }

-- a move, where this is whether its page has moved
move_choice : Bool → Page → ℕ → List ℕ → ℕ → Choice
move_choice b page from front target = if b then record { status = pos target; taken = []; front = front } else take_front page from front target

-- without a free frame a page that has not moved gets -12
starved_here : (page q : Page) (from g target : ℕ) (moved : List PageMove) (classes : List Class) → Some (Move page from) ≡ Some (Move q g) → has_moved moved q ≡ false
    → slice_get (decide (Move page from ∷ classes) moved [] target).statuses 0 ≡ Some (code Enomem)
unfolding chosen move_choice
starved_here page q from g target moved classes e h =
    let is : page ≡ q = ap (λ (o : Option Class). page_in page o) e in
    ap (λ b. Some (move_choice b page from [] target).status) (ap (has_moved moved) is ∙ h)
  where
    page_in : Page → Option Class → Page
    page_in p None = p
    page_in p (Some (Status s)) = p
    page_in p (Some (Move q f)) = q

pub starved : (classes : List Class) (moved : List PageMove) (target j : ℕ) (q : Page) (g : ℕ) → slice_get classes j ≡ Some (Move q g) → has_moved moved q ≡ false
    → slice_get (decide classes moved [] target).statuses j ≡ Some (code Enomem)
unfolding chosen move_choice
starved [] moved target j q g e h = absurd (none_some e)
starved (Status s ∷ classes) moved target zero q g e h = absurd (not_status s q g e)
starved (Status s ∷ classes) moved target (suc j) q g e h =
    ap (λ (ts : List PageMove). slice_get (decide classes ts [] target).statuses j) (append-nil moved) ∙ starved classes moved target j q g e h
starved (Move page from ∷ classes) moved target zero q g e h = starved_here page q from g target moved classes e h
starved (Move page from ∷ classes) moved target (suc j) q g e h =
    elim (has_moved moved page) as (λ b. slice_get (chosen (move_choice b page from [] target) classes moved target).statuses (suc j) ≡ Some (code Enomem)) [
      | true ↦ ap (λ (ts : List PageMove). slice_get (decide classes ts [] target).statuses j) (append-nil moved) ∙ starved classes moved target j q g e h
      | false ↦ ap (λ (ts : List PageMove). slice_get (decide classes ts [] target).statuses j) (append-nil moved) ∙ starved classes moved target j q g e h
    ]

-- what has moved with one more, and not a page other than that
still_new : (moved : List PageMove) (t : PageMove) (q : Page) → has_moved moved q ≡ false → same_page q t.page ≡ false → has_moved (moved ++ t ∷ []) q ≡ false
still_new moved t q h other = list_any-append (λ u. same_page q u.page) moved (t ∷ []) ∙ ap (λ b. b || (same_page q t.page || false)) h ∙ ap (λ b. b || false) other

-- a page that no request before a place is for is not that of the first
not_first : (page q : Page) (from : ℕ) (classes : List Class) (j : ℕ) → IsNew (Move page from ∷ classes) (suc j) q → same_page q page ≡ false
not_first page q from classes j new =
    elim (same_page q page) as (λ b. same_page q page ≡ b → b ≡ false) [
      | true ↦ λ e. absurd (new 0 from (omega arith) (ap (λ (p : Page). Some (Move p from)) (sym (exact_page q page (equal _ e)))))
      | false ↦ λ e. refl
    ] refl

later_new : (class : Class) (classes : List Class) (j : ℕ) (q : Page) → IsNew (class ∷ classes) (suc j) q → IsNew classes j q
later_new class classes j q new k from below e = new (suc k) from (omega (arith, below)) e

not_on_target : (target : ℕ) → Some (pos target) ≡ Some (code Enomem) → ⊥
not_on_target target e = false≢true (ap failed e)
  where
    failed : Option ℤ → Bool
    failed None = false
    failed (Some (pos n)) = false
    failed (Some (negsuc n)) = true

-- what is to be shown of the requests after one
abbrev Then : List Class → ℕ → ℕ → ℕ → Page → Page → ℕ → ℕ → Type 0
Then classes target i j p q f g = (moved : List PageMove) (front : List ℕ) → slice_get classes i ≡ Some (Move p f) → slice_get (decide classes moved front target).statuses i ≡ Some (code Enomem)
    → slice_get classes j ≡ Some (Move q g) → has_moved moved q ≡ false → IsNew classes j q → slice_get (decide classes moved front target).statuses j ≡ Some (code Enomem)

first_short : (page : Page) (from : ℕ) (classes : List Class) (target j : ℕ) (q : Page) (g : ℕ) (moved : List PageMove) (front : List ℕ) (b : Bool)
    → Some (move_choice b page from front target).status ≡ Some (code Enomem) → slice_get classes j ≡ Some (Move q g) → has_moved moved q ≡ false
    → slice_get (chosen (move_choice b page from front target) classes moved target).statuses (suc j) ≡ Some (code Enomem)
unfolding chosen move_choice
first_short page from classes target j q g moved front true short e h = absurd (not_on_target target short)
first_short page from classes target j q g moved [] false short e h =
    ap (λ (ts : List PageMove). slice_get (decide classes ts [] target).statuses j) (append-nil moved) ∙ starved classes moved target j q g e h
first_short page from classes target j q g moved (x ∷ front) false short e h = absurd (not_on_target target short)

later_short : (page : Page) (from : ℕ) (classes : List Class) (target i j : ℕ) (p q : Page) (f g : ℕ) → Then classes target i j p q f g → (moved : List PageMove) (front : List ℕ) (b : Bool)
    → slice_get classes i ≡ Some (Move p f) → slice_get (chosen (move_choice b page from front target) classes moved target).statuses (suc i) ≡ Some (code Enomem) → slice_get classes j ≡ Some (Move q g)
    → has_moved moved q ≡ false → IsNew (Move page from ∷ classes) (suc j) q → slice_get (chosen (move_choice b page from front target) classes moved target).statuses (suc j) ≡ Some (code Enomem)
unfolding chosen move_choice
later_short page from classes target i j p q f g rest moved front true first short e h new =
    rest (moved ++ []) front first short e (ap (λ (ts : List PageMove). has_moved ts q) (append-nil moved) ∙ h) (later_new (Move page from) classes j q new)
later_short page from classes target i j p q f g rest moved [] false first short e h new =
    rest (moved ++ []) [] first short e (ap (λ (ts : List PageMove). has_moved ts q) (append-nil moved) ∙ h) (later_new (Move page from) classes j q new)
later_short page from classes target i j p q f g rest moved (x ∷ front) false first short e h new =
    let t : PageMove = record { page = page; from = from; to = x } in
    rest (moved ++ t ∷ []) front first short e (still_new moved t q h (not_first page q from classes j new)) (later_new (Move page from) classes j q new)

pub short_then : (classes : List Class) (target i j : ℕ) (p q : Page) (f g : ℕ) → i < j → Then classes target i j p q f g
unfolding chosen move_choice
short_then [] target i j p q f g below moved front first short e h new = absurd (none_some first)
short_then (class ∷ classes) target i zero p q f g below moved front first short e h new = absurd (omega (arith, below))
short_then (Status s ∷ classes) target zero (suc j) p q f g below moved front first short e h new = absurd (not_status s p f first)
short_then (Move page from ∷ classes) target zero (suc j) p q f g below moved front first short e h new =
    first_short page from classes target j q g moved front (has_moved moved page) short e h
short_then (Status s ∷ classes) target (suc i) (suc j) p q f g below moved front first short e h new =
    short_then classes target i j p q f g (omega (arith, below)) (moved ++ []) front first short e (ap (λ (ts : List PageMove). has_moved ts q) (append-nil moved) ∙ h) (later_new (Status s) classes j q new)
short_then (Move page from ∷ classes) target (suc i) (suc j) p q f g below moved front first short e h new =
    later_short page from classes target i j p q f g (short_then classes target i j p q f g (omega (arith, below))) moved front (has_moved moved page) first short e h new
