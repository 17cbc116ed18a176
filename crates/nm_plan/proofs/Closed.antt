-- The decisions of a run are those of the closed form.
use Rattle.std.proofs.Common.{◌≡◌, ℕ, Bool, true, false, ◌||◌, List, [], ◌∷◌, ◌++◌, map, length, take, refl, sym, ap, ◌∙◌}
use Rattle.std.specs.Prelude.{ℤ, pos, if◌then◌else◌, slice_get, Some}
use Rattle.std.specs.List.{zip}
use Rattle.std.specs.Option.{option_map}
use Rattle.std.specs.Cmp.{eq_by_cmp_equiv}
use Rattle.std.proofs.lemmas.Option.{slice_get-map}
use Rattle.nm_types.proofs.Maps.{page_cmp_total}
use Rattle.std.proofs.lemmas.List.{append_assoc, append-nil}
use Rattle.std.proofs.lemmas.List.Folds.{list_any-append}
use Rattle.nm_types.specs.declared.errno.Errno.TheVariants.{Enomem}
use Rattle.nm_types.specs.declared.page.Page.{Page}
use Rattle.nm_types.specs.Map.{same_page}
use Rattle.nm_types.specs.declared.request.Class.{Class}
use Rattle.nm_types.specs.declared.request.Class.TheVariants.{Status, Move}
use Rattle.nm_model.specs.definitions.Status.{code}
use Rattle.nm_types.specs.declared.page_move.PageMove.{PageMove}
use Rattle.nm_model.specs.definitions.Decide.{Choice, Decisions, has_moved, take_front, decide}
use Rattle.nm_plan.specs.Closed.{is_one_of, new_pages, taking, status_by}

abbrev pages_of : List PageMove → List Page
pages_of taken = map (λ t. t.page) taken

-- the pages of moves, and a look at them
moved_by_page : (taken : List PageMove) (p : Page) → has_moved taken p ≡ is_one_of (pages_of taken) p
moved_by_page [] p = refl
moved_by_page (t ∷ taken) p = ap (λ b. same_page p t.page || b) (moved_by_page taken p)

pages_push : (taken : List PageMove) (t : PageMove) → pages_of (taken ++ t ∷ []) ≡ pages_of taken ++ t.page ∷ []
pages_push [] t = refl
pages_push (u ∷ taken) t = ap (λ (ps : List Page). u.page ∷ ps) (pages_push taken t)

no_frames : (es : List (Page × ℕ)) → zip {X = ℕ} es [] ≡ []
no_frames [] = refl
no_frames (e ∷ es) = refl

-- one more request, where this is whether its page has moved
after_one : Bool → Page → ℕ → List Class → List PageMove → List ℕ → ℕ → Decisions
after_one b page from classes moved front target =
    let now : Choice = if b then record { status = pos target; taken = []; front = front } else take_front page from front target in
    let rest = decide classes (moved ++ now.taken) now.front target in
    record { statuses = now.status ∷ rest.statuses; taken = now.taken ++ rest.taken }

-- the new pages from that request on
from_one : Bool → Page → ℕ → List Class → List Page → List (Page × ℕ)
from_one b page from classes met = if b then new_pages met classes else (page, from) ∷ new_pages (met ++ page ∷ []) classes

-- what the moves are, from any on
abbrev TakenIs : List Class → ℕ → Type 0
TakenIs classes target = (moved : List PageMove) (front : List ℕ) → (decide classes moved front target).taken ≡ map taking (zip (new_pages (pages_of moved) classes) front)

new_taken : (classes : List Class) (target : ℕ) → TakenIs classes target → (page : Page) (from : ℕ) (moved : List PageMove) (front : List ℕ)
    → (after_one false page from classes moved front target).taken ≡ map taking (zip (from_one false page from classes (pages_of moved)) front)
unfolding after_one from_one
new_taken classes target rest page from moved [] =
    ap (λ (ts : List PageMove). (decide classes ts [] target).taken) (append-nil moved) ∙ rest moved [] ∙ ap (λ (es : List ((Page × ℕ) × ℕ)). map taking es) (no_frames (new_pages (pages_of moved) classes))
new_taken classes target rest page from moved (f ∷ front) =
    let t : PageMove = record { page = page; from = from; to = f } in
    ap (λ (ts : List PageMove). t ∷ ts) (rest (moved ++ t ∷ []) front ∙ ap (λ (ps : List Page). map taking (zip (new_pages ps classes) front)) (pages_push moved t))

pub taken_closed : (classes : List Class) (target : ℕ) → TakenIs classes target
unfolding after_one from_one
taken_closed [] target moved front = refl
taken_closed (Status status ∷ classes) target moved front =
    ap (λ (ts : List PageMove). (decide classes ts front target).taken) (append-nil moved) ∙ taken_closed classes target moved front
taken_closed (Move page from ∷ classes) target moved front =
    elim (has_moved moved page) as (λ b. (after_one b page from classes moved front target).taken ≡ map taking (zip (from_one b page from classes (pages_of moved)) front)) [
      | true ↦ ap (λ (ts : List PageMove). (decide classes ts front target).taken) (append-nil moved) ∙ taken_closed classes target moved front
      | false ↦ new_taken classes target (taken_closed classes target) page from moved front
    ]
    ∙ ap (λ b. map taking (zip (from_one b page from classes (pages_of moved)) front)) (moved_by_page moved page)

-- the pages that move or have moved, from some on
abbrev going : List Page → List (Page × ℕ) → List ℕ → List Page
going met new front = met ++ map (λ e. e.0) (take (length front) new)

-- what the statuses are, from any on
abbrev StatusesAre : List Class → ℕ → Type 0
StatusesAre classes target = (moved : List PageMove) (front : List ℕ) → (decide classes moved front target).statuses ≡ map (status_by (going (pages_of moved) (new_pages (pages_of moved) classes) front) target) classes

one_of_both : (ps qs : List Page) (p : Page) → is_one_of (ps ++ qs) p ≡ (is_one_of ps p || is_one_of qs p)
one_of_both ps qs p = list_any-append (same_page p) ps qs

same_itself : (p : Page) → same_page p p ≡ true
same_itself p = (eq_by_cmp_equiv page_cmp_total).refl p

or_true : (a : Bool) → (a || true) ≡ true
or_true true = refl
or_true false = refl

-- a status and those after it
joined : (s t : ℤ) (ss ts : List ℤ) → s ≡ t → ss ≡ ts → s ∷ ss ≡ t ∷ ts
joined s t ss ts e f = ap (λ (x : ℤ). x ∷ ss) e ∙ ap (λ (xs : List ℤ). t ∷ xs) f

moved_status : (classes : List Class) (target : ℕ) → StatusesAre classes target → (page : Page) (from : ℕ) (moved : List PageMove) (front : List ℕ) → has_moved moved page ≡ true
    → (after_one true page from classes moved front target).statuses ≡ map (status_by (going (pages_of moved) (from_one true page from classes (pages_of moved)) front) target) (Move page from ∷ classes)
unfolding after_one from_one
moved_status classes target rest page from moved front h =
    let new = map (λ (e : Page × ℕ). e.0) (take (length front) (new_pages (pages_of moved) classes)) in
    let known : is_one_of (pages_of moved ++ new) page ≡ true = one_of_both (pages_of moved) new page ∙ ap (λ b. b || is_one_of new page) (sym (moved_by_page moved page) ∙ h) in
    joined _ _ _ _ (sym (ap (λ b. if b then pos target else code Enomem) known)) (ap (λ (ts : List PageMove). (decide classes ts front target).statuses) (append-nil moved) ∙ rest moved front)

new_status : (classes : List Class) (target : ℕ) → StatusesAre classes target → (page : Page) (from : ℕ) (moved : List PageMove) (front : List ℕ) → has_moved moved page ≡ false
    → (after_one false page from classes moved front target).statuses ≡ map (status_by (going (pages_of moved) (from_one false page from classes (pages_of moved)) front) target) (Move page from ∷ classes)
unfolding after_one from_one
new_status classes target rest page from moved [] h =
    let unknown : is_one_of (pages_of moved ++ []) page ≡ false = ap (λ (ps : List Page). is_one_of ps page) (append-nil (pages_of moved)) ∙ sym (moved_by_page moved page) ∙ h in
    joined _ _ _ _ (sym (ap (λ b. if b then pos target else code Enomem) unknown)) (ap (λ (ts : List PageMove). (decide classes ts [] target).statuses) (append-nil moved) ∙ rest moved [])
new_status classes target rest page from moved (f ∷ front) h =
    let t : PageMove = record { page = page; from = from; to = f } in
    let met = pages_of moved in
    let new = map (λ (e : Page × ℕ). e.0) (take (length front) (new_pages (met ++ page ∷ []) classes)) in
    let known : is_one_of (met ++ page ∷ new) page ≡ true = one_of_both met (page ∷ new) page ∙ ap (λ b. is_one_of met page || (b || is_one_of new page)) (same_itself page) ∙ or_true (is_one_of met page) in
    joined _ _ _ _ (sym (ap (λ b. if b then pos target else code Enomem) known))
    (rest (moved ++ t ∷ []) front ∙ ap (λ (ps : List Page). map (status_by (going ps (new_pages ps classes) front) target) classes) (pages_push moved t)
    ∙ ap (λ (ps : List Page). map (status_by ps target) classes) (append_assoc met (page ∷ []) new))

pub statuses_closed : (classes : List Class) (target : ℕ) → StatusesAre classes target
unfolding after_one from_one
statuses_closed [] target moved front = refl
statuses_closed (Status status ∷ classes) target moved front =
    ap (λ (ss : List ℤ). status ∷ ss) (ap (λ (ts : List PageMove). (decide classes ts front target).statuses) (append-nil moved) ∙ statuses_closed classes target moved front)
statuses_closed (Move page from ∷ classes) target moved front =
    elim (has_moved moved page) as (λ b. has_moved moved page ≡ b → (after_one b page from classes moved front target).statuses
    ≡ map (status_by (going (pages_of moved) (from_one b page from classes (pages_of moved)) front) target) (Move page from ∷ classes)) [
      | true ↦ λ h. moved_status classes target (statuses_closed classes target) page from moved front h
      | false ↦ λ h. new_status classes target (statuses_closed classes target) page from moved front h
    ] refl
    ∙ ap (λ b. map (status_by (going (pages_of moved) (from_one b page from classes (pages_of moved)) front) target) (Move page from ∷ classes)) (moved_by_page moved page)

-- requests for one page have one status
pub alike : (classes : List Class) (front : List ℕ) (target i j : ℕ) (page : Page) (from other : ℕ) → slice_get classes i ≡ Some (Move page from) → slice_get classes j ≡ Some (Move page other)
    → slice_get (decide classes [] front target).statuses i ≡ slice_get (decide classes [] front target).statuses j
alike classes front target i j page from other first later =
    let by = status_by (going [] (new_pages [] classes) front) target in
    let all : (decide classes [] front target).statuses ≡ map by classes = statuses_closed classes target [] front in
    ap (λ (ss : List ℤ). slice_get ss i) all ∙ slice_get-map by classes i ∙ ap (option_map by) (first) ∙ sym (ap (option_map by) later) ∙ sym (slice_get-map by classes j) ∙ sym (ap (λ (ss : List ℤ). slice_get ss j) all)
