-- What is chosen for one request, by what the code has looked up.
use Rattle.std.proofs.Common.{◌≡◌, ℕ, ◌<◌, ◌≤◌, ◌+◌, Bool, true, false, List, [], ◌∷◌, ◌++◌, append_assoc, length, drop, get_or, sym, ap, ◌∙◌, arith, add-one, refl, suc, pos, rules}
use Rattle.std.proofs.lemmas.List.{append-nil, length-append, length-drop, drop_all}
use mir.Val.{SFits, to_z, of_z}
use mir.Syntax.{w32}
use Rattle.std.proofs.lemmas.Int.{to_z_pos}
use Rattle.std.proofs.Math.Seq.{drop-cons}
use Rattle.std.specs.Prelude.{ℤ, ◌-ℤ◌, if◌then◌else◌, Option, position}
use Rattle.std.specs.List.{zip}
use Rattle.nm_types.specs.declared.errno.Errno.TheVariants.{Enomem}
use Rattle.nm_types.specs.declared.page.Page.{Page}
use Rattle.nm_types.specs.declared.request.Class.{Class}
use Rattle.nm_types.specs.declared.request.Class.TheVariants.{Status, Move}
use Rattle.nm_model.specs.definitions.Status.{code}
use Rattle.nm_types.specs.declared.page_move.PageMove.{PageMove}
use Rattle.nm_model.specs.definitions.Decide.{Choice, Decisions, RunPlan, choose, decide, has_moved, is_short, take_front, shortage, plan_run}

abbrev pub choice : ℤ → List PageMove → List ℕ → Choice
choice status taken front = record { status = status; taken = taken; front = front }

-- what a look has shown
pub known_moved : (ts shown : List PageMove) (page : Page) (found b : Bool) → shown ≡ ts → found ≡ has_moved shown page → found ≡ b → has_moved ts page ≡ b
known_moved ts shown page found b is e h = ap (λ (us : List PageMove). has_moved us page) (sym is) ∙ sym e ∙ h

module _ (class : Class) (ts : List PageMove) (front : List ℕ) (target : ℕ) where
  abbrev pub chosen : Choice
  chosen = choose class ts (drop (length ts) front) target

  pub of_status : (s : ℤ) → class ≡ Status s → chosen ≡ choice s [] (drop (length ts) front)
  of_status s e = ap (λ (c : Class). choose c ts (drop (length ts) front) target) e

  module _ (page : Page) (from : ℕ) (is : class ≡ Move page from) where
    of_move : (b : Bool) (rest : List ℕ) → has_moved ts page ≡ b → drop (length ts) front ≡ rest
        → chosen ≡ (if b then choice (pos target) [] rest else take_front page from rest target)
    of_move b rest h e =
        ap (λ (c : Class). choose c ts (drop (length ts) front) target) is
        ∙ ap (λ (fs : List ℕ). choose (Move page from) ts fs target) e
        ∙ ap (λ b. if b then choice (pos target) [] rest else take_front page from rest target) h

    pub of_moved : has_moved ts page ≡ true → chosen ≡ choice (pos target) [] (drop (length ts) front)
    of_moved h = of_move true (drop (length ts) front) h refl

    pub of_short : (n : ℕ) → n ≡ length ts → has_moved ts page ≡ false → length front ≤ n → chosen ≡ choice (code Enomem) [] []
    of_short n at h few = of_move false [] h (drop_all (length ts) front (omega (arith, at, few)))

    pub of_new : (n to : ℕ) → n ≡ length ts → has_moved ts page ≡ false → n < length front → to ≡ get_or front n to
        → chosen ≡ choice (pos target) (record { page = page; from = from; to = to } ∷ []) (drop (length ts + 1) front)
    of_new n to at h within value =
        of_move false (to ∷ drop (length ts + 1) front) h
        (drop-cons front (length ts) to (omega (arith, at, within)) ∙ ap (λ (k : ℕ). k ∷ drop (suc (length ts)) front) (sym (value ∙ ap (λ (k : ℕ). get_or front k to) at))
        ∙ ap (λ (k : ℕ). to ∷ drop k front) (sym (add-one (length ts))))

  -- where no page moves
  pub none_taken : chosen.taken ≡ [] → ts ≡ ts ++ chosen.taken
  none_taken e = sym (append-nil ts) ∙ ap (λ (us : List PageMove). ts ++ us) (sym e)

  -- where one does
  module _ (t : PageMove) (new : List PageMove) (made : new ≡ ts ++ t ∷ []) where
    pub one_taken : chosen.taken ≡ t ∷ [] → new ≡ ts ++ chosen.taken
    one_taken e = made ∙ ap (λ (us : List PageMove). ts ++ us) (sym e)

    pub front_after : chosen.front ≡ drop (length ts + 1) front → drop (length new) front ≡ chosen.front
    front_after e = ap (λ (us : List PageMove). drop (length us) front) made ∙ ap (λ (k : ℕ). drop k front) (length-append ts (t ∷ [])) ∙ sym e

pub none_left : (front : List ℕ) (n k : ℕ) → n ≡ k → length front ≤ n → drop k front ≡ []
none_left front n k at few = drop_all k front (omega (arith, at, few))

-- a node's number as a status
pub node_fits : (n target : ℕ) → n ≡ target → target < 2147483648 → SFits w32 (pos n)
node_fits n target e h = search rules

pub node_status : (n target : ℕ) → n ≡ target → target < 2147483648 → to_z w32 n ≡ pos target
node_status n target e h = to_z_pos w32 n (omega (arith, e, h)) ∙ ap pos e

-- -12
pub no_frame_fits : (n : ℤ) → n ≡ pos 12 → SFits w32 (pos 0 -ℤ to_z w32 (of_z w32 n))
no_frame_fits n e = search rules

pub no_frame_status : (n : ℤ) → n ≡ pos 12 → to_z w32 (of_z w32 (pos 0 -ℤ to_z w32 (of_z w32 n))) ≡ code Enomem
no_frame_status n e = ap (λ (k : ℤ). to_z w32 (of_z w32 (pos 0 -ℤ to_z w32 (of_z w32 k)))) e

-- ---- one after another

-- one request takes one frame at most
taken_by : (b : Bool) (page : Page) (from : ℕ) (front : List ℕ) (target : ℕ) → length (if b then choice (pos target) [] front else take_front page from front target).taken ≤ 1
taken_by true page from front target = omega arith
taken_by false page from [] target = omega arith
taken_by false page from (f ∷ front) target = omega arith

few_taken : (class : Class) (ts : List PageMove) (front : List ℕ) (target : ℕ) → length (choose class ts front target).taken ≤ 1
few_taken (Status s) ts front target = omega arith
few_taken (Move page from) ts front target = taken_by (has_moved ts page) page from front target

module _ (classes : List Class) (free : List ℕ) (target : ℕ) where
  abbrev after : List Class → List PageMove → Decisions
  after cs ts = decide cs ts (drop (length ts) free) target

  -- at the start
  pub start_statuses : (ss : List ℤ) (ts : List PageMove) → ss ≡ [] → ts ≡ [] → ss ++ (after classes ts).statuses ≡ (decide classes [] free target).statuses
  start_statuses ss ts e f = ap (λ (xs : List ℤ). xs ++ (after classes ts).statuses) e ∙ ap (λ (us : List PageMove). (after classes us).statuses) f

  pub start_moves : (ts : List PageMove) → ts ≡ [] → ts ++ (after classes ts).taken ≡ (decide classes [] free target).taken
  start_moves ts f = ap (λ (us : List PageMove). us ++ (after classes us).taken) f

  -- where this request is decided
  module _ (i : ℕ) (class : Class) (within : i < length classes) (is : class ≡ get_or classes i class) (ts new : List PageMove)
      (made : new ≡ ts ++ (chosen class ts free target).taken) where
    rest_is : drop i classes ≡ class ∷ drop (i + 1) classes
    rest_is = drop-cons classes i class within ∙ ap (λ (c : Class). c ∷ drop (suc i) classes) (sym is) ∙ ap (λ (k : ℕ). class ∷ drop k classes) (sym (add-one i))

    module _ (left : drop (length new) free ≡ (chosen class ts free target).front) where
      on : after (drop (i + 1) classes) new ≡ decide (drop (i + 1) classes) (ts ++ (chosen class ts free target).taken) (chosen class ts free target).front target
      on = ap (λ (fs : List ℕ). decide (drop (i + 1) classes) new fs target) left ∙ ap (λ (us : List PageMove). decide (drop (i + 1) classes) us (chosen class ts free target).front target) made

      pub next_statuses : (ss more : List ℤ) (s told : ℤ) → more ≡ ss ++ s ∷ [] → s ≡ told → told ≡ (chosen class ts free target).status
          → ss ++ (after (drop i classes) ts).statuses ≡ (decide classes [] free target).statuses
          → more ++ (after (drop (i + 1) classes) new).statuses ≡ (decide classes [] free target).statuses
      next_statuses ss more s told e same f h =
          ap (λ (xs : List ℤ). xs ++ (after (drop (i + 1) classes) new).statuses) e ∙ append_assoc ss (s ∷ []) (after (drop (i + 1) classes) new).statuses
          ∙ ap (λ (x : ℤ). ss ++ x ∷ (after (drop (i + 1) classes) new).statuses) (same ∙ f)
          ∙ ap (λ (d : Decisions). ss ++ (chosen class ts free target).status ∷ d.statuses) on
          ∙ sym (ap (λ (cs : List Class). ss ++ (after cs ts).statuses) rest_is) ∙ h

      pub next_moves : ts ++ (after (drop i classes) ts).taken ≡ (decide classes [] free target).taken → new ++ (after (drop (i + 1) classes) new).taken ≡ (decide classes [] free target).taken
      next_moves h =
          ap (λ (us : List PageMove). us ++ (after (drop (i + 1) classes) new).taken) made ∙ append_assoc ts (chosen class ts free target).taken (after (drop (i + 1) classes) new).taken
          ∙ ap (λ (d : Decisions). ts ++ ((chosen class ts free target).taken ++ d.taken)) on
          ∙ sym (ap (λ (cs : List Class). ts ++ (after cs ts).taken) rest_is) ∙ h

    pub next_move_room : (cap now : ℕ) → now ≡ cap → length ts + length (drop i classes) ≤ cap → length new + length (drop (i + 1) classes) ≤ now
    next_move_room cap now same room =
        omega (arith, same, room, ap (λ (us : List PageMove). length us) made, length-append ts (chosen class ts free target).taken, few_taken class ts (drop (length ts) free) target, ap (λ (cs : List Class). length cs) rest_is)

  -- room for one more
  pub has_room : {X : Type 0} (i len cap : ℕ) (xs : List X) → len ≡ length xs → i < length classes → length xs + length (drop i classes) ≤ cap → len < cap
  has_room i len cap xs e within room = omega (arith, e, within, room, length-drop i classes)

  pub next_status_room : (i cap now : ℕ) (ss more : List ℤ) (s : ℤ) → more ≡ ss ++ s ∷ [] → now ≡ cap → i < length classes → length ss + length (drop i classes) ≤ cap
      → length more + length (drop (i + 1) classes) ≤ now
  next_status_room i cap now ss more s e same within room =
      omega (arith, same, within, room, ap (λ (xs : List ℤ). length xs) e, length-append ss (s ∷ []), length-drop i classes, length-drop (i + 1) classes)

  -- at the end
  pub end_planned : (i : ℕ) (ss : List ℤ) (ts : List PageMove) (shown : List ℤ) (place : Option ℕ) → length classes ≤ i
      → ss ++ (after (drop i classes) ts).statuses ≡ (decide classes [] free target).statuses → ts ++ (after (drop i classes) ts).taken ≡ (decide classes [] free target).taken
      → shown ≡ ss → place ≡ position is_short (zip classes shown) → record { statuses = ss; taken = ts; shortage = place } ≡ plan_run classes free target
  end_planned i ss ts shown place past s_are t_are same found =
      let none : drop i classes ≡ [] = drop_all i classes past in
      let all_s : ss ≡ (decide classes [] free target).statuses = sym (append-nil ss) ∙ ap (λ (cs : List Class). ss ++ (after cs ts).statuses) (sym none) ∙ s_are in
      let all_t : ts ≡ (decide classes [] free target).taken = sym (append-nil ts) ∙ ap (λ (cs : List Class). ts ++ (after cs ts).taken) (sym none) ∙ t_are in
      let made : List ℤ → List PageMove → Option ℕ → RunPlan = λ xs us o. record { statuses = xs; taken = us; shortage = o } in
      ap (made ss ts) (found ∙ ap (λ (xs : List ℤ). position is_short (zip classes xs)) (same ∙ all_s)) ∙ ap (λ (us : List PageMove). made ss us (shortage classes (decide classes [] free target))) all_t
      ∙ ap (λ (xs : List ℤ). made xs (decide classes [] free target).taken (shortage classes (decide classes [] free target))) all_s
