-- A look that counts the processes shows whether another one sees the page.
use Rattle.std.proofs.Common.{◌≡◌, ◌≤◌, ℕ, suc, List, [], ◌∷◌, Bool, true, false, not, ◌&&◌, ◌||◌, cond, length, refl, sym, ap, subst, ◌∙◌, eq-eqb, lt-ltb, arith}
use Rattle.std.specs.Prelude.{Option, Some, None, pos, nat_lt, ◌==◌, if◌then◌else◌}
use Rattle.std.specs.List.{list_any, filter, AllByRecursion}
use Rattle.std.specs.List.Sorted.{IsStrictlySortedBy}
use Rattle.std.specs.Map.{keys_of}
use Rattle.std.specs.Ordering.{nat_cmp, is_eq}
use Rattle.std.specs.Cmp.{tied_itself, nat_cmp_total}
use Rattle.std.specs.declared.cmp.Ordering.TheVariants.{Less, Equal}
use Rattle.std.proofs.lemmas.Bool.{or_left, or_right, eqb-true, ne_eqb}
use Rattle.std.proofs.lemmas.Map.Keys.{sorted_head}
use Rattle.nm_types.specs.declared.page.Page.{Page}
use Rattle.nm_types.specs.Map.{Map, get, page_cmp}
use Rattle.nm_types.specs.declared.sight.Sight.{Sight}
use Rattle.nm_types.specs.declared.sight.Sight.TheVariants.{ZeroPage, Sees}
use Rattle.nm_types.specs.State.{Process, State, page_at}
use Rattle.nm_types.specs.declared.request.Wanted.{Wanted}
use Rattle.nm_types.specs.declared.request.Wanted.TheVariants.{At as Spot, Whole}
use Rattle.nm_model.specs.definitions.Seen.{sight_in, sight_at, is_sight_of, sees_page, users, look_at_page, look_under, page_or_error}
use Rattle.nm_model.specs.definitions.Status.{others_see, page_status, seen_status, status_or_move, class_of_look, class_of}
use Rattle.std.proofs.lemmas.Map.Lookups.{exact_unsigned}
use Rattle.nm_types.specs.declared.errno.Errno.TheVariants.{Eacces, Ebusy}
use Rattle.nm_types.specs.Layout.{node_of}
use Rattle.nm_types.specs.declared.request.Class.TheVariants.{Status, Move}
use Rattle.nm_model.specs.definitions.Seen.{is_pinned}
use Rattle.nm_model.specs.definitions.Status.{code}
use Rattle.nm_types.specs.declared.seen.Seen.TheVariants.{At}
use Rattle.nm_laws.specs.Laws.{LooksAreBounded}
use Rattle.nm_types.proofs.Maps.{page_cmp_total, equal}

-- a test of processes, whatever it asks
abbrev chosen : (Process → Bool) → Map ℕ Process → List ℕ
chosen test ps = keys_of (filter (λ e. test e.1) ps)

sees_it : (sees : Map ℕ Sight) (v : ℕ) (p : Page) → get nat_cmp sees v ≡ Some (Sees p) → list_any (λ e. is_sight_of p e.1) sees ≡ true
sees_it [] v p h = cc
sees_it (e ∷ sees) v p h =
    elim (is_eq (nat_cmp v e.0)) as (λ b. cond b (Some e.1) (get nat_cmp sees v) ≡ Some (Sees p) → (is_sight_of p e.1 || list_any (λ e. is_sight_of p e.1) sees) ≡ true) [
      | true ↦ λ h. let is : e.1 ≡ Sees p = cc in or_left _ _ (ap (is_sight_of p) is ∙ ap is_eq (tied_itself page_cmp_total p))
      | false ↦ λ h. or_right _ _ (sees_it sees v p h)
    ] h

-- a process that passes the test is chosen
is_chosen : (test : Process → Bool) (ps : Map ℕ Process) (pid : ℕ) (q : Process) → get nat_cmp ps pid ≡ Some q → test q ≡ true → list_any (λ u. u == pid) (chosen test ps) ≡ true
is_chosen test [] pid q h t = cc
is_chosen test (e ∷ ps) pid q h t =
    let rest = filter (λ e. test e.1) ps in
    elim (is_eq (nat_cmp pid e.0)) as (λ b. is_eq (nat_cmp pid e.0) ≡ b → cond b (Some e.1) (get nat_cmp ps pid) ≡ Some q → list_any (λ u. u == pid) (keys_of (cond (test e.1) (e ∷ rest) rest)) ≡ true) [
      | true ↦ λ b h.
          let is : e.1 ≡ q = cc in
          subst (λ c. list_any (λ u. u == pid) (keys_of (cond c (e ∷ rest) rest)) ≡ true) (sym (ap test is ∙ t))
          (or_left _ _ (eq-eqb e.0 pid (sym (exact_unsigned pid e.0 (equal _ b)))))
      | false ↦ λ b h.
          let more = is_chosen test ps pid q h t in
          elim (test e.1) as (λ c. list_any (λ u. u == pid) (keys_of (cond c (e ∷ rest) rest)) ≡ true) [ true ↦ or_right _ _ more | false ↦ more ]
    ] refl h

-- only keys are chosen, which are in order
chosen_above : (test : Process → Bool) (ps : Map ℕ Process) (k : ℕ) → AllByRecursion (λ y. nat_cmp k y ≡ Less) (keys_of ps) → AllByRecursion (λ y. nat_cmp k y ≡ Less) (chosen test ps)
chosen_above test [] k h = tt
chosen_above test (e ∷ ps) k h =
    elim (test e.1) as (λ b. AllByRecursion (λ y. nat_cmp k y ≡ Less) (keys_of (cond b (e ∷ filter (λ e. test e.1) ps) (filter (λ e. test e.1) ps)))) [
      | true ↦ (h.0, chosen_above test ps k h.1)
      | false ↦ chosen_above test ps k h.1
    ]

chosen_in_order : (test : Process → Bool) (ps : Map ℕ Process) → IsStrictlySortedBy nat_cmp (keys_of ps) → IsStrictlySortedBy nat_cmp (chosen test ps)
unfolding IsStrictlySortedBy
chosen_in_order test [] h = tt
chosen_in_order test (e ∷ ps) h =
    elim (test e.1) as (λ b. IsStrictlySortedBy nat_cmp (keys_of (cond b (e ∷ filter (λ e. test e.1) ps) (filter (λ e. test e.1) ps)))) [
      | true ↦ (chosen_above test ps e.0 h.0, chosen_in_order test ps h.1)
      | false ↦ chosen_in_order test ps h.1
    ]

less_equal : Less ≡ Equal → ⊥
less_equal e = cc

two : (n : ℕ) → nat_lt 1 (suc (suc n)) ≡ true
two n = lt-ltb 1 (suc (suc n)) (omega arith)

-- of two or more numbers in order, one is another than this
others : (us : List ℕ) (pid : ℕ) → IsStrictlySortedBy nat_cmp us → list_any (λ u. u == pid) us ≡ true → nat_lt 1 (length us) ≡ list_any (λ u. not (u == pid)) us
others [] pid s h = cc
others (u ∷ []) pid s h =
    elim (u == pid) as (λ b. (b || false) ≡ true → nat_lt 1 (length (u ∷ [])) ≡ (not b || false)) [
      | true ↦ λ h. refl
      | false ↦ λ h. cc
    ] h
others (u ∷ w ∷ us) pid s h =
    elim (u == pid) as (λ b. (u == pid) ≡ b → nat_lt 1 (length (u ∷ w ∷ us)) ≡ (not b || (not (w == pid) || list_any (λ u. not (u == pid)) us))) [
      | true ↦ λ b.
          two (length us) ∙ sym (or_left _ _ (ap not (ne_eqb w pid (λ e.
          less_equal (sym (sorted_head nat_cmp u (w ∷ us) s).0 ∙ ap (nat_cmp u) (e ∙ sym (eqb-true u pid b)) ∙ tied_itself nat_cmp_total u)))))
      | false ↦ λ b. two (length us)
    ] refl

pub look_tells : (s : State) (pid : ℕ) (p : Page) (o : Option Process) (v : ℕ) → IsStrictlySortedBy nat_cmp (keys_of s.processes) → get nat_cmp s.processes pid ≡ o → sight_in o v ≡ Some (Sees p)
    → nat_lt 1 (length (users s.processes p)) ≡ others_see s pid p
look_tells s pid p None v order h k = cc
look_tells s pid p (Some q) v order h k =
    others (users s.processes p) pid (chosen_in_order (sees_page p) s.processes order) (is_chosen (sees_page p) s.processes pid q h (sees_it q.sees v p k))

page_tells : (s : State) (target : ℕ) (all : Bool) (kept : Bool) (p : Page) (o : Option ℕ) → (nat_lt 1 (length (users s.processes p)) && not all) ≡ kept
    → class_of_look s.layout target all (look_at_page s p o) ≡ page_status s target kept p o
page_tells s target all kept p None h = refl
page_tells s target all kept p (Some frame) h =
    ap (λ b. if node_of s.layout frame == target then Status (pos target) else (if b then Status (code Eacces) else (if is_pinned s p then Status (code Ebusy) else Move p frame))) h

seen_tells : (s : State) (target pid v : ℕ) (all : Bool) (p : Option Page) (o : Option Sight) → IsStrictlySortedBy nat_cmp (keys_of s.processes) → sight_at s pid v ≡ o
    → class_of_look s.layout target all (look_under s p o) ≡ seen_status s target pid all (page_or_error p o)
seen_tells s target pid v all None o order h = refl
seen_tells s target pid v all (Some shown) None order h = refl
seen_tells s target pid v all (Some shown) (Some ZeroPage) order h = refl
seen_tells s target pid v all (Some shown) (Some (Sees p)) order h =
    page_tells s target all _ p (get page_cmp s.place p) (ap (λ b. b && not all) (look_tells s pid p (get nat_cmp s.processes pid) v order refl h))

none_other : (b : Bool) → (b && not true) ≡ false
none_other true = refl
none_other false = refl

pub looks_suffice : (s : State) (target : ℕ) (w : Wanted) → IsStrictlySortedBy nat_cmp (keys_of s.processes) → class_of s target w ≡ status_or_move s target w
looks_suffice s target (Spot pid v all) order = seen_tells s target pid v all (page_at s.areas pid v) (sight_at s pid v) order refl
looks_suffice s target (Whole p) order = page_tells s target true false p (get page_cmp s.place p) (none_other (nat_lt 1 (length (users s.processes p))))

-- no more processes see a page than there are
few_chosen : (test : Process → Bool) (ps : Map ℕ Process) → length (chosen test ps) ≤ length ps
few_chosen test [] = omega arith
few_chosen test (e ∷ ps) =
    let rest = few_chosen test ps in
    elim (test e.1) as (λ b. length (keys_of (cond b (e ∷ filter (λ e. test e.1) ps) (filter (λ e. test e.1) ps))) ≤ suc (length ps)) [
      | true ↦ omega (arith, rest)
      | false ↦ omega (arith, rest)
    ]

counted_is : {p q : Page} {f g n m : ℕ} {b c : Bool} → At p f n b ≡ At q g m c → n ≡ m
counted_is e = cc

few_at_page : (s : State) (q p : Page) (o : Option ℕ) (frame n : ℕ) (pinned : Bool) → look_at_page s q o ≡ At p frame n pinned → n ≤ length s.processes
few_at_page s q p None frame n pinned e = cc
few_at_page s q p (Some f) frame n pinned e = let few = few_chosen (sees_page q) s.processes in let same = counted_is e in omega (arith, few, same)

few_under : (s : State) (p : Page) (o : Option Page) (x : Option Sight) (frame n : ℕ) (pinned : Bool) → look_under s o x ≡ At p frame n pinned → n ≤ length s.processes
few_under s p None x frame n pinned e = cc
few_under s p (Some q) None frame n pinned e = cc
few_under s p (Some q) (Some ZeroPage) frame n pinned e = cc
few_under s p (Some q) (Some (Sees r)) frame n pinned e = few_at_page s r p (get page_cmp s.place r) frame n pinned e

pub looks_are_bounded : LooksAreBounded
looks_are_bounded s pid v p frame n pinned h e =
    let few = h.few in
    let seen = few_under s p (page_at s.areas pid v) (sight_at s pid v) frame n pinned e in
    omega (arith, few, seen)
