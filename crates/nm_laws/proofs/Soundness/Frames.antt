-- Moving and freeing neither lose a frame nor use one twice.
use Rattle.std.proofs.Common.{◌≡◌, ℕ, suc, zero, ◌+◌, ◌-◌, ◌<◌, ◌≤◌, true, false, cond, length, List, [], ◌∷◌, ◌++◌, refl, sym, ap, subst, ◌∙◌, arith, eq-eqb, length-set, zero-add}
use Rattle.std.specs.Prelude.{Some, nat_lt, ◌==◌, if◌then◌else◌, slice_index_or, slice_set, sum}
use Rattle.std.specs.List.{AllByRecursion, sum_by}
use Rattle.std.specs.List.Sorted.{IsStrictlySortedBy}
use Rattle.std.specs.Option.{unwrap_or, option_map}
use Rattle.std.specs.Map.{keys_of, values_of}
use Rattle.std.proofs.lemmas.Bool.{ltb-true, eqb-true}
use Rattle.std.proofs.lemmas.Bool.Decides.{nat_tests}
use Rattle.std.proofs.lemmas.List.{get_or-set_other, get_or-set_same}
use Rattle.std.proofs.lemmas.List.Sums.{sum_by-cons, sum_by-append, sum_by-set}
use Rattle.std.proofs.lemmas.Map.Entries.{sum_by-insert_entry}
use Rattle.nm_types.specs.declared.page.Page.{Page}
use Rattle.nm_types.specs.Map.{Map, get, set, page_cmp}
use Rattle.nm_types.specs.Layout.{Layout, owner, node_of}
use Rattle.nm_types.specs.State.{State, free_list}
use Rattle.nm_types.specs.declared.page_move.PageMove.{PageMove}
use Rattle.nm_model.specs.definitions.Run.{moved_page, frames_left}
use Rattle.nm_model.specs.definitions.Sound.{times, holders, FramesAreOnce}
use Rattle.nm_types.proofs.Maps.{page_cmp_total}

-- whether it is this frame, as a number
abbrev pub here : ℕ → ℕ → ℕ
here f frame = cond (frame == f) 1 0

-- the frame that a page takes is one more holder, and the one that it leaves one fewer
place_times : (m : Map Page ℕ) (p : Page) (from frame f : ℕ) → IsStrictlySortedBy page_cmp (keys_of m) → get page_cmp m p ≡ Some from
    → times f (values_of (set page_cmp m p frame)) + here f from ≡ times f (values_of m) + here f frame
place_times m p from frame f sorted placed =
    subst (λ o. times f (values_of (set page_cmp m p frame)) + unwrap_or (option_map (here f) o) 0 ≡ times f (values_of m) + here f frame) placed
    (sum_by-insert_entry (here f) page_cmp_total m p frame sorted)

pub times_cons : (f g : ℕ) (xs : List ℕ) → times f (g ∷ xs) ≡ here f g + times f xs
times_cons f g xs = sum_by-cons (here f) g xs

pub times_push : (f g : ℕ) (xs : List ℕ) → times f (xs ++ g ∷ []) ≡ times f xs + here f g
times_push f g xs = sum_by-append (here f) xs (g ∷ []) ∙ ap (λ n. times f xs + n) (zero-add (here f g))

pub within : (free : List (List ℕ)) (node frame : ℕ) (rest : List ℕ) → slice_index_or free node [] ≡ frame ∷ rest → node < length free
within [] node frame rest e = cc
within (x ∷ free) zero frame rest e = omega arith
within (x ∷ free) (suc n) frame rest e = let h = within free n frame rest e in omega (arith, h)

moved_sum : (p q r t l x y z k : ℕ) → q + x ≡ p + y → t + (y + z) ≡ r + z → p + r + l ≡ k → q + t + (l + x) ≡ k
moved_sum p q r t l x y z k a b c = omega arith

freed_sum : (p r t l x z k : ℕ) → t + z ≡ r + (z + x) → p + r + (x + l) ≡ k → p + t + l ≡ k
freed_sum p r t l x z k a b = omega arith

pub append-nil : (xs : List ℕ) → xs ++ [] ≡ xs
append-nil [] = refl
append-nil (x ∷ xs) = ap (λ l. x ∷ l) (append-nil xs)

false_true : false ≡ true → ⊥
false_true e = cc

none_left : (a b c d : ℕ) → d ≡ 1 + c → a + b + d ≡ 0 → ⊥
none_left a b c d e h = omega arith

-- each frame of a state is in one place
abbrev pub OnceIn : State → List ℕ → Type 0
OnceIn s l = FramesAreOnce s.layout s.place s.free l

-- the free lists with another one at a node
abbrev pub AllOwn : Layout → List (List ℕ) → Type 0
AllOwn g free = (node : ℕ) → AllByRecursion (λ frame. node_of g frame ≡ node) (slice_index_or free node [])

pub own_set : (g : Layout) (free : List (List ℕ)) (at : ℕ) (new : List ℕ) → at < length free → AllOwn g free → AllByRecursion (λ frame. node_of g frame ≡ at) new → AllOwn g (slice_set free at new)
own_set g free at new h own this = λ node.
    elim (node == at) as (λ b. (node == at) ≡ b → AllByRecursion (λ frame. node_of g frame ≡ node) (slice_index_or (slice_set free at new) node [])) [
      | true ↦ λ e. subst (λ n. AllByRecursion (λ frame. node_of g frame ≡ n) (slice_index_or (slice_set free at new) n [])) (sym (eqb-true node at e))
          (subst (AllByRecursion (λ frame. node_of g frame ≡ at)) (sym (get_or-set_same free at new [] h)) this)
      | false ↦ λ e. subst (AllByRecursion (λ frame. node_of g frame ≡ node)) (sym (get_or-set_other free at node new [] (λ s. false_true (sym e ∙ eq-eqb _ _ s)))) (own node)
    ] refl

pub moved_frames : (s : State) (l : List ℕ) (target : ℕ) (p : Page) (from : ℕ) (front : List ℕ) → OnceIn s l → IsStrictlySortedBy page_cmp (keys_of s.place) → get page_cmp s.place p ≡ Some from → free_list s target ≡ front
    → OnceIn (moved_page s target p from front).state (l ++ frames_left (moved_page s target p from front).taken)
moved_frames s l target p from [] h order placed e = subst (OnceIn s) (sym (append-nil l)) h
moved_frames s l target p from (frame ∷ rest) h order placed e =
    let at = within s.free target frame rest e in
    let own : AllByRecursion (λ f. node_of s.layout f ≡ target) (frame ∷ rest) = subst (AllByRecursion (λ f. node_of s.layout f ≡ target)) e (h.own target) in
    record {
      lists = length-set s.free target rest ∙ h.lists;
      once = λ f.
          ap (λ n. times f (values_of (set page_cmp s.place p frame)) + sum_by (times f) (slice_set s.free target rest) + n) (times_push f from l)
          ∙ moved_sum (times f (values_of s.place)) _ (sum_by (times f) s.free) _ (times f l) (here f from) (here f frame) (times f rest) _
          (place_times s.place p from frame f order placed)
          (ap (λ n. sum_by (times f) (slice_set s.free target rest) + n) (sym (ap (times f) e ∙ times_cons f frame rest)) ∙ sum_by-set (times f) s.free target rest [] at)
          (h.once f);
      own = own_set s.layout s.free target rest at h.own own.1;
    }

pub left-append : (xs ys : List PageMove) → frames_left (xs ++ ys) ≡ frames_left xs ++ frames_left ys
left-append [] ys = refl
left-append (x ∷ xs) ys = ap (λ l. x.from ∷ l) (left-append xs ys)

pub owner_below : (sizes : List ℕ) (frame : ℕ) → frame < sum sizes → owner sizes frame < length sizes
owner_below [] frame h = omega arith
owner_below (size ∷ sizes) frame h =
    let whole : sum (size ∷ sizes) ≡ size + sum sizes = sum_by-cons (λ x. x) size sizes in
    elim (nat_lt frame size) as (λ b. nat_lt frame size ≡ b → (if b then 0 else suc (owner sizes (frame - size))) < suc (length sizes)) [
      | true ↦ λ e. omega arith
      | false ↦ λ e.
          let behind : size ≤ frame = grind (arith, nat_tests) in
          let ih = owner_below sizes (frame - size) (omega (arith, whole, h, behind)) in
          omega (arith, ih)
    ] refl

pub all_push : (P : ℕ → Type 0) (xs : List ℕ) (x : ℕ) → AllByRecursion P xs → P x → AllByRecursion P (xs ++ x ∷ [])
all_push P [] x h p = (p, h)
all_push P (y ∷ xs) x h p = (h.0, all_push P xs x h.1 p)

-- a frame that was left is one of the machine's
pub left_below : (g : Layout) (place : Map Page ℕ) (free : List (List ℕ)) (frame : ℕ) (l : List ℕ) → FramesAreOnce g place free (frame ∷ l) → frame < sum g.sizes
left_below g place free frame l h =
    elim (nat_lt frame (sum g.sizes)) as (λ b. nat_lt frame (sum g.sizes) ≡ b → holders place free (frame ∷ l) frame ≡ cond b 1 0 → frame < sum g.sizes) [
      | true ↦ λ e k. ltb-true _ _ e
      | false ↦ λ e k. absurd (none_left (times frame (values_of place)) (sum_by (times frame) free) (times frame l) _ (times_cons frame frame l ∙ ap (λ b. cond b 1 0 + times frame l) (eq-eqb frame frame refl)) k)
    ] refl (h.once frame)

pub frame_freed : (g : Layout) (place : Map Page ℕ) (free : List (List ℕ)) (frame : ℕ) (l : List ℕ) → FramesAreOnce g place free (frame ∷ l)
    → FramesAreOnce g place (slice_set free (node_of g frame) (slice_index_or free (node_of g frame) [] ++ frame ∷ [])) l
frame_freed g place free frame l h =
    let node = node_of g frame in
    let list = slice_index_or free node [] in
    let below : node < length g.sizes = owner_below g.sizes frame (left_below g place free frame l h) in
    let at : node < length free = omega (arith, below, h.lists) in
    record {
      lists = length-set free node (list ++ frame ∷ []) ∙ h.lists;
      once = λ f.
          freed_sum (times f (values_of place)) (sum_by (times f) free) _ (times f l) (here f frame) (times f list) _
          (sum_by-set (times f) free node (list ++ frame ∷ []) [] at ∙ ap (λ n. sum_by (times f) free + n) (times_push f frame list))
          (ap (λ n. times f (values_of place) + sum_by (times f) free + n) (sym (times_cons f frame l)) ∙ h.once f);
      own = own_set g free node (list ++ frame ∷ []) at h.own (all_push (λ f. node_of g f ≡ node) list frame (h.own node) refl);
    }
