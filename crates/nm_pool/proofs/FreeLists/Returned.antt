-- The frames of a run that does not begin are put back.
use Rattle.std.proofs.Common.{◌≡◌, ℕ, suc, zero, ◌+◌, ◌-◌, ◌<◌, ◌≤◌, List, [], ◌∷◌, ◌++◌, Bool, true, false, cond, length, drop, refl, ap, subst, ◌∙◌, arith, length-set, eq-eqb}
use Rattle.std.specs.Prelude.{nat_lt, sum, slice_index_or, slice_set}
use Rattle.std.specs.List.{AllByRecursion, sum_by}
use Rattle.std.specs.Map.{values_of}
use Rattle.std.proofs.lemmas.List.{get_or-set_same, set-set}
use Rattle.std.proofs.lemmas.List.Sums.{sum_by_more_le}
use Rattle.nm_types.specs.Layout.{Layout, owner, node_of, frame_count}
use Rattle.nm_types.specs.Nodes.{is_in}
use Rattle.nm_types.specs.State.{State, free_list}
use Rattle.nm_model.specs.definitions.Frames.{Pool, list_of, with_list, with_front}
use Rattle.nm_types.specs.declared.page_move.PageMove.{PageMove}
use Rattle.nm_model.specs.definitions.BeforeCopy.{frames_taken, with_fronts}
use Rattle.nm_model.specs.definitions.Sound.{times, IsSound}
use Rattle.nm_laws.proofs.Soundness.Frames.{here, times_cons}
use Rattle.nm_laws.proofs.Soundness.Counted.{not_in, counted_below}
use Rattle.nm_pool.specs.views.Frames.{CanReturn}

one_here : (f : ℕ) → here f f ≡ 1
one_here f = ap (λ b. cond b 1 0) (eq-eqb f f refl)

-- frames of a node, none of them twice
pub can_return : (frames : List ℕ) (p : Pool) (node : ℕ) → ((f : ℕ) → times f (frames ++ list_of p node) ≤ 1) → AllByRecursion (λ f. (f < sum p.sizes) × (owner p.sizes f ≡ node)) frames → CanReturn p node frames
can_return [] p node few own = tt
can_return (frame ∷ frames) p node few own =
    let rest = frames ++ list_of p node in
    let none : times frame rest ≡ 0 = let most = few frame in omega (arith, most, one_here frame, times_cons frame frame rest) in (
      own.0.0,
      own.0.1,
      not_in rest frame none,
      can_return frames p node (λ f. let most = few f in omega (arith, most, times_cons f frame rest)) own.1,
    )

pub can_drop : (k : ℕ) (frames : List ℕ) (p : Pool) (node : ℕ) → CanReturn p node frames → CanReturn p node (drop k frames)
can_drop zero frames p node can = can
can_drop (suc k) [] p node can = tt
can_drop (suc k) (frame ∷ frames) p node can = can_drop k frames p node can.3

-- one frame goes to the front of a node's list that has others already
pub one_back : (p : Pool) (node : ℕ) (others : List ℕ) (frame : ℕ) → node < length p.lists → owner p.sizes frame ≡ node → with_front (with_list p node others) frame ≡ with_list p node (frame ∷ others)
one_back p node others frame inside own =
    ap (λ n. with_list (with_list p node others) n (frame ∷ list_of (with_list p node others) n)) own
    ∙ ap (λ (ls : List (List ℕ)). record p { lists = ls })
    (set-set p.lists node others (frame ∷ slice_index_or (slice_set p.lists node others) node [])
    ∙ ap (λ (xs : List ℕ). slice_set p.lists node (frame ∷ xs)) (get_or-set_same p.lists node others [] inside))

pub there_now : (p : Pool) (node : ℕ) (others : List ℕ) (frame : ℕ) → node < length p.lists → owner p.sizes frame ≡ node → is_in others frame ≡ false → is_in (list_of (with_list p node others) (owner p.sizes frame)) frame ≡ false
there_now p node others frame inside own apart =
    ap (λ n. is_in (slice_index_or (slice_set p.lists node others) n []) frame) own ∙ ap (λ (xs : List ℕ). is_in xs frame) (get_or-set_same p.lists node others [] inside) ∙ apart

-- an item of those that are left
pub tos_from : (taken : List PageMove) (k : ℕ) (d : PageMove) → k < length taken → drop k (frames_taken taken) ≡ (slice_index_or taken k d).to ∷ drop (suc k) (frames_taken taken)
tos_from [] k d lt = absurd (omega (arith, lt))
tos_from (t ∷ taken) zero d lt = refl
tos_from (t ∷ taken) (suc k) d lt = tos_from taken k d (omega (arith, lt))

own_below : (s : State) (node : ℕ) (frames : List ℕ) → ((f : ℕ) → 1 ≤ times f frames → f < frame_count s.layout) → AllByRecursion (λ f. node_of s.layout f ≡ node) frames
    → AllByRecursion (λ f. (f < sum s.layout.sizes) × (owner s.layout.sizes f ≡ node)) frames
own_below s node [] below own = tt
own_below s node (f ∷ frames) below own = (
  (below f (omega (arith, one_here f, times_cons f f frames)), own.0),
  own_below s node frames (λ q some. below q (omega (arith, some, times_cons q f frames))) own.1,
)

front_part : (xs ys : List ℕ) (g : Layout) (node : ℕ) → AllByRecursion (λ f. node_of g f ≡ node) (xs ++ ys) → AllByRecursion (λ f. node_of g f ≡ node) xs
front_part [] ys g node all = tt
front_part (x ∷ xs) ys g node all = (all.0, front_part xs ys g node all.1)

times_front : (f : ℕ) (xs ys : List ℕ) → times f xs ≤ times f (xs ++ ys)
times_front f [] ys = omega arith
times_front f (x ∷ xs) ys = let ih = times_front f xs ys in omega (arith, ih, times_cons f x xs, times_cons f x (xs ++ ys))

at_most : (a b : ℕ) (t : Bool) → a + b + 0 ≡ cond t 1 0 → b ≤ 1
at_most a b true e = omega (arith, e)
at_most a b false e = omega (arith, e)

-- the frames of a run may go back where the machine with them is sound
pub sound_returns : (s : State) (node : ℕ) (frames : List ℕ) → node < length s.free → IsSound (with_fronts s node frames) → CanReturn (record { sizes = s.layout.sizes; lists = s.free }) node frames
sound_returns s node frames inside h =
    let l = free_list s node in
    let free = slice_set s.free node (frames ++ l) in
    let there : slice_index_or free node [] ≡ frames ++ l = get_or-set_same s.free node (frames ++ l) [] inside in
    let within : node < length free = omega (arith, inside, length-set s.free node (frames ++ l)) in
    let part : (f : ℕ) → times f (frames ++ l) ≤ sum_by (times f) free = λ f.
    let same = ap (times f) there in let most = sum_by_more_le (times f) free node [] within in omega (arith, same, most) in
    can_return frames (record { sizes = s.layout.sizes; lists = s.free }) node
    (λ f. let most = at_most (times f (values_of s.place)) (sum_by (times f) free) (nat_lt f (frame_count s.layout)) (h.frames.once f) in let some = part f in omega (arith, most, some))
    (own_below s node frames
    (λ f some. counted_below (times f (values_of s.place)) (sum_by (times f) free) 0 f (frame_count s.layout) (h.frames.once f)
    (let more = part f in let front = times_front f frames l in omega (arith, some, more, front)))
    (front_part frames l s.layout node (subst (AllByRecursion (λ f. node_of s.layout f ≡ node)) there (h.frames.own node))))

-- those that are left begin with the one that is put back next
pub left_from : (moves : List PageMove) (left : ℕ) (d : PageMove) → 0 < left → left ≤ length moves → drop (left - 1) (frames_taken moves) ≡ (slice_index_or moves (left - 1) d).to ∷ drop left (frames_taken moves)
left_from moves left d some few =
    let n = left - 1 in
    let next : suc n ≡ left = omega (arith, some) in
    tos_from moves n d (omega (arith, some, few)) ∙ ap (λ k. (slice_index_or moves n d).to ∷ drop k (frames_taken moves)) next

pub can_left : (moves : List PageMove) (left : ℕ) (d : PageMove) (p : Pool) (node : ℕ) → 0 < left → left ≤ length moves → CanReturn p node (frames_taken moves) → CanReturn p node ((slice_index_or moves (left - 1) d).to ∷ drop left (frames_taken moves))
can_left moves left d p node some few can = subst (CanReturn p node) (left_from moves left d some few) (can_drop (left - 1) (frames_taken moves) p node can)
