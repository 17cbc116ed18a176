-- What a pool keeps as a list of it changes.
use Rattle.std.proofs.Common.{◌≡◌, ℕ, zero, suc, ◌+◌, ◌-◌, ◌<◌, ◌≤◌, ◌⊎◌, inl, inr, ⊎_elim, true, false, eqb, ◌||◌, List, [], ◌∷◌, ◌++◌, length, sum, drop, get_or, refl, sym, subst, ap, ◌∙◌, arith, zero-add}
use Rattle.std.proofs.Math.ListN.{set}
use Rattle.std.specs.List.{list_any, IsDistinct, AllByRecursion}
use Rattle.std.proofs.lemmas.Bool.{eqb-true, cases_eq, or_cases, or_parts, or_right, false≢true}
use Rattle.std.proofs.lemmas.List.{get_or-set_same, get_or-set_other, length-set, length-map, map-set, get_or-map, set-get_or, drop_more}
use Rattle.std.proofs.lemmas.List.Folds.{list_any-append}
use Rattle.std.proofs.lemmas.Map.Keys.{IsDistinct-push, IsDistinct-tail, IsDistinct-cons}
use Rattle.std.proofs.lemmas.Map.Made.{length-le_from_is_member}
use Rattle.std.proofs.lemmas.Cmp.{nat_eq_equiv}
use Rattle.nm_types.specs.Layout.{owner}
use Rattle.nm_types.specs.Nodes.{up_from, is_in}
use Rattle.nm_model.specs.definitions.Frames.{Pool, IsPool, all_frames, list_of, with_list, new_pool, with_back, with_front, without_front}
use Rattle.nm_nodes.specs.Lists.{sizes_of, lists_of, pool_of_lists}
use Rattle.nm_nodes.proofs.Stretches.{sum-cons, owner_first, owner_later, length-all_frames, length_of_stretch, distinct_stretch, owner_is, owner_has, owner-lt, is_in-cons}

-- what holds of a list's new element at its place and of the old ones elsewhere
at_set : {X : Type 0} (P : X → Type 0) (xs : List X) (i k : ℕ) (v d : X) → i < length xs → (k ≡ i → P v) → P (get_or xs k d) → P (get_or (set xs i v) k d)
at_set P xs i k v d within there elsewhere =
    ⊎_elim (λ e. subst P (sym (ap (λ (j : ℕ). get_or (set xs i v) j d) e ∙ get_or-set_same xs i v d within)) (there e))
    (λ ne. subst P (sym (get_or-set_other xs i k v d ne)) elsewhere) (cases_eq k i)

pub IsPool-new_pool : (sizes : List ℕ) → IsPool (new_pool sizes)
IsPool-new_pool sizes = record {
  as_many = length-all_frames 0 sizes;
  in_machine = λ node frame h. omega (arith, (owner_is 0 sizes node frame h).1);
  own = λ node frame h. let e : frame ≡ frame - 0 = omega arith in ap (owner sizes) e ∙ (owner_is 0 sizes node frame h).2;
  distinct = λ node. distinct_stretch 0 sizes node;
}

pub IsPool-with_list : (p : Pool) (node : ℕ) (frames : List ℕ) → IsPool p → node < length p.lists → ((q : ℕ) → is_in frames q ≡ true → q < sum p.sizes)
    → ((q : ℕ) → is_in frames q ≡ true → owner p.sizes q ≡ node) → IsDistinct eqb frames → IsPool (with_list p node frames)
IsPool-with_list p node frames is within below own distinct = record {
  as_many = length-set p.lists node frames ∙ is.as_many;
  in_machine = λ k q. at_set (λ fs. is_in fs q ≡ true → q < sum p.sizes) p.lists node k frames [] within (λ e. below q) (is.in_machine k q);
  own = λ k q. at_set (λ fs. is_in fs q ≡ true → owner p.sizes q ≡ k) p.lists node k frames [] within (λ e h. own q h ∙ sym e) (is.own k q);
  distinct = λ k. at_set (λ fs. IsDistinct eqb fs) p.lists node k frames [] within (λ e. distinct) (is.distinct k);
}

is_in-drop : (ns : List ℕ) (q : ℕ) → is_in (drop 1 ns) q ≡ true → is_in ns q ≡ true
is_in-drop [] q h = h
is_in-drop (n ∷ ns) q h = or_right (eqb n q) (is_in ns q) h

distinct-drop : (ns : List ℕ) → IsDistinct eqb ns → IsDistinct eqb (drop 1 ns)
distinct-drop [] d = d
distinct-drop (n ∷ ns) d = IsDistinct-tail eqb n ns d

pub IsPool-without_front : (p : Pool) (node : ℕ) → IsPool p → node < length p.lists → IsPool (without_front p node)
IsPool-without_front p node is within =
    let ns = list_of p node in
    IsPool-with_list p node (drop 1 ns) is within (λ q h. is.in_machine node q (is_in-drop ns q h)) (λ q h. is.own node q (is_in-drop ns q h)) (distinct-drop ns (is.distinct node))

-- the same of any number of them
is_in-drop_many : (n : ℕ) (ns : List ℕ) (q : ℕ) → is_in (drop n ns) q ≡ true → is_in ns q ≡ true
is_in-drop_many zero ns q h = h
is_in-drop_many (suc n) [] q h = h
is_in-drop_many (suc n) (m ∷ ns) q h = or_right (eqb m q) (is_in ns q) (is_in-drop_many n ns q h)

distinct-drop_many : (n : ℕ) (ns : List ℕ) → IsDistinct eqb ns → IsDistinct eqb (drop n ns)
distinct-drop_many zero ns d = d
distinct-drop_many (suc n) [] d = d
distinct-drop_many (suc n) (m ∷ ns) d = distinct-drop_many n ns (IsDistinct-tail eqb m ns d)

pub IsPool-without_fronts : (p : Pool) (node n : ℕ) → IsPool p → node < length p.lists → IsPool (with_list p node (drop n (list_of p node)))
IsPool-without_fronts p node n is within =
    let ns = list_of p node in
    IsPool-with_list p node (drop n ns) is within (λ q h. is.in_machine node q (is_in-drop_many n ns q h)) (λ q h. is.own node q (is_in-drop_many n ns q h)) (distinct-drop_many n ns (is.distinct node))

-- the same in the order of std's test
is_in-flipped : (ns : List ℕ) (q : ℕ) → is_in ns q ≡ list_any (eqb q) ns
is_in-flipped [] q = refl
is_in-flipped (n ∷ ns) q = ap (λ b. b || is_in ns q) (nat_eq_equiv.symm n q) ∙ ap (λ b. eqb q n || b) (is_in-flipped ns q)

-- a frame of a list with one more is the new one or was there
is_in-push : (ns : List ℕ) (n q : ℕ) → is_in (ns ++ n ∷ []) q ≡ true → (is_in ns q ≡ true) ⊎ (n ≡ q)
is_in-push ns n q h =
    ⊎_elim (λ l. inl l) (λ r. ⊎_elim (λ e. inr (eqb-true n q e)) (λ none. absurd (false≢true none)) (or_cases (eqb n q) false r))
    (or_cases (is_in ns q) (is_in (n ∷ []) q) (sym (list_any-append (λ m. eqb m q) ns (n ∷ [])) ∙ h))

pub IsPool-appended : (p : Pool) (frame : ℕ) → IsPool p → frame < sum p.sizes → is_in (list_of p (owner p.sizes frame)) frame ≡ false → IsPool (with_back p frame)
IsPool-appended p frame is within apart =
    let node : ℕ = owner p.sizes frame in
    let ns : List ℕ = list_of p node in
    IsPool-with_list p node (ns ++ frame ∷ []) is (omega (arith, owner-lt p.sizes frame within, is.as_many))
    (λ q h. ⊎_elim (λ old. is.in_machine node q old) (λ e. subst (λ k. k < sum p.sizes) e within) (is_in-push ns frame q h))
    (λ q h. ⊎_elim (λ old. is.own node q old) (λ e. ap (owner p.sizes) (sym e)) (is_in-push ns frame q h))
    (IsDistinct-push nat_eq_equiv ns frame (is.distinct node) (sym (is_in-flipped ns frame) ∙ apart))

-- a frame that a list lacks differs from each of its frames
apart_from : (n : ℕ) (ns : List ℕ) → is_in ns n ≡ false → AllByRecursion (λ m. eqb n m ≡ false) ns
apart_from n [] h = tt
apart_from n (m ∷ ns) h = let parts = or_parts (eqb m n) (is_in ns n) h in (nat_eq_equiv.symm n m ∙ parts.0, apart_from n ns parts.1)

-- one more frame at the front
pub IsPool-prepended : (p : Pool) (frame : ℕ) → IsPool p → frame < sum p.sizes → is_in (list_of p (owner p.sizes frame)) frame ≡ false → IsPool (with_front p frame)
IsPool-prepended p frame is within apart =
    let node : ℕ = owner p.sizes frame in
    let ns : List ℕ = list_of p node in
    IsPool-with_list p node (frame ∷ ns) is (omega (arith, owner-lt p.sizes frame within, is.as_many))
    (λ q h. ⊎_elim (λ e. subst (λ k. k < sum p.sizes) e within) (λ old. is.in_machine node q old) (is_in-cons frame ns q h))
    (λ q h. ⊎_elim (λ e. ap (owner p.sizes) (sym e)) (λ old. is.own node q old) (is_in-cons frame ns q h))
    (IsDistinct-cons eqb frame ns (apart_from frame ns apart) (is.distinct node))

-- a list that lacks a frame of its node is shorter than the node's stretch
pub has_room : (p : Pool) (frame : ℕ) → IsPool p → frame < sum p.sizes → is_in (list_of p (owner p.sizes frame)) frame ≡ false
    → length (list_of p (owner p.sizes frame)) < get_or p.sizes (owner p.sizes frame) 0
has_room p frame is within apart =
    let node : ℕ = owner p.sizes frame in
    let ns : List ℕ = list_of p node in
    let all : List ℕ = get_or (all_frames 0 p.sizes) node [] in
    let has : (q : ℕ) → q < sum p.sizes → owner p.sizes q ≡ node → list_any (eqb q) all ≡ true =
    λ q lt e. sym (is_in-flipped all q) ∙ subst (λ k. is_in (get_or (all_frames 0 p.sizes) k []) q ≡ true) e (subst (λ r. is_in (get_or (all_frames 0 p.sizes) (owner p.sizes q) []) r ≡ true) (zero-add q) (owner_has 0 p.sizes q lt)) in
    let most : length (frame ∷ ns) ≤ length all =
    length-le_from_is_member nat_eq_equiv (frame ∷ ns) all (IsDistinct-cons eqb frame ns (apart_from frame ns apart) (is.distinct node))
    (λ q h.
    ⊎_elim (λ e. subst (λ k. list_any (eqb k) all ≡ true) (sym (eqb-true q frame e)) (has frame within refl))
    (λ old. let was : is_in ns q ≡ true = is_in-flipped ns q ∙ old in has q (is.in_machine node q was) (is.own node q was)) (or_cases (eqb q frame) (list_any (eqb q) ns) h)) in
    omega (arith, most, length_of_stretch 0 p.sizes node)

pub sum-push : (xs : List ℕ) (x : ℕ) → sum (xs ++ x ∷ []) ≡ sum xs + x
sum-push [] x = omega arith
sum-push (y ∷ xs) x = omega (arith, sum-cons y (xs ++ x ∷ []), sum-cons y xs, sum-push xs x)

-- the rows of nodes of these sizes, where the first node's first frame is given
pub rows : ℕ → List ℕ → List (ℕ × List ℕ)
rows first [] = []
rows first (size ∷ sizes) = (size, up_from first size) ∷ rows (first + size) sizes

pub rows_none : (first : ℕ) → rows first [] ≡ []
unfolding rows
rows_none first = refl

pub rows_more : (first : ℕ) (sizes : List ℕ) (size : ℕ) → rows first (sizes ++ size ∷ []) ≡ rows first sizes ++ (size, up_from (first + sum sizes) size) ∷ []
unfolding rows
rows_more first [] size = let e : first ≡ first + 0 = omega arith in ap (λ n. (size, up_from n size) ∷ []) e
rows_more first (s ∷ sizes) size =
    let e : (first + s) + sum sizes ≡ first + sum (s ∷ sizes) = omega (arith, sum-cons s sizes) in
    ap (λ rest. (s, up_from first s) ∷ rest) (rows_more (first + s) sizes size ∙ ap (λ n. rows (first + s) sizes ++ (size, up_from n size) ∷ []) e)

sizes_of-rows : (first : ℕ) (sizes : List ℕ) → sizes_of (rows first sizes) ≡ sizes
unfolding rows
sizes_of-rows first [] = refl
sizes_of-rows first (size ∷ sizes) = ap (λ rest. size ∷ rest) (sizes_of-rows (first + size) sizes)

lists_of-rows : (first : ℕ) (sizes : List ℕ) → lists_of (rows first sizes) ≡ all_frames first sizes
unfolding rows
lists_of-rows first [] = refl
lists_of-rows first (size ∷ sizes) = ap (λ rest. up_from first size ∷ rest) (lists_of-rows (first + size) sizes)

pub pool_of-rows : (sizes : List ℕ) → pool_of_lists (rows 0 sizes) ≡ new_pool sizes
pool_of-rows sizes =
    let a = sizes_of-rows 0 sizes in
    let b = lists_of-rows 0 sizes in
    rw (a, b) refl

-- another list in a row is another list of the pool
pub pool_of-set : (rows : List (ℕ × List ℕ)) (node : ℕ) (row : ℕ × List ℕ) (frames : List ℕ) → node < length rows → row ≡ get_or rows node row
    → pool_of_lists (set rows node (row.0, frames)) ≡ with_list (pool_of_lists rows) node frames
pool_of-set rows node row frames within is =
    let sizes : sizes_of (set rows node (row.0, frames)) ≡ sizes_of rows =
    map-set (λ (r : ℕ × List ℕ). r.0) rows node (row.0, frames) ∙ ap (set (sizes_of rows) node) (ap (λ (r : ℕ × List ℕ). r.0) is ∙ sym (get_or-map (λ (r : ℕ × List ℕ). r.0) rows node row 0 within)) ∙ set-get_or (sizes_of rows) node 0 in
    let lists : lists_of (set rows node (row.0, frames)) ≡ set (lists_of rows) node frames = map-set (λ (r : ℕ × List ℕ). r.1) rows node (row.0, frames) in
    cc

-- a node's index is among the rows
pub place_in : (rows : List (ℕ × List ℕ)) (p : Pool) (i node : ℕ) → pool_of_lists rows ≡ p → i ≡ node → node < length p.lists → i < length rows
place_in rows p i node shown at within =
    let l : length (lists_of rows) ≡ length rows = length-map rows (λ (r : ℕ × List ℕ). r.1) in omega (arith, ap (λ (q : Pool). length q.lists) shown, l)

-- a row read at a node's index, and written there
module _ (rows : List (ℕ × List ℕ)) (p : Pool) (i node : ℕ) (row : ℕ × List ℕ) (shown : pool_of_lists rows ≡ p) (at : i ≡ node) (within : node < length p.lists) (is : row ≡ get_or rows i row) where
  inside : i < length rows
  inside = let l : length (lists_of rows) ≡ length rows = length-map rows (λ (r : ℕ × List ℕ). r.1) in omega (arith, ap (λ (q : Pool). length q.lists) shown, l)

  pub row_list : row.1 ≡ list_of p node
  row_list = ap (λ (r : ℕ × List ℕ). r.1) is ∙ sym (get_or-map (λ (r : ℕ × List ℕ). r.1) rows i row [] inside) ∙ ap (λ (q : Pool). get_or q.lists i []) shown ∙ ap (list_of p) at

  pub row_size : row.0 ≡ get_or p.sizes node 0
  row_size = ap (λ (r : ℕ × List ℕ). r.0) is ∙ sym (get_or-map (λ (r : ℕ × List ℕ). r.0) rows i row 0 inside) ∙ ap (λ (q : Pool). get_or q.sizes i 0) shown ∙ ap (λ k. get_or p.sizes k 0) at

  pub written : (new : ℕ × List ℕ) (frames : List ℕ) → new ≡ (row.0, frames) → pool_of_lists (set rows i new) ≡ with_list p node frames
  written new frames e = ap (λ (r : ℕ × List ℕ). pool_of_lists (set rows i r)) e ∙ pool_of-set rows i row frames inside is ∙ ap (λ (q : Pool). with_list q i frames) shown ∙ ap (λ k. with_list p k frames) at

-- the row of the node that owns a frame which is not free
pub record OwnRow (p : Pool) (frame i : ℕ) (row : ℕ × List ℕ) : Type 0 where
  pub at : i ≡ owner p.sizes frame
  pub within : owner p.sizes frame < length p.lists
  pub list : row.1 ≡ list_of p (owner p.sizes frame)
  pub room : length row.1 < row.0

pub own_row : {seen : List (ℕ × List ℕ)} (rows : List (ℕ × List ℕ)) (p : Pool) (frame i : ℕ) (row : ℕ × List ℕ) → pool_of_lists rows ≡ p → IsPool (pool_of_lists rows) → i ≡ owner (sizes_of seen) frame → seen ≡ rows → row ≡ get_or rows i row
    → frame < sum p.sizes → is_in (list_of p (owner p.sizes frame)) frame ≡ false → OwnRow p frame i row
own_row rows p frame i row shown kept own read is inside taken =
    let pool : IsPool p = subst IsPool shown kept in
    let node : ℕ = owner p.sizes frame in
    let at : i ≡ node = own ∙ ap (λ (rs : List (ℕ × List ℕ)). owner (sizes_of rs) frame) read ∙ ap (λ (q : Pool). owner q.sizes frame) shown in
    let within : node < length p.lists = omega (arith, owner-lt p.sizes frame inside, pool.as_many) in
    let list : row.1 ≡ list_of p node = row_list rows p i node row shown at within is in
    let size = row_size rows p i node row shown at within is in
    record { at = at; within = within; list = list; room = omega (arith, ap (λ (ns : List ℕ). length ns) list, size, has_room p frame pool inside taken) }

-- the pool once that row is written
pub own_written : (rows : List (ℕ × List ℕ)) (p : Pool) (frame i : ℕ) (row : ℕ × List ℕ) → pool_of_lists rows ≡ p → OwnRow p frame i row → row ≡ get_or rows i row
    → (new : ℕ × List ℕ) (change : List ℕ → List ℕ) → new ≡ (row.0, change row.1) → pool_of_lists (set rows i new) ≡ with_list p (owner p.sizes frame) (change (list_of p (owner p.sizes frame)))
own_written rows p frame i row shown own is new change e =
    written rows p i (owner p.sizes frame) row shown own.at own.within is new (change (list_of p (owner p.sizes frame))) (e ∙ ap (λ (ns : List ℕ). (row.0, change ns)) own.list)

-- the rows from a given one on, in its own
module _ (rows : List (ℕ × List ℕ)) (i rest : ℕ) (row : ℕ × List ℕ) (within : i < length rows) (is : row ≡ get_or rows i row) where
  parted : drop i rows ≡ row ∷ drop (i + 1) rows
  parted = drop_more rows i row within ∙ ap (λ (r : ℕ × List ℕ). r ∷ drop (i + 1) rows) (sym is)

  pub owner_here : rest < row.0 → owner (sizes_of (drop i rows)) rest ≡ 0
  owner_here below = ap (λ (rs : List (ℕ × List ℕ)). owner (sizes_of rs) rest) parted ∙ owner_first row.0 (sizes_of (drop (i + 1) rows)) rest below

  pub owner_beyond : row.0 ≤ rest → owner (sizes_of (drop i rows)) rest ≡ suc (owner (sizes_of (drop (i + 1) rows)) (rest - row.0))
  owner_beyond beyond = ap (λ (rs : List (ℕ × List ℕ)). owner (sizes_of rs) rest) parted ∙ owner_later row.0 (sizes_of (drop (i + 1) rows)) rest beyond

  pub sum_parted : sum (sizes_of (drop i rows)) ≡ row.0 + sum (sizes_of (drop (i + 1) rows))
  sum_parted = ap (λ (rs : List (ℕ × List ℕ)). sum (sizes_of rs)) parted ∙ sum-cons row.0 (sizes_of (drop (i + 1) rows))
