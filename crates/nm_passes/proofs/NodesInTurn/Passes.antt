-- Passes, one after another.
use Rattle.std.proofs.Common.{arith, ⊎_elim, ◌≡◌, ℕ, zero, suc, ℤ, ◌+◌, ◌<◌, ◌≤◌, Bool, true, false, cond, List, [], ◌∷◌, ◌++◌, length, map, take, refl, sym, ap, subst, ◌∙◌, append_assoc, length-append, slice_index_or}
use Rattle.std.proofs.lemmas.List.{length-map, take-append-le}
use Rattle.std.specs.List.{AllByRecursion, filter, zip}
use Rattle.std.specs.Ordering.{int_eq}
use Rattle.nm_types.specs.declared.errno.Errno.TheVariants.{Enomem}
use Rattle.nm_types.specs.State.{State}
use Rattle.nm_types.specs.declared.request.Wanted.{Wanted}
use Rattle.nm_model.specs.definitions.Status.{code}
use Rattle.nm_model.specs.definitions.Cut.{Request, Stretch, all_to, all_requests, size_of, wanted_of}
use Rattle.nm_model.specs.definitions.Cut.{cut_within}
use Rattle.nm_runs.proofs.Pieces.{each_limit_cuts}
use Rattle.std.specs.Prelude.{◌^◌, ◌==◌, drop}
use Rattle.std.proofs.lemmas.Bool.{eqb-true, eq-eqb, cases_lt}
use Rattle.nm_types.proofs.Cases.{true_false}
use Rattle.nm_model.specs.definitions.Run.{run, moves_all, HasOneAll}
use Rattle.nm_model.specs.definitions.Run.{runs_from}
use Rattle.nm_passes.specs.definitions.Moves.{states_of}
use Rattle.nm_passes.specs.definitions.Passes.{passes, short_of_frames}
use Rattle.nm_passes.specs.declared.call_error.CallError.{CallError}
use Rattle.nm_passes.specs.declared.call_error.CallError.TheVariants.{Refused, HostMemory}
use Rattle.nm_passes.specs.definitions.Moves.{LacksMemory}
use Rattle.nm_passes.specs.views.Runs.{Stops, IsCounted, later}
use Rattle.nm_passes.proofs.Batches.StatusCounts.{run_layout, run_length}
use Rattle.nm_passes.proofs.Trails.{states_are}
use Rattle.nm_laws.proofs.Lists.{drop_item}

-- the state after runs, whatever their numbers
numbered : (j k : ℕ) (s : State) (rs : List Stretch) → (runs_from j s rs []).state ≡ (runs_from k s rs []).state
numbered j k s [] = refl
numbered j k s (r ∷ rs) = numbered (j + 1) (k + 1) (run s r.target r.wanted []).state rs

-- the state after two lists of runs is that after the second, from the state after the first
pub joined_state : (k : ℕ) (s : State) (xs ys : List Stretch) → (runs_from k s (xs ++ ys) []).state ≡ (runs_from 0 (runs_from k s xs []).state ys []).state
joined_state k s [] ys = numbered k 0 s ys
joined_state k s (r ∷ rs) ys = joined_state (k + 1) (run s r.target r.wanted []).state rs ys

take_behind : {X : Type 0} (xs ys : List X) (k : ℕ) → take (length xs + k) (xs ++ ys) ≡ xs ++ take k ys
take_behind [] ys k = let e : 0 + k ≡ k = omega arith in ap (λ n. take n ys) e
take_behind (x ∷ xs) ys k =
    let e : suc (length xs) + k ≡ suc (length xs + k) = omega arith in
    ap (λ n. take n (x ∷ xs ++ ys)) e ∙ ap (λ l. x ∷ l) (take_behind xs ys k)

-- `made` of all runs are made, and these are left
pub record HavePassed (start : State) (all rest : List Stretch) (s : State) (made : ℕ) : Type 0 where
  pub front : List Stretch
  pub joined : front ++ rest ≡ all
  pub counted : length front ≡ made
  pub state_is : s ≡ (runs_from 0 start front []).state

pub none_passed : (start : State) (all : List Stretch) → HavePassed start all all start 0
none_passed start all = record { front = []; joined = refl; counted = refl; state_is = refl }

-- some more are made
pub more_passed : (start : State) (all runs rest : List Stretch) (s t : State) (made : ℕ) → HavePassed start all (runs ++ rest) s made → t ≡ (runs_from 0 s runs []).state → HavePassed start all rest t (made + length runs)
more_passed start all runs rest s t made h is =
    record {
      front = h.front ++ runs;
      joined = append_assoc h.front runs rest ∙ h.joined;
      counted = length-append h.front runs ∙ ap (λ n. n + length runs) h.counted;
      state_is = is ∙ ap (λ u. (runs_from 0 u runs []).state) h.state_is ∙ sym (joined_state 0 start h.front runs);
    }

-- none is left
pub all_passed : (start : State) (all rest : List Stretch) (s : State) (made : ℕ) → HavePassed start all rest s made → rest ≡ [] → s ≡ (runs_from 0 start all []).state
all_passed start all rest s made h none =
    let whole : all ≡ h.front = sym h.joined ∙ ap (λ l. h.front ++ l) none ∙ append_none h.front in
    h.state_is ∙ ap (λ l. (runs_from 0 start l []).state) (sym whole)
  where
    append_none : (xs : List Stretch) → xs ++ [] ≡ xs
    append_none [] = refl
    append_none (x ∷ xs) = ap (λ l. x ∷ l) (append_none xs)

-- no memory for one of them
pub stopped : (start : State) (all runs rest : List Stretch) (s t : State) (made k : ℕ) → HavePassed start all (runs ++ rest) s made → k < length runs → t ≡ slice_index_or (states_of s runs) k s
    → (made + k < length all) × (t ≡ slice_index_or (states_of start all) (made + k) start)
stopped start all runs rest s t made k h lt is =
    let len : length all ≡ made + (length runs + length rest) =
    sym (ap length h.joined) ∙ length-append h.front (runs ++ rest) ∙ ap (λ n. n + length (runs ++ rest)) h.counted ∙ ap (λ n. made + n) (length-append runs rest) in
    let few : made + k < length all = omega (arith, len, lt) in
    let front : take (made + k) all ≡ h.front ++ take k runs =
    ap (λ n. take (n + k) all) (sym h.counted) ∙ ap (take (length h.front + k)) (sym h.joined) ∙ take_behind h.front (runs ++ rest) k
    ∙ ap (λ l. h.front ++ l) (take-append-le k runs rest (omega (arith, lt))) in (
      few,
      is ∙ states_are 0 s runs [] k s (omega (arith, lt))
          ∙ ap (λ u. (runs_from 0 u (take k runs) []).state) h.state_is
          ∙ sym (joined_state 0 start h.front (take k runs))
          ∙ sym (ap (λ l. (runs_from 0 start l []).state) front)
          ∙ sym (states_are 0 start all [] (made + k) start (omega (arith, few))),
    )

-- passes for nothing have no run
pub passes_none : (limit : ℕ) (s : State) (nodes : List ℕ) → passes limit s nodes [] ≡ []
passes_none limit s [] = refl
passes_none limit s (node ∷ nodes) = passes_none limit s nodes

-- what found no free frame is among what was wanted
pub fewer_left : (ws : List Wanted) (zs : List ℤ) → length (short_of_frames ws zs) ≤ length ws
fewer_left [] zs = omega arith
fewer_left (w ∷ ws) [] = omega arith
fewer_left (w ∷ ws) (z ∷ zs) =
    let rest = fewer_left ws zs in
    elim (int_eq z (code Enomem)) as (λ b. length (map {B = Wanted} (λ (e : Wanted × ℤ). e.0) (cond b ((w, z) ∷ filter (λ e. int_eq e.1 (code Enomem)) (zip ws zs)) (filter (λ e. int_eq e.1 (code Enomem)) (zip ws zs)))) ≤ suc (length ws)) [
      | true ↦ omega (arith, rest)
      | false ↦ omega (arith, rest)
    ]

all_left : (P : Wanted → Type 0) (ws : List Wanted) (zs : List ℤ) → AllByRecursion P ws → AllByRecursion P (short_of_frames ws zs)
all_left P [] zs h = tt
all_left P (w ∷ ws) [] h = tt
all_left P (w ∷ ws) (z ∷ zs) h =
    let rest = all_left P ws zs h.1 in
    elim (int_eq z (code Enomem)) as (λ b. AllByRecursion P (map {B = Wanted} (λ (e : Wanted × ℤ). e.0) (cond b ((w, z) ∷ filter (λ e. int_eq e.1 (code Enomem)) (zip ws zs)) (filter (λ e. int_eq e.1 (code Enomem)) (zip ws zs))))) [
      | true ↦ (h.0, rest)
      | false ↦ rest
    ]

pub alike_left : (ws : List Wanted) (zs : List ℤ) → HasOneAll ws → HasOneAll (short_of_frames ws zs)
alike_left ws zs h = (h.0, all_left (λ w. moves_all w ≡ h.0) ws zs h.1)

runs_few : (rs : List Stretch) → AllByRecursion (λ r. 0 < size_of r) rs → length rs ≤ length (all_requests rs)
runs_few [] h = omega arith
runs_few (r ∷ rs) h =
    let parts = length-append (all_to r.target r.wanted) (all_requests rs) in
    let own = length-map {B = Request} r.wanted (λ w. record { target = r.target; wanted = w }) in
    let rest = runs_few rs h.1 in
    let some = h.0 in
    omega (arith, parts, own, rest, some)

-- a batch has no more runs than requests ..
pub few_runs : (limit : ℕ) (es : List Request) → 0 < limit → length (cut_within limit es) ≤ length es
few_runs limit es some =
    let is = (each_limit_cuts limit es some).is in
    let same = ap length is.same in
    let few = runs_few (cut_within limit es) is.some in
    omega (arith, same, few)

-- .. and a run where it has a request
pub some_run_of : (limit : ℕ) (es : List Request) → 0 < limit → 0 < length es → 0 < length (cut_within limit es)
some_run_of limit es some has = by_runs (cut_within limit es) refl
  where
    by_runs : (rs : List Stretch) → cut_within limit es ≡ rs → 0 < length rs
    by_runs [] e =
        let none : length es ≡ 0 = sym (ap length (each_limit_cuts limit es some).is.same) ∙ ap (λ rs. length (all_requests rs)) e in
        absurd (omega (arith, none, has))
    by_runs (r ∷ rs) e = omega arith

pub to_node_length : (node : ℕ) (ws : List Wanted) → length (all_to node ws) ≡ length ws
to_node_length node ws = length-map {B = Request} ws (λ w. record { target = node; wanted = w })

pub to_node_wanted : (node : ℕ) (ws : List Wanted) → wanted_of (all_to node ws) ≡ ws
to_node_wanted node [] = refl
to_node_wanted node (w ∷ ws) = ap (λ l. w ∷ l) (to_node_wanted node ws)

pub to_node_below : (count node : ℕ) (ws : List Wanted) → node < count → AllByRecursion (λ e. e.target < count) (all_to node ws)
to_node_below count node [] lt = tt
to_node_below count node (w ∷ ws) lt = (lt, to_node_below count node ws lt)

-- runs keep the nodes
pub runs_layout : (k : ℕ) (s : State) (rs : List Stretch) → (runs_from k s rs []).state.layout ≡ s.layout
runs_layout k s [] = refl
runs_layout k s (r ∷ rs) = runs_layout (k + 1) (run s r.target r.wanted []).state rs ∙ run_layout s r.target r.wanted []

-- one more request
left_upto : (ws : List Wanted) (zs : List ℤ) (k : ℕ) (w : Wanted) (d : ℤ) → k < length ws → length ws ≡ length zs → w ≡ slice_index_or ws k w
    → short_of_frames (take (suc k) ws) (take (suc k) zs) ≡ short_of_frames (take k ws) (take k zs) ++ cond (int_eq (slice_index_or zs k d) (code Enomem)) (w ∷ []) []
left_upto [] zs k w d lt same iw = absurd (omega (arith, lt))
left_upto (v ∷ ws) [] k w d lt same iw = absurd (omega (arith, same))
left_upto (v ∷ ws) (y ∷ zs) zero w d lt same iw = rw iw (one (int_eq y (code Enomem)))
  where
    one : (b : Bool) → map {B = Wanted} (λ (e : Wanted × ℤ). e.0) (cond b ((v, y) ∷ []) []) ≡ cond b (v ∷ []) []
    one true = refl
    one false = refl
left_upto (v ∷ ws) (y ∷ zs) (suc k) w d lt same iw =
    grouped (int_eq y (code Enomem)) (left_upto ws zs k w d (omega (arith, lt)) (omega (arith, same)) iw)
  where
    short : Wanted × ℤ → Bool
    short e = int_eq e.1 (code Enomem)

    grouped : (b : Bool) → short_of_frames (take (suc k) ws) (take (suc k) zs) ≡ short_of_frames (take k ws) (take k zs) ++ cond (int_eq (slice_index_or zs k d) (code Enomem)) (w ∷ []) []
        → map {B = Wanted} (λ (e : Wanted × ℤ). e.0) (cond b ((v, y) ∷ filter short (zip (take (suc k) ws) (take (suc k) zs))) (filter short (zip (take (suc k) ws) (take (suc k) zs))))
        ≡ map {B = Wanted} (λ (e : Wanted × ℤ). e.0) (cond b ((v, y) ∷ filter short (zip (take k ws) (take k zs))) (filter short (zip (take k ws) (take k zs)))) ++ cond (int_eq (slice_index_or zs k d) (code Enomem)) (w ∷ []) []
    grouped true h = ap (λ l. v ∷ l) h
    grouped false h = h

pub one_more_left : (ws : List Wanted) (zs : List ℤ) (k : ℕ) (w : Wanted) (d : ℤ) (b : Bool) → k < length ws → length ws ≡ length zs → w ≡ slice_index_or ws k w → b ≡ int_eq (slice_index_or zs k d) (code Enomem)
    → short_of_frames (take (k + 1) ws) (take (k + 1) zs) ≡ short_of_frames (take k ws) (take k zs) ++ cond b (w ∷ []) []
one_more_left ws zs k w d b lt same iw ib =
    let e : k + 1 ≡ suc k = omega arith in
    ap (λ n. short_of_frames (take n ws) (take n zs)) e ∙ left_upto ws zs k w d lt same iw
    ∙ ap (λ b. short_of_frames (take k ws) (take k zs) ++ cond b (w ∷ []) []) (sym ib)

-- runs give a status for each of their requests
runs_statuses : (k : ℕ) (s : State) (rs : List Stretch) → length (runs_from k s rs []).statuses ≡ length (all_requests rs)
runs_statuses k s [] = refl
runs_statuses k s (r ∷ rs) =
    let made = run s r.target r.wanted [] in
    let parts = length-append made.statuses (runs_from (k + 1) made.state rs []).statuses in
    let own = run_length s r.target r.wanted [] in
    let rest = runs_statuses (k + 1) made.state rs in
    let requests = length-append (all_to r.target r.wanted) (all_requests rs) in
    let first = to_node_length r.target r.wanted in
    omega (arith, parts, own, rest, requests, first)

-- and so a batch does
pub batch_statuses : (limit : ℕ) (s : State) (es : List Request) → 0 < limit → length (runs_from 0 s (cut_within limit es) []).statuses ≡ length es
batch_statuses limit s es some = runs_statuses 0 s (cut_within limit es) ∙ ap length (each_limit_cuts limit es some).is.same

-- what a host without memory leaves of a batch, after more runs
pub counted_later : (e : CallError) (old new : State) (runs : List Stretch) (made : ℕ) → LacksMemory e old new runs [] → made + length runs < 2 ^ 64 → IsCounted e made
counted_later (Refused x) old new runs made h room = tt
counted_later (HostMemory k policy_set) old new runs made h room = let few = h.1 in omega (arith, few, room)

pub stopped_later : (set : Bool) (e f : CallError) (start s t : State) (all runs rest : List Stretch) (made : ℕ) → LacksMemory e s t runs [] → HavePassed start all (runs ++ rest) s made → 0 < length runs → f ≡ later e made set
    → Stops set f start t all
stopped_later set (Refused x) f start s t all runs rest made h passed some is = absurd h
stopped_later set (HostMemory k policy_set) f start s t all runs rest made h passed some is =
    let few = h.1 in
    let after = stopped start all runs rest s t made k passed (omega (arith, few, some)) h.2 in
    subst (λ f. Stops set f start t all) (sym is) (refl, after.0, after.1)

-- nothing is left
pub nothing_is : {X : Type 0} (xs : List X) (n : ℕ) → n ≡ length xs → (n == 0) ≡ true → xs ≡ []
nothing_is [] n e h = refl
nothing_is (x ∷ xs) n e h = let none : n ≡ 0 = eqb-true n 0 h in absurd (omega (arith, none, e))

pub something_is : (n m : ℕ) → n ≡ m → (n == 0) ≡ false → 0 < m
something_is n m e h = ⊎_elim (λ (none : n < 1). let zero_is : n ≡ 0 = omega (arith, none) in let z : ⊥ = true_false (sym (eq-eqb n 0 zero_is) ∙ h) in absurd z) (λ some. omega (arith, some, e)) (cases_lt n 1)

-- the first of the passes that are left
pub passes_at : (limit : ℕ) (s : State) (nodes : List ℕ) (k : ℕ) (node : ℕ) (ws : List Wanted) → k < length nodes → node ≡ slice_index_or nodes k node
    → passes limit s (drop k nodes) ws
    ≡ cut_within limit (all_to node ws) ++ passes limit (runs_from 0 s (cut_within limit (all_to node ws)) []).state (drop (k + 1) nodes) (short_of_frames ws (runs_from 0 s (cut_within limit (all_to node ws)) []).statuses)
passes_at limit s nodes k node ws lt is = ap (λ ns. passes limit s ns ws) (drop_item nodes k node lt is)
