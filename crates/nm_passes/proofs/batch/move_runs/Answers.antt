use Rattle.std.proofs.Common.{◌≡◌, ℕ, ◌<◌, ◌≤◌, ◌+◌, ◌++◌, ◌∷◌, ◌-◌, Fits, w64, if◌then◌else◌, is_ok, List, ℤ, Vec, Result, Ok, arith, ap, refl, map, subst, sym, ◌∙◌, [], drop, length, length-append}
use Rattle.std.proofs.lemmas.List.{map-append, length-map, drop_all}
use Rattle.nm_types.specs.Layout.{node_count}
use Rattle.nm_types.specs.State.{State}
use Rattle.nm_model.specs.definitions.Cut.{Stretch}
use Rattle.nm_model.specs.definitions.Touch.{Access, AccessAnswer}
use Rattle.nm_runs.specs.Stretches.{stretches_of}
use Rattle.nm_pool.specs.views.Accesses.{answer_shown}
use Rattle.nm_model.specs.definitions.Run.{RunResult, run, failures}
use Rattle.nm_model.specs.definitions.Run.{accesses_of}
use Rattle.nm_requests.specs.Views.{shown_during}
use Rattle.std.specs.Map.{keys_of}
use Rattle.nm_passes.specs.definitions.Batch.{answers_in_order, left_shown}
use Rattle.nm_passes.proofs.Batches.StatusCounts.{run_length, run_layout, failures-append, failures-le-length}
use Rattle.nm_passes.proofs.Accesses.Loops.{list_there}
use Rattle.nm_passes.proofs.Accesses.Lent.{one_lent, lent_shown}
use Rattle.nm_passes.proofs.Batches.Results.{none_ran, on_err, takes_some}
use Rattle.nm_passes.proofs.Trails.{states_are}
use Rattle.nm_passes.proofs.Batches.Progress.{HaveRun, none_run, one_more_run, some_run, all_run, entries_left, not_last}
use Rattle.nm_laws.proofs.Lists.{drop_item}
use Rattle.nm_passes.proofs.batch.move_runs.Goals as goal

some_first : (a b : ℕ) → 0 < a → 0 < a + b
some_first a b some = omega (arith, some)

some_last : (a b : ℕ) → 0 < b → 0 < a + b
some_last a b some = omega (arith, some)

fits_in : (old own len new all rest cap : ℕ) → len ≡ old → new ≡ own → all ≡ own + rest → old + all ≤ cap → len + new ≤ cap
fits_in old own len new all rest cap is same left room = omega (arith, is, same, left, room)

fits_still : (old own new made all rest cap more : ℕ) → new ≡ old + made → made ≡ own → all ≡ own + rest → cap ≤ more → old + all ≤ cap → new + rest ≤ more
fits_still old own new made all rest cap more len count left capacity room = omega (arith, len, count, left, capacity, room)

fits_first : (old all cap : ℕ) → old ≡ 0 → all ≤ cap → old + all ≤ cap
fits_first old all cap none room = omega (arith, none, room)

summed : (a b p q sum : ℕ) → sum ≡ p + q → b ≡ q → a ≡ p → a + b ≡ sum
summed a b p q sum is own before = omega (arith, is, own, before)

small_sum : {A : Type 0} (v : Vec ℤ A) (a b p q : ℕ) → failures v.items ≡ p + q → a ≡ p → b ≡ q → Fits w64 (a + b)
small_sum v a b p q sum before own = omega (arith, sum, before, own, failures-le-length v.items, v.ok.0, v.ok.1, v.small)

not_after : (k n : ℕ) → k ≤ n - 1 → k ≤ n
not_after k n few = omega (arith, few)

extended : {X E U : Type 0} (r : Result U E) (value : U) (old other own now : List X) → now ≡ (if is_ok r then old ++ other else old) → r ≡ Ok value → other ≡ own → now ≡ old ++ own
extended r value old other own now is ok same = is ∙ ap (λ r. if is_ok r then old ++ other else old) ok ∙ ap (λ xs. old ++ xs) same

-- what has run, by other names
runs_on : (start : State) (all left : List Stretch) (during : List (ℕ × Access)) (k : ℕ) (s t : State) (xs ys : List ℤ) (given others : List (List AccessAnswer)) → s ≡ t → xs ≡ ys → given ≡ others → HaveRun start all left during k t ys others → HaveRun start all left during k s xs given
runs_on start all left during k s t xs ys given others state statuses answers h =
    subst (λ s. HaveRun start all left during k s xs given) (sym state) (subst (λ xs. HaveRun start all left during k t xs given) (sym statuses) (subst (HaveRun start all left during k t ys) (sym answers) h))

some_after : (k n m : ℕ) → k < n → 0 < n + m
some_after k n m more = omega (arith, more)

listed : (k n own shown : ℕ) → k < n → shown ≡ n → shown ≡ own → k < own
listed k n own shown more all same = omega (arith, more, all, same)

one_of : (k n own shown len : ℕ) → k < n → shown ≡ n → shown ≡ own → len ≡ own → k < len
one_of k n own shown len more all same is = omega (arith, more, all, same, is)

reserved : (k n own len m : ℕ) → k < n → own ≡ k → n ≤ m → len ≡ own → len < m
reserved k n own len m more queues places is = omega (arith, more, queues, places, is)

pub returns-in_default-clause-moves : goal.returns-in_default-clause-moves
returns-in_default-clause-moves g c =
    let runs = c.args.runs.now in
    let during = shown_during c.args.during.now in
    let few = not_last runs c.loop-k.k c.loop-k-test.true in
    let made = some_run c.args.machine.now (stretches_of runs) (stretches_of (drop c.loop-k.k runs)) during c.loop-k.k c.loop-k.machine c.loop-k.statuses.items _ c.loop-k.invariant.made in
    let trail = states_are 0 c.args.machine.now (stretches_of runs) during c.loop-k.k c.args.machine.now (not_after _ _ few) in
    (refl, few, c.in_default.ensures.err ∙ made ∙ sym trail)

pub loop-k-init : goal.loop-k-init
loop-k-init g c =
    let none = c.in_ok-answers_left.ensures.items in
    record {
      room = fits_first (length c.args.statuses.items) _ _ (ap length c.requires.empty) c.requires.room;
      queues = ap length none;
      places = c.in_ok-answers_left.ensures.capacity;
      nodes = refl;
      failed = sym (ap failures c.requires.empty);
      made = none_run c.args.machine.now (stretches_of c.args.runs.now) _ (shown_during c.args.during.now) 0 c.args.statuses.items _ refl refl c.requires.empty (ap (map left_shown) none);
    }

pub run_flight-requires-clause-target : goal.run_flight-requires-clause-target
run_flight-requires-clause-target g c κs within =
    subst (λ n. c.index-runs-k.result.target < n) (sym c.loop-k.invariant.nodes) (rw c.index-runs-k.is (c.requires.targets c.loop-k.k c.index-runs-k.result c.loop-k-test.true))

pub run_flight-requires-clause-alike : goal.run_flight-requires-clause-alike
run_flight-requires-clause-alike g c κs within = rw c.index-runs-k.is (c.requires.alike c.loop-k.k c.index-runs-k.result c.loop-k-test.true)

pub unwrap-requires : goal.unwrap-requires
unwrap-requires g c =
    let asked = c.index-runs-k.result in
    let n = ap length c.as_slice-in-loop-k.ensures.value ∙ ap (λ (r : RunResult). length r.statuses) c.in-Ok.ensures.run ∙ run_length c.loop-k.machine asked.target asked.wanted.items (map one_lent c.as_slice.result.now) in
    let left = entries_left _ _ asked (drop_item c.args.runs.now c.loop-k.k asked c.loop-k-test.true c.index-runs-k.is) in
    c.extend_from_slice.ensures.succeeds (fits_in _ _ _ _ _ _ _ c.loop-k.statuses.ok.0 n left c.loop-k.invariant.room)

pub overflow_add-failed : goal.overflow_add-failed
overflow_add-failed g c =
    let old = c.loop-k.statuses.items in
    let new = c.in-Ok.landed.statuses.items in
    let all = c.extend_from_slice.new.self in
    let items = extended c.extend_from_slice.result _ old c.as_slice-in-loop-k.result.now new all.items c.extend_from_slice.ensures.items c.unwrap.ensures c.as_slice-in-loop-k.ensures.value in
    small_sum all _ _ (failures old) (failures new) (ap failures items ∙ failures-append old new) c.loop-k.invariant.failed c.in-Ok.ensures.failed

pub loop-k-preserved : goal.loop-k-preserved
loop-k-preserved g c =
    let asked = c.index-runs-k.result in
    let runs = c.args.runs.now in
    let s = c.loop-k.machine in
    let during = shown_during c.args.during.now in
    let own = accesses_of c.loop-k.k during in
    let made = run s asked.target asked.wanted.items own in
    let lists = c.in_ok-accesses.ensures.lists in
    let few = c.loop-k-test.true in
    let shown = lent_shown {A = g.row.A.Denot} in
    let many = length-map c.in_ok-accesses.accesses.items shown in
    let there : c.loop-k.k < length c.in_ok-accesses.accesses.items = listed _ _ _ _ few lists.0 many in
    let these : map one_lent c.as_slice.result.now ≡ own =
    ap (map one_lent) c.as_slice.ensures.value
    ∙ sym (list_there shown c.in_ok-accesses.accesses.items c.loop-k.k c.index.result.now there c.index.ensures) ∙ lists.1 c.loop-k.k few in
    let next = drop_item runs c.loop-k.k asked few c.index-runs-k.is in
    let left = entries_left _ _ asked next in
    let whole = c.in-Ok.ensures.run ∙ ap (λ xs. run s asked.target asked.wanted.items xs) these in
    let state = ap (λ (r : RunResult). r.state) whole in
    let statuses = ap (λ (r : RunResult). r.statuses) whole in
    let answers : map answer_shown c.in-Ok.landed.answers.items ∷ [] ≡ made.answers = ap (λ (r : RunResult). r.answers) whole in
    let items : c.extend_from_slice.new.self.items ≡ c.loop-k.statuses.items ++ made.statuses =
    extended c.extend_from_slice.result _ c.loop-k.statuses.items c.as_slice-in-loop-k.result.now made.statuses c.extend_from_slice.new.self.items c.extend_from_slice.ensures.items c.unwrap.ensures (c.as_slice-in-loop-k.ensures.value ∙ statuses) in
    let queues : map left_shown c.push_reserved.new.self.items ≡ map left_shown c.loop-k.answers_left.items ++ made.answers =
    ap (map left_shown) c.push_reserved.ensures.items ∙ map-append left_shown c.loop-k.answers_left.items (c.into_iter.result ∷ [])
    ∙ ap (λ xs. map left_shown c.loop-k.answers_left.items ++ map answer_shown xs ∷ []) c.into_iter.ensures.rest
    ∙ ap (λ l. map left_shown c.loop-k.answers_left.items ++ l) answers in
    let failed : c.in-Ok.landed.failed ≡ failures made.statuses = c.in-Ok.ensures.failed ∙ ap failures statuses in
    let sum = ap failures items ∙ failures-append c.loop-k.statuses.items made.statuses in
    let len = ap length items ∙ length-append c.loop-k.statuses.items made.statuses in
    let count = run_length s asked.target asked.wanted.items own in
    let more = ap length c.push_reserved.ensures.items ∙ length-append c.loop-k.answers_left.items (c.into_iter.result ∷ []) in
    record {
      room = fits_still _ _ _ _ _ _ _ _ len count left c.extend_from_slice.ensures.capacity c.loop-k.invariant.room;
      queues = more ∙ ap (λ n. n + 1) c.loop-k.invariant.queues;
      places = subst (λ n. length runs ≤ n) (sym c.push_reserved.ensures.capacity) c.loop-k.invariant.places;
      nodes = ap (λ s. node_count s.layout) state ∙ ap node_count (run_layout s asked.target asked.wanted.items own) ∙ c.loop-k.invariant.nodes;
      failed = summed _ _ _ _ _ sum failed c.loop-k.invariant.failed;
      made = runs_on c.args.machine.now (stretches_of runs) (stretches_of (drop (c.loop-k.k + 1) runs)) during (c.loop-k.k + 1) _ _ _ _ _ _ state items queues (one_more_run c.args.machine.now (stretches_of runs) (stretches_of (drop c.loop-k.k runs)) during c.loop-k.k s c.loop-k.statuses.items (map left_shown c.loop-k.answers_left.items) (record { target = asked.target; wanted = asked.wanted.items }) (stretches_of (drop (c.loop-k.k + 1) runs)) (ap stretches_of next) c.loop-k.invariant.made);
    }

pub returns-clause-moves : goal.returns-clause-moves
returns-clause-moves g c =
    let runs = c.args.runs.now in
    let during = shown_during c.args.during.now in
    let none = drop_all c.loop-k.k runs c.loop-k-test.false in
    let made = all_run c.args.machine.now (stretches_of runs) (stretches_of (drop c.loop-k.k runs)) during c.loop-k.k c.loop-k.machine c.loop-k.statuses.items (map left_shown c.loop-k.answers_left.items) (ap stretches_of none) c.loop-k.invariant.made in
    (made.0, c.loop-k.invariant.failed ∙ ap failures made.0, c.in_order.ensures ∙ ap (answers_in_order (keys_of during)) made.1, made.2)

pub returns-in_err-accesses-clause-moves : goal.returns-in_err-accesses-clause-moves
returns-in_err-accesses-clause-moves g c = none_ran _ _ _ _ c.from_residual.ensures.1

pub returns-in_err-answers_left-clause-moves : goal.returns-in_err-answers_left-clause-moves
returns-in_err-answers_left-clause-moves g c = none_ran _ _ _ _ c.from_residual-in_err-answers_left.ensures.1

pub returns-in_err-answers-clause-moves : goal.returns-in_err-answers-clause-moves
returns-in_err-answers-clause-moves g c = none_ran _ _ _ _ c.from_residual-in_err-answers.ensures.1

pub returns-in_err-accesses-clause-allocates : goal.returns-in_err-accesses-clause-allocates
returns-in_err-accesses-clause-allocates g c = on_err c.from_residual.result (some_first _ _ c.in_err-accesses.ensures.allocates)

pub returns-in_err-answers_left-clause-allocates : goal.returns-in_err-answers_left-clause-allocates
returns-in_err-answers_left-clause-allocates g c = on_err c.from_residual-in_err-answers_left.result (some_first _ _ (takes_some _ c.in_err-answers_left.ensures.succeeds))

pub returns-in_err-answers-clause-allocates : goal.returns-in_err-answers-clause-allocates
returns-in_err-answers-clause-allocates g c = on_err c.from_residual-in_err-answers.result (some_last _ _ (takes_some _ c.in_err-answers.ensures.succeeds))

pub index-requires : goal.index-requires
index-requires g c =
    let lists = c.in_ok-accesses.accesses.items in
    one_of _ _ (length lists) _ _ c.loop-k-test.true c.in_ok-accesses.ensures.lists.0 (length-map lists (lent_shown {A = g.row.A.Denot})) c.in_ok-accesses.accesses.ok.0

pub returns-in_default-clause-allocates : goal.returns-in_default-clause-allocates
returns-in_default-clause-allocates g c = some_after _ _ _ c.loop-k-test.true

pub push_reserved-requires : goal.push_reserved-requires
push_reserved-requires g c = reserved _ _ _ _ _ c.loop-k-test.true c.loop-k.invariant.queues c.loop-k.invariant.places c.loop-k.answers_left.ok.0

pub in_order-requires-clause-empty : goal.in_order-requires-clause-empty
in_order-requires-clause-empty g c κs within = c.in_ok-answers.ensures.items

pub in_order-requires-clause-room : goal.in_order-requires-clause-room
in_order-requires-clause-room g c κs within = c.in_ok-answers.ensures.capacity

pub returns-clause-allocates : goal.returns-clause-allocates
returns-clause-allocates g c = tt
