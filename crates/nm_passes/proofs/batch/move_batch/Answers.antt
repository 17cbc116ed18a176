use Rattle.std.proofs.Common.{arith, ◌≡◌, ℕ, zero, suc, ◌<◌, ◌==◌, Bool, true, false, List, [], ◌∷◌, ℤ, Vec, map, Ok, ap, refl, sym, length, ◌∙◌}
use Rattle.std.proofs.lemmas.Bool.{eqb-true}
use Rattle.nm_types.specs.State.{State}
use Rattle.nm_runs.specs.Stretches.{stretches_of}
use Rattle.nm_model.specs.definitions.Cut.{cut_within, requests_of}
use Rattle.nm_requests.specs.Views.{shown_during}
use Rattle.nm_requests.specs.declared.call.InFlight.{InFlight}
use Rattle.nm_pool.specs.declared.answers.AccessAnswer.{AccessAnswer}
use Rattle.nm_pool.specs.views.Accesses.{answer_shown}
use Rattle.nm_passes.specs.definitions.Moves.{Moves}
use Rattle.nm_passes.proofs.Batches.Results.{none_moved, batch_moved, on_err}
use Rattle.nm_passes.proofs.Batches.Requests.{targets_below, runs_alike, entries_fit}
use Rattle.nm_passes.proofs.batch.move_batch.Goals as goal
use Rattle.nm_passes.proofs.batch.move_batch.Goals.{else-is_empty-via-then-is_empty+else-is_empty-2, else-is_empty-via-else-is_empty}

is_zero : (n : ℕ) (b : Bool) → b ≡ (n == 0) → b ≡ true → n ≡ 0
is_zero n b is none = eqb-true n 0 (sym is ∙ none)

is_more : (n : ℕ) (b : Bool) → b ≡ (n == 0) → b ≡ false → 0 < n
is_more zero b is some = absurd (cc)
is_more (suc n) b is some = omega arith

-- a batch of no pages and no accesses
none_made : {A : Type 0} (statuses : Vec ℤ A) (answers : Vec (AccessAnswer A) A) (s : State) (limit pid : ℕ) (all : Bool) (ps ns : List ℕ) (during : List (InFlight A)) → statuses.items ≡ [] → answers.items ≡ [] → length ps ≡ 0 → length during ≡ 0
    → Moves (Ok (record { failed = 0; statuses = statuses; answers = answers })) s s limit (requests_of pid all ps ns) (shown_during during)
none_made statuses answers s limit pid all [] ns [] same given none still = (same, refl, ap (map answer_shown) given, refl)
none_made statuses answers s limit pid all (p ∷ ps) ns during same given none still = absurd (omega (arith, none))
none_made statuses answers s limit pid all [] ns (d ∷ ds) same given none still = absurd (omega (arith, still))

pub returns-then-is_empty-2-clause-moves : goal.returns-then-is_empty-2-clause-moves
returns-then-is_empty-2-clause-moves g c =
    let x = c.args.request.now in
    none_made c.new.result c.new-then-is_empty-2.result c.args.machine.now c.args.limit c.args.permit.now.pid c.args.permit.now.all x.batch.pages.items x.batch.nodes.items x.during.items c.new.ensures.items c.new-then-is_empty-2.ensures.items (ap length (sym c.as_slice-pages.ensures.value) ∙ is_zero _ _ c.is_empty.ensures c.if-is_empty.true) (ap length (sym c.as_slice-during.ensures.value) ∙ is_zero _ _ c.is_empty-then-is_empty.ensures c.if-is_empty-2.true)

pub returns-then-is_empty-2-clause-allocates : goal.returns-then-is_empty-2-clause-allocates
returns-then-is_empty-2-clause-allocates g c = tt

pub cut_pages-requires-clause-some : goal.cut_pages-requires-clause-some
cut_pages-requires-clause-some g c = c.requires.some

pub cut_pages-requires-clause-paired : goal.cut_pages-requires-clause-paired
cut_pages-requires-clause-paired g c =
    ap length c.as_slice-pages.ensures.value ∙ c.args.request.now.batch.paired ∙ ap length (sym c.as_slice-nodes.ensures.value)

pub move_runs-requires-clause-targets : goal.move_runs-requires-clause-targets
move_runs-requires-clause-targets g c κs within =
    let x = c.args.request.now.batch in
    let asked = ap (λ ps. requests_of c.args.permit.now.pid c.args.permit.now.all ps c.as_slice-nodes.result.now) c.as_slice-pages.ensures.value ∙ ap (requests_of c.args.permit.now.pid c.args.permit.now.all x.pages.items) c.as_slice-nodes.ensures.value in
    let runs = ap stretches_of c.as_slice-runs.ensures.value ∙ c.in_ok-runs.ensures.runs ∙ ap (cut_within c.args.limit) asked in
    targets_below _ c.args.limit c.args.permit.now.pid c.args.permit.now.all x.pages.items x.nodes.items c.as_slice-runs.result.now c.requires.some runs c.requires.nodes

pub move_runs-requires-clause-alike : goal.move_runs-requires-clause-alike
move_runs-requires-clause-alike g c κs within =
    let x = c.args.request.now.batch in
    let asked = ap (λ ps. requests_of c.args.permit.now.pid c.args.permit.now.all ps c.as_slice-nodes.result.now) c.as_slice-pages.ensures.value ∙ ap (requests_of c.args.permit.now.pid c.args.permit.now.all x.pages.items) c.as_slice-nodes.ensures.value in
    let runs = ap stretches_of c.as_slice-runs.ensures.value ∙ c.in_ok-runs.ensures.runs ∙ ap (cut_within c.args.limit) asked in
    runs_alike c.args.limit c.args.permit.now.pid c.args.permit.now.all x.pages.items x.nodes.items c.as_slice-runs.result.now c.requires.some runs

pub move_runs-requires-clause-room : goal.move_runs-requires-clause-room
move_runs-requires-clause-room g c κs within =
    let x = c.args.request.now.batch in
    let asked = ap (λ ps. requests_of c.args.permit.now.pid c.args.permit.now.all ps c.as_slice-nodes.result.now) c.as_slice-pages.ensures.value ∙ ap (requests_of c.args.permit.now.pid c.args.permit.now.all x.pages.items) c.as_slice-nodes.ensures.value in
    let runs = ap stretches_of c.as_slice-runs.ensures.value ∙ c.in_ok-runs.ensures.runs ∙ ap (cut_within c.args.limit) asked in
    let fit = entries_fit c.args.limit c.args.permit.now.pid c.args.permit.now.all x.pages.items x.nodes.items c.as_slice-runs.result.now c.requires.some runs in
    omega (arith, fit, ap length c.as_slice-pages.ensures.value, c.in_ok-statuses.ensures.capacity)

pub returns-in_err-runs-clause-moves : goal.returns-in_err-runs-clause-moves
returns-in_err-runs-clause-moves g c = none_moved _ _ _ _ _ c.from_residual.ensures.1

pub returns-in_err-statuses-clause-moves : goal.returns-in_err-statuses-clause-moves
returns-in_err-statuses-clause-moves g c = none_moved _ _ _ _ _ c.from_residual-in_err-statuses.ensures.1

pub returns-clause-moves : goal.returns-clause-moves
returns-clause-moves g c =
    let x = c.args.request.now.batch in
    let asked = ap (λ ps. requests_of c.args.permit.now.pid c.args.permit.now.all ps c.as_slice-nodes.result.now) c.as_slice-pages.ensures.value ∙ ap (requests_of c.args.permit.now.pid c.args.permit.now.all x.pages.items) c.as_slice-nodes.ensures.value in
    let runs = ap stretches_of c.as_slice-runs.ensures.value ∙ c.in_ok-runs.ensures.runs ∙ ap (cut_within c.args.limit) asked in
    batch_moved c.move_runs.result _ _ _ _ _ _ _ runs (ap shown_during c.as_slice-during.ensures.value) c.move_runs.ensures.moves

pub returns-in_err-runs-clause-allocates : goal.returns-in_err-runs-clause-allocates
returns-in_err-runs-clause-allocates g c = on_err c.from_residual.result (omega (arith, c.in_err-runs.ensures.allocates, ap length c.as_slice-pages.ensures.value))

pub returns-in_err-statuses-clause-allocates : goal.returns-in_err-statuses-clause-allocates
returns-in_err-statuses-clause-allocates g c = on_err c.from_residual-in_err-statuses.result (
    elim c.else-is_empty.branch [
      | else-is_empty-via-then-is_empty+else-is_empty-2 w ↦ omega (arith, is_more _ _ w.is_empty-then-is_empty.ensures w.if-is_empty-2.false, ap length c.as_slice-during.ensures.value)
      | else-is_empty-via-else-is_empty w ↦ omega (arith, is_more _ _ c.is_empty.ensures w.if-is_empty.false, ap length c.as_slice-pages.ensures.value)
    ]
    )

pub move_runs-requires-clause-empty : goal.move_runs-requires-clause-empty
move_runs-requires-clause-empty g c κs within = c.in_ok-statuses.ensures.items

pub returns-clause-allocates : goal.returns-clause-allocates
returns-clause-allocates g c = on_err c.move_runs.result (
    elim c.else-is_empty.branch [
      | else-is_empty-via-then-is_empty+else-is_empty-2 w ↦ omega (arith, is_more _ _ w.is_empty-then-is_empty.ensures w.if-is_empty-2.false, ap length c.as_slice-during.ensures.value)
      | else-is_empty-via-else-is_empty w ↦ omega (arith, is_more _ _ c.is_empty.ensures w.if-is_empty.false, ap length c.as_slice-pages.ensures.value)
    ]
    )
