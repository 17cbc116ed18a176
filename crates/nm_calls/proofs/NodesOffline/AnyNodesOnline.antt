-- Runs do not depend on which nodes are online.
use Rattle.std.proofs.Common.{◌≡◌, ℕ, ◌+◌, List, [], ◌∷◌, ◌++◌, length, refl, ap, ◌∙◌}
use Rattle.nm_types.specs.State.{State, free_list}
use Rattle.nm_types.specs.declared.page.Page.{Page}
use Rattle.nm_types.specs.declared.request.Class.{Class}
use Rattle.nm_types.specs.declared.request.Class.TheVariants.{Status, Move}
use Rattle.nm_types.specs.declared.request.Wanted.{Wanted}
use Rattle.nm_types.specs.declared.request.Wanted.TheVariants.{At as Spot, Whole}
use Rattle.nm_model.specs.definitions.Status.{status_or_move}
use Rattle.nm_model.specs.definitions.Cut.{Stretch, all_to}
use Rattle.nm_model.specs.definitions.Run.{Decision, moved_page, decision, one_request, Progress, each_request, with_free, with_all_free, frames_left, failures, with_counts, RunResult, run}
use Rattle.nm_model.specs.definitions.Run.{runs_from}
use Rattle.nm_model.specs.definitions.Cut.{cut_within}
use Rattle.nm_passes.specs.definitions.Passes.{short_of_frames, passes}
use Rattle.nm_calls.specs.definitions.Offline.{with_online, RunsIgnoreOnline}
use Rattle.nm_passes.proofs.NodesInTurn.FullNodes.{then_run}

abbrev decision_with : List ℕ → Decision → Decision
decision_with online o = record o { state = with_online online o.state }

abbrev progress_with : List ℕ → Progress → Progress
progress_with online p = record p { state = with_online online p.state }

abbrev ran_with : List ℕ → RunResult → RunResult
ran_with online r = record r { state = with_online online r.state }

class_same : (online : List ℕ) (s : State) (target : ℕ) (w : Wanted) → status_or_move (with_online online s) target w ≡ status_or_move s target w
class_same online s target (Spot pid v all) = refl
class_same online s target (Whole p) = refl

moved_same : (online : List ℕ) (s : State) (target : ℕ) (page : Page) (from : ℕ) (frames : List ℕ) → moved_page (with_online online s) target page from frames ≡ decision_with online (moved_page s target page from frames)
moved_same online s target page from [] = refl
moved_same online s target page from (frame ∷ rest) = refl

decided_same : (online : List ℕ) (s : State) (target : ℕ) (c : Class) → decision (with_online online s) target c ≡ decision_with online (decision s target c)
decided_same online s target (Status status) = refl
decided_same online s target (Move page from) = moved_same online s target page from (free_list s target)

one_same : (online : List ℕ) (s : State) (target : ℕ) (w : Wanted) → one_request (with_online online s) target w ≡ decision_with online (one_request s target w)
one_same online s target w =
    ap (decision (with_online online s) target) (class_same online s target w) ∙ decided_same online s target (status_or_move s target w)

-- what follows a request
abbrev then_each : ℕ → List Wanted → Decision → Progress
then_each target ws now =
    let rest = each_request now.state target ws in
    record { state = rest.state; statuses = now.status ∷ rest.statuses; taken = now.taken ++ rest.taken }

each_same : (online : List ℕ) (s : State) (target : ℕ) (ws : List Wanted) → each_request (with_online online s) target ws ≡ progress_with online (each_request s target ws)
each_same online s target [] = refl
each_same online s target (w ∷ ws) =
    let now = one_request s target w in
    let add : Progress → Progress = λ rest. record { state = rest.state; statuses = now.status ∷ rest.statuses; taken = now.taken ++ rest.taken } in
    ap (then_each target ws) (one_same online s target w) ∙ ap add (each_same online now.state target ws)

freed_same : (online : List ℕ) (s : State) (frames : List ℕ) → with_all_free (with_online online s) frames ≡ with_online online (with_all_free s frames)
freed_same online s [] = refl
freed_same online s (frame ∷ frames) = freed_same online (with_free s frame) frames

run_same : (online : List ℕ) (s : State) (target : ℕ) (ws : List Wanted) → run (with_online online s) target ws [] ≡ ran_with online (run s target ws [])
run_same online s target ws =
    let moves = each_request s target ws in
    let total : State → RunResult = λ t. record { state = with_counts t (length moves.taken) (failures moves.statuses); statuses = moves.statuses; answers = [] ∷ [] } in
    ap then_run (each_same online s target ws) ∙ ap total (freed_same online moves.state (frames_left moves.taken))

-- what follows a run
abbrev then_runs : ℕ → List Stretch → RunResult → RunResult
then_runs k rs now =
    let rest = runs_from (k + 1) now.state rs [] in
    record { state = rest.state; statuses = now.statuses ++ rest.statuses; answers = now.answers ++ rest.answers }

runs_same : (k : ℕ) (online : List ℕ) (s : State) (rs : List Stretch) → runs_from k (with_online online s) rs [] ≡ ran_with online (runs_from k s rs [])
runs_same k online s [] = refl
runs_same k online s (r ∷ rs) =
    let now = run s r.target r.wanted [] in
    let add : RunResult → RunResult = λ rest. record { state = rest.state; statuses = now.statuses ++ rest.statuses; answers = now.answers ++ rest.answers } in
    ap (then_runs k rs) (run_same online s r.target r.wanted) ∙ ap add (runs_same (k + 1) online now.state rs)

-- what follows a pass
abbrev then_passes : ℕ → List Stretch → List ℕ → List Wanted → RunResult → List Stretch
then_passes limit runs nodes wanted made = runs ++ passes limit made.state nodes (short_of_frames wanted made.statuses)

passes_same : (limit : ℕ) (s : State) (online : List ℕ) (nodes : List ℕ) (wanted : List Wanted) → passes limit (with_online online s) nodes wanted ≡ passes limit s nodes wanted
passes_same limit s online [] wanted = refl
passes_same limit s online (node ∷ nodes) wanted =
    let runs = cut_within limit (all_to node wanted) in
    let made = runs_from 0 s runs [] in
    ap (then_passes limit runs nodes wanted) (runs_same 0 online s runs)
    ∙ ap (λ ts. runs ++ ts) (passes_same limit made.state online nodes (short_of_frames wanted made.statuses))

pub runs_ignore_online : RunsIgnoreOnline
runs_ignore_online =
    record { runs = λ s online runs. runs_same 0 online s runs; passes = λ limit s online nodes wanted. passes_same limit s online nodes wanted }
