-- Reports that grow by a line.
use Rattle.std.proofs.Common.{◌≡◌, ℕ, suc, ◌+◌, ◌-◌, ◌<◌, ◌≤◌, length-append, List, [], ◌∷◌, ◌++◌, length, take, drop, get_or, map, refl, sym, ap, ◌∙◌, append_assoc, length-take, arith}
use Rattle.std.proofs.lemmas.List.{take_more, take-append-drop, take-take, append-nil, length-map}
use Rattle.std.proofs.Math.ListN.{get_or-map}
use Rattle.nm_calls.specs.definitions.Systems.{SystemState}
use Rattle.nm_requests.specs.Calls.{Call}
use Rattle.nm_calls.specs.definitions.Outcome.{Outcome, outcome}
use Rattle.nm_trace.specs.definitions.Report.{text_of, report_from, state_after}

pub report_append : (k : ℕ) (s : SystemState) (xs ys : List Call) → report_from k s (xs ++ ys) ≡ report_from k s xs ++ report_from (k + length xs) (state_after s xs) ys
report_append k s [] ys = let e : k ≡ k + 0 = omega arith in ap (λ (j : ℕ). report_from j s ys) e
report_append k s (x ∷ xs) ys =
    let o : Outcome = outcome s x in
    let e : (k + 1) + length xs ≡ k + suc (length xs) = omega arith in
    rw (report_append (k + 1) o.system xs ys, e) (sym (append_assoc (text_of k x o.answer) (report_from (k + 1) o.system xs) (report_from (k + suc (length xs)) (state_after o.system xs) ys)))

pub after_append : (s : SystemState) (xs ys : List Call) → state_after s (xs ++ ys) ≡ state_after (state_after s xs) ys
after_append s [] ys = refl
after_append s (x ∷ xs) ys = after_append (outcome s x).system xs ys

module _ (s : SystemState) (calls : List Call) (k : ℕ) (call : Call) (lt : k < length calls) (is : call ≡ get_or calls k call) where
  next : take (k + 1) calls ≡ take k calls ++ call ∷ []
  next = take_more calls k call lt ∙ ap (λ (x : Call). take k calls ++ x ∷ []) (sym is)

  before : SystemState
  before = state_after s (take k calls)

  pub state_more : state_after s (take (k + 1) calls) ≡ (outcome (state_after s (take k calls)) call).system
  state_more = ap (state_after s) next ∙ after_append s (take k calls) (call ∷ [])

  pub report_more : report_from 0 s (take (k + 1) calls) ≡ report_from 0 s (take k calls) ++ text_of k call (outcome (state_after s (take k calls)) call).answer
  report_more =
      let line : ℕ → List ℕ = λ (j : ℕ). text_of j call (outcome (state_after s (take k calls)) call).answer in
      let len : 0 + length (take k calls) ≡ k = omega (arith, length-take k calls, lt) in
      ap (report_from 0 s) next
      ∙ (report_append 0 s (take k calls) (call ∷ [])
      ∙ (ap (λ (ls : List ℕ). report_from 0 s (take k calls) ++ ls) (append-nil (line (0 + length (take k calls))))
      ∙ ap (λ (j : ℕ). report_from 0 s (take k calls) ++ line j) len))

-- the report on some first calls is a front of the report
pub report_front : (s : SystemState) (calls : List Call) (k : ℕ) → (rest : List ℕ) × (report_from 0 s (take k calls) ++ rest ≡ report_from 0 s calls)
report_front s calls k = (_, sym (report_append 0 s (take k calls) (drop k calls)) ∙ ap (report_from 0 s) (take-append-drop k calls))

-- the report on all but the last of some calls is no longer than that on all of them
pub report_short : (s : SystemState) (calls : List Call) (k : ℕ) → length (report_from 0 s (take (k - 1) calls)) ≤ length (report_from 0 s (take k calls))
report_short s calls k =
    let front = report_front s (take k calls) (k - 1) in
    let early = ap (λ (cs : List Call). length (report_from 0 s cs)) (take-take (k - 1) k calls (omega arith)) in
    omega (arith, early, ap (λ (t : List ℕ). length t) front.1, length-append (report_from 0 s (take (k - 1) (take k calls))) front.0)

-- the call of a step, at its place
pub call_at : {S : Type 0} (call_of : S → Call) (steps : List S) (k : ℕ) (step : S) → k < length steps → step ≡ get_or steps k step → (k < length (map call_of steps)) × (call_of step ≡ get_or (map call_of steps) k (call_of step))
call_at call_of steps k step lt is = (rw length-map lt, ap call_of is ∙ sym (get_or-map call_of steps k step))
