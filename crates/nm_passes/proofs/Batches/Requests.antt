-- What the runs of a batch have of its requests.
use Rattle.std.proofs.Common.{arith, ◌≡◌, ℕ, suc, ◌<◌, ◌≤◌, Bool, List, [], ◌∷◌, ◌++◌, length, refl, sym, ap, ◌∙◌, slice_index_or, zero, length-append, subst}
use Rattle.std.proofs.lemmas.List.{length-map}
use Rattle.std.specs.Prelude.{slice_index}
use Rattle.std.proofs.lemmas.List.Sums.{sum_by-cons}
use Rattle.std.specs.List.{AllByRecursion, sum_by}
use Rattle.nm_runs.specs.declared.Run.{Run}
use Rattle.nm_types.specs.declared.request.Wanted.{Wanted}
use Rattle.nm_model.specs.definitions.Cut.{Request, Stretch, all_to, all_requests, size_of, wanted_of}
use Rattle.nm_runs.specs.Stretches.{stretches_of}
use Rattle.nm_model.specs.definitions.Cut.{cut_within, requests_of}
use Rattle.nm_runs.proofs.Pieces.{each_limit_cuts}
use Rattle.nm_model.specs.definitions.Run.{moves_all, HasOneAll}

-- what holds of each request of a run
abbrev OfRun : (Request → Type 0) → Stretch → Type 0
OfRun Q r = AllByRecursion Q (all_to r.target r.wanted)

front_of : {X : Type 0} (P : X → Type 0) (xs ys : List X) → AllByRecursion P (xs ++ ys) → AllByRecursion P xs
front_of P [] ys h = tt
front_of P (x ∷ xs) ys h = (h.0, front_of P xs ys h.1)

back_of : {X : Type 0} (P : X → Type 0) (xs ys : List X) → AllByRecursion P (xs ++ ys) → AllByRecursion P ys
back_of P [] ys h = h
back_of P (x ∷ xs) ys h = back_of P xs ys h.1

-- what holds of each request of some runs, one after another, holds of each run's
each_run : (Q : Request → Type 0) (rs : List Stretch) → AllByRecursion Q (all_requests rs) → AllByRecursion (OfRun Q) rs
each_run Q [] h = tt
each_run Q (r ∷ rs) h =
    (front_of Q (all_to r.target r.wanted) (all_requests rs) h, each_run Q rs (back_of Q (all_to r.target r.wanted) (all_requests rs) h))

-- what holds of each request of a batch holds of each of its runs'
pub of_runs : (Q : Request → Type 0) (limit : ℕ) (es : List Request) → 0 < limit → AllByRecursion Q es → AllByRecursion (OfRun Q) (cut_within limit es)
of_runs Q limit es some h = each_run Q (cut_within limit es) (subst (AllByRecursion Q) (sym (each_limit_cuts limit es some).is.same) h)

-- the node of a run is that of its first request
target_has : (P : ℕ → Type 0) (target : ℕ) (wanted : List Wanted) → 0 < length wanted → AllByRecursion (λ e. P e.target) (all_to target wanted) → P target
target_has P target [] some h = absurd (omega (arith, some))
target_has P target (w ∷ ws) some h = h.0

all_have : (P : ℕ → Type 0) (rs : List Stretch) → AllByRecursion (λ r. 0 < size_of r) rs → AllByRecursion (OfRun (λ e. P e.target)) rs → AllByRecursion (λ r. P r.target) rs
all_have P [] some h = tt
all_have P (r ∷ rs) some h = (target_has P r.target r.wanted some.0 h.0, all_have P rs some.1 h.1)

-- so what holds of the node of each request holds of that of each run
pub cut_targets : (P : ℕ → Type 0) (limit : ℕ) (es : List Request) → 0 < limit → AllByRecursion (λ e. P e.target) es → AllByRecursion (λ r. P r.target) (cut_within limit es)
cut_targets P limit es some h = all_have P (cut_within limit es) (each_limit_cuts limit es some).is.some (of_runs (λ e. P e.target) limit es some h)

batch_below : (n pid : ℕ) (all : Bool) (ps ns : List ℕ) → ((k : ℕ) → k < length ns → slice_index ns k < n) → AllByRecursion (λ e. e.target < n) (requests_of pid all ps ns)
batch_below n pid all [] ns h = tt
batch_below n pid all (p ∷ ps) [] h = tt
batch_below n pid all (p ∷ ps) (m ∷ ns) h =
    (h 0 (omega arith), batch_below n pid all ps ns (λ k lt. h (suc k) (omega (arith, lt))))

batch_length : (pid : ℕ) (all : Bool) (ps ns : List ℕ) → length (requests_of pid all ps ns) ≤ length ps
batch_length pid all [] ns = omega arith
batch_length pid all (p ∷ ps) [] = omega arith
batch_length pid all (p ∷ ps) (m ∷ ns) = let rest = batch_length pid all ps ns in omega (arith, rest)

runs_below : {A : Type 0} (n : ℕ) (runs : List (Run A)) → AllByRecursion (λ r. r.target < n) (stretches_of runs) → (k : ℕ) (d : Run A) → k < length runs → (slice_index_or runs k d).target < n
runs_below n [] hs k d lt = absurd (omega (arith, lt))
runs_below n (run ∷ runs) hs zero d lt = hs.0
runs_below n (run ∷ runs) hs (suc k) d lt = runs_below n runs hs.1 k d (omega (arith, lt))

runs_entries : {A : Type 0} (runs : List (Run A)) → sum_by (λ (run : Run A). length run.wanted.items) runs ≡ length (all_requests (stretches_of runs))
runs_entries [] = refl
runs_entries {A = A} (run ∷ runs) =
    let parts = length-append (all_to run.target run.wanted.items) (all_requests (stretches_of runs)) in
    let own = length-map {B = Request} run.wanted.items (λ w. record { target = run.target; wanted = w }) in
    let rest = runs_entries runs in
    let first = sum_by-cons (λ (r : Run A). length r.wanted.items) run runs in
    omega (arith, parts, own, rest, first)

-- the nodes to which the runs of requests go ..
pub run_targets : {A : Type 0} (n limit : ℕ) (es : List Request) (runs : List (Run A)) → 0 < limit → stretches_of runs ≡ cut_within limit es → AllByRecursion (λ e. e.target < n) es → (k : ℕ) (d : Run A) → k < length runs → (slice_index_or runs k d).target < n
run_targets n limit es runs some e h =
    runs_below n runs (rw e (cut_targets (λ m. m < n) limit es some h))

-- .. and how many requests they have
pub run_entries : {A : Type 0} (limit : ℕ) (es : List Request) (runs : List (Run A)) → 0 < limit → stretches_of runs ≡ cut_within limit es → sum_by (λ (run : Run A). length run.wanted.items) runs ≡ length es
run_entries limit es runs some e = runs_entries runs ∙ ap (λ rs. length (all_requests rs)) e ∙ ap length (each_limit_cuts limit es some).is.same

-- runs that have some requests are some ..
pub entries_some : {A : Type 0} (runs : List (Run A)) (count : ℕ) → sum_by (λ (run : Run A). length run.wanted.items) runs ≡ count → 0 < count → 0 < length runs
entries_some [] count is some = absurd (omega (arith, is, some))
entries_some (run ∷ runs) count is some = omega arith

-- .. and there are some requests if they have some runs
pub some_runs : {A : Type 0} (limit : ℕ) (es : List Request) (runs : List (Run A)) → 0 < limit → stretches_of runs ≡ cut_within limit es → 0 < length runs → 0 < length es
some_runs limit [] [] some e has = absurd (omega (arith, has))
some_runs limit [] (run ∷ runs) some e has = let none = ap length e in absurd (omega (arith, none))
some_runs limit (f ∷ fs) runs some e has = omega arith

-- the runs of a batch go to nodes that its entries name ..
pub targets_below : {A : Type 0} (n limit pid : ℕ) (all : Bool) (ps ns : List ℕ) (runs : List (Run A)) → 0 < limit → stretches_of runs ≡ cut_within limit (requests_of pid all ps ns) → ((k : ℕ) → k < length ns → slice_index ns k < n) → (k : ℕ) (d : Run A) → k < length runs → (slice_index_or runs k d).target < n
targets_below n limit pid all ps ns runs some e h =
    run_targets n limit (requests_of pid all ps ns) runs some e (batch_below n pid all ps ns h)

-- .. and have no more entries than the batch has addresses
pub entries_fit : {A : Type 0} (limit pid : ℕ) (all : Bool) (ps ns : List ℕ) (runs : List (Run A)) → 0 < limit → stretches_of runs ≡ cut_within limit (requests_of pid all ps ns) → sum_by (λ (run : Run A). length run.wanted.items) runs ≤ length ps
entries_fit limit pid all ps ns runs some e =
    let all_of = run_entries limit (requests_of pid all ps ns) runs some e in
    let few = batch_length pid all ps ns in
    omega (arith, all_of, few)

-- what holds of each request of a run holds of what is wanted ..
run_wanted : (P : Wanted → Type 0) (target : ℕ) (wanted : List Wanted) → AllByRecursion (λ e. P e.wanted) (all_to target wanted) → AllByRecursion P wanted
run_wanted P target [] h = tt
run_wanted P target (w ∷ ws) h = (h.0, run_wanted P target ws h.1)

-- .. and the other way round, in a batch
each_wanted : (P : Wanted → Type 0) (es : List Request) → AllByRecursion P (wanted_of es) → AllByRecursion (λ e. P e.wanted) es
each_wanted P [] h = tt
each_wanted P (e ∷ es) h = (h.0, each_wanted P es h.1)

all_alike : (all : Bool) (rs : List Stretch) → AllByRecursion (OfRun (λ e. moves_all e.wanted ≡ all)) rs → AllByRecursion (λ r. HasOneAll r.wanted) rs
all_alike all [] h = tt
all_alike all (r ∷ rs) h = ((all, run_wanted (λ w. moves_all w ≡ all) r.target r.wanted h.0), all_alike all rs h.1)

each_alike : {A : Type 0} (runs : List (Run A)) → AllByRecursion (λ r. HasOneAll r.wanted) (stretches_of runs) → (k : ℕ) (d : Run A) → k < length runs → HasOneAll (slice_index_or runs k d).wanted.items
each_alike [] hs k d lt = absurd (omega (arith, lt))
each_alike (run ∷ runs) hs zero d lt = hs.0
each_alike (run ∷ runs) hs (suc k) d lt = each_alike runs hs.1 k d (omega (arith, lt))

-- where requests have one `all`, those of each of their runs have it: each by itself ..
pub run_kinds : {A : Type 0} (limit : ℕ) (all : Bool) (es : List Request) (runs : List (Run A)) → 0 < limit → stretches_of runs ≡ cut_within limit es → AllByRecursion (λ e. moves_all e.wanted ≡ all) es → (k : ℕ) (d : Run A) → k < length runs → HasOneAll (slice_index_or runs k d).wanted.items
run_kinds limit all es runs some e h =
    each_alike runs (rw e (all_alike all (cut_within limit es) (of_runs (λ e. moves_all e.wanted ≡ all) limit es some h)))

-- .. or what all of them want ..
pub runs_like : {A : Type 0} (limit : ℕ) (es : List Request) (runs : List (Run A)) → 0 < limit → stretches_of runs ≡ cut_within limit es → HasOneAll (wanted_of es) → (k : ℕ) (d : Run A) → k < length runs → HasOneAll (slice_index_or runs k d).wanted.items
runs_like limit es runs some e h = run_kinds limit h.0 es runs some e (each_wanted (λ w. moves_all w ≡ h.0) es h.1)

-- .. as the requests of a batch have it
pub runs_alike : {A : Type 0} (limit pid : ℕ) (all : Bool) (ps ns : List ℕ) (runs : List (Run A)) → 0 < limit → stretches_of runs ≡ cut_within limit (requests_of pid all ps ns) → (k : ℕ) (d : Run A) → k < length runs → HasOneAll (slice_index_or runs k d).wanted.items
runs_alike limit pid all ps ns runs some e = run_kinds limit all (requests_of pid all ps ns) runs some e (alike pid all ps ns)
  where
    alike : (pid : ℕ) (all : Bool) (ps ns : List ℕ) → AllByRecursion (λ e. moves_all e.wanted ≡ all) (requests_of pid all ps ns)
    alike pid all [] ns = tt
    alike pid all (p ∷ ps) [] = tt
    alike pid all (p ∷ ps) (m ∷ ns) = (refl, alike pid all ps ns)
