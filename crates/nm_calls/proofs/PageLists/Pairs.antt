-- What is asked for, by pairs of nodes.
use Rattle.std.proofs.Common.{◌≡◌, ℕ, Bool, true, List, [], ◌∷◌, ◌++◌, map, refl}
use Rattle.std.specs.Prelude.{Option, Some, None}
use Rattle.std.specs.List.{AllByRecursion}
use Rattle.nm_types.specs.declared.page.Page.{Page}
use Rattle.nm_types.specs.Map.{Map}
use Rattle.nm_types.specs.Nodes.{is_in, IsNodeSet}
use Rattle.nm_types.specs.State.{State}
use Rattle.nm_policy.specs.declared.pairing.Pair.{Pair}
use Rattle.nm_types.specs.declared.request.Wanted.TheVariants.{At}
use Rattle.nm_model.specs.definitions.Cut.{Request, Stretch, cut_within}
use Rattle.nm_types.specs.declared.errno.Errno.{Errno}
use Rattle.nm_policy.specs.definitions.Pairs.{pairs}
use Rattle.nm_policy.proofs.Paired.{each_set_is_paired_in_order}
use Rattle.nm_types.specs.declared.process.ProcessInfo.{ProcessInfo}
use Rattle.nm_model.specs.definitions.Run.{moves_all}
use Rattle.nm_passes.specs.definitions.Permission.{owner_of, info_at, usable}
use Rattle.nm_requests.specs.Calls.{MigratePages}
use Rattle.nm_calls.specs.definitions.Outcome.{refusal_of, runs_asked}
use Rattle.nm_calls.specs.laws.Migrations.{RunsGoToNodesOnline}
use Rattle.nm_passes.proofs.Batches.Requests.{cut_targets}
use Rattle.nm_passes.proofs.Policies.NamedNodes.{usable_online}
use Rattle.nm_calls.proofs.Trails.{runs_unless}
use Rattle.nm_passes.specs.definitions.Listing.{pages_on, migrate_list}
use Rattle.nm_calls.specs.definitions.Migrate.{migrated_by, migration}
use Rattle.nm_passes.proofs.Policies.Nodes.{of_member}

all-append : (P : Request → Type 0) (es fs : List Request) → AllByRecursion P es → AllByRecursion P fs → AllByRecursion P (es ++ fs)
all-append P [] fs h k = k
all-append P (e ∷ es) fs h k = (h.0, all-append P es fs h.1 k)

asked_on : (P : Request → Type 0) (target pid : ℕ) (all : Bool) (ps : Map ℕ Page) → ((v : ℕ) → P (record { target = target; wanted = At pid v all })) → AllByRecursion P (map {B = Request} (λ (e : ℕ × Page). record { target = target; wanted = At pid e.0 all }) ps)
asked_on P target pid all [] h = tt
asked_on P target pid all (p ∷ ps) h = (h p.0, asked_on P target pid all ps h)

-- what holds of a request at whatever page number to the target of each pair holds of all
all_asked : (P : Request → Type 0) (s : State) (pid : ℕ) (all : Bool) (ps : List Pair) → AllByRecursion (λ (p : Pair). (v : ℕ) → P (record { target = p.to; wanted = At pid v all })) ps → AllByRecursion P (migrate_list s pid all ps)
all_asked P s pid all [] h = tt
all_asked P s pid all (p ∷ ps) h =
    all-append P (map {B = Request} (λ (e : ℕ × Page). record { target = p.to; wanted = At pid e.0 all }) (pages_on s pid p.from)) (migrate_list s pid all ps)
    (asked_on P p.to pid all (pages_on s pid p.from) h.0) (all_asked P s pid all ps h.1)

targets_of : (P : ℕ → Type 0) (ns : List ℕ) (ps : List Pair) (pid : ℕ) (all : Bool) → AllByRecursion P ns → AllByRecursion (λ p. is_in ns p.to ≡ true) ps → AllByRecursion (λ (p : Pair). (v : ℕ) → P p.to) ps
targets_of P ns [] pid all h inside = tt
targets_of P ns (p ∷ ps) pid all h inside = ((λ v. of_member P ns p.to h inside.0), targets_of P ns ps pid all h inside.1)

-- each request goes to a node of the set from which the pairs have their targets
pub asked_targets : (P : ℕ → Type 0) (s : State) (pid : ℕ) (all : Bool) (ns : List ℕ) (ps : List Pair) → AllByRecursion P ns → AllByRecursion (λ p. is_in ns p.to ≡ true) ps → AllByRecursion (λ e. P e.target) (migrate_list s pid all ps)
asked_targets P s pid all ns ps h inside = all_asked (λ e. P e.target) s pid all ps (targets_of P ns ps pid all h inside)

-- all have one `all`
pub asked_alike : (s : State) (pid : ℕ) (all : Bool) (ps : List Pair) → AllByRecursion (λ e. moves_all e.wanted ≡ all) (migrate_list s pid all ps)
asked_alike s pid all ps = all_asked (λ e. moves_all e.wanted ≡ all) s pid all ps (each ps)
  where
    each : (ps : List Pair) → AllByRecursion (λ (p : Pair). (v : ℕ) → moves_all (At pid v all) ≡ all) ps
    each [] = tt
    each (p ∷ ps) = ((λ v. refl), each ps)

-- each goes to a node that is online
asked_online : (s : State) (pid : ℕ) (asking asked : Option ProcessInfo) (old new : List ℕ) → IsNodeSet old → AllByRecursion (λ e. is_in s.online e.target ≡ true) (migrated_by s pid asking asked old new)
asked_online s pid None asked old new set = tt
asked_online s pid (Some asking) None old new set = tt
asked_online s pid (Some asking) (Some asked) old new set =
    let targets = usable s asked.allowed new in
    asked_targets (λ n. is_in s.online n ≡ true) s pid asking.privileged targets (pairs old targets) (usable_online s asked.allowed new) (each_set_is_paired_in_order old targets set.upwards).inside

unless_all : (P : Stretch → Type 0) (o : Option Errno) (rs : List Stretch) → AllByRecursion P rs → AllByRecursion P (runs_unless o rs)
unless_all P (Some e) rs h = tt
unless_all P None rs h = h

pub runs_go_online : RunsGoToNodesOnline
unfolding runs_asked
runs_go_online y caller pid old new some set =
    let s = y.state in
    unless_all (λ r. is_in s.online r.target ≡ true) (refusal_of s (MigratePages caller pid old new)) (cut_within y.run_limit (migration s caller pid old new))
    (cut_targets (λ n. is_in s.online n ≡ true) y.run_limit (migration s caller pid old new) some
    (asked_online s (owner_of caller pid) (info_at s caller) (info_at s (owner_of caller pid)) old new set))
