-- A policy for no bytes, or without pages to move: no page strays, and no run is made.
use Rattle.std.proofs.Common.{◌≡◌, ℕ, ◌+◌, ◌/◌, ◌<◌, ◌≤◌, length, Bool, true, false, ◌&&◌, List, [], ◌∷◌, None, refl, sym, ap, subst, ◌∙◌, arith, Result, Ok, if◌then◌else◌}
use Rattle.std.specs.Prelude.{nat_le, nat_lt, not}
use Rattle.std.specs.List.{filter, flat_map, list_any}
use Rattle.std.proofs.lemmas.Bool.{le-ltb, leb-true, ltb-true, and_parts, false_from_ne_true}
use Rattle.nm_types.specs.declared.area.Policy.{Policy}
use Rattle.nm_types.specs.Map.{Map, same_page}
use Rattle.nm_types.specs.State.{State}
use Rattle.nm_model.specs.definitions.Cut.{Stretch}
use Rattle.nm_model.specs.definitions.Effect.{areas_of, page_count, parts_with_policy, set_policy, with_areas_of}
use Rattle.nm_model.specs.definitions.Order.{follows}
use Rattle.nm_model.specs.definitions.Run.{runs_from}
use Rattle.nm_model.specs.definitions.Seen.{between, located_in, sights}
use Rattle.nm_passes.specs.declared.call_error.CallError.{CallError}
use Rattle.nm_passes.specs.declared.call_error.CallError.TheVariants.{Refused, HostMemory}
use Rattle.nm_passes.specs.declared.binding.Binding.{Binding}
use Rattle.nm_requests.specs.Calls.{Mbind}
use Rattle.nm_calls.specs.definitions.Answers.{Failed}
use Rattle.nm_calls.specs.definitions.Outcome.{outcome}
use Rattle.nm_calls.specs.definitions.Mbind.{binding, has_stray, home_of, pages_to_bind, mbind_refusal, mbind_runs, has_move, checks_after_moves}
use Rattle.nm_passes.specs.definitions.Placement.{is_stray, runs_by, stray_pages}
use Rattle.nm_passes.specs.definitions.Listing.{once}
use Rattle.nm_passes.specs.definitions.Permission.{info_at, has_move_all}
use Rattle.nm_calls.specs.definitions.Systems.{SystemState}
use Rattle.nm_calls.specs.views.Ends.{Binds}
use Rattle.nm_passes.specs.views.Runs.{Stops}
use Rattle.nm_types.specs.declared.located_page.LocatedPage.{LocatedPage}
use Rattle.nm_calls.proofs.Policies.Results.{binds_does}
use Rattle.nm_passes.proofs.Policies.Moves.{no_moves}

-- a range that ends where it begins has no page number
none_between : {V : Type 0} (first end : ℕ) (m : Map ℕ V) → end ≤ first → between first end m ≡ []
none_between first end [] few = refl
none_between first end (e ∷ m) few =
    let out : (nat_le first e.0 && nat_lt e.0 end) ≡ false =
    false_from_ne_true _ (λ h. let both = and_parts (nat_le first e.0) (nat_lt e.0 end) h in omega (arith, leb-true first e.0 both.0, ltb-true e.0 end both.1, few)) in
    rw out (none_between first end m few)

no_strays : (s : State) (b : Binding) → b.end ≤ b.first → stray_pages s b ≡ []
no_strays s b few =
    ap (λ sees. once (λ l m. same_page l.page m.page) (filter (λ l. not (follows b.policy l.node)) (located_in s.layout s.place sees))) (none_between b.first b.end (sights s.processes b.pid) few)

no_runs : (limit : ℕ) (s : State) (b : Binding) (flags : ℕ) → b.end ≤ b.first → mbind_runs limit s b flags ≡ []
no_runs limit s b flags few =
    let none : (if has_move flags then stray_pages s b else []) ≡ [] = elim (has_move flags) as (λ m. (if m then stray_pages s b else []) ≡ []) [
      | true ↦ no_strays s b few
      | false ↦ refl
    ] in
    ap (runs_by limit s b.policy (home_of (info_at s b.pid)) b.pid (has_move_all flags)) none ∙ no_moves limit s b.policy (home_of (info_at s b.pid)) b.pid (has_move_all flags)

and_false : (b : Bool) → (b && false) ≡ false
and_false true = refl
and_false false = refl

-- where a page is listed, the flags ask for moves
pub listed_moves : (s : State) (b : Binding) (flags : ℕ) → 0 < length (pages_to_bind s b flags) → has_move flags ≡ true
listed_moves s b flags some = elim (has_move flags) as (λ m. 0 < length (if m then stray_pages s b else []) → m ≡ true) [
  | true ↦ λ h. refl
  | false ↦ λ h. absurd (omega (arith, h))
] some

-- where a run is made, there are pages
pub runs_some : (limit : ℕ) (s : State) (policy : Policy) (home pid : ℕ) (all : Bool) (pages : List LocatedPage) → 0 < length (runs_by limit s policy home pid all pages) → 0 < length pages
runs_some limit s policy home pid all [] some = absurd (omega (arith, some, ap (λ (rs : List Stretch). length rs) (no_moves limit s policy home pid all)))
runs_some limit s policy home pid all (page ∷ pages) some = omega arith

-- and where the host runs out of memory for a run, one is made
pub stops_some : (set : Bool) (e : CallError) (old new : State) (runs : List Stretch) → Stops set e old new runs → 0 < length runs
stops_some set (Refused e) old new runs h = absurd h
stops_some set (HostMemory k policy_set) old new runs h = omega (arith, h.1)

-- a policy for no bytes is set nowhere
none_set : (s : State) (pid address : ℕ) (policy : Policy) → set_policy s pid address 0 policy ≡ s
none_set s pid address policy =
    let first = address / 4096 in
    let after = flat_map (parts_with_policy pid first (first + page_count 0) policy) s.areas in
    ap (λ b. with_areas_of s (if b then record (areas_of s) { areas = after } else areas_of s)) (le-ltb first (first + page_count 0) (omega arith))

module _ (y : SystemState) (caller addr mode : ℕ) (nodes : List ℕ) (flags : ℕ) where
  bound_none : mbind_refusal y.state caller addr 0 mode nodes flags ≡ None → outcome y (Mbind caller addr 0 mode nodes flags) ≡ record { answer = Failed 0; system = y }
  bound_none h =
      let s = y.state in
      let b = binding s caller addr 0 mode nodes in
      let few : b.end ≤ b.first = omega arith in
      let runs = no_runs y.run_limit s b flags few in
      let stray : (checks_after_moves flags && has_stray s (runs_from 0 s (mbind_runs y.run_limit s b flags) []).state b) ≡ false =
      ap (λ pages. checks_after_moves flags && list_any (is_stray (runs_from 0 s (mbind_runs y.run_limit s b flags) []).state b.policy) pages) (no_strays s b few) ∙ and_false (checks_after_moves flags) in
      let done : Result ℕ CallError = Ok 0 in
      binds_does y caller addr 0 mode nodes flags done s h
      (subst (λ t. Binds done s t s b (mbind_runs y.run_limit t b flags) flags) (sym (none_set s caller addr b.policy))
      (stray, sym (ap (λ rs. (runs_from 0 s rs []).state) runs)))

  -- a call for no bytes that is not refused changes nothing
  pub nothing_bound : (len : ℕ) → len ≡ 0 → mbind_refusal y.state caller addr len mode nodes flags ≡ None → outcome y (Mbind caller addr len mode nodes flags) ≡ record { answer = Failed 0; system = y }
  nothing_bound len zero h =
      subst (λ n. outcome y (Mbind caller addr n mode nodes flags) ≡ record { answer = Failed 0; system = y }) (sym zero)
      (bound_none (subst (λ n. mbind_refusal y.state caller addr n mode nodes flags ≡ None) zero h))
