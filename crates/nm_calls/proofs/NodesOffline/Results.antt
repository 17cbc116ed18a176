-- The result of taking a node offline.
use Rattle.std.proofs.Common.{◌≡◌, ℕ, ◌<◌, Bool, true, false, cond, List, [], ◌∷◌, inl, inr, length, refl, sym, ap, subst, ◌∙◌, slice_index_or, None, Result, Ok, Err}
use Rattle.std.specs.Prelude.{◌==◌, not, ◌&&◌, ◌||◌, nat_lt, map, if◌then◌else◌}
use Rattle.std.specs.List.{AllByRecursion, fold, list_any}
use Rattle.std.specs.Result.{IsErrAnd}
use Rattle.std.proofs.lemmas.Bool.{true≢false}
use Rattle.std.proofs.lemmas.List.{length-map}
use Rattle.nm_types.specs.declared.page.Page.{Page}
use Rattle.nm_types.specs.Layout.{Layout, distance}
use Rattle.nm_types.specs.Nodes.{is_in, without_node}
use Rattle.nm_types.specs.State.{State}
use Rattle.nm_model.specs.definitions.Order.{insert_by_distance, zonelist}
use Rattle.nm_types.specs.declared.request.Wanted.{Wanted}
use Rattle.nm_types.specs.declared.request.Wanted.TheVariants.{Whole}
use Rattle.nm_model.specs.definitions.Cut.{Stretch}
use Rattle.nm_model.specs.definitions.Run.{runs_from}
use Rattle.nm_model.specs.definitions.Effect.{set_online}
use Rattle.nm_model.specs.definitions.Seen.{placed_on}
use Rattle.nm_model.specs.definitions.Run.{moves_all, HasOneAll}
use Rattle.nm_passes.specs.declared.call_error.CallError.{CallError}
use Rattle.nm_passes.specs.declared.call_error.CallError.TheVariants.{Refused, HostMemory}
use Rattle.nm_types.specs.declared.errno.Errno.TheVariants.{Ebusy}
use Rattle.nm_requests.specs.Calls.{Call, Offline}
use Rattle.nm_calls.specs.definitions.Answers.{Refusal, Done}
use Rattle.nm_passes.specs.definitions.Listing.{is_on}
use Rattle.nm_passes.specs.definitions.Passes.{passes}
use Rattle.nm_calls.specs.definitions.Systems.{SystemState, in_state}
use Rattle.nm_calls.specs.definitions.Offline.{offline_refusal, offline_runs, refuges, still_on}
use Rattle.nm_calls.specs.definitions.Outcome.{refusal_of, refused_at_once, start, sets_policy, runs_asked, accesses_asked, runs_of, end_of_call, offline_outcome, outcome, trail}
use Rattle.nm_passes.specs.definitions.Moves.{states_of}
use Rattle.nm_calls.specs.definitions.Does.{Does}
use Rattle.nm_passes.specs.views.Errors.{out_of_memory}
use Rattle.nm_passes.specs.views.Runs.{Stops}
use Rattle.nm_calls.specs.views.Ends.{Keeps, Empties}
use Rattle.nm_passes.proofs.Batches.Results.{err_of}
use Rattle.nm_calls.proofs.Outcomes.{LeavesSome, answers}
use Rattle.nm_calls.proofs.Trails.{runs_unless, state_unless}

-- no memory before a node is emptied ..
pub none_emptied : {T : Type 0} (r : Result T CallError) (s : State) (node : ℕ) (rs : List Stretch) → IsErrAnd r (λ e. e ≡ out_of_memory 0) → Empties r s s node rs
none_emptied r s node rs h = subst (λ r. Empties r s s node rs) (sym (err_of r (out_of_memory 0) h)) (inl (refl, refl, refl))

-- .. and none for one of its runs
pub keeps_stopped : (e : CallError) (old new : State) (node : ℕ) (rs qs : List Stretch) → rs ≡ qs → Stops false e old new rs → Keeps e old new node qs
keeps_stopped (Refused e) old new node rs qs runs h = absurd h
keeps_stopped (HostMemory k policy_set) old new node rs qs runs h =
    inr (subst (Stops false (HostMemory k policy_set) old new) runs h)

-- whether a page is found on the node after the runs
pub still_found : (old made new : State) (node : ℕ) (pages : List Page) (b : Bool) → is_in old.online node ≡ true → pages ≡ placed_on old node → made ≡ new → list_any (is_on made node) pages ≡ b → still_on old new node ≡ b
still_found old made new node pages b online all after h =
    ap (λ x. x && list_any (is_on new node) (placed_on old node)) online
    ∙ ap (λ t. list_any (is_on t node) (placed_on old node)) (sym after)
    ∙ ap (list_any (is_on made node)) (sym all) ∙ h

-- requests by page
pub wholes_alike : (pages : List Page) → HasOneAll (map Whole pages)
wholes_alike pages = (true, each pages)
  where
    each : (pages : List Page) → AllByRecursion (λ w. moves_all w ≡ true) (map Whole pages)
    each [] = tt
    each (p ∷ ps) = (refl, each ps)

pub wholes_length : (pages : List Page) → length (map Whole pages) ≡ length pages
wholes_length pages = length-map {B = Wanted} pages Whole

module _ (P : ℕ → Type 0) (g : Layout) (from : ℕ) where
  inserted_all : (ks : List ℕ) (node : ℕ) → P node → AllByRecursion P ks → AllByRecursion P (insert_by_distance g from ks node)
  inserted_all [] node one h = (one, tt)
  inserted_all (k ∷ ks) node one h =
      let rest = inserted_all ks node one h.1 in
      elim (nat_lt (distance g from node) (distance g from k)) as (λ b. AllByRecursion P (cond b (node ∷ k ∷ ks) (k ∷ insert_by_distance g from ks node))) [
        | true ↦ (one, h)
        | false ↦ (h.0, rest)
      ]

  folded_all : (ks ns : List ℕ) → AllByRecursion P ks → AllByRecursion P ns → AllByRecursion P (fold (insert_by_distance g from) ks ns)
  folded_all ks [] h k = h
  folded_all ks (n ∷ ns) h k = folded_all (insert_by_distance g from ks n) ns (inserted_all ks n k.0 h) k.1

  -- what holds of nodes holds of them by distance
  pub by_distance_all : (ns : List ℕ) → AllByRecursion P ns → AllByRecursion P (zonelist g ns from)
  by_distance_all ns h = folded_all [] ns tt h

-- a set without a node that it does not have
same_without : (ns : List ℕ) (n : ℕ) → is_in ns n ≡ false → without_node ns n ≡ ns
same_without [] n h = refl
same_without (m ∷ ns) n h =
    elim (m == n) as (λ b. (b || is_in ns n) ≡ false → cond (not b) (m ∷ without_node ns n) (without_node ns n) ≡ m ∷ ns) [
      | true ↦ λ k. absurd (true≢false k)
      | false ↦ λ k. ap (λ l. m ∷ l) (same_without ns n k)
    ] h

module _ (y : SystemState) (node : ℕ) where
  abbrev asks : Call
  asks = Offline node

  abbrev runs : List Stretch
  runs = offline_runs y.run_limit y.state node

  at_once_none : offline_refusal y.state node ≡ None → refused_at_once y.state asks ≡ None
  unfolding refusal_of refused_at_once
  at_once_none h = h

  unset : sets_policy asks ≡ false
  unfolding sets_policy
  unset = refl

  runs_are : offline_refusal y.state node ≡ None → runs_of y asks ≡ runs
  unfolding refusal_of runs_asked
  runs_are h = ap (λ o. runs_unless o runs) h

  trail_is : offline_refusal y.state node ≡ None → trail y asks ≡ states_of y.state runs
  unfolding refusal_of runs_asked start accesses_asked
  trail_is h = ap (λ o. states_of (state_unless o y.state y.state) (runs_unless o runs)) h ∙ refl

  -- where a page stays, or none does
  answered : (stays : Bool) → offline_refusal y.state node ≡ None → still_on y.state (runs_from 0 y.state runs []).state node ≡ stays
      → outcome y asks ≡ offline_outcome y node (runs_from 0 y.state runs []).state stays
  unfolding refusal_of runs_asked start end_of_call accesses_asked
  answered stays h is = answers y asks (offline_outcome y node (runs_from 0 y.state runs []).state stays) h (ap (offline_outcome y node (runs_from 0 y.state runs []).state) is)

  stopped_at : (k : ℕ) (policy_set : Bool) (new : State) → offline_refusal y.state node ≡ None
      → Stops false (HostMemory k policy_set) y.state new runs → LeavesSome y asks k policy_set (in_state y new)
  stopped_at k policy_set new h made =
      let lt = made.1 in
      let few : k < length (runs_of y asks) = subst (λ rs. k < length rs) (sym (runs_are h)) lt in
      inr (few, made.0 ∙ sym unset, ap (in_state y) (made.2 ∙ sym (ap (λ ss. slice_index_or ss k y.state) (trail_is h))))

  -- so a call does what its definition says
  pub empties_does : {T : Type 0} (r : Result T CallError) (new : State) → offline_refusal y.state node ≡ None → Empties r y.state new node runs → Does (λ done. Done) r y (in_state y new) asks
  empties_does (Ok done) new h b = answered false h b.0 ∙ ap (λ s. record { answer = Done; system = in_state y s }) (sym b.1)
  empties_does (Err (Refused e)) new h b =
      answered true h b.0 ∙ ap (λ s. record { answer = Refusal Ebusy; system = in_state y s }) (sym b.2)
      ∙ ap (λ x. record { answer = Refusal x; system = in_state y new }) (sym b.1)
  empties_does (Err (HostMemory k policy_set)) new h (inl b) = (at_once_none h, inl (b.0, b.1, ap (in_state y) b.2))
  empties_does (Err (HostMemory k policy_set)) new h (inr b) = (at_once_none h, stopped_at k policy_set new h b)

  -- a node that is offline already is left as it is
  pub stays_offline : offline_refusal y.state node ≡ None → is_in y.state.online node ≡ false → outcome y asks ≡ record { answer = Done; system = y }
  stays_offline h off =
      let none : runs ≡ [] = ap (λ b. if b then passes y.run_limit y.state (refuges y.state node) (map Whole (placed_on y.state node)) else []) off in
      answered false h (ap (λ b. b && list_any (is_on (runs_from 0 y.state runs []).state node) (placed_on y.state node)) off)
      ∙ ap (λ rs. record { answer = Done; system = in_state y (set_online (runs_from 0 y.state rs []).state node false) }) none
      ∙ ap (λ ns. record { answer = Done; system = in_state y (record (y.state) { online = ns }) }) (same_without y.state.online node off)
