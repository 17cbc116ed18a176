-- How the pages of a policy move.
use Rattle.std.proofs.Common.{◌≡◌, ℕ, suc, Bool, true, false, cond, List, [], ◌∷◌, ◌++◌, length, map, refl, sym, ap, subst}
use Rattle.std.proofs.lemmas.Bool.{eqb-true}
use Rattle.std.specs.Prelude.{◌==◌}
use Rattle.std.specs.List.{AllByRecursion, filter, flat_map}
use Rattle.nm_types.specs.declared.area.Policy.{Policy}
use Rattle.nm_types.specs.declared.area.Policy.TheVariants.{Default, Preferred, Bind, Interleave, Local}
use Rattle.nm_types.specs.Nodes.{is_in}
use Rattle.nm_types.specs.State.{State}
use Rattle.nm_model.specs.definitions.Areas.{Mapping}
use Rattle.nm_policy.specs.declared.targets.Destination.{Destination}
use Rattle.nm_model.specs.definitions.Order.{zonelist}
use Rattle.nm_policy.specs.definitions.Turns.{with_turn, sent_to, by_turns}
use Rattle.nm_model.specs.definitions.Cut.{cut_within, wanted_of}
use Rattle.nm_types.specs.declared.located_page.LocatedPage.{LocatedPage}
use Rattle.nm_model.specs.definitions.Effect.{with_areas_of}
use Rattle.nm_model.specs.definitions.Run.{moves_all, HasOneAll}
use Rattle.nm_passes.specs.definitions.Passes.{passes}
use Rattle.nm_passes.specs.definitions.Placement.{requests_at, each_to, nodes_tried, runs_by}
use Rattle.nm_passes.specs.views.Runs.{nodes_named}
use Rattle.nm_passes.proofs.NodesInTurn.Passes.{passes_none}
use Rattle.nm_passes.proofs.Policies.Nodes.{of_member}

module _ (P : ℕ → Type 0) where
  sent_there : (all : List Destination) (node : ℕ) → P node → AllByRecursion (λ t. P t.to) (sent_to all node)
  sent_there [] node h = tt
  sent_there (t ∷ ts) node h =
      let rest = sent_there ts node h in
      elim (t.to == node) as (λ b. t.to == node ≡ b → AllByRecursion (λ t. P t.to) (cond b (t ∷ sent_to ts node) (sent_to ts node))) [
        | true ↦ λ e. (subst P (sym (eqb-true t.to node e)) h, rest)
        | false ↦ λ e. rest
      ] refl

  both : (ts us : List Destination) → AllByRecursion (λ t. P t.to) ts → AllByRecursion (λ t. P t.to) us → AllByRecursion (λ t. P t.to) (ts ++ us)
  both [] us h k = k
  both (t ∷ ts) us h k = (h.0, both ts us h.1 k)

  sent_all : (all : List Destination) (nodes : List ℕ) → AllByRecursion P nodes → AllByRecursion (λ t. P t.to) (flat_map (sent_to all) nodes)
  sent_all all [] h = tt
  sent_all all (node ∷ nodes) h = both (sent_to all node) (flat_map (sent_to all) nodes) (sent_there all node h.0) (sent_all all nodes h.1)

  pub asked_all : (pid : ℕ) (all : Bool) (ts : List Destination) → AllByRecursion (λ t. P t.to) ts → AllByRecursion (λ e. P e.target) (each_to pid all ts)
  asked_all pid all [] h = tt
  asked_all pid all (t ∷ ts) h = (h.0, asked_all pid all ts h.1)

  -- pages that take turns go to nodes of the set ..
  pub turns_go : (nodes : List ℕ) (pages : List LocatedPage) → AllByRecursion P nodes → AllByRecursion (λ t. P t.to) (by_turns nodes pages)
  turns_go nodes pages h = sent_all (map (with_turn nodes) pages) nodes h

  kept_all : (ns ks : List ℕ) → AllByRecursion P ns → AllByRecursion P (filter (is_in ns) ks)
  kept_all ns [] h = tt
  kept_all ns (k ∷ ks) h =
      let rest = kept_all ns ks h in
      elim (is_in ns k) as (λ b. is_in ns k ≡ b → AllByRecursion P (cond b (k ∷ filter (is_in ns) ks) (filter (is_in ns) ks))) [
        | true ↦ λ e. (of_member P ns k h e, rest)
        | false ↦ λ e. rest
      ] refl

  -- and those that are tried one after another are nodes that the policy names
  pub tried_all : (s : State) (home : ℕ) (policy : Policy) → AllByRecursion P (nodes_named policy) → AllByRecursion P (nodes_tried s home policy)
  tried_all s home Default h = tt
  tried_all s home (Preferred node) h = h
  tried_all s home (Bind nodes) h = kept_all nodes (zonelist s.layout s.online home) h
  tried_all s home (Interleave nodes) h = tt
  tried_all s home Local h = tt

-- .. and have one `all`
pub turns_alike : (pid : ℕ) (all : Bool) (ts : List Destination) → HasOneAll (wanted_of (each_to pid all ts))
turns_alike pid all ts = (all, each ts)
  where
    each : (ts : List Destination) → AllByRecursion (λ w. moves_all w ≡ all) (wanted_of (each_to pid all ts))
    each [] = tt
    each (t ∷ ts) = (refl, each ts)

pub spots_alike : (pid : ℕ) (all : Bool) (ls : List LocatedPage) → HasOneAll (requests_at pid all ls)
spots_alike pid all ls = (all, each ls)
  where
    each : (ls : List LocatedPage) → AllByRecursion (λ w. moves_all w ≡ all) (requests_at pid all ls)
    each [] = tt
    each (l ∷ ls) = (refl, each ls)

pub spots_length : (pid : ℕ) (all : Bool) (ls : List LocatedPage) → length (requests_at pid all ls) ≡ length ls
spots_length pid all [] = refl
spots_length pid all (l ∷ ls) = ap suc (spots_length pid all ls)

-- a policy other than INTERLEAVE has passes, whatever the areas
pub passes_by : (s : State) (m : Mapping) (limit : ℕ) (policy : Policy) (home pid : ℕ) (all : Bool) (pages : List LocatedPage) → ((nodes : List ℕ) → policy ≡ Interleave nodes → ⊥)
    → passes limit (with_areas_of s m) (nodes_tried s home policy) (requests_at pid all pages) ≡ runs_by limit (with_areas_of s m) policy home pid all pages
passes_by s m limit Default home pid all pages h = refl
passes_by s m limit (Preferred node) home pid all pages h = refl
passes_by s m limit (Bind nodes) home pid all pages h = refl
passes_by s m limit (Interleave nodes) home pid all pages h = absurd (h nodes refl)
passes_by s m limit Local home pid all pages h = refl

no_turns : (nodes : List ℕ) → flat_map (sent_to []) nodes ≡ []
no_turns [] = refl
no_turns (n ∷ nodes) = no_turns nodes

-- no pages make no run
pub no_moves : (limit : ℕ) (s : State) (policy : Policy) (home pid : ℕ) (all : Bool) → runs_by limit s policy home pid all [] ≡ []
no_moves limit s Default home pid all = passes_none limit s (nodes_tried s home Default)
no_moves limit s (Preferred node) home pid all = passes_none limit s (nodes_tried s home (Preferred node))
no_moves limit s (Bind nodes) home pid all = passes_none limit s (nodes_tried s home (Bind nodes))
no_moves limit s (Interleave nodes) home pid all = ap (λ with_turn. cut_within limit (each_to pid all with_turn)) (no_turns nodes)
no_moves limit s Local home pid all = passes_none limit s (nodes_tried s home Local)
