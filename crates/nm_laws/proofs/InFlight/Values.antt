-- Maps whose values change twice, and what page tables show after their entries changed.
use Rattle.std.proofs.Common.{◌≡◌, ℕ, [], ◌∷◌, refl, ap, ◌∙◌}
use Rattle.std.specs.Prelude.{Option, Some, None}
use Rattle.std.specs.Option.{option_map}
use Rattle.std.specs.Ordering.{nat_cmp}
use Rattle.std.proofs.lemmas.Map.Lookups.{exact_unsigned}
use Rattle.nm_types.specs.declared.area.Area.{Area}
use Rattle.nm_types.specs.Map.{Map, get, with_values}
use Rattle.nm_types.specs.declared.entry.Entry.{Entry}
use Rattle.nm_model.specs.definitions.PageTables.{Task, entry_at, entry_in, process_of, sight_of}
use Rattle.nm_types.proofs.Maps.{get-values}
use Rattle.nm_model.specs.definitions.Events.{with_changed, with_entries}

pub values_twice : {K V W X : Type 0} (F : K → W → X) (G : K → V → W) (m : Map K V) → with_values F (with_values G m) ≡ with_values (λ k v. F k (G k v)) m
values_twice F G [] = refl
values_twice F G (e ∷ m) = ap (λ es. (e.0, F e.0 (G e.0 e.1)) ∷ es) (values_twice F G m)

pub values_same : {K V : Type 0} (m : Map K V) → with_values (λ (k : K) (v : V). v) m ≡ m
values_same [] = refl
values_same (e ∷ m) = ap (λ es. e ∷ es) (values_same m)

-- entries that show what they showed
module _ (change : Entry → Entry) (alike : (areas : Map (ℕ × ℕ) Area) (pid v : ℕ) (e : Entry) → sight_of areas pid v (change e) ≡ sight_of areas pid v e) where
  changed_shows : (areas : Map (ℕ × ℕ) Area) (pid : ℕ) (t : Task) → process_of areas pid (with_changed change t) ≡ process_of areas pid t
  changed_shows areas pid t =
      let sees : with_values (sight_of areas pid) (with_values (λ v e. change e) t.table) ≡ with_values (sight_of areas pid) t.table =
      values_twice (sight_of areas pid) (λ v e. change e) t.table ∙ (λ i. with_values (λ v e. alike areas pid v e i) t.table) in
      λ i. record { uid = t.info.uid; privileged = t.info.privileged; home = t.info.home; allowed = t.info.allowed; sees = sees i }

  pub entries_show : (areas : Map (ℕ × ℕ) Area) (tasks : Map ℕ Task) → with_values (process_of areas) (with_entries change tasks) ≡ with_values (process_of areas) tasks
  entries_show areas tasks = values_twice (process_of areas) (λ pid. with_changed change) tasks ∙ (λ i. with_values (λ pid t. changed_shows areas pid t i) tasks)

changed_in : (change : Entry → Entry) (o : Option Task) (v : ℕ) → entry_in (option_map (with_changed change) o) v ≡ option_map change (entry_in o v)
changed_in change None v = refl
changed_in change (Some t) v = get-values exact_unsigned (λ v e. change e) t.table v

pub changed_at : (change : Entry → Entry) (tasks : Map ℕ Task) (pid v : ℕ) → entry_at (with_entries change tasks) pid v ≡ option_map change (entry_at tasks pid v)
changed_at change tasks pid v =
    ap (λ o. entry_in o v) (get-values exact_unsigned (λ pid. with_changed change) tasks pid) ∙ changed_in change (get nat_cmp tasks pid) v
