-- What a process sees, by its page table.
use Rattle.std.proofs.Common.{◌≡◌, ℕ, refl, ap, ◌∙◌}
use Rattle.std.specs.Prelude.{Option, Some, None}
use Rattle.std.specs.Option.{option_map}
use Rattle.std.specs.Ordering.{nat_cmp}
use Rattle.std.proofs.lemmas.Map.Lookups.{exact_unsigned}
use Rattle.nm_types.specs.declared.area.Area.{Area}
use Rattle.nm_types.specs.Map.{Map, get, with_values}
use Rattle.nm_model.specs.definitions.Seen.{sight_in}
use Rattle.nm_model.specs.definitions.PageTables.{Task, entry_at, entry_in, process_of, sight_of}
use Rattle.nm_types.proofs.Maps.{get-values}

-- what a process sees is what its entry shows
sight_in_task : (areas : Map (ℕ × ℕ) Area) (pid v : ℕ) (o : Option Task) → sight_in (option_map (process_of areas pid) o) v ≡ option_map (sight_of areas pid v) (entry_in o v)
sight_in_task areas pid v None = refl
sight_in_task areas pid v (Some t) = get-values exact_unsigned (sight_of areas pid) t.table v

pub sight_shown : (areas : Map (ℕ × ℕ) Area) (tasks : Map ℕ Task) (pid v : ℕ) → sight_in (get nat_cmp (with_values (process_of areas) tasks) pid) v ≡ option_map (sight_of areas pid v) (entry_at tasks pid v)
sight_shown areas tasks pid v = ap (λ o. sight_in o v) (get-values exact_unsigned (process_of areas) tasks pid) ∙ sight_in_task areas pid v (get nat_cmp tasks pid)
