-- What a beginning and an access make of the machine, as the definition of a run has it.
use Rattle.std.proofs.Common.{◌≡◌, ℕ, List, [], ◌∷◌, ◌++◌, map, length}
use Rattle.std.specs.Option.{option_map}
use Rattle.nm_types.specs.declared.page.Page.{Page}
use Rattle.nm_model.specs.definitions.Events.{held_by, laid_for}
use Rattle.nm_model.specs.definitions.PageTables.{entry_at, entry_of}
use Rattle.nm_model.specs.definitions.Seen.{sight_at}
use Rattle.nm_model.specs.definitions.Touch.{AccessResult}
use Rattle.nm_model.specs.definitions.Run.{Progress, frames_left}
use Rattle.nm_model.specs.definitions.RunMachine.{RunMachine, state_of}
use Rattle.nm_laws.proofs.InFlight.Jobs.{sources}
use Rattle.nm_laws.proofs.InFlight.Midway.{IsInFlight, frames_of_job}

-- an access was made
pub record Made (m n : RunMachine) (moved : List Page) (a : AccessResult) : Type 0 where
  pub in_flight : IsInFlight n moved
  pub state : state_of n ≡ a.state
  pub answers : n.answers ≡ m.answers ++ a.answer ∷ []
  pub jobs : n.jobs ≡ m.jobs
  pub statuses : n.statuses ≡ m.statuses
  pub layout : n.layout ≡ m.layout

-- a run has begun
pub record Begun (m n : RunMachine) (p : Progress) : Type 0 where
  pub in_flight : IsInFlight n (map (λ t. t.page) p.taken)
  pub state : state_of n ≡ p.state
  pub sources_are : sources n.jobs ≡ frames_left p.taken
  pub ends : map frames_of_job n.jobs ≡ map (λ t. (t.from, t.to)) p.taken
  pub count : length n.jobs ≡ length p.taken
  pub entries : (pid v : ℕ) → entry_at n.tasks pid v ≡ option_map (held_by (map (laid_for m.buf) p.taken)) (option_map (entry_of (state_of m).place) (sight_at (state_of m) pid v))
  pub statuses : n.statuses ≡ p.statuses
  pub answers : n.answers ≡ []
  pub layout : n.layout ≡ m.layout
