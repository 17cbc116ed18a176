-- Jobs and their tickets.
use Rattle.std.specs.Prelude.{◌≡◌, ℕ, ◌+◌, ◌==◌, nat_lt, if◌then◌else◌, List, [], ◌∷◌, slice_get, Some}
use Rattle.nm_frames.specs.declared.job.CopyJob.{CopyJob}

-- the jobs are in the order of their tickets, from 0 up
abbrev pub InTicketOrder : {A : Type 0} → List (CopyJob A) → Type 0
InTicketOrder {A} jobs = (t : ℕ) (job : CopyJob A) → slice_get jobs t ≡ Some job → job.ticket ≡ t

-- 1 if both are the same ticket, else 0
abbrev pub hit : ℕ → ℕ → ℕ
hit t u = if t == u then 1 else 0

-- how often a ticket is in a list
abbrev pub ticket_times : ℕ → List ℕ → ℕ
ticket_times t [] = 0
ticket_times t (u ∷ us) = hit t u + ticket_times t us

-- 1 for a ticket below n, else 0
abbrev pub once_below : ℕ → ℕ → ℕ
once_below t n = if nat_lt t n then 1 else 0
