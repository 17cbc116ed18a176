-- Copying the pages of a run.
use Rattle.std.specs.Prelude.{◌≢◌, ℕ, ◌+◌, List, [], ◌∷◌, Some, None, slice_set}
use Rattle.std.specs.List.{fold}
use Rattle.nm_frames.specs.declared.job.CopyJob.{CopyJob}
use Rattle.nm_pool.specs.views.Populated.{IsPopulated}
use Rattle.nm_model.specs.definitions.Frames.{Store, IsHome, IsOut, bytes_of}
use Rattle.nm_types.specs.declared.page_move.PageMove.{PageMove}

-- a page's bytes are copied to the frame that it takes
abbrev pub with_copy : Store → PageMove → Store
with_copy store t = slice_set store t.to (Some (bytes_of store t.from))

-- one page after another is copied
abbrev pub with_copies : Store → List PageMove → Store
with_copies store taken = fold with_copy store taken

-- the store with the bytes of both frames out
abbrev pub without_move : Store → PageMove → Store
without_move store t = slice_set (slice_set store t.from None) t.to None

-- the frames of these moves are home, and none is named twice
abbrev pub CanCopy : Store → List PageMove → Type 0
CanCopy store [] = Unit {0}
CanCopy store (t ∷ taken) = IsHome store t.from × IsHome store t.to × (t.from ≢ t.to) × CanCopy (without_move store t) taken

-- both frames of a move have their bytes in memory
abbrev pub HasBoth : Store → PageMove → Type 0
HasBoth store t = IsPopulated store t.from × IsPopulated store t.to

-- the store while the bytes of all these moves are out
abbrev pub without_moves : Store → List PageMove → Store
without_moves store taken = fold without_move store taken

-- a frame's bytes are put back home
abbrev pub with_buf : Store → ℕ × List ℕ → Store
with_buf store buf = slice_set store buf.0 (Some buf.1)

module _ {A : Type 0} where
  -- a job for each move, numbered from k on
  abbrev pub jobs_of : ℕ → Store → List PageMove → List (CopyJob A)
  jobs_of k store [] = []
  jobs_of k store (t ∷ taken) =
      record { source = (t.from, bytes_of store t.from); target = (t.to, bytes_of store t.to); ticket = k }
      ∷ jobs_of (k + 1) (without_move store t) taken

  -- both frames' bytes of a job are put back home
  abbrev pub with_job : Store → CopyJob A → Store
  with_job store job = with_buf (with_buf store job.source) job.target

  -- the bytes of all these jobs are put back home, the last job's first
  abbrev pub with_jobs_back : Store → List (CopyJob A) → Store
  with_jobs_back store [] = store
  with_jobs_back store (job ∷ jobs) = with_job (with_jobs_back store jobs) job

  -- the frames of these jobs are out, and none is named twice
  abbrev pub CanRefill : Store → List (CopyJob A) → Type 0
  CanRefill store [] = Unit {0}
  CanRefill store (job ∷ jobs) =
      CanRefill store jobs × IsOut (with_jobs_back store jobs) job.source.0
      × IsOut (with_buf (with_jobs_back store jobs) job.source) job.target.0
