-- The sum of the jobs' sizes, one job after another.
use Rattle.std.proofs.Common.{◌≡◌, ℕ, zero, suc, ◌+◌, ◌<◌, List, [], ◌∷◌, length, take, min, slice_index_or, subst, add-one, refl, arith}
use Rattle.nm_frames.specs.declared.job.CopyJob.{CopyJob}
use Rattle.nm_threads.specs.Others.{IsSizeOf, IsSizeOfAll}

module _ {A : Type 0} where
  one_more : (jobs : List (CopyJob A)) (at : ℕ) (job : CopyJob A) (size more : ℕ) → IsSizeOfAll (take at jobs) size → at < length jobs → job ≡ slice_index_or jobs at job → IsSizeOf job more
      → IsSizeOfAll (take (suc at) jobs) (min (size + more) 18446744073709551615)
  one_more [] at job size more so_far h e is = absurd (omega arith)
  one_more (x ∷ xs) zero job size more so_far h e is = (more, 0, subst (λ (j : CopyJob A). IsSizeOf j more) e is, refl, omega (arith, so_far))
  one_more (x ∷ xs) (suc at) job size more (first, rest, its, others, sum) h e is =
      (first, min (rest + more) 18446744073709551615, its, one_more xs at job rest more others (omega arith) e is, omega (arith, sum))

  -- the size of one more job is added
  pub size_step : (jobs : List (CopyJob A)) (at : ℕ) (job : CopyJob A) (size more after : ℕ) → IsSizeOfAll (take at jobs) size → at < length jobs → job ≡ slice_index_or jobs at job → IsSizeOf job more
      → after ≡ min (size + more) 18446744073709551615 → IsSizeOfAll (take (at + 1) jobs) after
  size_step jobs at job size more after so_far h e is sum = rw (add-one, sum) (one_more jobs at job size more so_far h e is)
