-- What callers of the board need.
use Rattle.std.proofs.Common.{◌≡◌, ℕ, zero, suc, ◌+◌, List, [], ◌∷◌, ◌++◌, length, map, sym, ap, ◌∙◌, subst, arith, Some}
use Rattle.std.specs.Prelude.{slice_get}
use Rattle.std.specs.Option.{option_map}
use Rattle.std.proofs.lemmas.Option.{slice_get-map}
use Rattle.nm_frames.specs.declared.job.CopyJob.{CopyJob}
use Rattle.nm_frames.specs.Job.{job_after_copy}
use Rattle.nm_board.specs.Tickets.{InTicketOrder}

module _ {A : Type 0} where
  -- what was drawn and copied may be given back
  pub can_give : (jobs : List (CopyJob A)) (job now : CopyJob A) → slice_get jobs job.ticket ≡ Some job → now ≡ job_after_copy job → slice_get (map job_after_copy jobs) now.ticket ≡ Some now
  can_give jobs job now laid is = subst (λ (n : CopyJob A). slice_get (map job_after_copy jobs) n.ticket ≡ Some n) (sym is) (slice_get-map job_after_copy jobs job.ticket ∙ ap (option_map job_after_copy) laid)

  from_push : (n : ℕ) (xs : List (CopyJob A)) (job : CopyJob A) → ((t : ℕ) (k : CopyJob A) → slice_get xs t ≡ Some k → k.ticket ≡ n + t) → job.ticket ≡ n + length xs
      → (t : ℕ) (k : CopyJob A) → slice_get (xs ++ job ∷ []) t ≡ Some k → k.ticket ≡ n + t
  from_push n [] job h e zero k at = let is : job ≡ k = cc in omega (arith, ap (λ (j : CopyJob A). j.ticket) is)
  from_push n [] job h e (suc t) k at = absurd (cc)
  from_push n (x ∷ xs) job h e zero k at = h zero k at
  from_push n (x ∷ xs) job h e (suc t) k at = omega (arith, from_push (suc n) xs job (λ u i q. let a = h (suc u) i q in omega arith) (omega arith) t k at)

  -- one more job of the next ticket
  pub in_order_push : (xs : List (CopyJob A)) (job : CopyJob A) → InTicketOrder xs → job.ticket ≡ length xs → InTicketOrder (xs ++ job ∷ [])
  in_order_push xs job h e t k at = let a = from_push 0 xs job (λ u i q. let b = h u i q in omega arith) (omega arith) t k at in omega arith
