-- If as many tickets were given back as there are, each of them was.
use Rattle.std.proofs.Common.{◌≡◌, ℕ, zero, suc, ◌+◌, ◌-◌, ◌<◌, ◌≤◌, List, [], ◌∷◌, length, sym, refl, ap, ◌∙◌, arith, min, true, Option, Some}
use mathlib.Core.Option.{some, some-injective, some-ne-none}
use mathlib.Core.Option as Opt
use lib.ListN.{get_elem?}
use native.Mathlib.Decide.{ℕ_discrete}
use Rattle.std.proofs.Math.Decide.{dec_lt}
use Rattle.atomic_table.specs.Table.{Final, Seen}
use Rattle.nm_frames.specs.declared.job.CopyJob.{CopyJob}
use Rattle.nm_frames.specs.Job.{job_after_copy}
use Rattle.nm_board.specs.declared.view.View.{View}
use Rattle.nm_board.specs.Tickets.{hit, ticket_times}
use Rattle.nm_board.specs.Rule.{sum_over_hands, RuleHolds, IsBoardRule}
use Rattle.nm_board.proofs.Sums.{total_le}
use Rattle.nm_board.proofs.Counts.{hit_same, hit_other, lt_get, once_lt, once_le}

abbrev sum_to : (ℕ → ℕ) → ℕ → ℕ
sum_to f zero = 0
sum_to f (suc n) = f n + sum_to f n

sum_zero : (f : ℕ → ℕ) (n : ℕ) → ((t : ℕ) → f t ≡ 0) → sum_to f n ≡ 0
sum_zero f zero h = refl
sum_zero f (suc n) h = omega (arith, h n, sum_zero f n h)

sum_add : (f g h : ℕ → ℕ) (n : ℕ) → ((t : ℕ) → h t ≡ f t + g t) → sum_to h n ≡ sum_to f n + sum_to g n
sum_add f g h zero e = refl
sum_add f g h (suc n) e = omega (arith, e n, sum_add f g h n e)

sum_above : (x n : ℕ) → n ≤ x → sum_to (λ t. hit t x) n ≡ 0
sum_above x zero h = refl
sum_above x (suc n) h = omega (arith, hit_other n x (λ e. omega arith), sum_above x n (omega arith))

hit_step : (x n s : ℕ) → x < suc n → (x < n → s ≡ 1) → (n ≤ x → s ≡ 0) → Dec (x < n) → hit n x + s ≡ 1
hit_step x n s h lt ge (yes d) = omega (arith, hit_other n x (λ e. omega arith), lt d)
hit_step x n s h lt ge (no d) = let e : x ≡ n = omega arith in omega (arith, ap (λ (k : ℕ). hit k x) (sym e), hit_same x, ge (omega arith))

sum_hit : (x n : ℕ) → x < n → sum_to (λ t. hit t x) n ≡ 1
sum_hit x zero h = absurd (omega arith)
sum_hit x (suc n) h = hit_step x n (sum_to (λ t. hit t x) n) h (sum_hit x n) (sum_above x n) (dec_lt x n)

-- a list of tickets below n is as long as the counts of them together
length_sum : (n : ℕ) (xs : List ℕ) → ((t : ℕ) → 0 < ticket_times t xs → t < n) → length xs ≡ sum_to (λ t. ticket_times t xs) n
length_sum n [] h = sym (sum_zero (λ t. 0) n (λ t. refl))
length_sum n (x ∷ xs) h = omega (arith, hit_same x, sum_hit x n (h x (omega (arith, hit_same x))), length_sum n xs (λ t p. h t (omega arith)), sum_add (λ t. hit t x) (λ t. ticket_times t xs) (λ t. hit t x + ticket_times t xs) n (λ t. refl))

sum_below : (f : ℕ → ℕ) (n : ℕ) → ((t : ℕ) → f t ≤ 1) → sum_to f n ≤ n
sum_below f zero h = omega arith
sum_below f (suc n) h = omega (arith, h n, sum_below f n h)

sum_full : (f : ℕ → ℕ) (n : ℕ) → ((t : ℕ) → f t ≤ 1) → sum_to f n ≡ n → (t : ℕ) → t < n → Dec (t ≡ n - 1) → f t ≡ 1
sum_full f zero h e t lt d = absurd (omega arith)
sum_full f (suc n) h e t lt (yes is) = let k : t ≡ n = omega arith in omega (arith, h n, sum_below f n h, ap f k)
sum_full f (suc n) h e t lt (no is) = sum_full f n h (omega (arith, h n, sum_below f n h)) t (omega arith) (ℕ_discrete t (n - 1))

module _ {A : Type 0} where
  total_sum : (n : ℕ) (vs : List (View A)) → ((t : ℕ) → 0 < sum_over_hands (λ v. ticket_times t v.done) vs → t < n) → sum_over_hands (λ v. length v.done) vs ≡ sum_to (λ t. sum_over_hands (λ v. ticket_times t v.done) vs) n
  total_sum n [] h = sym (sum_zero (λ t. 0) n (λ t. refl))
  total_sum n (v ∷ vs) h = omega (arith, length_sum n v.done (λ t p. h t (omega arith)), total_sum n vs (λ t p. h t (omega arith)), sum_add (λ t. ticket_times t v.done) (λ t. sum_over_hands (λ v. ticket_times t v.done) vs) (λ t. ticket_times t v.done + sum_over_hands (λ v. ticket_times t v.done) vs) n (λ t. refl))

  pub all_given : (jobs : List (CopyJob A)) (ws : List ℕ) (homes : List (Opt.Option (Option (CopyJob A)))) (vs : List (View A)) (next given : ℕ) → RuleHolds jobs ws homes vs next given → given ≡ length jobs
      → (t : ℕ) → t < length jobs → 0 < sum_over_hands (λ v. ticket_times t v.done) vs
  all_given jobs ws homes vs next given k e t lt =
      let within = λ (u : ℕ). total_le (λ v. ticket_times u v.done) (λ v. ticket_times u v.drawn) vs (λ i v h. (k.hands i v h).within u) in
      let one : (u : ℕ) → sum_over_hands (λ v. ticket_times u v.done) vs ≤ 1 = (λ u. let a = within u in let b = k.once u in omega (arith, once_le u (min next (length jobs)))) in
      let below : (u : ℕ) → 0 < sum_over_hands (λ v. ticket_times u v.done) vs → u < length jobs = (λ u p. let a = within u in let b = k.once u in omega (arith, once_lt u (min next (length jobs)))) in
      let sum = total_sum (length jobs) vs below in
      let full = sum_full (λ u. sum_over_hands (λ v. ticket_times u v.done) vs) (length jobs) one (sym sum ∙ (k.returned ∙ e)) t lt (ℕ_discrete t (length jobs - 1)) in
      omega arith

  -- at the end each slot has its job's copy
  pub closed : (jobs : List (CopyJob A)) (id : ℕ) (v : View A) (ws : List ℕ) (xs : List (Option (CopyJob A))) → v.full ≡ true → Final (Seen (IsBoardRule jobs) id v) ws xs
      → (t : ℕ) (j : CopyJob A) → get_elem? jobs t ≡ some j → get_elem? xs t ≡ some (Some (job_after_copy j))
  closed jobs id v ws xs full f t j at =
      let held = f.1.0 in
      let k = held.2 in
      let e = (k.hands id v f.1.1).all_given full in
      f.4 t (Some (job_after_copy j)) (k.back t j (all_given jobs f.0.words f.0.homes f.0.views held.0 held.1 k e t (lt_get jobs t j at)) at)
