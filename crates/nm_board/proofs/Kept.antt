-- What holds of a board after a change of its words, its slots and one hand.
use Rattle.std.proofs.Common.{◌≡◌, ℕ, zero, suc, ◌+◌, ◌^◌, ◌<◌, ◌≤◌, ◌≢◌, ⊎_elim, Bool, true, false, List, [], ◌∷◌, ◌++◌, length, set, sym, refl, ap, ◌∙◌, subst, arith, length-append, min, Option, Some, if◌then◌else◌}
use native.Mathlib.Decide.{ℕ_discrete}
use mathlib.Core.Option.{some, some-injective, some-ne-none}
use mathlib.Core.Option as Opt
use Rattle.std.proofs.lemmas.List.{length-set}
use lib.ListN.{get_elem?}
use Rattle.atomic_table.proofs.Lists.{at_set, set_else, set_again}
use Rattle.nm_frames.specs.declared.job.CopyJob.{CopyJob}
use Rattle.nm_frames.specs.Job.{job_after_copy}
use Rattle.nm_board.specs.declared.view.View.{View}
use Rattle.nm_board.specs.Tickets.{ticket_times, once_below}
use Rattle.nm_board.specs.Rule.{words_of, sum_over_hands, past_shares, IsHand, RuleHolds, spent_view}
use Rattle.nm_board.specs.Steps.{both}
use Rattle.nm_board.proofs.Sums.{total_set, total_has, total_le, total_whole}
use Rattle.nm_board.proofs.Counts.{times_append, once_le, hit_other, once_next, lt_get, once_lt, not_once, min_stays, past_le, within_more, back_set, or_case}

module _ {A : Type 0} where
  -- after a hand's change, each hand is still one
  pub hands_set : (jobs : List (CopyJob A)) (next given next' given' : ℕ) (vs : List (View A)) (i : ℕ) (w : View A)
      → ((k : ℕ) (v : View A) → get_elem? vs k ≡ some v → IsHand jobs next given v)
      → ((v : View A) → IsHand jobs next given v → IsHand jobs next' given' v)
      → IsHand jobs next' given' w
      → (k : ℕ) (v : View A) → get_elem? (set vs i w) k ≡ some v → IsHand jobs next' given' v
  hands_set jobs next given next' given' vs i w all moves mine k v e = ⊎_elim (λ h. subst (IsHand jobs next' given') h.1 mine) (λ h. moves v (all k v h.1)) (at_set vs i k w v e)

  drawn_hand : (jobs : List (CopyJob A)) (next given : ℕ) (v : View A) → IsHand jobs next given v → next < length jobs → 0 < v.shares → v.past_end ≡ false → IsHand jobs (next + 1) given (record v { drawn = v.drawn ++ next ∷ [] })
  drawn_hand jobs next given v h lt some_share is_open = record {
    jobs_are = h.jobs_are;
    within = (λ t. let a = h.within t in omega (arith, times_append t v.drawn (next ∷ [])));
    fewer = (let a = h.fewer in omega (arith, length-append v.drawn (next ∷ [])));
    none_left = (λ p. let q = h.none_left p in omega arith);
    all_given = h.all_given;
    spent = (λ z. absurd (omega arith));
  }

  later_hand : (jobs : List (CopyJob A)) (next given : ℕ) (v : View A) → IsHand jobs next given v → IsHand jobs (next + 1) given v
  later_hand jobs next given v h = record {
    jobs_are = h.jobs_are;
    within = h.within;
    fewer = h.fewer;
    none_left = (λ p. let q = h.none_left p in omega arith);
    all_given = h.all_given;
    spent = h.spent;
  }

  -- the rule after the draw of the next ticket
  pub keeps_draw : (jobs : List (CopyJob A)) (ws : List ℕ) (homes : List (Opt.Option (Option (CopyJob A)))) (vs : List (View A)) (next given id : ℕ) (v : View A)
      → RuleHolds jobs ws homes vs next given → get_elem? vs id ≡ some v → 0 < v.shares → v.past_end ≡ false → next < length jobs
      → RuleHolds jobs (words_of (next + 1) given) (set homes next Opt.none) (set vs id (record v { drawn = v.drawn ++ next ∷ [] })) (next + 1) given
  keeps_draw jobs ws homes vs next given id v k at some_share is_open lt =
      let w : View A = record v { drawn = v.drawn ++ next ∷ [] } in
      let put = λ (f : View A → ℕ). total_set f vs id v w at in record {
        words_are = refl;
        few = k.few;
        slots = length-set homes next Opt.none ∙ k.slots;
        shares = (let a = put (λ v. v.shares) in let b = k.shares in omega arith);
        once = (λ t. let a = put (λ v. ticket_times t v.drawn) in let b = k.once t in omega (arith, times_append t v.drawn (next ∷ []), once_next t next (length jobs) lt));
        drawn = (let a = put (λ v. length v.drawn) in let b = k.drawn in omega (arith, length-append v.drawn (next ∷ [])));
        returned = (let a = put (λ v. length v.done) in let b = k.returned in omega arith);
        ahead = (let a = put past_shares in let b = k.ahead in omega arith);
        hands = hands_set jobs next given (next + 1) given vs id w k.hands (λ u h. later_hand jobs next given u h) (drawn_hand jobs next given v (k.hands id v at) lt some_share is_open);
        laid = (λ t j le e. set_else homes next t Opt.none (λ q. omega arith) ∙ k.laid t j (omega arith) e);
        back = (λ t j some_done e.
            let a = put (λ v. ticket_times t v.done) in
            let d : 0 < sum_over_hands (λ v. ticket_times t v.done) vs = omega arith in
            let below = total_le (λ v. ticket_times t v.done) (λ v. ticket_times t v.drawn) vs (λ i u h. (k.hands i u h).within t) in
            let o = k.once t in
            let ne : t ≢ next = λ q. not_once t next (length jobs) (omega arith) q lt in
            set_else homes next t Opt.none ne ∙ k.back t j d e);
      }

  past_hand : (jobs : List (CopyJob A)) (next given : ℕ) (v : View A) → IsHand jobs next given v → length jobs ≤ next → IsHand jobs (next + 1) given (record v { past_end = true })
  past_hand jobs next given v h le = record {
    jobs_are = h.jobs_are;
    within = h.within;
    fewer = h.fewer;
    none_left = (λ p. omega arith);
    all_given = h.all_given;
    spent = h.spent;
  }

  -- the rule after a draw that finds no ticket
  pub keeps_past : (jobs : List (CopyJob A)) (ws : List ℕ) (homes : List (Opt.Option (Option (CopyJob A)))) (vs : List (View A)) (next given id : ℕ) (v : View A)
      → RuleHolds jobs ws homes vs next given → get_elem? vs id ≡ some v → 0 < v.shares → v.past_end ≡ false → length jobs ≤ next
      → RuleHolds jobs (words_of (next + 1) given) homes (set vs id (record v { past_end = true })) (next + 1) given
  keeps_past jobs ws homes vs next given id v k at some_share is_open le =
      let w : View A = record v { past_end = true } in
      let put = λ (f : View A → ℕ). total_set f vs id v w at in record {
        words_are = refl;
        few = k.few;
        slots = k.slots;
        shares = (let a = put (λ v. v.shares) in let b = k.shares in omega arith);
        once = (λ t. let a = put (λ v. ticket_times t v.drawn) in let b = k.once t in omega (arith, ap (once_below t) (min_stays next (length jobs) le)));
        drawn = (let a = put (λ v. length v.drawn) in let b = k.drawn in omega arith);
        returned = (let a = put (λ v. length v.done) in let b = k.returned in omega arith);
        ahead = (let a = put past_shares in let b = k.ahead in let z : past_shares v ≡ 0 = ap (λ (b : Bool). if b then v.shares else 0) is_open in omega arith);
        hands = hands_set jobs next given (next + 1) given vs id w k.hands (λ u h. later_hand jobs next given u h) (past_hand jobs next given v (k.hands id v at) le);
        laid = (λ t j l e. k.laid t j (omega arith) e);
        back = (λ t j some_done e. let a = put (λ v. ticket_times t v.done) in k.back t j (omega arith) e);
      }

  -- the next ticket leaves room for one more
  pub next_small : (jobs : List (CopyJob A)) (ws : List ℕ) (homes : List (Opt.Option (Option (CopyJob A)))) (vs : List (View A)) (next given : ℕ) → RuleHolds jobs ws homes vs next given → next < 2 ^ 63 + 64
  next_small jobs ws homes vs next given k =
      let a = k.ahead in let b = k.few in let c = k.shares in
      omega (arith, total_le past_shares (λ v. v.shares) vs (λ i v h. past_le v.past_end v.shares))

  fewer_set : (jobs : List (CopyJob A)) (next given : ℕ) (vs : List (View A)) (id : ℕ) (w : View A) → ((i : ℕ) (u : View A) → get_elem? vs i ≡ some u → length u.done ≤ length u.drawn) → length w.done ≤ length w.drawn
      → (i : ℕ) (u : View A) → get_elem? (set vs id w) i ≡ some u → length u.done ≤ length u.drawn
  fewer_set jobs next given vs id w all mine i u e = ⊎_elim (λ h. subst (λ (x : View A). length x.done ≤ length x.drawn) h.1 mine) (λ h. all i u h.1) (at_set vs id i w u e)

  given_hand : (jobs : List (CopyJob A)) (next given t : ℕ) (v : View A) → IsHand jobs next given v → given + 1 ≤ length jobs → ticket_times t v.done < ticket_times t v.drawn → length v.done < length v.drawn
      → IsHand jobs next (given + 1) (record v { done = v.done ++ t ∷ [] })
  given_hand jobs next given t v h some_out mine more = record {
    jobs_are = h.jobs_are;
    within = (λ u. let a = h.within u in within_more u t v.done v.drawn a mine (ℕ_discrete u t));
    fewer = omega (arith, length-append v.done (t ∷ []));
    none_left = h.none_left;
    all_given = (λ f. let q = h.all_given f in absurd (omega arith));
    spent = (λ z. let q = (h.spent z).0 in absurd (omega (arith, ap length q)));
  }

  more_given : (jobs : List (CopyJob A)) (next given : ℕ) (v : View A) → IsHand jobs next given v → given + 1 ≤ length jobs → IsHand jobs next (given + 1) v
  more_given jobs next given v h some_out = record {
    jobs_are = h.jobs_are;
    within = h.within;
    fewer = h.fewer;
    none_left = h.none_left;
    all_given = (λ f. let q = h.all_given f in absurd (omega arith));
    spent = h.spent;
  }

  -- the rule after a ticket was given back
  pub keeps_give : (jobs : List (CopyJob A)) (ws : List ℕ) (homes : List (Opt.Option (Option (CopyJob A)))) (vs : List (View A)) (next given id t : ℕ) (v : View A) (j : CopyJob A)
      → RuleHolds jobs ws homes vs next given → get_elem? vs id ≡ some v → get_elem? jobs t ≡ some j → ticket_times t v.done < ticket_times t v.drawn → length v.done < length v.drawn
      → (given + 1 ≤ length jobs) × RuleHolds jobs (words_of next (given + 1)) (set homes t (some (Some (job_after_copy j)))) (set vs id (record v { done = v.done ++ t ∷ [] })) next (given + 1)
  keeps_give jobs ws homes vs next given id t v j k at job mine more =
      let w : View A = record v { done = v.done ++ t ∷ [] } in
      let put = λ (f : View A → ℕ). total_set f vs id v w at in
      let counts = put (λ v. length v.done) in
      let drawns = put (λ v. length v.drawn) in
      let fewer : sum_over_hands (λ v. length v.done) (set vs id w) ≤ sum_over_hands (λ v. length v.drawn) (set vs id w)
      = total_le (λ v. length v.done) (λ v. length v.drawn) (set vs id w) (λ i u h. fewer_set jobs next given vs id w (λ i u h. (k.hands i u h).fewer) (omega (arith, length-append v.done (t ∷ []))) i u h) in
      let some_out : given + 1 ≤ length jobs = (let a = k.returned in let b = k.drawn in omega (arith, length-append v.done (t ∷ []))) in
      let below : t < next = (let o = k.once t in omega (arith, total_has (λ v. ticket_times t v.drawn) vs id v at, once_lt t (min next (length jobs)))) in
      let there : t < length homes = (let s = k.slots in omega (arith, lt_get jobs t j job)) in (
        some_out,
        record {
          words_are = refl;
          few = k.few;
          slots = length-set homes t (some (Some (job_after_copy j))) ∙ k.slots;
          shares = (let a = put (λ v. v.shares) in let b = k.shares in omega arith);
          once = (λ u. let a = put (λ v. ticket_times u v.drawn) in let b = k.once u in omega arith);
          drawn = (let b = k.drawn in omega arith);
          returned = (let b = k.returned in omega (arith, length-append v.done (t ∷ [])));
          ahead = (let a = put past_shares in let b = k.ahead in omega arith);
          hands = hands_set jobs next given next (given + 1) vs id w k.hands (λ u h. more_given jobs next given u h some_out) (given_hand jobs next given t v (k.hands id v at) some_out mine more);
          laid = (λ u i le e. set_else homes t u (some (Some (job_after_copy j))) (λ q. omega arith) ∙ k.laid u i le e);
          back = (λ u i some_done e. back_set homes t u (some (Some (job_after_copy j))) (some (Some (job_after_copy i))) there
              (λ q. ap (λ (x : CopyJob A). some (Some (job_after_copy x))) (some-injective j i (sym job ∙ ap (get_elem? jobs) (sym q) ∙ e)))
              (λ ne. let a = put (λ v. ticket_times u v.done) in k.back u i (omega (arith, times_append u v.done (t ∷ []), hit_other u t ne)) e)
              (ℕ_discrete u t));
        },
      )

  -- counting: a hand that finds all tickets given back knows it
  full_hand : (jobs : List (CopyJob A)) (next given : ℕ) (v : View A) → IsHand jobs next given v → given ≡ length jobs → IsHand jobs next given (record v { full = true })
  full_hand jobs next given v h e = record {
    jobs_are = h.jobs_are;
    within = h.within;
    fewer = h.fewer;
    none_left = h.none_left;
    all_given = (λ _. e);
    spent = h.spent;
  }

  pub keeps_full : (jobs : List (CopyJob A)) (ws : List ℕ) (homes : List (Opt.Option (Option (CopyJob A)))) (vs : List (View A)) (next given id : ℕ) (v : View A)
      → RuleHolds jobs ws homes vs next given → get_elem? vs id ≡ some v → given ≡ length jobs
      → RuleHolds jobs (words_of next given) homes (set vs id (record v { full = true })) next given
  keeps_full jobs ws homes vs next given id v k at e =
      let w : View A = record v { full = true } in
      let put = λ (f : View A → ℕ). total_set f vs id v w at in record {
        words_are = refl;
        few = k.few;
        slots = k.slots;
        shares = (let a = put (λ v. v.shares) in let b = k.shares in omega arith);
        once = (λ u. let a = put (λ v. ticket_times u v.drawn) in let b = k.once u in omega arith);
        drawn = (let a = put (λ v. length v.drawn) in let b = k.drawn in omega arith);
        returned = (let a = put (λ v. length v.done) in let b = k.returned in omega arith);
        ahead = (let a = put past_shares in let b = k.ahead in omega arith);
        hands = hands_set jobs next given next given vs id w k.hands (λ u h. h) (full_hand jobs next given v (k.hands id v at) e);
        laid = k.laid;
        back = (λ t j some_done e. let a = put (λ v. ticket_times t v.done) in k.back t j (omega arith) e);
      }

  pub keeps_same : (jobs : List (CopyJob A)) (ws : List ℕ) (homes : List (Opt.Option (Option (CopyJob A)))) (vs : List (View A)) (next given id : ℕ) (v : View A)
      → RuleHolds jobs ws homes vs next given → get_elem? vs id ≡ some v → RuleHolds jobs (words_of next given) homes (set vs id v) next given
  keeps_same jobs ws homes vs next given id v k at = subst (λ c. RuleHolds jobs c homes (set vs id v) next given) k.words_are (subst (λ c. RuleHolds jobs ws homes c next given) (sym (set_again vs id v at)) k)

  h_jobs : (jobs : List (CopyJob A)) (ws : List ℕ) (homes : List (Opt.Option (Option (CopyJob A)))) (vs : List (View A)) (next given id : ℕ) (v : View A)
      → RuleHolds jobs ws homes vs next given → get_elem? vs id ≡ some v → v.shares ≡ 64 → v.jobs ≡ jobs
  h_jobs jobs ws homes vs next given id v k at all = (k.hands id v at).jobs_are (omega arith)

  pub each : (jobs : List (CopyJob A)) (ws : List ℕ) (homes : List (Opt.Option (Option (CopyJob A)))) (vs : List (View A)) (next given id : ℕ) (v : View A)
      → RuleHolds jobs ws homes vs next given → get_elem? vs id ≡ some v → v.shares ≡ 64 → v.past_end ≡ true → (t : ℕ) → ticket_times t v.drawn ≡ once_below t (length v.jobs)
  each jobs ws homes vs next given id v k at all past t =
      let h = k.hands id v at in
      let js = h_jobs jobs ws homes vs next given id v k at all in
      let b = total_whole (λ v. v.shares) (λ v. ticket_times t v.drawn) vs id v at (k.shares ∙ sym all) (λ i u e z. ap (ticket_times t) ((k.hands i u e).spent z).0) in
      let p = h.none_left past in
      let n : min next (length jobs) ≡ length v.jobs = omega (arith, ap length js) in
      sym b ∙ (k.once t ∙ ap (once_below t) n)

  -- no hand drew a ticket twice
  pub twice : (jobs : List (CopyJob A)) (ws : List ℕ) (homes : List (Opt.Option (Option (CopyJob A)))) (vs : List (View A)) (next given id : ℕ) (v : View A)
      → RuleHolds jobs ws homes vs next given → get_elem? vs id ≡ some v → (t : ℕ) → ticket_times t v.drawn ≤ 1
  twice jobs ws homes vs next given id v k at t = omega (arith, total_has (λ v. ticket_times t v.drawn) vs id v at, k.once t, once_le t (min next (length jobs)))

  pub whole : (jobs : List (CopyJob A)) (ws : List ℕ) (homes : List (Opt.Option (Option (CopyJob A)))) (vs : List (View A)) (next given id : ℕ) (v : View A)
      → RuleHolds jobs ws homes vs next given → get_elem? vs id ≡ some v → v.shares ≡ 64 → v.past_end ≡ true → length v.done ≡ length v.drawn → given ≡ length v.jobs
  whole jobs ws homes vs next given id v k at all past same =
      let js = h_jobs jobs ws homes vs next given id v k at all in
      let h = k.hands id v at in
      let a = total_whole (λ v. v.shares) (λ v. length v.done) vs id v at (k.shares ∙ sym all) (λ i u e z. ap length ((k.hands i u e).spent z).1) in
      let b = total_whole (λ v. v.shares) (λ v. length v.drawn) vs id v at (k.shares ∙ sym all) (λ i u e z. ap length ((k.hands i u e).spent z).0) in
      let c = k.returned in let d = k.drawn in let p = h.none_left past in
      omega (arith, ap length js)

  pub both_hand : (jobs : List (CopyJob A)) (next given : ℕ) (v w : View A) → IsHand jobs next given v → IsHand jobs next given w → 0 < v.shares → IsHand jobs next given (both v w)
  both_hand jobs next given v w h g pos = record {
    jobs_are = (λ _. h.jobs_are pos);
    within = (λ t. let a = h.within t in let b = g.within t in omega (arith, times_append t v.done w.done, times_append t v.drawn w.drawn));
    fewer = (let a = h.fewer in let b = g.fewer in omega (arith, length-append v.done w.done, length-append v.drawn w.drawn));
    none_left = or_case v.past_end w.past_end (length jobs ≤ next) h.none_left g.none_left;
    all_given = h.all_given;
    spent = (λ z. absurd (omega arith));
  }

  pub spent_is : (jobs : List (CopyJob A)) (next given : ℕ) → IsHand jobs next given spent_view
  spent_is jobs next given = record {
    jobs_are = (λ z. absurd (omega arith));
    within = (λ t. omega arith);
    fewer = omega arith;
    none_left = (λ f. absurd (cc));
    all_given = (λ f. absurd (cc));
    spent = (λ z. (refl, refl));
  }

  pub first_is : (w : View A) (i : ℕ) (v : View A) → get_elem? (w ∷ []) i ≡ some v → w ≡ v
  first_is w zero v e = some-injective w v e
  first_is w (suc i) v e = absurd (some-ne-none v (sym e))
