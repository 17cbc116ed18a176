-- Each kind of step keeps the rule.
use Rattle.std.proofs.Common.{◌≡◌, ℕ, ◌+◌, ◌%◌, ◌^◌, ◌<◌, ◌≤◌, ⊎_elim, true, false, List, [], ◌∷◌, ◌++◌, length, map, set, sym, refl, ap, ◌∙◌, subst, arith, length-append, min, Option, Some, slice_set, slice_index}
use Rattle.std.proofs.Math.Decide.{dec_lt}
use native.Mathlib.Decide.{ℕ_discrete}
use mathlib.Core.Option.{some, some-injective, some-ne-none}
use mathlib.Core.Option as Opt
use Rattle.std.proofs.lemmas.List.{length-map}
use lib.ListN.{get_elem?}
use Rattle.atomic_table.specs.Table.{Act, takes, gives, keeps, step, Allows, Splits, Joins, Valid, homes_after, carried_after, opening}
use Rattle.atomic_table.proofs.Lists.{set_here, set_else, at_snoc, at_map}
use Rattle.nm_frames.specs.declared.job.CopyJob.{CopyJob}
use Rattle.nm_frames.specs.Job.{job_after_copy}
use Rattle.nm_board.specs.declared.view.View.{View}
use Rattle.nm_board.specs.Tickets.{ticket_times}
use Rattle.nm_board.specs.Rule.{words_of, past_shares, IsHand, RuleHolds, IsBoardRule, first_view, spent_view}
use Rattle.nm_board.specs.Steps.{Mine, Draws, GivesBack, Counts, LooksAtBoard, less, part, both}
use Rattle.nm_board.proofs.Kept.{hands_set, keeps_draw, keeps_past, next_small, keeps_give, keeps_full, keeps_same, each, twice, whole, both_hand, spent_is, first_is}
use Rattle.nm_board.proofs.Sums.{total_set, total_snoc, total_has, total_le}
use Rattle.nm_board.proofs.Counts.{times_append, step_is, get_lt, lt_get, once_lt, past_split, past_join, once_zero}

module _ {A : Type 0} where
  -- what a step must show that makes the words these: a new view and an act that keep the rule, and what the hand
  -- learns from it
  abbrev Goes : List (CopyJob A) → List (Opt.Option (Option (CopyJob A))) → List (View A) → ℕ → List (ℕ × Option (CopyJob A)) → List ℕ → (Mine A → Type 0) → Type 0
  Goes jobs homes views id carried words told =
      (w : View A) × (a : Act (Option (CopyJob A))) × Valid homes carried a
      × IsBoardRule jobs (record { words = words; homes = homes_after homes carried a; views = set views id w }) × told (w, carried_after carried a)

  draws_here : (jobs : List (CopyJob A)) (slots id : ℕ) (m : Mine A) (ws : List ℕ) (homes : List (Opt.Option (Option (CopyJob A)))) (views : List (View A)) (next given : ℕ)
      → RuleHolds jobs ws homes views next given → 0 < m.0.shares → m.0.past_end ≡ false → get_elem? views id ≡ some m.0 → Dec (next < length jobs)
      → Goes jobs homes views id m.1 (words_of ((next + 1) % 2 ^ 64) given) (Draws (step slots 0 1 0 Opt.none) m next)
  draws_here jobs slots id m ws homes views next given k some_share is_open at (yes lt) =
      let found = get_lt jobs next lt in
      let mine = (k.hands id m.0 at).jobs_are some_share in
      let small = step_is next (next_small jobs ws homes views next given k) in
      let kept = keeps_draw jobs ws homes views next given id m.0 k at some_share is_open lt in (
        record m.0 { drawn = m.0.drawn ++ next ∷ [] },
        takes next (Some found.0),
        k.laid next found.0 (omega arith) found.1,
        (next + 1, given, rw small kept),
        record {
          below = (λ h. record {
            job = found.0;
            laid = rw mine found.1;
            now = refl;
            above = (λ t d. omega (arith, total_has (λ v. ticket_times t v.drawn) views id m.0 at, k.once t, once_lt t (min next (length jobs))));
          });
          past = (λ h. absurd (omega (arith, ap length mine)));
        },
      )
  draws_here jobs slots id m ws homes views next given k some_share is_open at (no ge) =
      let mine = (k.hands id m.0 at).jobs_are some_share in
      let small = step_is next (next_small jobs ws homes views next given k) in
      let w : View A = record m.0 { past_end = true } in
      let kept = keeps_past jobs ws homes views next given id m.0 k at some_share is_open (omega arith) in (
        w,
        keeps,
        tt,
        (next + 1, given, rw small kept),
        record {
          below = (λ h. absurd (ge (omega (arith, ap length mine))));
          past = (λ h. record {
            now = refl;
            each = each jobs (words_of (next + 1) given) homes (set views id w) (next + 1) given id w kept (set_here views id w (lt_get views id m.0 at));
          });
        },
      )

  pub draws : (jobs : List (CopyJob A)) (slots id : ℕ) (m : Mine A) → 0 < m.0.shares → m.0.past_end ≡ false → Allows (IsBoardRule jobs) slots id m 0 (λ n. (n + 1) % 2 ^ 64) (Draws (step slots 0 1 0 Opt.none) m)
  draws jobs slots id m some_share is_open s held len at bound =
      let P : List ℕ → Type 0 = λ c. Goes jobs s.homes s.views id m.1 (slice_set c 0 ((slice_index c 0 + 1) % 2 ^ 64)) (Draws (step slots 0 1 0 Opt.none) m (slice_index c 0)) in
      subst P (sym held.2.words_are) (draws_here jobs slots id m s.words s.homes s.views held.0 held.1 held.2 some_share is_open at (dec_lt held.0 (length jobs)))

  gives_here : (jobs : List (CopyJob A)) (slots id t : ℕ) (v : View A) (j : CopyJob A) (tail : List (ℕ × Option (CopyJob A))) (ws : List ℕ) (homes : List (Opt.Option (Option (CopyJob A))))
      (views : List (View A)) (next given : ℕ)
      → RuleHolds jobs ws homes views next given → get_elem? jobs t ≡ some j → ticket_times t v.done < ticket_times t v.drawn → length v.done < length v.drawn → get_elem? views id ≡ some v
      → Goes jobs homes views id ((t, Some (job_after_copy j)) ∷ tail) (words_of next ((given + 1) % 2 ^ 64)) (GivesBack (step slots 8 1 0 Opt.none) (v, (t, Some (job_after_copy j)) ∷ tail) given)
  gives_here jobs slots id t v j tail ws homes views next given k job mine more at =
      let kept = keeps_give jobs ws homes views next given id t v j k at job mine more in
      let small = step_is given (let a = kept.0 in let b = k.few in omega arith) in (
        record v { done = v.done ++ t ∷ [] },
        gives,
        tt,
        (next, given + 1, rw small kept.1),
        refl,
      )

  pub gives_back : (jobs : List (CopyJob A)) (slots id t : ℕ) (v : View A) (j : CopyJob A) (tail : List (ℕ × Option (CopyJob A)))
      → get_elem? jobs t ≡ some j → ticket_times t v.done < ticket_times t v.drawn → length v.done < length v.drawn
      → Allows (IsBoardRule jobs) slots id (v, (t, Some (job_after_copy j)) ∷ tail) 8 (λ n. (n + 1) % 2 ^ 64) (GivesBack (step slots 8 1 0 Opt.none) (v, (t, Some (job_after_copy j)) ∷ tail))
  gives_back jobs slots id t v j tail job mine more s held len at bound =
      let P : List ℕ → Type 0 = λ c. Goes jobs s.homes s.views id ((t, Some (job_after_copy j)) ∷ tail) (slice_set c 8 ((slice_index c 8 + 1) % 2 ^ 64))
      (GivesBack (step slots 8 1 0 Opt.none) (v, (t, Some (job_after_copy j)) ∷ tail) (slice_index c 8)) in
      subst P (sym held.2.words_are) (gives_here jobs slots id t v j tail s.words s.homes s.views held.0 held.1 held.2 job mine more at)

  -- a hand's own tickets are among those that were given back, which are no more than there are jobs
  own_among : (jobs : List (CopyJob A)) (ws : List ℕ) (homes : List (Opt.Option (Option (CopyJob A)))) (views : List (View A)) (next given id : ℕ) (v : View A)
      → RuleHolds jobs ws homes views next given → get_elem? views id ≡ some v → length v.done ≤ given
  own_among jobs ws homes views next given id v k at = let back = k.returned in omega (arith, total_has (λ v. length v.done) views id v at)

  given_few : (jobs : List (CopyJob A)) (ws : List ℕ) (homes : List (Opt.Option (Option (CopyJob A)))) (views : List (View A)) (next given : ℕ) (own : List (CopyJob A))
      → RuleHolds jobs ws homes views next given → own ≡ jobs → given ≤ length own
  given_few jobs ws homes views next given own k is =
      let back = k.returned in
      let drawn = k.drawn in
      omega (arith, ap length is, total_le (λ v. length v.done) (λ v. length v.drawn) views (λ i u h. (k.hands i u h).fewer))

  counts_here : (jobs : List (CopyJob A)) (slots id : ℕ) (m : Mine A) (ws : List ℕ) (homes : List (Opt.Option (Option (CopyJob A)))) (views : List (View A)) (next given : ℕ)
      → RuleHolds jobs ws homes views next given → 0 < m.0.shares → get_elem? views id ≡ some m.0 → Dec (given ≡ length m.0.jobs)
      → Goes jobs homes views id m.1 (words_of next given) (Counts (step slots 8 0 0 Opt.none) m given)
  counts_here jobs slots id m ws homes views next given k some_share at (yes e) = (
    record m.0 { full = true },
    keeps,
    tt,
    (next, given, keeps_full jobs ws homes views next given id m.0 k at (e ∙ ap length ((k.hands id m.0 at).jobs_are some_share))),
    record { all = (λ _. refl); some_out = (λ ne. absurd (ne e)); whole = whole jobs ws homes views next given id m.0 k at; own = own_among jobs ws homes views next given id m.0 k at; few = given_few jobs ws homes views next given m.0.jobs k ((k.hands id m.0 at).jobs_are some_share) },
  )
  counts_here jobs slots id m ws homes views next given k some_share at (no ne) = (
    m.0,
    keeps,
    tt,
    (next, given, keeps_same jobs ws homes views next given id m.0 k at),
    record { all = (λ e. absurd (ne e)); some_out = (λ _. refl); whole = whole jobs ws homes views next given id m.0 k at; own = own_among jobs ws homes views next given id m.0 k at; few = given_few jobs ws homes views next given m.0.jobs k ((k.hands id m.0 at).jobs_are some_share) },
  )

  pub counts : (jobs : List (CopyJob A)) (slots id : ℕ) (m : Mine A) → 0 < m.0.shares → Allows (IsBoardRule jobs) slots id m 8 (λ n. n) (Counts (step slots 8 0 0 Opt.none) m)
  counts jobs slots id m some_share s held len at bound =
      let P : List ℕ → Type 0 = λ c. Goes jobs s.homes s.views id m.1 (slice_set c 8 (slice_index c 8)) (Counts (step slots 8 0 0 Opt.none) m (slice_index c 8)) in
      subst P (sym held.2.words_are) (counts_here jobs slots id m s.words s.homes s.views held.0 held.1 held.2 some_share at (ℕ_discrete held.1 (length m.0.jobs)))

  looks_here : (jobs : List (CopyJob A)) (slots id : ℕ) (m : Mine A) (ws : List ℕ) (homes : List (Opt.Option (Option (CopyJob A)))) (views : List (View A)) (next given : ℕ)
      → RuleHolds jobs ws homes views next given → get_elem? views id ≡ some m.0
      → Goes jobs homes views id m.1 (words_of next given) (LooksAtBoard (step slots 8 0 0 Opt.none) m given)
  looks_here jobs slots id m ws homes views next given k at = (
    m.0,
    keeps,
    tt,
    (next, given, keeps_same jobs ws homes views next given id m.0 k at),
    record {
      same = refl;
      at_most = (let s = k.shares in omega (arith, total_has (λ v. v.shares) views id m.0 at));
      once = twice jobs ws homes views next given id m.0 k at;
      each = each jobs ws homes views next given id m.0 k at;
    },
  )

  pub looks : (jobs : List (CopyJob A)) (slots id : ℕ) (m : Mine A) → Allows (IsBoardRule jobs) slots id m 8 (λ n. n) (LooksAtBoard (step slots 8 0 0 Opt.none) m)
  looks jobs slots id m s held len at bound =
      let P : List ℕ → Type 0 = λ c. Goes jobs s.homes s.views id m.1 (slice_set c 8 (slice_index c 8)) (LooksAtBoard (step slots 8 0 0 Opt.none) m (slice_index c 8)) in
      subst P (sym held.2.words_are) (looks_here jobs slots id m s.words s.homes s.views held.0 held.1 held.2 at)

  pub splits : (jobs : List (CopyJob A)) (n id : ℕ) (v : View A) → 0 < n → n < v.shares → Splits (IsBoardRule jobs) id v (less n v) (part n v)
  splits jobs n id v pos lt s held at =
      let k = held.2 in let h = k.hands id v at in
      let w : View A = less n v in let u : View A = part n v in
      let put = λ (f : View A → ℕ). total_set f s.views id v w at in
      let more = λ (f : View A → ℕ). total_snoc f (set s.views id w) u in (
        held.0,
        held.1,
        record {
          words_are = k.words_are;
          few = k.few;
          slots = k.slots;
          shares = (let a = put (λ v. v.shares) in let c = more (λ v. v.shares) in let b = k.shares in omega arith);
          once = (λ t. let a = put (λ v. ticket_times t v.drawn) in let c = more (λ v. ticket_times t v.drawn) in let b = k.once t in omega arith);
          drawn = (let a = put (λ v. length v.drawn) in let c = more (λ v. length v.drawn) in let b = k.drawn in omega arith);
          returned = (let a = put (λ v. length v.done) in let c = more (λ v. length v.done) in let b = k.returned in omega arith);
          ahead = (let a = put past_shares in let c = more past_shares in let b = k.ahead in omega (arith, past_split v.past_end v.shares n lt));
          hands = (λ i x e. ⊎_elim
              (λ g. hands_set jobs held.0 held.1 held.0 held.1 s.views id w k.hands (λ y z. z) (record {
                jobs_are = (λ _. h.jobs_are (omega arith));
                within = h.within;
                fewer = h.fewer;
                none_left = h.none_left;
                all_given = h.all_given;
                spent = (λ z. absurd (omega arith));
              }) i x g)
              (λ g. subst (IsHand jobs held.0 held.1) g (record {
                jobs_are = (λ _. h.jobs_are (omega arith));
                within = (λ t. omega arith);
                fewer = omega arith;
                none_left = h.none_left;
                all_given = (λ f. absurd (cc));
                spent = (λ z. (refl, refl));
              }))
              (at_snoc (set s.views id w) u x i e));
          laid = k.laid;
          back = (λ t j some_done e. let a = put (λ v. ticket_times t v.done) in let c = more (λ v. ticket_times t v.done) in k.back t j (omega arith) e);
        },
      )

  pub joins : (jobs : List (CopyJob A)) (id other : ℕ) (v w : View A) → 0 < v.shares → Joins (IsBoardRule jobs) id v other w (both v w) spent_view
  joins jobs id other v w pos s held at apart there =
      let k = held.2 in
      let b : View A = both v w in
      let vs : List (View A) = set s.views id b in
      let old : get_elem? s.views other ≡ some w = sym (set_else s.views id other b apart) ∙ there in
      let put = λ (f : View A → ℕ). total_set f s.views id v b at in
      let out = λ (f : View A → ℕ). total_set f vs other w spent_view there in
      let mine = both_hand jobs held.0 held.1 v w (k.hands id v at) (k.hands other w old) pos in (
        held.0,
        held.1,
        record {
          words_are = k.words_are;
          few = k.few;
          slots = k.slots;
          shares = (let a = put (λ v. v.shares) in let c = out (λ v. v.shares) in let d = k.shares in omega arith);
          once = (λ t. let a = put (λ v. ticket_times t v.drawn) in let c = out (λ v. ticket_times t v.drawn) in let d = k.once t in omega (arith, times_append t v.drawn w.drawn));
          drawn = (let a = put (λ v. length v.drawn) in let c = out (λ v. length v.drawn) in let d = k.drawn in omega (arith, length-append v.drawn w.drawn));
          returned = (let a = put (λ v. length v.done) in let c = out (λ v. length v.done) in let d = k.returned in omega (arith, length-append v.done w.done));
          ahead = (let a = put past_shares in let c = out past_shares in let d = k.ahead in omega (arith, past_join v.past_end w.past_end v.shares w.shares));
          hands = hands_set jobs held.0 held.1 held.0 held.1 vs other spent_view
              (hands_set jobs held.0 held.1 held.0 held.1 s.views id b k.hands (λ y z. z) mine)
              (λ y z. z) (spent_is jobs held.0 held.1);
          laid = k.laid;
          back = (λ t j some_done e. let a = put (λ v. ticket_times t v.done) in let c = out (λ v. ticket_times t v.done) in k.back t j (omega (arith, times_append t v.done w.done)) e);
        },
      )

  pub opens : (jobs : List (CopyJob A)) (slots : List (Option (CopyJob A))) → slots ≡ map Some jobs → length jobs < 2 ^ 63 → IsBoardRule jobs (opening (words_of 0 0) slots (first_view jobs))
  opens jobs slots is small = subst (λ (z : List (Option (CopyJob A))). IsBoardRule jobs (opening (words_of 0 0) z (first_view jobs))) (sym is) (
    0,
    0,
    record {
      words_are = refl;
      few = small;
      slots = length-map (map Some jobs) some ∙ length-map jobs Some;
      shares = refl;
      once = (λ t. sym (once_zero t (length jobs)));
      drawn = omega arith;
      returned = refl;
      ahead = omega arith;
      hands = (λ i v e. subst (IsHand jobs 0 0) (first_is (first_view jobs) i v e) (record {
        jobs_are = (λ _. refl);
        within = (λ t. omega arith);
        fewer = omega arith;
        none_left = (λ f. absurd (cc));
        all_given = (λ f. absurd (cc));
        spent = (λ z. (refl, refl));
      }));
      laid = (λ t j le e. at_map some (map Some jobs) t (Some j) (at_map Some jobs t j e));
      back = (λ t j some_done e. absurd (omega arith));
    },
  )
