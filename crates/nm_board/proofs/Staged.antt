-- The words and the hands of a board show the stages of its jobs.
use Rattle.std.proofs.Common.{◌≡◌, ◌≢◌, ℕ, zero, suc, ◌+◌, ◌<◌, ◌≤◌, true, List, [], ◌∷◌, ◌++◌, length, set, min, sym, refl, ap, ◌∙◌, arith, Option, slice_index, slice_set}
use mathlib.Core.Option.{some, some-injective, some-ne-none}
use lib.ListN.{get_elem?}
use native.Mathlib.Decide.{ℕ_discrete}
use Rattle.std.proofs.Math.Decide.{dec_lt}
use Rattle.std.proofs.lemmas.Bool.Decides.{nat_tests}
use Rattle.atomic_table.specs.Table.{rest}
use Rattle.atomic_table.proofs.Lists.{set_here, set_else}
use Rattle.nm_frames.specs.declared.job.CopyJob.{CopyJob}
use Rattle.nm_board.specs.declared.view.View.{View}
use Rattle.nm_board.specs.Tickets.{hit, ticket_times, once_below}
use Rattle.nm_board.specs.Rule.{sum_over_hands, IsBoardRule, spent_view}
use Rattle.nm_board.specs.Steps.{Mine, front, tickets, less, part, both}
use Rattle.nm_model.specs.definitions.RunMachine.{Stage, Laid, InHand, Given}
use Rattle.nm_board.specs.Stages.{Moment, next_of, given_of, IsAt, EachIsAtOneStage, Stays, MakesStep, DrawTakesTheFirst, LateDrawTakesNone, GiveReturnsTheLast, SplitChangesNone, JoinChangesNone}
use Rattle.nm_board.proofs.Counts.{times_append, hit_same, hit_other, lt_get, once_le, once_lt}
use Rattle.nm_board.proofs.Sums.{total_set, total_snoc, total_has, total_le}

elem_append : {X : Type 0} (l r : List X) (i : ℕ) (x : X) → get_elem? l i ≡ some x → get_elem? (l ++ r) i ≡ some x
elem_append [] r i x e = absurd (some-ne-none x (sym e))
elem_append (y ∷ ys) r zero x e = e
elem_append (y ∷ ys) r (suc i) x e = elem_append ys r i x e

once_drawn : (t next n : ℕ) → t < n → (next ≤ t → ⊥) → once_below t (min next n) ≡ 1
once_drawn t next n lt not = let a : t < min next n = omega arith in grind (arith, nat_tests)

once_laid : (t next n : ℕ) → next ≤ t → once_below t (min next n) ≡ 0
once_laid t next n le = let a : min next n ≤ t = omega arith in grind (arith, nat_tests)

module _ {A : Type 0} where
  abbrev SomeView : (View A → ℕ) → List (View A) → Type 0
  SomeView f vs = (i : ℕ) × (v : View A) × (get_elem? vs i ≡ some v) × (0 < f v)

  total_some_at : (f : View A → ℕ) (v : View A) (vs : List (View A)) → (0 < sum_over_hands f vs → SomeView f vs) → 0 < f v + sum_over_hands f vs → Dec (0 < f v) → SomeView f (v ∷ vs)
  total_some_at f v vs later h (yes p) = (zero, v, refl, p)
  total_some_at f v vs later h (no p) = let r = later (omega arith) in (suc r.0, r.1, r.2, r.3)

  -- where the sum is not 0, one view's part is not
  total_some : (f : View A → ℕ) (vs : List (View A)) → 0 < sum_over_hands f vs → SomeView f vs
  total_some f [] h = absurd (omega arith)
  total_some f (v ∷ vs) h = total_some_at f v vs (total_some f vs) h (dec_lt 0 (f v))

  -- two views' parts
  total_two : (f : View A → ℕ) (vs : List (View A)) (i j : ℕ) (v w : View A) → get_elem? vs i ≡ some v → get_elem? vs j ≡ some w → i ≢ j → f v + f w ≤ sum_over_hands f vs
  total_two f [] i j v w e g ne = absurd (some-ne-none v (sym e))
  total_two f (x ∷ xs) zero zero v w e g ne = absurd (ne refl)
  total_two f (x ∷ xs) zero (suc j) v w e g ne = let s : f x ≡ f v = ap f (some-injective x v e) in omega (arith, total_has f xs j w g)
  total_two f (x ∷ xs) (suc i) zero v w e g ne = let s : f x ≡ f w = ap f (some-injective x w g) in omega (arith, total_has f xs i v e)
  total_two f (x ∷ xs) (suc i) (suc j) v w e g ne = omega (arith, total_two f xs i j v w e g (λ q. ne (ap suc q)))

  next_is : (jobs : List (CopyJob A)) (s : Moment A) (k : IsBoardRule jobs s) → next_of s ≡ k.0
  next_is jobs s k = ap (λ (w : List ℕ). slice_index w 0) k.2.words_are

  done_drawn : (jobs : List (CopyJob A)) (s : Moment A) → IsBoardRule jobs s → (t : ℕ) → sum_over_hands (λ v. ticket_times t v.done) s.views ≤ sum_over_hands (λ v. ticket_times t v.drawn) s.views
  done_drawn jobs s k t = total_le (λ v. ticket_times t v.done) (λ v. ticket_times t v.drawn) s.views (λ i v e. (k.2.hands i v e).within t)

  drawn_once : (jobs : List (CopyJob A)) (s : Moment A) → IsBoardRule jobs s → (t : ℕ) → sum_over_hands (λ v. ticket_times t v.drawn) s.views ≤ 1
  drawn_once jobs s k t = omega (arith, k.2.once t, once_le t (min k.0 (length jobs)))

  drawn_below : (jobs : List (CopyJob A)) (s : Moment A) → IsBoardRule jobs s → (t : ℕ) → 0 < sum_over_hands (λ v. ticket_times t v.drawn) s.views → t < next_of s
  drawn_below jobs s k t h = omega (arith, k.2.once t, once_lt t (min k.0 (length jobs)), next_is jobs s k)

  drawn_all : (jobs : List (CopyJob A)) (s : Moment A) → IsBoardRule jobs s → (t : ℕ) → t < length jobs → t < next_of s → sum_over_hands (λ v. ticket_times t v.drawn) s.views ≡ 1
  drawn_all jobs s k t lt below = k.2.once t ∙ once_drawn t k.0 (length jobs) lt (λ le. omega (arith, next_is jobs s k))

  laid_only : (jobs : List (CopyJob A)) (s : Moment A) → IsBoardRule jobs s → (t : ℕ) → next_of s ≤ t → (other : Stage) → IsAt s t other → other ≡ Laid
  laid_only jobs s k t le Laid at = refl
  laid_only jobs s k t le (InHand h) at = absurd (let b = drawn_below jobs s k t (let a = at.2 in omega (arith, total_has (λ v. ticket_times t v.drawn) s.views h at.0 at.1)) in omega arith)
  laid_only jobs s k t le Given at = absurd (let b = drawn_below jobs s k t (omega (arith, done_drawn jobs s k t)) in omega arith)

  same_view : (vs : List (View A)) (i j : ℕ) (v w : View A) → get_elem? vs i ≡ some v → get_elem? vs j ≡ some w → i ≡ j → v ≡ w
  same_view vs i j v w e g is = some-injective v w (sym e ∙ (ap (get_elem? vs) is ∙ g))

  one_hand : (jobs : List (CopyJob A)) (s : Moment A) → IsBoardRule jobs s → (t i j : ℕ) (v w : View A) → get_elem? s.views i ≡ some v → get_elem? s.views j ≡ some w → 0 < ticket_times t v.drawn → 0 < ticket_times t w.drawn
      → Dec (i ≡ j) → i ≡ j
  one_hand jobs s k t i j v w e g a b (yes is) = is
  one_hand jobs s k t i j v w e g a b (no ne) = absurd (omega (arith, total_two (λ v. ticket_times t v.drawn) s.views i j v w e g ne, drawn_once jobs s k t))

  hand_only : (jobs : List (CopyJob A)) (s : Moment A) → IsBoardRule jobs s → (t h : ℕ) → IsAt s t (InHand h) → (other : Stage) → IsAt s t other → other ≡ InHand h
  hand_only jobs s k t h mine Laid at = sym (laid_only jobs s k t at (InHand h) mine)
  hand_only jobs s k t h mine (InHand g) at = ap InHand (one_hand jobs s k t g h at.0 mine.0 at.1 mine.1 at.2 mine.2 (ℕ_discrete g h))
  hand_only jobs s k t h mine Given at =
      let r = total_some (λ v. ticket_times t v.done) s.views at in
      let within = (k.2.hands r.0 r.1 r.2).within t in
      let is = one_hand jobs s k t r.0 h r.1 mine.0 r.2 mine.1 (let a = r.3 in omega arith) mine.2 (ℕ_discrete r.0 h) in
      let same = same_view s.views r.0 h r.1 mine.0 r.2 mine.1 is in
      absurd (let a = r.3 in let b = mine.3 in omega (arith, ap (λ (v : View A). ticket_times t v.done) same))

  given_only : (jobs : List (CopyJob A)) (s : Moment A) → IsBoardRule jobs s → (t : ℕ) → IsAt s t Given → (other : Stage) → IsAt s t other → other ≡ Given
  given_only jobs s k t mine Laid at = sym (laid_only jobs s k t at Given mine)
  given_only jobs s k t mine (InHand h) at = sym (hand_only jobs s k t h at Given mine)
  given_only jobs s k t mine Given at = refl

  abbrev OneStage : List (CopyJob A) → Moment A → ℕ → Type 0
  OneStage jobs s t = (stage : Stage) × IsAt s t stage × ((other : Stage) → IsAt s t other → other ≡ stage)

  drawn_stage : (jobs : List (CopyJob A)) (s : Moment A) → IsBoardRule jobs s → (t h : ℕ) (v : View A) → get_elem? s.views h ≡ some v → 0 < ticket_times t v.drawn → Dec (ticket_times t v.done ≡ 0) → OneStage jobs s t
  drawn_stage jobs s k t h v e d (yes z) = (InHand h, (v, e, d, z), hand_only jobs s k t h (v, e, d, z))
  drawn_stage jobs s k t h v e d (no nz) =
      let g : 0 < sum_over_hands (λ v. ticket_times t v.done) s.views = omega (arith, total_has (λ v. ticket_times t v.done) s.views h v e) in
      (Given, g, given_only jobs s k t g)

  stage_at : (jobs : List (CopyJob A)) (s : Moment A) → IsBoardRule jobs s → (t : ℕ) → t < length jobs → Dec (t < next_of s) → OneStage jobs s t
  stage_at jobs s k t lt (no ge) = (Laid, omega arith, laid_only jobs s k t (omega arith))
  stage_at jobs s k t lt (yes below) =
      let r = total_some (λ v. ticket_times t v.drawn) s.views (omega (arith, drawn_all jobs s k t lt below)) in
      drawn_stage jobs s k t r.0 r.1 r.2 r.3 (ℕ_discrete (ticket_times t r.1.done) 0)

  pub one_stage : EachIsAtOneStage A
  one_stage jobs s k t lt = stage_at jobs s k t lt (dec_lt t (next_of s))

  -- the words after a step
  next_after : (jobs : List (CopyJob A)) (s n : Moment A) (x : ℕ) → IsBoardRule jobs s → n.words ≡ slice_set s.words 0 x → next_of n ≡ x
  next_after jobs s n x k e = ap (λ (w : List ℕ). slice_index w 0) (e ∙ ap (λ (w : List ℕ). slice_set w 0 x) k.2.words_are)

  next_stays : (jobs : List (CopyJob A)) (s n : Moment A) (x : ℕ) → IsBoardRule jobs s → n.words ≡ slice_set s.words 8 x → next_of n ≡ next_of s
  next_stays jobs s n x k e = ap (λ (w : List ℕ). slice_index w 0) (e ∙ ap (λ (w : List ℕ). slice_set w 8 x) k.2.words_are) ∙ sym (next_is jobs s k)

  -- a hand that still has the ticket after a change of one view
  hand_stays : (old new : List (View A)) (hand g t : ℕ) (v w : View A) → get_elem? old hand ≡ some v → new ≡ set old hand w → (ticket_times t v.done ≡ 0 → 0 < ticket_times t v.drawn → (0 < ticket_times t w.drawn) × (ticket_times t w.done ≡ 0))
      → (u : View A) → get_elem? old g ≡ some u → 0 < ticket_times t u.drawn → ticket_times t u.done ≡ 0 → Dec (g ≡ hand) → (x : View A) × (get_elem? new g ≡ some x) × (0 < ticket_times t x.drawn) × (ticket_times t x.done ≡ 0)
  hand_stays old new hand g t v w e is keeps u at d z (yes same) =
      let one = same_view old g hand u v at e same in
      let r = keeps (ap (λ (x : View A). ticket_times t x.done) (sym one) ∙ z) (omega (arith, ap (λ (x : View A). ticket_times t x.drawn) one)) in
      (w, ap (get_elem? new) same ∙ (ap (λ (l : List (View A)). get_elem? l hand) is ∙ set_here old hand w (lt_get old hand v e)), r.0, r.1)
  hand_stays old new hand g t v w e is keeps u at d z (no ne) =
      (u, ap (λ (l : List (View A)). get_elem? l g) is ∙ (set_else old hand g w ne ∙ at), d, z)

  -- the sum of those that were given, after a change of one view
  given_stays : (old new : List (View A)) (hand t : ℕ) (v w : View A) → get_elem? old hand ≡ some v → new ≡ set old hand w → ticket_times t v.done ≤ ticket_times t w.done
      → sum_over_hands (λ v. ticket_times t v.done) old ≤ sum_over_hands (λ v. ticket_times t v.done) new
  given_stays old new hand t v w e is le = omega (arith, total_set (λ v. ticket_times t v.done) old hand v w e, ap (sum_over_hands (λ v. ticket_times t v.done)) is)

  jobs_of : (jobs : List (CopyJob A)) (hand word n : ℕ) (old new : Moment A) (me now : Mine A) → MakesStep jobs hand word n old new me now → length me.0.jobs ≡ length jobs
  jobs_of jobs hand word n old new me now m = ap length ((m.kept.2.hands hand me.0 m.mine).jobs_are (let a = m.fits.some_share in let b = m.fits.shares_are in omega arith))

  keeps_stage : (jobs : List (CopyJob A)) (hand : ℕ) (old new : Moment A) (v w : View A) → get_elem? old.views hand ≡ some v → new.views ≡ set old.views hand w → (u : ℕ)
      → (next_of old ≤ u → next_of new ≤ u) → (ticket_times u v.done ≡ 0 → 0 < ticket_times u v.drawn → (0 < ticket_times u w.drawn) × (ticket_times u w.done ≡ 0)) → ticket_times u v.done ≤ ticket_times u w.done
      → (stage : Stage) → IsAt old u stage → IsAt new u stage
  keeps_stage jobs hand old new v w e is u laid mine more Laid at = laid at
  keeps_stage jobs hand old new v w e is u laid mine more (InHand g) at = hand_stays old.views new.views hand g u v w e is mine at.0 at.1 at.2 at.3 (ℕ_discrete g hand)
  keeps_stage jobs hand old new v w e is u laid mine more Given at = omega (arith, given_stays old.views new.views hand u v w e is more)

  set_at : (old new : List (View A)) (hand : ℕ) (v w : View A) → get_elem? old hand ≡ some v → new ≡ set old hand w → get_elem? new hand ≡ some w
  set_at old new hand v w e is = ap (λ (l : List (View A)). get_elem? l hand) is ∙ set_here old hand w (lt_get old hand v e)

  none_before : (jobs : List (CopyJob A)) (s : Moment A) → IsBoardRule jobs s → (hand t : ℕ) (v : View A) → get_elem? s.views hand ≡ some v → next_of s ≤ t → ticket_times t v.done ≡ 0
  none_before jobs s k hand t v e le =
      let within = (k.2.hands hand v e).within t in
      let z : sum_over_hands (λ v. ticket_times t v.drawn) s.views ≡ 0 = k.2.once t ∙ once_laid t k.0 (length jobs) (omega (arith, next_is jobs s k)) in
      omega (arith, total_has (λ v. ticket_times t v.drawn) s.views hand v e)

  pub draw_takes : DrawTakesTheFirst A
  draw_takes jobs hand old new me now s m told lt =
      let t : ℕ = next_of old in
      let next = told.below (omega (arith, jobs_of jobs hand 0 (next_of old + 1) old new me now m)) in
      let w : View A = record me.0 { drawn = me.0.drawn ++ next_of old ∷ [] } in
      let views : new.views ≡ set old.views hand w = m.views ∙ ap (λ (z : Mine A). set old.views hand z.0) next.now in
      let word = next_after jobs old new (next_of old + 1) m.kept m.words in
      let none = none_before jobs old m.kept hand (next_of old) me.0 m.mine (omega arith) in (
        record {
          was = omega arith;
          is = (w, set_at old.views new.views hand me.0 w m.mine views, omega (arith, times_append (next_of old) me.0.drawn (next_of old ∷ []), hit_same (next_of old)), none);
          others = (λ u stage ne at. keeps_stage jobs hand old new me.0 w m.mine views u (λ le. omega arith)
              (λ z d. (omega (arith, times_append u me.0.drawn (next_of old ∷ [])), z)) (omega arith) stage at);
        },
        (λ u at. at),
      )

  late_stays : (jobs : List (CopyJob A)) (hand : ℕ) (old new : Moment A) (me : Mine A) (w : View A) → get_elem? old.views hand ≡ some me.0 → new.views ≡ set old.views hand w → w.drawn ≡ me.0.drawn → w.done ≡ me.0.done
      → length jobs ≤ next_of old → Stays jobs old new
  late_stays jobs hand old new me w e is drawn done le t Laid lt at = absurd (omega arith)
  late_stays jobs hand old new me w e is drawn done le t (InHand g) lt at =
      hand_stays old.views new.views hand g t me.0 w e is (λ z d. (omega (arith, ap (ticket_times t) drawn), ap (ticket_times t) done ∙ z)) at.0 at.1 at.2 at.3 (ℕ_discrete g hand)
  late_stays jobs hand old new me w e is drawn done le t Given lt at = omega (arith, given_stays old.views new.views hand t me.0 w e is (omega (arith, ap (ticket_times t) done)))

  pub late_takes : LateDrawTakesNone A
  late_takes jobs hand old new me now s m told le =
      let none = told.past (omega (arith, jobs_of jobs hand 0 (next_of old + 1) old new me now m)) in
      late_stays jobs hand old new me (record me.0 { past_end = true }) m.mine (m.views ∙ ap (λ (z : Mine A). set old.views hand z.0) none.now) refl refl le

  pub give_returns : GiveReturnsTheLast A
  give_returns jobs hand t job old new me now s m told top =
      let w : View A = record me.0 { done = me.0.done ++ t ∷ [] } in
      let now_is : now.0 ≡ w = ap (λ (z : Mine A). z.0) told ∙ ap (λ (c : List (ℕ × Option (CopyJob A))). (λ (v : View A). v) (record me.0 { done = me.0.done ++ front c })) top in
      let views : new.views ≡ set old.views hand w = m.views ∙ ap (λ (z : View A). set old.views hand z) now_is in
      let word = next_stays jobs old new (given_of old + 1) m.kept m.words in
      let a = m.fits.out t in let b = m.fits.once t in let c : hit t t ≡ 1 = hit_same t in
      let d : ticket_times t (tickets me.1) ≡ hit t t + ticket_times t (tickets (rest me.1)) = ap (λ (z : List (ℕ × Option (CopyJob A))). ticket_times t (tickets z)) top in record {
        was = (me.0, m.mine, omega arith, omega arith);
        is = omega (arith, total_has (λ v. ticket_times t v.done) new.views hand w (set_at old.views new.views hand me.0 w m.mine views), times_append t me.0.done (t ∷ []));
        others = (λ u stage ne at. keeps_stage jobs hand old new me.0 w m.mine views u (λ le. omega arith)
            (λ z d. (d, omega (arith, times_append u me.0.done (t ∷ []), hit_other u t ne))) (omega (arith, times_append u me.0.done (t ∷ []))) stage at);
      }

  pub split_changes : SplitChangesNone A
  split_changes jobs hand n old new v e words views t Laid lt at = omega (arith, ap (λ (w : List ℕ). slice_index w 0) words)
  split_changes jobs hand n old new v e words views t (InHand g) lt at =
      let r = hand_stays old.views (set old.views hand (less n v)) hand g t v (less n v) e refl (λ z d. (d, z)) at.0 at.1 at.2 at.3 (ℕ_discrete g hand) in
      (r.0, ap (λ (l : List (View A)). get_elem? l g) views ∙ elem_append (set old.views hand (less n v)) (part n v ∷ []) g r.0 r.1, r.2, r.3)
  split_changes jobs hand n old new v e words views t Given lt at =
      omega (arith, ap (sum_over_hands (λ v. ticket_times t v.done)) views, total_snoc (λ v. ticket_times t v.done) (set old.views hand (less n v)) (part n v), total_set (λ v. ticket_times t v.done) old.views hand v (less n v) e)

  pub join_changes : JoinChangesNone A
  join_changes jobs hand other old new v w e o apart mine its words views t Laid lt at = omega (arith, ap (λ (w : List ℕ). slice_index w 0) words)
  join_changes jobs hand other old new v w e o apart mine its words views t (InHand g) lt at =
      let vs : List (View A) = set old.views hand (both v w) in
      let there : get_elem? vs other ≡ some w = set_else old.views hand other (both v w) apart ∙ o in
      let r = hand_stays old.views vs hand g t v (both v w) e refl (λ z d. absurd (let a = mine t in omega arith)) at.0 at.1 at.2 at.3 (ℕ_discrete g hand) in
      hand_stays vs new.views other g t w spent_view there views (λ z d. absurd (let a = its t in omega arith)) r.0 r.1 r.2 r.3 (ℕ_discrete g other)
  join_changes jobs hand other old new v w e o apart mine its words views t Given lt at =
      let vs : List (View A) = set old.views hand (both v w) in
      let there : get_elem? vs other ≡ some w = set_else old.views hand other (both v w) apart ∙ o in
      omega (arith, ap (sum_over_hands (λ v. ticket_times t v.done)) views, total_set (λ v. ticket_times t v.done) vs other w spent_view there, total_set (λ v. ticket_times t v.done) old.views hand v (both v w) e, times_append t v.done w.done)
