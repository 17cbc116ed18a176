-- What a hand's steps leave of it.
use Rattle.std.proofs.Common.{◌≡◌, ℕ, zero, suc, ◌+◌, ◌-◌, ◌%◌, ◌^◌, ◌<◌, ◌≤◌, Bool, true, false, List, [], ◌∷◌, ◌++◌, length, map, sym, refl, ap, ◌∙◌, subst, arith, length-append, Option, Some, None, ◌||◌}
use Rattle.std.specs.Prelude.{slice_get}
use native.Mathlib.Decide.{ℕ_discrete}
use mathlib.Core.Option as Opt
use mathlib.Core.Option.{some, some-injective, some-ne-none}
use lib.ListN.{get_elem?}
use Rattle.atomic_table.specs.Table.{rest, Allows, step, Step}
use Rattle.atomic_table.specs.Seated.{TableId}
use Rattle.nm_frames.specs.declared.job.CopyJob.{CopyJob}
use Rattle.nm_frames.specs.Job.{job_after_copy}
use Rattle.nm_board.specs.Tickets.{hit, ticket_times}
use Rattle.nm_board.specs.Rule.{IsBoardRule, first_view}
use Rattle.nm_board.specs.Steps.{Mine, front, tickets, DrewEach, DrawsNone, GivesBack, LooksAtBoard, less, part, both}
use Rattle.nm_board.specs.Shown.{Laying, Holding, Fits, Drew, IsShort, holding_of, with_ticket}
use Rattle.nm_board.proofs.Stepping.{gives_back}
use Rattle.nm_board.proofs.Counts.{times_append, hit_same, hit_other, get_of}

none_of : (n u t : ℕ) → (0 < n → u < t) → u ≡ t → n ≡ 0
none_of zero u t h e = refl
none_of (suc n) u t h e = absurd (let a = h (omega arith) in omega arith)

once_more : (xs : List ℕ) (t u : ℕ) → ticket_times u xs ≤ 1 → ((w : ℕ) → 0 < ticket_times w xs → w < t) → Dec (u ≡ t) → ticket_times u (xs ++ t ∷ []) ≤ 1
once_more xs t u le above (yes e) = let a = none_of (ticket_times u xs) u t (above u) e in omega (arith, times_append u xs (t ∷ []), ap (λ (x : ℕ). hit x t) e, hit_same t)
once_more xs t u le above (no ne) = omega (arith, times_append u xs (t ∷ []), hit_other u t ne)

module _ {A : Type 0} where
  pub headed : (xs ys : List (ℕ × Option (CopyJob A))) (t : ℕ) (x : Option (CopyJob A)) → xs ≡ (t, x) ∷ ys → xs ≡ (t, x) ∷ rest xs
  headed xs ys t x e = e ∙ ap (λ (z : List (ℕ × Option (CopyJob A))). (t, x) ∷ z) (sym (ap rest e))

  pub fits_first : (jobs : List (CopyJob A)) (m : Mine A) → m ≡ (first_view jobs, []) → Fits m 64 false
  fits_first jobs m e = subst (λ x. Fits x 64 false) (sym e) (record {
    shares_are = refl;
    past_is = refl;
    some_share = omega arith;
    at_most = omega arith;
    out = (λ u. omega arith);
    out_count = omega arith;
    once = (λ u. omega arith);
    each = (λ all past. absurd (cc));
  })

  pub fits_drew : (m n : Mine A) (t shares : ℕ) (past : Bool) (y : Option (CopyJob A)) → Fits m shares past → past ≡ false → ((u : ℕ) → 0 < ticket_times u m.0.drawn → u < t)
      → n ≡ (record m.0 { drawn = m.0.drawn ++ t ∷ [] }, (t, y) ∷ m.1) → Fits n shares past
  fits_drew m n t shares past y f is_open above e = subst (λ x. Fits x shares past) (sym e) (record {
    shares_are = f.shares_are;
    past_is = f.past_is;
    some_share = f.some_share;
    at_most = f.at_most;
    out = (λ u. let a = f.out u in omega (arith, times_append u m.0.drawn (t ∷ [])));
    out_count = (let a = f.out_count in omega (arith, length-append m.0.drawn (t ∷ [])));
    once = (λ u. once_more m.0.drawn t u (f.once u) above (ℕ_discrete u t));
    each = (λ all past. let p = f.past_is in absurd (cc));
  })

  pub fits_past : (m n : Mine A) (shares : ℕ) (past : Bool) → Fits m shares past → DrawsNone m n → Fits n shares true
  fits_past m n shares past f d =
      let each : DrewEach (record m.0 { past_end = true }) = subst (λ (x : Mine A). DrewEach x.0) d.now d.each in
      subst (λ x. Fits x shares true) (sym d.now) (record {
        shares_are = f.shares_are;
        past_is = refl;
        some_share = f.some_share;
        at_most = f.at_most;
        out = f.out;
        out_count = f.out_count;
        once = f.once;
        each = each;
      })

  pub front_is : (xs : List (ℕ × Option (CopyJob A))) (t : ℕ) → slice_get (tickets xs) 0 ≡ Some t → (x : Option (CopyJob A)) × (xs ≡ (t, x) ∷ rest xs)
  front_is [] t e = absurd (cc)
  front_is (x ∷ xs) t e = let h : x.0 ≡ t = cc in (x.1, ap (λ (z : ℕ). (z, x.1) ∷ xs) h)

  -- what is out with a hand it drew and has not given back
  pub out_drawn : (m : Mine A) (t shares : ℕ) (past : Bool) (x : Option (CopyJob A)) (ys : List (ℕ × Option (CopyJob A))) → Fits m shares past → m.1 ≡ (t, x) ∷ ys
      → (ticket_times t m.0.done < ticket_times t m.0.drawn) × (length m.0.done < length m.0.drawn)
  out_drawn m t shares past x ys f e =
      let a = f.out t in let b = f.out_count in let c : hit t t ≡ 1 = hit_same t in
      (omega (arith, ap (λ (z : List (ℕ × Option (CopyJob A))). ticket_times t (tickets z)) e), omega (arith, ap (λ (z : List (ℕ × Option (CopyJob A))). length z) e))

  pub fits_gave : (m n : Mine A) (t shares : ℕ) (past : Bool) (x : Option (CopyJob A)) (ys : List (ℕ × Option (CopyJob A))) → Fits m shares past → m.1 ≡ (t, x) ∷ ys
      → n ≡ (record m.0 { done = m.0.done ++ t ∷ [] }, ys) → Fits n shares past
  fits_gave m n t shares past x ys f at e = subst (λ z. Fits z shares past) (sym e) (record {
    shares_are = f.shares_are;
    past_is = f.past_is;
    some_share = f.some_share;
    at_most = f.at_most;
    out = (λ u. let a = f.out u in omega (arith, times_append u m.0.done (t ∷ []), ap (λ (z : List (ℕ × Option (CopyJob A))). ticket_times u (tickets z)) at));
    out_count = (let a = f.out_count in omega (arith, length-append m.0.done (t ∷ []), ap (λ (z : List (ℕ × Option (CopyJob A))). length z) at));
    once = f.once;
    each = f.each;
  })

  pub fits_less : (m n : Mine A) (shares k : ℕ) (past : Bool) → Fits m shares past → 0 < k → k < shares → n ≡ (less k m.0, m.1) → Fits n (shares - k) past
  fits_less m n shares k past f pos lt e = subst (λ z. Fits z (shares - k) past) (sym e) (record {
    shares_are = ap (λ (x : ℕ). x - k) f.shares_are;
    past_is = f.past_is;
    some_share = omega arith;
    at_most = (let a = f.at_most in omega arith);
    out = f.out;
    out_count = f.out_count;
    once = f.once;
    each = (λ all p. let a = f.at_most in let b = f.shares_are in absurd (omega arith));
  })

  pub fits_part : (m n : Mine A) (shares k : ℕ) (past : Bool) → Fits m shares past → 0 < k → k < shares → n ≡ (part k m.0, []) → Fits n k past
  fits_part m n shares k past f pos lt e = subst (λ z. Fits z k past) (sym e) (record {
    shares_are = refl;
    past_is = f.past_is;
    some_share = pos;
    at_most = (let a = f.at_most in omega arith);
    out = (λ u. omega arith);
    out_count = omega arith;
    once = (λ u. omega arith);
    each = (λ all p. let a = f.at_most in absurd (omega arith));
  })

  pub none_out : (xs : List (ℕ × Option (CopyJob A))) → tickets xs ≡ [] → xs ≡ []
  none_out [] e = refl
  none_out (x ∷ xs) e = absurd (cc)

  pub fits_joined : (m o j r : Mine A) (st : Step (Option (CopyJob A))) (found s t : ℕ) (p q b : Bool) → Fits m s p → Fits o t q → tickets m.1 ≡ [] → tickets o.1 ≡ [] → j ≡ (both m.0 o.0, m.1) → LooksAtBoard st j found r
      → b ≡ (p || q) → Fits r (s + t) b
  fits_joined m o j r st found s t p q b f g me oe e look is =
      let n : Mine A = (both m.0 o.0, m.1) in
      let once : (u : ℕ) → ticket_times u n.0.drawn ≤ 1 = subst (λ (z : Mine A). (u : ℕ) → ticket_times u z.0.drawn ≤ 1) e look.once in
      let each : DrewEach n.0 = subst (λ (z : Mine A). DrewEach z.0) e look.each in
      let most : n.0.shares ≤ 64 = subst (λ (z : Mine A). z.0.shares ≤ 64) e look.at_most in
      subst (λ z. Fits z (s + t) b) (sym (look.same ∙ e)) (record {
        shares_are = (let a = f.shares_are in let b = g.shares_are in omega arith);
        past_is = ap (λ (z : Bool). z || o.0.past_end) f.past_is ∙ (ap (λ (z : Bool). p || z) g.past_is ∙ sym is);
        some_share = (let a = f.some_share in omega arith);
        at_most = (let a = f.shares_are in let b = g.shares_are in omega arith);
        out = (λ u. let a = f.out u in let b = g.out u in omega (arith, times_append u m.0.drawn o.0.drawn, times_append u m.0.done o.0.done, ap (ticket_times u) me, ap (ticket_times u) oe));
        out_count = (let a = f.out_count in let b = g.out_count in omega (arith, length-append m.0.drawn o.0.drawn, length-append m.0.done o.0.done, ap (λ (z : List (ℕ × Option (CopyJob A))). length z) (none_out m.1 me), ap (λ (z : List (ℕ × Option (CopyJob A))). length z) (none_out o.1 oe)));
        once = once;
        each = each;
      })

  abbrev value_of : Option (CopyJob A) → List (ℕ × Option (CopyJob A)) → Option (CopyJob A)
  value_of d [] = d
  value_of d (x ∷ xs) = x.1

  value_is : (t : ℕ) (x : Option (CopyJob A)) (ys : List (ℕ × Option (CopyJob A))) → value_of None ((t, x) ∷ ys) ≡ x
  value_is t x ys = refl

  pub same_value : (xs ys : List (ℕ × Option (CopyJob A))) (t u : ℕ) (x y : Option (CopyJob A)) → xs ≡ (t, x) ∷ ys → xs ≡ (u, y) ∷ rest xs → y ≡ x
  same_value xs ys t u x y e f = sym (value_is u y (rest xs)) ∙ (ap (value_of None) (sym f ∙ e) ∙ value_is t x ys)

  pub drew : (h : Holding A) (id id' : TableId) (m n : Mine A) (shares : ℕ) (past : Bool) (job : CopyJob A) (t : ℕ) (y : Option (CopyJob A))
      → holding_of id m shares past ≡ h → id' ≡ id → job.ticket ≡ t → get_elem? m.0.jobs t ≡ some job
      → n ≡ (record m.0 { drawn = m.0.drawn ++ t ∷ [] }, (t, y) ∷ m.1) → ((u : ℕ) → 0 < ticket_times u m.0.drawn → u < t) → Drew h (holding_of id' n shares past) job
  drew h id id' m n shares past job t y e same is laid now above = subst (λ (h : Holding A). Drew h (holding_of id' n shares past) job) e (record {
    laid = get_of m.0.jobs job.ticket job (ap (get_elem? m.0.jobs) is ∙ laid);
    above = (λ u d. let a = above u d in omega arith);
    now = ap (λ (i : TableId). holding_of i n shares past) same
        ∙ (ap (λ (z : Mine A). holding_of id z shares past) now ∙ ap (λ (u : ℕ). with_ticket (holding_of id m shares past) u) (sym is));
  })

  -- the board of a hand, by their fields
  pub own_is : (h : Holding A) (b : Laying A) (id tid : TableId) (jobs : List (CopyJob A)) (me : Mine A) (shares : ℕ) (past : Bool)
      → holding_of id me shares past ≡ h → h.board ≡ b → record { id = tid; jobs = jobs } ≡ b → (id ≡ tid) × (me.0.jobs ≡ jobs)
  own_is h b id tid jobs me shares past e own v =
      let same = ap (λ (z : Holding A). z.board) e ∙ (own ∙ sym v) in (ap (λ (l : Laying A). l.id) same, ap (λ (l : Laying A). l.jobs) same)

  pub gives_at : (jobs : List (CopyJob A)) (slots id : ℕ) (m n : Mine A) (j laid : CopyJob A) (shares : ℕ) (past : Bool) → Fits m shares past → slice_get (tickets m.1) 0 ≡ Some j.ticket
      → get_elem? jobs j.ticket ≡ some laid → j ≡ job_after_copy laid
      → n ≡ (m.0, (j.ticket, Some j) ∷ rest m.1) → Allows (IsBoardRule jobs) slots id n 8 (λ k. (k + 1) % 2 ^ 64) (GivesBack (step slots 8 1 0 Opt.none) n)
  gives_at jobs slots id m n j laid shares past f last here is now =
      let top = front_is m.1 j.ticket last in
      let less = out_drawn m j.ticket shares past top.0 (rest m.1) f top.1 in
      let now' : n ≡ (m.0, (j.ticket, Some (job_after_copy laid)) ∷ rest m.1) = now ∙ ap (λ (x : CopyJob A). (m.0, (j.ticket, Some x) ∷ rest m.1)) is in
      subst (λ (z : Mine A). Allows (IsBoardRule jobs) slots id z 8 (λ k. (k + 1) % 2 ^ 64) (GivesBack (step slots 8 1 0 Opt.none) z)) (sym now') (gives_back jobs slots id j.ticket m.0 laid (rest m.1) here less.0 less.1)

  pub gave_is : (m n r : Mine A) (t : ℕ) (y : Option (CopyJob A)) → n ≡ (m.0, (t, y) ∷ rest m.1) → r ≡ (record n.0 { done = n.0.done ++ front n.1 }, rest n.1) → r ≡ (record m.0 { done = m.0.done ++ t ∷ [] }, rest m.1)
  gave_is m n r t y e f = f ∙ ap (λ (z : Mine A). (record z.0 { done = z.0.done ++ front z.1 }, rest z.1)) e

  -- with no ticket out, all that was drawn was given back
  pub nothing_out : (m : Mine A) (shares : ℕ) (past : Bool) → Fits m shares past → tickets m.1 ≡ [] → length m.0.done ≡ length m.0.drawn
  nothing_out m shares past f e = let a = f.out_count in omega (arith, ap (λ (z : List (ℕ × Option (CopyJob A))). length z) (none_out m.1 e))

  -- a hand that has not given back all is short
  pub short_of : (id : TableId) (m : Mine A) (xs : List (ℕ × Option (CopyJob A))) (shares : ℕ) (past : Bool) → Fits m shares past → m.1 ≡ xs → (length m.0.done ≡ length m.0.drawn → ⊥) → IsShort (holding_of id m shares past)
  short_of id m [] shares past f e not = absurd (not (let a = f.out_count in omega (arith, ap (λ (z : List (ℕ × Option (CopyJob A))). length z) e)))
  short_of id m (x ∷ xs) shares past f e not =
      let a = f.out x.0 in let b = f.once x.0 in let c : hit x.0 x.0 ≡ 1 = hit_same x.0 in
      let d : ticket_times x.0 (tickets m.1) ≡ hit x.0 x.0 + ticket_times x.0 (tickets xs) = ap (λ (z : List (ℕ × Option (CopyJob A))). ticket_times x.0 (tickets z)) e in record {
        ticket = x.0;
        drawn = omega arith;
        kept = omega arith;
        out = (λ none. let z = ap (λ (l : List (ℕ × Option (CopyJob A))). length l) (sym e ∙ none_out m.1 none) in absurd (omega arith));
      }

  -- the job of which this is the copy
  pub laid_for : (jobs : List (CopyJob A)) (t : ℕ) (job : CopyJob A) → slice_get (map job_after_copy jobs) t ≡ Some job → (laid : CopyJob A) × (get_elem? jobs t ≡ some laid) × (job ≡ job_after_copy laid)
  laid_for [] t job e = absurd (cc)
  laid_for (x ∷ xs) zero job e = let h : job_after_copy x ≡ job = cc in (x, refl, sym h)
  laid_for (x ∷ xs) (suc t) job e = laid_for xs t job e
