-- The bytes of a run's frames go out, are copied, and come back.
use Rattle.std.proofs.Common.{◌≡◌, ◌≢◌, ℕ, zero, suc, ◌+◌, ◌<◌, List, [], ◌∷◌, ◌++◌, map, length, refl, sym, ap, subst, ◌∙◌, arith, length-set, IsSome, ⊎_elim}
use Rattle.std.specs.Prelude.{Option, Some, None, slice_get, slice_index_or, slice_set}
use Rattle.std.proofs.lemmas.List.{get_or-set_same, get_or-set_other, set_comm}
use Rattle.std.proofs.lemmas.Bool.{cases_eq}
use Rattle.std.specs.Option.{unwrap_or}
use Rattle.std.specs.List.{AllByRecursion}
use Rattle.nm_frames.specs.declared.job.CopyJob.{CopyJob}
use Rattle.nm_frames.specs.Job.{job_after_copy}
use Rattle.nm_pool.specs.views.Populated.{IsPopulated}
use Rattle.nm_model.specs.definitions.Frames.{Store, IsHome, IsOut, bytes_of}
use Rattle.nm_types.specs.declared.page_move.PageMove.{PageMove}
use Rattle.nm_pool.specs.views.Copies.{with_copy, with_copies, without_move, CanCopy, HasBoth, without_moves, with_buf, jobs_of, with_job, with_jobs_back, CanRefill}
use Rattle.nm_pool.proofs.Copies.Home.{copied_frame, home_bytes}

-- what is at a frame
abbrev at : Store → ℕ → Option (List ℕ)
at store f = slice_index_or store f None

none_out : (store : Store) (f : ℕ) → at (slice_set store f None) f ≡ None
none_out [] f = refl
none_out (x ∷ store) zero = refl
none_out (x ∷ store) (suc f) = none_out store f

still_out : (store : Store) (f q : ℕ) → at store q ≡ None → at (slice_set store f None) q ≡ None
still_out [] f q out = out
still_out (x ∷ store) zero zero out = refl
still_out (x ∷ store) zero (suc q) out = out
still_out (x ∷ store) (suc f) zero out = out
still_out (x ∷ store) (suc f) (suc q) out = still_out store f q out

-- a frame that is out is not home
not_home : (store : Store) (f q : ℕ) → at store f ≡ None → IsHome store q → q ≢ f
not_home store f q out home e = none_some (sym (ap (at store) e ∙ out) ∙ home_bytes store q home)
  where
    none_some : {x : List ℕ} → None ≡ Some x → ⊥
    none_some e = cc

module _ (store : Store) (t : PageMove) where
  from_out : at (without_move store t) t.from ≡ None
  from_out = still_out (slice_set store t.from None) t.to t.from (none_out store t.from)

  to_out : at (without_move store t) t.to ≡ None
  to_out = none_out (slice_set store t.from None) t.to

  as_many : length (without_move store t) ≡ length store
  as_many = length-set (slice_set store t.from None) t.to None ∙ length-set store t.from None

  -- the frames that are home without both are others, and were home
  not_from : (q : ℕ) → IsHome (without_move store t) q → q ≢ t.from
  not_from q home = not_home (without_move store t) t.from q from_out home

  pub not_to : (q : ℕ) → IsHome (without_move store t) q → q ≢ t.to
  not_to q home = not_home (without_move store t) t.to q to_out home

  untouched : (q : ℕ) → q ≢ t.from → q ≢ t.to → at (without_move store t) q ≡ at store q
  untouched q a b = get_or-set_other (slice_set store t.from None) t.to q None None b ∙ get_or-set_other store t.from q None None a

  pub was_home : (q : ℕ) → IsHome (without_move store t) q → IsHome store q
  was_home q home = record {
    in_range = omega (arith, as_many, home.in_range);
    here = subst (λ (o : Option (List ℕ)). IsSome o) (untouched q (not_from q home) (not_to q home)) home.here;
  }

  pub stays_home : (q : ℕ) → q ≢ t.from → q ≢ t.to → IsHome store q → IsHome (without_move store t) q
  stays_home q a b home = record {
    in_range = omega (arith, as_many, home.in_range);
    here = subst (λ (o : Option (List ℕ)). IsSome o) (sym (untouched q a b)) home.here;
  }

  -- others keep their bytes in memory
  pub stays_populated : (q : ℕ) → q ≢ t.from → q ≢ t.to → IsPopulated store q → IsPopulated (without_move store t) q
  stays_populated q a b whole = ap (λ (o : Option (List ℕ)). length (unwrap_or o [])) (untouched q a b) ∙ whole

-- as many frames have a place while the bytes of some are out
pub out_as_many : (taken : List PageMove) (store : Store) → length (without_moves store taken) ≡ length store
out_as_many [] store = refl
out_as_many (t ∷ taken) store = out_as_many taken (without_move store t) ∙ as_many store t

-- what is home stays so where another frame gets bytes
home_beside : (store : Store) (f q : ℕ) (bytes : List ℕ) → q ≢ f → IsHome store q → IsHome (slice_set store f (Some bytes)) q
home_beside store f q bytes apart home = record {
  in_range = omega (arith, length-set store f (Some bytes), home.in_range);
  here = subst (λ (o : Option (List ℕ)). IsSome o) (sym (get_or-set_other store f q (Some bytes) None apart)) home.here;
}

-- and where any frame does
pub home_set : (store : Store) (f q : ℕ) (bytes : List ℕ) → IsHome store q → IsHome (slice_set store f (Some bytes)) q
home_set store f q bytes home =
    ⊎_elim (λ e. record {
      in_range = omega (arith, length-set store f (Some bytes), home.in_range);
      here = subst (λ (o : Option (List ℕ)). IsSome o) (sym (ap (at (slice_set store f (Some bytes))) e ∙ get_or-set_same store f (Some bytes) None (subst (λ k. k < length store) e home.in_range))) refl;
    })
    (λ apart. home_beside store f q bytes apart home) (cases_eq q f)

-- where more is home, as much can be copied
abbrev Covers : Store → Store → Type 0
Covers g h = (q : ℕ) → IsHome g q → IsHome h q

pub can_where_more : (taken : List PageMove) (g h : Store) → Covers g h → CanCopy g taken → CanCopy h taken
can_where_more [] g h covers can = tt
can_where_more (t ∷ taken) g h covers can = (
  covers t.from can.0,
  covers t.to can.1,
  can.2,
  can_where_more taken (without_move g t) (without_move h t) (λ q home. stays_home h t q (not_from g t q home) (not_to g t q home) (covers q (was_home g t q home))) can.3,
)

-- the frames of later moves keep their bytes in memory while those of one move are out
pub both_without : (taken : List PageMove) (store : Store) (t : PageMove) → CanCopy (without_move store t) taken → AllByRecursion (HasBoth store) taken → AllByRecursion (HasBoth (without_move store t)) taken
both_without [] store t can both = tt
both_without (u ∷ taken) store t can both =
    let g = without_move store t in (
      (
        stays_populated store t u.from (not_from store t u.from can.0) (not_to store t u.from can.0) both.0.0,
        stays_populated store t u.to (not_from store t u.to can.1) (not_to store t u.to can.1) both.0.1,
      ),
      both_without taken store t (can_where_more taken (without_move g u) g (λ q home. was_home g u q home) can.3) both.1,
    )

after_copy : (taken : List PageMove) (store : Store) (t : PageMove) → CanCopy (without_move store t) taken → CanCopy (with_copy store t) taken
after_copy taken store t can =
    can_where_more taken (without_move store t) (with_copy store t) (λ q home. home_beside store t.to q (bytes_of store t.from) (not_to store t q home) (was_home store t q home)) can

-- a frame that is out stays out while others are copied, and its bytes may come back before or after
copies_keep : (taken : List PageMove) (store : Store) (f : ℕ) → CanCopy store taken → at store f ≡ None → at (with_copies store taken) f ≡ None
copies_keep [] store f can out = out
copies_keep (t ∷ taken) store f can out =
    copies_keep taken (with_copy store t) f (after_copy taken store t can.3)
    (get_or-set_other store t.to f (Some (bytes_of store t.from)) None (λ e. not_home store f t.to out can.1 (sym e)) ∙ out)

pub copies_as_many : (taken : List PageMove) (store : Store) → length (with_copies store taken) ≡ length store
copies_as_many [] store = refl
copies_as_many (t ∷ taken) store = copies_as_many taken (with_copy store t) ∙ length-set store t.to (Some (bytes_of store t.from))

copies_set : (taken : List PageMove) (store : Store) (f : ℕ) (v : Option (List ℕ)) → CanCopy store taken → at store f ≡ None → slice_set (with_copies store taken) f v ≡ with_copies (slice_set store f v) taken
copies_set [] store f v can out = refl
copies_set (t ∷ taken) store f v can out =
    let bytes = bytes_of store t.from in
    let same : bytes ≡ bytes_of (slice_set store f v) t.from = sym (ap (λ (o : Option (List ℕ)). unwrap_or o []) (get_or-set_other store f t.from v None (not_home store f t.from out can.0))) in
    copies_set taken (with_copy store t) f v (after_copy taken store t can.3) (get_or-set_other store t.to f (Some bytes) None (λ e. not_home store f t.to out can.1 (sym e)) ∙ out)
    ∙ ap (λ (s : Store). with_copies s taken) (set_comm store t.to f (Some bytes) v (not_home store f t.to out can.1) ∙ ap (λ (b : List ℕ). slice_set (slice_set store f v) t.to (Some b)) same)

-- what goes out and is copied comes back copied
pub refilled_is : (A : Type 0) (taken : List PageMove) (k : ℕ) (store : Store) → CanCopy store taken → with_jobs_back (without_moves store taken) (map job_after_copy (jobs_of {A = A} k store taken)) ≡ with_copies store taken
refilled_is A [] k store can = refl
refilled_is A (t ∷ taken) k store can =
    let g = without_move store t in
    let bytes = bytes_of store t.from in
    let both = λ (s : Store). slice_set (slice_set s t.from (Some bytes)) t.to (Some bytes) in
    ap both (refilled_is A taken (k + 1) g can.3)
    ∙ ap (λ (s : Store). slice_set s t.to (Some bytes)) (copies_set taken g t.from (Some bytes) can.3 (from_out store t))
    ∙ copies_set taken (slice_set g t.from (Some bytes)) t.to (Some bytes)
    (can_where_more taken g (slice_set g t.from (Some bytes)) (λ q home. home_beside g t.from q bytes (not_from store t q home) home) can.3)
    (get_or-set_other g t.from t.to (Some bytes) None (λ e. can.2 (sym e)) ∙ to_out store t)
    ∙ ap (λ (s : Store). with_copies s taken) (copied_frame store t.from t.to bytes can.2 (home_bytes store t.from can.0))

-- and its frames are out until then
pub can_refill : (A : Type 0) (taken : List PageMove) (k : ℕ) (store : Store) → CanCopy store taken → CanRefill (without_moves store taken) (map job_after_copy (jobs_of {A = A} k store taken))
can_refill A [] k store can = tt
can_refill A (t ∷ taken) k store can =
    let g = without_move store t in
    let bytes = bytes_of store t.from in
    let w = with_copies g taken in
    let is : with_jobs_back (without_moves g taken) (map job_after_copy (jobs_of {A = A} (k + 1) g taken)) ≡ w = refilled_is A taken (k + 1) g can.3 in
    let same : length w ≡ length store = copies_as_many taken g ∙ as_many store t in (
      can_refill A taken (k + 1) g can.3,
      subst (λ (s : Store). IsOut s t.from) (sym is) (record { in_range = omega (arith, same, can.0.in_range); taken = copies_keep taken g t.from can.3 (from_out store t) }),
      subst (λ (s : Store). IsOut (slice_set s t.from (Some bytes)) t.to) (sym is) (record {
        in_range = omega (arith, same, length-set w t.from (Some bytes), can.1.in_range);
        taken = get_or-set_other w t.from t.to (Some bytes) None (λ e. can.2 (sym e)) ∙ copies_keep taken g t.to can.3 (to_out store t);
      }),
    )

-- the jobs are in the order of their tickets
pub tickets_from : (A : Type 0) (taken : List PageMove) (k : ℕ) (store : Store) (t : ℕ) (job : CopyJob A) → slice_get (jobs_of {A = A} k store taken) t ≡ Some job → job.ticket ≡ k + t
tickets_from A [] k store t job at = absurd (cc)
tickets_from A (x ∷ taken) k store zero job at =
    let first : CopyJob A = record { source = (x.from, bytes_of store x.from); target = (x.to, bytes_of store x.to); ticket = k } in
    let is : first ≡ job = cc in
    omega (arith, ap (λ (j : CopyJob A). j.ticket) is)
tickets_from A (x ∷ taken) k store (suc t) job at = omega (arith, tickets_from A taken (k + 1) (without_move store x) t job at)

-- every frame is home after copying as before
pub copies_home : (taken : List PageMove) (store : Store) (q : ℕ) → IsHome store q → IsHome (with_copies store taken) q
copies_home [] store q home = home
copies_home (t ∷ taken) store q home = copies_home taken (with_copy store t) q (home_set store t.to q (bytes_of store t.from) home)

module _ {A : Type 0} where
  -- the last job's bytes come back first
  pub refilled_last : (jobs : List (CopyJob A)) (job : CopyJob A) (store : Store) → with_jobs_back store (jobs ++ job ∷ []) ≡ with_jobs_back (with_job store job) jobs
  refilled_last [] job store = refl
  refilled_last (j ∷ jobs) job store = ap (λ (s : Store). with_job s j) (refilled_last jobs job store)

  pub can_last : (jobs : List (CopyJob A)) (job : CopyJob A) (store : Store) → CanRefill store (jobs ++ job ∷ []) → IsOut store job.source.0 × IsOut (with_buf store job.source) job.target.0 × CanRefill (with_job store job) jobs
  can_last [] job store can = (can.1, can.2, tt)
  can_last (j ∷ jobs) job store can =
      let rest = can_last jobs job store can.0 in
      let is = refilled_last jobs job store in
      (rest.0, rest.1, (rest.2, subst (λ (s : Store). IsOut s j.source.0) is can.1, subst (λ (s : Store). IsOut (with_buf s j.source) j.target.0) is can.2))

  -- as many frames have a place once bytes are back
  pub back_as_many : (jobs : List (CopyJob A)) (store : Store) → length (with_jobs_back store jobs) ≡ length store
  back_as_many [] store = refl
  back_as_many (job ∷ jobs) store =
      let r = with_jobs_back store jobs in
      length-set (with_buf r job.source) job.target.0 (Some job.target.1) ∙ length-set r job.source.0 (Some job.source.1) ∙ back_as_many jobs store
