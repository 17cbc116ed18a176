-- What is done on the bytes that are home while others are out is done as well once those are back.
use Rattle.std.proofs.Common.{◌≡◌, ◌≢◌, ℕ, ◌+◌, ◌≤◌, List, [], ◌∷◌, length, refl, sym, ap, subst, ◌∙◌, arith, length-set}
use Rattle.std.specs.Prelude.{Option, Some, None, slice_index_or, slice_set}
use Rattle.std.specs.Option.{unwrap_or}
use Rattle.std.specs.List.{AllByRecursion}
use Rattle.std.proofs.lemmas.List.{get_or-set_other, set_comm}
use Rattle.nm_types.specs.declared.page.Page.{Page}
use Rattle.nm_types.specs.Map.{Map}
use Rattle.nm_types.proofs.Cases.{none_some}
use Rattle.nm_frames.specs.declared.job.CopyJob.{CopyJob}
use Rattle.nm_model.specs.definitions.Frames.{Store, IsHome, IsOut, bytes_of, overwrite}
use Rattle.nm_pool.specs.views.Copies.{with_buf, with_job, with_jobs_back, CanRefill}
use Rattle.nm_model.specs.definitions.Memory.{stretch_of}
use Rattle.nm_model.specs.definitions.Touch.{AccessAnswer, Bytes}
use Rattle.nm_model.specs.definitions.BeforeCopy.{PendingAccess, Known, ToRead, ToWrite}
use Rattle.nm_pool.specs.definitions.AfterCopy.{IsIn, frame_at, store_after_copy, answer_from_store, StoreAfterCopy, all_stored_after_copy, CanDo}
use Rattle.nm_pool.proofs.Copies.Home.{home_bytes}
use Rattle.nm_pool.proofs.Copies.Copied.{home_set}
use Rattle.nm_pool.proofs.Copies.Populated.{written_populated}

abbrev at : Store → ℕ → Option (List ℕ)
at store f = slice_index_or store f None

home_is_none_out : (store : Store) (f q : ℕ) → IsOut store f → IsHome store q → q ≢ f
home_is_none_out store f q out home e = none_some (sym (ap (at store) e ∙ out.taken) ∙ home_bytes store q home)

still_out : (store : Store) (f q : ℕ) (bytes : List ℕ) → q ≢ f → IsOut store q → IsOut (slice_set store f (Some bytes)) q
still_out store f q bytes apart out = record {
  in_range = omega (arith, length-set store f (Some bytes), out.in_range);
  taken = get_or-set_other store f q (Some bytes) None apart ∙ out.taken;
}

-- what can be done can be done after something else
in_beside : (place : Map Page ℕ) (store : Store) (f i : ℕ) (new : List ℕ) (page : Page) (j len : ℕ) → i + length new ≤ 4096 → IsIn place store page j len → IsIn place (slice_set store f (Some (overwrite (bytes_of store f) i new))) page j len
in_beside place store f i new page j len fits can = record {
  frame = can.frame;
  placed = can.placed;
  home = home_set store f can.frame (overwrite (bytes_of store f) i new) can.home;
  populated = written_populated store f can.frame i new fits can.populated;
  inside = can.inside;
}

can_beside : (place : Map Page ℕ) (store : Store) (f i : ℕ) (new : List ℕ) (d : PendingAccess) → i + length new ≤ 4096 → CanDo place store d → CanDo place (slice_set store f (Some (overwrite (bytes_of store f) i new))) d
can_beside place store f i new (Known answer) fits can = tt
can_beside place store f i new (ToRead page j len) fits can = in_beside place store f i new page j len fits can
can_beside place store f i new (ToWrite page j other) fits can = in_beside place store f i new page j (length other) fits can

can_then : (place : Map Page ℕ) (store : Store) (d e : PendingAccess) → CanDo place store d → CanDo place store e → CanDo place (store_after_copy place store d) e
can_then place store (Known answer) e first can = can
can_then place store (ToRead page i len) e first can = can
can_then place store (ToWrite page i new) e first can = can_beside place store (frame_at place page) i new e first.inside can

pub all_can_then : (place : Map Page ℕ) (store : Store) (d : PendingAccess) (all_due : List PendingAccess) → CanDo place store d → AllByRecursion (CanDo place store) all_due → AllByRecursion (CanDo place (store_after_copy place store d)) all_due
all_can_then place store d [] first can = tt
all_can_then place store d (e ∷ all_due) first can = (can_then place store d e first can.0, all_can_then place store d all_due first can.1)

abbrev told_first : AccessAnswer → StoreAfterCopy → StoreAfterCopy
told_first a rest = record { store = rest.store; answers = a ∷ rest.answers }

module _ {A : Type 0} where
  -- bytes that are written beside those that come back
  record IsBeside (jobs : List (CopyJob A)) (store : Store) (f : ℕ) (bytes : List ℕ) : Type 0 where
    pub later : with_jobs_back (slice_set store f (Some bytes)) jobs ≡ slice_set (with_jobs_back store jobs) f (Some bytes)
    pub can : CanRefill (slice_set store f (Some bytes)) jobs
    pub home : IsHome (with_jobs_back store jobs) f
    pub same : at (with_jobs_back store jobs) f ≡ at store f

  beside : (jobs : List (CopyJob A)) (store : Store) (f : ℕ) (bytes : List ℕ) → CanRefill store jobs → IsHome store f → IsBeside jobs store f bytes
  beside [] store f bytes can home = record { later = refl; can = tt; home = home; same = refl }
  beside (job ∷ jobs) store f bytes can home =
      let rest = beside jobs store f bytes can.0 home in
      let r = with_jobs_back store jobs in
      let s = job.source.0 in
      let t = job.target.0 in
      let mid = with_buf r job.source in
      let from : f ≢ s = home_is_none_out r s f can.1 rest.home in
      let home_mid : IsHome mid f = home_set r s f job.source.1 rest.home in
      let to : f ≢ t = home_is_none_out mid t f can.2 home_mid in
      let again : with_buf (slice_set r f (Some bytes)) job.source ≡ slice_set mid f (Some bytes) = set_comm r f s (Some bytes) (Some job.source.1) from in
      record {
        later =
            ap (λ (x : Store). with_job x job) rest.later
            ∙ ap (λ (x : Store). with_buf x job.target) again
            ∙ set_comm mid f t (Some bytes) (Some job.target.1) to;
        can = (
          rest.can,
          subst (λ (x : Store). IsOut x s) (sym rest.later) (still_out r f s bytes (λ e. from (sym e)) can.1),
          subst (λ (x : Store). IsOut (with_buf x job.source) t) (sym rest.later)
              (subst (λ (x : Store). IsOut x t) (sym again) (still_out mid f t bytes (λ e. to (sym e)) can.2)),
        );
        home = home_set mid t f job.target.1 home_mid;
        same = get_or-set_other mid t f (Some job.target.1) None to ∙ get_or-set_other r s f (Some job.source.1) None from ∙ rest.same;
      }

  -- what is done before the bytes of jobs come back is done after
  record IsAfter (place : Map Page ℕ) (jobs : List (CopyJob A)) (store : Store) (d : PendingAccess) : Type 0 where
    pub later : with_jobs_back (store_after_copy place store d) jobs ≡ store_after_copy place (with_jobs_back store jobs) d
    pub can : CanRefill (store_after_copy place store d) jobs
    pub told : answer_from_store place store d ≡ answer_from_store place (with_jobs_back store jobs) d

  after : (place : Map Page ℕ) (jobs : List (CopyJob A)) (store : Store) (d : PendingAccess) → CanRefill store jobs → CanDo place store d → IsAfter place jobs store d
  after place jobs store (Known answer) can doable = record { later = refl; can = can; told = refl }
  after place jobs store (ToRead page i len) can doable =
      let there : frame_at place page ≡ doable.frame = ap (λ o. unwrap_or o 0) doable.placed in
      let home = subst (IsHome store) (sym there) doable.home in
      let b = beside jobs store (frame_at place page) [] can home in
      record { later = refl; can = can; told = ap (λ o. Bytes (stretch_of (unwrap_or o []) i len)) (sym b.same) }
  after place jobs store (ToWrite page i new) can doable =
      let f = frame_at place page in
      let there : f ≡ doable.frame = ap (λ o. unwrap_or o 0) doable.placed in
      let home = subst (IsHome store) (sym there) doable.home in
      let b = beside jobs store f (overwrite (bytes_of store f) i new) can home in
      record {
        later = b.later ∙ ap (λ o. slice_set (with_jobs_back store jobs) f (Some (overwrite (unwrap_or o []) i new))) (sym b.same);
        can = b.can;
        told = refl;
      }

  -- what can be done while the bytes of jobs are out can be done once they are back
  can_refilled : (place : Map Page ℕ) (jobs : List (CopyJob A)) (store : Store) (d : PendingAccess) → CanRefill store jobs → CanDo place store d → CanDo place (with_jobs_back store jobs) d
  can_refilled place jobs store (Known answer) can doable = tt
  can_refilled place jobs store (ToRead page i len) can doable =
      let b = beside jobs store doable.frame [] can doable.home in
      record { frame = doable.frame; placed = doable.placed; home = b.home; populated = ap (λ o. length (unwrap_or o [])) b.same ∙ doable.populated; inside = doable.inside }
  can_refilled place jobs store (ToWrite page i new) can doable =
      let b = beside jobs store doable.frame [] can doable.home in
      record { frame = doable.frame; placed = doable.placed; home = b.home; populated = ap (λ o. length (unwrap_or o [])) b.same ∙ doable.populated; inside = doable.inside }

  pub all_refilled : (place : Map Page ℕ) (jobs : List (CopyJob A)) (store : Store) (all_due : List PendingAccess) → CanRefill store jobs → AllByRecursion (CanDo place store) all_due → AllByRecursion (CanDo place (with_jobs_back store jobs)) all_due
  all_refilled place jobs store [] can doable = tt
  all_refilled place jobs store (d ∷ all_due) can doable = (can_refilled place jobs store d can doable.0, all_refilled place jobs store all_due can doable.1)

  abbrev back : List (CopyJob A) → StoreAfterCopy → StoreAfterCopy
  back jobs x = record x { store = with_jobs_back (x.store) jobs }

  pub all_after : (all_due : List PendingAccess) (place : Map Page ℕ) (jobs : List (CopyJob A)) (store : Store) → CanRefill store jobs → AllByRecursion (CanDo place store) all_due
      → (back jobs (all_stored_after_copy place store all_due) ≡ all_stored_after_copy place (with_jobs_back store jobs) all_due) × CanRefill (all_stored_after_copy place store all_due).store jobs
  all_after [] place jobs store can doable = (refl, can)
  all_after (d ∷ all_due) place jobs store can doable =
      let now = after place jobs store d can doable.0 in
      let rest = all_after all_due place jobs (store_after_copy place store d) now.can (all_can_then place store d all_due doable.0 doable.1) in (
        ap (told_first (answer_from_store place store d)) (rest.0 ∙ ap (λ (x : Store). all_stored_after_copy place x all_due) now.later)
            ∙ ap (λ a. told_first a (all_stored_after_copy place (store_after_copy place (with_jobs_back store jobs) d) all_due)) now.told,
        rest.1,
      )
