-- As many frames have bytes after accesses are made, and those that were home are.
use Rattle.std.proofs.Common.{◌≡◌, ℕ, List, [], ◌∷◌, length, refl, ◌∙◌, length-set}
use Rattle.std.specs.Prelude.{Some, slice_set}
use Rattle.nm_types.specs.declared.page.Page.{Page}
use Rattle.nm_types.specs.Map.{Map}
use Rattle.nm_model.specs.definitions.Frames.{Store, IsHome, bytes_of, overwrite}
use Rattle.nm_model.specs.definitions.BeforeCopy.{PendingAccess, Known, ToRead, ToWrite}
use Rattle.nm_pool.specs.definitions.AfterCopy.{frame_at, all_stored_after_copy}
use Rattle.nm_pool.proofs.Copies.Copied.{home_set}

-- ---- as many frames have bytes then, and those that were home are

pub done_as_many : (place : Map Page ℕ) (all_due : List PendingAccess) (store : Store) → length (all_stored_after_copy place store all_due).store ≡ length store
done_as_many place [] store = refl
done_as_many place (Known answer ∷ all_due) store = done_as_many place all_due store
done_as_many place (ToRead page at len ∷ all_due) store = done_as_many place all_due store
done_as_many place (ToWrite page at new ∷ all_due) store =
    let f = frame_at place page in
    done_as_many place all_due (slice_set store f (Some (overwrite (bytes_of store f) at new))) ∙ length-set store f (Some (overwrite (bytes_of store f) at new))

pub done_home : (place : Map Page ℕ) (all_due : List PendingAccess) (store : Store) (q : ℕ) → IsHome store q → IsHome (all_stored_after_copy place store all_due).store q
done_home place [] store q home = home
done_home place (Known answer ∷ all_due) store q home = done_home place all_due store q home
done_home place (ToRead page at len ∷ all_due) store q home = done_home place all_due store q home
done_home place (ToWrite page at new ∷ all_due) store q home =
    let f = frame_at place page in
    let now = overwrite (bytes_of store f) at new in
    done_home place all_due (slice_set store f (Some now)) q (home_set store f q now home)
