-- What is left to do for accesses, carried out on the bytes of frames.
use Rattle.std.specs.Prelude.{◌≡◌, ℕ, ◌+◌, ◌≤◌, List, [], ◌∷◌, length, slice_set, Some}
use Rattle.std.specs.Option.{unwrap_or}
use Rattle.nm_types.specs.declared.page.Page.{Page}
use Rattle.nm_types.specs.Map.{Map, get, page_cmp}
use Rattle.nm_pool.specs.views.Populated.{IsPopulated}
use Rattle.nm_model.specs.definitions.Frames.{Store, IsHome, bytes_of, overwrite}
use Rattle.nm_model.specs.definitions.Memory.{stretch_of}
use Rattle.nm_model.specs.definitions.Touch.{AccessAnswer, Bytes, Done}
use Rattle.nm_model.specs.definitions.BeforeCopy.{PendingAccess, Known, ToRead, ToWrite}

-- the frame of a page
abbrev pub frame_at : Map Page ℕ → Page → ℕ
frame_at place page = unwrap_or (get page_cmp place page) 0

-- the bytes of frames after it is done
abbrev pub store_after_copy : Map Page ℕ → Store → PendingAccess → Store
store_after_copy place store (Known answer) = store
store_after_copy place store (ToRead page at len) = store
store_after_copy place store (ToWrite page at new) =
    let f = frame_at place page in slice_set store f (Some (overwrite (bytes_of store f) at new))

-- the answer of what is left to do
abbrev pub answer_from_store : Map Page ℕ → Store → PendingAccess → AccessAnswer
answer_from_store place store (Known answer) = answer
answer_from_store place store (ToRead page at len) = Bytes (stretch_of (bytes_of store (frame_at place page)) at len)
answer_from_store place store (ToWrite page at new) = Done

pub record StoreAfterCopy : Type 0 where
  pub store : Store
  pub answers : List AccessAnswer

-- one after another
abbrev pub all_stored_after_copy : Map Page ℕ → Store → List PendingAccess → StoreAfterCopy
all_stored_after_copy place store [] = record { store = store; answers = [] }
all_stored_after_copy place store (d ∷ all_due) =
    let rest = all_stored_after_copy place (store_after_copy place store d) all_due in
    record { store = rest.store; answers = answer_from_store place store d ∷ rest.answers }

-- the page is in this frame, whose bytes are home and in memory, and `len` bytes from index `at` on are inside it
pub record IsIn (place : Map Page ℕ) (store : Store) (page : Page) (at len : ℕ) : Type 0 where
  pub frame : ℕ
  pub placed : get page_cmp place page ≡ Some frame
  pub home : IsHome store frame
  pub populated : IsPopulated store frame
  pub inside : at + len ≤ 4096

-- what is left can be done
abbrev pub CanDo : Map Page ℕ → Store → PendingAccess → Type 0
CanDo place store (Known answer) = Unit {0}
CanDo place store (ToRead page at len) = IsIn place store page at len
CanDo place store (ToWrite page at new) = IsIn place store page at (length new)
