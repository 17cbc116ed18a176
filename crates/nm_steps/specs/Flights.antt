-- Worked examples of accesses in flight: which are accepted.
use Rattle.std.specs.Prelude.{◌≡◌, ℕ, List, [], ◌∷◌, Some, None, codes}
use Rattle.serde_json.specs.Data.{unsigned, Data, null, number, string, array, object, no_items, item, Members, no_members, member}
use Rattle.nm_model.specs.definitions.Touch.{Read, Write}
use Rattle.nm_steps.specs.Form.{during_of, during_at}

-- an object with these members
abbrev pub members_of : List (List ℕ × Data) → Members
members_of [] = no_members
members_of (m ∷ ms) = member m.0 m.1 (members_of ms)

abbrev pub object_of : List (List ℕ × Data) → Data
object_of ms = object (members_of ms)

-- a member with a number, and one with a text
abbrev pub key : List ℕ → ℕ → List ℕ × Data
key name n = (name, number (unsigned n))

abbrev pub word : List ℕ → List ℕ → List ℕ × Data
word name text = (name, string text)

-- the keys of a read and of a write, as in their steps
abbrev pub a_read : List (List ℕ × Data)
a_read = word (codes "op") (codes "read") ∷ key (codes "pid") 1 ∷ key (codes "addr") 4096 ∷ key (codes "len") 2 ∷ []

abbrev pub a_write : List (List ℕ × Data)
a_write = word (codes "op") (codes "write") ∷ key (codes "pid") 1 ∷ key (codes "addr") 4096 ∷ word (codes "data") (codes "6A") ∷ []

-- an access with this run
abbrev pub in_run : ℕ → List (List ℕ × Data) → Data
in_run run keys = object_of (key (codes "run") run ∷ keys)

-- an access has the keys of its step, and the number of a run that the step has
pub record FlightRows : Type 0 where
  pub read : during_of 1 (in_run 0 a_read) ≡ Some (0, Read 1 4096 2)
  pub write : during_of 2 (in_run 1 a_write) ≡ Some (1, Write 1 4096 (106 ∷ []))
  pub no_second_run : during_of 1 (in_run 1 a_read) ≡ None
  -- a batch without entries has no runs
  pub no_run_at_all : during_of 0 (in_run 0 a_read) ≡ None
  pub run_missing : during_of 1 (object_of a_read) ≡ None
  pub key_missing : during_of 1 (in_run 0 (word (codes "op") (codes "read") ∷ key (codes "pid") 1 ∷ [])) ≡ None
  pub another_step : during_of 1 (in_run 0 (word (codes "op") (codes "exit") ∷ key (codes "pid") 1 ∷ [])) ≡ None
  pub in_their_order :
      during_at 2 (object_of ((codes "during", array (item (in_run 1 a_read) (item (in_run 0 a_write) no_items))) ∷ []))
      ≡ Some ((1, Read 1 4096 2) ∷ (0, Write 1 4096 (106 ∷ [])) ∷ [])
  pub missing : during_at 1 (object_of []) ≡ Some []
  pub null_is_no_list : during_at 1 (object_of ((codes "during", null) ∷ [])) ≡ None
  pub no_object : during_at 1 (object_of ((codes "during", array (item null no_items)) ∷ [])) ≡ None
