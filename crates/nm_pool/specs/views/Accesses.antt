-- Answers to accesses, and what is left to do for them, as contracts see the values of the code.
use Rattle.std.specs.Prelude.{◌≡◌, ◌≤◌, vec_capacity, []}
use Rattle.nm_pool.specs.declared.answers.AccessAnswer.{AccessAnswer as Given}
use Rattle.nm_pool.specs.declared.answers.AccessAnswer.TheVariants as given
use Rattle.nm_pool.specs.declared.pending_access.PendingAccess.{PendingAccess as Left}
use Rattle.nm_pool.specs.declared.pending_access.PendingAccess.TheVariants as left
use Rattle.nm_model.specs.definitions.Touch.{AccessAnswer, Bytes, Done, Held, Refused}
use Rattle.nm_model.specs.definitions.BeforeCopy.{PendingAccess, Known, ToRead, ToWrite}

module _ {A : Type 0} where
  -- an answer
  abbrev pub answer_shown : Given A → AccessAnswer
  answer_shown (given.Bytes bytes) = Bytes bytes.items
  answer_shown given.Done = Done
  answer_shown given.Held = Held
  answer_shown (given.Refused e) = Refused e

  -- what is left to do
  abbrev pub pending_shown : Left A → PendingAccess
  pending_shown (left.Known answer) = Known (answer_shown answer)
  pending_shown (left.Read page at len bytes) = ToRead page at len
  pending_shown (left.Write page at bytes) = ToWrite page at bytes.now

  -- the list for the bytes has room for them
  abbrev pub HasRoom : Left A → Type 0
  HasRoom (left.Known answer) = Unit {0}
  HasRoom (left.Read page at len bytes) = (bytes.items ≡ []) × (len ≤ vec_capacity bytes)
  HasRoom (left.Write page at bytes) = Unit {0}
