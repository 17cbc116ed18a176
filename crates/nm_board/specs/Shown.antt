-- What contracts see of a board and a hand.
use Rattle.std.specs.Prelude.{◌≡◌, ◌≢◌, ℕ, ◌+◌, ◌-◌, ◌^◌, ◌<◌, ◌≤◌, Bool, false, ◌||◌, List, [], ◌∷◌, ◌++◌, drop, length, slice_get, Some}
use Rattle.atomic_table.specs.Seated.{TableId}
use Rattle.nm_frames.specs.declared.job.CopyJob.{CopyJob}
use Rattle.nm_board.specs.Tickets.{InTicketOrder, ticket_times, once_below}
use Rattle.nm_board.specs.Steps.{Mine, tickets, DrewEach}

-- a board: its identity, and the jobs that were laid, in the order of their tickets
pub record Laying (A : Type 0) : Type 0 where
  pub id : TableId
  pub jobs : List (CopyJob A)

-- a hand: its board, its shares, whether it is past the end, the tickets that it drew and those that it gave back, in
-- order, and those that it has out, the last first
pub record Holding (A : Type 0) : Type 0 where
  pub board : Laying A
  pub shares : ℕ
  pub past_end : Bool
  pub drawn : List ℕ
  pub done : List ℕ
  pub out : List ℕ

module _ {A : Type 0} where
  -- what contracts see of a hand's fields: its table, what its seat knows, its shares, and whether it is past the end
  abbrev pub holding_of : TableId → Mine A → ℕ → Bool → Holding A
  holding_of id me shares past = record {
    board = record { id = id; jobs = me.0.jobs };
    shares = shares;
    past_end = past;
    drawn = me.0.drawn;
    done = me.0.done;
    out = tickets me.1;
  }

  -- the hand made with a board: all 64 shares, and no tickets
  abbrev pub all_shares : Laying A → Holding A
  all_shares board = record { board = board; shares = 64; past_end = false; drawn = []; done = []; out = [] }

  -- a hand after these shares were split off
  abbrev pub drop_ticket : Holding A → ℕ → Holding A
  drop_ticket hand n = record hand { shares = hand.shares - n }

  -- the new hand that gets these shares of another
  abbrev pub split_off : Holding A → ℕ → Holding A
  split_off hand n = record hand { shares = n; drawn = []; done = []; out = [] }

  -- a hand that another was joined into
  abbrev pub both_holdings : Holding A → Holding A → Holding A
  both_holdings hand other = record hand {
    shares = hand.shares + other.shares;
    past_end = hand.past_end || other.past_end;
    drawn = hand.drawn ++ other.drawn;
    done = hand.done ++ other.done;
  }

  -- a hand after it drew this ticket
  abbrev pub with_ticket : Holding A → ℕ → Holding A
  with_ticket hand t = record hand { drawn = hand.drawn ++ t ∷ []; out = t ∷ hand.out }

  -- a hand after it gave its last ticket back
  abbrev pub without_ticket : Holding A → ℕ → Holding A
  without_ticket hand t = record hand { done = hand.done ++ t ∷ []; out = drop 1 hand.out }

  -- the hand drew each ticket once, and nothing else
  abbrev pub HasEach : Holding A → Type 0
  HasEach hand = (t : ℕ) → ticket_times t hand.drawn ≡ once_below t (length hand.board.jobs)

  -- each ticket that the hand drew was given back by it or is out with it
  abbrev pub OutIsTheRest : Holding A → Type 0
  OutIsTheRest hand = (t : ℕ) → ticket_times t hand.drawn ≡ ticket_times t hand.done + ticket_times t hand.out

  -- the hand drew no ticket twice
  abbrev pub HasNoneTwice : Holding A → Type 0
  HasNoneTwice hand = (t : ℕ) → ticket_times t hand.drawn ≤ 1

-- the hand drew this job: it was laid, and its ticket is above all that the hand drew before
pub record Drew {A : Type 0} (old new : Holding A) (job : CopyJob A) : Type 0 where
  pub laid : slice_get old.board.jobs job.ticket ≡ Some job
  pub above : (t : ℕ) → 0 < ticket_times t old.drawn → t < job.ticket
  pub now : new ≡ with_ticket old job.ticket

-- some ticket that the hand drew is still out with it
pub record IsShort {A : Type 0} (hand : Holding A) : Type 0 where
  pub ticket : ℕ
  pub drawn : 0 < ticket_times ticket hand.drawn
  pub kept : ticket_times ticket hand.done ≡ 0
  pub out : hand.out ≢ []

-- a board's fields: the numbers of its words and slots, its jobs, and the list with room to return them in
pub record IsBoard {A : Type 0} (board : Laying A) (room capacity : ℕ) : Type 0 where
  pub words : board.id.words ≡ 9
  pub slots : board.id.slots ≡ length board.jobs
  pub few : length board.jobs < 2 ^ 63
  pub in_order : InTicketOrder board.jobs
  pub empty : room ≡ 0
  pub room_left : length board.jobs ≤ capacity

-- a hand's fields agree with what its seat knows
pub record Fits {A : Type 0} (me : Mine A) (shares : ℕ) (past : Bool) : Type 0 where
  pub shares_are : me.0.shares ≡ shares
  pub past_is : me.0.past_end ≡ past
  pub some_share : 0 < shares
  pub at_most : shares ≤ 64
  pub out : (t : ℕ) → ticket_times t me.0.drawn ≡ ticket_times t me.0.done + ticket_times t (tickets me.1)
  pub out_count : length me.0.drawn ≡ length me.0.done + length me.1
  pub once : (t : ℕ) → ticket_times t me.0.drawn ≤ 1
  pub each : DrewEach me.0
