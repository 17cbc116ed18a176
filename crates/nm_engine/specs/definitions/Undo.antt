-- Undoing touches.
use Rattle.std.specs.Prelude.{◌≡◌, ℕ, Bool, true, false, List, [], ◌∷◌, ◌++◌, Option, Some, None, IsSome}
use Rattle.std.specs.Option.{unwrap_or}
use Rattle.std.specs.Ordering.{nat_cmp}
use Rattle.nm_types.specs.declared.page.Page.{Page}
use Rattle.nm_types.specs.declared.sight.Sight.{Sight}
use Rattle.nm_types.specs.declared.sight.Sight.TheVariants.{ZeroPage, Sees}
use Rattle.nm_types.specs.Map.{get, replace, without, page_cmp}
use Rattle.nm_types.specs.State.{Process, State}
use Rattle.nm_model.specs.definitions.Seen.{sight_at}
use Rattle.nm_model.specs.definitions.Frames.{with_front}
use Rattle.nm_engine.specs.declared.prepared_run.undo.Undo.{Undo}
use Rattle.nm_engine.specs.declared.touch.TouchOutcome.{TouchOutcome}
use Rattle.nm_model.specs.definitions.Effect.{seeing_before}
use Rattle.nm_model.specs.definitions.Sound.{IsSoundInFlight}

-- a touch of a process at a page number, where it saw the page of zeros or nothing; the page got a frame, or none was given
abbrev pub touched_at : ℕ → ℕ → Bool → Option ℕ → Option (Page × ℕ) → TouchOutcome
touched_at pid v zero frame given =
    record { frame = frame; undo = Some (record { pid = pid; vpn = v; zero = zero; given = given }) }

-- a process sees at a page number what it saw before: the page of zeros, or nothing
abbrev pub seen_before : State → Option Process → ℕ → ℕ → Bool → State
seen_before s None pid v zero = s
seen_before s (Some p) pid v zero = record s { processes = replace nat_cmp s.processes pid (seeing_before p v zero) }

-- a page loses its frame, which goes to the front of its own node's free list
abbrev pub given_back : State → Option (Page × ℕ) → State
given_back s None = s
given_back s (Some given) =
    record s {
      place = without page_cmp s.place given.0;
      bytes = without page_cmp s.bytes given.0;
      pins = without page_cmp s.pins given.0;
      free = (with_front (record { sizes = s.layout.sizes; lists = s.free }) given.1).lists;
    }

-- a touch is undone
abbrev pub undo_touch : State → Undo → State
undo_touch s u = given_back (seen_before s (get nat_cmp s.processes u.pid) u.pid u.vpn u.zero) u.given

-- touches are undone, the last first
abbrev pub all_undone : State → List Undo → State
all_undone s [] = s
all_undone s (u ∷ us) = undo_touch (all_undone s us) u

-- the page has this frame, has no pins, and nobody sees it
abbrev pub IsGiven : State → Option (Page × ℕ) → Type 0
IsGiven s None = Unit {0}
IsGiven s (Some given) =
    (get page_cmp s.place given.0 ≡ Some given.1) × (unwrap_or (get page_cmp s.pins given.0) 0 ≡ 0)
    × ((pid v : ℕ) → sight_at s pid v ≡ Some (Sees given.0) → ⊥)

-- a touch can be undone, and the state is then sound
pub record IsUndoable (s : State) (left : List ℕ) (u : Undo) : Type 0 where
  pub known : IsSome (get nat_cmp s.processes u.pid)
  pub seen : IsSome (sight_at s u.pid u.vpn)
  pub given : IsGiven (seen_before s (get nat_cmp s.processes u.pid) u.pid u.vpn u.zero) u.given
  pub sound : IsSoundInFlight (undo_touch s u) left

-- touches can be undone, the last first
abbrev pub CanUndo : State → List ℕ → List Undo → Type 0
CanUndo s left [] = Unit {0}
CanUndo s left (u ∷ us) = CanUndo s left us × IsUndoable (all_undone s us) left u

-- the page with its frame, if it had none before the touch
abbrev pub given_now : Page → Option ℕ → Option ℕ → Option (Page × ℕ)
given_now page (Some place) frame = None
given_now page None None = None
given_now page None (Some frame) = Some (page, frame)

-- how to undo a touch that found this: what was seen, and the page's frame, if any. The touch returned this frame
abbrev pub undo_of : ℕ → ℕ → Page → Option Sight → Option ℕ → Option ℕ → Option Undo
undo_of pid v page (Some (Sees q)) place frame = None
undo_of pid v page (Some ZeroPage) place None = None
undo_of pid v page (Some ZeroPage) place (Some frame) =
    Some (record { pid = pid; vpn = v; zero = true; given = given_now page place (Some frame) })
undo_of pid v page None place frame =
    Some (record { pid = pid; vpn = v; zero = false; given = given_now page place frame })

-- the list with another touch to undo, if there is one
abbrev pub with_undo : List Undo → Option Undo → List Undo
with_undo us None = us
with_undo us (Some u) = us ++ u ∷ []

-- all that could be undone can still be undone, with the same result
abbrev pub IsStillUndone : List ℕ → State → List Undo → State → List Undo → Type 0
IsStillUndone left old undos new more =
    CanUndo old left undos → CanUndo new left more × (all_undone new more ≡ all_undone old undos)
