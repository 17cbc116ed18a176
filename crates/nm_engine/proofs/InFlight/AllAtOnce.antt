-- Pages that move, and what is left to do for accesses, all at once.
use Rattle.std.proofs.Common.{◌≡◌, ◌≢◌, ℕ, ◌+◌, ◌<◌, ◌≤◌, List, [], ◌∷◌, ◌++◌, Bool, true, false, ◌||◌, cond, map, length, drop, refl, sym, ap, subst, ◌∙◌, arith, length-set, length-append, length-take, length-drop}
use Rattle.std.specs.Prelude.{Option, Some, None, IsSome, nat_lt, slice_set, if◌then◌else◌}
use Rattle.std.specs.List.{AllByRecursion, list_any, sum_by}
use Rattle.std.specs.Map.{values_of}
use Rattle.std.specs.Ordering.{is_eq}
use Rattle.std.specs.Cmp.{tied_itself}
use Rattle.std.proofs.lemmas.Bool.{or_left}
use Rattle.nm_types.specs.declared.page.Page.{Page}
use Rattle.nm_types.specs.Layout.{frame_count, node_count, node_of}
use Rattle.nm_types.specs.Map.{Map, get, page_cmp, same_page, with_values}
use Rattle.nm_types.specs.State.{State}
use Rattle.nm_types.proofs.Maps.{page_cmp_total, keys-values}
use Rattle.nm_model.specs.definitions.Frames.{Store, IsHome, overwrite}
use Rattle.nm_types.specs.declared.page_move.PageMove.{PageMove}
use Rattle.nm_spaces.specs.views.AddressSpaces.{AddressSpacesView, with_moved, table_of}
use Rattle.nm_pool.specs.views.Populated.{IsPopulated}
use Rattle.nm_pool.specs.views.Copies.{without_move, without_moves, with_copies, CanCopy, HasBoth}
use Rattle.nm_pool.specs.views.Frames.{FramesView, HasAllFrames, free_on}
use Rattle.nm_model.specs.definitions.Touch.{AccessResults}
use Rattle.nm_laws.specs.Laws.{with_moves}
use Rattle.nm_engine.specs.views.RunState.{RunState, IsSoundMachine}
use Rattle.nm_laws.specs.Moves.{CanMove}
use Rattle.nm_spaces.specs.definitions.Moves.{CanRemap, all_moved}
use Rattle.nm_model.specs.definitions.Run.{frames_left}
use Rattle.nm_engine.specs.views.Shown.{shown_by, paged_frames}
use Rattle.nm_model.specs.definitions.Sound.{times, IsSoundInFlight, IsSound}
use Rattle.nm_model.specs.definitions.BeforeCopy.{PendingAccess, Known, ToRead, ToWrite, at_page, with_written, after_copy, all_after_copy, frames_taken, with_fronts, IsInside, IsPending}
use Rattle.nm_pool.specs.definitions.AfterCopy.{StoreAfterCopy, all_stored_after_copy, IsIn, CanDo}
use Rattle.nm_laws.proofs.Soundness.Frames.{here, times_cons}
use Rattle.nm_laws.proofs.Soundness.Contents.{bytes_sound}
use Rattle.nm_laws.proofs.Soundness.Once.{counted_place}
use Rattle.nm_engine.proofs.Shown.Moves.{by_parts, all_carried, all_taken, tos_are, IsCarried, is_carried, carried_copy}
use Rattle.nm_pool.proofs.Copies.Copied.{stays_home, stays_populated, copies_home}
use Rattle.nm_engine.proofs.Shown.PopulatedFrames.{place_populated, left_populated, all_leave, both_populated}
use Rattle.nm_pool.proofs.Copies.Populated.{copies_populated}
use Rattle.nm_laws.proofs.Seen.Frames.{place_in_range}
use Rattle.nm_engine.proofs.InFlight.AfterCopy.{all_done_shows, finished_as}
use Rattle.nm_laws.proofs.Early.Kept.{beside}
use Rattle.nm_laws.proofs.Early.Phases.{pages_of, again_list}

-- ---- bytes that are written keep a machine sound

all_whole : (bytes : Map Page (List ℕ)) (p : Page) (at : ℕ) (new : List ℕ) → at + length new ≤ 4096 → AllByRecursion (λ e. length e.1 ≡ 4096) bytes
    → AllByRecursion (λ e. length e.1 ≡ 4096) (with_values (at_page p (λ old. overwrite old at new)) bytes)
all_whole [] p at new fits whole = tt
all_whole (e ∷ bytes) p at new fits whole = (
  elim (same_page e.0 p) as (λ b. length (if b then overwrite e.1 at new else e.1) ≡ 4096) [
    | true ↦ let old = whole.0 in simp (length-append, length-take, length-drop) (omega (arith, old, fits))
    | false ↦ whole.0
  ],
  all_whole bytes p at new fits whole.1,
)

written_sound : (s : State) (l : List ℕ) (p : Page) (at : ℕ) (new : List ℕ) → at + length new ≤ 4096 → IsSoundInFlight s l → IsSoundInFlight (with_written s p at new) l
written_sound s l p at new fits h =
    bytes_sound s l (with_values (at_page p (λ old. overwrite old at new)) s.bytes)
    (record { same_pages = keys-values (at_page p (λ old. overwrite old at new)) s.bytes ∙ h.bytes.same_pages; whole = all_whole s.bytes p at new fits h.bytes.whole })
    h

made_sound : (s : State) (l : List ℕ) (d : PendingAccess) → IsInside d → IsSoundInFlight s l → IsSoundInFlight (after_copy s d) l
made_sound s l (Known answer) inside h = h
made_sound s l (ToRead page at len) inside h = h
made_sound s l (ToWrite page at new) inside h = written_sound s l page at new inside h

pub all_made_sound : (all_due : List PendingAccess) (s : State) (l : List ℕ) → AllByRecursion IsInside all_due → IsSoundInFlight s l → IsSoundInFlight (all_after_copy s all_due).state l
all_made_sound [] s l inside h = h
all_made_sound (d ∷ all_due) s l inside h = all_made_sound all_due (after_copy s d) l inside.1 (made_sound s l d inside.0 h)

all_inside : (all_due : List PendingAccess) (moved : List Page) (s : State) → AllByRecursion (IsPending moved s) all_due → AllByRecursion IsInside all_due
all_inside [] moved s due = tt
all_inside (d ∷ all_due) moved s due = (due.0.2, all_inside all_due moved s due.1)

-- ---- pages that do not move, while others do

no : true ≡ false → ⊥
no e = cc

moved_beside : (taken : List PageMove) (y : AddressSpacesView) (p : Page) → list_any (same_page p) (pages_of taken) ≡ false → get page_cmp (all_moved y taken).place p ≡ get page_cmp y.place p
moved_beside [] y p other = refl
moved_beside (t ∷ taken) y p other =
    moved_beside taken (with_moved y t.page t.to) p (neither (same_page p t.page) _ other)
    ∙ beside y.place t.page p t.to (λ e. no (sym (or_left (same_page p t.page) _ (ap (λ q. same_page q t.page) e ∙ ap is_eq (tied_itself page_cmp_total t.page))) ∙ other))
  where
    neither : (a b : Bool) → (a || b) ≡ false → b ≡ false
    neither true b e = absurd (no e)
    neither false b e = e

one_here : (f : ℕ) → here f f ≡ 1
one_here f = ap (λ b. cond b 1 0) (Rattle.std.proofs.Common.eq-eqb f f refl)

none_here : (f g : ℕ) (xs : List ℕ) → times f (g ∷ xs) ≡ 0 → f ≢ g
none_here f g xs none e = let one : here f g ≡ 1 = ap (here f) (sym e) ∙ one_here f in omega (arith, none, one, times_cons f g xs)

populated_meanwhile : (taken : List PageMove) (store : Store) (f : ℕ) → times f (frames_left taken) ≡ 0 → times f (frames_taken taken) ≡ 0 → IsPopulated store f → IsPopulated (without_moves store taken) f
populated_meanwhile [] store f from to whole = whole
populated_meanwhile (t ∷ taken) store f from to whole =
    populated_meanwhile taken (without_move store t) f (omega (arith, from, times_cons f t.from (frames_left taken))) (omega (arith, to, times_cons f t.to (frames_taken taken)))
    (stays_populated store t f (none_here f t.from (frames_left taken) from) (none_here f t.to (frames_taken taken) to) whole)

home_meanwhile : (taken : List PageMove) (store : Store) (f : ℕ) → times f (frames_left taken) ≡ 0 → times f (frames_taken taken) ≡ 0 → IsHome store f → IsHome (without_moves store taken) f
home_meanwhile [] store f from to home = home
home_meanwhile (t ∷ taken) store f from to home =
    home_meanwhile taken (without_move store t) f (omega (arith, from, times_cons f t.from (frames_left taken))) (omega (arith, to, times_cons f t.to (frames_taken taken)))
    (stays_home store t f (none_here f t.from (frames_left taken) from) (none_here f t.to (frames_taken taken) to) home)

none_more : (a b c : ℕ) (t : Bool) → a + b + c ≡ cond t 1 0 → 1 ≤ a → c ≡ 0
none_more a b c true e h = omega (arith, e, h)
none_more a b c false e h = omega (arith, e, h)

-- a page's frame is not one that a run has left or taken
placed_apart : (s : State) (l : List ℕ) (p : Page) (f : ℕ) → IsSoundInFlight s l → get page_cmp s.place p ≡ Some f → times f l ≡ 0
placed_apart s l p f h placed = none_more (times f (values_of s.place)) (sum_by (times f) s.free) (times f l) (nat_lt f (frame_count s.layout)) (h.frames.once f) (counted_place s.place p f placed)

-- ---- all at once

module _ (y : AddressSpacesView) (k : FramesView) (online : List ℕ) (moved failed target : ℕ) (taken : List PageMove) (all_due : List PendingAccess) where
  -- the frames as if those that are taken were still a node's
  abbrev pub given : FramesView
  given = record k { free = slice_set k.free target (frames_taken taken ++ free_on k target); vacated = [] }

  -- the pages moved, and copied
  abbrev pub spaces_then : AddressSpacesView
  spaces_then = all_moved y taken

  abbrev pub frames_then : FramesView
  frames_then = record k { frames = with_copies k.frames taken; vacated = frames_left taken }

  abbrev pub state_given : State
  state_given = shown_by y given online moved failed

  -- what holds before
  pub record IsPrepared : Type 0 where
    pub kept : IsSoundMachine (shown_by y k online moved failed) k.vacated y.frames
    pub reserved : k.vacated ≡ frames_taken taken
    pub shelf : HasAllFrames k
    pub inside : target < length k.free
    pub back : IsSound state_given
    pub can : CanMove state_given target taken
    pub due : AllByRecursion (IsPending (pages_of taken) (shown_by y k online moved failed)) all_due
    pub populated : AllByRecursion (IsPopulated k.frames) k.vacated

  -- by what is known of the machine
  pub prepared : (x : RunState) → record { state = shown_by y k online moved failed; left = k.vacated; room = k.room } ≡ x → IsSoundMachine (shown_by y k online moved failed) k.vacated y.frames → HasAllFrames k
      → target < node_count x.state.layout → x.left ≡ frames_taken taken → IsSound (with_fronts (x.state) target (frames_taken taken)) → CanMove (with_fronts (x.state) target (frames_taken taken)) target taken
      → AllByRecursion (IsPending (pages_of taken) (x.state)) all_due → AllByRecursion (IsPopulated k.frames) k.vacated → IsPrepared
  prepared x is kept shelf inside taken_now sound can due populated =
      let same = ap (λ (z : RunState). node_count z.state.layout) is in
      record {
        kept = kept;
        reserved = ap (λ (z : RunState). z.left) is ∙ taken_now;
        shelf = shelf;
        inside = omega (arith, same, shelf.lists, inside);
        back = subst (λ (z : RunState). IsSound (with_fronts (z.state) target (frames_taken taken))) (sym is) sound;
        can = subst (λ (z : RunState). CanMove (with_fronts (z.state) target (frames_taken taken)) target taken) (sym is) can;
        due = subst (λ (z : RunState). AllByRecursion (IsPending (pages_of taken) (z.state)) all_due) (sym is) due;
        populated = populated;
      }

  -- the frames that pages leave have their bytes in memory
  lefts : IsSound state_given → CanMove state_given target taken → AllByRecursion (IsPopulated k.frames) (frames_left taken)
  lefts sound can =
      let on : AllByRecursion (λ f. node_of k.layout f ≡ target) (frames_taken taken) =
      subst (AllByRecursion (λ f. node_of k.layout f ≡ target)) (sym (tos_are taken state_given target can)) (all_taken (length taken) (free_on given target) k.layout target (sound.frames.own target)) in
      left_populated taken state_given target k.frames sound.bytes.whole (all_leave taken state_given target on can)

  pub lefts_populated : (x : RunState) → record { state = shown_by y k online moved failed; left = k.vacated; room = k.room } ≡ x
      → IsSound (with_fronts (x.state) target (frames_taken taken)) → CanMove (with_fronts (x.state) target (frames_taken taken)) target taken → AllByRecursion (IsPopulated k.frames) (frames_left taken)
  lefts_populated x is sound can =
      lefts (subst (λ (z : RunState). IsSound (with_fronts (z.state) target (frames_taken taken))) (sym is) sound) (subst (λ (z : RunState). CanMove (with_fronts (z.state) target (frames_taken taken)) target taken) (sym is) can)

  module _ (h : IsPrepared) where
    shelf_given : HasAllFrames given
    shelf_given = record { lists = length-set k.free target (frames_taken taken ++ free_on k target) ∙ h.shelf.lists; buffers = h.shelf.buffers; home = h.shelf.home }

    inside_given : target < length given.free
    inside_given = omega (arith, h.inside, length-set k.free target (frames_taken taken ++ free_on k target))

    kept_given : IsSoundMachine state_given [] y.frames
    kept_given = record { sound = h.back; as_many = h.kept.as_many }

    done : IsCarried y given online moved failed target taken
    done = is_carried taken y given online moved failed target kept_given shelf_given h.can

    pub remap : CanRemap y taken
    remap = done.remap

    pub can_copy : CanCopy k.frames taken
    can_copy = carried_copy taken y given online moved failed target kept_given shelf_given inside_given h.can done

    pub both_whole : AllByRecursion (HasBoth k.frames) taken
    both_whole = both_populated taken k.frames (lefts h.back h.can) (subst (AllByRecursion (IsPopulated k.frames)) h.reserved h.populated)

    all_is : all_carried target given taken ≡ frames_then
    all_is = by_parts taken target given inside_given ∙ ap (λ (f : List (List ℕ)). record frames_then { free = f }) (again_list taken k.free target h.inside)

    shows : shown_by spaces_then frames_then online moved failed ≡ with_moves state_given target taken
    shows = ap (λ (x : FramesView). shown_by spaces_then x online moved failed) (sym all_is) ∙ done.shown

    kept_then : IsSoundMachine (shown_by spaces_then frames_then online moved failed) (frames_left taken) spaces_then.frames
    kept_then = subst (λ (x : FramesView). IsSoundMachine (shown_by spaces_then x online moved failed) x.vacated spaces_then.frames) all_is done.kept

    -- frames that no move names are home and have their bytes in memory
    abbrev Beside : Store → Type 0
    Beside store =
        (f : ℕ) → times f (frames_left taken) ≡ 0 → times f (frames_taken taken) ≡ 0 → IsHome k.frames f → IsPopulated k.frames f → IsHome store f × IsPopulated store f

    -- the page of what is due is in a frame that is home during the run
    page_in : (store : Store) → Beside store
        → (p : Page) (at len : ℕ) (o : Option ℕ) → get page_cmp y.place p ≡ o → IsSome o → list_any (same_page p) (pages_of taken) ≡ false → at + len ≤ 4096 → IsIn spaces_then.place store p at len
    page_in store homes p at len None e some other fits = cc
    page_in store homes p at len (Some f) e some other fits =
        let placed : get page_cmp spaces_then.place p ≡ Some f = moved_beside taken y p other ∙ e in
        let there = homes f (placed_apart (shown_by spaces_then frames_then online moved failed) (frames_left taken) p f kept_then.sound placed)
        (subst (λ (l : List ℕ). times f l ≡ 0) h.reserved (placed_apart (shown_by y k online moved failed) k.vacated p f h.kept.sound e))
        (h.shelf.home f (place_in_range (shown_by y k online moved failed) k.vacated p f h.kept.sound e))
        (place_populated k.frames y.place p f h.kept.sound.bytes.whole e) in
        record { frame = f; placed = placed; home = there.0; populated = there.1; inside = fits }

    one_can : (store : Store) → Beside store
        → (d : PendingAccess) → IsPending (pages_of taken) (shown_by y k online moved failed) d → CanDo spaces_then.place store d
    one_can store homes (Known answer) due = tt
    one_can store homes (ToRead page at len) due = page_in store homes page at len (get page_cmp y.place page) refl due.0 due.1 due.2
    one_can store homes (ToWrite page at new) due = page_in store homes page at (length new) (get page_cmp y.place page) refl due.0 due.1 due.2

    all_can : (store : Store) → Beside store
        → (ds : List PendingAccess) → AllByRecursion (IsPending (pages_of taken) (shown_by y k online moved failed)) ds → AllByRecursion (CanDo spaces_then.place store) ds
    all_can store homes [] due = tt
    all_can store homes (d ∷ ds) due = (one_can store homes d due.0, all_can store homes ds due.1)

    pub can_meanwhile : AllByRecursion (CanDo spaces_then.place (without_moves k.frames taken)) all_due
    can_meanwhile = all_can (without_moves k.frames taken) (λ f from to home whole. (home_meanwhile taken k.frames f from to home, populated_meanwhile taken k.frames f from to whole)) all_due h.due

    can_after : AllByRecursion (CanDo spaces_then.place (with_copies k.frames taken)) all_due
    can_after = all_can (with_copies k.frames taken) (λ f from to home whole. (copies_home taken k.frames f home, copies_populated taken k.frames f both_whole whole)) all_due h.due

    abbrev pub finished : StoreAfterCopy
    finished = all_stored_after_copy spaces_then.place (with_copies k.frames taken) all_due

    both : finished_as spaces_then.processes (table_of spaces_then) online moved failed (paged_frames spaces_then frames_then) kept_then.sound.order.place kept_then.sound.apart finished ≡ all_after_copy (with_moves state_given target taken) all_due
    both =
        all_done_shows spaces_then.processes (table_of spaces_then) online moved failed (paged_frames spaces_then frames_then) kept_then.sound.order.place kept_then.sound.apart all_due (with_copies k.frames taken) can_after
        ∙ ap (λ (s : State). all_after_copy s all_due) shows

    pub finished_shows : (z : FramesView) → z ≡ record k { frames = finished.store; vacated = frames_left taken; room = z.room } → shown_by spaces_then z online moved failed ≡ (all_after_copy (with_moves state_given target taken) all_due).state
    finished_shows z is = ap (λ (x : FramesView). shown_by spaces_then x online moved failed) is ∙ ap (λ (x : AccessResults). x.state) both

    pub finished_kept : (z : FramesView) → z ≡ record k { frames = finished.store; vacated = frames_left taken; room = z.room } → IsSoundMachine (shown_by spaces_then z online moved failed) z.vacated spaces_then.frames
    finished_kept z is =
        record {
          sound = subst (λ (l : List ℕ). IsSoundInFlight (shown_by spaces_then z online moved failed) l) (sym (ap (λ (x : FramesView). x.vacated) is))
              (subst (λ (s : State). IsSoundInFlight s (frames_left taken)) (sym (finished_shows z is))
              (all_made_sound all_due (with_moves state_given target taken) (frames_left taken) (all_inside all_due (pages_of taken) (shown_by y k online moved failed) h.due)
              (subst (λ (s : State). IsSoundInFlight s (frames_left taken)) shows kept_then.sound)));
          as_many = kept_then.as_many ∙ sym (ap (λ (x : FramesView). frame_count x.layout) is);
        }
