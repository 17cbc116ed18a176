-- Undoing touches restores what was there.
use Rattle.std.proofs.Common.{◌≡◌, ℕ, ◌<◌, List, [], ◌∷◌, ◌++◌, Bool, true, false, cond, length, refl, sym, ap, subst, ◌∙◌, arith}
use Rattle.std.specs.Prelude.{Option, Some, None, IsSome, Result, Ok, Err, drop, replicate, slice_index, slice_index_or, slice_set, if◌then◌else◌}
use Rattle.std.specs.Option.{unwrap_or}
use Rattle.std.specs.BTreeMap.{is_at}
use Rattle.std.specs.List.{AllByRecursion}
use Rattle.std.specs.List.Sorted.{IsStrictlySortedBy}
use Rattle.std.specs.Map.{keys_of}
use Rattle.std.specs.Ordering.{nat_cmp, is_eq}
use Rattle.std.specs.Cmp.{nat_cmp_total, tied_itself}
use Rattle.std.proofs.lemmas.Bool.{lt-ltb}
use Rattle.std.proofs.lemmas.List.{get_or-set_same, set-set, set-get_or}
use Rattle.std.proofs.lemmas.Map.Lookups.{exact_unsigned}
use Rattle.std.proofs.lemmas.Map.Steps.{set_value_same}
use Rattle.nm_types.specs.declared.page.Page.{Page}
use Rattle.nm_types.specs.declared.errno.Errno.{Errno}
use Rattle.nm_types.specs.declared.sight.Sight.{Sight}
use Rattle.nm_types.specs.declared.sight.Sight.TheVariants.{ZeroPage, Sees}
use Rattle.nm_types.specs.Layout.{owner, node_of, frame_count}
use Rattle.nm_types.specs.Map.{Map, get, set, replace, page_cmp}
use Rattle.nm_types.specs.State.{Process, State, PlacedArea, free_list, page_of}
use Rattle.nm_types.proofs.Cases.{none_is_not, some_is}
use Rattle.nm_types.proofs.Maps.{page_cmp_total, exact_page, equal, get-set, get-replace, without-set, with_values-without}
use Rattle.nm_types.proofs.Keys.{All-get, sorted-set, some_from_keys}
use Rattle.nm_model.specs.definitions.Seen.{sight_in, sight_at}
use Rattle.nm_model.specs.definitions.Areas.{is_shared}
use Rattle.nm_model.specs.definitions.Frames.{with_front}
use Rattle.nm_model.specs.definitions.Order.{first_touch_order}
use Rattle.nm_engine.specs.declared.resolved_address.ResolvedAddress.{ResolvedAddress}
use Rattle.nm_engine.specs.declared.prepared_run.undo.Undo.{Undo}
use Rattle.nm_model.specs.definitions.Frames.{bytes_of}
use Rattle.nm_spaces.specs.views.AddressSpaces.{AddressSpacesView, with_before, without_page}
use Rattle.nm_pool.specs.views.Frames.{FramesView, CanFree, pool_of}
use Rattle.nm_engine.specs.views.RunState.{IsSoundMachine}
use Rattle.nm_engine.specs.views.Parts.{IsSiteOf, access_site}
use Rattle.nm_engine.specs.views.Shown.{shown_by}
use Rattle.nm_model.specs.definitions.Seen.{frame_of, frame_seen}
use Rattle.nm_model.specs.definitions.Sound.{holders, IsSoundInFlight}
use Rattle.nm_model.specs.definitions.Effect.{seeing_before}
use Rattle.nm_types.specs.declared.machine_error.MachineError.{MachineError}
use Rattle.nm_types.specs.declared.machine_error.MachineError.TheVariants as error
use Rattle.nm_engine.specs.definitions.Does.{Touches}
use Rattle.nm_model.specs.definitions.Touch.{AccessSite, shown_at, with_sight, first_free, allocate_page, fill_page, share_page, touch_sight}
use Rattle.nm_engine.specs.definitions.Undo.{seen_before, given_back, undo_touch, all_undone, IsGiven, IsUndoable, CanUndo, IsStillUndone, given_now, undo_of, with_undo}
use Rattle.nm_laws.proofs.Seen.Sights.{IsSpot, page_at_spot, sight_here}
use Rattle.nm_laws.proofs.Soundness.Allocated.{placed_front}
use Rattle.nm_laws.proofs.Soundness.Once.{counted_place}
use Rattle.nm_laws.proofs.Soundness.Touched.{private_unplaced}
use Rattle.nm_spaces.proofs.ProcessTable.Changes.{same_tables, replace_twice}
use Rattle.nm_laws.proofs.Soundness.Counted.{front_is, part_of, not_in}
use Rattle.nm_engine.proofs.Shown.FrameChanges.{front_got}
use Rattle.nm_engine.proofs.Does.Touches.{found_free, short_list, get_set_same, spot_there}
use Rattle.nm_laws.proofs.Seen.Frames.{none_sees, zero_sees, place_in_range}

-- ---- one touch more

pub all_undone-push : (s : State) (us : List Undo) (u : Undo) → all_undone s (us ++ u ∷ []) ≡ all_undone (undo_touch s u) us
all_undone-push s [] u = refl
all_undone-push s (x ∷ us) u = ap (λ t. undo_touch t x) (all_undone-push s us u)

pub can_push : (s : State) (l : List ℕ) (us : List Undo) (u : Undo) → IsUndoable s l u → CanUndo (undo_touch s u) l us → CanUndo s l (us ++ u ∷ [])
can_push s l [] u h k = (tt, h)
can_push s l (x ∷ us) u h k = (can_push s l us u h k.0, subst (λ t. IsUndoable t l x) (sym (all_undone-push s us u)) k.1)

pub can_pop : (s : State) (l : List ℕ) (us : List Undo) (u : Undo) → CanUndo s l (us ++ u ∷ []) → IsUndoable s l u × CanUndo (undo_touch s u) l us
can_pop s l [] u h = (h.1, tt)
can_pop s l (x ∷ us) u h = let rest = can_pop s l us u h.0 in (rest.0, (rest.1, subst (λ t. IsUndoable t l x) (all_undone-push s us u) h.1))

-- undoing a touch restores the state
pub IsTakenBack : State → List ℕ → State → Option Undo → Type 0
IsTakenBack s l new None = new ≡ s
IsTakenBack s l new (Some u) = IsUndoable new l u × (undo_touch new u ≡ s)

pub still_undone : (s : State) (l : List ℕ) (new : State) (us : List Undo) (o : Option Undo) → IsTakenBack s l new o → IsStillUndone l s us new (with_undo us o)
unfolding IsTakenBack
still_undone s l new us None e can = (subst (λ t. CanUndo t l us) (sym e) can, ap (λ t. all_undone t us) e)
still_undone s l new us (Some u) h can = (can_push new l us u h.0 (subst (λ t. CanUndo t l us) (sym h.1) can), all_undone-push new us u ∙ ap (λ t. all_undone t us) h.1)

pub same_undone : (s : State) (l : List ℕ) (new : State) (us more : List Undo) → new ≡ s → more ≡ us → IsStillUndone l s us new more
same_undone s l new us more e m can = (subst (λ t. CanUndo t l more) (sym e) (subst (CanUndo s l) (sym m) can), (λ i. all_undone (e i) (m i)))

-- what was refused changed nothing
pub touches_err : (e : MachineError) (old new : State) (found : Result State Errno) → Touches {T = Option ℕ} (Err e) old new found → new ≡ old
touches_err (error.Refused e) old new found h = h.1
touches_err error.HostMemory old new found h = h

-- ---- maps and lists that are as they were

set_back : {V : Type 0} (m : Map ℕ V) (k : ℕ) (x v : V) → IsStrictlySortedBy nat_cmp (keys_of m) → get nat_cmp m k ≡ Some v → set nat_cmp (set nat_cmp m k x) k v ≡ m
set_back m k x v sorted found =
    same_tables (set nat_cmp (set nat_cmp m k x) k v) m (sorted-set nat_cmp nat_cmp_total (set nat_cmp m k x) k v (sorted-set nat_cmp nat_cmp_total m k x sorted)) sorted (λ q.
    get-set nat_cmp_total (set nat_cmp m k x) k v q
    ∙ ap (cond (is_eq (nat_cmp q k)) (Some v)) (get-set nat_cmp_total m k x q)
    ∙ elim (is_eq (nat_cmp q k)) as (λ b. is_eq (nat_cmp q k) ≡ b → cond b (Some v) (cond b (Some x) (get nat_cmp m q)) ≡ get nat_cmp m q) [
      | true ↦ λ b. sym (ap (get nat_cmp m) (exact_unsigned q k (equal _ b)) ∙ found)
      | false ↦ λ b. refl
    ] refl)

none_from_keys : {V W : Type 0} (m : Map Page V) (n : Map Page W) (p : Page) → keys_of m ≡ keys_of n → get page_cmp n p ≡ None → get page_cmp m p ≡ None
none_from_keys {W = W} m n p e none =
    elim (get page_cmp m p) as (λ o. get page_cmp m p ≡ o → o ≡ None) [
      | None ↦ λ o. refl
      | Some x ↦ λ o. absurd (none_is_not W (subst IsSome none (some_from_keys page_cmp m n p e (subst IsSome (sym o) refl))))
    ] refl

-- a front that was taken is put back
free_back : (sizes : List ℕ) (free : List (List ℕ)) (node f : ℕ) (rest : List ℕ) → slice_index_or free node [] ≡ f ∷ rest → owner sizes f ≡ node → node < length free
    → (with_front (record { sizes = sizes; lists = slice_set free node rest }) f).lists ≡ free
free_back sizes free node f rest front own below =
    let lists = slice_set free node rest in
    ap (λ n. slice_set lists n (f ∷ slice_index_or lists n [])) own
    ∙ ap (λ ns. slice_set lists node (f ∷ ns)) (get_or-set_same free node rest [] below)
    ∙ set-set free node rest (f ∷ rest)
    ∙ ap (slice_set free node) (sym front) ∙ set-get_or free node []

-- ---- what a process saw

module _ (s : State) (at : AccessSite) (i : IsSpot s at) (x : Sight) where
  found_now : get nat_cmp (with_sight s at x).processes at.pid ≡ Some (record (at.process) { sees = set nat_cmp at.process.sees at.vpn x })
  found_now =
      let new : Process = record (at.process) { sees = set nat_cmp at.process.sees at.vpn x } in
      get-replace nat_cmp_total exact_unsigned s.processes at.pid new at.pid (subst IsSome (sym i.process) refl)
      ∙ ap (λ r. cond (is_eq r) (Some new) (get nat_cmp s.processes at.pid)) (tied_itself nat_cmp_total at.pid)

  seen_back : (zero : Bool) → seeing_before (record (at.process) { sees = set nat_cmp at.process.sees at.vpn x }) at.vpn zero ≡ at.process
      → seen_before (with_sight s at x) (get nat_cmp (with_sight s at x).processes at.pid) at.pid at.vpn zero ≡ s
  seen_back zero e =
      let new : Process = record (at.process) { sees = set nat_cmp at.process.sees at.vpn x } in
      ap (λ o. seen_before (with_sight s at x) o at.pid at.vpn zero) found_now
      ∙ ap (λ ps. record s { processes = ps })
      (replace_twice s.processes at.pid new (seeing_before new at.vpn zero) ∙ ap (replace nat_cmp s.processes at.pid) e ∙ set_value_same (is_at (nat_cmp at.pid)) s.processes at.process i.process)

-- no error
abbrev okay : State → Result State Errno
okay t = Ok t

ok_is : {t u : State} → okay t ≡ Ok u → t ≡ u
ok_is e = cc

err_ok : {e : Errno} {t : State} → Err e ≡ okay t → ⊥
err_ok e = cc

module _ (s : State) (l : List ℕ) (at : AccessSite) (h : IsSoundInFlight s l) (i : IsSpot s at) where
  sees_sorted : IsStrictlySortedBy nat_cmp (keys_of at.process.sees)
  sees_sorted = All-get nat_cmp (λ q. IsStrictlySortedBy nat_cmp (keys_of q.sees)) s.processes at.pid at.process h.order.sees i.process

  -- it saw nothing, or the page of zeros
  nothing_before : (x : Sight) → get nat_cmp at.process.sees at.vpn ≡ None → seeing_before (record (at.process) { sees = set nat_cmp at.process.sees at.vpn x }) at.vpn false ≡ at.process
  nothing_before x none = ap (λ es. record (at.process) { sees = es }) (without-set nat_cmp_total exact_unsigned at.process.sees at.vpn x sees_sorted none)

  zero_before : (x : Sight) → get nat_cmp at.process.sees at.vpn ≡ Some ZeroPage → seeing_before (record (at.process) { sees = set nat_cmp at.process.sees at.vpn x }) at.vpn true ≡ at.process
  zero_before x zero = ap (λ es. record (at.process) { sees = es }) (set_back at.process.sees at.vpn x ZeroPage sees_sorted zero)

  -- it sees something, and no page got a frame
  seen_alone : (x : Sight) → get nat_cmp at.process.sees at.vpn ≡ None → IsTakenBack s l (with_sight s at x) (Some (record { pid = at.pid; vpn = at.vpn; zero = false; given = None }))
  unfolding IsTakenBack
  seen_alone x none =
      let is = seen_back s at i x false (nothing_before x none) in (
        record {
          known = subst IsSome (sym (found_now s at i x)) refl;
          seen = subst IsSome (sym (sight_here s at x i)) refl;
          given = tt;
          sound = subst (λ t. IsSoundInFlight t l) (sym is) h;
        },
        is,
      )

  -- the page gets the front frame of a node
  module _ (node : ℕ) (unplaced : get page_cmp s.place (shown_at at) ≡ None) (some : 0 < length (free_list s node)) where
    front : free_list s node ≡ slice_index (free_list s node) 0 ∷ drop 1 (free_list s node)
    front = front_is (free_list s node) (slice_index (free_list s node) 0) (front_got (free_list s node) some)

    page_back : given_back (placed_front s node (free_list s node) (shown_at at)) (Some (shown_at at, slice_index (free_list s node) 0)) ≡ s
    page_back =
        let p = shown_at at in
        let f = slice_index (free_list s node) 0 in
        let place = without-set page_cmp_total exact_page s.place p f h.order.place unplaced in
        let bytes = without-set page_cmp_total exact_page s.bytes p (replicate 4096 0) (subst (IsStrictlySortedBy page_cmp) (sym h.bytes.same_pages) h.order.place) (none_from_keys s.bytes s.place p h.bytes.same_pages unplaced) in
        let pins = without-set page_cmp_total exact_page s.pins p 0 (subst (IsStrictlySortedBy page_cmp) (sym h.pins.same_pages) h.order.place) (none_from_keys s.pins s.place p h.pins.same_pages unplaced) in
        let own = (subst (AllByRecursion (λ k. node_of s.layout k ≡ node)) front (h.frames.own node)).0 in
        let free = free_back s.layout.sizes s.free node f (drop 1 (free_list s node)) front own (short_list s.free node some) in
        λ j. record s { place = place j; bytes = bytes j; pins = pins j; free = free j }

    is_given : IsGiven (placed_front s node (free_list s node) (shown_at at)) (Some (shown_at at, slice_index (free_list s node) 0))
    is_given = (
      get_set_same s.place (shown_at at) (slice_index (free_list s node) 0),
      ap (λ o. unwrap_or o 0) (get_set_same s.pins (shown_at at) 0),
      λ q w e. none_is_not ℕ (subst IsSome unplaced (h.shown q w (shown_at at) e).1),
    )

    given_too : (zero : Bool) → seeing_before (record (at.process) { sees = set nat_cmp at.process.sees at.vpn (Sees (shown_at at)) }) at.vpn zero ≡ at.process
        → IsTakenBack s l (with_sight (placed_front s node (free_list s node) (shown_at at)) at (Sees (shown_at at)))
        (Some (record { pid = at.pid; vpn = at.vpn; zero = zero; given = Some (shown_at at, slice_index (free_list s node) 0) }))
    unfolding IsTakenBack
    given_too zero e =
        let middle = placed_front s node (free_list s node) (shown_at at) in
        let there : IsSpot middle at = record { process = i.process; area = i.area } in
        let given : Option (Page × ℕ) = Some (shown_at at, slice_index (free_list s node) 0) in
        let seen = seen_back middle at there (Sees (shown_at at)) zero e in
        let is = ap (λ t. given_back t given) seen ∙ page_back in (
          record {
            known = subst IsSome (sym (found_now middle at there (Sees (shown_at at)))) refl;
            seen = subst IsSome (sym (sight_here middle at (Sees (shown_at at)) there)) refl;
            given = subst (λ t. IsGiven t given) (sym seen) is_given;
            sound = subst (λ t. IsSoundInFlight t l) (sym is) h;
          },
          is,
        )

    frame_given : frame_seen (with_sight (placed_front s node (free_list s node) (shown_at at)) at (Sees (shown_at at))) at.pid at.vpn ≡ Some (slice_index (free_list s node) 0)
    frame_given =
        let middle = placed_front s node (free_list s node) (shown_at at) in
        let there : IsSpot middle at = record { process = i.process; area = i.area } in
        ap (frame_of middle.place) (sight_here middle at (Sees (shown_at at)) there) ∙ get_set_same s.place (shown_at at) (slice_index (free_list s node) 0)

  -- a page gets a frame
  allocated_back : (zero : Bool) (o : Option ℕ) (new : State) (frame : Option ℕ) → get page_cmp s.place (shown_at at) ≡ None → ((node : ℕ) → o ≡ Some node → 0 < length (free_list s node))
      → seeing_before (record (at.process) { sees = set nat_cmp at.process.sees at.vpn (Sees (shown_at at)) }) at.vpn zero ≡ at.process
      → allocate_page s at o ≡ Ok new → frame ≡ frame_seen new at.pid at.vpn → (g : ℕ) × (frame ≡ Some g) × IsTakenBack s l new (Some (record { pid = at.pid; vpn = at.vpn; zero = zero; given = Some (shown_at at, g) }))
  allocated_back zero None new frame unplaced some e found seen = absurd (err_ok found)
  allocated_back zero (Some node) new frame unplaced some e found seen =
      let is = ok_is found in
      let more = some node refl in (
        slice_index (free_list s node) 0,
        seen ∙ ap (λ t. frame_seen t at.pid at.vpn) (sym is) ∙ frame_given node unplaced more,
        subst (λ t. IsTakenBack s l t (Some (record { pid = at.pid; vpn = at.vpn; zero = zero; given = Some (shown_at at, slice_index (free_list s node) 0) }))) is (given_too node unplaced more zero e),
      )

  filled_back : (zero : Bool) (new : State) (frame : Option ℕ) → get page_cmp s.place (shown_at at) ≡ None
      → seeing_before (record (at.process) { sees = set nat_cmp at.process.sees at.vpn (Sees (shown_at at)) }) at.vpn zero ≡ at.process
      → fill_page s at ≡ Ok new → frame ≡ frame_seen new at.pid at.vpn → (g : ℕ) × (frame ≡ Some g) × IsTakenBack s l new (Some (record { pid = at.pid; vpn = at.vpn; zero = zero; given = Some (shown_at at, g) }))
  filled_back zero new frame unplaced e found seen =
      let order = first_touch_order s.layout s.online at.process.home at.process.allowed at.area.1.policy (shown_at at).index in
      allocated_back zero (first_free s.free order) new frame unplaced (λ node. found_free s.free order node) e found seen

  here_is : sight_at s at.pid at.vpn ≡ get nat_cmp at.process.sees at.vpn
  here_is = ap (λ o. sight_in o at.vpn) i.process

  filled_absent : (new : State) (frame : Option ℕ) → get page_cmp s.place (shown_at at) ≡ None → get nat_cmp at.process.sees at.vpn ≡ None → fill_page s at ≡ Ok new → frame ≡ frame_seen new at.pid at.vpn
      → IsTakenBack s l new (undo_of at.pid at.vpn (shown_at at) None (get page_cmp s.place (shown_at at)) frame)
  filled_absent new frame unplaced none found seen =
      let back = filled_back false new frame unplaced (nothing_before (Sees (shown_at at)) none) found seen in
      subst (λ o. IsTakenBack s l new (undo_of at.pid at.vpn (shown_at at) None (get page_cmp s.place (shown_at at)) o)) (sym back.1)
      (subst (λ o. IsTakenBack s l new (undo_of at.pid at.vpn (shown_at at) None o (Some back.0))) (sym unplaced) back.2)

  joined_back : (o : Option ℕ) (new : State) (frame : Option ℕ) → get page_cmp s.place (shown_at at) ≡ o → get nat_cmp at.process.sees at.vpn ≡ None → share_page s at o ≡ Ok new → frame ≡ frame_seen new at.pid at.vpn
      → IsTakenBack s l new (undo_of at.pid at.vpn (shown_at at) None (get page_cmp s.place (shown_at at)) frame)
  joined_back None new frame placed none found seen = filled_absent new frame placed none found seen
  joined_back (Some g) new frame placed none found seen =
      subst (λ o. IsTakenBack s l new (undo_of at.pid at.vpn (shown_at at) None o frame)) (sym placed)
      (subst (λ t. IsTakenBack s l t (Some (record { pid = at.pid; vpn = at.vpn; zero = false; given = None }))) (ok_is found) (seen_alone (Sees (shown_at at)) none))

  not_given : (o : Option ℕ) → given_now (shown_at at) o None ≡ None
  not_given None = refl
  not_given (Some g) = refl

  zero_seen : (new : State) (frame : Option ℕ) → get nat_cmp at.process.sees at.vpn ≡ None → okay (with_sight s at ZeroPage) ≡ Ok new → frame ≡ frame_seen new at.pid at.vpn
      → IsTakenBack s l new (undo_of at.pid at.vpn (shown_at at) None (get page_cmp s.place (shown_at at)) frame)
  zero_seen new frame none found seen =
      let is = ok_is found in
      let nothing : frame ≡ None = seen ∙ ap (λ t. frame_seen t at.pid at.vpn) (sym is) ∙ ap (frame_of s.place) (sight_here s at ZeroPage i) in
      subst (λ o. IsTakenBack s l new (undo_of at.pid at.vpn (shown_at at) None (get page_cmp s.place (shown_at at)) o)) (sym nothing)
      (subst (λ g. IsTakenBack s l new (Some (record { pid = at.pid; vpn = at.vpn; zero = false; given = g }))) (sym (not_given (get page_cmp s.place (shown_at at))))
      (subst (λ t. IsTakenBack s l t (Some (record { pid = at.pid; vpn = at.vpn; zero = false; given = None }))) is (seen_alone ZeroPage none)))

  -- nothing was seen
  absent_back : (writes : Bool) (new : State) (frame : Option ℕ) → get nat_cmp at.process.sees at.vpn ≡ None → touch_sight s at writes None ≡ Ok new → frame ≡ frame_seen new at.pid at.vpn
      → IsTakenBack s l new (undo_of at.pid at.vpn (shown_at at) None (get page_cmp s.place (shown_at at)) frame)
  absent_back writes new frame none found seen =
      elim (is_shared s.segments (shown_at at).segment) as (λ b. is_shared s.segments (shown_at at).segment ≡ b
      → (if b then share_page s at (get page_cmp s.place (shown_at at)) else (if writes then fill_page s at else Ok (with_sight s at ZeroPage))) ≡ Ok new
      → IsTakenBack s l new (undo_of at.pid at.vpn (shown_at at) None (get page_cmp s.place (shown_at at)) frame)) [
        | true ↦ λ b k. joined_back (get page_cmp s.place (shown_at at)) new frame refl none k seen
        | false ↦ λ b k. elim writes as (λ w. (if w then fill_page s at else Ok (with_sight s at ZeroPage)) ≡ Ok new → IsTakenBack s l new (undo_of at.pid at.vpn (shown_at at) None (get page_cmp s.place (shown_at at)) frame)) [
          | true ↦ λ k. filled_absent new frame (private_unplaced s l at h i (none_sees (here_is ∙ none)) b) none k seen
          | false ↦ λ k. zero_seen new frame none k seen
        ] k
      ] refl found

  -- the page of zeros was seen
  zero_back : (writes : Bool) (new : State) (frame : Option ℕ) → get nat_cmp at.process.sees at.vpn ≡ Some ZeroPage → get page_cmp s.place (shown_at at) ≡ None → touch_sight s at writes (Some ZeroPage) ≡ Ok new
      → frame ≡ frame_seen new at.pid at.vpn → IsTakenBack s l new (undo_of at.pid at.vpn (shown_at at) (Some ZeroPage) (get page_cmp s.place (shown_at at)) frame)
  unfolding IsTakenBack
  zero_back writes new frame zero unplaced found seen =
      elim writes as (λ w. (if w then fill_page s at else Ok s) ≡ Ok new → IsTakenBack s l new (undo_of at.pid at.vpn (shown_at at) (Some ZeroPage) (get page_cmp s.place (shown_at at)) frame)) [
        | true ↦ λ k.
            let back = filled_back true new frame unplaced (zero_before (Sees (shown_at at)) zero) k seen in
            subst (λ o. IsTakenBack s l new (undo_of at.pid at.vpn (shown_at at) (Some ZeroPage) (get page_cmp s.place (shown_at at)) o)) (sym back.1)
            (subst (λ o. IsTakenBack s l new (undo_of at.pid at.vpn (shown_at at) (Some ZeroPage) o (Some back.0))) (sym unplaced) back.2)
        | false ↦ λ k.
            let is = ok_is k in
            let nothing : frame ≡ None = seen ∙ ap (λ t. frame_seen t at.pid at.vpn) (sym is) ∙ ap (frame_of s.place) (here_is ∙ zero) in
            subst (λ o. IsTakenBack s l new (undo_of at.pid at.vpn (shown_at at) (Some ZeroPage) (get page_cmp s.place (shown_at at)) o)) (sym nothing) (sym is)
      ] found

zero_unplaced : (s : State) (l : List ℕ) (at : AccessSite) → IsSoundInFlight s l → IsSpot s at → sight_at s at.pid at.vpn ≡ Some ZeroPage → get page_cmp s.place (shown_at at) ≡ None
zero_unplaced s l at h i e =
    let zero = h.zeros at.pid at.vpn e in
    let same : zero.0 ≡ shown_at at = some_is (sym zero.1 ∙ page_at_spot s at i) in
    private_unplaced s l at h i (zero_sees e) (ap (λ (q : Page). is_shared s.segments q.segment) (sym same) ∙ zero.2)

-- whatever was seen
touch_back : (s : State) (l : List ℕ) (at : AccessSite) (writes : Bool) (o : Option Sight) (new : State) (frame : Option ℕ) → IsSoundInFlight s l → IsSpot s at → sight_at s at.pid at.vpn ≡ o
    → touch_sight s at writes o ≡ Ok new → frame ≡ frame_seen new at.pid at.vpn
    → IsTakenBack s l new (undo_of at.pid at.vpn (shown_at at) o (get page_cmp s.place (shown_at at)) frame)
unfolding IsTakenBack
touch_back s l at writes None new frame h i e found seen = absent_back s l at h i writes new frame (sym (here_is s l at h i) ∙ e) found seen
touch_back s l at writes (Some ZeroPage) new frame h i e found seen = zero_back s l at h i writes new frame (sym (here_is s l at h i) ∙ e) (zero_unplaced s l at h i e) found seen
touch_back s l at writes (Some (Sees q)) new frame h i e found seen = sym (ok_is found)

-- the same of a touch that was looked up
pub touched_back : (s : State) (l : List ℕ) (t : ResolvedAddress) (p : Process) (a : PlacedArea) (writes : Bool) (new : State) (frame : Option ℕ) → IsSoundInFlight s l → IsSiteOf s.processes s.areas t p a
    → touch_sight s (access_site t p a) writes (get nat_cmp p.sees t.vpn) ≡ Ok new → frame ≡ frame_seen new t.pid t.vpn
    → IsTakenBack s l new (undo_of t.pid t.vpn t.page (sight_at s t.pid t.vpn) (get page_cmp s.place t.page) frame)
touched_back s l t p a writes new frame h r found seen =
    let e : sight_at s t.pid t.vpn ≡ get nat_cmp p.sees t.vpn = ap (λ o. sight_in o t.vpn) r.known in
    subst (λ q. IsTakenBack s l new (undo_of t.pid t.vpn q (sight_at s t.pid t.vpn) (get page_cmp s.place q) frame)) r.page
    (subst (λ o. IsTakenBack s l new (undo_of t.pid t.vpn (page_of a t.vpn) o (get page_cmp s.place (page_of a t.vpn)) frame)) (sym e)
    (touch_back s l (access_site t p a) writes (get nat_cmp p.sees t.vpn) new frame h (spot_there s t p a r) e found seen))

-- ---- the parts

pub place_kept : (s : State) (o : Option Process) (pid v : ℕ) (zero : Bool) → (seen_before s o pid v zero).place ≡ s.place
place_kept s None pid v zero = refl
place_kept s (Some p) pid v zero = refl

pub value_there : {V : Type 0} (o : Option V) → IsSome o → (x : V) × (o ≡ Some x)
value_there None h = cc
value_there (Some x) h = (x, refl)

-- the frame of a page can be put back
pub can_put_back : (s : State) (l : List ℕ) (page : Page) (frame : ℕ) → IsSoundInFlight s l → get page_cmp s.place page ≡ Some frame → CanFree (record { sizes = s.layout.sizes; lists = s.free }) (frame ∷ [])
can_put_back s l page frame h placed =
    let below = place_in_range s l page frame h placed in
    let some = counted_place s.place page frame placed in
    let part = part_of s.free (node_of s.layout frame) frame in
    let whole : holders s.place s.free l frame ≡ 1 = h.frames.once frame ∙ ap (λ b. cond b 1 0) (lt-ltb frame (frame_count s.layout) below) in
    (below, not_in (free_list s (node_of s.layout frame)) frame (omega (arith, some, part, whole)), tt)

-- where no page got a frame, a process sees again what it saw before
pub seen_kept : (y z : AddressSpacesView) (k : FramesView) (online : List ℕ) (moved failed pid v : ℕ) (zero : Bool) → IsSome (get nat_cmp y.processes pid)
    → ((p : Process) → get nat_cmp y.processes pid ≡ Some p → z ≡ with_before y pid p v zero) → IsSoundMachine (shown_by y k online moved failed) k.vacated y.frames
    → IsSoundInFlight (undo_touch (shown_by y k online moved failed) (record { pid = pid; vpn = v; zero = zero; given = None })) k.vacated
    → IsSoundMachine (shown_by z k online moved failed) k.vacated z.frames
seen_kept y z k online moved failed pid v zero known seen kept sound =
    let p = value_there (get nat_cmp y.processes pid) known in
    let after : z ≡ with_before y pid p.0 v zero = seen p.0 p.1 in
    record {
      sound = subst (λ s. IsSoundInFlight s k.vacated) (sym ((λ i. shown_by (after i) k online moved failed) ∙ ap (λ o. seen_before (shown_by y k online moved failed) o pid v zero) (sym p.1))) sound;
      as_many = ap (λ (z : AddressSpacesView). z.frames) after ∙ kept.as_many;
    }

module _ (y z w : AddressSpacesView) (k j : FramesView) (online : List ℕ) (moved failed pid v : ℕ) (zero : Bool) (page : Page) (frame : ℕ) (known : IsSome (get nat_cmp y.processes pid))
    (seen : (p : Process) → get nat_cmp y.processes pid ≡ Some p → z ≡ with_before y pid p v zero) (unplaced : w ≡ without_page z page) (freed : j ≡ record k { free = (with_front (pool_of k) frame).lists }) where
  pub back_shows : shown_by w j online moved failed ≡ undo_touch (shown_by y k online moved failed) (record { pid = pid; vpn = v; zero = zero; given = Some (page, frame) })
  back_shows =
      let p = value_there (get nat_cmp y.processes pid) known in
      let s = shown_by y k online moved failed in
      let after : w ≡ without_page (with_before y pid p.0 v zero) page = unplaced ∙ ap (λ y. without_page y page) (seen p.0 p.1) in
      let all = given_back (seen_before s (Some p.0) pid v zero) (Some (page, frame)) in
      (λ i. shown_by (after i) (freed i) online moved failed)
      ∙ ap (λ b. record all { bytes = b }) (with_values-without page_cmp (λ q f. bytes_of k.frames f) y.place page)
      ∙ ap (λ o. given_back (seen_before s o pid v zero) (Some (page, frame))) (sym p.1)

  pub back_kept : IsSoundMachine (shown_by y k online moved failed) k.vacated y.frames → IsSoundInFlight (undo_touch (shown_by y k online moved failed) (record { pid = pid; vpn = v; zero = zero; given = Some (page, frame) })) k.vacated
      → IsSoundMachine (shown_by w j online moved failed) j.vacated w.frames
  back_kept kept sound =
      let p = value_there (get nat_cmp y.processes pid) known in
      let after : w ≡ without_page (with_before y pid p.0 v zero) page = unplaced ∙ ap (λ y. without_page y page) (seen p.0 p.1) in
      record {
        sound = subst (λ s. IsSoundInFlight s j.vacated) (sym back_shows) (subst (λ (j : FramesView). IsSoundInFlight (undo_touch (shown_by y k online moved failed) (record { pid = pid; vpn = v; zero = zero; given = Some (page, frame) })) j.vacated) (sym freed) sound);
        as_many = ap (λ (w : AddressSpacesView). w.frames) after ∙ kept.as_many ∙ sym (ap (λ (j : FramesView). frame_count j.layout) freed);
      }
