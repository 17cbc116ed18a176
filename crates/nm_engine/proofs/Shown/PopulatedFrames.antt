-- Frames that have their bytes in memory, and what keeps them.
use Rattle.std.proofs.Common.{◌≡◌, ◌≢◌, ◌<◌, ℕ, List, [], ◌∷◌, true, false, cond, length, refl, sym, ap, subst, ◌∙◌}
use Rattle.std.specs.Prelude.{Option, Some}
use Rattle.std.specs.List.{AllByRecursion}
use Rattle.std.specs.Ordering.{is_eq}
use Rattle.std.specs.Cmp.{tied_itself}
use Rattle.nm_types.specs.declared.page.Page.{Page}
use Rattle.nm_types.specs.declared.page_move.PageMove.{PageMove}
use Rattle.nm_types.specs.Map.{Map, get, set, page_cmp}
use Rattle.nm_types.specs.Layout.{frame_count, node_of}
use Rattle.nm_types.specs.State.{State}
use Rattle.nm_types.proofs.Cases.{some_is}
use Rattle.nm_types.proofs.Maps.{page_cmp_total, get-set}
use Rattle.nm_pool.specs.views.Populated.{IsPopulated}
use Rattle.nm_model.specs.definitions.Frames.{Store, bytes_of}
use Rattle.nm_model.specs.definitions.BeforeCopy.{frames_taken}
use Rattle.nm_model.specs.definitions.Run.{frames_left}
use Rattle.nm_laws.specs.Laws.{with_move}
use Rattle.nm_laws.specs.Moves.{CanMove}
use Rattle.nm_laws.proofs.Early.Kept.{beside}
use Rattle.nm_pool.specs.views.Copies.{HasBoth}
use Rattle.nm_spaces.specs.views.AddressSpaces.{AddressSpacesView}
use Rattle.nm_pool.specs.views.Frames.{FramesView, KeepsBytes}
use Rattle.nm_engine.specs.views.RunState.{RunState, IsSoundMachine}
use Rattle.nm_engine.specs.views.Shown.{bytes_in, shown_by}
use Rattle.nm_model.specs.definitions.Sound.{IsSoundInFlight}
use Rattle.nm_model.specs.definitions.Seen.{frame_of}
use Rattle.nm_types.specs.declared.sight.Sight.{Sight}
use Rattle.nm_laws.proofs.Seen.Frames.{page_of_frame, place_in_range}
use Rattle.nm_engine.specs.views.Parts.{AreKept}

-- ---- pages with a frame, in a sound machine

pub place_populated : (s : Store) (place : Map Page ℕ) (p : Page) (f : ℕ) → AllByRecursion (λ e. length e.1 ≡ 4096) (bytes_in s place) → get page_cmp place p ≡ Some f → IsPopulated s f
place_populated s [] p f whole found = cc
place_populated s (e ∷ place) p f whole found =
    elim (is_eq (page_cmp p e.0)) as (λ b. cond b (Some e.1) (get page_cmp place p) ≡ Some f → IsPopulated s f) [
      | true ↦ λ k. ap (λ g. length (bytes_of s g)) (sym (some_is k)) ∙ whole.0
      | false ↦ λ k. place_populated s place p f whole.1 k
    ] found

-- the frame of what is seen is one of the machine, and in memory
pub seen_frame : (y : AddressSpacesView) (k : FramesView) (online : List ℕ) → AreKept y k online → (o : Option Sight) (f : ℕ) → frame_of y.place o ≡ Some f → (f < frame_count k.layout) × IsPopulated k.frames f
seen_frame y k online kept o f seen =
    let page = page_of_frame y.place o f seen in
    let sound = (kept 0 0).sound in
    (place_in_range (shown_by y k online 0 0) k.vacated page.0 f sound page.2, place_populated k.frames y.place page.0 f sound.bytes.whole page.2)

-- a store that keeps the bytes of frames keeps those of pages
pub bytes_kept : (old new : Store) (place : Map Page ℕ) → KeepsBytes old new → AllByRecursion (λ e. length e.1 ≡ 4096) (bytes_in old place) → bytes_in new place ≡ bytes_in old place
bytes_kept old new [] kept whole = refl
bytes_kept old new (e ∷ place) kept whole =
    ap (λ (bytes : List ℕ). (e.0, bytes) ∷ bytes_in new place) (kept.bytes e.1 whole.0) ∙ ap (λ (m : Map Page (List ℕ)). (e.0, bytes_of old e.1) ∷ m) (bytes_kept old new place kept whole.1)

placed : (m : Map Page ℕ) (p : Page) (v : ℕ) → get page_cmp (set page_cmp m p v) p ≡ Some v
placed m p v = get-set page_cmp_total m p v p ∙ ap (λ b. cond b (Some v) (get page_cmp m p)) (ap is_eq (tied_itself page_cmp_total p))

-- the page of a move is in the frame that it leaves, which is on another node
abbrev pub Leaves : State → ℕ → PageMove → Type 0
Leaves s target t = (get page_cmp s.place t.page ≡ Some t.from) × (node_of s.layout t.from ≢ target)

leave_before : (taken : List PageMove) (s : State) (target : ℕ) (t : PageMove) → node_of s.layout t.to ≡ target → AllByRecursion (Leaves (with_move target s t) target) taken → AllByRecursion (Leaves s target) taken
leave_before [] s target t there all = tt
leave_before (u ∷ taken) s target t there all =
    let apart : u.page ≢ t.page = λ same.
    let to : t.to ≡ u.from = some_is (sym (placed s.place t.page t.to) ∙ ap (get page_cmp (set page_cmp s.place t.page t.to)) (sym same) ∙ all.0.0) in
    all.0.1 (ap (node_of s.layout) (sym to) ∙ there) in
    ((sym (beside s.place t.page u.page t.to apart) ∙ all.0.0, all.0.1), leave_before taken s target t there all.1)

pub all_leave : (taken : List PageMove) (s : State) (target : ℕ) → AllByRecursion (λ f. node_of s.layout f ≡ target) (frames_taken taken) → CanMove s target taken → AllByRecursion (Leaves s target) taken
all_leave [] s target on can = tt
all_leave (t ∷ taken) s target on can = ((can.0, can.2), leave_before taken s target t on.0 (all_leave taken (with_move target s t) target on.1 can.3))

pub left_populated : (taken : List PageMove) (s : State) (target : ℕ) (store : Store) → AllByRecursion (λ e. length e.1 ≡ 4096) (bytes_in store s.place) → AllByRecursion (Leaves s target) taken → AllByRecursion (IsPopulated store) (frames_left taken)
left_populated [] s target store whole all = tt
left_populated (t ∷ taken) s target store whole all = (place_populated store s.place t.page t.from whole all.0.0, left_populated taken s target store whole all.1)

pub both_populated : (taken : List PageMove) (store : Store) → AllByRecursion (IsPopulated store) (frames_left taken) → AllByRecursion (IsPopulated store) (frames_taken taken) → AllByRecursion (HasBoth store) taken
both_populated [] store froms fronts = tt
both_populated (t ∷ taken) store froms fronts = ((froms.0, fronts.0), both_populated taken store froms.1 fronts.1)

-- ---- a machine whose frames keep their bytes is the same machine

module _ (y : AddressSpacesView) (k after : FramesView) (online : List ℕ) (moved failed : ℕ) (is : after ≡ record k { frames = after.frames }) (keeps : KeepsBytes k.frames after.frames) where
  pub same_shown : (l : List ℕ) → IsSoundInFlight (shown_by y k online moved failed) l → shown_by y after online moved failed ≡ shown_by y k online moved failed
  same_shown l sound =
      ap (λ (x : FramesView). shown_by y x online moved failed) is
      ∙ ap (λ (b : Map Page (List ℕ)). record (shown_by y k online moved failed) { bytes = b }) (bytes_kept k.frames after.frames y.place keeps sound.bytes.whole)

  same_left : after.vacated ≡ k.vacated
  same_left = ap (λ (x : FramesView). x.vacated) is

  pub kept_again : IsSoundMachine (shown_by y k online moved failed) k.vacated y.frames → IsSoundMachine (shown_by y after online moved failed) after.vacated y.frames
  kept_again kept =
      subst (λ l. IsSoundMachine (shown_by y after online moved failed) l y.frames) (sym same_left)
      (subst (λ s. IsSoundMachine s k.vacated y.frames) (sym (same_shown k.vacated kept.sound)) kept)

  pub view_again : (x : RunState) → IsSoundMachine (shown_by y k online moved failed) k.vacated y.frames → record { state = shown_by y k online moved failed; left = k.vacated; room = k.room } ≡ x
      → record { state = shown_by y after online moved failed; left = after.vacated; room = after.room } ≡ x
  view_again x kept view =
      let state = same_shown k.vacated kept.sound in
      let room : after.room ≡ k.room = ap (λ (x : FramesView). x.room) is in
      (λ i. record { state = state i; left = same_left i; room = room i }) ∙ view
