-- What is left of address spaces and frames when pages lose their frames.
use Rattle.std.proofs.Common.{◌≡◌, ℕ, ◌+◌, ◌≤◌, Bool, true, false, cond, List, [], ◌∷◌, ◌++◌, map, refl, sym, ap, subst, ◌∙◌, arith, append-nil, append_assoc}
use Rattle.std.specs.Prelude.{Option, Some, None, IsSome, if◌then◌else◌}
use Rattle.std.specs.Option.{unwrap_or, option_map}
use Rattle.std.specs.List.{fold, sum_by}
use Rattle.std.specs.Map.{keys_of, values_of}
use Rattle.std.specs.BTreeMap.{is_at}
use Rattle.std.specs.Ordering.{nat_cmp, is_eq}
use Rattle.std.specs.Cmp.{nat_cmp_total, tied_itself}
use Rattle.nm_types.specs.declared.page.Page.{Page}
use Rattle.nm_types.specs.declared.area.Area.{Area}
use Rattle.nm_types.specs.Map.{Map, get, without, page_cmp}
use Rattle.nm_types.specs.Layout.{Layout, frame_count}
use Rattle.nm_types.specs.declared.sight.Sight.{Sight}
use Rattle.nm_types.specs.State.{Process, State}
use Rattle.nm_model.specs.definitions.Frames.{bytes_of}
use Rattle.nm_model.specs.definitions.Frames.{Pool, with_back}
use Rattle.nm_model.specs.views.Table.{Table}
use Rattle.nm_model.specs.definitions.Areas.{areas_left, pages_gone, place_left, lost_page, with_its_frame, all_lost, frames_lost}
use Rattle.nm_model.specs.definitions.Effect.{is_covered, released_from, release_page, drop_range}
use Rattle.nm_model.specs.definitions.Sound.{times, FramesAreOnce, IsSoundInFlight}
use Rattle.nm_spaces.specs.views.AddressSpaces.{AddressSpacesView, mapped_of, table_of, without_range}
use Rattle.nm_pool.specs.views.Frames.{FramesView, with_freed, pool_of, CanFree}
use Rattle.nm_engine.specs.views.Shown.{PagedFrames}
use Rattle.nm_engine.specs.views.Shown.{bytes_in, state_of_parts, paged_frames, shown_by}
use Rattle.nm_engine.specs.views.RunState.{IsSoundMachine}
use Rattle.std.proofs.lemmas.Map.Entries.{sum_by-remove_entry}
use Rattle.nm_types.proofs.Cases.{some_none, none_is_not}
use Rattle.nm_laws.proofs.Soundness.Frames.{here, times_push}
use Rattle.nm_types.proofs.Keys.{some_from_keys, keys_same-without}
use Rattle.nm_types.proofs.Maps.{with_values-without}
use Rattle.nm_pool.proofs.FreeLists.Freed.{sizes_stay}
use Rattle.nm_engine.proofs.Shown.FreeFrames.{all_freed}
use Rattle.nm_laws.proofs.Soundness.Dropped.{dropped_sound}

-- the frames beside pages
abbrev pub frames_of : List (Page × ℕ) → List ℕ
frames_of lost_page = map (λ f. f.1) lost_page

frames_both : (xs ys : List (Page × ℕ)) → frames_of (xs ++ ys) ≡ frames_of xs ++ frames_of ys
frames_both [] ys = refl
frames_both (x ∷ xs) ys = ap (λ fs. x.1 ∷ fs) (frames_both xs ys)

freed_both : (p : Pool) (xs ys : List ℕ) → with_freed (with_freed p xs) ys ≡ with_freed p (xs ++ ys)
freed_both p [] ys = refl
freed_both p (x ∷ xs) ys = freed_both (with_back p x) xs ys

-- a key that is not there
pub without_absent : (m : Map Page ℕ) (p : Page) → get page_cmp m p ≡ None → without page_cmp m p ≡ m
without_absent [] p h = refl
without_absent (e ∷ m) p h =
    elim (is_eq (page_cmp p e.0)) as (λ b. cond b (Some e.1) (get page_cmp m p) ≡ None → cond b m (e ∷ without page_cmp m p) ≡ e ∷ m) [
      | true ↦ λ h. cc
      | false ↦ λ h. ap (λ es. e ∷ es) (without_absent m p h)
    ] h

none_from_keys : (m n : Map Page ℕ) (p : Page) → keys_of m ≡ keys_of n → get page_cmp n p ≡ None → get page_cmp m p ≡ None
none_from_keys m n p keys none =
    elim (get page_cmp m p) as (λ o. get page_cmp m p ≡ o → o ≡ None) [
      | None ↦ λ e. refl
      | Some v ↦ λ e. absurd (none_is_not ℕ (subst IsSome none (some_from_keys page_cmp m n p keys (subst IsSome (sym e) refl))))
    ] refl

abbrev pool : PagedFrames → Pool
pool x = record { sizes = x.layout.sizes; lists = x.free }

-- a page that may lose its frame, whether it is covered or not
abbrev gone_if : Bool → PagedFrames → Page → PagedFrames
gone_if b x p =
    record x {
      place = if b then x.place else without page_cmp x.place p;
      pins = if b then x.pins else without page_cmp x.pins p;
      free = (with_freed (pool x) (frames_of (if b then [] else with_its_frame p (get page_cmp x.place p)))).lists;
    }

-- pages of which those that no area covers lose their frames
abbrev pub all_gone : Map (ℕ × ℕ) Area → PagedFrames → List Page → PagedFrames
all_gone areas x pages =
    record x {
      place = fold (place_left areas) x.place pages;
      pins = fold (place_left areas) x.pins pages;
      free = (with_freed (record { sizes = x.layout.sizes; lists = x.free }) (frames_of (all_lost areas x.place pages))).lists;
    }

keys_left : (b : Bool) (m n : Map Page ℕ) (p : Page) → keys_of m ≡ keys_of n → keys_of (if b then m else without page_cmp m p) ≡ keys_of (if b then n else without page_cmp n p)
keys_left true m n p e = e
keys_left false m n p e = keys_same-without page_cmp m n p e

module _ (processes : Map ℕ Process) (t : Table) (online : List ℕ) (moved failed : ℕ) where
  abbrev of : PagedFrames → State
  of x = state_of_parts processes t x online moved failed

  -- a page that no area covers
  frame_gone : (x : PagedFrames) (p : Page) (o : Option ℕ) → get page_cmp x.place p ≡ o → keys_of x.pins ≡ keys_of x.place
      → released_from (of x) p o ≡ of (record x { place = without page_cmp x.place p; pins = without page_cmp x.pins p; free = (with_freed (pool x) (frames_of (with_its_frame p o))).lists })
  frame_gone x p None e keys =
      let place = sym (without_absent x.place p e) in
      let pins = sym (without_absent x.pins p (none_from_keys x.pins x.place p keys e)) in
      λ i. record (of x) { place = place i; bytes = bytes_in x.frames (place i); pins = pins i }
  frame_gone x p (Some frame) e keys =
      let bytes = sym (with_values-without page_cmp (λ page f. bytes_of x.frames f) x.place p) in
      let after = with_back (pool x) frame in
      λ i. record (of x) { place = without page_cmp x.place p; bytes = bytes i; pins = without page_cmp x.pins p; free = after.lists }

  page_gone : (x : PagedFrames) (p : Page) → keys_of x.pins ≡ keys_of x.place → release_page (of x) p ≡ of (gone_if (is_covered t.areas p) x p)
  page_gone x p keys =
      elim (is_covered t.areas p) as (λ b. (if b then of x else released_from (of x) p (get page_cmp x.place p)) ≡ of (gone_if b x p)) [
        | true ↦ refl
        | false ↦ frame_gone x p (get page_cmp x.place p) refl keys
      ]

  -- freed in two steps or in one
  freed_on : (x : PagedFrames) (a b : List (Page × ℕ)) → (with_freed (record { sizes = x.layout.sizes; lists = (with_freed (pool x) (frames_of a)).lists }) (frames_of b)).lists ≡ (with_freed (pool x) (frames_of (a ++ b))).lists
  freed_on x a b =
      let same : record { sizes = x.layout.sizes; lists = (with_freed (pool x) (frames_of a)).lists } ≡ with_freed (pool x) (frames_of a) =
      λ i. record { sizes = sym (sizes_stay (pool x) (frames_of a)) i; lists = (with_freed (pool x) (frames_of a)).lists } in
      ap (λ (p : Pool). (with_freed p (frames_of b)).lists) same
      ∙ ap (λ (p : Pool). p.lists) (freed_both (pool x) (frames_of a) (frames_of b))
      ∙ ap (λ fs. (with_freed (pool x) fs).lists) (sym (frames_both a b))

  pub pages_gone_shows : (pages : List Page) (x : PagedFrames) → keys_of x.pins ≡ keys_of x.place → fold release_page (of x) pages ≡ of (all_gone t.areas x pages)
  pages_gone_shows [] x keys = refl
  pages_gone_shows (p ∷ pages) x keys =
      let y = gone_if (is_covered t.areas p) x p in
      ap (λ s. fold release_page s pages) (page_gone x p keys)
      ∙ pages_gone_shows pages y (keys_left (is_covered t.areas p) x.pins x.place p keys)
      ∙ ap (λ free. of (record x { place = fold (place_left t.areas) x.place (p ∷ pages); pins = fold (place_left t.areas) x.pins (p ∷ pages); free = free }))
      (freed_on x (lost_page t.areas x.place p) (all_lost t.areas (place_left t.areas x.place p) pages))

-- ---- each frame stays in one place, when those that are lost are kept aside

aside : (p q t l m x k : ℕ) → q + x ≡ p → m ≡ l + x → p + t + l ≡ k → q + t + m ≡ k
aside p q t l m x k a b c = omega (arith, a, b, c)

module _ (g : Layout) (free : List (List ℕ)) (areas : Map (ℕ × ℕ) Area) where
  frame_aside : (place : Map Page ℕ) (left : List ℕ) (p : Page) (o : Option ℕ) → get page_cmp place p ≡ o → FramesAreOnce g place free left
      → FramesAreOnce g (without page_cmp place p) free (left ++ frames_of (with_its_frame p o))
  frame_aside place left p None e h =
      subst (λ l. FramesAreOnce g (without page_cmp place p) free l) (sym (append-nil left))
      (subst (λ m. FramesAreOnce g m free left) (sym (without_absent place p e)) h)
  frame_aside place left p (Some frame) e h =
      record {
        lists = h.lists;
        once = λ f.
            let out = subst (λ o. times f (values_of (without page_cmp place p)) + unwrap_or (option_map (here f) o) 0 ≡ times f (values_of place)) e (sum_by-remove_entry (here f) (is_at (page_cmp p)) place) in
            let more : times f (left ++ frame ∷ []) ≡ times f left + here f frame = times_push f frame left in
            aside (times f (values_of place)) (times f (values_of (without page_cmp place p))) (sum_by (times f) free) (times f left) (times f (left ++ frame ∷ [])) (here f frame) _ out more (h.once f);
        own = h.own;
      }

  page_aside : (b : Bool) (place : Map Page ℕ) (left : List ℕ) (p : Page) → FramesAreOnce g place free left
      → FramesAreOnce g (if b then place else without page_cmp place p) free (left ++ frames_of (if b then [] else with_its_frame p (get page_cmp place p)))
  page_aside true place left p h = subst (λ l. FramesAreOnce g place free l) (sym (append-nil left)) h
  page_aside false place left p h = frame_aside place left p (get page_cmp place p) refl h

  pub pages_aside : (pages : List Page) (place : Map Page ℕ) (left : List ℕ) → FramesAreOnce g place free left
      → FramesAreOnce g (fold (place_left areas) place pages) free (left ++ frames_of (all_lost areas place pages))
  pages_aside [] place left h = subst (λ l. FramesAreOnce g place free l) (sym (append-nil left)) h
  pages_aside (p ∷ pages) place left h =
      let now = page_aside (is_covered areas p) place left p h in
      let rest = all_lost areas (place_left areas place p) pages in
      subst (λ l. FramesAreOnce g (fold (place_left areas) (place_left areas place p) pages) free l)
      (append_assoc left (frames_of (lost_page areas place p)) (frames_of rest) ∙ ap (λ fs. left ++ fs) (sym (frames_both (lost_page areas place p) rest)))
      (pages_aside pages (place_left areas place p) (left ++ frames_of (lost_page areas place p)) now)

-- ---- a range of a process that goes, in address spaces and frames

module _ (y : AddressSpacesView) (k : FramesView) (online : List ℕ) (moved failed : ℕ) (pid first end : ℕ) where
  -- the frames that become free can be freed
  pub can_go : k.vacated ≡ [] → IsSoundInFlight (shown_by y k online moved failed) k.vacated → CanFree (pool_of k) (frames_of (frames_lost (mapped_of y) pid first end))
  can_go none h =
      let areas = areas_left y.areas pid first end in
      let pages = pages_gone y.areas pid first end in
      let after = pages_aside k.layout k.free areas pages y.place [] (subst (FramesAreOnce k.layout y.place k.free) none h.frames) in
      (all_freed k.layout (fold (place_left areas) y.place pages) (pool_of k) (frames_of (frames_lost (mapped_of y) pid first end)) refl after).can

  pub gone_shows : (z : AddressSpacesView) (after : FramesView) (freed : List (Page × ℕ)) → keys_of y.pins ≡ keys_of y.place → z ≡ without_range y pid first end → freed ≡ frames_lost (mapped_of y) pid first end
      → after ≡ record k { free = (with_freed (pool_of k) (frames_of freed)).lists } → shown_by z after online moved failed ≡ drop_range (shown_by y k online moved failed) pid first end
  gone_shows z after freed keys is lost_page free =
      let gone = without_range y pid first end in
      ap (λ (w : AddressSpacesView). shown_by w after online moved failed) is
      ∙ ap (λ (s : FramesView). shown_by gone s online moved failed) (free ∙ ap (λ fs. record k { free = (with_freed (pool_of k) (frames_of fs)).lists }) lost_page)
      ∙ sym (pages_gone_shows gone.processes (table_of gone) online moved failed (pages_gone y.areas pid first end) (paged_frames y k) keys)

  pub gone_kept : (z : AddressSpacesView) (after : FramesView) (freed : List (Page × ℕ)) → first ≤ end → k.vacated ≡ [] → IsSoundMachine (shown_by y k online moved failed) k.vacated y.frames → z ≡ without_range y pid first end
      → freed ≡ frames_lost (mapped_of y) pid first end → after ≡ record k { free = (with_freed (pool_of k) (frames_of freed)).lists } → IsSoundMachine (shown_by z after online moved failed) after.vacated z.frames
  gone_kept z after freed range none kept is lost_page free =
      let s = shown_by y k online moved failed in
      let same = gone_shows z after freed kept.sound.pins.same_pages is lost_page free in
      let left : after.vacated ≡ [] = ap (λ (k : FramesView). k.vacated) free ∙ none in
      record {
        sound = subst (λ l. IsSoundInFlight (shown_by z after online moved failed) l) (sym left)
            (subst (λ t. IsSoundInFlight t []) (sym same) (dropped_sound s [] (subst (λ l. IsSoundInFlight s l) none kept.sound) pid first end range));
        as_many = ap (λ (w : AddressSpacesView). w.frames) is ∙ kept.as_many ∙ sym (ap (λ (k : FramesView). frame_count k.layout) free);
      }

-- a process that sees nothing at any page number sees nothing
pub sees_nothing : (sees : Map ℕ Sight) → ((v : ℕ) → get nat_cmp sees v ≡ None) → sees ≡ []
sees_nothing [] h = refl
sees_nothing (e ∷ sees) h = absurd (some_none (sym (ap (λ r. cond (is_eq r) (Some e.1) (get nat_cmp sees e.0)) (tied_itself nat_cmp_total e.0)) ∙ h e.0))
