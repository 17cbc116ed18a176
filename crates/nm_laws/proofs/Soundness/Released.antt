-- Pages that no area covers lose their frames.
use Rattle.std.proofs.Common.{◌≡◌, ℕ, ◌+◌, ◌≤◌, ◌<◌, List, [], ◌∷◌, ◌++◌, Bool, true, false, cond, refl, sym, ap, subst, ◌∙◌, arith, inl, inr, length, length-set}
use Rattle.std.specs.Prelude.{Option, Some, None, IsSome, nat_lt, ◌⊎◌, if◌then◌else◌}
use Rattle.std.specs.List.{AllByRecursion, sum_by, fold}
use Rattle.std.specs.List.Sorted.{IsStrictlySortedBy}
use Rattle.std.specs.Option.{unwrap_or, option_map}
use Rattle.std.specs.Map.{keys_of, values_of}
use Rattle.std.specs.Ordering.{is_eq}
use Rattle.std.specs.BTreeMap.{is_at}
use Rattle.std.specs.Cmp.{eq_by_cmp_equiv, tied_itself}
use Rattle.std.specs.declared.cmp.Ordering.TheVariants.{Equal}
use Rattle.std.proofs.lemmas.Bool.{ltb-true, false_from_ne_true}
use Rattle.std.proofs.lemmas.List.Sums.{sum_by-set}
use Rattle.std.proofs.lemmas.Map.{lookup-remove_entry}
use Rattle.std.proofs.lemmas.Map.Entries.{sum_by-remove_entry}
use Rattle.std.proofs.lemmas.Map.Keys.{IsDistinct-from_sorted}
use Rattle.nm_types.specs.declared.page.Page.{Page}
use Rattle.nm_types.specs.Map.{Map, get, without, page_cmp}
use Rattle.nm_types.specs.Layout.{node_of, frame_count}
use Rattle.nm_types.specs.declared.sight.Sight.TheVariants.{Sees}
use Rattle.nm_types.specs.State.{State, free_list, page_at}
use Rattle.nm_types.proofs.Cases.{true_false, none_is_not}
use Rattle.nm_model.specs.definitions.Seen.{sight_at}
use Rattle.nm_model.specs.definitions.Areas.{is_shared}
use Rattle.nm_model.specs.definitions.Run.{with_free}
use Rattle.nm_model.specs.definitions.Effect.{is_covered, released_from, release_page}
use Rattle.nm_model.specs.definitions.Sound.{IsInOrder, times, SeesWhatIsShown, ZeroIsPrivate, PlacedHasBytes, PlacedHasPins, PrivateIsOnce, IsWhole, SegmentsAreNumbered, AreNodes, ProcessesAreFew, AreasAreApart, IsSoundInFlight}
use Rattle.nm_types.proofs.Maps.{page_cmp_total, exact_page, equal}
use Rattle.nm_types.proofs.Keys.{All-without, sorted-without, keys_same-without}
use Rattle.nm_laws.proofs.Soundness.Frames.{OnceIn, here, times_push, owner_below, own_set, all_push}
use Rattle.nm_laws.proofs.Soundness.Once.{counted_place, places_are_apart}
use Rattle.nm_laws.proofs.Soundness.Allocated.{shown_covered}

-- a page of the list
abbrev pub Listed : Page → List Page → Type 0
Listed p [] = ⊥
Listed p (q ∷ pages) = (p ≡ q) ⊎ Listed p pages

-- sound, but for these pages, which may have a frame though no area covers them
pub record Pending (s : State) (l : List ℕ) (pages : List Page) : Type 0 where
  pub order : IsInOrder s
  pub frames : OnceIn s l
  pub shown : SeesWhatIsShown s
  pub zeros : ZeroIsPrivate s
  pub covered : (p : Page) → IsSome (get page_cmp s.place p) → (is_covered s.areas p ≡ true) ⊎ Listed p pages
  pub bytes : PlacedHasBytes s.place s.bytes
  pub pins : PlacedHasPins s.place s.pins
  pub seen : (p : Page) → IsSome (get page_cmp s.place p) → is_covered s.areas p ≡ true → is_shared s.segments p.segment ≡ false → (q : ℕ) × (w : ℕ) × (sight_at s q w ≡ Some (Sees p))
  pub once : PrivateIsOnce s.areas s.segments
  pub areas : AllByRecursion (IsWhole s) s.areas
  pub numbers : SegmentsAreNumbered s.segments s.next_segment
  pub disjoint : AreasAreApart s.areas
  pub online : AreNodes s.layout s.online
  pub few : ProcessesAreFew s.processes

placed_below : (a b c k : ℕ) (t : Bool) → a + b + c ≡ cond t 1 0 → 1 ≤ a → t ≡ true
placed_below a b c k true e h = refl
placed_below a b c k false e h = absurd (omega (arith, e, h))

release_sum : (p q r t l x z k : ℕ) → q + x ≡ p → t + z ≡ r + (z + x) → p + r + l ≡ k → q + t + l ≡ k
release_sum p q r t l x z k a b c = omega arith

-- the frame of a page goes to its node
release_frames : (s : State) (l : List ℕ) (p : Page) (frame : ℕ) → OnceIn s l → get page_cmp s.place p ≡ Some frame
    → OnceIn (with_free (record s { place = without page_cmp s.place p; bytes = without page_cmp s.bytes p; pins = without page_cmp s.pins p }) frame) l
release_frames s l p frame h placed =
    let node = node_of s.layout frame in
    let one = placed_below (times frame (values_of s.place)) (sum_by (times frame) s.free) (times frame l) 0 (nat_lt frame (frame_count s.layout)) (h.once frame) (counted_place s.place p frame placed) in
    let below = owner_below s.layout.sizes frame (ltb-true frame (frame_count s.layout) one) in
    let at : node < length s.free = omega (arith, below, h.lists) in
    record {
      lists = length-set s.free node (free_list s node ++ frame ∷ []) ∙ h.lists;
      once = λ f.
          release_sum (times f (values_of s.place)) (times f (values_of (without page_cmp s.place p))) (sum_by (times f) s.free) _ (times f l) (here f frame) (times f (free_list s node)) _
          (subst (λ o. times f (values_of (without page_cmp s.place p)) + unwrap_or (option_map (here f) o) 0 ≡ times f (values_of s.place)) placed (sum_by-remove_entry (here f) (is_at (page_cmp p)) s.place))
          (sum_by-set (times f) s.free node (free_list s node ++ frame ∷ []) [] at ∙ ap (λ n. sum_by (times f) s.free + n) (times_push f frame (free_list s node)))
          (h.once f);
      own = own_set s.layout s.free node (free_list s node ++ frame ∷ []) at h.own (all_push (λ f. node_of s.layout f ≡ node) (free_list s node) frame (h.own node) refl);
    }

pub get-without : (m : Map Page ℕ) (p q : Page) → IsStrictlySortedBy page_cmp (keys_of m) → get page_cmp (without page_cmp m p) q ≡ cond (is_eq (page_cmp p q)) None (get page_cmp m q)
get-without m p q sorted = lookup-remove_entry (eq_by_cmp_equiv page_cmp_total) (is_at (page_cmp p)) (λ x y h. ap is_eq (page_cmp_total.congr p x y (equal _ h))) q m (IsDistinct-from_sorted page_cmp (keys_of m) sorted)

-- another page keeps its place
pub other_placed : (m : Map Page ℕ) (p q : Page) → IsStrictlySortedBy page_cmp (keys_of m) → (p ≡ q → ⊥) → get page_cmp (without page_cmp m p) q ≡ get page_cmp m q
other_placed m p q sorted other = get-without m p q sorted ∙ ap (λ b. cond b None (get page_cmp m q)) (false_from_ne_true _ (λ b. other (exact_page p q (equal _ b))))

tied : (p q : Page) → p ≡ q → page_cmp p q ≡ Equal
tied p q e = ap (page_cmp p) (sym e) ∙ tied_itself page_cmp_total p

-- a page that has a place then is another, and had it
was_placed : (m : Map Page ℕ) (p q : Page) → IsStrictlySortedBy page_cmp (keys_of m) → IsSome (get page_cmp (without page_cmp m p) q) → (p ≡ q → ⊥) × IsSome (get page_cmp m q)
was_placed m p q sorted h =
    elim (is_eq (page_cmp p q)) as (λ b. is_eq (page_cmp p q) ≡ b → IsSome (cond b None (get page_cmp m q)) → (p ≡ q → ⊥) × IsSome (get page_cmp m q)) [
      | true ↦ λ b k. absurd (none_is_not ℕ k)
      | false ↦ λ b k. (λ e. true_false (sym (ap is_eq (tied p q e)) ∙ b), k)
    ] refl (subst IsSome (get-without m p q sorted) h)

-- the front of the list has no frame, or is covered
not_first : (s : State) (p q : Page) (pages : List Page) → (q ≡ p → is_covered s.areas q ≡ true) → (is_covered s.areas q ≡ true) ⊎ Listed q (p ∷ pages) → (is_covered s.areas q ≡ true) ⊎ Listed q pages
not_first s p q pages first (inl c) = inl c
not_first s p q pages first (inr (inl e)) = inl (first e)
not_first s p q pages first (inr (inr m)) = inr m

fewer : (s : State) (l : List ℕ) (p : Page) (pages : List Page) → Pending s l (p ∷ pages) → ((q : Page) → IsSome (get page_cmp s.place q) → q ≡ p → is_covered s.areas q ≡ true) → Pending s l pages
fewer s l p pages h first =
    record {
      order = h.order;
      frames = h.frames;
      shown = h.shown;
      zeros = h.zeros;
      covered = λ q e. not_first s p q pages (first q e) (h.covered q e);
      bytes = h.bytes;
      pins = h.pins;
      seen = h.seen;
      once = h.once;
      areas = h.areas;
      numbers = h.numbers;
      disjoint = h.disjoint;
      online = h.online;
      few = h.few;
    }

release_sound : (s : State) (l : List ℕ) (p : Page) (pages : List Page) (o : Option ℕ) → Pending s l (p ∷ pages) → is_covered s.areas p ≡ false → get page_cmp s.place p ≡ o → Pending (released_from s p o) l pages
release_sound s l p pages None h bare e = fewer s l p pages h (λ q k same. absurd (none_is_not ℕ (subst IsSome (ap (get page_cmp s.place) same ∙ e) k)))
release_sound s l p pages (Some frame) h bare e =
    let sorted = h.order.place in
    let other = λ (q w : ℕ) (r : Page) (k : page_at s.areas q w ≡ Some r) (same : p ≡ r). true_false (sym (shown_covered s.areas q w r k) ∙ sym (ap (is_covered s.areas) same) ∙ bare) in
    let frames = release_frames s l p frame h.frames e in
    record {
      order = record { processes = h.order.processes; sees = h.order.sees; areas = h.order.areas; segments = h.order.segments; place = sorted-without page_cmp s.place p h.order.place };
      frames = frames;
      shown = λ q w r k. let was = h.shown q w r k in (was.0, subst IsSome (sym (other_placed s.place p r sorted (other q w r was.0))) was.1);
      zeros = h.zeros;
      covered = λ q k. let was = was_placed s.place p q sorted k in not_first s p q pages (λ same. absurd (was.0 (sym same))) (h.covered q was.1);
      bytes = record {
        same_pages = keys_same-without page_cmp s.bytes s.place p h.bytes.same_pages;
        whole = All-without page_cmp (λ b. length b ≡ 4096) s.bytes p h.bytes.whole;
      };
      pins = record { same_pages = keys_same-without page_cmp s.pins s.place p h.pins.same_pages; few = All-without page_cmp (λ n. n ≤ 65535) s.pins p h.pins.few };
      seen = λ q k c private. h.seen q (was_placed s.place p q sorted k).1 c private;
      once = h.once;
      areas = h.areas;
      numbers = h.numbers;
      disjoint = h.disjoint;
      online = h.online;
      few = h.few;
    }

one_released : (s : State) (l : List ℕ) (p : Page) (pages : List Page) → Pending s l (p ∷ pages) → Pending (release_page s p) l pages
one_released s l p pages h =
    elim (is_covered s.areas p) as (λ b. is_covered s.areas p ≡ b → Pending (if b then s else released_from s p (get page_cmp s.place p)) l pages) [
      | true ↦ λ b. fewer s l p pages h (λ q k same. ap (is_covered s.areas) same ∙ b)
      | false ↦ λ b. release_sound s l p pages (get page_cmp s.place p) h b refl
    ] refl

no_page : (s : State) (p : Page) → (is_covered s.areas p ≡ true) ⊎ Listed p [] → is_covered s.areas p ≡ true
no_page s p (inl c) = c
no_page s p (inr m) = absurd m

pub all_released : (pages : List Page) (s : State) (l : List ℕ) → Pending s l pages → IsSoundInFlight (fold release_page s pages) l
all_released [] s l h =
    record {
      order = h.order;
      apart = places_are_apart h.frames;
      frames = h.frames;
      shown = h.shown;
      zeros = h.zeros;
      covered = λ p e. no_page s p (h.covered p e);
      bytes = h.bytes;
      pins = h.pins;
      seen = λ p e. h.seen p e (no_page s p (h.covered p e));
      once = h.once;
      areas = h.areas;
      numbers = h.numbers;
      disjoint = h.disjoint;
      online = h.online;
      few = h.few;
    }
all_released (p ∷ pages) s l h = all_released pages (release_page s p) l (one_released s l p pages h)
