-- A page that gets a free frame keeps a machine sound.
use Rattle.std.proofs.Common.{◌≡◌, ℕ, ◌+◌, ◌-◌, ◌≤◌, ◌<◌, List, [], ◌∷◌, true, false, cond, refl, sym, ap, subst, ◌∙◌, inl, inr, length, length-set, arith, drop, eq-eqb}
use Rattle.std.specs.Prelude.{Some, None, IsSome, slice_index, slice_set, replicate, ◌==◌, nat_lt, nat_le}
use Rattle.std.specs.List.{AllByRecursion, sum_by}
use Rattle.std.specs.Option.{unwrap_or, option_map}
use Rattle.std.specs.List.Sorted.{IsStrictlySortedBy}
use Rattle.std.specs.Map.{keys_of, values_of}
use Rattle.std.specs.Ordering.{nat_cmp, is_eq}
use Rattle.std.specs.Cmp.{tied_itself}
use Rattle.std.proofs.lemmas.Bool.{or_left, or_right, and_parts, and_from, leb-true, ltb-true, le-leb, lt-ltb}
use Rattle.std.proofs.lemmas.List.Sums.{sum_by-set}
use Rattle.std.proofs.lemmas.List.{length-replicate}
use Rattle.std.proofs.lemmas.Map.Entries.{sum_by-insert_entry}
use Rattle.nm_types.specs.declared.page.Page.{Page}
use Rattle.nm_types.specs.declared.area.Area.{Area}
use Rattle.nm_types.specs.Layout.{node_of}
use Rattle.nm_types.specs.Map.{Map, get, set, page_cmp}
use Rattle.nm_types.specs.declared.sight.Sight.TheVariants.{ZeroPage, Sees}
use Rattle.nm_types.specs.State.{State, PlacedArea, free_list, page_at, page_of, page_shown, covers, area_over}
use Rattle.nm_types.proofs.Cases.{true_false, some_is}
use Rattle.nm_model.specs.definitions.Seen.{sight_at}
use Rattle.nm_model.specs.definitions.Areas.{is_shared}
use Rattle.nm_model.specs.definitions.Touch.{AccessSite, shown_at, with_sight, with_page}
use Rattle.nm_model.specs.definitions.Effect.{covers_page, is_covered}
use Rattle.nm_model.specs.definitions.Sound.{times, IsWhole, IsSoundInFlight}
use Rattle.nm_types.proofs.Maps.{page_cmp_total, exact_page, equal, get-set}
use Rattle.nm_types.proofs.Keys.{as_many-replace, All-set, sorted-set, keys_same-set}
use Rattle.nm_laws.proofs.Soundness.Frames.{OnceIn, here, times_cons, within, own_set}
use Rattle.nm_model.proofs.areas.Apart.{all_then}
use Rattle.nm_laws.proofs.Soundness.Once.{places_are_apart}
use Rattle.nm_laws.proofs.Seen.Sights.{IsSpot, whole_still, page_at_spot, sight_cases, sight_here, sight_stays, order_kept}

-- a page without a place takes one
new_times : (m : Map Page ℕ) (p : Page) (frame f : ℕ) → IsStrictlySortedBy page_cmp (keys_of m) → get page_cmp m p ≡ None
    → times f (values_of (set page_cmp m p frame)) + 0 ≡ times f (values_of m) + here f frame
new_times m p frame f sorted unplaced =
    subst (λ o. times f (values_of (set page_cmp m p frame)) + unwrap_or (option_map (here f) o) 0 ≡ times f (values_of m) + here f frame) unplaced
    (sum_by-insert_entry (here f) page_cmp_total m p frame sorted)

placed_sum : (p q r t l y z k : ℕ) → q + 0 ≡ p + y → t + (y + z) ≡ r + z → p + r + l ≡ k → q + t + l ≡ k
placed_sum p q r t l y z k a b c = omega arith

-- the state with the page in the front frame of a node, whose list this is
abbrev pub placed_front : State → ℕ → List ℕ → Page → State
placed_front s node front p = with_page (record s { free = slice_set s.free node (drop 1 front) }) p (slice_index front 0)

pub placed_frames : (s : State) (l : List ℕ) (node : ℕ) (front : List ℕ) (p : Page) → OnceIn s l → IsStrictlySortedBy page_cmp (keys_of s.place) → get page_cmp s.place p ≡ None
    → free_list s node ≡ front → (length front == 0) ≡ false → OnceIn (placed_front s node front p) l
placed_frames s l node [] p h order unplaced e some = absurd (true_false some)
placed_frames s l node (frame ∷ rest) p h order unplaced e some =
    let at = within s.free node frame rest e in
    let own = subst (AllByRecursion (λ f. node_of s.layout f ≡ node)) e (h.own node) in
    record {
      lists = length-set s.free node rest ∙ h.lists;
      once = λ f.
          placed_sum (times f (values_of s.place)) _ (sum_by (times f) s.free) _ (times f l) (here f frame) (times f rest) _
          (new_times s.place p frame f order unplaced)
          (ap (λ n. sum_by (times f) (slice_set s.free node rest) + n) (sym (ap (times f) e ∙ times_cons f frame rest)) ∙ sum_by-set (times f) s.free node rest [] at)
          (h.once f);
      own = own_set s.layout s.free node rest at h.own own.1;
    }

-- the area over a page number covers the page that it shows there
pub shows_within : (a : PlacedArea) (pid v : ℕ) → covers a pid v ≡ true → covers_page (page_of a v) a ≡ true
shows_within a pid v h =
    let first = a.0.1 in
    let index = a.1.page.index in
    let range = (and_parts (a.0.0 == pid) _ h).1 in
    let both = and_parts (nat_le first v) (nat_lt v (first + a.1.pages)) range in
    let low : first ≤ v = leb-true first v both.0 in
    let high : v < first + a.1.pages = ltb-true v (first + a.1.pages) both.1 in
    and_from _ _ (eq-eqb a.1.page.segment a.1.page.segment refl)
    (and_from _ _ (le-leb index (index + (v - first)) (omega arith)) (lt-ltb (index + (v - first)) (index + a.1.pages) (omega arith)))

pub area_covers : (areas : Map (ℕ × ℕ) Area) (pid v : ℕ) (a : PlacedArea) → area_over areas pid v ≡ Some a → is_covered areas (page_of a v) ≡ true
area_covers [] pid v a h = cc
area_covers (x ∷ areas) pid v a h =
    elim (covers x pid v) as (λ b. covers x pid v ≡ b → cond b (Some x) (area_over areas pid v) ≡ Some a → is_covered (x ∷ areas) (page_of a v) ≡ true) [
      | true ↦ λ b h. let is : x ≡ a = cc in subst (λ y. is_covered (x ∷ areas) (page_of y v) ≡ true) is (or_left _ _ (shows_within x pid v b))
      | false ↦ λ b h. or_right _ _ (area_covers areas pid v a h)
    ] refl h

-- what is shown is covered
pub shown_covered : (areas : Map (ℕ × ℕ) Area) (q w : ℕ) (p : Page) → page_at areas q w ≡ Some p → is_covered areas p ≡ true
shown_covered areas q w p e =
    elim (area_over areas q w) as (λ o. area_over areas q w ≡ o → page_shown o w ≡ Some p → is_covered areas p ≡ true) [
      | None ↦ λ o k. cc
      | Some a ↦ λ o k. subst (λ r. is_covered areas r ≡ true) (some_is k) (area_covers areas q w a o)
    ] refl e

some_new : (m : Map Page ℕ) (p : Page) (f : ℕ) → IsSome (get page_cmp (set page_cmp m p f) p)
some_new m p f = subst IsSome (sym (get-set page_cmp_total m p f p ∙ ap (λ r. cond (is_eq r) (Some f) (get page_cmp m p)) (tied_itself page_cmp_total p))) refl

some_still : (m : Map Page ℕ) (p q : Page) (f : ℕ) → IsSome (get page_cmp m q) → IsSome (get page_cmp (set page_cmp m p f) q)
some_still m p q f h =
    subst IsSome (sym (get-set page_cmp_total m p f q))
    (elim (is_eq (page_cmp q p)) as (λ b. IsSome (cond b (Some f) (get page_cmp m q))) [ true ↦ refl | false ↦ h ])

-- a page that has a place then is the new one, or had one
some_cases : (m : Map Page ℕ) (p q : Page) (f : ℕ) (P : Type 0) → (q ≡ p → P) → (IsSome (get page_cmp m q) → P) → IsSome (get page_cmp (set page_cmp m p f) q) → P
some_cases m p q f P new old h =
    elim (is_eq (page_cmp q p)) as (λ b. is_eq (page_cmp q p) ≡ b → IsSome (cond b (Some f) (get page_cmp m q)) → P) [
      | true ↦ λ b k. new (exact_page q p (equal _ b))
      | false ↦ λ b k. old k
    ] refl (subst IsSome (get-set page_cmp_total m p f q) h)

sees_is : {p q : Page} → Sees p ≡ Sees q → p ≡ q
sees_is e = cc

sees_zero : {p : Page} → Sees p ≡ ZeroPage → ⊥
sees_zero e = cc

zeros_whole : length {A = ℕ} (replicate 4096 0) ≡ 4096
zeros_whole = length-replicate {A = ℕ} 4096 0

pub placed_sound : (s : State) (l : List ℕ) (at : AccessSite) (node : ℕ) → IsSoundInFlight s l → IsSpot s at → ((p : Page) → sight_at s at.pid at.vpn ≡ Some (Sees p) → ⊥)
    → get page_cmp s.place (shown_at at) ≡ None → (length (free_list s node) == 0) ≡ false → IsSoundInFlight (with_sight (placed_front s node (free_list s node) (shown_at at)) at (Sees (shown_at at))) l
placed_sound s l at node h i unseen unplaced some =
    let p = shown_at at in
    let f = slice_index (free_list s node) 0 in
    let middle = placed_front s node (free_list s node) p in
    let there : IsSpot middle at = record { process = i.process; area = i.area } in
    let t = with_sight middle at (Sees p) in
    let frames : OnceIn t l = placed_frames s l node (free_list s node) p h.frames h.order.place unplaced refl some in
    let order = order_kept s at (Sees p) i h.order in
    record {
      order = record {
        processes = order.processes;
        sees = order.sees;
        areas = order.areas;
        segments = order.segments;
        place = sorted-set page_cmp page_cmp_total s.place p f h.order.place;
      };
      apart = places_are_apart frames;
      frames = frames;
      shown = λ q w r e. elim (sight_cases middle at (Sees p) (Sees r) q w there e) as (λ _. (page_at s.areas q w ≡ Some r) × IsSome (get page_cmp (set page_cmp s.place p f) r)) [
        | inl new ↦
            let same : p ≡ r = sees_is new.2 in
            (ap (λ (z : ℕ × ℕ). page_at s.areas z.0 z.1) (λ j. (new.0 j, new.1 j)) ∙ page_at_spot s at i ∙ ap Some same, subst (λ r. IsSome (get page_cmp (set page_cmp s.place p f) r)) same (some_new s.place p f))
        | inr old ↦ let was = h.shown q w r old in (was.0, some_still s.place p r f was.1)
      ];
      zeros = λ q w e. elim (sight_cases middle at (Sees p) ZeroPage q w there e) as (λ _. (r : Page) × (page_at s.areas q w ≡ Some r) × (is_shared s.segments r.segment ≡ false)) [
        | inl new ↦ absurd (sees_zero new.2)
        | inr old ↦ h.zeros q w old
      ];
      covered = λ r. some_cases s.place p r f (is_covered s.areas r ≡ true) (λ e. ap (is_covered s.areas) e ∙ area_covers s.areas at.pid at.vpn at.area i.area) (h.covered r);
      bytes = record {
        same_pages = keys_same-set page_cmp s.bytes s.place p (replicate 4096 0) f h.bytes.same_pages;
        whole = All-set page_cmp (λ b. length b ≡ 4096) s.bytes p (replicate 4096 0) h.bytes.whole zeros_whole;
      };
      pins = record { same_pages = keys_same-set page_cmp s.pins s.place p 0 f h.pins.same_pages; few = All-set page_cmp (λ n. n ≤ 65535) s.pins p 0 h.pins.few (omega arith) };
      seen = λ r e private. some_cases s.place p r f ((q : ℕ) × (w : ℕ) × (sight_at t q w ≡ Some (Sees r)))
          (λ same. (at.pid, at.vpn, sight_here middle at (Sees p) there ∙ ap (λ x. Some (Sees x)) (sym same)))
          (λ had. let was = h.seen r had private in (was.0, was.1, sight_stays middle at (Sees p) (Sees r) was.0 was.1 there (unseen r) was.2)) e;
      once = h.once;
      areas = all_then s.areas (IsWhole s) (IsWhole t) (whole_still s at (Sees p)) h.areas;
      numbers = h.numbers;
      disjoint = h.disjoint;
      online = h.online;
      few = subst (λ n. n ≤ 1024) (sym (as_many-replace nat_cmp s.processes at.pid _)) h.few;
    }
