-- The calls that make processes and areas, and pins, keep a machine sound.
use Rattle.std.proofs.Common.{Bool, List, [], ap, arith, cond, false, length, not, refl, subst, suc, sym, true, ℕ, ◌%◌, ◌&&◌, ◌+◌, ◌-◌, ◌/◌, ◌<◌, ◌^◌, ◌||◌, ◌∙◌, ◌∷◌, ◌≡◌, ◌≤◌}
use Rattle.std.specs.Prelude.{if◌then◌else◌, Option, Some, None, IsSome, nat_lt, nat_le, ◌==◌}
use Rattle.std.specs.Option.{is_some, unwrap_or, option_map}
use Rattle.std.specs.List.{AllByRecursion, list_any}
use Rattle.std.specs.List.Sorted.{IsStrictlySortedBy}
use Rattle.std.specs.Map.{keys_of}
use Rattle.std.specs.Ordering.{nat_cmp, is_eq}
use Rattle.std.specs.Cmp.{nat_cmp_total, tied_itself}
use Rattle.std.proofs.lemmas.Bool.{and_parts, eqb-true, leb-true, leb-false, ltb-true}
use Rattle.std.proofs.lemmas.Map.Lookups.{exact_unsigned}
use Rattle.nm_types.specs.declared.page.Page.{Page}
use Rattle.nm_types.specs.declared.area.Area.{Area}
use Rattle.nm_types.specs.declared.area.Segment.{Segment}
use Rattle.nm_types.specs.declared.area.Policy.TheVariants.{Default}
use Rattle.nm_types.specs.declared.errno.Errno.{Errno}
use Rattle.nm_types.specs.declared.errno.Errno.TheVariants.{Esrch, Einval, Enomem, Ebusy}
use Rattle.nm_types.specs.Layout.{node_count}
use Rattle.nm_types.specs.Map.{Map, get, set, replace, page_cmp, spot_cmp}
use Rattle.nm_types.specs.declared.sight.Sight.{Sight}
use Rattle.nm_types.specs.declared.sight.Sight.TheVariants.{ZeroPage, Sees}
use Rattle.nm_types.specs.State.{Process, State, covers, area_over, page_of, page_shown, page_at}
use Rattle.nm_types.proofs.Cases.{true_false, none_some, some_none, some_is}
use Rattle.nm_model.specs.definitions.Seen.{sight_in, sight_at, pins_of, page_seen}
use Rattle.nm_model.specs.definitions.Areas.{is_shared}
use Rattle.nm_model.specs.definitions.Effect.{spawn, attach, map_new, with_pins, pin, unpin, covers_page, is_covered}
use Rattle.nm_model.specs.definitions.AreaRefusal.{is_room}
use Rattle.nm_model.specs.definitions.Effect.{first_error, is_unknown, pins_refusal, pin_refusal, spawn_refusal, is_range, overlaps, map_refusal, is_stretch, attach_refusal}
use Rattle.nm_model.specs.definitions.Sound.{HasPages, IsWhole, IsSoundInFlight, IsSound}
use Rattle.nm_types.proofs.Maps.{equal, get-set, spot_cmp_total}
use Rattle.nm_laws.proofs.Soundness.Contents.{pins_sound}
use Rattle.nm_types.proofs.Keys.{keys-replace, All-set, All-replace, All-get, sorted-set, few-set}
use Rattle.nm_model.proofs.looks.{sees_page}
use Rattle.nm_model.proofs.areas.Apart.{NoneOverlaps, all_from_none, all_then, apart-set, apart_from_new, area_over-set, covers_parts, each_set, is_covered-set, one_more, same_key}

-- whether a segment is shared
abbrev shared_in : Option Segment → Bool
shared_in o = unwrap_or (option_map (λ segment. segment.shared) o) false

-- where no error comes, no condition holds
no_error : (b : Bool) (e : Errno) (es : List (Bool × Errno)) → first_error ((b, e) ∷ es) ≡ None → (b ≡ false) × (first_error es ≡ None)
no_error true e es h = absurd (some_none h)
no_error false e es h = (refl, h)

not_false : (b : Bool) → not b ≡ false → b ≡ true
not_false true h = refl
not_false false h = absurd (true_false h)

or_parts : (a b : Bool) → (a || b) ≡ false → (a ≡ false) × (b ≡ false)
or_parts true b h = absurd (true_false h)
or_parts false b h = (refl, h)

-- other processes that see the same
pub other_processes : (s : State) (l : List ℕ) (ps : Map ℕ Process) → IsSoundInFlight s l → IsStrictlySortedBy nat_cmp (keys_of ps) → AllByRecursion (λ e. IsStrictlySortedBy nat_cmp (keys_of e.1.sees)) ps
    → ((q w : ℕ) → sight_in (get nat_cmp ps q) w ≡ sight_at s q w) → AllByRecursion (IsWhole (record s { processes = ps })) s.areas → length ps ≤ 1024 → IsSoundInFlight (record s { processes = ps }) l
other_processes s l ps h sorted sees same there few =
    record {
      order = record { processes = sorted; sees = sees; areas = h.order.areas; segments = h.order.segments; place = h.order.place };
      apart = h.apart;
      frames = h.frames;
      shown = λ q w p e. h.shown q w p (sym (same q w) ∙ e);
      zeros = λ q w e. h.zeros q w (sym (same q w) ∙ e);
      covered = h.covered;
      bytes = h.bytes;
      pins = h.pins;
      seen = λ p e private. let was = h.seen p e private in (was.0, was.1, same was.0 was.1 ∙ was.2);
      once = h.once;
      areas = there;
      numbers = h.numbers;
      disjoint = h.disjoint;
      online = h.online;
      few = few;
    }

sorted_none : IsStrictlySortedBy nat_cmp []
unfolding IsStrictlySortedBy
sorted_none = tt

unknown_none : (o : Option Process) → not (is_some o) ≡ true → o ≡ None
unknown_none None h = refl
unknown_none (Some p) h = absurd (true_false (sym h))

pub spawn_sound : (s : State) (pid uid home : ℕ) (allowed : List ℕ) (privileged : Bool) → IsSound s → spawn_refusal s pid home allowed ≡ None → IsSound (spawn s pid uid home allowed privileged)
spawn_sound s pid uid home allowed privileged h fine =
    let new : Process = record { uid = uid; privileged = privileged; home = home; allowed = allowed; sees = [] } in
    let nodes = node_count s.layout in
    let bad_nodes = nat_le nodes home || (length allowed == 0) || list_any (nat_le nodes) allowed in
    let bad = no_error (((pid == 0) || not (is_unknown s pid)) || bad_nodes) Einval ((nat_le 1024 (length s.processes), Enomem) ∷ []) fine in
    let pids = or_parts ((pid == 0) || not (is_unknown s pid)) bad_nodes bad.0 in
    let known = or_parts (pid == 0) (not (is_unknown s pid)) pids.0 in
    let more : length (set nat_cmp s.processes pid new) ≤ suc (length s.processes) = few-set nat_cmp s.processes pid new in
    let room : length s.processes < 1024 = leb-false 1024 (length s.processes) (no_error (nat_le 1024 (length s.processes)) Enomem [] bad.1).0 in
    let few : length (set nat_cmp s.processes pid new) ≤ 1024 = omega (arith, more, room) in
    let fresh : get nat_cmp s.processes pid ≡ None = unknown_none (get nat_cmp s.processes pid) (not_false (is_unknown s pid) known.1) in
    other_processes s [] (set nat_cmp s.processes pid new) h (sorted-set nat_cmp nat_cmp_total s.processes pid new h.order.processes)
    (All-set nat_cmp (λ q. IsStrictlySortedBy nat_cmp (keys_of q.sees)) s.processes pid new h.order.sees sorted_none)
    (λ q w.
    ap (λ o. sight_in o w) (get-set nat_cmp_total s.processes pid new q)
    ∙ elim (is_eq (nat_cmp q pid)) as (λ b. is_eq (nat_cmp q pid) ≡ b → sight_in (cond b (Some new) (get nat_cmp s.processes q)) w ≡ sight_at s q w) [
      | true ↦ λ b. ap (λ o. sight_in o w) (sym (ap (get nat_cmp s.processes) (exact_unsigned q pid (equal _ b)) ∙ fresh))
      | false ↦ λ b. refl
    ] refl)
    (all_then s.areas (IsWhole s) (IsWhole (record s { processes = set nat_cmp s.processes pid new })) (λ a whole. (
      whole.0,
      whole.1,
      subst IsSome (sym (get-set nat_cmp_total s.processes pid new a.0.0))
          (elim (is_eq (nat_cmp a.0.0 pid)) as (λ b. IsSome (cond b (Some new) (get nat_cmp s.processes a.0.0))) [ true ↦ refl | false ↦ whole.2 ]),
      whole.3,
    )) h.areas)
    few

-- another number of pins of a page
pub repinned_sound : (s : State) (l : List ℕ) (p : Page) (n : ℕ) → IsSoundInFlight s l → n ≤ 65535 → IsSoundInFlight (record s { pins = replace page_cmp s.pins p n }) l
repinned_sound s l p n h most =
    pins_sound s l (replace page_cmp s.pins p n)
    (record { same_pages = keys-replace page_cmp s.pins p n ∙ h.pins.same_pages; few = All-replace page_cmp (λ k. k ≤ 65535) s.pins p n h.pins.few most })
    h

-- a page has at most 65,535 pins
pub few_pins : (s : State) (l : List ℕ) (p : Page) → IsSoundInFlight s l → pins_of s p ≤ 65535
few_pins s l p h =
    elim (get page_cmp s.pins p) as (λ o. get page_cmp s.pins p ≡ o → unwrap_or o 0 ≤ 65535) [
      | None ↦ λ o. omega arith
      | Some n ↦ λ o. All-get page_cmp (λ n. n ≤ 65535) s.pins p n h.pins.few o
    ] refl

not_full : (n : ℕ) → (if nat_le 65535 n then Some Ebusy else None) ≡ None → n + 1 ≤ 65535
not_full n h =
    elim (nat_le 65535 n) as (λ b. nat_le 65535 n ≡ b → (if b then Some Ebusy else None) ≡ None → n + 1 ≤ 65535) [
      | true ↦ λ b k. absurd (some_none k)
      | false ↦ λ b k. let below = leb-false 65535 n b in omega (arith, below)
    ] refl h

if_known : (b : Bool) (r : Option Errno) → (if b then Some Esrch else r) ≡ None → r ≡ None
if_known true r h = absurd (some_none h)
if_known false r h = h

pinned_sound : (s : State) (pid address : ℕ) (o : Option Sight) → IsSound s → sight_at s pid (address / 4096) ≡ o → pin_refusal s pid address ≡ None → IsSound (with_pins s o (λ n. n + 1))
pinned_sound s pid address None h e fine = h
pinned_sound s pid address (Some ZeroPage) h e fine = h
pinned_sound s pid address (Some (Sees p)) h e fine =
    let told = if_known (is_unknown s pid) (pins_refusal s (nat_le 65535) Ebusy (page_seen s pid (address / 4096))) fine in
    repinned_sound s [] p (pins_of s p + 1) h
    (not_full (pins_of s p) (sym (ap (pins_refusal s (nat_le 65535) Ebusy) (sees_page s [] pid (address / 4096) p h e)) ∙ told))

pub pin_sound : (s : State) (pid address : ℕ) → IsSound s → pin_refusal s pid address ≡ None → IsSound (pin s pid address)
pin_sound s pid address h fine = pinned_sound s pid address (sight_at s pid (address / 4096)) h refl fine

unpinned_sound : (s : State) (o : Option Sight) → IsSound s → IsSound (with_pins s o (λ n. n - 1))
unpinned_sound s None h = h
unpinned_sound s (Some ZeroPage) h = h
unpinned_sound s (Some (Sees p)) h = let few = few_pins s [] p h in repinned_sound s [] p (pins_of s p - 1) h (omega (arith, few))

pub unpin_sound : (s : State) (pid address : ℕ) → IsSound s → IsSound (unpin s pid address)
unpin_sound s pid address h = unpinned_sound s (sight_at s pid (address / 4096)) h

not_true : (b : Bool) → not b ≡ true → b ≡ false
not_true true h = absurd (true_false (sym h))
not_true false h = refl

-- where the new area is, nothing was shown
uncovered : (areas : Map (ℕ × ℕ) Area) (pid first : ℕ) (new : Area) → NoneOverlaps pid first new areas → (q w : ℕ) → covers (one_more pid first new) q w ≡ true → (p : Page) → page_at areas q w ≡ Some p → ⊥
uncovered [] pid first new none q w b p e = none_some e
uncovered (a ∷ areas) pid first new none q w b p e =
    elim (covers a q w) as (λ c. covers a q w ≡ c → page_shown (cond c (Some a) (area_over areas q w)) w ≡ Some p → ⊥) [
      | true ↦ λ c k. true_false (sym b ∙ apart_from_new pid first new a q w none.0 c)
      | false ↦ λ c k. uncovered areas pid first new none.1 q w b p k
    ] refl e

same_place : (index first w x : ℕ) → first ≤ w → first ≤ x → index + (w - first) ≡ index + (x - first) → w ≡ x
same_place index first w x a b e = omega arith

-- one more area, of a stretch that may be shown there
module _ (s : State) (l : List ℕ) (h : IsSoundInFlight s l) (pid first : ℕ) (new : Area) (whole : IsWhole s ((pid, first), new)) (none : NoneOverlaps pid first new s.areas)
    (alone : is_shared s.segments new.page.segment ≡ false → (q w : ℕ) (p : Page) → page_at s.areas q w ≡ Some p → p.segment ≡ new.page.segment → ⊥) where
  each_some : AllByRecursion (λ a. 0 < a.1.pages) s.areas
  each_some = all_then s.areas (IsWhole s) (λ a. 0 < a.1.pages) (λ a whole. whole.0) h.areas

  after : Map (ℕ × ℕ) Area
  after = set spot_cmp s.areas (pid, first) new

  over_after : (q w : ℕ) → area_over after q w ≡ cond (covers (one_more pid first new) q w) (Some (one_more pid first new)) (area_over s.areas q w)
  unfolding after
  over_after q w = area_over-set pid first new s.areas q w whole.0 each_some none

  -- what was shown is shown
  shown_still : (q w : ℕ) (p : Page) → page_at s.areas q w ≡ Some p → page_at after q w ≡ Some p
  shown_still q w p e =
      ap (λ o. page_shown o w) (over_after q w)
      ∙ elim (covers (one_more pid first new) q w) as (λ b. covers (one_more pid first new) q w ≡ b → page_shown (cond b (Some (one_more pid first new)) (area_over s.areas q w)) w ≡ Some p) [
        | true ↦ λ b. absurd (uncovered s.areas pid first new none q w b p e)
        | false ↦ λ b. e
      ] refl

  -- what is shown is of the new area, or was shown
  shown_cases : (q w : ℕ) (p : Page) (P : Type 0) → page_at after q w ≡ Some p → ((pid ≡ q) × (first ≤ w) × (page_of (one_more pid first new) w ≡ p) → P) → (page_at s.areas q w ≡ Some p → P) → P
  shown_cases q w p P e fresh old =
      elim (covers (one_more pid first new) q w) as (λ b. covers (one_more pid first new) q w ≡ b → page_shown (cond b (Some (one_more pid first new)) (area_over s.areas q w)) w ≡ Some p → P) [
        | true ↦ λ b k. let parts = covers_parts (one_more pid first new) q w b in fresh (parts.0, parts.1, some_is k)
        | false ↦ λ b k. old k
      ] refl (sym (ap (λ o. page_shown o w) (over_after q w)) ∙ e)

  segment_of : (w : ℕ) (p : Page) → page_of (one_more pid first new) w ≡ p → p.segment ≡ new.page.segment
  segment_of w p e = sym (ap (λ (x : Page). x.segment) e)

  private_new : (w : ℕ) (p : Page) → page_of (one_more pid first new) w ≡ p → is_shared s.segments p.segment ≡ false → is_shared s.segments new.page.segment ≡ false
  private_new w p e private = ap (λ n. shared_in (get nat_cmp s.segments n)) (sym (segment_of w p e)) ∙ private

  once_still : (q w r x : ℕ) (p : Page) → page_at after q w ≡ Some p → page_at after r x ≡ Some p → is_shared s.segments p.segment ≡ false → (q ≡ r) × (w ≡ x)
  once_still q w r x p e k private =
      shown_cases q w p ((q ≡ r) × (w ≡ x)) e
      (λ a. shown_cases r x p ((q ≡ r) × (w ≡ x)) k
      (λ b. (sym a.0 ∙ b.0, same_place new.page.index first w x a.1 b.1 (ap (λ (y : Page). y.index) (a.2 ∙ sym b.2))))
      (λ b. absurd (alone (private_new w p a.2 private) r x p b (segment_of w p a.2))))
      (λ a. shown_cases r x p ((q ≡ r) × (w ≡ x)) k
      (λ b. absurd (alone (private_new x p b.2 private) q w p a (segment_of x p b.2)))
      (λ b. h.once q w r x p a b private))

  pub one_more_sound : IsSoundInFlight (record s { areas = set spot_cmp s.areas (pid, first) new }) l
  unfolding after
  one_more_sound =
      record {
        order = record { processes = h.order.processes; sees = h.order.sees; areas = sorted-set spot_cmp spot_cmp_total s.areas (pid, first) new h.order.areas; segments = h.order.segments; place = h.order.place };
        apart = h.apart;
        frames = h.frames;
        shown = λ q w p e. let was = h.shown q w p e in (shown_still q w p was.0, was.1);
        zeros = λ q w e. let was = h.zeros q w e in (was.0, shown_still q w was.0 was.1, was.2);
        covered = λ p e. is_covered-set pid first new s.areas p whole.0 each_some none (h.covered p e);
        bytes = h.bytes;
        pins = h.pins;
        seen = h.seen;
        once = once_still;
        areas = each_set pid first new (IsWhole s) s.areas (λ a e. subst (IsWhole s) (sym (same_key pid first new a e)) whole) whole h.areas;
        numbers = h.numbers;
        disjoint = apart-set pid first new s.areas whole.0 each_some none h.disjoint;
        online = h.online;
        few = h.few;
      }

room_range : (s : State) (pid address pages : ℕ) → is_room s.areas pid address pages ≡ true → (0 < pages) × (address / 4096 + pages ≤ 2 ^ 35)
room_range s pid address pages h =
    let range = and_parts (is_range address pages) _ h in
    let low = and_parts ((address % 4096 == 0) && nat_lt 0 pages) _ range.0 in
    (ltb-true 0 pages (and_parts _ (nat_lt 0 pages) low.0).1, leb-true (address / 4096 + pages) (2 ^ 35) low.1)

known_some : (o : Option Process) → not (is_some o) ≡ false → IsSome o
known_some None h = absurd (true_false h)
known_some (Some p) h = refl

room_free : (s : State) (pid address pages : ℕ) → is_room s.areas pid address pages ≡ true → AllByRecursion (λ a. overlaps pid (address / 4096) (address / 4096 + pages) a ≡ false) s.areas
room_free s pid address pages h =
    all_from_none s.areas (overlaps pid (address / 4096) (address / 4096 + pages)) (not_true _ (and_parts (is_range address pages) _ h).1)

stretch_shared : (o : Option Segment) (area : Area) → is_stretch o area.page.index area.pages ≡ true → HasPages o (area.page.index + area.pages) × (shared_in o ≡ true)
stretch_shared None area h = cc
stretch_shared (Some segment) area h =
    let both = and_parts segment.shared (nat_le (area.page.index + area.pages) segment.pages) h in
    (leb-true (area.page.index + area.pages) segment.pages both.1, both.0)

-- the segment of an area is there
pub within_some : (o : Option Segment) (pages : ℕ) → HasPages o pages → IsSome o
within_some None pages h = absurd h
within_some (Some segment) pages h = refl

pub attach_sound : (s : State) (pid address segment offset pages : ℕ) → IsSound s → attach_refusal s pid address segment offset pages ≡ None → IsSound (attach s pid address segment offset pages)
attach_sound s pid address segment offset pages h fine =
    let fits = is_room s.areas pid address pages && is_stretch (get nat_cmp s.segments segment) offset pages in
    let known = no_error (is_unknown s pid) Esrch ((not fits, Einval) ∷ []) fine in
    let both = and_parts (is_room s.areas pid address pages) (is_stretch (get nat_cmp s.segments segment) offset pages) (not_false fits (no_error (not fits) Einval [] known.1).0) in
    let area : Area = record { pages = pages; policy = Default; page = record { segment = segment; index = offset } } in
    let shared = stretch_shared (get nat_cmp s.segments segment) area both.1 in
    one_more_sound s [] h pid (address / 4096) area ((room_range s pid address pages both.0).0, (room_range s pid address pages both.0).1, known_some (get nat_cmp s.processes pid) known.0, shared.0) (room_free s pid address pages both.0)
    (λ private q w p e k. true_false (sym shared.1 ∙ private))

-- what is shown or covered is of a segment that is there
shown_there : (s : State) (areas : Map (ℕ × ℕ) Area) (q w : ℕ) (p : Page) → AllByRecursion (IsWhole s) areas → page_at areas q w ≡ Some p → IsSome (get nat_cmp s.segments p.segment)
shown_there s [] q w p h e = absurd (none_some e)
shown_there s (a ∷ areas) q w p h e =
    elim (covers a q w) as (λ b. page_shown (cond b (Some a) (area_over areas q w)) w ≡ Some p → IsSome (get nat_cmp s.segments p.segment)) [
      | true ↦ λ k. subst (λ (x : Page). IsSome (get nat_cmp s.segments x.segment)) (some_is k) (within_some _ _ h.0.3)
      | false ↦ λ k. shown_there s areas q w p h.1 k
    ] e

covered_there : (s : State) (areas : Map (ℕ × ℕ) Area) (p : Page) → AllByRecursion (IsWhole s) areas → is_covered areas p ≡ true → IsSome (get nat_cmp s.segments p.segment)
covered_there s [] p h e = cc
covered_there s (a ∷ areas) p h e =
    elim (covers_page p a) as (λ b. covers_page p a ≡ b → (b || is_covered areas p) ≡ true → IsSome (get nat_cmp s.segments p.segment)) [
      | true ↦ λ b k. subst (λ n. IsSome (get nat_cmp s.segments n)) (eqb-true a.1.page.segment p.segment (and_parts (a.1.page.segment == p.segment) _ b).0) (within_some _ _ h.0.3)
      | false ↦ λ b k. covered_there s areas p h.1 k
    ] refl e

-- a segment with a new number
module _ (s : State) (l : List ℕ) (h : IsSoundInFlight s l) (segment : Segment) (room : s.next_segment < 65536) where
  pub numbered : State
  numbered = record s { segments = set nat_cmp s.segments s.next_segment segment; next_segment = suc s.next_segment }

  get_numbered : (n : ℕ) → get nat_cmp numbered.segments n ≡ cond (is_eq (nat_cmp n s.next_segment)) (Some segment) (get nat_cmp s.segments n)
  unfolding numbered
  get_numbered n = get-set nat_cmp_total s.segments s.next_segment segment n

  -- those that were there are as they were
  same_segment : (n : ℕ) → IsSome (get nat_cmp s.segments n) → get nat_cmp numbered.segments n ≡ get nat_cmp s.segments n
  same_segment n there =
      get_numbered n
      ∙ elim (is_eq (nat_cmp n s.next_segment)) as (λ b. is_eq (nat_cmp n s.next_segment) ≡ b → cond b (Some segment) (get nat_cmp s.segments n) ≡ get nat_cmp s.segments n) [
        | true ↦ λ b. let below = h.numbers.below n there in let same : n ≡ s.next_segment = exact_unsigned n s.next_segment (equal _ b) in absurd (omega (arith, below, same))
        | false ↦ λ b. refl
      ] refl

  within_still : (n pages : ℕ) → HasPages (get nat_cmp s.segments n) pages → HasPages (get nat_cmp numbered.segments n) pages
  within_still n pages within = subst (λ o. HasPages o pages) (sym (same_segment n (within_some _ pages within))) within

  same_shared : (p : Page) → IsSome (get nat_cmp s.segments p.segment) → is_shared numbered.segments p.segment ≡ is_shared s.segments p.segment
  same_shared p there = ap shared_in (same_segment p.segment there)

  numbers_after : (n : ℕ) → IsSome (get nat_cmp numbered.segments n) → n < suc s.next_segment
  numbers_after n there =
      elim (is_eq (nat_cmp n s.next_segment)) as (λ b. is_eq (nat_cmp n s.next_segment) ≡ b → IsSome (cond b (Some segment) (get nat_cmp s.segments n)) → n < suc s.next_segment) [
        | true ↦ λ b k. let same : n ≡ s.next_segment = exact_unsigned n s.next_segment (equal _ b) in omega (arith, same)
        | false ↦ λ b k. let below = h.numbers.below n k in omega (arith, below)
      ] refl (subst IsSome (get_numbered n) there)

  pub numbered_sound : IsSoundInFlight numbered l
  unfolding numbered
  numbered_sound =
      let of_shown = λ (q w : ℕ) (p : Page) (e : page_at s.areas q w ≡ Some p). same_shared p (shown_there s s.areas q w p h.areas e) in
      record {
        order = record { processes = h.order.processes; sees = h.order.sees; areas = h.order.areas; segments = sorted-set nat_cmp nat_cmp_total s.segments s.next_segment segment h.order.segments; place = h.order.place };
        apart = h.apart;
        frames = h.frames;
        shown = h.shown;
        zeros = λ q w e. let was = h.zeros q w e in (was.0, was.1, of_shown q w was.0 was.1 ∙ was.2);
        covered = h.covered;
        bytes = h.bytes;
        pins = h.pins;
        seen = λ p e private. h.seen p e (sym (same_shared p (covered_there s s.areas p h.areas (h.covered p e))) ∙ private);
        once = λ q w r x p e k private. h.once q w r x p e k (sym (of_shown q w p e) ∙ private);
        areas = all_then s.areas (IsWhole s) (IsWhole numbered) (λ a whole. (whole.0, whole.1, whole.2, within_still a.1.page.segment (a.1.page.index + a.1.pages) whole.3)) h.areas;
        numbers = record { below = numbers_after; few = omega (arith, room) };
        disjoint = h.disjoint;
        online = h.online;
        few = h.few;
      }

  pub new_there : get nat_cmp numbered.segments s.next_segment ≡ Some segment
  new_there = get_numbered s.next_segment ∙ ap (λ r. cond (is_eq r) (Some segment) (get nat_cmp s.segments s.next_segment)) (tied_itself nat_cmp_total s.next_segment)

  pub new_alone : (q w : ℕ) (p : Page) → page_at s.areas q w ≡ Some p → p.segment ≡ s.next_segment → ⊥
  new_alone q w p e k = let below = h.numbers.below p.segment (shown_there s s.areas q w p h.areas e) in absurd (omega (arith, below, k))

pub map_sound : (s : State) (pid address pages : ℕ) (shared : Bool) → IsSound s → map_refusal s pid address pages ≡ None → IsSound (map_new s pid address pages shared)
unfolding numbered
map_sound s pid address pages shared h fine =
    let segment : Segment = record { pages = pages; shared = shared } in
    let known = no_error (is_unknown s pid) Esrch ((not (is_room s.areas pid address pages), Einval) ∷ (nat_le 65536 s.next_segment, Enomem) ∷ []) fine in
    let free = no_error (not (is_room s.areas pid address pages)) Einval ((nat_le 65536 s.next_segment, Enomem) ∷ []) known.1 in
    let room = not_false (is_room s.areas pid address pages) free.0 in
    let few : s.next_segment < 65536 = leb-false 65536 s.next_segment (no_error (nat_le 65536 s.next_segment) Enomem [] free.1).0 in
    let area : Area = record { pages = pages; policy = Default; page = record { segment = s.next_segment; index = 0 } } in
    let within = subst (λ o. HasPages o (0 + pages)) (sym (new_there s [] h segment few)) (omega arith) in
    one_more_sound (numbered s [] h segment few) [] (numbered_sound s [] h segment few) pid (address / 4096) area ((room_range s pid address pages room).0, (room_range s pid address pages room).1, known_some (get nat_cmp s.processes pid) known.0, within) (room_free s pid address pages room)
    (λ private. new_alone s [] h segment few)
