-- Page tables, areas and the reverse map when areas change and every page that was shown is still shown.
use Rattle.std.proofs.Common.{◌≡◌, ℕ, ◌/◌, ◌+◌, List, [], ◌∷◌, Bool, true, false, not, ◌&&◌, cond, refl, sym, ap, subst, ◌∙◌, eq-eqb}
use Rattle.std.specs.Prelude.{Option, Some, None, Result, Ok, Err, OnOk, OnErr, nat_le, nat_lt, length}
use Rattle.std.specs.Option.{unwrap_or}
use Rattle.std.specs.List.{flat_map}
use Rattle.std.specs.List.Sorted.{IsStrictlySortedBy}
use Rattle.std.specs.Map.{keys_of}
use Rattle.std.specs.Ordering.{nat_cmp}
use Rattle.std.specs.Cmp.{nat_cmp_total}
use Rattle.std.proofs.lemmas.Bool.{and_parts}
use Rattle.std.proofs.lemmas.Map.Lookups.{exact_unsigned}
use Rattle.nm_types.specs.declared.page.Page.{Page}
use Rattle.nm_types.specs.declared.area.Area.{Area}
use Rattle.nm_types.specs.declared.area.Policy.{Policy}
use Rattle.nm_types.specs.declared.sight.Sight.TheVariants.{Sees}
use Rattle.nm_types.specs.declared.errno.Errno.{Errno}
use Rattle.nm_types.specs.declared.errno.Errno.TheVariants.{Einval, Enomem}
use Rattle.nm_types.specs.Map.{Map, get, page_cmp}
use Rattle.nm_types.specs.State.{covers, area_over, page_shown, page_at}
use Rattle.nm_types.proofs.Cases.{true_false, none_some, some_none}
use Rattle.nm_types.specs.declared.entry.Entry.{Entry}
use Rattle.nm_types.specs.declared.entry.Entry.TheVariants.{Zero, Frame, Held}
use Rattle.nm_types.specs.declared.machine_error.MachineError.{MachineError}
use Rattle.nm_types.specs.declared.machine_error.MachineError.TheVariants as error
use Rattle.nm_types.specs.Does.{Makes}
use Rattle.nm_model.specs.definitions.Areas.{over_with, with_policy}
use Rattle.nm_model.specs.definitions.Areas.{parts_with_policy}
use Rattle.nm_model.specs.definitions.Areas.{Mapping}
use Rattle.nm_model.specs.definitions.AreaRefusal.{first_error, is_range, is_room, is_stretch, insert_refusal, stretch_refusal, overlaps}
use Rattle.nm_rmap.specs.Mappers.{Mappers}
use Rattle.nm_model.specs.definitions.PageTables.{Task, entry_at, entry_in}
use Rattle.nm_spaces.specs.views.ProcessTable.{names}
use Rattle.nm_spaces.specs.views.AddressSpaces.{AddressSpacesView, spaces_view, pins_in, mapped_of, with_mapped}
use Rattle.nm_model.specs.definitions.PageTables.{process_of, sight_of, page_here}
use Rattle.nm_spaces.specs.definitions.Tied.{IsTied}
use Rattle.nm_types.proofs.Maps.{agree}
use Rattle.nm_types.proofs.Keys.{All-get}
use Rattle.nm_spaces.proofs.Held.ReplacedEntries.{TableInOrder}
use Rattle.nm_model.proofs.areas.Apart.{NoneOverlaps, apart_from_new, all_from_none, one_more}

-- every page that was shown is still shown there, and frames stay
pub record IsShownStill (m n : Mapping) : Type 0 where
  pub place : n.place ≡ m.place
  pub pages : (pid v : ℕ) (p : Page) → page_at m.areas pid v ≡ Some p → page_at n.areas pid v ≡ Some p

pub still_same : (m n : Mapping) → n ≡ m → IsShownStill m n
still_same m n is = subst (λ (n : Mapping). IsShownStill m n) (sym is) (record { place = refl; pages = λ pid v p h. h })

module _ (tasks : Map ℕ Task) (m n : Mapping) (r : Mappers) (t : IsTied tasks m r) (k : IsShownStill m n) where
  -- they stay tied
  pub still_tied : IsTied tasks n r
  still_tied = record {
    pids = t.pids;
    tables = t.tables;
    places = subst (λ (place : Map Page ℕ). IsStrictlySortedBy page_cmp (keys_of place)) (sym k.place) t.places;
    mappers = t.mappers;
    shows = λ f pid v h. let s = t.shows f pid v h in (s.0, k.pages pid v s.0 s.1, ap (λ place. get page_cmp place s.0) k.place ∙ s.2);
    apart = λ p q f a b. t.apart p q f (ap (λ place. get page_cmp place p) (sym k.place) ∙ a) (ap (λ place. get page_cmp place q) (sym k.place) ∙ b);
    pinned = λ f h. t.pinned f (λ p a. h p (ap (λ place. get page_cmp place p) k.place ∙ a));
    in_range = λ p f a. t.in_range p f (ap (λ place. get page_cmp place p) (sym k.place) ∙ a);
    as_many = t.as_many;
    settled = t.settled;
  }

  -- an entry that names a frame shows the page that it showed
  named_same : (f pid v : ℕ) → names f (entry_at tasks pid v) ≡ true → page_here n.areas pid v ≡ page_here m.areas pid v
  named_same f pid v h =
      let s = t.shows f pid v h in
      ap (λ o. unwrap_or o (record { segment = 0; index = 0 })) (k.pages pid v s.0 s.1 ∙ sym s.1)

  entry_same : (pid v : ℕ) (e : Entry) → entry_at tasks pid v ≡ Some e → sight_of n.areas pid v e ≡ sight_of m.areas pid v e
  entry_same pid v Zero h = refl
  entry_same pid v (Frame f) h = ap Sees (named_same f pid v (ap (names f) h ∙ eq-eqb f f refl))
  entry_same pid v (Held f) h = ap Sees (named_same f pid v (ap (names f) h ∙ eq-eqb f f refl))

  process_same : (pid : ℕ) (task : Task) → get nat_cmp tasks pid ≡ Some task → process_of n.areas pid task ≡ process_of m.areas pid task
  process_same pid task h =
      ap (λ s. record { uid = task.info.uid; privileged = task.info.privileged; home = task.info.home; allowed = task.info.allowed; sees = s })
      (agree nat_cmp_total exact_unsigned (sight_of n.areas pid) (sight_of m.areas pid) task.table (All-get nat_cmp TableInOrder tasks pid task t.tables h)
      (λ v e found. entry_same pid v e (ap (λ o. entry_in o v) h ∙ found)))

  -- what processes see stays, and so do pins
  pub still_shows : spaces_view tasks n r ≡ with_mapped (spaces_view tasks m r) n
  still_shows = λ i. record {
    processes = agree nat_cmp_total exact_unsigned (process_of n.areas) (process_of m.areas) tasks t.pids process_same i;
    areas = n.areas;
    segments = n.segments;
    next = n.next;
    place = k.place i;
    pins = pins_in r (k.place i);
    frames = length r.mappings;
  }

  pub still_shows_at : (y : AddressSpacesView) → spaces_view tasks m r ≡ y → spaces_view tasks n r ≡ with_mapped y (mapped_of (spaces_view tasks n r))
  still_shows_at y is = still_shows ∙ ap (λ y. with_mapped y n) is

no_error : (b : Bool) (e : Errno) (es : List (Bool × Errno)) → first_error ((b, e) ∷ es) ≡ None → b ≡ false
no_error true e es h = absurd (some_none h)
no_error false e es h = refl

not_false : (b : Bool) → not b ≡ false → b ≡ true
not_false true h = refl
not_false false h = absurd (true_false h)

not_true : (b : Bool) → not b ≡ true → b ≡ false
not_true true h = absurd (true_false (sym h))
not_true false h = refl

-- where a page is shown, a new area that overlaps none is not
not_over_new : (pid first : ℕ) (new : Area) (areas : Map (ℕ × ℕ) Area) (q v : ℕ) (p : Page) → NoneOverlaps pid first new areas → page_at areas q v ≡ Some p → covers (one_more pid first new) q v ≡ false
not_over_new pid first new [] q v p h at = absurd (none_some at)
not_over_new pid first new (a ∷ areas) q v p h at =
    elim (covers a q v) as (λ b. covers a q v ≡ b → page_shown (cond b (Some a) (area_over areas q v)) v ≡ Some p → covers (one_more pid first new) q v ≡ false) [
      | true ↦ λ b k. apart_from_new pid first new a q v h.0 b
      | false ↦ λ b k. not_over_new pid first new areas q v p h.1 k
    ] refl at

-- one more area where there was room
pub still_with_new : (m n : Mapping) (pid address : ℕ) (new : Area) → is_room m.areas pid address new.pages ≡ true → n.place ≡ m.place
    → ((q v : ℕ) → area_over n.areas q v ≡ over_with m.areas ((pid, address / 4096), new) q v) → IsShownStill m n
still_with_new m n pid address new room place over =
    let first = address / 4096 in
    let free = all_from_none m.areas (overlaps pid first (first + new.pages)) (not_true _ (and_parts (is_range address new.pages) _ room).1) in
    record {
      place = place;
      pages = λ q v p h.
          ap (λ o. page_shown o v) (over q v ∙ ap (λ b. cond b (Some (one_more pid first new)) (area_over m.areas q v)) (not_over_new pid first new m.areas q v p free h)) ∙ h;
    }

pub insert_room : (m : Mapping) (pid address pages : ℕ) → insert_refusal m pid address pages ≡ None → is_room m.areas pid address pages ≡ true
insert_room m pid address pages h = not_false _ (no_error (not (is_room m.areas pid address pages)) Einval ((nat_le 65536 m.next, Enomem) ∷ []) h)

pub attach_room : (m : Mapping) (pid address segment offset pages : ℕ) → stretch_refusal m pid address segment offset pages ≡ None → is_room m.areas pid address pages ≡ true
attach_room m pid address segment offset pages h =
    let fits = is_room m.areas pid address pages && is_stretch (get nat_cmp m.segments segment) offset pages in
    (and_parts (is_room m.areas pid address pages) _ (not_false fits (no_error (not fits) Einval [] h))).0

-- what holds if a call does what it should, and if it changes nothing, holds in any case
pub from_makes : {T P F : Type 0} (result : Result T MachineError) (old new after : Mapping) (refusal : Option Errno) → (refusal ≡ None → new ≡ after → F → P) → (new ≡ old → P)
    → Makes result old new refusal after → OnOk result F → P
from_makes (Ok x) old new after refusal f g h k = f h.0 h.1 k
from_makes (Err (error.Refused e)) old new after refusal f g h k = g h.1
from_makes (Err error.HostMemory) old new after refusal f g h k = g h

-- a policy that is set changes no frame
place_policed : (m : Mapping) (pid first end : ℕ) (policy : Policy) → (with_policy m pid first end policy).place ≡ m.place
place_policed m pid first end policy =
    let n : Mapping = record m { areas = flat_map (parts_with_policy pid first end policy) m.areas } in
    elim (nat_lt first end) as (λ b. (cond b n m).place ≡ m.place) [ true ↦ refl | false ↦ refl ]

pub policed_still : {T E : Type 0} (m n : Mapping) (pid first end : ℕ) (policy : Policy) (result : Result T E) → OnOk result (n ≡ with_policy m pid first end policy) → OnErr result (n ≡ m)
    → ((q v : ℕ) → page_at n.areas q v ≡ page_at m.areas q v) → IsShownStill m n
policed_still m n pid first end policy (Ok x) made kept same =
    record { place = ap (λ (n : Mapping). n.place) made ∙ place_policed m pid first end policy; pages = λ q v p k. same q v ∙ k }
policed_still m n pid first end policy (Err e) made kept same = still_same m n kept

-- the same for a call that may refuse
pub made_still : {T : Type 0} (m n : Mapping) (pid first end : ℕ) (policy : Policy) (refusal : Option Errno) (result : Result T MachineError) → Makes result m n refusal (with_policy m pid first end policy)
    → ((q v : ℕ) → page_at n.areas q v ≡ page_at m.areas q v) → IsShownStill m n
made_still m n pid first end policy refusal (Ok x) made same = policed_still {E = Errno} m n pid first end policy (Ok x) made.1 tt same
made_still m n pid first end policy refusal (Err (error.Refused e)) made same = still_same m n made.1
made_still m n pid first end policy refusal (Err error.HostMemory) made same = still_same m n made

-- what is seen where a policy is set
pub policed_seen : {T E : Type 0} (x y : AddressSpacesView) (m : Mapping) (result : Result T E) → x ≡ with_mapped y (mapped_of x) → OnOk result (mapped_of x ≡ m) → OnOk result (x ≡ with_mapped y m)
policed_seen x y m (Ok value) same made = same ∙ ap (with_mapped y) made
policed_seen x y m (Err e) same made = tt

-- and where it is not
pub policed_not : {T E : Type 0} (x y : AddressSpacesView) (result : Result T E) → x ≡ with_mapped y (mapped_of x) → OnErr result (mapped_of x ≡ mapped_of y) → OnErr result (x ≡ y)
policed_not x y (Ok value) same kept = tt
policed_not x y (Err e) same kept = same ∙ ap (with_mapped y) kept
