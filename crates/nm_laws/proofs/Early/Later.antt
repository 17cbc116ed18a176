-- Touching all pages first and reaching the bytes later is the same as making one access after another.
use Rattle.std.proofs.Common.{◌≡◌, ℕ, ◌/◌, ◌%◌, ◌+◌, ◌≤◌, List, [], ◌∷◌, true, false, refl, sym, ap, subst, ◌∙◌, length}
use Rattle.std.specs.Prelude.{Option, Some, None, Result, Ok, Err, IsSome, replicate, slice_index, if◌then◌else◌}
use Rattle.std.specs.Option.{unwrap_or}
use Rattle.std.specs.List.Sorted.{IsStrictlySortedBy}
use Rattle.std.specs.Map.{keys_of}
use Rattle.std.specs.Ordering.{nat_cmp, is_eq}
use Rattle.std.specs.Cmp.{tied_itself}
use Rattle.nm_types.specs.declared.page.Page.{Page}
use Rattle.nm_types.specs.declared.errno.Errno.{Errno}
use Rattle.nm_types.specs.declared.sight.Sight.{Sight}
use Rattle.nm_types.specs.declared.sight.Sight.TheVariants.{ZeroPage, Sees}
use Rattle.nm_types.specs.Map.{Map, get, set, replace, page_cmp, same_page, with_values}
use Rattle.nm_types.specs.State.{State}
use Rattle.nm_types.proofs.Cases.{some_is}
use Rattle.nm_types.proofs.Maps.{page_cmp_total, exact_page, equal, with_values-set, replace_is_set, set_same, set_agree}
use Rattle.nm_types.proofs.Keys.{some_from_keys}
use Rattle.nm_model.specs.definitions.Seen.{sight_at}
use Rattle.nm_model.specs.definitions.Frames.{overwrite}
use Rattle.nm_model.specs.definitions.Memory.{byte_of, mem_range, stretch_of}
use Rattle.nm_model.specs.definitions.Touch.{AccessSite, shown_at, touch, Access, Read, Write, AccessAnswer, Bytes, Done, Held, AccessResult, read_after, write_after, with_bytes, access}
use Rattle.nm_model.specs.definitions.Touch.{is_held, site_of_access, access_during, AccessResults, all_in_flight}
use Rattle.nm_model.specs.definitions.Sound.{IsSoundInFlight}
use Rattle.nm_model.specs.definitions.BeforeCopy.{PendingAccess, held_before_copy, Known, ToRead, ToWrite, BeforeCopy, pending_read, pending_write, read_before_copy, write_before_copy, access_before_copy, before_copy, AllBeforeCopy, all_before_copy, at_page, after_copy, answer_after_copy, all_after_copy, ConcernsPage}
use Rattle.nm_laws.proofs.Seen.Sights.{IsSpot, page_at_spot}
use Rattle.nm_laws.proofs.Seen.Ranges.{range_here, zeros_here, parted, zero_has_none}
use Rattle.nm_laws.proofs.Soundness.Touched.{StaysSound, touch_sound, access_sound, process_fits, private_unplaced}
use Rattle.nm_laws.proofs.Early.Beside.{Spares, all_early_too, found}
use Rattle.nm_laws.proofs.Early.Kept.{IsPlaced, early_stays, all_stay}
use Rattle.nm_laws.proofs.Early.Seen.{Shows, touch_shows}

-- a page that is there with another value is the map changed there
same_itself : (p : Page) → same_page p p ≡ true
same_itself p = ap is_eq (tied_itself page_cmp_total p)

pub at_page_here : {V : Type 0} (p : Page) (g : V → V) (v : V) → at_page p g p v ≡ g v
at_page_here p g v = ap (λ b. if b then g v else v) (same_itself p)

pub at_page_beside : {V : Type 0} (q : Page) (g : V → V) (p : Page) (v : V) → (q ≡ p → ⊥) → at_page q g p v ≡ v
at_page_beside q g p v other =
    elim (same_page p q) as (λ b. same_page p q ≡ b → (if b then g v else v) ≡ v) [
      | true ↦ λ b. absurd (other (sym (exact_page p q (equal _ b))))
      | false ↦ λ b. refl
    ] refl

values_same : {V : Type 0} (m : Map Page V) → with_values (λ (k : Page) (v : V). v) m ≡ m
values_same [] = refl
values_same (e ∷ m) = ap (λ es. e ∷ es) (values_same m)

-- to change the value of a page is to set it
pub changed_is_set : {V : Type 0} (m : Map Page V) (p : Page) (g : V → V) (v : V) → IsStrictlySortedBy page_cmp (keys_of m) → get page_cmp m p ≡ Some v → with_values (at_page p g) m ≡ set page_cmp m p (g v)
changed_is_set m p g v s h =
    sym (ap (with_values (at_page p g)) (set_same page_cmp_total exact_page m p v s h))
    ∙ with_values-set exact_page (at_page p g) m p v
    ∙ ap (set page_cmp (with_values (at_page p g) m) p) (at_page_here p g v)
    ∙ set_agree page_cmp_total exact_page (at_page p g) (λ q v. v) m p (g v) s (λ q w found b. ap (λ c. if c then g w else w) b)
    ∙ ap (λ (n : Map Page _). set page_cmp n p (g v)) (values_same m)

-- a new page beside the one that changes
pub new_beside : {V : Type 0} (m : Map Page V) (q : Page) (g : V → V) (p : Page) (v : V) → (q ≡ p → ⊥) → set page_cmp (with_values (at_page q g) m) p v ≡ with_values (at_page q g) (set page_cmp m p v)
new_beside m q g p v other = sym (with_values-set exact_page (at_page q g) m p v ∙ ap (set page_cmp (with_values (at_page q g) m) p) (at_page_beside q g p v other))

-- ---- what a touch leaves to do, done at once

sight_none : IsSome {T = Sight} None → ⊥
sight_none e = cc

module _ (t : State) (l : List ℕ) (h : IsSoundInFlight t l) (pid address : ℕ) where
  bytes_there : (p : Page) → sight_at t pid (address / 4096) ≡ Some (Sees p) → (i : ℕ) → byte_of t p (get page_cmp t.place p) i ≡ slice_index (unwrap_or (get page_cmp t.bytes p) []) i
  bytes_there p e i =
      elim (get page_cmp t.place p) as (λ o. IsSome o → byte_of t p o i ≡ slice_index (unwrap_or (get page_cmp t.bytes p) []) i) [ None ↦ λ some. cc | Some f ↦ λ some. refl ] (h.shown pid (address / 4096) p e).1

  read_is : (len : ℕ) (o : Option Sight) → address % 4096 + len ≤ 4096 → IsSome o → sight_at t pid (address / 4096) ≡ o → Bytes (mem_range t pid address len) ≡ answer_after_copy t (pending_read o (address % 4096) len)
  read_is len None fits some e = absurd (sight_none some)
  read_is len (Some ZeroPage) fits some e =
      let none = zero_has_none t l pid (address / 4096) h e in
      ap (λ a. Bytes (mem_range t pid a len)) (parted address) ∙ ap Bytes (zeros_here t pid (address / 4096) none.0 none.1 none.2 (address % 4096) len fits)
  read_is len (Some (Sees p)) fits some e =
      let at = (h.shown pid (address / 4096) p e).0 in
      ap (λ a. Bytes (mem_range t pid a len)) (parted address)
      ∙ ap Bytes (range_here t pid (address / 4096) p at (unwrap_or (get page_cmp t.bytes p) []) (bytes_there p e) (address % 4096) len fits)

  read_stays : (len : ℕ) (o : Option Sight) → t ≡ after_copy t (pending_read o (address % 4096) len)
  read_stays len None = refl
  read_stays len (Some ZeroPage) = refl
  read_stays len (Some (Sees p)) = refl

  bytes_sorted : IsStrictlySortedBy page_cmp (keys_of t.bytes)
  bytes_sorted = subst (IsStrictlySortedBy page_cmp) (sym h.bytes.same_pages) h.order.place

  rewritten : (p : Page) (i : ℕ) (new : List ℕ) (o : Option (List ℕ)) → IsSome o → get page_cmp t.bytes p ≡ o → replace page_cmp t.bytes p (overwrite (unwrap_or o []) i new) ≡ with_values (at_page p (λ old. overwrite old i new)) t.bytes
  rewritten p i new None some e = cc
  rewritten p i new (Some b) some e =
      replace_is_set page_cmp_total exact_page t.bytes p (overwrite b i new) bytes_sorted (subst (λ o. IsSome o) (sym e) refl)
      ∙ sym (changed_is_set t.bytes p (λ old. overwrite old i new) b bytes_sorted e)

  write_is : (new : List ℕ) (o : Option Sight) → sight_at t pid (address / 4096) ≡ o → with_bytes t o (address % 4096) new ≡ after_copy t (pending_write o (address % 4096) new)
  write_is new None e = refl
  write_is new (Some ZeroPage) e = refl
  write_is new (Some (Sees p)) e =
      let placed = (h.shown pid (address / 4096) p e).1 in
      ap (λ (bs : Map Page (List ℕ)). record t { bytes = bs })
      (rewritten p (address % 4096) new (get page_cmp t.bytes p) (some_from_keys page_cmp t.place t.bytes p (sym h.bytes.same_pages) placed) refl)

  write_told : (new : List ℕ) (o : Option Sight) → Done ≡ answer_after_copy t (pending_write o (address % 4096) new)
  write_told new None = refl
  write_told new (Some ZeroPage) = refl
  write_told new (Some (Sees p)) = refl

-- an access by what its touch leaves to do
abbrev pub at_once : BeforeCopy → AccessResult
at_once e = record { state = after_copy e.state e.due; answer = answer_after_copy e.state e.due }

read_at_once : (s : State) (l : List ℕ) (pid address len : ℕ) (r : Result State Errno) → StaysSound s l r → Shows s pid (address / 4096) r → ((t : State) → r ≡ Ok t → address % 4096 + len ≤ 4096)
    → read_after s pid address len r ≡ at_once (read_before_copy s pid address len r)
unfolding StaysSound Shows
read_at_once s l pid address len (Err e) sound shows fits = refl
read_at_once s l pid address len (Ok t) sound shows fits =
    let o = sight_at t pid (address / 4096) in
    λ i. record { state = read_stays t l sound.0 pid address len o i; answer = read_is t l sound.0 pid address len o (fits t refl) shows.0 refl i }

write_at_once : (s : State) (l : List ℕ) (pid address : ℕ) (new : List ℕ) (r : Result State Errno) → StaysSound s l r → write_after s pid address new r ≡ at_once (write_before_copy s pid address new r)
unfolding StaysSound
write_at_once s l pid address new (Err e) sound = refl
write_at_once s l pid address new (Ok t) sound =
    let o = sight_at t pid (address / 4096) in
    λ i. record { state = write_is t l sound.0 pid address new o refl i; answer = write_told t l sound.0 pid address new o i }

access_at_once : (s : State) (l : List ℕ) (a : Access) → IsSoundInFlight s l → access s a ≡ at_once (access_before_copy s a)
access_at_once s l (Read pid address len) h =
    read_at_once s l pid address len (touch s pid address len false) (touch_sound s l pid address len false h) (touch_shows s pid address len false)
    (λ t e. process_fits s pid address len false (get nat_cmp s.processes pid) t e)
access_at_once s l (Write pid address new) h =
    write_at_once s l pid address new (touch s pid address (length new) true) (touch_sound s l pid address (length new) true h)

pub flight_at_once : (s : State) (l : List ℕ) (moved : List Page) (a : Access) → IsSoundInFlight s l → access_during s moved a ≡ at_once (before_copy s moved a)
flight_at_once s l moved a h =
    elim (is_held moved (site_of_access s a)) as (λ b. (if b then record { state = s; answer = Held } else access s a) ≡ at_once (if b then held_before_copy s else access_before_copy s a)) [
      | true ↦ refl
      | false ↦ access_at_once s l a h
    ]

abbrev state_of : AccessResult → State
state_of x = x.state

flight_sound : (s : State) (l : List ℕ) (moved : List Page) (a : Access) → IsSoundInFlight s l → IsSoundInFlight (access_during s moved a).state l
flight_sound s l moved a h =
    elim (is_held moved (site_of_access s a)) as (λ b. IsSoundInFlight (state_of (if b then record { state = s; answer = Held } else access s a)) l) [ true ↦ h | false ↦ access_sound s l a h ]

-- ---- the touches of later accesses beside bytes that are written

module _ (q : Page) (g : List ℕ → List ℕ) (o : Option ℕ) (b : Option (List ℕ)) (l : List ℕ) where
  apart : (s : State) (p : Page) → IsPlaced q o b l s → get page_cmp s.place p ≡ None → q ≡ p → ⊥
  apart s p h none e = some_is_none (subst (λ o. IsSome o) (sym h.place ∙ ap (get page_cmp s.place) e ∙ none) h.some)
    where
      some_is_none : IsSome {T = ℕ} None → ⊥
      some_is_none e = cc

  no_page : {p : Page} → None ≡ Some (Sees p) → ⊥
  no_page e = cc

  spares : (s : State) (at : AccessSite) → IsPlaced q o b l s → IsSpot s at → Spares (λ m. m) (with_values (at_page q g)) s at
  spares s at h i =
      let beside = λ (none : get page_cmp s.place (shown_at at) ≡ None). new_beside s.bytes q g (shown_at at) (replicate 4096 0) (apart s (shown_at at) h none) in
      record {
        place = refl;
        placed = λ f. refl;
        unplaced = beside;
        zero = λ e.
            let none = zero_has_none s l at.pid at.vpn h.sound e in
            let same : none.0 ≡ shown_at at = some_is (sym none.1 ∙ page_at_spot s at i) in
            beside (ap (get page_cmp s.place) (sym same) ∙ none.2);
        absent = λ e private. beside (private_unplaced s l at h.sound i (λ p k. no_page (sym e ∙ k)) private);
      }

  pub all_beside : (moved : List Page) (accesses : List Access) (s : State) → IsPlaced q o b l s
      → all_before_copy (record s { bytes = with_values (at_page q g) s.bytes }) moved accesses ≡ (let e = all_before_copy s moved accesses in record e { state = record (e.state) { bytes = with_values (at_page q g) e.state.bytes } })
  all_beside moved accesses s h =
      all_early_too (λ m. m) (with_values (at_page q g)) (IsPlaced q o b l) moved
      (λ s a k held at e. let i = found s a at e in (i, spares s at k i)) (λ s a k. early_stays q o b l moved s a k) accesses s h

-- later touches find what was made, and leave the answers as they are
made_beside : (s : State) (l : List ℕ) (moved : List Page) (accesses : List Access) (d : PendingAccess) → IsSoundInFlight s l → ConcernsPage s d
    → all_before_copy (after_copy s d) moved accesses ≡ (let e = all_before_copy s moved accesses in record e { state = after_copy e.state d })
made_beside s l moved accesses (Known answer) h on = refl
made_beside s l moved accesses (ToRead page at len) h on = refl
made_beside s l moved accesses (ToWrite page at new) h on =
    all_beside page (λ old. overwrite old at new) (get page_cmp s.place page) (get page_cmp s.bytes page) l moved accesses s (record { sound = h; some = on; place = refl; bytes = refl })

told_later : (s : State) (l : List ℕ) (moved : List Page) (accesses : List Access) (d : PendingAccess) → IsSoundInFlight s l → ConcernsPage s d → answer_after_copy s d ≡ answer_after_copy (all_before_copy s moved accesses).state d
told_later s l moved accesses (Known answer) h on = refl
told_later s l moved accesses (ToWrite page at new) h on = refl
told_later s l moved accesses (ToRead page at len) h on =
    let kept = all_stay page (get page_cmp s.place page) (get page_cmp s.bytes page) l moved accesses s (record { sound = h; some = on; place = refl; bytes = refl }) in
    ap (λ o. Bytes (stretch_of (unwrap_or o []) at len)) (sym kept.bytes)

-- ---- where what is left to do is done

read_touches : (t : State) (l : List ℕ) (pid v at len : ℕ) (o : Option Sight) → IsSoundInFlight t l → sight_at t pid v ≡ o → ConcernsPage t (pending_read o at len)
read_touches t l pid v at len None h e = tt
read_touches t l pid v at len (Some ZeroPage) h e = tt
read_touches t l pid v at len (Some (Sees p)) h e = (h.shown pid v p e).1

write_touches : (t : State) (l : List ℕ) (pid v at : ℕ) (new : List ℕ) (o : Option Sight) → IsSoundInFlight t l → sight_at t pid v ≡ o → ConcernsPage t (pending_write o at new)
write_touches t l pid v at new None h e = tt
write_touches t l pid v at new (Some ZeroPage) h e = tt
write_touches t l pid v at new (Some (Sees p)) h e = (h.shown pid v p e).1

-- sound, and what is left to do is done to a page that has a frame
pub record IsReady (l : List ℕ) (e : BeforeCopy) : Type 0 where
  pub sound : IsSoundInFlight e.state l
  pub on : ConcernsPage e.state e.due

read_ready : (s : State) (l : List ℕ) (pid address len : ℕ) (r : Result State Errno) → IsSoundInFlight s l → StaysSound s l r → IsReady l (read_before_copy s pid address len r)
unfolding StaysSound
read_ready s l pid address len (Err e) h sound = record { sound = h; on = tt }
read_ready s l pid address len (Ok t) h sound = record { sound = sound.0; on = read_touches t l pid (address / 4096) (address % 4096) len (sight_at t pid (address / 4096)) sound.0 refl }

write_ready : (s : State) (l : List ℕ) (pid address : ℕ) (new : List ℕ) (r : Result State Errno) → IsSoundInFlight s l → StaysSound s l r → IsReady l (write_before_copy s pid address new r)
unfolding StaysSound
write_ready s l pid address new (Err e) h sound = record { sound = h; on = tt }
write_ready s l pid address new (Ok t) h sound = record { sound = sound.0; on = write_touches t l pid (address / 4096) (address % 4096) new (sight_at t pid (address / 4096)) sound.0 refl }

access_ready : (s : State) (l : List ℕ) (a : Access) → IsSoundInFlight s l → IsReady l (access_before_copy s a)
access_ready s l (Read pid address len) h = read_ready s l pid address len (touch s pid address len false) h (touch_sound s l pid address len false h)
access_ready s l (Write pid address new) h = write_ready s l pid address new (touch s pid address (length new) true) h (touch_sound s l pid address (length new) true h)

pub early_ready : (s : State) (l : List ℕ) (moved : List Page) (a : Access) → IsSoundInFlight s l → IsReady l (before_copy s moved a)
early_ready s l moved a h =
    elim (is_held moved (site_of_access s a)) as (λ b. IsReady l (if b then held_before_copy s else access_before_copy s a)) [ true ↦ record { sound = h; on = tt } | false ↦ access_ready s l a h ]

-- ---- the law

-- what was left to do is done after all touches
abbrev pub all_later : AllBeforeCopy → AccessResults
all_later e = all_after_copy e.state e.all_due

-- an answer before others
abbrev pub after_first : AccessAnswer → AccessResults → AccessResults
after_first x more = record { state = more.state; answers = x ∷ more.answers }

pub touches_first : (l : List ℕ) (moved : List Page) (accesses : List Access) (s : State) → IsSoundInFlight s l → all_in_flight s moved accesses ≡ all_later (all_before_copy s moved accesses)
touches_first l moved [] s h = refl
touches_first l moved (a ∷ accesses) s h =
    let now = before_copy s moved a in
    let ready = early_ready s l moved a h in
    let once = flight_at_once s l moved a h in
    let next = after_copy now.state now.due in
    let rest = all_before_copy now.state moved accesses in
    ap (λ (x : AccessResult). after_first x.answer (all_in_flight x.state moved accesses)) once
    ∙ ap (after_first (answer_after_copy now.state now.due))
    (touches_first l moved accesses next (subst (λ (x : AccessResult). IsSoundInFlight x.state l) once (flight_sound s l moved a h))
    ∙ ap all_later (made_beside now.state l moved accesses now.due ready.sound ready.on))
    ∙ ap (λ (x : AccessAnswer). after_first x (all_after_copy (after_copy rest.state now.due) rest.all_due)) (told_later now.state l moved accesses now.due ready.sound ready.on)
