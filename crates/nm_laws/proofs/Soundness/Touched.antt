-- Reads and writes keep a machine sound.
use Rattle.nm_types.proofs.Maps.{page_cmp_total, exact_page, equal, get-set}
use Rattle.nm_model.specs.definitions.Memory.{mem, byte_of}
use Rattle.std.proofs.Common.{◌≡◌, ℕ, ◌+◌, ◌/◌, ◌%◌, ◌≤◌, List, [], ◌∷◌, Bool, true, false, ◌||◌, cond, refl, sym, ap, subst, ◌∙◌, length, length-append, length-take, length-drop, arith, zero, suc}
use Rattle.std.specs.Prelude.{slice_index_or, Option, Some, None, IsSome, Result, Ok, Err, ◌==◌, nat_lt, if◌then◌else◌, slice_index, replicate}
use Rattle.std.specs.Option.{unwrap_or, option_map}
use Rattle.std.specs.Ordering.{nat_cmp, is_eq}
use Rattle.std.proofs.lemmas.Bool.{or_right, ltb-false}
use Rattle.nm_types.specs.declared.page.Page.{Page}
use Rattle.nm_types.specs.declared.errno.Errno.{Errno}
use Rattle.nm_types.specs.declared.errno.Errno.TheVariants.{Einval}
use Rattle.nm_types.specs.Map.{get, replace, page_cmp, set}
use Rattle.nm_types.specs.declared.sight.Sight.{Sight}
use Rattle.nm_types.specs.declared.sight.Sight.TheVariants.{ZeroPage, Sees}
use Rattle.nm_types.specs.State.{Process, State, PlacedArea, free_list, area_over, page_at}
use Rattle.nm_types.proofs.Cases.{some_is}
use Rattle.nm_model.specs.definitions.Seen.{sight_in, sight_at}
use Rattle.nm_model.specs.definitions.Order.{first_touch_order}
use Rattle.nm_model.specs.definitions.Areas.{is_shared}
use Rattle.nm_model.specs.definitions.Frames.{overwrite}
use Rattle.nm_model.specs.definitions.Touch.{AccessSite, shown_at, site_over, site_of, first_free, allocate_page, fill_page, share_page, touch_sight, touch_site, touch, with_sight, Access, Read, Write, read_after, with_bytes, write_after, access, with_page, read}
use Rattle.nm_model.specs.definitions.Sound.{IsSoundInFlight}
use Rattle.nm_types.proofs.Keys.{keys-replace, All-replace, All-get, some_from_keys}
use Rattle.nm_laws.proofs.Seen.Sights.{IsSpot, page_at_spot, with_sight_sound}
use Rattle.nm_laws.proofs.Soundness.Contents as contents
use Rattle.nm_laws.proofs.Soundness.Allocated.{placed_sound, placed_front}

-- a page of zeros shows what was shown before
zero_byte : (n i : ℕ) → slice_index (replicate n 0) i ≡ 0
zero_byte zero i = refl
zero_byte (suc n) zero = refl
zero_byte (suc n) (suc i) = zero_byte n i

new_byte : (s : State) (p : Page) (f i : ℕ) → get page_cmp s.place p ≡ None → (r : Page) → byte_of (with_page s p f) r (get page_cmp (set page_cmp s.place p f) r) i ≡ byte_of s r (get page_cmp s.place r) i
new_byte s p f i unplaced r =
    let zeros : List ℕ = replicate 4096 0 in
    let t = with_page s p f in
    let bytes = get-set page_cmp_total s.bytes p zeros r in
    ap (λ o. byte_of t r o i) (get-set page_cmp_total s.place p f r)
    ∙ elim (is_eq (page_cmp r p)) as (λ b. is_eq (page_cmp r p) ≡ b → byte_of t r (cond b (Some f) (get page_cmp s.place r)) i ≡ byte_of s r (get page_cmp s.place r) i) [
      | true ↦ λ b.
          ap (λ o. slice_index (unwrap_or o []) i) (bytes ∙ ap (λ c. cond c (Some zeros) (get page_cmp s.bytes r)) b) ∙ zero_byte 4096 i
          ∙ sym (ap (λ o. byte_of s r o i) (ap (get page_cmp s.place) (exact_page r p (equal _ b)) ∙ unplaced))
      | false ↦ λ b. elim (get page_cmp s.place r) as (λ o. byte_of t r o i ≡ byte_of s r o i) [
        | None ↦ refl
        | Some g ↦ ap (λ o. slice_index (unwrap_or o []) i) (bytes ∙ ap (λ c. cond c (Some zeros) (get page_cmp s.bytes r)) b)
      ]
    ] refl

placed_keeps : (s : State) (at : AccessSite) (node : ℕ) → get page_cmp s.place (shown_at at) ≡ None → (q a : ℕ)
    → mem (with_sight (placed_front s node (free_list s node) (shown_at at)) at (Sees (shown_at at))) q a ≡ mem s q a
placed_keeps s at node unplaced q a =
    elim (page_at s.areas q (a / 4096)) as (λ o. option_map (λ r. byte_of (with_page s (shown_at at) (slice_index (free_list s node) 0)) r (get page_cmp (set page_cmp s.place (shown_at at) (slice_index (free_list s node) 0)) r) (a % 4096)) o
    ≡ option_map (λ r. byte_of s r (get page_cmp s.place r) (a % 4096)) o) [
      | None ↦ refl
      | Some r ↦ ap Some (new_byte s (shown_at at) (slice_index (free_list s node) 0) (a % 4096) unplaced r)
    ]

-- if it is not refused, the state is sound, and every process has the bytes that it had
unfoldable pub StaysSound : State → List ℕ → Result State Errno → Type 0
StaysSound s l (Err e) = Unit {0}
StaysSound s l (Ok t) = IsSoundInFlight t l × ((q a : ℕ) → mem t q a ≡ mem s q a)

-- the node that is found has a free frame
pub has_front : (free : List (List ℕ)) (nodes : List ℕ) (node : ℕ) → first_free free nodes ≡ Some node → (length (slice_index_or free node []) == 0) ≡ false
has_front free [] node h = cc
has_front free (n ∷ nodes) node h =
    elim (length (slice_index_or free n []) == 0) as (λ b. (length (slice_index_or free n []) == 0) ≡ b → cond b (first_free free nodes) (Some n) ≡ Some node → (length (slice_index_or free node []) == 0) ≡ false) [
      | true ↦ λ b h. has_front free nodes node h
      | false ↦ λ b h. subst (λ k. (length (slice_index_or free k []) == 0) ≡ false) (some_is h) b
    ] refl h

module _ (s : State) (l : List ℕ) (at : AccessSite) (h : IsSoundInFlight s l) (i : IsSpot s at) (unseen : (p : Page) → sight_at s at.pid at.vpn ≡ Some (Sees p) → ⊥) where
  allocated_sound : (o : Option ℕ) → get page_cmp s.place (shown_at at) ≡ None → ((node : ℕ) → o ≡ Some node → (length (free_list s node) == 0) ≡ false) → StaysSound s l (allocate_page s at o)
  unfolding StaysSound
  allocated_sound None unplaced some = tt
  allocated_sound (Some node) unplaced some = (placed_sound s l at node h i unseen unplaced (some node refl), placed_keeps s at node unplaced)

  filled_sound : get page_cmp s.place (shown_at at) ≡ None → StaysSound s l (fill_page s at)
  filled_sound unplaced =
      let order = first_touch_order s.layout s.online at.process.home at.process.allowed at.area.1.policy (shown_at at).index in
      allocated_sound (first_free s.free order) unplaced (λ node. has_front s.free order node)

  -- a private page that is not seen here has no place
  pub private_unplaced : is_shared s.segments (shown_at at).segment ≡ false → get page_cmp s.place (shown_at at) ≡ None
  private_unplaced private =
      elim (get page_cmp s.place (shown_at at)) as (λ o. get page_cmp s.place (shown_at at) ≡ o → o ≡ None) [
        | None ↦ λ e. refl
        | Some frame ↦ λ e.
            let seen = h.seen (shown_at at) (subst IsSome (sym e) refl) private in
            let shown = h.shown seen.0 seen.1 (shown_at at) seen.2 in
            let same = h.once seen.0 seen.1 at.pid at.vpn (shown_at at) shown.0 (page_at_spot s at i) private in
            absurd (unseen (shown_at at) (ap (λ (z : ℕ × ℕ). sight_at s z.0 z.1) (λ j. (sym same.0 j, sym same.1 j)) ∙ seen.2))
      ] refl

  joined_sound : (o : Option ℕ) → get page_cmp s.place (shown_at at) ≡ o → StaysSound s l (share_page s at o)
  unfolding StaysSound
  joined_sound None e = filled_sound e
  joined_sound (Some frame) e = (with_sight_sound s l at (Sees (shown_at at)) h i (refl, subst IsSome (sym e) refl) unseen, λ q a. refl)

  absent_sound : (writes : Bool) → StaysSound s l (touch_sight s at writes None)
  unfolding StaysSound
  absent_sound writes =
      elim (is_shared s.segments (shown_at at).segment) as (λ b. is_shared s.segments (shown_at at).segment ≡ b → StaysSound s l (if b then share_page s at (get page_cmp s.place (shown_at at)) else (if writes then fill_page s at else Ok (with_sight s at ZeroPage)))) [
        | true ↦ λ b. joined_sound (get page_cmp s.place (shown_at at)) refl
        | false ↦ λ b. elim writes as (λ w. StaysSound s l (if w then fill_page s at else Ok (with_sight s at ZeroPage))) [
          | true ↦ filled_sound (private_unplaced b)
          | false ↦ (with_sight_sound s l at ZeroPage h i b unseen, λ q a. refl)
        ]
      ] refl

  zero_sound : (writes : Bool) → is_shared s.segments (shown_at at).segment ≡ false → StaysSound s l (touch_sight s at writes (Some ZeroPage))
  unfolding StaysSound
  zero_sound writes private =
      elim writes as (λ w. StaysSound s l (if w then fill_page s at else Ok s)) [ true ↦ filled_sound (private_unplaced private) | false ↦ (h, λ q a. refl) ]

sight_of_spot : (s : State) (at : AccessSite) → IsSpot s at → sight_at s at.pid at.vpn ≡ get nat_cmp at.process.sees at.vpn
sight_of_spot s at i = ap (λ o. sight_in o at.vpn) i.process

zero_page : (p : Page) → Some ZeroPage ≡ Some (Sees p) → ⊥
zero_page p e = cc

none_page : (p : Page) → None ≡ Some (Sees p) → ⊥
none_page p e = cc

entry_sound : (s : State) (l : List ℕ) (at : AccessSite) (writes : Bool) (o : Option Sight) → IsSoundInFlight s l → IsSpot s at → sight_at s at.pid at.vpn ≡ o → StaysSound s l (touch_sight s at writes o)
unfolding StaysSound
entry_sound s l at writes None h i e = absent_sound s l at h i (λ p k. none_page p (sym e ∙ k)) writes
entry_sound s l at writes (Some ZeroPage) h i e =
    let zero = h.zeros at.pid at.vpn e in
    let same : Some zero.0 ≡ Some (shown_at at) = sym zero.1 ∙ page_at_spot s at i in
    zero_sound s l at h i (λ p k. zero_page p (sym e ∙ k)) writes (subst (λ p. is_shared s.segments p.segment ≡ false) (some_is same) zero.2)
entry_sound s l at writes (Some (Sees p)) h i e = (h, λ q a. refl)

over_sound : (s : State) (l : List ℕ) (pid v : ℕ) (process : Process) (writes : Bool) (o : Option PlacedArea) → IsSoundInFlight s l → get nat_cmp s.processes pid ≡ Some process → area_over s.areas pid v ≡ o
    → StaysSound s l (touch_site s writes (site_over pid process v o))
unfolding StaysSound
over_sound s l pid v process writes None h p a = tt
over_sound s l pid v process writes (Some area) h p a =
    let at : AccessSite = record { pid = pid; process = process; area = area; vpn = v } in
    let i : IsSpot s at = record { process = p; area = a } in
    entry_sound s l at writes (get nat_cmp process.sees v) h i (sight_of_spot s at i)

process_sound : (s : State) (l : List ℕ) (pid address len : ℕ) (writes : Bool) (o : Option Process) → IsSoundInFlight s l → get nat_cmp s.processes pid ≡ o → StaysSound s l (touch_site s writes (site_of s o pid address len))
unfolding StaysSound
process_sound s l pid address len writes None h e = tt
process_sound s l pid address len writes (Some process) h e =
    elim ((len == 0) || nat_lt 4096 (address % 4096 + len)) as (λ b. StaysSound s l (touch_site s writes (if b then Err Einval else site_over pid process (address / 4096) (area_over s.areas pid (address / 4096))))) [
      | true ↦ tt
      | false ↦ over_sound s l pid (address / 4096) process writes (area_over s.areas pid (address / 4096)) h e refl
    ]

pub touch_sound : (s : State) (l : List ℕ) (pid address len : ℕ) (writes : Bool) → IsSoundInFlight s l → StaysSound s l (touch s pid address len writes)
touch_sound s l pid address len writes h = process_sound s l pid address len writes (get nat_cmp s.processes pid) h refl

read_sound : (s : State) (l : List ℕ) (pid address len : ℕ) (r : Result State Errno) → IsSoundInFlight s l → StaysSound s l r → IsSoundInFlight (read_after s pid address len r).state l
unfolding StaysSound
read_sound s l pid address len (Err e) h k = h
read_sound s l pid address len (Ok t) h k = k.0

-- overwriting bytes leaves their number as it is
length-overwrite : (old : List ℕ) (i : ℕ) (new : List ℕ) → length old ≡ 4096 → i + length new ≤ 4096 → length (overwrite old i new) ≡ 4096
length-overwrite old i new whole fits = simp (length-append, length-take, length-drop) (omega arith)

pub seen_bytes : (s : State) (l : List ℕ) (p : Page) (o : Option (List ℕ)) → IsSoundInFlight s l → get page_cmp s.bytes p ≡ o → IsSome o → length (unwrap_or o []) ≡ 4096
seen_bytes s l p None h e some = cc
seen_bytes s l p (Some b) h e some = All-get page_cmp (λ b. length b ≡ 4096) s.bytes p b h.bytes.whole e

-- other bytes of a page
rewritten_sound : (s : State) (l : List ℕ) (p : Page) (new : List ℕ) → IsSoundInFlight s l → length new ≡ 4096 → IsSoundInFlight (record s { bytes = replace page_cmp s.bytes p new }) l
rewritten_sound s l p new h whole =
    contents.bytes_sound s l (replace page_cmp s.bytes p new)
    (record {
      same_pages = keys-replace page_cmp s.bytes p new ∙ h.bytes.same_pages;
      whole = All-replace page_cmp (λ b. length b ≡ 4096) s.bytes p new h.bytes.whole whole;
    }) h

pub bytes_sound : (s : State) (l : List ℕ) (pid v i : ℕ) (new : List ℕ) (o : Option Sight) → IsSoundInFlight s l → sight_at s pid v ≡ o → i + length new ≤ 4096 → IsSoundInFlight (with_bytes s o i new) l
bytes_sound s l pid v i new None h e fits = h
bytes_sound s l pid v i new (Some ZeroPage) h e fits = h
bytes_sound s l pid v i new (Some (Sees p)) h e fits =
    let placed = (h.shown pid v p e).1 in
    let had = seen_bytes s l p (get page_cmp s.bytes p) h refl (some_from_keys page_cmp s.place s.bytes p (sym h.bytes.same_pages) placed) in
    rewritten_sound s l p (overwrite (unwrap_or (get page_cmp s.bytes p) []) i new) h (length-overwrite _ i new had fits)

write_after_sound : (s : State) (l : List ℕ) (pid address : ℕ) (new : List ℕ) (r : Result State Errno) → IsSoundInFlight s l → StaysSound s l r → ((t : State) → r ≡ Ok t → address % 4096 + length new ≤ 4096)
    → IsSoundInFlight (write_after s pid address new r).state l
unfolding StaysSound
write_after_sound s l pid address new (Err e) h k fits = h
write_after_sound s l pid address new (Ok t) h k fits = bytes_sound t l pid (address / 4096) (address % 4096) new (sight_at t pid (address / 4096)) k.0 refl (fits t refl)

err_ok : {e : Errno} {t : State} → Err e ≡ Ok t → ⊥
err_ok e = cc

pub process_fits : (s : State) (pid address len : ℕ) (writes : Bool) (o : Option Process) (t : State) → touch_site s writes (site_of s o pid address len) ≡ Ok t → address % 4096 + len ≤ 4096
process_fits s pid address len writes None t e = absurd (err_ok e)
process_fits s pid address len writes (Some process) t e =
    elim (nat_lt 4096 (address % 4096 + len)) as (λ b. nat_lt 4096 (address % 4096 + len) ≡ b → touch_site s writes (if (len == 0) || b then Err Einval else site_over pid process (address / 4096) (area_over s.areas pid (address / 4096))) ≡ Ok t → address % 4096 + len ≤ 4096) [
      | true ↦ λ b e. absurd (err_ok (sym (ap (λ c. touch_site s writes (if c then Err Einval else site_over pid process (address / 4096) (area_over s.areas pid (address / 4096)))) (or_right (len == 0) true refl)) ∙ e))
      | false ↦ λ b e. ltb-false 4096 (address % 4096 + len) b
    ] refl e

pub access_sound : (s : State) (l : List ℕ) (a : Access) → IsSoundInFlight s l → IsSoundInFlight (access s a).state l
access_sound s l (Read pid address len) h = read_sound s l pid address len (touch s pid address len false) h (touch_sound s l pid address len false h)
access_sound s l (Write pid address new) h =
    write_after_sound s l pid address new (touch s pid address (length new) true) h (touch_sound s l pid address (length new) true h)
    (λ t. process_fits s pid address (length new) true (get nat_cmp s.processes pid) t)

read_keeps : (s : State) (l : List ℕ) (pid address len : ℕ) (r : Result State Errno) → StaysSound s l r → (q a : ℕ) → mem (read_after s pid address len r).state q a ≡ mem s q a
unfolding StaysSound
read_keeps s l pid address len (Err e) k q a = refl
read_keeps s l pid address len (Ok t) k q a = k.1 q a

pub reading_keeps : (s : State) (l : List ℕ) (pid address len : ℕ) → IsSoundInFlight s l → (q a : ℕ) → mem (read s pid address len).state q a ≡ mem s q a
reading_keeps s l pid address len h = read_keeps s l pid address len (touch s pid address len false) (touch_sound s l pid address len false h)
