-- A write changes its own bytes, for everyone who has the page, and no others.
use Rattle.std.proofs.Common.{◌≡◌, ℕ, ◌+◌, ◌-◌, ◌/◌, ◌%◌, ◌≤◌, ◌<◌, List, [], ◌++◌, append_assoc, Bool, true, false, ◌&&◌, cond, refl, sym, ap, subst, ◌∙◌, length, length-take, take, drop, get_or, arith}
use Rattle.std.proofs.lemmas.Bool.{ltb-true, ltb-false, leb-true, leb-false}
use Rattle.std.proofs.lemmas.List.{get_or_append_left, get_or-append_right, get_or-take, get_or-drop}
use Rattle.std.specs.Prelude.{Option, Some, None, IsSome, Result, Ok, Err, ◌==◌, nat_lt, nat_le, ◌||◌, if◌then◌else◌, slice_index}
use Rattle.std.specs.Option.{unwrap_or, option_map}
use Rattle.std.specs.Ordering.{nat_cmp}
use Rattle.nm_types.specs.declared.page.Page.{Page}
use Rattle.nm_types.specs.declared.errno.Errno.{Errno}
use Rattle.nm_types.specs.declared.errno.Errno.TheVariants.{Einval}
use Rattle.nm_types.specs.Map.{get, replace, page_cmp, same_page}
use Rattle.nm_types.specs.declared.sight.Sight.{Sight}
use Rattle.nm_types.specs.declared.sight.Sight.TheVariants.{ZeroPage, Sees}
use Rattle.nm_types.specs.State.{Process, State, PlacedArea, free_list, area_over, page_at}
use Rattle.nm_model.specs.definitions.Seen.{sight_in, sight_at}
use Rattle.nm_model.specs.definitions.Order.{first_touch_order}
use Rattle.nm_model.specs.definitions.Memory.{mem, byte_of}
use Rattle.nm_model.specs.definitions.Areas.{is_shared}
use Rattle.nm_model.specs.definitions.Frames.{overwrite}
use Rattle.nm_model.specs.definitions.Touch.{AccessSite, Done, shown_at, site_over, site_of, first_free, allocate_page, fill_page, share_page, touch_sight, touch_site, touch, with_page, without_front_frame, with_bytes, write_after}
use Rattle.nm_model.specs.definitions.Sound.{IsSoundInFlight}
use Rattle.nm_laws.specs.Laws.{is_one_page, is_within, WritingIsExact}
use Rattle.nm_types.proofs.Keys.{some_from_keys}
use Rattle.nm_types.proofs.Maps.{page_cmp_total, exact_page, equal, get-replace}
use Rattle.nm_laws.proofs.Seen.Sights.{IsSpot, sight_here}
use Rattle.nm_laws.proofs.Soundness.Touched.{StaysSound, touch_sound, seen_bytes, process_fits}

-- ---- a touch before a write

-- the areas stay, and the process sees a page there
Reaches : State → ℕ → ℕ → Result State Errno → Type 0
Reaches s pid v (Err e) = Unit {0}
Reaches s pid v (Ok t) = (t.areas ≡ s.areas) × ((p : Page) × (sight_at t pid v ≡ Some (Sees p)))

module _ (s : State) (at : AccessSite) (i : IsSpot s at) where
  allocated_reaches : (o : Option ℕ) → Reaches s at.pid at.vpn (allocate_page s at o)
  unfolding Reaches
  allocated_reaches None = tt
  allocated_reaches (Some node) =
      let placed = with_page (without_front_frame s node) (shown_at at) (slice_index (free_list s node) 0) in
      (refl, (shown_at at, sight_here placed at (Sees (shown_at at)) (record { process = i.process; area = i.area })))

  filled_reaches : Reaches s at.pid at.vpn (fill_page s at)
  filled_reaches = allocated_reaches (first_free s.free (first_touch_order s.layout s.online at.process.home at.process.allowed at.area.1.policy (shown_at at).index))

  joined_reaches : (o : Option ℕ) → Reaches s at.pid at.vpn (share_page s at o)
  unfolding Reaches
  joined_reaches None = filled_reaches
  joined_reaches (Some frame) = (refl, (shown_at at, sight_here s at (Sees (shown_at at)) i))

  entry_reaches : (o : Option Sight) → sight_at s at.pid at.vpn ≡ o → Reaches s at.pid at.vpn (touch_sight s at true o)
  unfolding Reaches
  entry_reaches None e =
      elim (is_shared s.segments (shown_at at).segment) as (λ b. Reaches s at.pid at.vpn (if b then share_page s at (get page_cmp s.place (shown_at at)) else fill_page s at)) [
        | true ↦ joined_reaches (get page_cmp s.place (shown_at at))
        | false ↦ filled_reaches
      ]
  entry_reaches (Some ZeroPage) e = filled_reaches
  entry_reaches (Some (Sees p)) e = (refl, (p, e))

over_reaches : (s : State) (pid v : ℕ) (process : Process) (o : Option PlacedArea) → get nat_cmp s.processes pid ≡ Some process → area_over s.areas pid v ≡ o → Reaches s pid v (touch_site s true (site_over pid process v o))
unfolding Reaches
over_reaches s pid v process None p a = tt
over_reaches s pid v process (Some area) p a =
    let at : AccessSite = record { pid = pid; process = process; area = area; vpn = v } in
    entry_reaches s at (record { process = p; area = a }) (get nat_cmp process.sees v) (ap (λ o. sight_in o v) p)

process_reaches : (s : State) (pid address len : ℕ) (o : Option Process) → get nat_cmp s.processes pid ≡ o → Reaches s pid (address / 4096) (touch_site s true (site_of s o pid address len))
unfolding Reaches
process_reaches s pid address len None e = tt
process_reaches s pid address len (Some process) e =
    elim ((len == 0) || nat_lt 4096 (address % 4096 + len)) as (λ b. Reaches s pid (address / 4096) (touch_site s true (if b then Err Einval else site_over pid process (address / 4096) (area_over s.areas pid (address / 4096))))) [
      | true ↦ tt
      | false ↦ over_reaches s pid (address / 4096) process (area_over s.areas pid (address / 4096)) e refl
    ]

-- ---- bytes in the place of others

module _ (old : List ℕ) (first : ℕ) (new : List ℕ) (j : ℕ) (fits : first + length new ≤ length old) where
  parts : slice_index (overwrite old first new) j ≡ slice_index (take first old ++ (new ++ drop (first + length new) old)) j
  parts = ap (λ (l : List ℕ). slice_index l j) (append_assoc (take first old) new (drop (first + length new) old))

  in_front : j < first → slice_index (overwrite old first new) j ≡ slice_index old j
  in_front lt =
      parts ∙ (get_or_append_left (take first old) (new ++ drop (first + length new) old) 0 j (omega (arith, length-take first old, lt, fits))
      ∙ get_or-take first old j 0 lt)

  behind : first ≤ j → slice_index (overwrite old first new) j ≡ slice_index (new ++ drop (first + length new) old) (j - first)
  behind le = parts ∙ get_or-append_right (take first old) (new ++ drop (first + length new) old) first j 0 (omega (arith, length-take first old, fits)) le

  overwritten : slice_index (overwrite old first new) j ≡ cond (is_within first (length new) j) (slice_index new (j - first)) (slice_index old j)
  overwritten =
      elim (nat_le first j) as (λ b. nat_le first j ≡ b → slice_index (overwrite old first new) j ≡ cond (b && nat_lt j (first + length new)) (slice_index new (j - first)) (slice_index old j)) [
        | false ↦ λ b. in_front (leb-false first j b)
        | true ↦ λ b. let le = leb-true first j b in
            elim (nat_lt j (first + length new)) as (λ c. nat_lt j (first + length new) ≡ c → slice_index (overwrite old first new) j ≡ cond c (slice_index new (j - first)) (slice_index old j)) [
              | true ↦ λ c. let lt = ltb-true j (first + length new) c in
                  behind le ∙ get_or_append_left new (drop (first + length new) old) 0 (j - first) (omega (arith, le, lt))
              | false ↦ λ c. let ge = ltb-false j (first + length new) c in
                  let there : (first + length new) + ((j - first) - length new) ≡ j = omega (arith, le, ge) in
                  behind le
                  ∙ (get_or-append_right new (drop (first + length new) old) (length new) (j - first) 0 refl (omega (arith, le, ge))
                  ∙ (get_or-drop (first + length new) old ((j - first) - length new) 0
                  ∙ ap (λ k. get_or old k 0) there))
            ] refl
      ] refl

-- ---- the page that is written

some_cond : (b : Bool) (x y : ℕ) → Some (cond b x y) ≡ cond b (Some x) (Some y)
some_cond true x y = refl
some_cond false x y = refl

-- what a process has at an address where this page is shown
abbrev shown_byte : State → Option Page → ℕ → Option ℕ
shown_byte s o j = option_map (λ p. byte_of s p (get page_cmp s.place p) j) o

module _ (t : State) (l : List ℕ) (pid v first : ℕ) (new : List ℕ) (p : Page) (h : IsSoundInFlight t l) (seen : sight_at t pid v ≡ Some (Sees p)) (fits : first + length new ≤ 4096) where
  placed : IsSome (get page_cmp t.place p)
  placed = (h.shown pid v p seen).1

  has_bytes : IsSome (get page_cmp t.bytes p)
  has_bytes = some_from_keys page_cmp t.place t.bytes p (sym h.bytes.same_pages) placed

  whole : length (unwrap_or (get page_cmp t.bytes p) []) ≡ 4096
  whole = seen_bytes t l p (get page_cmp t.bytes p) h refl has_bytes

  abbrev after : State
  after = record t { bytes = replace page_cmp t.bytes p (overwrite (unwrap_or (get page_cmp t.bytes p) []) first new) }

  -- the bytes of a page then
  bytes_then : (q : Page) → get page_cmp after.bytes q ≡ cond (same_page p q) (Some (overwrite (unwrap_or (get page_cmp t.bytes p) []) first new)) (get page_cmp t.bytes q)
  bytes_then q = get-replace page_cmp_total exact_page t.bytes p (overwrite (unwrap_or (get page_cmp t.bytes p) []) first new) q has_bytes

  -- the byte at a place of the page that is written ..
  byte_here : (o : Option ℕ) → IsSome o → (j : ℕ) → same_page p p ≡ true → byte_of after p o j ≡ cond (is_within first (length new) j) (slice_index new (j - first)) (byte_of t p o j)
  byte_here None some j b = cc
  byte_here (Some frame) some j b =
      ap (λ o. slice_index (unwrap_or o []) j) (bytes_then p ∙ ap (λ c. cond c (Some (overwrite (unwrap_or (get page_cmp t.bytes p) []) first new)) (get page_cmp t.bytes p)) b)
      ∙ overwritten (unwrap_or (get page_cmp t.bytes p) []) first new j (omega (arith, fits, whole))

  -- .. and of another page
  byte_elsewhere : (o : Option ℕ) (j : ℕ) (q : Page) → same_page p q ≡ false → byte_of after q o j ≡ byte_of t q o j
  byte_elsewhere None j q b = refl
  byte_elsewhere (Some frame) j q b =
      ap (λ o. slice_index (unwrap_or o []) j) (bytes_then q ∙ ap (λ c. cond c (Some (overwrite (unwrap_or (get page_cmp t.bytes p) []) first new)) (get page_cmp t.bytes q)) b)

  of_one_page : (q : Page) (j : ℕ) → p ≡ q → same_page p q ≡ true → Some (byte_of after q (get page_cmp t.place q) j) ≡ cond (is_within first (length new) j) (Some (slice_index new (j - first))) (Some (byte_of t q (get page_cmp t.place q) j))
  of_one_page q j is b =
      subst (λ (r : Page). same_page p r ≡ true → Some (byte_of after r (get page_cmp t.place r) j) ≡ cond (is_within first (length new) j) (Some (slice_index new (j - first))) (Some (byte_of t r (get page_cmp t.place r) j))) is
      (λ c. ap Some (byte_here (get page_cmp t.place p) placed j c) ∙ some_cond (is_within first (length new) j) (slice_index new (j - first)) (byte_of t p (get page_cmp t.place p) j)) b

  byte_after : (o : Option Page) (j : ℕ) → shown_byte after o j ≡ cond (is_one_page (Some p) o && is_within first (length new) j) (Some (slice_index new (j - first))) (shown_byte t o j)
  byte_after None j = refl
  byte_after (Some q) j =
      elim (same_page p q) as (λ b. same_page p q ≡ b → Some (byte_of after q (get page_cmp t.place q) j) ≡ cond (b && is_within first (length new) j) (Some (slice_index new (j - first))) (Some (byte_of t q (get page_cmp t.place q) j))) [
        | true ↦ λ b. of_one_page q j (exact_page p q (equal _ b)) b
        | false ↦ λ b. ap Some (byte_elsewhere (get page_cmp t.place q) j q b)
      ] refl

-- ---- a write

module _ (s : State) (l : List ℕ) (pid address : ℕ) (new : List ℕ) (q at : ℕ) where
  hits : Option Page → Option Page → Bool
  hits o r = is_one_page o r && is_within (address % 4096) (length new) (at % 4096)

  byte_new : Option ℕ
  byte_new = Some (slice_index new (at % 4096 - address % 4096))

  exact_after : (r : Result State Errno) → StaysSound s l r → Reaches s pid (address / 4096) r → ((t : State) → r ≡ Ok t → address % 4096 + length new ≤ 4096) → (write_after s pid address new r).answer ≡ Done
      → mem (write_after s pid address new r).state q at ≡ cond (hits (page_at s.areas pid (address / 4096)) (page_at s.areas q (at / 4096))) byte_new (mem s q at)
  unfolding StaysSound Reaches hits byte_new
  exact_after (Err e) k r fits done = cc
  exact_after (Ok t) k r fits done =
      let seen = r.1.1 in
      let page : Some r.1.0 ≡ page_at s.areas pid (address / 4096) = sym (k.0.shown pid (address / 4096) r.1.0 seen).0 ∙ ap (λ a. page_at a pid (address / 4096)) r.0 in
      ap (λ o. mem (with_bytes t o (address % 4096) new) q at) seen
      ∙ (byte_after t l pid (address / 4096) (address % 4096) new r.1.0 k.0 seen (fits t refl) (page_at t.areas q (at / 4096)) (at % 4096)
      ∙ (ap (λ o. cond (is_one_page o (page_at t.areas q (at / 4096)) && is_within (address % 4096) (length new) (at % 4096)) (Some (slice_index new (at % 4096 - address % 4096))) (mem t q at)) page
      ∙ (ap (λ a. cond (is_one_page (page_at s.areas pid (address / 4096)) (page_at a q (at / 4096)) && is_within (address % 4096) (length new) (at % 4096)) (Some (slice_index new (at % 4096 - address % 4096))) (mem t q at)) r.0
      ∙ ap (λ m. cond (is_one_page (page_at s.areas pid (address / 4096)) (page_at s.areas q (at / 4096)) && is_within (address % 4096) (length new) (at % 4096)) (Some (slice_index new (at % 4096 - address % 4096))) m) (k.1 q at))))

pub writing_is_exact : WritingIsExact
unfolding hits byte_new
writing_is_exact s left pid address new q at h done =
    exact_after s left pid address new q at (touch s pid address (length new) true)
    (touch_sound s left pid address (length new) true h)
    (process_reaches s pid address (length new) (get nat_cmp s.processes pid) refl)
    (λ t. process_fits s pid address (length new) true (get nat_cmp s.processes pid) t)
    done
