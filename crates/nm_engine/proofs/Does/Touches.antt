-- What touches make of a machine's parts.
use Rattle.std.proofs.Common.{◌≡◌, ℕ, zero, suc, ◌<◌, ◌≤◌, ◌+◌, ◌-◌, ◌/◌, ◌%◌, ◌||◌, List, [], ◌∷◌, Bool, true, false, cond, length, refl, sym, ap, subst, ◌∙◌, arith, mod-lt}
use Rattle.std.specs.Prelude.{Option, Some, None, IsSome, IfNone, Ok, Err, ◌==◌, nat_lt, if◌then◌else◌, slice_get, slice_index_or, slice_set}
use Rattle.std.specs.Option.{option_map}
use Rattle.std.specs.Ordering.{nat_cmp, is_eq}
use Rattle.std.proofs.lemmas.Bool.{ne_eqb, le-ltb}
use Rattle.nm_types.specs.declared.page.Page.{Page}
use Rattle.nm_types.specs.declared.area.Area.{Area}
use Rattle.nm_types.specs.declared.sight.Sight.{Sight}
use Rattle.nm_types.specs.declared.sight.Sight.TheVariants.{ZeroPage, Sees}
use Rattle.nm_types.specs.declared.errno.Errno.TheVariants.{Einval}
use Rattle.nm_types.specs.Map.{Map, get, set, replace, page_cmp}
use Rattle.nm_types.specs.State.{Process, State, PlacedArea, covers, area_over, page_of}
use Rattle.nm_model.specs.definitions.Seen.{sight_in, sight_at, frame_seen}
use Rattle.nm_model.specs.definitions.Order.{first_touch_order}
use Rattle.nm_engine.specs.declared.resolved_address.ResolvedAddress.{ResolvedAddress}
use Rattle.nm_types.specs.declared.process.ProcessInfo.{ProcessInfo}
use Rattle.nm_model.specs.definitions.Effect.{info_of, seeing}
use Rattle.nm_model.specs.definitions.Areas.{is_shared}
use Rattle.nm_model.specs.definitions.Touch.{AccessSite, site, site_of, site_over, shown_at, first_free, allocate_page, fill_page, with_sight, with_bytes, touch_sight, touch_site, touch}
use Rattle.nm_engine.specs.views.Shown.{PagedFrames}
use Rattle.nm_engine.proofs.Shown.PagedFrames.{HasItsFrames, free_of, stock_page}
use Rattle.nm_model.specs.views.Table.{Table}
use Rattle.nm_engine.specs.views.Shown.{state_of_parts}
use Rattle.nm_engine.specs.views.RunState.{RunState, IsSoundMachine}
use Rattle.nm_engine.specs.views.Parts.{IsSiteOf, access_site}
use Rattle.nm_model.specs.definitions.Frames.{bytes_of, overwrite}
use Rattle.nm_types.proofs.Maps.{page_cmp_total, get-set}
use Rattle.std.specs.Cmp.{tied_itself}
use Rattle.nm_types.proofs.Cases.{some_is}
use Rattle.nm_laws.proofs.Seen.Sights.{IsSpot, page_at_spot, Fits, with_sight_sound, sight_here}
use Rattle.nm_laws.proofs.Soundness.Allocated.{placed_sound, placed_front}
use Rattle.nm_laws.proofs.Soundness.Touched.{has_front, private_unplaced, bytes_sound}
use Rattle.nm_engine.proofs.Shown.FrameChanges.{page_stocked_shows, written_shows}
use Rattle.nm_laws.proofs.Seen.Frames.{page_of_frame, zero_sees}

-- what holds of the state that the parts show holds of the parts
pub inside : (s : State) (left : List ℕ) (room : ℕ) (y : RunState) → record { state = s; left = left; room = room } ≡ y → (P : State → Type 0) → P y.state → P s
inside s left room y is P h = subst (λ (z : RunState). P z.state) (sym is) h

pub outside : (s : State) (left : List ℕ) (room : ℕ) (y : RunState) → record { state = s; left = left; room = room } ≡ y → (P : State → Type 0) → P s → P y.state
outside s left room y is P h = subst (λ (z : RunState). P z.state) is h

pub spot_there : (s : State) (t : ResolvedAddress) (p : Process) (a : PlacedArea) → IsSiteOf s.processes s.areas t p a → IsSpot s (access_site t p a)
spot_there s t p a h = record { process = h.known; area = h.over }

pub not_none : {V : Type 0} (P : Type 0) (o : Option V) → IsSome o → IfNone o P
not_none P None h = cc
not_none P (Some v) h = tt

-- a node that has a free frame is one of the machine's
pub short_list : (free : List (List ℕ)) (node : ℕ) → 0 < length (slice_index_or free node []) → node < length free
short_list [] node h = absurd (omega (arith, h))
short_list (xs ∷ free) zero h = omega arith
short_list (xs ∷ free) (suc node) h = let rest = short_list free node h in omega (arith, rest)

some_length : (n : ℕ) → (n == 0) ≡ false → 0 < n
some_length zero h = cc
some_length (suc n) h = omega arith

pub no_front : (frames : List ℕ) → slice_get frames 0 ≡ None → 0 < length frames → ⊥
no_front [] h some = omega (arith, some)
no_front (f ∷ frames) h some = cc

pub found_free : (free : List (List ℕ)) (order : List ℕ) (node : ℕ) → first_free free order ≡ Some node → 0 < length (slice_index_or free node [])
found_free free order node h = some_length _ (has_front free order node h)

module _ {c : ℕ} (tasks : Map ℕ Process) (m : Table) (x : PagedFrames) (online : List ℕ) (moved failed : ℕ) (l : List ℕ) (t : ResolvedAddress) (p : Process) (a : PlacedArea)
    (kept : IsSoundMachine (state_of_parts tasks m x online moved failed) l c) (touch_site : IsSiteOf tasks m.areas t p a) where
  -- the process sees something else
  pub seen_kept : (sight : Sight) (new : Map ℕ Process) → new ≡ replace nat_cmp tasks t.pid (seeing p t.vpn sight) → Fits (state_of_parts tasks m x online moved failed) (access_site t p a) sight
      → ((q : Page) → sight_at (state_of_parts tasks m x online moved failed) t.pid t.vpn ≡ Some (Sees q) → ⊥) → IsSoundMachine (state_of_parts new m x online moved failed) l c
  seen_kept sight new is fits unseen =
      subst (λ ps. IsSoundMachine (state_of_parts ps m x online moved failed) l c) (sym is)
      (record {
        sound = with_sight_sound (state_of_parts tasks m x online moved failed) l (access_site t p a) sight kept.sound (spot_there (state_of_parts tasks m x online moved failed) t p a touch_site) fits unseen;
        as_many = kept.as_many;
      })

  pub sees_now : (sight : Sight) (new : Map ℕ Process) → new ≡ replace nat_cmp tasks t.pid (seeing p t.vpn sight) → sight_in (get nat_cmp new t.pid) t.vpn ≡ Some sight
  sees_now sight new is =
      ap (λ (ps : Map ℕ Process). sight_in (get nat_cmp ps t.pid) t.vpn) is
      ∙ sight_here (state_of_parts tasks m x online moved failed) (access_site t p a) sight (spot_there (state_of_parts tasks m x online moved failed) t p a touch_site)

  -- the page has a frame then
  pub filled_shows : (node : ℕ) (new : Map ℕ Process) (after : PagedFrames) → HasItsFrames x → new ≡ replace nat_cmp tasks t.pid (seeing p t.vpn (Sees t.page)) → after ≡ stock_page x t.page node
      → get page_cmp x.place t.page ≡ None → 0 < length (free_of x node)
      → state_of_parts new m after online moved failed ≡ with_sight (placed_front (state_of_parts tasks m x online moved failed) node (free_of x node) (shown_at (access_site t p a))) (access_site t p a) (Sees (shown_at (access_site t p a)))
  filled_shows node new after paged_frames is to unplaced some =
      ap (λ y. state_of_parts new m y online moved failed) to
      ∙ page_stocked_shows new m x online moved failed paged_frames t.page node unplaced some
      ∙ ap (λ ps. placed_front (state_of_parts ps m x online moved failed) node (free_of x node) t.page) is
      ∙ ap (λ q. with_sight (placed_front (state_of_parts tasks m x online moved failed) node (free_of x node) q) (access_site t p a) (Sees q)) (sym touch_site.page)

  pub filled_kept : (node : ℕ) (new : Map ℕ Process) (after : PagedFrames) → HasItsFrames x → new ≡ replace nat_cmp tasks t.pid (seeing p t.vpn (Sees t.page)) → after ≡ stock_page x t.page node
      → get page_cmp x.place t.page ≡ None → 0 < length (free_of x node) → ((q : Page) → sight_at (state_of_parts tasks m x online moved failed) t.pid t.vpn ≡ Some (Sees q) → ⊥)
      → IsSoundMachine (state_of_parts new m after online moved failed) l c
  filled_kept node new after paged_frames is to unplaced some unseen =
      subst (λ s. IsSoundMachine s l c) (sym (filled_shows node new after paged_frames is to unplaced some))
      (record {
        sound = placed_sound (state_of_parts tasks m x online moved failed) l (access_site t p a) node kept.sound (spot_there (state_of_parts tasks m x online moved failed) t p a touch_site) unseen
            (subst (λ q. get page_cmp x.place q ≡ None) (sym touch_site.page) unplaced) (ne_eqb (length (free_of x node)) 0 (λ e. absurd (omega (arith, e, some))));
        as_many = kept.as_many;
      })

  -- and that is what the definition says
  pub filled_is : (node : ℕ) → first_free x.free (first_touch_order x.layout online t.info.home t.info.allowed t.policy t.page.index) ≡ Some node
      → fill_page (state_of_parts tasks m x online moved failed) (access_site t p a)
      ≡ Ok (with_sight (placed_front (state_of_parts tasks m x online moved failed) node (free_of x node) (shown_at (access_site t p a))) (access_site t p a) (Sees (shown_at (access_site t p a))))
  filled_is node found =
      let order : first_touch_order x.layout online p.home p.allowed a.1.policy (page_of a t.vpn).index ≡ first_touch_order x.layout online t.info.home t.info.allowed t.policy t.page.index =
      λ i. first_touch_order x.layout online (touch_site.info i).home (touch_site.info i).allowed (touch_site.policy i) (touch_site.page i).index in
      ap (allocate_page (state_of_parts tasks m x online moved failed) (access_site t p a)) (ap (first_free x.free) order ∙ found)

  -- a private page that the process does not see has no frame
  pub private_here : is_shared m.segments t.page.segment ≡ false → is_shared m.segments (shown_at (access_site t p a)).segment ≡ false
  private_here private = ap (λ (q : Page). is_shared m.segments q.segment) touch_site.page ∙ private

  pub private_unplaced_here : ((q : Page) → sight_at (state_of_parts tasks m x online moved failed) t.pid t.vpn ≡ Some (Sees q) → ⊥) → is_shared m.segments t.page.segment ≡ false
      → get page_cmp x.place t.page ≡ None
  private_unplaced_here unseen private =
      ap (get page_cmp x.place) (sym touch_site.page)
      ∙ private_unplaced (state_of_parts tasks m x online moved failed) l (access_site t p a) kept.sound (spot_there (state_of_parts tasks m x online moved failed) t p a touch_site) unseen (private_here private)

  -- where the process sees the page of zeros, its page is private
  pub zero_unplaced : sight_at (state_of_parts tasks m x online moved failed) t.pid t.vpn ≡ Some ZeroPage → get page_cmp x.place t.page ≡ None
  zero_unplaced sees =
      let zero = kept.sound.zeros t.pid t.vpn sees in
      let same : zero.0 ≡ shown_at (access_site t p a) = some_is (sym zero.1 ∙ page_at_spot (state_of_parts tasks m x online moved failed) (access_site t p a) (spot_there (state_of_parts tasks m x online moved failed) t p a touch_site)) in
      private_unplaced_here (zero_sees sees) (ap (λ (q : Page). is_shared m.segments q.segment) (sym touch_site.page ∙ sym same) ∙ zero.2)

pub get_set_same : (places : Map Page ℕ) (page : Page) (frame : ℕ) → get page_cmp (set page_cmp places page frame) page ≡ Some frame
get_set_same places page frame =
    get-set page_cmp_total places page frame page ∙ ap (λ r. cond (is_eq r) (Some frame) (get page_cmp places page)) (tied_itself page_cmp_total page)

-- the area over a page number covers it, and is one of the areas
pub over_covers : (areas : Map (ℕ × ℕ) Area) (pid v : ℕ) (a : PlacedArea) → area_over areas pid v ≡ Some a → covers a pid v ≡ true
over_covers [] pid v a h = cc
over_covers (x ∷ areas) pid v a h =
    elim (covers x pid v) as (λ b. covers x pid v ≡ b → cond b (Some x) (area_over areas pid v) ≡ Some a → covers a pid v ≡ true) [
      | true ↦ λ b k. subst (λ y. covers y pid v ≡ true) (some_is k) b
      | false ↦ λ b k. over_covers areas pid v a k
    ] refl h

-- what is kept of a process that is known
pub mapped_some : {V W : Type 0} (f : V → W) (o : Option V) (w : W) → option_map f o ≡ Some w → (v : V) × (o ≡ Some v) × (f v ≡ w)
mapped_some f None w h = cc
mapped_some f (Some v) w h = (v, refl, some_is h)

pub spot_found : (s : State) (pid address len : ℕ) (p : Process) (a : PlacedArea) → get nat_cmp s.processes pid ≡ Some p → (len == 0) ≡ false → nat_lt 4096 (address % 4096 + len) ≡ false
    → area_over s.areas pid (address / 4096) ≡ Some a → site s pid address len ≡ Ok (record { pid = pid; process = p; area = a; vpn = address / 4096 })
spot_found s pid address len p a known some inside over =
    ap (λ o. site_of s o pid address len) known
    ∙ ap (λ b. if b || nat_lt 4096 (address % 4096 + len) then Err Einval else site_over pid p (address / 4096) (area_over s.areas pid (address / 4096))) some
    ∙ ap (λ b. if b then Err Einval else site_over pid p (address / 4096) (area_over s.areas pid (address / 4096))) inside
    ∙ ap (site_over pid p (address / 4096)) over

-- where an area is over a page number of a process, bytes inside the page are touched there
pub touched_there : (processes : Map ℕ Process) (areas : Map (ℕ × ℕ) Area) (pid address len v first index : ℕ) (info : ProcessInfo) (area : Area) → option_map info_of (get nat_cmp processes pid) ≡ Some info → (len ≡ 0 → ⊥)
    → len ≤ 4096 - address % 4096 → v ≡ address / 4096 → Some ((pid, first), area) ≡ area_over areas pid v → index ≡ area.page.index + (v - first)
    → (p : Process) × (a : PlacedArea)
    × IsSiteOf processes areas (record { pid = pid; info = info; vpn = v; page = record { segment = area.page.segment; index = index }; policy = area.policy }) p a
    × ((s : State) → s.processes ≡ processes → s.areas ≡ areas
    → site s pid address len ≡ Ok (access_site (record { pid = pid; info = info; vpn = v; page = record { segment = area.page.segment; index = index }; policy = area.policy }) p a))
touched_there processes areas pid address len v first index info area known some within at over is =
    let p = mapped_some info_of (get nat_cmp processes pid) info known in
    let a : PlacedArea = ((pid, first), area) in
    let part : address % 4096 < 4096 = mod-lt address (omega arith) in
    let fits : nat_lt 4096 (address % 4096 + len) ≡ false = le-ltb 4096 (address % 4096 + len) (omega (arith, within, part)) in
    let there : area_over areas pid (address / 4096) ≡ Some a = ap (area_over areas pid) (sym at) ∙ sym over in (
      p.0,
      a,
      record { known = p.1; info = p.2; over = sym over; policy = refl; page = ap (λ i. record { segment = area.page.segment; index = i }) (sym is) },
      λ s same_processes same_areas. spot_found s pid address len p.0 a (ap (λ ps. get nat_cmp ps pid) same_processes ∙ p.1) (ne_eqb len 0 some) fits (ap (λ ars. area_over ars pid (address / 4096)) same_areas ∙ there)
          ∙ ap (λ w. Ok (record { pid = pid; process = p.0; area = a; vpn = w })) (sym at),
    )

pub touch_is : (s t : State) (pid address len : ℕ) (writes : Bool) (at : AccessSite) → site s pid address len ≡ Ok at → touch_sight s at writes (get nat_cmp at.process.sees at.vpn) ≡ Ok t → touch s pid address len writes ≡ Ok t
touch_is s t pid address len writes at e h = ap (touch_site s writes) e ∙ h

-- bytes that are written into the frame of the page that is seen
module _ {c : ℕ} (tasks : Map ℕ Process) (m : Table) (x : PagedFrames) (online : List ℕ) (moved failed : ℕ) (l : List ℕ) (pid address f : ℕ) (new : List ℕ) (after : PagedFrames) (kept : IsSoundMachine (state_of_parts tasks m x online moved failed) l c) (paged_frames : HasItsFrames x)
    (seen : frame_seen (state_of_parts tasks m x online moved failed) pid (address / 4096) ≡ Some f) (is : after ≡ record x { frames = slice_set x.frames f (Some (overwrite (bytes_of x.frames f) (address % 4096) new)) }) where
  pub written_is : state_of_parts tasks m after online moved failed
      ≡ with_bytes (state_of_parts tasks m x online moved failed) (sight_at (state_of_parts tasks m x online moved failed) pid (address / 4096)) (address % 4096) new
  written_is =
      let page = page_of_frame x.place (sight_at (state_of_parts tasks m x online moved failed) pid (address / 4096)) f seen in
      ap (λ y. state_of_parts tasks m y online moved failed) is
      ∙ written_shows tasks m x online moved failed paged_frames page.0 f (address % 4096) new page.2
      ∙ ap (λ o. with_bytes (state_of_parts tasks m x online moved failed) o (address % 4096) new) (sym page.1)

  pub written_kept : address % 4096 + length new ≤ 4096 → IsSoundMachine (state_of_parts tasks m after online moved failed) l c
  written_kept fits =
      let page = page_of_frame x.place (sight_at (state_of_parts tasks m x online moved failed) pid (address / 4096)) f seen in
      let sound = bytes_sound (state_of_parts tasks m x online moved failed) l pid (address / 4096) (address % 4096) new (Some (Sees page.0)) kept.sound page.1 fits in
      subst (λ s. IsSoundMachine s l c) (sym (written_is ∙ ap (λ o. with_bytes (state_of_parts tasks m x online moved failed) o (address % 4096) new) page.1))
      (record { sound = sound; as_many = kept.as_many })
