use Rattle.std.proofs.Common.{◌≡◌, ℕ, ◌∙◌, refl, sym, ap, subst, Some, None, IsSome, Bool, true, false}
use Rattle.std.specs.Prelude.{Option, Ok, IfNone, if◌then◌else◌}
use Rattle.std.specs.Option.{option_map}
use Rattle.std.specs.Result.{result_err}
use Rattle.std.proofs.lemmas.Bool.{false≢true}
use Rattle.nm_types.proofs.Cases.{none_some}
use Rattle.nm_types.specs.declared.page.Page.{Page}
use Rattle.nm_types.specs.declared.sight.Sight.{Sight}
use Rattle.nm_types.specs.State.{State, Process, PlacedArea}
use Rattle.nm_model.specs.definitions.Areas.{Mapping, is_shared}
use Rattle.nm_engine.specs.declared.resolved_address.ResolvedAddress.{ResolvedAddress}
use Rattle.nm_engine.specs.declared.touch.TouchOutcome.{TouchOutcome}
use Rattle.nm_model.specs.definitions.Touch.{shown_at, fill_page, share_page, with_sight, touch_sight}
use Rattle.nm_types.specs.declared.sight.Sight.TheVariants.{Sees, ZeroPage}
use Rattle.nm_types.specs.Map.{get, page_cmp}
use Rattle.std.specs.Ordering.{nat_cmp}
use Rattle.nm_model.specs.definitions.Seen.{sight_in, sight_at}
use Rattle.nm_engine.specs.views.Shown.{state_of_parts, shown_by}
use Rattle.nm_engine.specs.views.RunState.{IsSoundMachine}
use Rattle.nm_engine.specs.views.Parts.{IsSiteOf, access_site}
use Rattle.nm_model.specs.definitions.Seen.{frame_of}
use Rattle.nm_engine.proofs.Does.Touches.{not_none, seen_kept, sees_now, private_here, private_unplaced_here, zero_unplaced}
use Rattle.nm_laws.proofs.Seen.Frames.{none_sees, zero_sees}
use Rattle.nm_spaces.specs.declared.address_spaces.PlacedSight.{PlacedSight}
use Rattle.nm_spaces.specs.views.AddressSpaces.{AddressSpacesView, table_of, with_seen}
use Rattle.nm_engine.specs.views.Shown.{paged_frames}
use Rattle.nm_spaces.proofs.ProcessTable.Changes.{on_any}
use Rattle.nm_engine.proofs.Does.HandedOn.{may_ask, memory_handed_on, touch_handed_on, nothing_touched}
use Rattle.nm_engine.specs.definitions.Does.{AsksLast, Touches}
use Rattle.nm_engine.specs.definitions.Undo.{undo_of}
use Rattle.nm_engine.proofs.Undo.Noted.{noted_placed, noted_seen, nothing_given}
use Rattle.nm_engine.proofs.resolved_address.ResolvedAddress.touch.Goals as goal

-- what the process sees, without its frame
abbrev seen_sight : Option PlacedSight → Option Sight
seen_sight o = option_map (λ (x : PlacedSight). x.sight) o

-- what the process sees is what its entry says
entry_is : (s : State) (t : ResolvedAddress) (p : Process) (a : PlacedArea) → IsSiteOf s.processes s.areas t p a → {o : Option Sight} → sight_at s t.pid t.vpn ≡ o → get nat_cmp p.sees t.vpn ≡ o
entry_is s t p a h e = ap (λ q. sight_in q t.vpn) (sym h.known) ∙ e

-- the touch of a page that the process sees already, or of the page of zeros
entry_touched : (s : State) (t : ResolvedAddress) (p : Process) (a : PlacedArea) (writes : Bool) (o : Option Sight) → IsSiteOf s.processes s.areas t p a → sight_at s t.pid t.vpn ≡ o
    → touch_sight s (access_site t p a) writes (get nat_cmp p.sees t.vpn) ≡ touch_sight s (access_site t p a) writes o
entry_touched s t p a writes o h e = ap (touch_sight s (access_site t p a) writes) (entry_is s t p a h e)

zero_touched : (s : State) (t : ResolvedAddress) (p : Process) (a : PlacedArea) (writes : Bool) → IsSiteOf s.processes s.areas t p a → sight_at s t.pid t.vpn ≡ Some ZeroPage → {b : Bool} → writes ≡ b
    → touch_sight s (access_site t p a) writes (get nat_cmp p.sees t.vpn) ≡ (if b then fill_page s (access_site t p a) else Ok s)
zero_touched s t p a writes h e w = entry_touched s t p a writes (Some ZeroPage) h e ∙ ap (λ b. if b then fill_page s (access_site t p a) else Ok s) w

-- where it sees nothing, the page's segment decides
shared_at : (s : State) (t : ResolvedAddress) (p : Process) (a : PlacedArea) → IsSiteOf s.processes s.areas t p a → {b : Bool} → is_shared s.segments t.page.segment ≡ b → is_shared s.segments (shown_at (access_site t p a)).segment ≡ b
shared_at s t p a h e = ap (λ (q : Page). is_shared s.segments q.segment) h.page ∙ e

shared_touched : (s : State) (t : ResolvedAddress) (p : Process) (a : PlacedArea) (writes : Bool) → IsSiteOf s.processes s.areas t p a → sight_at s t.pid t.vpn ≡ None → is_shared s.segments t.page.segment ≡ true
    → touch_sight s (access_site t p a) writes (get nat_cmp p.sees t.vpn) ≡ share_page s (access_site t p a) (get page_cmp s.place t.page)
shared_touched s t p a writes h e shared =
    let at = access_site t p a in
    entry_touched s t p a writes None h e
    ∙ ap (λ b. if b then share_page s at (get page_cmp s.place (shown_at at)) else (if writes then fill_page s at else Ok (with_sight s at ZeroPage))) (shared_at s t p a h shared)
    ∙ ap (λ (q : Page). share_page s at (get page_cmp s.place q)) h.page

private_touched : (s : State) (t : ResolvedAddress) (p : Process) (a : PlacedArea) (writes : Bool) → IsSiteOf s.processes s.areas t p a → sight_at s t.pid t.vpn ≡ None → is_shared s.segments t.page.segment ≡ false → {b : Bool} → writes ≡ b
    → touch_sight s (access_site t p a) writes (get nat_cmp p.sees t.vpn) ≡ (if b then fill_page s (access_site t p a) else Ok (with_sight s (access_site t p a) ZeroPage))
private_touched s t p a writes h e private w =
    let at = access_site t p a in
    entry_touched s t p a writes None h e
    ∙ ap (λ b. if b then share_page s at (get page_cmp s.place (shown_at at)) else (if writes then fill_page s at else Ok (with_sight s at ZeroPage))) (shared_at s t p a h private)
    ∙ ap (λ b. if b then fill_page s at else Ok (with_sight s at ZeroPage)) w

pub fill-requires-clause-absent : goal.fill-requires-clause-absent
fill-requires-clause-absent g c =
    let touched = c.requires.site.2 in
    let sees : sight_at (state_of_parts c.args.spaces.now.processes (table_of c.args.spaces.now) (paged_frames c.args.spaces.now c.args.frames.now) c.args.online 0 0) c.args.self.pid c.args.self.vpn ≡ Some ZeroPage = sym c.sight.ensures.sight ∙ ap seen_sight c.in-Some.is ∙ ap Some c.in-ZeroPage.is in
    zero_unplaced c.args.spaces.now.processes (table_of c.args.spaces.now) (paged_frames c.args.spaces.now c.args.frames.now) c.args.online 0 0 _ c.args.self c.requires.site.0 c.requires.site.1 (c.requires.kept 0 0) touched sees

pub fill-requires-then-writes-2-clause-absent : goal.fill-requires-then-writes-2-clause-absent
fill-requires-then-writes-2-clause-absent g c =
    let touched = c.requires.site.2 in
    let sees : sight_at (state_of_parts c.args.spaces.now.processes (table_of c.args.spaces.now) (paged_frames c.args.spaces.now c.args.frames.now) c.args.online 0 0) c.args.self.pid c.args.self.vpn ≡ None = sym c.sight.ensures.sight ∙ ap seen_sight c.in-None.is in
    private_unplaced_here c.args.spaces.now.processes (table_of c.args.spaces.now) (paged_frames c.args.spaces.now c.args.frames.now) c.args.online 0 0 _ c.args.self c.requires.site.0 c.requires.site.1 (c.requires.kept 0 0) touched (none_sees sees) (sym (c.is_shared.ensures ∙ ap (λ (m : Mapping). is_shared m.segments c.args.self.page.segment) c.areas.ensures.areas) ∙ c.if-is_shared.false)

pub returns-in_ok-see_zero-in-None-clause-kept : goal.returns-in_ok-see_zero-in-None-clause-kept
returns-in_ok-see_zero-in-None-clause-kept g c m f =
    let touched = c.requires.site.2 in
    let sees : sight_at (state_of_parts c.args.spaces.now.processes (table_of c.args.spaces.now) (paged_frames c.args.spaces.now c.args.frames.now) c.args.online m f) c.args.self.pid c.args.self.vpn ≡ None = sym c.sight.ensures.sight ∙ ap seen_sight c.in-None.is in
    subst (λ (z : AddressSpacesView). IsSoundMachine (shown_by z c.args.frames.now c.args.online m f) c.args.frames.now.vacated z.frames) (sym (c.in_ok-see_zero-in-None.ensures.ok c.requires.site.0 touched.known))
    (seen_kept c.args.spaces.now.processes (table_of c.args.spaces.now) (paged_frames c.args.spaces.now c.args.frames.now) c.args.online m f _ c.args.self c.requires.site.0 c.requires.site.1 (c.requires.kept m f) touched ZeroPage _ refl
    (private_here c.args.spaces.now.processes (table_of c.args.spaces.now) (paged_frames c.args.spaces.now c.args.frames.now) c.args.online m f _ c.args.self c.requires.site.0 c.requires.site.1 (c.requires.kept m f) touched (sym (c.is_shared.ensures ∙ ap (λ (m : Mapping). is_shared m.segments c.args.self.page.segment) c.areas.ensures.areas) ∙ c.if-is_shared.false)) (none_sees sees))

pub returns-in-Sees-clause-some : goal.returns-in-Sees-clause-some
returns-in-Sees-clause-some g c writes =
    let sees : sight_at (state_of_parts c.args.spaces.now.processes (table_of c.args.spaces.now) (paged_frames c.args.spaces.now c.args.frames.now) c.args.online 0 0) c.args.self.pid c.args.self.vpn ≡ Some (Sees c.in-Sees.field-0) = sym c.sight.ensures.sight ∙ ap seen_sight c.in-Some.is ∙ ap Some c.in-Sees.is in
    subst (λ (o : Option ℕ). IsSome o) (sym (c.in-Some.ensures.frame ∙ ap (λ s. frame_of c.args.spaces.now.place (Some s)) c.in-Sees.is)) ((c.requires.kept 0 0).sound.shown c.args.self.pid c.args.self.vpn c.in-Sees.field-0 sees).1

pub returns-in_ok-see_zero-in-None-clause-frame : goal.returns-in_ok-see_zero-in-None-clause-frame
returns-in_ok-see_zero-in-None-clause-frame g c =
    let touched = c.requires.site.2 in
    let is = c.in_ok-see_zero-in-None.ensures.ok c.requires.site.0 touched.known in
    let seen = sees_now c.args.spaces.now.processes (table_of c.args.spaces.now) (paged_frames c.args.spaces.now c.args.frames.now) c.args.online 0 0 _ c.args.self c.requires.site.0 c.requires.site.1 (c.requires.kept 0 0) touched ZeroPage (with_seen c.args.spaces.now c.args.self.pid c.requires.site.0 c.args.self.vpn ZeroPage).processes refl in
    ap (λ (x : TouchOutcome). x.frame) c.seen.ensures ∙ sym (ap (λ (z : AddressSpacesView). frame_of z.place (sight_in (get nat_cmp z.processes c.args.self.pid) c.args.self.vpn)) is ∙ ap (frame_of c.args.spaces.now.place) seen)

pub returns-in-Sees-clause-zeros : goal.returns-in-Sees-clause-zeros
returns-in-Sees-clause-zeros g c =
    let sees : sight_at (state_of_parts c.args.spaces.now.processes (table_of c.args.spaces.now) (paged_frames c.args.spaces.now c.args.frames.now) c.args.online 0 0) c.args.self.pid c.args.self.vpn ≡ Some (Sees c.in-Sees.field-0) = sym c.sight.ensures.sight ∙ ap seen_sight c.in-Some.is ∙ ap Some c.in-Sees.is in
    not_none _ c.in-Some.seen.frame (subst (λ (o : Option ℕ). IsSome o) (sym (c.in-Some.ensures.frame ∙ ap (λ s. frame_of c.args.spaces.now.place (Some s)) c.in-Sees.is)) ((c.requires.kept 0 0).sound.shown c.args.self.pid c.args.self.vpn c.in-Sees.field-0 sees).1)

pub returns-in_ok-see_zero-in-None-clause-zeros : goal.returns-in_ok-see_zero-in-None-clause-zeros
returns-in_ok-see_zero-in-None-clause-zeros g c =
    let touched = c.requires.site.2 in
    let is = c.in_ok-see_zero-in-None.ensures.ok c.requires.site.0 touched.known in
    let seen = sees_now c.args.spaces.now.processes (table_of c.args.spaces.now) (paged_frames c.args.spaces.now c.args.frames.now) c.args.online 0 0 _ c.args.self c.requires.site.0 c.requires.site.1 (c.requires.kept 0 0) touched ZeroPage (with_seen c.args.spaces.now c.args.self.pid c.requires.site.0 c.args.self.vpn ZeroPage).processes refl in
    subst (λ (x : TouchOutcome). IfNone x.frame (sight_at (shown_by c.see_zero.new.self c.args.frames.now c.args.online 0 0) c.args.self.pid c.args.self.vpn ≡ Some ZeroPage)) (sym c.seen.ensures) (ap (λ (z : AddressSpacesView). sight_in (get nat_cmp z.processes c.args.self.pid) c.args.self.vpn) is ∙ seen)

pub returns-in-Sees-clause-touches : goal.returns-in-Sees-clause-touches
returns-in-Sees-clause-touches g c m f p a known =
    let s = shown_by c.args.spaces.now c.args.frames.now c.args.online m f in
    entry_touched s c.args.self p a c.args.writes (Some (Sees c.in-Sees.field-0)) known
    ((sym c.sight.ensures.sight ∙ ap seen_sight c.in-Some.is ∙ ap Some c.in-Sees.is))

pub returns-in_ok-frame-in-ZeroPage-clause-touches : goal.returns-in_ok-frame-in-ZeroPage-clause-touches
returns-in_ok-frame-in-ZeroPage-clause-touches g c m f p a known =
    let s = shown_by c.args.spaces.now c.args.frames.now c.args.online m f in
    zero_touched s c.args.self p a c.args.writes known
    ((sym c.sight.ensures.sight ∙ ap seen_sight c.in-Some.is ∙ ap Some c.in-ZeroPage.is)) c.if-writes.true
    ∙ c.in_ok-frame-in-ZeroPage.ensures.touches m f p a known

pub returns-else-writes-clause-touches : goal.returns-else-writes-clause-touches
returns-else-writes-clause-touches g c m f p a known =
    let s = shown_by c.args.spaces.now c.args.frames.now c.args.online m f in
    zero_touched s c.args.self p a c.args.writes known
    ((sym c.sight.ensures.sight ∙ ap seen_sight c.in-Some.is ∙ ap Some c.in-ZeroPage.is)) c.if-writes.false

pub returns-in_err-frame-in-ZeroPage-clause-touches : goal.returns-in_err-frame-in-ZeroPage-clause-touches
returns-in_err-frame-in-ZeroPage-clause-touches g c m f p a known =
    let s = shown_by c.args.spaces.now c.args.frames.now c.args.online m f in
    touch_handed_on c.fill.result c.from_residual.result _ s (shown_by c.fill.new.spaces c.fill.new.frames c.args.online m f) c.in_err-frame-in-ZeroPage.was c.from_residual.ensures
    (zero_touched s c.args.self p a c.args.writes known
    ((sym c.sight.ensures.sight ∙ ap seen_sight c.in-Some.is ∙ ap Some c.in-ZeroPage.is)) c.if-writes.true)
    (c.fill.ensures.touches m f p a known)

pub returns-in_ok-frame-in-None-clause-touches : goal.returns-in_ok-frame-in-None-clause-touches
returns-in_ok-frame-in-None-clause-touches g c m f p a known =
    let s = shown_by c.args.spaces.now c.args.frames.now c.args.online m f in
    private_touched s c.args.self p a c.args.writes known
    ((sym c.sight.ensures.sight ∙ ap seen_sight c.in-None.is))
    ((sym (c.is_shared.ensures ∙ ap (λ (m : Mapping). is_shared m.segments c.args.self.page.segment) c.areas.ensures.areas) ∙ c.if-is_shared.false)) c.if-writes-2.true
    ∙ c.in_ok-frame-in-None.ensures.touches m f p a known

pub returns-in_err-frame-in-None-clause-touches : goal.returns-in_err-frame-in-None-clause-touches
returns-in_err-frame-in-None-clause-touches g c m f p a known =
    let s = shown_by c.args.spaces.now c.args.frames.now c.args.online m f in
    touch_handed_on c.fill-then-writes-2.result c.from_residual-in_err-frame-in-None.result _ s (shown_by c.fill-then-writes-2.new.spaces c.fill-then-writes-2.new.frames c.args.online m f) c.in_err-frame-in-None.was c.from_residual-in_err-frame-in-None.ensures
    (private_touched s c.args.self p a c.args.writes known
    ((sym c.sight.ensures.sight ∙ ap seen_sight c.in-None.is))
    ((sym (c.is_shared.ensures ∙ ap (λ (m : Mapping). is_shared m.segments c.args.self.page.segment) c.areas.ensures.areas) ∙ c.if-is_shared.false)) c.if-writes-2.true)
    (c.fill-then-writes-2.ensures.touches m f p a known)

pub returns-in_ok-see_zero-in-None-clause-touches : goal.returns-in_ok-see_zero-in-None-clause-touches
returns-in_ok-see_zero-in-None-clause-touches g c m f p a known =
    let touched = known in
    private_touched (shown_by c.args.spaces.now c.args.frames.now c.args.online m f) c.args.self p a c.args.writes known
    ((sym c.sight.ensures.sight ∙ ap seen_sight c.in-None.is))
    ((sym (c.is_shared.ensures ∙ ap (λ (m : Mapping). is_shared m.segments c.args.self.page.segment) c.areas.ensures.areas) ∙ c.if-is_shared.false)) c.if-writes-2.false
    ∙ ap (λ (z : AddressSpacesView). Ok (shown_by z c.args.frames.now c.args.online m f)) (sym (c.in_ok-see_zero-in-None.ensures.ok p touched.known))

pub returns-in_err-see_zero-in-None-clause-touches : goal.returns-in_err-see_zero-in-None-clause-touches
returns-in_err-see_zero-in-None-clause-touches g c m f p a known =
    nothing_touched c.from_residual-in_err-see_zero-in-None.result _ _ _ c.from_residual-in_err-see_zero-in-None.ensures
    (ap (λ (z : AddressSpacesView). shown_by z c.args.frames.now c.args.online m f) c.in_err-see_zero-in-None.ensures.err)

pub returns-in-Sees-clause-frame : goal.returns-in-Sees-clause-frame
returns-in-Sees-clause-frame g c =
    c.in-Some.ensures.frame
    ∙ ap (frame_of c.args.spaces.now.place) (sym (sym c.sight.ensures.sight ∙ ap seen_sight c.in-Some.is))

pub returns-else-writes-clause-frame : goal.returns-else-writes-clause-frame
returns-else-writes-clause-frame g c =
    ap (frame_of c.args.spaces.now.place) (sym (sym c.sight.ensures.sight ∙ ap seen_sight c.in-Some.is ∙ ap Some c.in-ZeroPage.is))

pub fill-requires-clause-touched : goal.fill-requires-clause-touched
fill-requires-clause-touched g c = c.requires.site

pub fill-requires-clause-unseen : goal.fill-requires-clause-unseen
fill-requires-clause-unseen g c = zero_sees ((sym c.sight.ensures.sight ∙ ap seen_sight c.in-Some.is ∙ ap Some c.in-ZeroPage.is))

pub join-requires-clause-touched : goal.join-requires-clause-touched
join-requires-clause-touched g c = c.requires.site

pub join-requires-clause-unseen : goal.join-requires-clause-unseen
join-requires-clause-unseen g c = ((sym c.sight.ensures.sight ∙ ap seen_sight c.in-None.is))

pub fill-requires-then-writes-2-clause-touched : goal.fill-requires-then-writes-2-clause-touched
fill-requires-then-writes-2-clause-touched g c = c.requires.site

pub fill-requires-then-writes-2-clause-unseen : goal.fill-requires-then-writes-2-clause-unseen
fill-requires-then-writes-2-clause-unseen g c = none_sees ((sym c.sight.ensures.sight ∙ ap seen_sight c.in-None.is))

pub see_zero-requires-clause-known : goal.see_zero-requires-clause-known
see_zero-requires-clause-known g c =
    let touched = c.requires.site.2 in
    subst (λ (o : Option Process). IsSome o) (sym touched.known) refl

pub see_zero-requires-clause-unseen : goal.see_zero-requires-clause-unseen
see_zero-requires-clause-unseen g c = none_sees (sym c.sight.ensures.sight ∙ ap seen_sight c.in-None.is)

-- the table finds no memory
pub returns-in_err-see_zero-in-None-clause-kept : goal.returns-in_err-see_zero-in-None-clause-kept
returns-in_err-see_zero-in-None-clause-kept g c m f =
    subst (λ (z : AddressSpacesView). IsSoundMachine (shown_by z c.args.frames.now c.args.online m f) c.args.frames.now.vacated z.frames) (sym c.in_err-see_zero-in-None.ensures.err) (c.requires.kept m f)

-- memory is refused only where no page is seen
pub returns-in_err-frame-in-ZeroPage-clause-allocates : goal.returns-in_err-frame-in-ZeroPage-clause-allocates
returns-in_err-frame-in-ZeroPage-clause-allocates g c = on_any c.from_residual.result (zero_sees ((sym c.sight.ensures.sight ∙ ap seen_sight c.in-Some.is ∙ ap Some c.in-ZeroPage.is)))

pub returns-in_err-frame-in-None-clause-allocates : goal.returns-in_err-frame-in-None-clause-allocates
returns-in_err-frame-in-None-clause-allocates g c = on_any c.from_residual-in_err-frame-in-None.result (none_sees ((sym c.sight.ensures.sight ∙ ap seen_sight c.in-None.is)))

pub returns-in_err-see_zero-in-None-clause-allocates : goal.returns-in_err-see_zero-in-None-clause-allocates
returns-in_err-see_zero-in-None-clause-allocates g c = on_any c.from_residual-in_err-see_zero-in-None.result (none_sees ((sym c.sight.ensures.sight ∙ ap seen_sight c.in-None.is)))

-- .. and only where the touch is not refused
pub returns-in_err-frame-in-ZeroPage-clause-memory : goal.returns-in_err-frame-in-ZeroPage-clause-memory
returns-in_err-frame-in-ZeroPage-clause-memory g c m f p a known =
    let s = shown_by c.args.spaces.now c.args.frames.now c.args.online m f in
    memory_handed_on c.fill.result c.from_residual.result _ c.in_err-frame-in-ZeroPage.was c.from_residual.ensures
    (ap result_err (zero_touched s c.args.self p a c.args.writes known ((sym c.sight.ensures.sight ∙ ap seen_sight c.in-Some.is ∙ ap Some c.in-ZeroPage.is)) c.if-writes.true))
    (c.fill.ensures.memory m f p a known)

pub returns-in_err-frame-in-None-clause-memory : goal.returns-in_err-frame-in-None-clause-memory
returns-in_err-frame-in-None-clause-memory g c m f p a known =
    let s = shown_by c.args.spaces.now c.args.frames.now c.args.online m f in
    memory_handed_on c.fill-then-writes-2.result c.from_residual-in_err-frame-in-None.result _ c.in_err-frame-in-None.was c.from_residual-in_err-frame-in-None.ensures
    (ap result_err (private_touched s c.args.self p a c.args.writes known ((sym c.sight.ensures.sight ∙ ap seen_sight c.in-None.is)) ((sym (c.is_shared.ensures ∙ ap (λ (m : Mapping). is_shared m.segments c.args.self.page.segment) c.areas.ensures.areas) ∙ c.if-is_shared.false)) c.if-writes-2.true))
    (c.fill-then-writes-2.ensures.memory m f p a known)

pub returns-in_err-see_zero-in-None-clause-memory : goal.returns-in_err-see_zero-in-None-clause-memory
returns-in_err-see_zero-in-None-clause-memory g c m f p a known =
    let s = shown_by c.args.spaces.now c.args.frames.now c.args.online m f in
    may_ask c.from_residual-in_err-see_zero-in-None.result _
    (ap result_err (private_touched s c.args.self p a c.args.writes known ((sym c.sight.ensures.sight ∙ ap seen_sight c.in-None.is)) ((sym (c.is_shared.ensures ∙ ap (λ (m : Mapping). is_shared m.segments c.args.self.page.segment) c.areas.ensures.areas) ∙ c.if-is_shared.false)) c.if-writes-2.false))

-- .. and not for a read of the page of zeros
pub returns-in_err-frame-in-ZeroPage-clause-zero : goal.returns-in_err-frame-in-ZeroPage-clause-zero
returns-in_err-frame-in-ZeroPage-clause-zero g c = on_any c.from_residual.result (λ reads sees. absurd (false≢true (sym reads ∙ c.if-writes.true)))

pub returns-in_err-frame-in-None-clause-zero : goal.returns-in_err-frame-in-None-clause-zero
returns-in_err-frame-in-None-clause-zero g c = on_any c.from_residual-in_err-frame-in-None.result (λ reads sees. absurd (none_some (sym ((sym c.sight.ensures.sight ∙ ap seen_sight c.in-None.is)) ∙ sees)))

pub returns-in_err-see_zero-in-None-clause-zero : goal.returns-in_err-see_zero-in-None-clause-zero
returns-in_err-see_zero-in-None-clause-zero g c = on_any c.from_residual-in_err-see_zero-in-None.result (λ reads sees. absurd (none_some (sym ((sym c.sight.ensures.sight ∙ ap seen_sight c.in-None.is)) ∙ sees)))

pub returns-in_ok-see_zero-in-None-clause-some : goal.returns-in_ok-see_zero-in-None-clause-some
returns-in_ok-see_zero-in-None-clause-some g c writes =
    let never : ◌≡◌ {A = Bool} false true = sym c.if-writes-2.false ∙ writes in
    subst (λ (x : TouchOutcome). IsSome x.frame) (sym c.seen.ensures) never

pub returns-in_ok-frame-in-None-clause-frame : goal.returns-in_ok-frame-in-None-clause-frame
returns-in_ok-frame-in-None-clause-frame g c = ap (λ (x : TouchOutcome). x.frame) c.placed-then-writes-2.ensures ∙ sym c.in_ok-frame-in-None.ensures.frame

pub returns-in_ok-frame-in-ZeroPage-clause-frame : goal.returns-in_ok-frame-in-ZeroPage-clause-frame
returns-in_ok-frame-in-ZeroPage-clause-frame g c = ap (λ (x : TouchOutcome). x.frame) c.placed.ensures ∙ sym c.in_ok-frame-in-ZeroPage.ensures.frame

pub returns-else-writes-clause-zeros : goal.returns-else-writes-clause-zeros
returns-else-writes-clause-zeros g c = (sym c.sight.ensures.sight ∙ ap seen_sight c.in-Some.is ∙ ap Some c.in-ZeroPage.is)

-- how to undo it
pub returns-in-Sees-clause-undo : goal.returns-in-Sees-clause-undo
returns-in-Sees-clause-undo g c =
    ap (λ o. undo_of c.args.self.pid c.args.self.vpn c.args.self.page o (get page_cmp c.args.spaces.now.place c.args.self.page) c.in-Some.seen.frame)
    (sym ((sym c.sight.ensures.sight ∙ ap seen_sight c.in-Some.is ∙ ap Some c.in-Sees.is)))

pub returns-else-writes-clause-undo : goal.returns-else-writes-clause-undo
returns-else-writes-clause-undo g c =
    ap (λ o. undo_of c.args.self.pid c.args.self.vpn c.args.self.page o (get page_cmp c.args.spaces.now.place c.args.self.page) None)
    (sym ((sym c.sight.ensures.sight ∙ ap seen_sight c.in-Some.is ∙ ap Some c.in-ZeroPage.is)))

pub returns-in_ok-frame-in-ZeroPage-clause-undo : goal.returns-in_ok-frame-in-ZeroPage-clause-undo
returns-in_ok-frame-in-ZeroPage-clause-undo g c =
    let touched = c.requires.site.2 in
    let sees : sight_at (state_of_parts c.args.spaces.now.processes (table_of c.args.spaces.now) (paged_frames c.args.spaces.now c.args.frames.now) c.args.online 0 0) c.args.self.pid c.args.self.vpn ≡ Some ZeroPage = sym c.sight.ensures.sight ∙ ap seen_sight c.in-Some.is ∙ ap Some c.in-ZeroPage.is in
    let none = zero_unplaced c.args.spaces.now.processes (table_of c.args.spaces.now) (paged_frames c.args.spaces.now c.args.frames.now) c.args.online 0 0 _ c.args.self c.requires.site.0 c.requires.site.1 (c.requires.kept 0 0) touched sees in
    noted_placed c.placed.result (sight_in (get nat_cmp c.args.spaces.now.processes c.args.self.pid) c.args.self.vpn) (get page_cmp c.args.spaces.now.place c.args.self.page) c.args.self.pid c.args.self.vpn true c.args.self.page c.in_ok-frame-in-ZeroPage.frame c.placed.ensures
    (sees) none

pub returns-in_ok-frame-in-None-clause-undo : goal.returns-in_ok-frame-in-None-clause-undo
returns-in_ok-frame-in-None-clause-undo g c =
    let touched = c.requires.site.2 in
    let sees : sight_at (state_of_parts c.args.spaces.now.processes (table_of c.args.spaces.now) (paged_frames c.args.spaces.now c.args.frames.now) c.args.online 0 0) c.args.self.pid c.args.self.vpn ≡ None = sym c.sight.ensures.sight ∙ ap seen_sight c.in-None.is in
    let none = private_unplaced_here c.args.spaces.now.processes (table_of c.args.spaces.now) (paged_frames c.args.spaces.now c.args.frames.now) c.args.online 0 0 _ c.args.self c.requires.site.0 c.requires.site.1 (c.requires.kept 0 0) touched (none_sees sees) (sym (c.is_shared.ensures ∙ ap (λ (m : Mapping). is_shared m.segments c.args.self.page.segment) c.areas.ensures.areas) ∙ c.if-is_shared.false) in
    noted_placed c.placed-then-writes-2.result (sight_in (get nat_cmp c.args.spaces.now.processes c.args.self.pid) c.args.self.vpn) (get page_cmp c.args.spaces.now.place c.args.self.page) c.args.self.pid c.args.self.vpn false c.args.self.page c.in_ok-frame-in-None.frame c.placed-then-writes-2.ensures
    (sees) none

pub returns-in_ok-see_zero-in-None-clause-undo : goal.returns-in_ok-see_zero-in-None-clause-undo
returns-in_ok-see_zero-in-None-clause-undo g c =
    noted_seen c.seen.result (sight_in (get nat_cmp c.args.spaces.now.processes c.args.self.pid) c.args.self.vpn) (get page_cmp c.args.spaces.now.place c.args.self.page) c.args.self.pid c.args.self.vpn c.args.self.page None c.seen.ensures
    ((sym c.sight.ensures.sight ∙ ap seen_sight c.in-None.is)) (nothing_given c.args.self.page _)

-- a shared page is joined
pub returns-then-is_shared-clause-touches : goal.returns-then-is_shared-clause-touches
returns-then-is_shared-clause-touches g c m f p a known =
    let s = shown_by c.args.spaces.now c.args.frames.now c.args.online m f in
    subst (λ found. Touches c.join.result s (shown_by c.join.new.spaces c.join.new.frames c.args.online m f) found)
    (sym (shared_touched s c.args.self p a c.args.writes known (sym c.sight.ensures.sight ∙ ap seen_sight c.in-None.is) (sym (c.is_shared.ensures ∙ ap (λ (m : Mapping). is_shared m.segments c.args.self.page.segment) c.areas.ensures.areas) ∙ c.if-is_shared.true)))
    (c.join.ensures.touches m f p a known)

pub returns-then-is_shared-clause-memory : goal.returns-then-is_shared-clause-memory
returns-then-is_shared-clause-memory g c m f p a known =
    let s = shown_by c.args.spaces.now c.args.frames.now c.args.online m f in
    subst (λ found. AsksLast c.join.result (result_err found))
    (sym (shared_touched s c.args.self p a c.args.writes known (sym c.sight.ensures.sight ∙ ap seen_sight c.in-None.is) (sym (c.is_shared.ensures ∙ ap (λ (m : Mapping). is_shared m.segments c.args.self.page.segment) c.areas.ensures.areas) ∙ c.if-is_shared.true)))
    (c.join.ensures.memory m f p a known)
