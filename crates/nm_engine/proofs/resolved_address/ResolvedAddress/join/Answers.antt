use Rattle.std.proofs.Common.{◌≡◌, ℕ, ◌∙◌, refl, sym, ap, subst, Some, None, IsSome, Ok, false}
use Rattle.std.specs.Prelude.{Option}
use Rattle.std.specs.Result.{result_err}
use Rattle.std.specs.Ordering.{nat_cmp}
use Rattle.nm_types.specs.declared.page.Page.{Page}
use Rattle.nm_types.specs.declared.sight.Sight.TheVariants.{Sees}
use Rattle.nm_types.specs.Map.{get, page_cmp}
use Rattle.nm_model.specs.definitions.Seen.{frame_of, sight_in}
use Rattle.nm_model.specs.definitions.Areas.{Mapping}
use Rattle.nm_model.specs.definitions.Touch.{share_page, with_sight}
use Rattle.nm_spaces.specs.views.AddressSpaces.{AddressSpacesView, table_of, with_seen}
use Rattle.nm_engine.specs.declared.touch.TouchOutcome.{TouchOutcome}
use Rattle.nm_engine.specs.definitions.Undo.{given_now}
use Rattle.nm_engine.specs.views.RunState.{IsSoundMachine}
use Rattle.nm_engine.specs.views.Parts.{access_site}
use Rattle.nm_engine.specs.views.Shown.{shown_by, paged_frames}
use Rattle.nm_engine.proofs.Does.Touches.{seen_kept, sees_now}
use Rattle.nm_engine.proofs.Undo.Noted.{noted_placed, noted_seen}
use Rattle.nm_engine.proofs.Does.HandedOn.{may_ask, memory_handed_on, nothing_touched, touch_handed_on}
use Rattle.nm_laws.proofs.Seen.Frames.{none_sees}
use Rattle.nm_engine.proofs.resolved_address.ResolvedAddress.join.Goals as goal

-- ---- the page has a frame

pub returns-clause-kept : goal.returns-clause-kept
returns-clause-kept g c m f =
    let y = c.args.spaces.now in
    let k = c.args.frames.now in
    let t = c.args.self in
    let touched = c.requires.touched.2 in
    let placed : get page_cmp y.place t.page ≡ Some c.in-Some.frame = sym (c.page_frame.ensures ∙ ap (λ (m : Mapping). get page_cmp m.place t.page) c.areas.ensures.areas) ∙ c.in-Some.is in
    subst (λ (z : AddressSpacesView). IsSoundMachine (shown_by z k c.args.online m f) k.vacated z.frames) (sym (c.in_ok-see.ensures.ok c.requires.touched.0 touched.known))
    (seen_kept y.processes (table_of y) (paged_frames y k) c.args.online m f _ t c.requires.touched.0 c.requires.touched.1 (c.requires.kept m f) touched (Sees t.page) _ refl
    (sym touched.page, subst (λ (o : Option ℕ). IsSome o) (sym placed) refl) (none_sees c.requires.unseen))

pub returns-clause-touches : goal.returns-clause-touches
returns-clause-touches g c m f p a touched =
    let y = c.args.spaces.now in
    let k = c.args.frames.now in
    let t = c.args.self in
    let placed : get page_cmp y.place t.page ≡ Some c.in-Some.frame = sym (c.page_frame.ensures ∙ ap (λ (m : Mapping). get page_cmp m.place t.page) c.areas.ensures.areas) ∙ c.in-Some.is in
    ap (share_page (shown_by y k c.args.online m f) (access_site t p a)) placed
    ∙ ap (λ (q : Page). Ok (with_sight (shown_by y k c.args.online m f) (access_site t p a) (Sees q))) touched.page
    ∙ ap (λ (z : AddressSpacesView). Ok (shown_by z k c.args.online m f)) (sym (c.in_ok-see.ensures.ok p touched.known))

pub returns-clause-frame : goal.returns-clause-frame
returns-clause-frame g c =
    let y = c.args.spaces.now in
    let t = c.args.self in
    let touched = c.requires.touched.2 in
    let is = c.in_ok-see.ensures.ok c.requires.touched.0 touched.known in
    ap (λ (x : TouchOutcome). x.frame) c.seen.ensures
    ∙ sym (ap (λ (z : AddressSpacesView). frame_of z.place (sight_in (get nat_cmp z.processes t.pid) t.vpn)) is
    ∙ ap (frame_of y.place) (sees_now y.processes (table_of y) (paged_frames y c.args.frames.now) c.args.online 0 0 _ t c.requires.touched.0 c.requires.touched.1 (c.requires.kept 0 0) touched (Sees t.page) (with_seen y t.pid c.requires.touched.0 t.vpn (Sees t.page)).processes refl)
    ∙ sym (c.page_frame.ensures ∙ ap (λ (m : Mapping). get page_cmp m.place t.page) c.areas.ensures.areas) ∙ c.in-Some.is)

pub returns-clause-undo : goal.returns-clause-undo
returns-clause-undo g c =
    let y = c.args.spaces.now in
    let t = c.args.self in
    let placed : get page_cmp y.place t.page ≡ Some c.in-Some.frame = sym (c.page_frame.ensures ∙ ap (λ (m : Mapping). get page_cmp m.place t.page) c.areas.ensures.areas) ∙ c.in-Some.is in
    noted_seen c.seen.result None (get page_cmp y.place t.page) t.pid t.vpn t.page (Some c.in-Some.frame) c.seen.ensures refl (ap (λ o. given_now t.page o (Some c.in-Some.frame)) placed)

-- ---- it has none yet

pub fill-requires-clause-absent : goal.fill-requires-clause-absent
fill-requires-clause-absent g c =
    sym (c.page_frame.ensures ∙ ap (λ (m : Mapping). get page_cmp m.place c.args.self.page) c.areas.ensures.areas) ∙ c.in_default.is

pub fill-requires-clause-unseen : goal.fill-requires-clause-unseen
fill-requires-clause-unseen g c = none_sees c.requires.unseen

pub returns-in_default-clause-touches : goal.returns-in_default-clause-touches
returns-in_default-clause-touches g c m f p a touched =
    let none : get page_cmp c.args.spaces.now.place c.args.self.page ≡ None = sym (c.page_frame.ensures ∙ ap (λ (m : Mapping). get page_cmp m.place c.args.self.page) c.areas.ensures.areas) ∙ c.in_default.is in
    ap (share_page (shown_by c.args.spaces.now c.args.frames.now c.args.online m f) (access_site c.args.self p a)) none ∙ c.in_ok-frame.ensures.touches m f p a touched

pub returns-in_default-clause-frame : goal.returns-in_default-clause-frame
returns-in_default-clause-frame g c = ap (λ (x : TouchOutcome). x.frame) c.placed.ensures ∙ sym c.in_ok-frame.ensures.frame

pub returns-in_default-clause-undo : goal.returns-in_default-clause-undo
returns-in_default-clause-undo g c =
    let t = c.args.self in
    let none : get page_cmp c.args.spaces.now.place t.page ≡ None = sym (c.page_frame.ensures ∙ ap (λ (m : Mapping). get page_cmp m.place t.page) c.areas.ensures.areas) ∙ c.in_default.is in
    noted_placed c.placed.result None (get page_cmp c.args.spaces.now.place t.page) t.pid t.vpn false t.page c.in_ok-frame.frame c.placed.ensures refl none

pub returns-in_err-frame-clause-touches : goal.returns-in_err-frame-clause-touches
returns-in_err-frame-clause-touches g c m f p a touched =
    let s = shown_by c.args.spaces.now c.args.frames.now c.args.online m f in
    let none : get page_cmp c.args.spaces.now.place c.args.self.page ≡ None = sym (c.page_frame.ensures ∙ ap (λ (m : Mapping). get page_cmp m.place c.args.self.page) c.areas.ensures.areas) ∙ c.in_default.is in
    touch_handed_on c.fill.result c.from_residual.result _ s (shown_by c.fill.new.spaces c.fill.new.frames c.args.online m f) c.in_err-frame.was c.from_residual.ensures (ap (share_page s (access_site c.args.self p a)) none) (c.fill.ensures.touches m f p a touched)

pub returns-in_err-frame-clause-memory : goal.returns-in_err-frame-clause-memory
returns-in_err-frame-clause-memory g c m f p a touched =
    let s = shown_by c.args.spaces.now c.args.frames.now c.args.online m f in
    let none : get page_cmp c.args.spaces.now.place c.args.self.page ≡ None = sym (c.page_frame.ensures ∙ ap (λ (m : Mapping). get page_cmp m.place c.args.self.page) c.areas.ensures.areas) ∙ c.in_default.is in
    memory_handed_on c.fill.result c.from_residual.result _ c.in_err-frame.was c.from_residual.ensures (ap (λ o. result_err (share_page s (access_site c.args.self p a) o)) none) (c.fill.ensures.memory m f p a touched)

-- ---- the table finds no memory

pub returns-in_err-see-clause-kept : goal.returns-in_err-see-clause-kept
returns-in_err-see-clause-kept g c m f =
    subst (λ (z : AddressSpacesView). IsSoundMachine (shown_by z c.args.frames.now c.args.online m f) c.args.frames.now.vacated z.frames) (sym c.in_err-see.ensures.err) (c.requires.kept m f)

pub returns-in_err-see-clause-touches : goal.returns-in_err-see-clause-touches
returns-in_err-see-clause-touches g c m f p a touched =
    nothing_touched c.from_residual-in_err-see.result _ _ _ c.from_residual-in_err-see.ensures
    (ap (λ (z : AddressSpacesView). shown_by z c.args.frames.now c.args.online m f) c.in_err-see.ensures.err)

pub returns-in_err-see-clause-memory : goal.returns-in_err-see-clause-memory
returns-in_err-see-clause-memory g c m f p a touched =
    let s = shown_by c.args.spaces.now c.args.frames.now c.args.online m f in
    let some : get page_cmp c.args.spaces.now.place c.args.self.page ≡ Some c.in-Some.frame = sym (c.page_frame.ensures ∙ ap (λ (m : Mapping). get page_cmp m.place c.args.self.page) c.areas.ensures.areas) ∙ c.in-Some.is in
    may_ask c.from_residual-in_err-see.result _ (ap (λ o. result_err (share_page s (access_site c.args.self p a) o)) some)
