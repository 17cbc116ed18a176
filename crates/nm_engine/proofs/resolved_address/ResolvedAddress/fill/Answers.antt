use Rattle.std.proofs.Common.{◌≡◌, ◌<◌, ◌∙◌, ℕ, List, refl, sym, ap, subst, Some, None, Ok, Err}
use Rattle.std.specs.Prelude.{Option, IsSome, slice_get}
use Rattle.std.specs.Result.{result_err}
use Rattle.std.specs.Ordering.{nat_cmp}
use Rattle.nm_types.specs.declared.errno.Errno.TheVariants.{Enomem}
use Rattle.nm_types.specs.State.{Process, State, PlacedArea, page_of, page_shown}
use Rattle.nm_engine.specs.declared.resolved_address.ResolvedAddress.{ResolvedAddress}
use Rattle.nm_model.specs.definitions.Seen.{frame_of, sight_in}
use Rattle.nm_model.specs.definitions.Order.{first_touch_order}
use Rattle.nm_model.specs.definitions.Touch.{allocate_page, fill_page, first_free}
use Rattle.nm_types.specs.Layout.{frame_count, node_count}
use Rattle.nm_types.specs.Map.{get}
use Rattle.nm_pool.specs.views.Populated.{IsPopulated}
use Rattle.nm_spaces.specs.views.AddressSpaces.{AddressSpacesView, table_of, with_new_page}
use Rattle.nm_pool.specs.views.Frames.{FramesView, free_on}
use Rattle.nm_engine.specs.views.Shown.{state_of_parts, shown_by, paged_frames}
use Rattle.nm_engine.specs.views.RunState.{IsSoundMachine}
use Rattle.nm_engine.specs.views.Parts.{IsSiteOf, access_site}
use Rattle.nm_engine.proofs.Shown.BothParts.{kept_stocked, front_spare, stocked_both}
use Rattle.nm_engine.proofs.Shown.PopulatedFrames.{same_shown, kept_again}
use Rattle.nm_engine.proofs.Does.HandedOn.{may_ask, nothing_touched}
use Rattle.nm_engine.proofs.Does.Touches.{found_free, no_front, short_list, sees_now, filled_shows, filled_kept, filled_is, get_set_same}
use Rattle.nm_engine.proofs.resolved_address.ResolvedAddress.fill.Goals as goal

-- the first node that has a free frame, by the frames
abbrev first_of : FramesView → ResolvedAddress → List ℕ → Option ℕ
first_of k t online = first_free k.free (first_touch_order k.layout online t.info.home t.info.allowed t.policy t.page.index)

pub front-requires : goal.front-requires
front-requires g c =
    let found = sym c.first_node.ensures ∙ c.in-Some.is in
    subst (λ n. c.in-Some.node < n) (c.requires.kept 0 0).sound.frames.lists (short_list c.args.frames.now.free c.in-Some.node (found_free c.args.frames.now.free _ c.in-Some.node found))

pub unreachable-requires : goal.unreachable-requires
unreachable-requires g c =
    let found = sym c.first_node.ensures ∙ c.in-Some.is in
    no_front (free_on c.args.frames.now c.in-Some.node) (sym c.front.ensures.front ∙ c.in_default-front.is) (found_free c.args.frames.now.free _ c.in-Some.node found)

pub allocate-requires-clause-frame : goal.allocate-requires-clause-frame
allocate-requires-clause-frame g c =
    let front : slice_get (free_on c.args.frames.now c.in-Some.node) 0 ≡ Some c.in-Some-front.frame = sym c.front.ensures.front ∙ c.in-Some-front.is in
    (front_spare c.args.spaces.now c.args.frames.now c.args.online 0 0 (c.requires.kept 0 0) c.front.ensures.whole c.in-Some.node c.in-Some-front.frame front).known

pub allocate-requires-clause-spare : goal.allocate-requires-clause-spare
allocate-requires-clause-spare g c =
    let front : slice_get (free_on c.args.frames.now c.in-Some.node) 0 ≡ Some c.in-Some-front.frame = sym c.front.ensures.front ∙ c.in-Some-front.is in
    (front_spare c.args.spaces.now c.args.frames.now c.args.online 0 0 (c.requires.kept 0 0) c.front.ensures.whole c.in-Some.node c.in-Some-front.frame front).place

pub allocate-requires-clause-known : goal.allocate-requires-clause-known
allocate-requires-clause-known g c = subst (λ (o : Option Process). IsSome o) (sym c.requires.touched.2.known) refl

pub allocate-requires-clause-shown : goal.allocate-requires-clause-shown
allocate-requires-clause-shown g c =
    let touched = c.requires.touched.2 in
    ap (λ (o : Option PlacedArea). page_shown o c.args.self.vpn) touched.over ∙ ap Some touched.page

pub populate-requires : goal.populate-requires
populate-requires g c =
    let front : slice_get (free_on c.args.frames.now c.in-Some.node) 0 ≡ Some c.in-Some-front.frame = sym c.front.ensures.front ∙ c.in-Some-front.is in
    (front_spare c.args.spaces.now c.args.frames.now c.args.online 0 0 (c.requires.kept 0 0) c.front.ensures.whole c.in-Some.node c.in-Some-front.frame front).below

pub take_front-requires : goal.take_front-requires
take_front-requires g c =
    let found = sym c.first_node.ensures ∙ c.in-Some.is in
    subst (λ (k : FramesView). c.in-Some.node < node_count k.layout) (sym c.in_ok-populate.ensures.same)
    (subst (λ n. c.in-Some.node < n) (c.requires.kept 0 0).sound.frames.lists (short_list c.args.frames.now.free c.in-Some.node (found_free c.args.frames.now.free _ c.in-Some.node found)))

pub zero-requires-clause-frame : goal.zero-requires-clause-frame
zero-requires-clause-frame g c =
    let front : slice_get (free_on c.args.frames.now c.in-Some.node) 0 ≡ Some c.in-Some-front.frame = sym c.front.ensures.front ∙ c.in-Some-front.is in
    subst (λ (k : FramesView). c.in-Some-front.frame < frame_count k.layout) (sym c.take_front.ensures.rest)
    (subst (λ (k : FramesView). c.in-Some-front.frame < frame_count k.layout) (sym c.in_ok-populate.ensures.same)
    (front_spare c.args.spaces.now c.args.frames.now c.args.online 0 0 (c.requires.kept 0 0) c.front.ensures.whole c.in-Some.node c.in-Some-front.frame front).below)

pub zero-requires-clause-populated : goal.zero-requires-clause-populated
zero-requires-clause-populated g c = subst (λ (k : FramesView). IsPopulated k.frames c.in-Some-front.frame) (sym c.take_front.ensures.rest) c.in_ok-populate.ensures.populated

pub returns-clause-kept : goal.returns-clause-kept
returns-clause-kept g c m f =
    let y = c.args.spaces.now in
    let o = c.args.online in
    let t = c.args.self in
    let kept = kept_again y c.args.frames.now c.populate.new.self o m f c.in_ok-populate.ensures.same c.in_ok-populate.ensures.kept (c.requires.kept m f) in
    let found = subst (λ (k : FramesView). first_of k t o ≡ Some c.in-Some.node) (sym c.in_ok-populate.ensures.same) (sym c.first_node.ensures ∙ c.in-Some.is) in
    let front : slice_get (free_on c.populate.new.self c.in-Some.node) 0 ≡ Some c.in-Some-front.frame = subst (λ (k : FramesView). slice_get (free_on k c.in-Some.node) 0 ≡ Some c.in-Some-front.frame) (sym c.in_ok-populate.ensures.same) (sym c.front.ensures.front ∙ c.in-Some-front.is) in
    let p = c.requires.touched.0 in
    let touched = c.requires.touched.2 in
    let is = c.in_ok-allocate.ensures.ok p touched.known in
    let to = stocked_both y c.allocate.new.self c.populate.new.self c.take_front.new.self c.zero.new.self t.pid t.vpn p t.page c.in-Some.node c.in-Some-front.frame is c.take_front.ensures.rest c.zero.ensures front in
    let whole = kept_stocked y c.populate.new.self o m f kept c.in_ok-populate.ensures.whole in
    let vacated : c.zero.new.self.vacated ≡ c.populate.new.self.vacated = ap (λ (k : FramesView). k.vacated) c.zero.ensures ∙ ap (λ (k : FramesView). k.vacated) c.take_front.ensures.rest in
    subst (λ l. IsSoundMachine (shown_by c.allocate.new.self c.zero.new.self o m f) l c.allocate.new.self.frames) (sym vacated)
    (subst (λ (z : AddressSpacesView). IsSoundMachine (state_of_parts z.processes (table_of z) (paged_frames c.allocate.new.self c.zero.new.self) o m f) c.populate.new.self.vacated z.frames) (sym is)
    (filled_kept y.processes (table_of y) (paged_frames y c.populate.new.self) o m f _ t p c.requires.touched.1 kept touched c.in-Some.node (with_new_page y t.pid p t.vpn t.page c.in-Some-front.frame).processes (paged_frames c.allocate.new.self c.zero.new.self) whole refl to c.requires.absent (found_free c.populate.new.self.free _ c.in-Some.node found) c.requires.unseen))

pub returns-clause-touches : goal.returns-clause-touches
returns-clause-touches g c m f p a touched =
    let y = c.args.spaces.now in
    let o = c.args.online in
    let t = c.args.self in
    let kept = kept_again y c.args.frames.now c.populate.new.self o m f c.in_ok-populate.ensures.same c.in_ok-populate.ensures.kept (c.requires.kept m f) in
    let same = same_shown y c.args.frames.now c.populate.new.self o m f c.in_ok-populate.ensures.same c.in_ok-populate.ensures.kept c.args.frames.now.vacated (c.requires.kept m f).sound in
    let found = subst (λ (k : FramesView). first_of k t o ≡ Some c.in-Some.node) (sym c.in_ok-populate.ensures.same) (sym c.first_node.ensures ∙ c.in-Some.is) in
    let front : slice_get (free_on c.populate.new.self c.in-Some.node) 0 ≡ Some c.in-Some-front.frame = subst (λ (k : FramesView). slice_get (free_on k c.in-Some.node) 0 ≡ Some c.in-Some-front.frame) (sym c.in_ok-populate.ensures.same) (sym c.front.ensures.front ∙ c.in-Some-front.is) in
    let is = c.in_ok-allocate.ensures.ok p touched.known in
    let to = stocked_both y c.allocate.new.self c.populate.new.self c.take_front.new.self c.zero.new.self t.pid t.vpn p t.page c.in-Some.node c.in-Some-front.frame is c.take_front.ensures.rest c.zero.ensures front in
    let whole = kept_stocked y c.populate.new.self o m f kept c.in_ok-populate.ensures.whole in
    ap (λ (s : State). fill_page s (access_site t p a)) (sym same)
    ∙ filled_is y.processes (table_of y) (paged_frames y c.populate.new.self) o m f _ t p a kept touched c.in-Some.node found
    ∙ ap Ok (sym (ap (λ (z : AddressSpacesView). state_of_parts z.processes (table_of z) (paged_frames c.allocate.new.self c.zero.new.self) o m f) is
    ∙ filled_shows y.processes (table_of y) (paged_frames y c.populate.new.self) o m f _ t p a kept touched c.in-Some.node (with_new_page y t.pid p t.vpn t.page c.in-Some-front.frame).processes (paged_frames c.allocate.new.self c.zero.new.self) whole refl to c.requires.absent (found_free c.populate.new.self.free _ c.in-Some.node found)))

pub returns-clause-frame : goal.returns-clause-frame
returns-clause-frame g c =
    let y = c.args.spaces.now in
    let t = c.args.self in
    let p = c.requires.touched.0 in
    let touched = c.requires.touched.2 in
    let kept = kept_again y c.args.frames.now c.populate.new.self c.args.online 0 0 c.in_ok-populate.ensures.same c.in_ok-populate.ensures.kept (c.requires.kept 0 0) in
    let is = c.in_ok-allocate.ensures.ok p touched.known in
    ap (λ (z : AddressSpacesView). frame_of z.place (sight_in (get nat_cmp z.processes t.pid) t.vpn)) is
    ∙ ap (frame_of (with_new_page y t.pid p t.vpn t.page c.in-Some-front.frame).place) (sees_now y.processes (table_of y) (paged_frames y c.populate.new.self) c.args.online 0 0 _ t p c.requires.touched.1 kept touched _ (with_new_page y t.pid p t.vpn t.page c.in-Some-front.frame).processes refl)
    ∙ get_set_same y.place t.page c.in-Some-front.frame

pub returns-clause-left : goal.returns-clause-left
returns-clause-left g c = ap (λ (k : FramesView). k.vacated) c.zero.ensures ∙ ap (λ (k : FramesView). k.vacated) c.take_front.ensures.rest ∙ ap (λ (k : FramesView). k.vacated) c.in_ok-populate.ensures.same

pub returns-clause-room : goal.returns-clause-room
returns-clause-room g c = ap (λ (k : FramesView). k.room) c.zero.ensures ∙ ap (λ (k : FramesView). k.room) c.take_front.ensures.rest ∙ ap (λ (k : FramesView). k.room) c.in_ok-populate.ensures.same

-- without memory the parts are as they were
pub returns-in_err-populate-clause-kept : goal.returns-in_err-populate-clause-kept
returns-in_err-populate-clause-kept g c m f = kept_again c.args.spaces.now c.args.frames.now c.populate.new.self c.args.online m f c.in_err-populate.ensures.same c.in_err-populate.ensures.kept (c.requires.kept m f)

pub returns-in_err-populate-clause-touches : goal.returns-in_err-populate-clause-touches
returns-in_err-populate-clause-touches g c m f p a touched =
    nothing_touched c.from_residual.result _ _ _ c.from_residual.ensures
    (same_shown c.args.spaces.now c.args.frames.now c.populate.new.self c.args.online m f c.in_err-populate.ensures.same c.in_err-populate.ensures.kept c.args.frames.now.vacated (c.requires.kept m f).sound)

pub returns-in_err-populate-clause-left : goal.returns-in_err-populate-clause-left
returns-in_err-populate-clause-left g c = ap (λ (k : FramesView). k.vacated) c.in_err-populate.ensures.same

pub returns-in_err-populate-clause-room : goal.returns-in_err-populate-clause-room
returns-in_err-populate-clause-room g c = ap (λ (k : FramesView). k.room) c.in_err-populate.ensures.same

pub returns-in_err-allocate-clause-kept : goal.returns-in_err-allocate-clause-kept
returns-in_err-allocate-clause-kept g c m f =
    subst (λ (z : AddressSpacesView). IsSoundMachine (shown_by z c.populate.new.self c.args.online m f) c.populate.new.self.vacated z.frames) (sym c.in_err-allocate.ensures.err)
    (kept_again c.args.spaces.now c.args.frames.now c.populate.new.self c.args.online m f c.in_ok-populate.ensures.same c.in_ok-populate.ensures.kept (c.requires.kept m f))

pub returns-in_err-allocate-clause-touches : goal.returns-in_err-allocate-clause-touches
returns-in_err-allocate-clause-touches g c m f p a touched =
    nothing_touched c.from_residual-in_err-allocate.result _ _ _ c.from_residual-in_err-allocate.ensures
    (ap (λ (z : AddressSpacesView). shown_by z c.populate.new.self c.args.online m f) c.in_err-allocate.ensures.err
    ∙ same_shown c.args.spaces.now c.args.frames.now c.populate.new.self c.args.online m f c.in_ok-populate.ensures.same c.in_ok-populate.ensures.kept c.args.frames.now.vacated (c.requires.kept m f).sound)

pub returns-in_err-allocate-clause-left : goal.returns-in_err-allocate-clause-left
returns-in_err-allocate-clause-left g c = ap (λ (k : FramesView). k.vacated) c.in_ok-populate.ensures.same

pub returns-in_err-allocate-clause-room : goal.returns-in_err-allocate-clause-room
returns-in_err-allocate-clause-room g c = ap (λ (k : FramesView). k.room) c.in_ok-populate.ensures.same

-- memory is asked for only where there is a free frame
pub returns-in_err-populate-clause-memory : goal.returns-in_err-populate-clause-memory
returns-in_err-populate-clause-memory g c m f p a touched =
    let y = c.args.spaces.now in
    may_ask c.from_residual.result _
    (ap result_err (filled_is y.processes (table_of y) (paged_frames y c.args.frames.now) c.args.online m f _ c.args.self p a (c.requires.kept m f) touched c.in-Some.node (sym c.first_node.ensures ∙ c.in-Some.is)))

pub returns-in_err-allocate-clause-memory : goal.returns-in_err-allocate-clause-memory
returns-in_err-allocate-clause-memory g c m f p a touched =
    let y = c.args.spaces.now in
    may_ask c.from_residual-in_err-allocate.result _
    (ap result_err (filled_is y.processes (table_of y) (paged_frames y c.args.frames.now) c.args.online m f _ c.args.self p a (c.requires.kept m f) touched c.in-Some.node (sym c.first_node.ensures ∙ c.in-Some.is)))

-- no node has a free frame
none_free : (s : State) (t : ResolvedAddress) (p : Process) (a : PlacedArea) → IsSiteOf s.processes s.areas t p a → first_free s.free (first_touch_order s.layout s.online t.info.home t.info.allowed t.policy t.page.index) ≡ None
    → fill_page s (access_site t p a) ≡ Err Enomem
none_free s t p a h none =
    let order : first_touch_order s.layout s.online p.home p.allowed a.1.policy (page_of a t.vpn).index ≡ first_touch_order s.layout s.online t.info.home t.info.allowed t.policy t.page.index =
    λ i. first_touch_order s.layout s.online (h.info i).home (h.info i).allowed (h.policy i) (h.page i).index in
    ap (allocate_page s (access_site t p a)) (ap (first_free s.free) order ∙ none)

pub returns-in_default-clause-touches : goal.returns-in_default-clause-touches
returns-in_default-clause-touches g c m f p a touched =
    (none_free (shown_by c.args.spaces.now c.args.frames.now c.args.online m f) c.args.self p a touched (sym c.first_node.ensures ∙ c.in_default.is), refl)
