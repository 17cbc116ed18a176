use Rattle.std.proofs.Common.{ℕ, ◌≡◌, refl, sym, subst, ap, ◌∙◌}
use Rattle.std.specs.Prelude.{None, IsSome}
use Rattle.nm_types.specs.declared.page.Page.{Page}
use Rattle.nm_types.specs.declared.sight.Sight.TheVariants.{Sees}
use Rattle.nm_types.specs.Map.{Map, get, page_cmp}
use Rattle.nm_types.specs.State.{page_at}
use Rattle.nm_model.specs.definitions.Areas.{Mapping}
use Rattle.nm_model.specs.definitions.Areas.{with_frame, without_frame}
use Rattle.nm_rmap.specs.Mappers.{Mappers, with_mapper, without_mapper}
use Rattle.nm_model.specs.definitions.PageTables.{Task}
use Rattle.nm_spaces.specs.views.AddressSpaces.{AddressSpacesView, spaces_view, with_seen, with_new_page}
use Rattle.nm_model.specs.definitions.PageTables.{process_of}
use Rattle.nm_spaces.specs.definitions.Tied.{IsTied}
use Rattle.nm_spaces.proofs.Boxed.{seen, tied}
use Rattle.nm_spaces.proofs.Moves.OnePage.{spare_in, place_new}
use Rattle.nm_spaces.proofs.Tied.Touches.{task_at, process_at, unmapped_at, page_tied, page_shows, place_tied, place_shows, mapper_undone, place_undone}
use Rattle.nm_spaces.proofs.address_spaces.AddressSpaces.allocate.Given.{Over}
use Rattle.nm_spaces.proofs.address_spaces.AddressSpaces.allocate.Goals as goal

-- the page has a frame before its bytes are written
is_placed : (m n : Mapping) (p : Page) (f : ℕ) → n ≡ with_frame m p f → IsSome (get page_cmp n.place p)
is_placed m n p f is = subst IsSome (sym (ap (λ (n : Mapping). get page_cmp n.place p) is ∙ place_new m.place p f)) refl

-- the page again has none
areas_undone : (y : AddressSpacesView) (tasks : Map ℕ Task) (m n k : Mapping) (r : Mappers) (p : Page) (f : ℕ) → spaces_view tasks m r ≡ y → IsTied tasks m r → get page_cmp y.place p ≡ None → n ≡ with_frame m p f → k ≡ without_frame n p → k ≡ m
areas_undone y tasks m n k r p f is h none given taken =
    taken ∙ ap (λ (n : Mapping). without_frame n p) given ∙ place_undone m p f h.places (ap (λ (y : AddressSpacesView). get page_cmp y.place p) is ∙ none)

pub drop_frame-requires : goal.drop_frame-requires
drop_frame-requires g c = is_placed c.deref_mut-parts.result.now.areas c.set_frame.new.self c.args.page c.args.frame c.in_ok-set_frame.ensures.ok

pub drop_frame-requires-in-Err-set : goal.drop_frame-requires-in-Err-set
drop_frame-requires-in-Err-set g c = is_placed c.deref_mut-parts.result.now.areas c.set_frame.new.self c.args.page c.args.frame c.in_ok-set_frame.ensures.ok

pub set-requires : goal.set-requires
set-requires g c =
    let x = c.deref_mut-parts.result.now in
    let t = task_at c.args.self.now x.tasks x.areas x.rmap c.args.pid (seen c.deref_mut-parts.ensures.value c.self.view_is) c.requires.known in
    subst IsSome (sym t.1) refl

taken_back : (g : Over) (c : goal.After-self-in-Err-1 g) → c.drop_frame.new.self ≡ c.deref_mut-parts.result.now.areas
taken_back g c =
    let x = c.deref_mut-parts.result.now in
    areas_undone c.args.self.now x.tasks x.areas c.set_frame.new.self c.drop_frame.new.self x.rmap c.args.page c.args.frame (seen c.deref_mut-parts.ensures.value c.self.view_is) (tied c.deref_mut-parts.ensures.value c.self.invariant) c.requires.absent c.in_ok-set_frame.ensures.ok c.drop_frame.ensures

pub invariant_of-self-in-Err : goal.invariant_of-self-in-Err
invariant_of-self-in-Err g c =
    subst (λ (m : Mapping). IsTied c.deref_mut-parts.result.now.tasks m c.add.new.self) (sym (taken_back g c))
    (subst (λ (r : Mappers). IsTied c.deref_mut-parts.result.now.tasks c.deref_mut-parts.result.now.areas r) (sym c.in-Err.ensures.err) (tied c.deref_mut-parts.ensures.value c.self.invariant))

pub returns-in-Err-clause-err : goal.returns-in-Err-clause-err
returns-in-Err-clause-err g c = (λ i. spaces_view c.deref_mut-parts.result.now.tasks (taken_back g c i) (c.in-Err.ensures.err i)) ∙ (seen c.deref_mut-parts.ensures.value c.self.view_is)

all_taken_back : (g : Over) (c : goal.After-self-in-Err-set-1 g) → c.drop_frame-in-Err-set.new.self ≡ c.deref_mut-parts.result.now.areas
all_taken_back g c =
    let x = c.deref_mut-parts.result.now in
    areas_undone c.args.self.now x.tasks x.areas c.set_frame.new.self c.drop_frame-in-Err-set.new.self x.rmap c.args.page c.args.frame (seen c.deref_mut-parts.ensures.value c.self.view_is) (tied c.deref_mut-parts.ensures.value c.self.invariant) c.requires.absent c.in_ok-set_frame.ensures.ok c.drop_frame-in-Err-set.ensures

rmap_undone : (g : Over) (c : goal.After-self-in-Err-set-1 g) → c.drop_one.new.self ≡ c.deref_mut-parts.result.now.rmap
rmap_undone g c =
    let x = c.deref_mut-parts.result.now in
    let spare = spare_in c.args.self.now x.tasks x.areas x.rmap c.args.frame (seen c.deref_mut-parts.ensures.value c.self.view_is) c.requires.frame c.requires.spare in
    c.drop_one.ensures.mapper
    ∙ ap (λ r. without_mapper r c.args.frame (c.args.pid, c.args.vpn)) c.in_default.ensures.ok
    ∙ mapper_undone c.args.self.now x.tasks x.areas x.rmap c.args.pid c.args.vpn c.args.frame (seen c.deref_mut-parts.ensures.value c.self.view_is) (tied c.deref_mut-parts.ensures.value c.self.invariant) c.requires.known c.requires.unseen spare.frame

pub invariant_of-self-in-Err-set : goal.invariant_of-self-in-Err-set
invariant_of-self-in-Err-set g c =
    subst (λ (m : Mapping). IsTied c.set.new.self m c.drop_one.new.self) (sym (all_taken_back g c))
    (subst (λ (r : Mappers). IsTied c.set.new.self c.deref_mut-parts.result.now.areas r) (sym (rmap_undone g c))
    (subst (λ (ts : Map ℕ Task). IsTied ts c.deref_mut-parts.result.now.areas c.deref_mut-parts.result.now.rmap) (sym c.in-Err-set.ensures.err) (tied c.deref_mut-parts.ensures.value c.self.invariant)))

pub returns-in-Err-set-clause-err : goal.returns-in-Err-set-clause-err
returns-in-Err-set-clause-err g c = (λ i. spaces_view (c.in-Err-set.ensures.err i) (all_taken_back g c i) (rmap_undone g c i)) ∙ (seen c.deref_mut-parts.ensures.value c.self.view_is)

pub invariant_of-self-2 : goal.invariant_of-self-2
invariant_of-self-2 g c =
    let x = c.deref_mut-parts.result.now in
    let y = c.args.self.now in
    let is = seen c.deref_mut-parts.ensures.value c.self.view_is in
    let t = task_at y x.tasks x.areas x.rmap c.args.pid is c.requires.known in
    let free = unmapped_at y x.tasks x.areas x.rmap c.args.pid c.args.vpn is c.requires.unseen in
    let at = ap (λ (y : AddressSpacesView). page_at y.areas c.args.pid c.args.vpn) is ∙ c.requires.shown in
    let spare = spare_in y x.tasks x.areas x.rmap c.args.frame is c.requires.frame c.requires.spare in
    let none = ap (λ (y : AddressSpacesView). get page_cmp y.place c.args.page) is ∙ c.requires.absent in
    let m = with_frame x.areas c.args.page c.args.frame in
    subst (λ (m : Mapping). IsTied c.set.new.self m c.add.new.self) (sym c.in_ok-set_frame.ensures.ok)
    (subst (λ (r : Mappers). IsTied c.set.new.self m r) (sym c.in_default.ensures.ok)
    (subst (λ (ts : Map ℕ Task). IsTied ts m (with_mapper x.rmap c.args.frame (c.args.pid, c.args.vpn))) (sym (c.in_default-set.ensures.ok t.0 t.1))
    (page_tied x.tasks m x.rmap c.args.pid t.0 c.args.vpn (place_tied x.tasks x.areas x.rmap c.args.page c.args.frame (tied c.deref_mut-parts.ensures.value c.self.invariant) spare none) t.1 free c.args.page c.args.frame at
    (place_new x.areas.place c.args.page c.args.frame))))

pub returns-clause-ok : goal.returns-clause-ok
returns-clause-ok g c = λ p h.
    let x = c.deref_mut-parts.result.now in
    let y = c.args.self.now in
    let is = seen c.deref_mut-parts.ensures.value c.self.view_is in
    let t = task_at y x.tasks x.areas x.rmap c.args.pid is c.requires.known in
    let free = unmapped_at y x.tasks x.areas x.rmap c.args.pid c.args.vpn is c.requires.unseen in
    let at = ap (λ (y : AddressSpacesView). page_at y.areas c.args.pid c.args.vpn) is ∙ c.requires.shown in
    let spare = spare_in y x.tasks x.areas x.rmap c.args.frame is c.requires.frame c.requires.spare in
    let none = ap (λ (y : AddressSpacesView). get page_cmp y.place c.args.page) is ∙ c.requires.absent in
    let m = with_frame x.areas c.args.page c.args.frame in
    let same = process_at y x.tasks x.areas x.rmap c.args.pid t.0 p is t.1 h in
    (λ i. spaces_view (c.in_default-set.ensures.ok t.0 t.1 i) (c.in_ok-set_frame.ensures.ok i) (c.in_default.ensures.ok i))
    ∙ page_shows x.tasks m x.rmap c.args.pid t.0 c.args.vpn (place_tied x.tasks x.areas x.rmap c.args.page c.args.frame (tied c.deref_mut-parts.ensures.value c.self.invariant) spare none) t.1 free c.args.page c.args.frame at
    (place_new x.areas.place c.args.page c.args.frame)
    ∙ ap (λ z. with_seen z c.args.pid (process_of x.areas.areas c.args.pid t.0) c.args.vpn (Sees c.args.page)) (place_shows x.tasks x.areas x.rmap c.args.page c.args.frame (tied c.deref_mut-parts.ensures.value c.self.invariant) spare none)
    ∙ (λ i. with_new_page (is i) c.args.pid (same i) c.args.vpn c.args.page c.args.frame)
