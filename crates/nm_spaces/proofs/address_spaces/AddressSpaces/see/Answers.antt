use Rattle.std.proofs.Common.{ℕ, ◌≡◌, refl, sym, subst, ap, ◌∙◌}
use Rattle.std.specs.Prelude.{IsSome}
use Rattle.nm_types.specs.declared.sight.Sight.TheVariants.{Sees}
use Rattle.nm_types.specs.Map.{Map}
use Rattle.nm_types.specs.State.{page_at}
use Rattle.nm_rmap.specs.Mappers.{Mappers, with_mapper, without_mapper}
use Rattle.nm_model.specs.definitions.PageTables.{Task}
use Rattle.nm_spaces.specs.views.AddressSpaces.{AddressSpacesView, spaces_view, with_seen}
use Rattle.nm_spaces.specs.definitions.Tied.{IsTied}
use Rattle.nm_spaces.proofs.Boxed.{seen, tied}
use Rattle.nm_spaces.proofs.Moves.OnePage.{placed_in}
use Rattle.nm_spaces.proofs.Tied.Touches.{task_at, process_at, unmapped_at, page_tied, page_shows, mapper_undone}
use Rattle.nm_spaces.proofs.address_spaces.AddressSpaces.see.Given.{Over}
use Rattle.nm_spaces.proofs.address_spaces.AddressSpaces.see.Goals as goal

pub set-requires : goal.set-requires
set-requires g c =
    let x = c.deref_mut-parts.result.now in
    let t = task_at c.args.self.now x.tasks x.areas x.rmap c.args.pid (seen c.deref_mut-parts.ensures.value c.self.view_is) c.requires.known in
    subst IsSome (sym t.1) refl

rmap_undone : (g : Over) (c : goal.After-self-in-Err-1 g) → c.drop_one.new.self ≡ c.deref_mut-parts.result.now.rmap
rmap_undone g c =
    let x = c.deref_mut-parts.result.now in
    let placed = placed_in c.args.self.now x.tasks x.areas x.rmap c.args.page c.args.frame (seen c.deref_mut-parts.ensures.value c.self.view_is) c.requires.placed in
    c.drop_one.ensures.mapper
    ∙ ap (λ r. without_mapper r c.args.frame (c.args.pid, c.args.vpn)) c.in_ok-add.ensures.ok
    ∙ mapper_undone c.args.self.now x.tasks x.areas x.rmap c.args.pid c.args.vpn c.args.frame (seen c.deref_mut-parts.ensures.value c.self.view_is) (tied c.deref_mut-parts.ensures.value c.self.invariant) c.requires.known c.requires.unseen ((tied c.deref_mut-parts.ensures.value c.self.invariant).in_range c.args.page c.args.frame placed)

pub invariant_of-self-in-Err : goal.invariant_of-self-in-Err
invariant_of-self-in-Err g c =
    subst (λ (r : Mappers). IsTied c.set.new.self c.deref_mut-parts.result.now.areas r) (sym (rmap_undone g c))
    (subst (λ (ts : Map ℕ Task). IsTied ts c.deref_mut-parts.result.now.areas c.deref_mut-parts.result.now.rmap) (sym c.in-Err.ensures.err) (tied c.deref_mut-parts.ensures.value c.self.invariant))

pub returns-in-Err-clause-err : goal.returns-in-Err-clause-err
returns-in-Err-clause-err g c = (λ i. spaces_view (c.in-Err.ensures.err i) c.deref_mut-parts.result.now.areas (rmap_undone g c i)) ∙ (seen c.deref_mut-parts.ensures.value c.self.view_is)

pub invariant_of-self-2 : goal.invariant_of-self-2
invariant_of-self-2 g c =
    let x = c.deref_mut-parts.result.now in
    let y = c.args.self.now in
    let is = seen c.deref_mut-parts.ensures.value c.self.view_is in
    let t = task_at y x.tasks x.areas x.rmap c.args.pid is c.requires.known in
    let free = unmapped_at y x.tasks x.areas x.rmap c.args.pid c.args.vpn is c.requires.unseen in
    let at = ap (λ (y : AddressSpacesView). page_at y.areas c.args.pid c.args.vpn) is ∙ c.requires.shown in
    let placed = placed_in y x.tasks x.areas x.rmap c.args.page c.args.frame is c.requires.placed in
    subst (λ (r : Mappers). IsTied c.set.new.self x.areas r) (sym c.in_ok-add.ensures.ok)
    (subst (λ (ts : Map ℕ Task). IsTied ts x.areas (with_mapper x.rmap c.args.frame (c.args.pid, c.args.vpn))) (sym (c.in_default.ensures.ok t.0 t.1))
    (page_tied x.tasks x.areas x.rmap c.args.pid t.0 c.args.vpn (tied c.deref_mut-parts.ensures.value c.self.invariant) t.1 free c.args.page c.args.frame at placed))

pub returns-clause-ok : goal.returns-clause-ok
returns-clause-ok g c = λ p h.
    let x = c.deref_mut-parts.result.now in
    let y = c.args.self.now in
    let is = seen c.deref_mut-parts.ensures.value c.self.view_is in
    let t = task_at y x.tasks x.areas x.rmap c.args.pid is c.requires.known in
    let free = unmapped_at y x.tasks x.areas x.rmap c.args.pid c.args.vpn is c.requires.unseen in
    let at = ap (λ (y : AddressSpacesView). page_at y.areas c.args.pid c.args.vpn) is ∙ c.requires.shown in
    let placed = placed_in y x.tasks x.areas x.rmap c.args.page c.args.frame is c.requires.placed in
    let same = process_at y x.tasks x.areas x.rmap c.args.pid t.0 p is t.1 h in
    (λ i. spaces_view (c.in_default.ensures.ok t.0 t.1 i) x.areas (c.in_ok-add.ensures.ok i))
    ∙ page_shows x.tasks x.areas x.rmap c.args.pid t.0 c.args.vpn (tied c.deref_mut-parts.ensures.value c.self.invariant) t.1 free c.args.page c.args.frame at placed
    ∙ (λ i. with_seen (is i) c.args.pid (same i) c.args.vpn (Sees c.args.page))
