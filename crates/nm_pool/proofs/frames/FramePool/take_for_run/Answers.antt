use Rattle.std.proofs.Common.{ℕ, List, ◌+◌, ◌≤◌, ◌++◌, min, length, take, drop, vec_capacity, ap, sym, subst, ◌∙◌, arith}
use Rattle.std.specs.Prelude.{slice_set}
use Rattle.std.specs.List.{AllByRecursion}
use Rattle.nm_pool.specs.views.Populated.{IsPopulated}
use Rattle.nm_model.specs.definitions.Frames.{Pool, list_of}
use Rattle.nm_pool.specs.views.Frames.{FramesView, HasAllFrames, free_on, in_memory}
use Rattle.nm_pool.proofs.Shelves.{seen_node, list_set}
use Rattle.nm_pool.proofs.Copies.Populated.{all_joined}
use Rattle.nm_pool.proofs.Boxed.{seen, held}
use Rattle.nm_pool.proofs.frames.FramePool.take_for_run.Goals as goal

pub take_many-requires-clause-node : goal.take_many-requires-clause-node
take_many-requires-clause-node g c =
    let own = held c.self.inside.jobs c.deref_mut-parts.ensures.value c.self.invariant in
    let shown = seen c.self.inside.jobs c.deref_mut-parts.ensures.value c.self.view_is in
    seen_node _ c.args.self.now c.args.node shown own.1 c.requires.node

pub take_many-requires-clause-room : goal.take_many-requires-clause-room
take_many-requires-clause-room g c =
    let fits = subst (λ (v : FramesView). length v.vacated + c.args.count ≤ v.room) (sym (seen c.self.inside.jobs c.deref_mut-parts.ensures.value c.self.view_is)) c.requires.room in
    omega (arith, fits, c.deref_mut-parts.result.now.vacated.ok.0)

pub invariant_of-self : goal.invariant_of-self
invariant_of-self g c =
    let own = held c.self.inside.jobs c.deref_mut-parts.ensures.value c.self.invariant in
    let shown = seen c.self.inside.jobs c.deref_mut-parts.ensures.value c.self.view_is in (
      ap (λ (p : Pool). p.sizes) c.take_many.ensures.rest ∙ own.0,
      list_set _ c.deref_mut-parts.result.now.nodes c.take_many.new.self c.args.node _ _ _ c.take_many.ensures.rest own.1.lists own.1,
      own.2,
      subst (AllByRecursion (IsPopulated (in_memory c.deref_mut-parts.result.now.frames))) (sym c.take_many.ensures.taken)
          (all_joined (in_memory c.deref_mut-parts.result.now.frames) c.deref_mut-parts.result.now.vacated.items (take c.args.count (list_of c.deref_mut-parts.result.now.nodes c.args.node)) own.3
          (subst (λ (v : FramesView). AllByRecursion (IsPopulated v.frames) (take c.args.count (free_on v c.args.node))) (sym shown) c.requires.populated)),
    )

pub returns-clause-whole : goal.returns-clause-whole
returns-clause-whole g c = subst HasAllFrames c.self.view_is c.self.invariant.1

pub returns-clause-taken : goal.returns-clause-taken
returns-clause-taken g c =
    let k = c.deref_mut-parts.result.now in
    let n = c.args.count in
    let node = c.args.node in
    let fields : List (List ℕ) → List ℕ → ℕ → FramesView =
    λ free vacated room. record { layout = k.geometry; frames = in_memory k.frames; free = free; vacated = vacated; room = min room (vec_capacity c.self.inside.jobs) } in
    let free = slice_set k.nodes.lists node (drop n (list_of k.nodes node)) in
    let vacated = k.vacated.items ++ take n (list_of k.nodes node) in
    ap (λ (p : Pool). fields p.lists c.take_many.new.taken.items (vec_capacity c.take_many.new.taken)) c.take_many.ensures.rest
    ∙ ap (λ items. fields free items (vec_capacity c.take_many.new.taken)) c.take_many.ensures.taken
    ∙ ap (fields free vacated) c.take_many.ensures.room
    ∙ ap (λ (v : FramesView). record v { free = slice_set v.free node (drop n (free_on v node)); vacated = v.vacated ++ take n (free_on v node) }) (seen c.self.inside.jobs c.deref_mut-parts.ensures.value c.self.view_is)
