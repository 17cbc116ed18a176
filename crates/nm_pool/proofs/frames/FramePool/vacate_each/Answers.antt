use Rattle.std.proofs.Common.{ℕ, List, ◌≤◌, ◌++◌, min, length, vec_capacity, ap, sym, subst, ◌∙◌, arith}
use Rattle.std.specs.List.{AllByRecursion}
use Rattle.nm_pool.specs.views.Populated.{IsPopulated}
use Rattle.nm_pool.specs.views.Frames.{FramesView, HasAllFrames, in_memory}
use Rattle.nm_model.specs.definitions.Run.{frames_left}
use Rattle.nm_pool.proofs.Boxed.{seen, held}
use Rattle.nm_pool.proofs.frames.FramePool.vacate_each.Goals as goal

pub invariant_of-self : goal.invariant_of-self
invariant_of-self g c =
    let own = held c.self.inside.jobs c.deref_mut-parts.ensures.value c.self.invariant in
    let shown = seen c.self.inside.jobs c.deref_mut-parts.ensures.value c.self.view_is in
    let shelf = own.1 in
    let k = c.deref_mut-parts.result.now in
    let items = c.push_left.ensures.items ∙ ap (λ xs. xs ++ frames_left c.args.moves.now) c.clear.ensures.items in (
      own.0,
      record { lists = shelf.lists; buffers = shelf.buffers; home = shelf.home },
      own.2,
      subst (AllByRecursion (IsPopulated (in_memory k.frames))) (sym items) (subst (λ (v : FramesView). AllByRecursion (IsPopulated v.frames) (frames_left c.args.moves.now)) (sym shown) c.requires.populated),
    )

pub returns-clause-populated : goal.returns-clause-populated
returns-clause-populated g c = subst (λ (v : FramesView). AllByRecursion (IsPopulated v.frames) v.vacated) c.self.view_is c.self.invariant.3

pub returns-clause-whole : goal.returns-clause-whole
returns-clause-whole g c = subst HasAllFrames c.self.view_is c.self.invariant.1

pub push_left-requires : goal.push_left-requires
push_left-requires g c =
    let fits = subst (λ (v : FramesView). length c.args.moves.now ≤ v.room) (sym (seen c.self.inside.jobs c.deref_mut-parts.ensures.value c.self.view_is)) c.requires.room in
    omega (arith, fits, c.clear.ensures.len, c.clear.ensures.capacity)

pub returns-clause-vacated : goal.returns-clause-vacated
returns-clause-vacated g c =
    let k = c.deref_mut-parts.result.now in
    let moves = c.args.moves.now in
    let fields : List ℕ → ℕ → FramesView = λ vacated room. record { layout = k.geometry; frames = in_memory k.frames; free = k.nodes.lists; vacated = vacated; room = min room (vec_capacity c.self.inside.jobs) } in
    let items = c.push_left.ensures.items ∙ ap (λ xs. xs ++ frames_left moves) c.clear.ensures.items in
    ap (λ vacated. fields vacated (vec_capacity c.push_left.new.vacated)) items
    ∙ ap (fields (frames_left moves)) (c.push_left.ensures.room ∙ c.clear.ensures.capacity)
    ∙ ap (λ (v : FramesView). record v { vacated = frames_left moves }) (seen c.self.inside.jobs c.deref_mut-parts.ensures.value c.self.view_is)
