use Rattle.std.proofs.Common.{ℕ, List, min, ap, sym, subst, ◌∙◌, arith, vec_capacity}
use Rattle.std.specs.List.{AllByRecursion}
use Rattle.nm_pool.specs.views.Populated.{IsPopulated}
use Rattle.std.proofs.lemmas.Result.{on_ok_weaker}
use Rattle.nm_pool.specs.views.Frames.{FramesView, in_memory}
use Rattle.nm_pool.proofs.Boxed.{seen, held}
use Rattle.nm_pool.proofs.frames.FramePool.reserve.Goals as goal

pub invariant_of-self : goal.invariant_of-self
invariant_of-self g c =
    let own = held c.self.inside.jobs c.deref_mut-parts.ensures.value c.self.invariant in
    let shelf = own.1 in
    (own.0, record { lists = shelf.lists; buffers = shelf.buffers; home = shelf.home }, own.2, subst (AllByRecursion (IsPopulated (in_memory c.deref_mut-parts.result.now.frames))) (sym c.reserve.ensures.items) own.3)

pub invariant_of-self-2 : goal.invariant_of-self-2
invariant_of-self-2 g c =
    let own = held c.self.inside.jobs c.deref_mut-parts.ensures.value c.self.invariant in
    let shelf = own.1 in
    (own.0, record { lists = shelf.lists; buffers = shelf.buffers; home = shelf.home }, c.reserve-2.ensures.items ∙ own.2, subst (AllByRecursion (IsPopulated (in_memory c.deref_mut-parts.result.now.frames))) (sym c.in_ok-reserve.ensures.items) own.3)

pub returns-clause-room : goal.returns-clause-room
returns-clause-room g c =
    let many = c.reserve.new.self.ok.0 in
    on_ok_weaker c.reserve-2.result (λ fits. omega (arith, fits, many, c.len.ensures, c.in_ok-reserve.ensures.ok)) c.reserve-2.ensures.ok

pub returns-clause-same : goal.returns-clause-same
returns-clause-same g c =
    let k = c.deref_mut-parts.result.now in
    let room = min (vec_capacity c.reserve.new.self) (vec_capacity c.reserve-2.new.self) in
    let fields : List ℕ → FramesView = λ vacated. record { layout = k.geometry; frames = in_memory k.frames; free = k.nodes.lists; vacated = vacated; room = room } in
    ap fields c.in_ok-reserve.ensures.items ∙ ap (λ (v : FramesView). record v { room = room }) (seen c.self.inside.jobs c.deref_mut-parts.ensures.value c.self.view_is)
