use Rattle.std.proofs.Common.{◌≡◌, ◌++◌, length, ap, sym, subst, ◌∙◌, arith}
use Rattle.std.specs.Prelude.{min, vec_capacity, vec_len}
use Rattle.std.specs.List.{AllByRecursion}
use Rattle.nm_pool.specs.views.Populated.{IsPopulated}
use Rattle.nm_model.specs.definitions.Frames.{Store}
use Rattle.nm_pool.specs.views.Copies.{CanCopy, HasBoth, without_moves, jobs_of}
use Rattle.nm_pool.specs.views.Frames.{FramesView, HasAllFrames, in_memory}
use Rattle.nm_pool.proofs.Copies.Copied.{out_as_many}
use Rattle.nm_pool.proofs.Boxed.{seen, held}
use Rattle.nm_pool.proofs.frames.FramePool.take_out.Goals as goal

pub take_out_each-requires-clause-can : goal.take_out_each-requires-clause-can
take_out_each-requires-clause-can g c = subst (λ (v : FramesView). CanCopy v.frames c.args.moves.now) (sym (seen c.self.inside.jobs c.deref_mut.ensures.value c.self.view_is)) c.requires.can

pub take_out_each-requires-clause-populated : goal.take_out_each-requires-clause-populated
take_out_each-requires-clause-populated g c =
    subst (λ (v : FramesView). AllByRecursion (HasBoth v.frames) c.args.moves.now) (sym (seen c.self.inside.jobs c.deref_mut.ensures.value c.self.view_is)) c.requires.populated

pub take_out_each-requires-clause-room : goal.take_out_each-requires-clause-room
take_out_each-requires-clause-room g c =
    let own = held c.self.inside.jobs c.deref_mut.ensures.value c.self.invariant in
    let shown = seen c.self.inside.jobs c.deref_mut.ensures.value c.self.view_is in
    let jobs = c.self.inside.jobs in
    let room = ap (λ (v : FramesView). v.room) shown in
    let none = ap length own.2 in
    omega (arith, c.requires.few, room, none, jobs.ok.0)

pub invariant_of-result : goal.invariant_of-result
invariant_of-result g c =
    let own = held c.self.inside.jobs c.deref_mut.ensures.value c.self.invariant in (
      own.0,
      record {
        lists = own.1.lists;
        buffers = ap (λ (s : Store). length s) c.take_out_each.ensures.frames ∙ out_as_many c.args.moves.now (in_memory c.deref_mut.result.now.frames) ∙ own.1.buffers;
      },
    )

pub returns-clause-frames : goal.returns-clause-frames
returns-clause-frames g c =
    let k = c.deref_mut.result.now in
    let moves = c.args.moves.now in
    let room = vec_capacity k.vacated in
    let fields : Store → FramesView = λ s. record { layout = k.geometry; frames = s; free = k.nodes.lists; vacated = k.vacated.items; room = room } in
    ap fields c.take_out_each.ensures.frames ∙ ap (λ (v : FramesView). record v { frames = without_moves v.frames moves; room = room }) (seen c.self.inside.jobs c.deref_mut.ensures.value c.self.view_is)

pub returns-clause-jobs : goal.returns-clause-jobs
returns-clause-jobs g c =
    let own = held c.self.inside.jobs c.deref_mut.ensures.value c.self.invariant in
    let shown = seen c.self.inside.jobs c.deref_mut.ensures.value c.self.view_is in
    let k = c.deref_mut.result.now in
    let moves = c.args.moves.now in
    let none = own.2 in
    let first : vec_len c.self.inside.jobs ≡ 0 = c.self.inside.jobs.ok.0 ∙ ap length none in
    c.take_out_each.ensures.jobs ∙ ap (λ l. l ++ jobs_of {A = g.row.A.Denot} (vec_len c.self.inside.jobs) (in_memory k.frames) moves) none
    ∙ ap (λ n. jobs_of {A = g.row.A.Denot} n (in_memory k.frames) moves) first
    ∙ ap (λ (v : FramesView). jobs_of {A = g.row.A.Denot} 0 v.frames moves) shown

pub returns-clause-room : goal.returns-clause-room
returns-clause-room g c =
    let room = vec_capacity c.deref_mut.result.now.vacated in
    sym (ap (λ (v : FramesView). v.room) (seen c.self.inside.jobs c.deref_mut.ensures.value c.self.view_is)) ∙ ap (min room) (sym c.take_out_each.ensures.room)

pub returns-clause-whole : goal.returns-clause-whole
returns-clause-whole g c = subst HasAllFrames c.self.view_is c.self.invariant.1

pub returns-clause-vacated : goal.returns-clause-vacated
returns-clause-vacated g c = subst (λ (v : FramesView). AllByRecursion (IsPopulated v.frames) v.vacated) c.self.view_is c.self.invariant.3
