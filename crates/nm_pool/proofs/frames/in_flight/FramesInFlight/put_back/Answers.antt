use Rattle.std.proofs.Common.{ap, sym, subst, length, ◌<◌, ◌∙◌}
use Rattle.std.specs.Prelude.{min, vec_capacity}
use Rattle.std.specs.List.{AllByRecursion}
use Rattle.nm_types.specs.Layout.{frame_count}
use Rattle.nm_pool.specs.views.Populated.{IsPopulated}
use Rattle.nm_model.specs.definitions.Frames.{Store, IsHome}
use Rattle.nm_pool.specs.views.Copies.{CanRefill, with_jobs_back}
use Rattle.nm_pool.specs.views.Frames.{FramesView, in_memory}
use Rattle.nm_pool.proofs.Copies.Copied.{back_as_many}
use Rattle.nm_pool.proofs.Boxed.{seen_alone, held_alone}
use Rattle.nm_pool.proofs.frames.in_flight.FramesInFlight.put_back.Goals as goal

pub put_back_each-requires : goal.put_back_each-requires
put_back_each-requires g c = subst (λ (v : FramesView). CanRefill v.frames c.args.copied.items) (sym (seen_alone c.deref_mut.ensures.value c.self.view_is)) c.requires.can

pub invariant_of-result : goal.invariant_of-result
invariant_of-result g c =
    let own = held_alone c.deref_mut.ensures.value c.self.invariant in
    let shown = seen_alone c.deref_mut.ensures.value c.self.view_is in
    let k = c.deref_mut.result.now in
    let copied = c.args.copied.items in
    let is = c.put_back_each.ensures.frames in
    let homes = subst (λ (v : FramesView). (f : _) → f < frame_count v.layout → IsHome (with_jobs_back v.frames copied) f) (sym shown) c.requires.home in
    let whole = subst (λ (v : FramesView). AllByRecursion (IsPopulated (with_jobs_back v.frames copied)) v.vacated) (sym shown) c.requires.populated in (
      own.0,
      record {
        lists = own.1.lists;
        buffers = ap (λ (s : Store). length s) is ∙ back_as_many copied (in_memory k.frames) ∙ own.1.buffers;
        home = λ f below. subst (λ (s : Store). IsHome s f) (sym is) (homes f below);
      },
      c.put_back_each.ensures.empty,
      subst (λ (s : Store). AllByRecursion (IsPopulated s) k.vacated.items) (sym is) whole,
    )

pub returns-clause-frames : goal.returns-clause-frames
returns-clause-frames g c =
    let k = c.deref_mut.result.now in
    let copied = c.args.copied.items in
    let room = min (vec_capacity k.vacated) (vec_capacity c.put_back_each.new.jobs) in
    let fields : Store → FramesView = λ s. record { layout = k.geometry; frames = s; free = k.nodes.lists; vacated = k.vacated.items; room = room } in
    ap fields c.put_back_each.ensures.frames ∙ ap (λ (v : FramesView). record v { frames = with_jobs_back v.frames copied; room = room }) (seen_alone c.deref_mut.ensures.value c.self.view_is)

pub returns-clause-room : goal.returns-clause-room
returns-clause-room g c =
    ap (min (vec_capacity c.deref_mut.result.now.vacated)) c.put_back_each.ensures.room ∙ ap (λ (v : FramesView). min v.room (vec_capacity c.args.copied)) (seen_alone c.deref_mut.ensures.value c.self.view_is)
