use Rattle.std.proofs.Common.{◌<◌, ap, sym, subst, ◌∙◌, arith}
use Rattle.nm_types.specs.Layout.{node_count}
use Rattle.nm_types.specs.State.{State}
use Rattle.nm_pool.specs.views.Frames.{FramesView}
use Rattle.nm_pool.proofs.FreeLists.Returned.{sound_returns}
use Rattle.nm_model.specs.definitions.BeforeCopy.{with_fronts, frames_taken}
use Rattle.nm_model.specs.definitions.Sound.{IsSound}
use Rattle.nm_engine.specs.views.RunState.{RunState, IsSoundMachine}
use Rattle.nm_engine.specs.views.Shown.{shown_by}
use Rattle.nm_engine.proofs.InFlight.TakenFrames.{back_again}
use Rattle.nm_engine.proofs.prepared_run.PreparedRun.prepare.Goals as goal

pub give_back-requires-clause-node : goal.give_back-requires-clause-node
give_back-requires-clause-node g c =
    let there = ap (λ (x : RunState). x.state) (c.self.view_is ∙ c.in-Err.ensures.err) ∙ c.in_ok-take_frames.ensures.taken.state in
    subst (λ (x : State). c.args.target < node_count x.layout) (sym there) c.requires.target

pub give_back-requires-clause-can : goal.give_back-requires-clause-can
give_back-requires-clause-can g c =
    let i = c.self.inside in
    let s = shown_by i.spaces i.frames i.online i.totals.moved i.totals.failed in
    let t = c.args.target in
    let moves = c.args.moves.now in
    let sound = c.in_ok-take_frames.ensures.sound in
    let there = ap (λ (x : RunState). x.state) (c.self.view_is ∙ c.in-Err.ensures.err) ∙ c.in_ok-take_frames.ensures.taken.state in
    let back = ap (λ (x : State). with_fronts x t (frames_taken moves)) there ∙ back_again c.args.self.now.state t moves (omega (arith, sound.frames.lists, c.requires.target)) c.requires.moves in
    let nodes = ap (λ (x : State). node_count x.layout) there in
    sound_returns s t (frames_taken moves) (omega (arith, nodes, c.self.invariant.sound.frames.lists, c.requires.target)) (subst IsSound (sym back) sound)

pub invariant_of-self : goal.invariant_of-self
invariant_of-self g c =
    let i = c.self.inside in
    let t = c.args.target in
    let moves = c.args.moves.now in
    let sound = c.in_ok-take_frames.ensures.sound in
    let there = ap (λ (x : RunState). x.state) (c.self.view_is ∙ c.in-Err.ensures.err) ∙ c.in_ok-take_frames.ensures.taken.state in
    let back = ap (λ (x : State). with_fronts x t (frames_taken moves)) there ∙ back_again c.args.self.now.state t moves (omega (arith, sound.frames.lists, c.requires.target)) c.requires.moves in
    subst (λ (k : FramesView). IsSoundMachine (shown_by i.spaces k i.online i.totals.moved i.totals.failed) k.vacated i.spaces.frames) (sym c.give_back.ensures.given)
    (record { sound = subst IsSound (sym back) sound; as_many = c.self.invariant.as_many })

pub returns-in-Err-clause-err : goal.returns-in-Err-clause-err
returns-in-Err-clause-err g c =
    let i = c.self.inside in
    let t = c.args.target in
    let moves = c.args.moves.now in
    let sound = c.in_ok-take_frames.ensures.sound in
    let view = c.self.view_is ∙ c.in-Err.ensures.err in
    let there = ap (λ (x : RunState). x.state) view ∙ c.in_ok-take_frames.ensures.taken.state in
    let back = ap (λ (x : State). with_fronts x t (frames_taken moves)) there ∙ back_again c.args.self.now.state t moves (omega (arith, sound.frames.lists, c.requires.target)) c.requires.moves in
    let given = c.give_back.ensures.given in
    let state = ap (λ (k : FramesView). shown_by i.spaces k i.online i.totals.moved i.totals.failed) given ∙ back in
    let left = ap (λ (k : FramesView). k.vacated) given ∙ sym c.requires.none in
    λ j. record { state = state j; left = left j; room = c.give_back.new.self.room }

pub returns-in-Ok-clause-prepares : goal.returns-in-Ok-clause-prepares
returns-in-Ok-clause-prepares g c = record { between = c.take_frames.new.self; frames = c.in_ok-take_frames.ensures.taken; touches = c.in-Ok.ensures.touched }

pub returns-in-Ok-clause-sound : goal.returns-in-Ok-clause-sound
returns-in-Ok-clause-sound g c = c.in_ok-take_frames.ensures.sound

pub returns-in-Err-clause-sound : goal.returns-in-Err-clause-sound
returns-in-Err-clause-sound g c = c.in_ok-take_frames.ensures.sound
