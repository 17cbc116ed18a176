use Rattle.std.proofs.Common.{ap, ◌∙◌}
use Rattle.std.proofs.lemmas.Result.{IfOk-from_err}
use Rattle.std.specs.Map.{values_of}
use Rattle.nm_model.specs.definitions.Areas.{Mapping}
use Rattle.nm_model.specs.definitions.Sound.{each_frame_is_once, is_audited, with_numbers}
use Rattle.nm_engine.specs.views.Shown.{shown_by}
use Rattle.nm_laws.proofs.Soundness.Sounded.{sound_is_audited}
use Rattle.nm_engine.proofs.Between.{sound_between}
use Rattle.nm_engine.proofs.machine.Machine.audit.Goals as goal

pub returns-clause-sound : goal.returns-clause-sound
returns-clause-sound g c =
    let i = c.self.inside in
    let s = shown_by i.spaces i.frames i.online i.totals.moved i.totals.failed in
    c.in_ok-once.ensures ∙ ap (is_audited s.layout (with_numbers 0 s.free)) (c.as_slice.ensures.value ∙ c.in_ok-places.ensures.frames ∙ ap (λ (m : Mapping). values_of m.place) c.areas.ensures.areas)
    ∙ sound_is_audited s (sound_between c.self.invariant)

pub returns-clause-frames : goal.returns-clause-frames
returns-clause-frames g c =
    let i = c.self.inside in
    let s = shown_by i.spaces i.frames i.online i.totals.moved i.totals.failed in
    c.in_ok-once.ensures ∙ ap (is_audited s.layout (with_numbers 0 s.free)) (c.as_slice.ensures.value ∙ c.in_ok-places.ensures.frames ∙ ap (λ (m : Mapping). values_of m.place) c.areas.ensures.areas)
    ∙ ap each_frame_is_once c.self.view_is

pub returns-in_err-places-clause-frames : goal.returns-in_err-places-clause-frames
returns-in_err-places-clause-frames g c = IfOk-from_err c.from_residual.result _ c.from_residual.ensures.0

pub returns-in_err-places-clause-sound : goal.returns-in_err-places-clause-sound
returns-in_err-places-clause-sound g c = IfOk-from_err c.from_residual.result _ c.from_residual.ensures.0

pub returns-in_err-once-clause-frames : goal.returns-in_err-once-clause-frames
returns-in_err-once-clause-frames g c = IfOk-from_err c.from_residual-in_err-once.result _ c.from_residual-in_err-once.ensures.0

pub returns-in_err-once-clause-sound : goal.returns-in_err-once-clause-sound
returns-in_err-once-clause-sound g c = IfOk-from_err c.from_residual-in_err-once.result _ c.from_residual-in_err-once.ensures.0
