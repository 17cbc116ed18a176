use Rattle.std.proofs.Common.{◌<◌, List, ℕ, length, ap, sym, subst, ◌∙◌, arith}
use Rattle.std.specs.Prelude.{◌⊎◌}
use Rattle.nm_types.specs.declared.page.Page.{Page}
use Rattle.nm_model.specs.definitions.Effect.{drop_range}
use Rattle.nm_pool.specs.views.Frames.{FramesView, pool_of, CanFree}
use Rattle.nm_types.specs.State.{State}
use Rattle.nm_areas.specs.Splits.{HasSplit}
use Rattle.nm_areas.proofs.Counted.{err_always}
use Rattle.nm_spaces.specs.views.AddressSpaces.{AddressSpacesView}
use Rattle.nm_engine.specs.views.Shown.{shown_by}
use Rattle.nm_engine.specs.views.RunState.{IsSoundMachine}
use Rattle.nm_engine.proofs.MidRun.LostFrames.{frames_of, can_go, gone_shows, gone_kept}
use Rattle.nm_engine.proofs.machine.Machine.let_go.Goals as goal

pub free_each-requires : goal.free_each-requires
free_each-requires g c =
    let i = c.self.inside in
    let none = c.self.invariant.none in
    subst (λ (fs : List (Page × ℕ)). CanFree (pool_of i.frames) (frames_of fs)) (sym (c.as_slice.ensures.value ∙ c.in_ok-freed.ensures.freed))
    (can_go i.spaces i.frames i.online i.totals.moved i.totals.failed c.args.pid c.args.range.first c.args.range.end none c.self.invariant.kept.sound)

pub invariant_of-self-2 : goal.invariant_of-self-2
invariant_of-self-2 g c =
    let i = c.self.inside in
    let none = c.self.invariant.none in
    record {
      kept = gone_kept i.spaces i.frames i.online i.totals.moved i.totals.failed c.args.pid c.args.range.first c.args.range.end c.remove.new.self c.free_each.new.frames _
          (omega (arith, c.requires.some)) none c.self.invariant.kept c.in_ok-freed.ensures.ok (c.as_slice.ensures.value ∙ c.in_ok-freed.ensures.freed) c.free_each.ensures;
      none = ap (λ (k : FramesView). k.vacated) c.free_each.ensures ∙ none;
    }

pub returns-clause-ok : goal.returns-clause-ok
returns-clause-ok g c =
    let i = c.self.inside in
    gone_shows i.spaces i.frames i.online i.totals.moved i.totals.failed c.args.pid c.args.range.first c.args.range.end c.remove.new.self c.free_each.new.frames _
    c.self.invariant.kept.sound.pins.same_pages c.in_ok-freed.ensures.ok (c.as_slice.ensures.value ∙ c.in_ok-freed.ensures.freed) c.free_each.ensures
    ∙ ap (λ (s : State). drop_range s c.args.pid c.args.range.first c.args.range.end) c.self.view_is

pub invariant_of-self : goal.invariant_of-self
invariant_of-self g c =
    let i = c.self.inside in
    record {
      kept = subst (λ (z : AddressSpacesView). IsSoundMachine (shown_by z i.frames i.online i.totals.moved i.totals.failed) i.frames.vacated z.frames) (sym c.in_err-freed.ensures.err) c.self.invariant.kept;
      none = c.self.invariant.none;
    }

pub returns-in_err-freed-clause-needed : goal.returns-in_err-freed-clause-needed
returns-in_err-freed-clause-needed g c = err_always c.from_residual.result
    (subst (λ (s : State). (0 < length s.place) ⊎ HasSplit s.areas c.args.pid c.args.range.first ⊎ HasSplit s.areas c.args.pid c.args.range.end) c.self.view_is
    c.in_err-freed.ensures.needed)
