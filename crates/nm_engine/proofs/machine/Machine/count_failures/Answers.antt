use Rattle.std.proofs.Common.{ap, sym, subst, ◌∙◌}
use Rattle.nm_types.specs.State.{State}
use Rattle.nm_model.specs.definitions.Run.{with_counts, total_after}
use Rattle.nm_model.specs.definitions.Sound.{IsSoundInFlight}
use Rattle.nm_engine.specs.views.Shown.{shown_by}
use Rattle.nm_laws.proofs.Soundness.Contents.{counted_sound}
use Rattle.nm_engine.proofs.machine.Machine.count_failures.Goals as goal

pub invariant_of-self : goal.invariant_of-self
invariant_of-self g c =
    let i = c.self.inside in
    let s = shown_by i.spaces i.frames i.online i.totals.moved i.totals.failed in
    let after = c.after-self-inside in
    let is = ap (λ n. record s { moved = n; failed = after.result.failed }) after.ensures.moved ∙ ap (λ n. record s { moved = total_after i.totals.moved 0; failed = n }) after.ensures.failed in
    record {
      kept = record {
        sound = subst (λ (t : State). IsSoundInFlight t i.frames.vacated) (sym is) (counted_sound s i.frames.vacated 0 c.args.requests c.self.invariant.kept.sound);
        as_many = c.self.invariant.kept.as_many;
      };
      none = c.self.invariant.none;
    }

pub returns : goal.returns
returns g c =
    let i = c.self.inside in
    let s = shown_by i.spaces i.frames i.online i.totals.moved i.totals.failed in
    let after = c.after-self-inside in
    ap (λ n. record s { moved = n; failed = after.result.failed }) after.ensures.moved ∙ ap (λ n. record s { moved = total_after i.totals.moved 0; failed = n }) after.ensures.failed
    ∙ ap (λ (x : State). with_counts x 0 c.args.requests) c.self.view_is
