use Rattle.std.proofs.Common.{◌<◌, sym, subst}
use Rattle.std.specs.List.{AllByRecursion}
use Rattle.std.proofs.lemmas.Map.Keys.{sorted_from_strictly_increasing}
use Rattle.nm_types.specs.Layout.{node_count}
use Rattle.nm_types.specs.State.{State}
use Rattle.nm_engine.specs.views.Shown.{shown_by}
use Rattle.nm_laws.proofs.Soundness.Online.{online_sound, changed_below}
use Rattle.nm_engine.proofs.machine.Machine.set_online.Goals as goal

pub invariant_of-self : goal.invariant_of-self
invariant_of-self g c =
    let i = c.self.inside in
    let s = shown_by i.spaces i.frames i.online i.totals.moved i.totals.failed in
    let changed = c.with_or_without-self-inside in
    let node : c.args.node < node_count s.layout = subst (λ (x : State). c.args.node < node_count x.layout) (sym c.self.view_is) c.requires in
    let below = changed_below (λ n. n < node_count s.layout) i.online c.args.node c.args.online node c.self.invariant.kept.sound.online.below in
    record {
      kept = record {
        sound = online_sound s i.frames.vacated changed.result
            (record {
              upwards = sorted_from_strictly_increasing changed.result changed.ensures.set.upwards;
              below = subst (AllByRecursion (λ n. n < node_count s.layout)) (sym changed.ensures.nodes) below;
            }) c.self.invariant.kept.sound;
        as_many = c.self.invariant.kept.as_many;
      };
      none = c.self.invariant.none;
    }
