use Rattle.std.proofs.Common.{ap, ◌∙◌}
use Rattle.std.specs.Prelude.{Some, if◌then◌else◌}
use Rattle.std.specs.Ordering.{nat_cmp}
use Rattle.nm_types.specs.declared.errno.Errno.TheVariants.{Esrch}
use Rattle.nm_types.specs.Map.{get}
use Rattle.nm_model.specs.definitions.AreaRefusal.{insert_refusal}
use Rattle.nm_spaces.specs.views.AddressSpaces.{mapped_of}
use Rattle.nm_engine.specs.views.Shown.{shown_by}
use Rattle.nm_engine.specs.views.RunState.{IsSoundMachine}
use Rattle.nm_engine.proofs.MidRun.AreaCalls.{known_there}
use Rattle.nm_engine.proofs.MidRun.AreaChanges.{kept_either, kept_inserted}
use Rattle.nm_engine.proofs.machine.Machine.map.Given.{Over}
use Rattle.nm_engine.proofs.machine.Machine.map.Goals.{After-map}
use Rattle.nm_engine.proofs.machine.Machine.map.Goals as goal

-- the machine is sound whether or not the area was made
kept : (g : Over) (c : After-map g)
    → let i = c.self.inside in IsSoundMachine (shown_by c.map.new.self i.frames i.online i.totals.moved i.totals.failed) i.frames.vacated c.map.new.self.frames
kept g c =
    let i = c.self.inside in
    kept_either i.spaces c.map.new.self i.frames i.online i.totals.moved i.totals.failed c.map.ensures.same c.self.invariant.kept c.map.result c.map.ensures.done
    (λ fine. kept_inserted i.spaces c.map.new.self i.frames i.online i.totals.moved i.totals.failed c.map.ensures.same c.self.invariant.kept c.args.pid c.args.addr c.args.pages c.args.shared c.self.invariant.none
    (ap (λ b. if b then Some Esrch else insert_refusal (mapped_of i.spaces) c.args.pid c.args.addr c.args.pages) (known_there (get nat_cmp i.spaces.processes c.args.pid) c.info.result c.is_none.result c.info.ensures c.is_none.ensures c.if-is_none.false) ∙ fine))

pub invariant_of-self : goal.invariant_of-self
invariant_of-self g c = record { kept = kept g (goal.at.invariant_of-self g c).After-map; none = c.self.invariant.none }

pub invariant_of-self-2 : goal.invariant_of-self-2
invariant_of-self-2 g c = record { kept = kept g (goal.at.invariant_of-self-2 g c).After-map; none = c.self.invariant.none }
