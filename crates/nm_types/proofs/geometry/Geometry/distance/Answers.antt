use Rattle.std.proofs.Common.{◌<◌, ◌≤◌, length, ap, sym, subst, ◌∙◌, arith}
use Rattle.nm_types.specs.Layout.{Layout, IsMachine, node_count, distance}
use Rattle.nm_types.proofs.Layouts.{is_within, reads, own_distance, other_distance}
use Rattle.nm_types.proofs.geometry.Geometry.distance.Goals as goal

pub index-requires-4 : goal.index-requires-4
index-requires-4 g c =
    let from : c.args.from < length c.self.inside.sizes.items = subst (λ (l : Layout). c.args.from < node_count l) (sym c.self.view_is) c.requires.from in
    let to : c.index-3.result < length c.self.inside.sizes.items = subst (λ (l : Layout). c.index-3.result < node_count l) (sym c.self.view_is) (omega (arith, c.requires.to)) in
    let within : c.index-3.result < length c.index-2.result.now.items = is_within (λ v. v.items) c.self.inside.sizes.items c.self.inside.distances.items c.args.from c.index.result c.index-3.result c.index-2.result.now c.self.invariant from c.index.ensures c.index-2.ensures to in
    omega (arith, within, c.index-2.result.now.ok)

pub returns-clause-distance : goal.returns-clause-distance
returns-clause-distance g c =
    let from : c.args.from < length c.self.inside.sizes.items = subst (λ (l : Layout). c.args.from < node_count l) (sym c.self.view_is) c.requires.from in
    let to : c.args.to < length c.self.inside.sizes.items = subst (λ (l : Layout). c.args.to < node_count l) (sym c.self.view_is) c.requires.to in
    reads (λ v. v.items) c.self.inside.sizes.items c.self.inside.distances.items c.args.from c.index.result c.index-3.result c.index-2.result.now c.self.invariant from c.index.ensures c.index-2.ensures
    c.args.to c.index-4.result.now c.index-3.ensures to c.index-4.ensures
    ∙ ap (λ (l : Layout). distance l c.args.from c.args.to) c.self.view_is

pub returns-clause-own : goal.returns-clause-own
returns-clause-own g c = λ e.
    let machine : IsMachine c.args.self.now = subst IsMachine c.self.view_is c.self.invariant in
    returns-clause-distance g c ∙ own_distance c.args.self.now machine c.args.from c.requires.from c.args.to c.requires.to e

pub returns-clause-other : goal.returns-clause-other
returns-clause-other g c = λ ne.
    let machine : IsMachine c.args.self.now = subst IsMachine c.self.view_is c.self.invariant in
    subst (λ d. 11 ≤ d) (sym (returns-clause-distance g c)) (other_distance c.args.self.now machine c.args.from c.requires.from c.args.to c.requires.to ne)
