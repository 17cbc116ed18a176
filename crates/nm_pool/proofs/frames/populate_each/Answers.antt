use Rattle.std.proofs.Common.{List, ◌+◌, ◌<◌, length, drop, sym, subst}
use Rattle.std.specs.List.{AllByRecursion}
use Rattle.std.proofs.Math.ListN.{drop_of_length-le}
use Rattle.nm_pool.specs.views.Populated.{IsPopulated}
use Rattle.nm_types.specs.declared.page_move.PageMove.{PageMove}
use Rattle.nm_model.specs.definitions.BeforeCopy.{frames_taken}
use Rattle.nm_laws.proofs.Lists.{drop_item}
use Rattle.nm_pool.proofs.Copies.Populated.{keeps_self, keeps_then, keeps_populated, homes_then}
use Rattle.nm_pool.specs.views.Frames.{in_memory}
use Rattle.nm_pool.proofs.frames.populate_each.Goals as goal

pub loop-taken-init : goal.loop-taken-init
loop-taken-init g c = record { kept = keeps_self (in_memory c.args.frames.now); inside = c.requires.frames; home = c.requires.home; whole = λ all. all; populated = λ s kept all. all }

pub populate-requires-clause-frame : goal.populate-requires-clause-frame
populate-requires-clause-frame g c =
    let at = drop_item c.args.moves.now c.loop-taken.taken-index c.taken-item.result c.loop-taken-test.true c.taken-item.is in
    (subst (λ (ts : List PageMove). AllByRecursion (λ frame. frame < length (in_memory c.loop-taken.frames)) (frames_taken ts)) at c.loop-taken.invariant.inside).0

pub populate-requires-clause-home : goal.populate-requires-clause-home
populate-requires-clause-home g c = c.loop-taken.invariant.home

pub loop-taken-preserved : goal.loop-taken-preserved
loop-taken-preserved g c =
    let t = c.taken-item.result in
    let k = c.loop-taken.taken-index in
    let before = in_memory c.loop-taken.frames in
    let after = in_memory c.populate.new.frames in
    let at = drop_item c.args.moves.now k t c.loop-taken-test.true c.taken-item.is in
    let inside = subst (λ (ts : List PageMove). AllByRecursion (λ frame. frame < length before) (frames_taken ts)) at c.loop-taken.invariant.inside in
    let now = c.in_ok-populate.ensures.kept in
    record {
      kept = keeps_then (in_memory c.args.frames.now) before after c.loop-taken.invariant.kept now;
      inside = subst (λ n. AllByRecursion (λ frame. frame < n) (frames_taken (drop (k + 1) c.args.moves.now))) (sym now.as_many) inside.1;
      home = homes_then before after now c.loop-taken.invariant.home;
      whole = λ all. (subst (λ (ts : List PageMove). AllByRecursion (IsPopulated (in_memory c.args.frames.now)) (frames_taken ts)) at (c.loop-taken.invariant.whole all)).1;
      populated = λ s kept all.
          c.loop-taken.invariant.populated s (keeps_then before after s now kept)
          (subst (λ (ts : List PageMove). AllByRecursion (IsPopulated s) (frames_taken ts)) (sym at) (keeps_populated after s t.to kept c.in_ok-populate.ensures.populated, all));
    }

pub returns-clause-populated : goal.returns-clause-populated
returns-clause-populated g c =
    let store = in_memory c.loop-taken.frames in
    c.loop-taken.invariant.populated store (keeps_self store)
    (subst (λ (ts : List PageMove). AllByRecursion (IsPopulated store) (frames_taken ts)) (sym (drop_of_length-le c.args.moves.now c.loop-taken-test.false)) tt)
