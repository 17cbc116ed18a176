use Rattle.std.proofs.Common.{ℕ, ◌+◌, ap, sym, subst, ◌∙◌, arith}
use Rattle.std.specs.Prelude.{Some}
use Rattle.nm_spaces.specs.views.ProcessTable.{without_entries}
use Rattle.nm_spaces.proofs.ProcessTable.NamedFrames.{names_it, zero_if_none}
use Rattle.nm_model.specs.definitions.PageTables.{entry_at}
use Rattle.nm_spaces.specs.definitions.Tied.{IsCleared, IsWithout}
use Rattle.nm_spaces.proofs.Tied.ClearedEntries.{cleared_none, mappers_none, clearing, cleared_all, names_below, cleared_one, number_found, entry_found, less_zero, less_named}
use Rattle.nm_spaces.proofs.address_spaces.areas.clear_between.Goals as goal
use Rattle.nm_spaces.proofs.address_spaces.areas.clear_between.Goals.{in_default-frame_named, in-Some-frame_named}

pub loop-vpn-init : goal.loop-vpn-init
loop-vpn-init g c =
    let x = c.args in
    let at = c.number-at.ensures in
    record {
      tasks = sym (cleared_none x.tasks.now x.pid x.first) ∙ ap (without_entries x.tasks.now x.pid x.first) (sym at);
      rmap = subst (λ (n : ℕ). IsCleared x.rmap.now x.rmap.now x.pid x.first n x.tasks.now) (sym at) (mappers_none x.rmap.now x.pid x.first x.tasks.now);
      from = omega (arith, at);
      up = omega (arith, at);
    }

pub returns-then-number-clause-tasks : goal.returns-then-number-clause-tasks
returns-then-number-clause-tasks g c =
    let kept = clearing c.args.tasks.now c.loop-vpn.tasks c.args.rmap.now c.loop-vpn.rmap c.args.pid c.args.first c.loop-vpn.at c.args.end c.new.result c.new.ensures c.requires.pids c.requires.tables
    c.loop-vpn.invariant.tasks c.loop-vpn.invariant.rmap c.loop-vpn.invariant.from c.loop-vpn.invariant.up in
    (cleared_all c.args.tasks.now c.loop-vpn.tasks c.args.rmap.now c.loop-vpn.rmap c.args.pid c.args.first c.new.result c.args.end kept (λ w l h. c.in-Some.ensures.first w l (omega (arith, h, c.if-number.true, c.number.ensures, c.number-in-Some.ensures)))).0

pub returns-then-number-clause-rmap : goal.returns-then-number-clause-rmap
returns-then-number-clause-rmap g c =
    let kept = clearing c.args.tasks.now c.loop-vpn.tasks c.args.rmap.now c.loop-vpn.rmap c.args.pid c.args.first c.loop-vpn.at c.args.end c.new.result c.new.ensures c.requires.pids c.requires.tables
    c.loop-vpn.invariant.tasks c.loop-vpn.invariant.rmap c.loop-vpn.invariant.from c.loop-vpn.invariant.up in
    (cleared_all c.args.tasks.now c.loop-vpn.tasks c.args.rmap.now c.loop-vpn.rmap c.args.pid c.args.first c.new.result c.args.end kept (λ w l h. c.in-Some.ensures.first w l (omega (arith, h, c.if-number.true, c.number.ensures, c.number-in-Some.ensures)))).1

pub returns-clause-tasks : goal.returns-clause-tasks
returns-clause-tasks g c =
    let kept = clearing c.args.tasks.now c.loop-vpn.tasks c.args.rmap.now c.loop-vpn.rmap c.args.pid c.args.first c.loop-vpn.at c.args.end c.new.result c.new.ensures c.requires.pids c.requires.tables
    c.loop-vpn.invariant.tasks c.loop-vpn.invariant.rmap c.loop-vpn.invariant.from c.loop-vpn.invariant.up in
    (cleared_all c.args.tasks.now c.loop-vpn.tasks c.args.rmap.now c.loop-vpn.rmap c.args.pid c.args.first c.new.result c.args.end kept (λ w l h. c.in_default.ensures.none w l)).0

pub returns-clause-rmap : goal.returns-clause-rmap
returns-clause-rmap g c =
    let kept = clearing c.args.tasks.now c.loop-vpn.tasks c.args.rmap.now c.loop-vpn.rmap c.args.pid c.args.first c.loop-vpn.at c.args.end c.new.result c.new.ensures c.requires.pids c.requires.tables
    c.loop-vpn.invariant.tasks c.loop-vpn.invariant.rmap c.loop-vpn.invariant.from c.loop-vpn.invariant.up in
    (cleared_all c.args.tasks.now c.loop-vpn.tasks c.args.rmap.now c.loop-vpn.rmap c.args.pid c.args.first c.new.result c.args.end kept (λ w l h. c.in_default.ensures.none w l)).1

pub drop_one-requires : goal.drop_one-requires
drop_one-requires g c =
    let kept = clearing c.args.tasks.now c.loop-vpn.tasks c.args.rmap.now c.loop-vpn.rmap c.args.pid c.args.first c.loop-vpn.at c.args.end c.new.result c.new.ensures c.requires.pids c.requires.tables
    c.loop-vpn.invariant.tasks c.loop-vpn.invariant.rmap c.loop-vpn.invariant.from c.loop-vpn.invariant.up in
    names_below c.args.tasks.now c.loop-vpn.tasks c.args.rmap.now c.loop-vpn.rmap c.args.pid c.args.first c.new.result c.args.end kept _ c.in-Some-frame_named.frame _ (λ f v. c.requires.frames f v) c.in-Some.ensures.some.0 c.in-Some.ensures.some.1
    (names_it _ c.in-Some-frame_named.frame (sym c.frame_named.ensures ∙ c.in-Some-frame_named.is))

pub loop-vpn-preserved : goal.loop-vpn-preserved
loop-vpn-preserved g c =
    let x = c.args in
    let kept = clearing c.args.tasks.now c.loop-vpn.tasks c.args.rmap.now c.loop-vpn.rmap c.args.pid c.args.first c.loop-vpn.at c.args.end c.new.result c.new.ensures c.requires.pids c.requires.tables
    c.loop-vpn.invariant.tasks c.loop-vpn.invariant.rmap c.loop-vpn.invariant.from c.loop-vpn.invariant.up in
    let some = c.in-Some.ensures.some in
    let v = number_found c.new.result some.0 in
    let e = entry_found (entry_at c.loop-vpn.tasks c.args.pid v) some.1 in
    let r = c.loop-vpn.rmap in
    let t = c.match-frame_named.rmap in
    let frame_below = names_below c.args.tasks.now c.loop-vpn.tasks c.args.rmap.now c.loop-vpn.rmap c.args.pid c.args.first c.new.result c.args.end kept v in
    let low = some.0 in
    let both = cleared_one c.args.tasks.now c.loop-vpn.tasks c.args.rmap.now c.loop-vpn.rmap c.args.pid c.args.first c.new.result c.args.end kept v e c.clear.new.self c.match-frame_named.rmap some.0 some.1 c.in-Some.ensures.first c.clear.ensures
    (elim c.match-frame_named.branch as (λ _. IsWithout r t (c.args.pid, v) (Some e)) [
      | in_default-frame_named w ↦ less_zero r t (c.args.pid, v) e (zero_if_none e (sym c.frame_named.ensures ∙ w.in_default-frame_named.is)) w.rmap-is
      | in-Some-frame_named w ↦
          let f = w.in-Some-frame_named.frame in
          let named = sym c.frame_named.ensures ∙ w.in-Some-frame_named.is in
          less_named r t f (c.args.pid, v) e named (frame_below f e (λ f v. c.requires.frames f v) some.0 some.1 (names_it e f named)) w.drop_one.ensures.ordered (w.rmap-is ∙ w.drop_one.ensures.mapper)
    ]) in
    let at = c.number-at-in-Some.ensures in
    record {
      tasks = both.0 ∙ ap (λ (n : ℕ). without_entries x.tasks.now x.pid x.first (n + 1)) (sym at);
      rmap = subst (λ (n : ℕ). IsCleared x.rmap.now c.match-frame_named.rmap x.pid x.first (n + 1) x.tasks.now) (sym at) both.1;
      from = omega (arith, at, low, c.new.ensures, c.loop-vpn.invariant.from);
      up = omega (arith, at, low, c.new.ensures, c.loop-vpn.invariant.from, c.if-number.false, c.number.ensures, c.number-in-Some.ensures);
    }
