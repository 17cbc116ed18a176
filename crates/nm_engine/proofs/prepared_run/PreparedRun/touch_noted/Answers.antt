use Rattle.std.proofs.Common.{◌≡◌, List, [], ◌∷◌, ◌++◌, refl, ap, sym, subst, ◌∙◌}
use Rattle.std.specs.Prelude.{Ok, Option}
use Rattle.std.specs.Ordering.{nat_cmp}
use Rattle.nm_types.specs.Map.{get, page_cmp}
use Rattle.nm_model.specs.definitions.Seen.{sight_at}
use Rattle.nm_model.specs.definitions.Sound.{IsSoundInFlight}
use Rattle.nm_model.specs.definitions.Touch.{touch_sight}
use Rattle.nm_engine.specs.declared.prepared_run.undo.Undo.{Undo}
use Rattle.nm_engine.specs.definitions.Does.{Touches}
use Rattle.nm_engine.specs.definitions.Undo.{IsStillUndone, undo_of, with_undo}
use Rattle.nm_engine.specs.views.RunState.{RunState}
use Rattle.nm_engine.specs.views.Parts.{IsSiteOf, access_site}
use Rattle.nm_engine.specs.views.Shown.{shown_by}
use Rattle.nm_engine.proofs.Does.Touches.{inside, outside}
use Rattle.nm_engine.proofs.MidRun.Counted.{whatever_counted}
use Rattle.nm_engine.proofs.Undo.Touches.{still_undone, same_undone, touched_back, touches_err}
use Rattle.nm_engine.proofs.Does.HandedOn.{touch_handed_on}
use Rattle.nm_engine.proofs.prepared_run.PreparedRun.touch_noted.Goals.{in-Some, in_default}
use Rattle.nm_engine.proofs.prepared_run.PreparedRun.touch_noted.Goals as goal

pub touch-requires-clause-kept : goal.touch-requires-clause-kept
touch-requires-clause-kept g c = let i = c.self.inside in whatever_counted i.spaces i.frames i.online i.totals.moved i.totals.failed c.self.invariant

pub invariant_of-self : goal.invariant_of-self
invariant_of-self g c = c.touch.ensures.kept c.self.inside.totals.moved c.self.inside.totals.failed

pub invariant_of-self-2 : goal.invariant_of-self-2
invariant_of-self-2 g c = c.touch.ensures.kept c.self.inside.totals.moved c.self.inside.totals.failed

pub returns-clause-touches : goal.returns-clause-touches
returns-clause-touches g c p a known =
    let i = c.self.inside in
    let t = c.args.t in
    let here = inside _ _ _ _ c.self.view_is (λ s. IsSiteOf s.processes s.areas t p a) known in
    outside _ _ _ _ c.self.view_is (λ s. touch_sight s (access_site t p a) c.args.writes (get nat_cmp p.sees t.vpn) ≡ Ok (shown_by c.touch.new.spaces c.touch.new.frames i.online i.totals.moved i.totals.failed))
    (c.in_ok-frame.ensures.touches i.totals.moved i.totals.failed p a here)

pub returns-in_err-frame-clause-touches : goal.returns-in_err-frame-clause-touches
returns-in_err-frame-clause-touches g c p a known =
    let i = c.self.inside in
    let t = c.args.t in
    let new = shown_by c.touch.new.spaces c.touch.new.frames i.online i.totals.moved i.totals.failed in
    let here = inside _ _ _ _ c.self.view_is (λ s. IsSiteOf s.processes s.areas t p a) known in
    touch_handed_on c.touch.result c.from_residual-in_err-frame.result _ c.args.self.now.state new c.in_err-frame.was c.from_residual-in_err-frame.ensures refl
    (outside _ _ _ _ c.self.view_is (λ s. Touches c.touch.result s new (touch_sight s (access_site t p a) c.args.writes (get nat_cmp p.sees t.vpn)))
    (c.touch.ensures.touches i.totals.moved i.totals.failed p a here))

pub returns-in_err-frame-clause-back : goal.returns-in_err-frame-clause-back
returns-in_err-frame-clause-back g c =
    let i = c.self.inside in
    let t = c.args.t in
    let p = c.requires.0 in
    let a = c.requires.1 in
    let old = shown_by i.spaces i.frames i.online i.totals.moved i.totals.failed in
    let new = shown_by c.touch.new.spaces c.touch.new.frames i.online i.totals.moved i.totals.failed in
    let here = inside _ _ _ _ c.self.view_is (λ s. IsSiteOf s.processes s.areas t p a) c.requires.2 in
    let same = touches_err _ old new _ (c.in_err-frame.ensures.touches i.totals.moved i.totals.failed p a here) in
    same_undone c.args.self.now.state c.args.self.now.left new c.args.undos.now.items c.reserve.new.self.items
    (same ∙ ap (λ (x : RunState). x.state) c.self.view_is) c.in_ok-reserve.ensures.items

pub returns-clause-back : goal.returns-clause-back
returns-clause-back g c =
    let i = c.self.inside in
    let x = c.args.self.now in
    let t = c.args.t in
    let p = c.requires.0 in
    let a = c.requires.1 in
    let new = shown_by c.touch.new.spaces c.touch.new.frames i.online i.totals.moved i.totals.failed in
    let old : List Undo = c.args.undos.now.items in
    let frame = c.in_ok-frame.field-0.frame in
    let sound = subst (λ (x : RunState). IsSoundInFlight x.state x.left) c.self.view_is c.self.invariant.sound in
    let here = inside _ _ _ _ c.self.view_is (λ s. IsSiteOf s.processes s.areas t p a) c.requires.2 in
    let done = outside _ _ _ _ c.self.view_is (λ s. touch_sight s (access_site t p a) c.args.writes (get nat_cmp p.sees t.vpn) ≡ Ok new) (c.in_ok-frame.ensures.touches i.totals.moved i.totals.failed p a here) in
    let back = touched_back x.state x.left t p a c.args.writes new frame sound c.requires.2 done c.in_ok-frame.ensures.frame in
    let more : Option Undo = undo_of t.pid t.vpn t.page (sight_at x.state t.pid t.vpn) (get page_cmp x.state.place t.page) frame in
    let undo = c.in_ok-frame.ensures.undo ∙ ap (λ (x : RunState). undo_of t.pid t.vpn t.page (sight_at x.state t.pid t.vpn) (get page_cmp x.state.place t.page) frame) c.self.view_is in
    let is : c.match-undo.undos.items ≡ with_undo old more = elim c.match-undo.branch [
      | in-Some w ↦
          ap (λ us. us.items) w.undos-is ∙ w.push_reserved.ensures.items ∙ ap (λ (us : List Undo). us ++ w.in-Some.undo ∷ []) c.in_ok-reserve.ensures.items
          ∙ ap (with_undo old) (sym w.in-Some.is ∙ undo)
      | in_default w ↦ ap (λ us. us.items) w.undos-is ∙ c.in_ok-reserve.ensures.items ∙ ap (with_undo old) (sym w.in_default.is ∙ undo)
    ] in
    subst (λ (us : List Undo). IsStillUndone x.left x.state old new us) (sym is) (still_undone x.state x.left new old more back)
