use Rattle.std.proofs.Common.{ℕ, ap, sym, subst, ◌∙◌, Option, IsSome}
use Rattle.std.specs.Ordering.{nat_cmp}
use Rattle.nm_types.specs.declared.page.Page.{Page}
use Rattle.nm_types.specs.Map.{get, page_cmp}
use Rattle.nm_pool.specs.views.Frames.{FramesView}
use Rattle.nm_engine.specs.views.RunState.{RunState, with_state}
use Rattle.nm_engine.specs.views.Shown.{shown_by}
use Rattle.nm_model.specs.definitions.Sound.{IsSoundInFlight}
use Rattle.nm_engine.specs.definitions.Undo.{IsGiven, seen_before, undo_touch}
use Rattle.nm_engine.proofs.Undo.Touches.{place_kept, can_put_back, seen_kept, back_shows, back_kept}
use Rattle.nm_engine.proofs.prepared_run.PreparedRun.undo.Goals as goal

pub free_first-requires : goal.free_first-requires
free_first-requires g c =
    let i = c.self.inside in
    let u = c.args.undo in
    let s = shown_by i.spaces i.frames i.online i.totals.moved i.totals.failed in
    let given = subst (λ (o : Option (Page × ℕ)). IsGiven (seen_before c.args.self.now.state (get nat_cmp c.args.self.now.state.processes u.pid) u.pid u.vpn u.zero) o) c.in-Some.is c.requires.given in
    can_put_back s i.frames.vacated c.in-Some.given.0 c.in-Some.given.1 c.self.invariant.sound
    (ap (λ (x : RunState). get page_cmp x.state.place c.in-Some.given.0) c.self.view_is
    ∙ ap (λ place. get page_cmp place c.in-Some.given.0) (sym (place_kept c.args.self.now.state (get nat_cmp c.args.self.now.state.processes u.pid) u.pid u.vpn u.zero)) ∙ given.0)

pub invariant_of-self : goal.invariant_of-self
invariant_of-self g c =
    let i = c.self.inside in
    let u = c.args.undo in
    let s = shown_by i.spaces i.frames i.online i.totals.moved i.totals.failed in
    let known = subst (λ (x : RunState). IsSome (get nat_cmp x.state.processes u.pid)) (sym c.self.view_is) c.requires.known in
    let sound = subst (λ (x : RunState). IsSoundInFlight (undo_touch x.state u) x.left) (sym c.self.view_is) c.requires.sound in
    seen_kept i.spaces c.see_before.new.self i.frames i.online i.totals.moved i.totals.failed u.pid u.vpn u.zero known c.see_before.ensures c.self.invariant
    (subst (λ (o : Option (Page × ℕ)). IsSoundInFlight (undo_touch s (record { pid = u.pid; vpn = u.vpn; zero = u.zero; given = o })) i.frames.vacated) c.in_default.is sound)

pub invariant_of-self-2 : goal.invariant_of-self-2
invariant_of-self-2 g c =
    let i = c.self.inside in
    let u = c.args.undo in
    let s = shown_by i.spaces i.frames i.online i.totals.moved i.totals.failed in
    let known = subst (λ (x : RunState). IsSome (get nat_cmp x.state.processes u.pid)) (sym c.self.view_is) c.requires.known in
    let sound = subst (λ (x : RunState). IsSoundInFlight (undo_touch x.state u) x.left) (sym c.self.view_is) c.requires.sound in
    back_kept i.spaces c.see_before.new.self c.unplace.new.self i.frames c.free_first.new.self i.online i.totals.moved i.totals.failed u.pid u.vpn u.zero c.in-Some.given.0 c.in-Some.given.1
    known c.see_before.ensures c.unplace.ensures c.free_first.ensures c.self.invariant
    (subst (λ (o : Option (Page × ℕ)). IsSoundInFlight (undo_touch s (record { pid = u.pid; vpn = u.vpn; zero = u.zero; given = o })) i.frames.vacated) c.in-Some.is sound)

pub returns : goal.returns
returns g c =
    let i = c.self.inside in
    let u = c.args.undo in
    let s = shown_by i.spaces i.frames i.online i.totals.moved i.totals.failed in
    let known = subst (λ (x : RunState). IsSome (get nat_cmp x.state.processes u.pid)) (sym c.self.view_is) c.requires.known in
    let back = back_shows i.spaces c.see_before.new.self c.unplace.new.self i.frames c.free_first.new.self i.online i.totals.moved i.totals.failed u.pid u.vpn u.zero c.in-Some.given.0 c.in-Some.given.1
    known c.see_before.ensures c.unplace.ensures c.free_first.ensures in
    (λ j. record { state = back j; left = ap (λ (k : FramesView). k.vacated) c.free_first.ensures j; room = ap (λ (k : FramesView). k.room) c.free_first.ensures j })
    ∙ ap (λ (o : Option (Page × ℕ)). record { state = undo_touch s (record { pid = u.pid; vpn = u.vpn; zero = u.zero; given = o }); left = i.frames.vacated; room = i.frames.room }) (sym c.in-Some.is)
    ∙ ap (λ (x : RunState). with_state x (undo_touch x.state u)) c.self.view_is
