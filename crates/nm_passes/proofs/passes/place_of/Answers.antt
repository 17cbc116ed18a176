use Rattle.std.proofs.Common.{◌≡◌, ℕ, ◌<◌, Bool, sym, subst, ◌∙◌}
use Rattle.std.specs.Prelude.{Option, Some, IfSome}
use Rattle.nm_types.specs.Layout.{Layout, frame_count}
use Rattle.nm_runs.specs.Shown.{HasFrameBelow}
use Rattle.nm_passes.proofs.Looks.{lent_shows}
use Rattle.nm_passes.proofs.passes.place_of.Goals as goal

pub node_of-requires : goal.node_of-requires
node_of-requires g c =
    let s = c.args.machine.now in
    let below : HasFrameBelow (frame_count s.layout) c.seen.result = subst (HasFrameBelow (frame_count s.layout)) (sym c.seen.ensures) ((lent_shows s c.spaces.result.now c.geometry.ensures.sound c.spaces.ensures).seen _ _) in
    subst (λ (l : Layout). c.in-At-seen.frame < frame_count l) (sym c.geometry.ensures.geometry) (subst (HasFrameBelow (frame_count s.layout)) c.in-At-seen.is below)

-- the frame of a page that is placed is the machine's
frame_below : (frames : ℕ) (o : Option (ℕ × Bool)) (place : ℕ × Bool) → Some place ≡ o → IfSome o (λ p. p.0 < frames) → place.0 < frames
frame_below frames o place is below = subst (λ p. IfSome {T = ℕ × Bool} p (λ q. q.0 < frames)) (sym is) below

pub node_of-requires-in-Some : goal.node_of-requires-in-Some
node_of-requires-in-Some g c =
    let s = c.args.machine.now in
    let below = (lent_shows s c.spaces-in-Whole.result.now c.geometry-in-Some.ensures.sound c.spaces-in-Whole.ensures).placed c.in-Whole.page in
    subst (λ (l : Layout). c.in-Some.place.0 < frame_count l) (sym c.geometry-in-Some.ensures.geometry)
    (frame_below (frame_count s.layout) _ c.in-Some.place c.in-Some.ensures below)
