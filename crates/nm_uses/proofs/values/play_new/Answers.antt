use Rattle.std.proofs.Common.{ap, inl, map, subst, ◌∙◌}
use Rattle.nm_requests.specs.Views.{call_of}
use Rattle.nm_calls.specs.definitions.Systems.{SystemState, system_with}
use Rattle.nm_trace.specs.definitions.Played.{Plays}
use Rattle.nm_uses.proofs.values.play_new.Goals as goal

pub returns : goal.returns
returns g c =
    let written = g.W.Write.contents c.args.out.now in
    let then = g.W.Write.contents c.play.new.writer in
    record { plays = inl (c.play.new.system, subst (λ (s : SystemState). Plays s (map call_of c.args.trace.now.calls.items) c.play.new.system written then c.play.result) (c.in-Ok-with_run_limit.ensures ∙ ap (λ layout. system_with layout c.args.trace.now.run_limit) c.in-Ok.ensures.cases) c.play.ensures.plays) }
