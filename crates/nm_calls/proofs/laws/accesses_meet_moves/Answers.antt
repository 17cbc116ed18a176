use Rattle.std.proofs.Common.{refl}
use Rattle.nm_calls.specs.definitions.Outcome.{refusal_of, start, runs_asked, accesses_asked, end_of_call}
use Rattle.nm_calls.proofs.laws.accesses_meet_moves.Goals as goal

pub returns : goal.returns
unfolding refusal_of start runs_asked accesses_asked end_of_call
returns c = record {
  frames_are_reserved = (refl, refl);
  access_finds_no_frame = (refl, refl);
  held_at_each_address = (refl, refl, refl);
  refused_before_held = refl;
  refused_calls_make_none = refl;
  answered_in_order = refl;
  limit_makes_runs = (refl, refl);
}
