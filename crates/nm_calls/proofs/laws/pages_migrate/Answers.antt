use Rattle.std.proofs.Common.{refl}
use Rattle.nm_calls.specs.definitions.Outcome.{refusal_of, runs_asked, start, end_of_call, accesses_asked}
use Rattle.nm_calls.proofs.laws.pages_migrate.Goals as goal

pub returns : goal.returns
unfolding refusal_of runs_asked start end_of_call accesses_asked
returns c = record {
  each_page_goes_once = (refl, refl);
  half_way = (refl, refl);
  two_of_four_go = (refl, refl);
  shared_page_goes_by_privilege = (refl, refl, refl, refl);
  migrations_are_refused = (refl, refl, refl, refl, refl, refl, refl, refl, refl, refl);
  nothing_migrates = (refl, refl, refl, refl);
  sizes_of_what_is_kept = (refl, refl);
  page_is_listed_once = (refl, refl, refl);
  runs_have_a_limit = (refl, refl);
}
