use Rattle.std.proofs.Common.{refl}
use Rattle.std.specs.Fmt.{digits}
use Rattle.nm_calls.specs.definitions.Maps.{policy_text}
use Rattle.nm_calls.specs.definitions.Outcome.{refusal_of, start, runs_asked, end_of_call, accesses_asked}
use Rattle.nm_calls.proofs.laws.policies_move_pages.Goals as goal

pub returns : goal.returns
unfolding digits policy_text refusal_of start runs_asked end_of_call accesses_asked
returns c = record {
  pinned_page_is_an_error = (refl, refl, refl);
  strict_alone_refuses = (refl, refl, refl, refl, refl);
  staying_is_no_error = (refl, refl);
  lines_are_split = refl;
  new_pages_take_turns = (refl, refl);
  bound_pages_go_nowhere_else = (refl, refl, refl);
  second_pass_takes_the_rest = (refl, refl, refl, refl);
  followers_stay = (refl, refl, refl, refl, refl, refl, refl);
  stray_pages_take_turns = (refl, refl);
  bindings_are_refused = (refl, refl, refl, refl, refl, refl, refl, refl, refl, refl, refl);
  last_byte_counts = refl;
  turns_go_by_index = refl;
  page_is_listed_once = (refl, refl, refl);
  shared_pages_move_with_all = (refl, refl, refl, refl);
}
