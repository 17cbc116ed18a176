use Rattle.std.proofs.Common.{refl}
use Rattle.std.specs.Fmt.{digits}
use Rattle.nm_calls.specs.definitions.Maps.{policy_text}
use Rattle.nm_calls.specs.definitions.Outcome.{refusal_of, start, runs_asked, end_of_call, accesses_asked}
use Rattle.nm_calls.proofs.laws.nodes_go_offline.Goals as goal

pub returns : goal.returns
unfolding digits policy_text refusal_of start runs_asked end_of_call accesses_asked
returns c = record {
  pages_leave_the_node = (refl, refl, refl);
  nothing_is_taken_offline = (refl, refl, refl, refl, refl);
  pinned_page_keeps_its_node = (refl, refl, refl);
  passes_go_by_distance = (refl, refl, refl, refl, refl, refl);
  unseen_page_moves = (refl, refl, refl);
  shared_page_leaves_its_node = (refl, refl, refl, refl, refl, refl, refl);
  offline_nodes_are_not_kept = (refl, refl, refl, refl);
  nearest_node_first = refl;
  last_node_stays = (refl, refl, refl);
  pages_go_by_segment = (refl, refl);
}
