use Rattle.std.proofs.Common.{refl}
use Rattle.std.specs.Fmt.{digits}
use Rattle.nm_calls.specs.definitions.Maps.{policy_text}
use Rattle.nm_calls.proofs.laws.areas_are_listed.Goals as goal

pub returns-clause-sets_as_text : goal.returns-clause-sets_as_text
unfolding digits policy_text
returns-clause-sets_as_text c = refl

pub returns-clause-both_processes_are_counted : goal.returns-clause-both_processes_are_counted
unfolding digits policy_text
returns-clause-both_processes_are_counted c = refl

pub returns-clause-last_page : goal.returns-clause-last_page
unfolding digits policy_text
returns-clause-last_page c = (refl, refl, refl, refl, refl)
