use Rattle.nm_calls.proofs.Accesses.EachAnswered.{each_access_is_answered}
use Rattle.nm_calls.proofs.Accesses.ByPlace.{answers_go_by_place}
use Rattle.nm_calls.proofs.laws.answers_go_by_place.Goals as goal

pub returns-clause-place : goal.returns-clause-place
returns-clause-place c = answers_go_by_place

pub returns-clause-each : goal.returns-clause-each
returns-clause-each c = each_access_is_answered
