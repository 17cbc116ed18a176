use Rattle.nm_calls.proofs.CallLaws.BytesStay.{calls_keep_memory, trail_keeps_memory, without_accesses}
use Rattle.nm_calls.proofs.laws.calls_keep_memory.Goals as goal

pub returns-clause-calls : goal.returns-clause-calls
returns-clause-calls c = calls_keep_memory

pub returns-clause-trail : goal.returns-clause-trail
returns-clause-trail c = trail_keeps_memory

pub returns-clause-none : goal.returns-clause-none
returns-clause-none c = without_accesses
