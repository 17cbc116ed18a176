use Rattle.std.proofs.Common.{sym, ap}
use Rattle.nm_calls.specs.definitions.Outcome.{access_answer}
use Rattle.nm_pool.specs.views.Accesses.{answer_shown}
use Rattle.nm_trace.specs.definitions.Report.{answer_text}
use Rattle.nm_streams.proofs.Waits.{put_is, put_more}
use Rattle.nm_trace.proofs.text.push_access_answer.Goals as goal

pub returns-in-Refused : goal.returns-in-Refused
unfolding answer_text
returns-in-Refused g c =
    put_is (sym (ap (λ a. answer_text (access_answer (answer_shown a))) c.in-Refused.is)) (put_more c.push_str-in-Refused.ensures (put_is c.name.ensures c.push_str-in-Refused-2.ensures))
