use Rattle.std.proofs.Common.{◌≡◌, [], refl, sym, ap, ◌∙◌, rules}
use Rattle.nm_requests.specs.declared.call.Call.{Call}
use Rattle.nm_requests.specs.declared.call.Call.TheVariants.{MovePages}
use Rattle.nm_requests.specs.declared.call.MoveRequest.{MoveRequest}
use Rattle.nm_calls.specs.definitions.Outcome.{accesses_asked}
use Rattle.nm_requests.specs.Views.{call_of}
use Rattle.nm_calls.specs.views.Answers.{answer_of}
use Rattle.nm_trace.specs.definitions.Report.{answers_in}
use Rattle.nm_trace.specs.definitions.Report.{access_lines}
use Rattle.nm_trace.proofs.Lines.{no_access, no_answer}
use Rattle.nm_streams.proofs.Waits.{put_is, put_none}
use Rattle.nm_trace.proofs.text.push_flights.Goals as goal

-- a call of another kind makes no accesses
none_asked : {A : Type 0} (call : Call A) → ((request : MoveRequest A) → call ≡ MovePages request → ⊥) → accesses_asked (call_of call) ≡ []
unfolding accesses_asked
none_asked (MovePages request) other = absurd (other request refl)
none_asked call other = refl

pub returns-in_default-answer : goal.returns-in_default-answer
returns-in_default-answer g c =
    let during = accesses_asked (call_of c.args.call.now) in
    let none : answers_in (answer_of c.args.answer.now) ≡ [] = search rules in
    put_is (sym (ap (access_lines c.args.k 0 during) none ∙ no_answer c.args.k 0 during)) put_none

pub returns-in_default : goal.returns-in_default
returns-in_default g c =
    let none = ap (λ d. access_lines c.args.k 0 d (answers_in (answer_of c.args.answer.now))) (none_asked c.args.call.now (λ request is. c.in_default.not-MovePages request is)) in
    put_is (sym (none ∙ no_access c.args.k 0 (answers_in (answer_of c.args.answer.now)))) put_none
