use Rattle.numatrace_session.proofs.Replied.{broken_off, written_both}
use Rattle.numatrace_session.proofs.put_both.Goals as goal

pub returns-in_err-put : goal.returns-in_err-put
returns-in_err-put g c = broken_off _ _ _ _ c.args.first.now c.args.second.now _ c.from_residual.result c.from_residual.ensures c.in_err-put.ensures

pub returns : goal.returns
returns g c =
    written_both _ _ _ _ _ _ c.args.first.now c.args.second.now c.put-2.result c.in_ok-put.ensures c.put-2.ensures
