use Rattle.std.proofs.Common.{◌∙◌, codes, decimal}
use Rattle.numatrace_session.proofs.Replied.{number_broken, number_written}
use Rattle.numatrace_session.proofs.put_bad_step.Goals as goal

pub returns-in_err-put_both : goal.returns-in_err-put_both
returns-in_err-put_both g c =
    number_broken _ _ _ _ (codes "fault: bad step ") c.as_bytes.result.now (decimal c.args.step) (codes "\n\n") _ c.from_residual.result (c.as_bytes.ensures.value ∙ c.format-number.ensures.text)
    c.from_residual.ensures c.in_err-put_both.ensures

pub returns : goal.returns
returns g c =
    number_written _ _ _ _ _ _ (codes "fault: bad step ") c.as_bytes.result.now (decimal c.args.step) (codes "\n\n") c.put.result (c.as_bytes.ensures.value ∙ c.format-number.ensures.text)
    c.in_ok-put_both.ensures c.put.ensures
