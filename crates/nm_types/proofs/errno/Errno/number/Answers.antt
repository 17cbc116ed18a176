use Rattle.nm_types.proofs.errno.Errno.number.Goals as goal

pub returns-in-Enomem : goal.returns-in-Enomem
returns-in-Enomem c = rw c.in-Enomem.is
