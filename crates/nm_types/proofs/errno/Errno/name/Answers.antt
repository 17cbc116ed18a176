use Rattle.nm_types.proofs.errno.Errno.name.Goals as goal

pub returns-in-Ebusy : goal.returns-in-Ebusy
returns-in-Ebusy c = rw c.in-Ebusy.is
