use Rattle.nm_frames.proofs.Stores.{zero_there}
use Rattle.nm_frames.proofs.slot.Slot.byte.Goals as goal

pub returns-in-None-clause-value : goal.returns-in-None-clause-value
returns-in-None-clause-value g c =
    zero_there c.self.inside.is_out c.self.inside.buffer c.args.self.now c.args.at c.self.view_is c.in-None.is c.requires.home c.requires.inside
