use Rattle.nm_uses.proofs.Unrefused.{on_its_node, with_its_byte}
use Rattle.nm_uses.proofs.moving.move_page.Goals as goal

pub returns-clause-node : goal.returns-clause-node
returns-clause-node c = on_its_node c.move_there.result c.move_there.new.system c.move_there.ensures.done

pub returns-clause-byte : goal.returns-clause-byte
returns-clause-byte c = with_its_byte c.move_there.result c.move_there.new.system c.move_there.ensures.done
