use Rattle.nm_laws.proofs.InFlight.Held.{held_is_exact}
use Rattle.nm_laws.proofs.InFlight.Orders.{every_order_is_the_run, every_buffer_is_in_one_hand, every_entry_of_a_moving_page_is_held}
use Rattle.nm_laws.proofs.InFlight.Progress.{every_run_can_end}
use Rattle.nm_laws.proofs.InFlight.Reading.{every_sound_state_is_read}
use Rattle.nm_laws.proofs.laws.interleavings.Goals as goal

pub returns-clause-states : goal.returns-clause-states
returns-clause-states c = every_sound_state_is_read

pub returns-clause-orders : goal.returns-clause-orders
returns-clause-orders c = every_order_is_the_run

pub returns-clause-hands : goal.returns-clause-hands
returns-clause-hands c = every_buffer_is_in_one_hand

pub returns-clause-entries : goal.returns-clause-entries
returns-clause-entries c = every_entry_of_a_moving_page_is_held

pub returns-clause-held : goal.returns-clause-held
returns-clause-held c = held_is_exact

pub returns-clause-ends : goal.returns-clause-ends
returns-clause-ends c = every_run_can_end
