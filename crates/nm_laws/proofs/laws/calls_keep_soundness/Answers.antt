use Rattle.std.proofs.Common.{[], ◌+◌, ◌/◌}
use Rattle.nm_model.specs.definitions.Effect.{page_count}
use Rattle.nm_laws.proofs.Soundness.New.{new_sound}
use Rattle.nm_laws.proofs.Soundness.Called.{spawn_sound, map_sound, attach_sound, pin_sound, unpin_sound}
use Rattle.nm_laws.proofs.Soundness.Dropped.{unmap_sound, exit_sound}
use Rattle.nm_laws.proofs.Soundness.Policed.{policy_sound}
use Rattle.nm_laws.proofs.laws.calls_keep_soundness.Goals as goal

pub returns-clause-new : goal.returns-clause-new
returns-clause-new c = new_sound

pub returns-clause-spawn : goal.returns-clause-spawn
returns-clause-spawn c = spawn_sound

pub returns-clause-map : goal.returns-clause-map
returns-clause-map c = map_sound

pub returns-clause-attach : goal.returns-clause-attach
returns-clause-attach c = attach_sound

pub returns-clause-pin : goal.returns-clause-pin
returns-clause-pin c = pin_sound

pub returns-clause-unpin : goal.returns-clause-unpin
returns-clause-unpin c = unpin_sound

pub returns-clause-unmap : goal.returns-clause-unmap
returns-clause-unmap c = unmap_sound

pub returns-clause-exit : goal.returns-clause-exit
returns-clause-exit c = λ s pid h. exit_sound s h pid

pub returns-clause-policies : goal.returns-clause-policies
returns-clause-policies c = λ s pid address len policy h. policy_sound s [] pid (address / 4096) (address / 4096 + page_count len) policy h
