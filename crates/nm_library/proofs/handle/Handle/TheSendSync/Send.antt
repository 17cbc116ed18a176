-- A handle may go to another thread: with a session it owns what the session's box does, and without one nothing but numbers.
use Rattle.std.proofs.Common.{List}
use mir.Val.{Val}
use base.Shift.{Keyless}
use denote.Param.Send.{IsSend, plain_send, struct_send}
use denote.RawPtr.{Ptr}
use denote.Struct.Owning.{shape, to}
use Rattle.std.specs.declared.option.Option.{Option}
use Rattle.std.specs.declared.option.Option.TheVariants.{None, Some}
use Rattle.std.specs.declared.alloc.Global.{Global}
use Rattle.std.proofs.alloc.Global.TheSendSync as heap
use Rattle.std.proofs.Crossing.{Box-send}
use Rattle.nm_library.specs.contracts.handle.OpenSession as contents
use Rattle.nm_library.proofs.handle.OpenSession.TheSendSync as contents_cross
use Rattle.nm_library.specs.contracts.handle.Handle.{the_row, the_type}

owned : (p : Ptr) (a : Global) (value : Option contents.the_row.Denot) (vs : List Val) → Keyless (the_row.own_val (record { at = p; alloc = a; value = value }) vs)
owned p a (Some x) vs = (Box-send contents.the_row contents_cross.the_send).owned (record { ptr = p; alloc = a; value = x }) vs
owned p a None vs =
    ((struct_send (shape the_type) (plain_send _ _ _ _ _, (heap.the_field_send, tt))).owned (to the_type (record { at = p; alloc = a; value = None })) vs, λ _. tt)

pub send : IsSend the_row
send = record { owned = λ d vs. owned d.at d.alloc d.value vs; leaving = λ k d w. tt }
