use Rattle.std.proofs.Common.{subst, sym}
use Rattle.std.specs.Str.{IsUtf8}
use Rattle.nm_calls.proofs.Lines.Addresses.{address_utf8}
use Rattle.nm_calls.proofs.number_text.push_address.Goals as goal

pub unreachable-requires : goal.unreachable-requires
unreachable-requires g c = c.in_default.ensures.cases.0 (subst IsUtf8 (sym c.address_bytes.ensures) (address_utf8 c.args.vpn))
