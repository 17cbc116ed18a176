use Rattle.std.proofs.Common.{refl}
use Rattle.hex.specs.Hex.{decode_pairs}
use Rattle.nm_steps.specs.Form.{access_named, during_of, read_access, write_access}
use Rattle.nm_steps.proofs.laws.flight_rows.Goals as goal

pub returns : goal.returns
unfolding access_named during_of read_access write_access decode_pairs
returns c = record {
  read = refl;
  write = refl;
  no_second_run = refl;
  no_run_at_all = refl;
  run_missing = refl;
  key_missing = refl;
  another_step = refl;
  in_their_order = refl;
  missing = refl;
  null_is_no_list = refl;
  no_object = refl;
}
