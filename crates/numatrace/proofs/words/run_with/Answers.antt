use Rattle.std.proofs.Common.{refl, Ok, Err}
use Rattle.numatrace.proofs.Ended.{not_done}
use Rattle.numatrace.proofs.words.run_with.Goals as goal

pub returns-in-Err : goal.returns-in-Err
returns-in-Err g c = record {
  accepted = refl;
  result = Err c.in-Err.fault;
  ends = c.status_of.ensures;
  runs = c.in-Err.ensures.runs;
  writes = c.in-Err.ensures.writes;
  quiet = λ zero. absurd (not_done c.in-Err.fault c.status_of.result c.status_of.ensures zero);
}

pub returns-in-Ok : goal.returns-in-Ok
returns-in-Ok g c = record {
  accepted = refl;
  result = Ok _;
  ends = refl;
  runs = c.in-Ok.ensures.runs;
  writes = c.in-Ok.ensures.writes;
  quiet = λ zero. refl;
}
