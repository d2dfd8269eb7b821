use Rattle.sorted_records.proofs.OfWalk.OneOrbit.{some_orbit, one_orbit}
use Rattle.sorted_records.proofs.theorems.one_orbit.Goals as goal

pub returns : goal.returns
returns c = record {
  some = λ graph i is within. some_orbit graph i is within;
  one = λ graph i orbit other is that. one_orbit graph i orbit other is that;
}
