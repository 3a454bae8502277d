use Rattle.std.proofs.Common.{arith}
use Rattle.std.proofs.lemmas.Bool.{false≢true}
use Rattle.cr_ahead.proofs.Deciding.{ring_answers}
use Rattle.cr_ahead.proofs.laws.examples.a_place_that_is_no_end.Goals as goal

pub returns : goal.returns
returns c = record {
  no_way = λ way. false≢true way.at_end;
  none = ring_answers 3 0 2 1 0 (omega arith);
  least = (ring_answers 4 0 3 1 0 (omega arith)).0;
}
