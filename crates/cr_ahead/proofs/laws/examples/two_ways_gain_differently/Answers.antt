use Rattle.std.proofs.Common.{arith}
use Rattle.cr_ahead.proofs.Deciding.{ring_answers}
use Rattle.cr_ahead.proofs.laws.examples.two_ways_gain_differently.Goals as goal

pub returns : goal.returns
returns c = record {
  least = (ring_answers 6 5 5 0 0 (omega arith)).0;
  greatest = (ring_answers 6 5 5 0 0 (omega arith)).1;
  last_lead = (ring_answers 7 6 6 0 0 (omega arith)).0;
  no_more = (ring_answers 7 6 6 0 0 (omega arith)).1;
  both = (ring_answers 7 5 6 0 0 (omega arith)).0;
}
