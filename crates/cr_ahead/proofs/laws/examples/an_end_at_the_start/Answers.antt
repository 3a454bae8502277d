use Rattle.std.proofs.Common.{refl, arith}
use Rattle.cr_ahead.proofs.Steps.{empty_way}
use Rattle.cr_ahead.specs.Examples.{ring}
use Rattle.cr_ahead.proofs.Deciding.{ring_answers}
use Rattle.cr_ahead.proofs.laws.examples.an_end_at_the_start.Goals as goal

pub returns : goal.returns
returns c = record {
  way = empty_way ring 0 0 0 0 refl (omega arith) (omega arith);
  least = (ring_answers 1 0 0 0 0 (omega arith)).0;
  greatest = (ring_answers 5 0 4 0 0 (omega arith)).1;
  too_short = λ way. absurd (omega (arith, way.at_least));
  none = ring_answers 5 1 4 0 0 (omega arith);
}
