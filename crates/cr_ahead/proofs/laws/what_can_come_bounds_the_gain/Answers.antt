use Rattle.cr_ahead.proofs.Nodes.{rest_is_way, too_much, too_little}
use Rattle.cr_ahead.proofs.laws.what_can_come_bounds_the_gain.Goals as goal

pub returns : goal.returns
returns c = record {
  no_way = λ m least greatest place long node none rest way. none rest (rest_is_way m least greatest place long node rest way).1;
  too_much = too_much;
  too_little = too_little;
}
