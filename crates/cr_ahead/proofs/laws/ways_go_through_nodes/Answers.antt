use Rattle.cr_ahead.proofs.Nodes.{rest_is_way, way_of_rest, gain_joined}
use Rattle.cr_ahead.proofs.laws.ways_go_through_nodes.Goals as goal

pub returns : goal.returns
returns c = record {
  way = λ m least greatest place long node rest.
      (λ way. rest_is_way m least greatest place long node rest way, λ parts. way_of_rest m least greatest place long node rest parts.0 parts.1);
  gain = gain_joined;
}
