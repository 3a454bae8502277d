use Rattle.std.proofs.Common.{ℕ, ◌<◌, [], refl, arith}
use Rattle.std.proofs.lemmas.List.Elements.{All-nil, All-cons, All-head}
use Rattle.cr_ahead.proofs.Deciding.{ring_answers}
use Rattle.cr_ahead.proofs.laws.examples.lengths_at_the_edges.Goals as goal

pub returns : goal.returns
returns c = record {
  way = record { are_steps = All-cons (λ (s : ℕ). s < 2) 0 [] (omega arith) (All-nil (λ (s : ℕ). s < 2)); at_end = refl; at_least = omega arith; at_most = omega arith };
  too_short = λ way. absurd (omega (arith, way.at_least));
  too_long = λ way. absurd (omega (arith, way.at_most));
  none = ring_answers 9 7 8 0 0 (omega arith);
  no_step = λ way. let low : 2 < 2 = All-head (λ (s : ℕ). s < 2) 2 [] way.are_steps in absurd (omega arith);
}
