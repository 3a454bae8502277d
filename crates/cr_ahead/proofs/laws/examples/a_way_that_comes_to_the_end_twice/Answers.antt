use Rattle.std.proofs.Common.{ℕ, ◌<◌, [], ◌∷◌, refl, arith}
use Rattle.std.specs.List.{All}
use Rattle.std.proofs.lemmas.List.Elements.{All-from_recursion}
use Rattle.cr_ahead.proofs.Deciding.{ring_answers}
use Rattle.cr_ahead.proofs.laws.examples.a_way_that_comes_to_the_end_twice.Goals as goal

plain_steps : All (λ (s : ℕ). s < 2) (0 ∷ 0 ∷ 0 ∷ 0 ∷ 0 ∷ 0 ∷ [])
plain_steps =
    let low : 0 < 2 = omega arith in
    All-from_recursion (λ (s : ℕ). s < 2) (0 ∷ 0 ∷ 0 ∷ 0 ∷ 0 ∷ 0 ∷ []) (low, (low, (low, (low, (low, (low, tt))))))

pub returns : goal.returns
returns c = record {
  way = record { are_steps = plain_steps; at_end = refl; at_least = omega arith; at_most = omega arith };
  least = (ring_answers 13 12 12 0 0 (omega arith)).0;
  least_of_many = (ring_answers 13 10 12 0 0 (omega arith)).0;
  greatest_of_many = (ring_answers 13 10 12 0 0 (omega arith)).1;
}
