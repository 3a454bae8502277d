use Rattle.std.proofs.Common.{ℕ, ◌<◌, [], ◌∷◌, refl, arith}
use Rattle.std.proofs.lemmas.List.Elements.{All-from_recursion}
use Rattle.cr_ahead.proofs.Deciding.{ring_long}
use Rattle.cr_ahead.proofs.laws.examples.lists_hang_together.Goals as goal

pub returns : goal.returns
returns c = record {
  sound = record {
    few = omega arith;
    led = refl;
    gained = refl;
    there = let low : 0 < 3 = omega arith in let one : 1 < 3 = omega arith in let two : 2 < 3 = omega arith in
        All-from_recursion (λ (p : ℕ). p < 3) (1 ∷ 2 ∷ 2 ∷ 0 ∷ 0 ∷ 1 ∷ []) (one, (two, (two, (low, (low, (one, tt))))));
    long = ring_long;
  };
  too_few = λ sound. absurd (omega (arith, sound.led));
  too_many = λ sound. absurd (omega (arith, sound.gained));
  not_there = λ sound. let low : 3 < 3 = sound.there 5 0 (omega arith) in absurd (omega arith);
  no_length = λ sound. let low : 0 < 0 = sound.long 1 0 (omega arith) in absurd (omega arith);
}
