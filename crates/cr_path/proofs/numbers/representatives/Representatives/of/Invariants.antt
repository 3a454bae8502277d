use Rattle.cr_path.specs.Representatives.{AreRepresentatives}
use Rattle.cr_path.proofs.numbers.representatives.Representatives.of.Given as goal

abbrev pub invariant-loop-number : goal.invariant-loop-number
invariant-loop-number l = AreRepresentatives l.stack.rows l.cover l.rows.items l.places.items l.number
