-- the front so far repeats its first steps
use Rattle.cr_rotate.specs.Fronts.{FrontRepeats}
use Rattle.cr_rotate.proofs.rotations.turns_back.Given as goal

abbrev pub invariant-loop-place : goal.invariant-loop-place
invariant-loop-place l = FrontRepeats l.word l.place l.period
