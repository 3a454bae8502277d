use Rattle.std.proofs.Common.{take}
use Rattle.std.specs.Prelude.{All}
use Rattle.cr_path.specs.Covers.{StaysWithin}
use Rattle.cr_path.specs.Rung.{rung_numbers}
use Rattle.cr_path.proofs.numbers.covers.all_stay_within.Given as goal

abbrev pub invariant-loop-lead : goal.invariant-loop-lead
invariant-loop-lead l = All (λ lead. StaysWithin l.cover (rung_numbers l.numbers lead)) (take l.lead-index l.leads)
