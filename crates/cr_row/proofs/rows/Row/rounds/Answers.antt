use Rattle.std.proofs.Common.{◌∙◌, ap}
use Rattle.cr_row.specs.Rows.{rounds}
use Rattle.cr_row.proofs.PackedRounds.{packed_rounds, IsPacked-rounds}
use Rattle.cr_row.proofs.rows.Row.rounds.Goals as goal

pub invariant_of-result : goal.invariant_of-result
invariant_of-result c = IsPacked-rounds c.number-stage.result c.number-stage.ensures.at_least c.number-stage.ensures.at_most

pub returns-clause-is : goal.returns-clause-is
returns-clause-is c = (packed_rounds c.number-stage.result c.number-stage.ensures.at_most).0 ∙ ap rounds c.number-stage.ensures.is
