-- A part has at most 12,000 changes.
use Rattle.std.proofs.Common.{arith, div-le_self}
use Rattle.cr_query.proofs.Sizes.{part_cap_short}
use Rattle.cr_ahead.proofs.units.greatest_units.Goals as goal

pub overflow_cast-result : goal.overflow_cast-result
overflow_cast-result c =
    omega (arith, c.part_cap.ensures, part_cap_short c.args.problem.now c.stage.ensures.sound, div-le_self c.part_cap.result c.from.result)
