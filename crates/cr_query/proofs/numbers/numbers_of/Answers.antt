use Rattle.std.proofs.Common.{arith}
use Rattle.cr_query.proofs.Sizes.{cap_short, part_cap_short}
use Rattle.cr_query.proofs.numbers.numbers_of.Goals as goal

pub returns-clause-small : goal.returns-clause-small
returns-clause-small c =
    let p = c.args.problem.now in
    let sound = c.query.ensures.sound in
    record {
      some_parts = omega (arith, c.parts.ensures.some);
      few_parts = omega (arith, c.parts.ensures.few);
      some_changes = omega (arith, c.shortest.ensures.some);
      short = omega (arith, c.cap.ensures, cap_short p sound);
      short_part = omega (arith, c.part_cap.ensures, part_cap_short p sound);
    }
