-- Another number, or 0.
use Rattle.std.proofs.Common.{codes, arith}
use Rattle.cr_model.specs.Checkpoints.{number_line}
use Rattle.cr_model.specs.Texts.{IsNumber}
use Rattle.cr_store.specs.ShapeStages.{IsCount}
use Rattle.cr_store.proofs.ShapeCodes.{another_begins}
use Rattle.cr_store.proofs.ShapeStops.{job_code}
use Rattle.cr_store.proofs.shape.job_line.Goals as goal

pub returns-else-count-gt0-clause-none : goal.returns-else-count-gt0-clause-none
returns-else-count-gt0-clause-none c =
    another_begins (number_line (codes "job")) IsNumber IsCount (λ n some. some.1) job_code c.args.text.now c.in_ok-count.count c.in_ok-count.rest.now
    c.in_ok-count.ensures.some.0 c.in_ok-count.ensures.some.1 (λ some. absurd (omega (arith, some.0)))
