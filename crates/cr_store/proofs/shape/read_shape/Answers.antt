-- The line on which reading stops.
use Rattle.std.proofs.Common.{subst}
use Rattle.cr_store.specs.ShapeSteps.{StopsAtAll}
use Rattle.cr_store.proofs.ShapeWhole.{form_fault}
use Rattle.cr_store.proofs.shape.read_shape.Goals as goal

pub returns-in-Err-Wrong-clause-fault : goal.returns-in-Err-Wrong-clause-fault
returns-in-Err-Wrong-clause-fault c =
    form_fault c.args.bytes.now c.in-Err-Wrong.left c.line_at.result
    (subst (StopsAtAll c.args.bytes.now) c.in-Err-Wrong.field-0-is c.in-Err-Wrong.ensures.stops) c.line_at.ensures
