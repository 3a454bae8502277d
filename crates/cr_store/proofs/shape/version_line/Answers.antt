-- No number, or one that is no version.
use Rattle.std.proofs.Common.{codes}
use Rattle.std.proofs.lemmas.Bool.{iff_false}
use Rattle.cr_model.specs.Checkpoints.{number_line}
use Rattle.cr_model.specs.Texts.{IsNumber}
use Rattle.cr_model.proofs.Lacking.{if_none}
use Rattle.cr_store.specs.ShapeStages.{IsVersion}
use Rattle.cr_store.proofs.ShapeCodes.{another_begins, none_of_fewer}
use Rattle.cr_store.proofs.ShapeStops.{version_code, version_number}
use Rattle.cr_store.proofs.shape.version_line.Goals as goal

pub returns-in_err-version-clause-none : goal.returns-in_err-version-clause-none
returns-in_err-version-clause-none c =
    if_none c.from_residual.result _
    (none_of_fewer (number_line (codes "ringsearch checkpoint")) IsNumber IsVersion version_number c.args.text.now c.in_err-version.ensures.none)

pub returns-else-is_version-clause-none : goal.returns-else-is_version-clause-none
returns-else-is_version-clause-none c =
    another_begins (number_line (codes "ringsearch checkpoint")) IsNumber IsVersion version_number version_code c.args.text.now c.in_ok-version.version c.in_ok-version.rest.now
    c.in_ok-version.ensures.some.0 c.in_ok-version.ensures.some.1 (iff_false c.is_version.ensures c.if-is_version.false)
