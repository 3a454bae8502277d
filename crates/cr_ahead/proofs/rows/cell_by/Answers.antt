-- The cell of the next place tells what comes behind the step.
use Rattle.std.proofs.Common.{◌-◌, ◌≤◌, ◌∙◌, refl, arith}
use Rattle.cr_ahead.specs.Cells.{told_by}
use Rattle.cr_ahead.specs.Tables.{cell_at}
use Rattle.cr_ahead.proofs.Steps.{found_by_step}
use Rattle.cr_ahead.proofs.rows.cell_by.Goals as goal

pub returns-clause-is : goal.returns-clause-is
returns-clause-is c = λ least greatest few right.
    let fits : c.from-length.result ≤ c.args.left = omega (arith, c.if-length-left.false) in
    found_by_step c.args.moves.now least greatest c.args.left c.args.place c.args.step c.from-length.result c.next.result c.from.result c.places.result c.args.cells.now
    (told_by (cell_at c.args.cells.now c.places.result (c.args.left - c.from-length.result) c.next.result)) (told_by c.raised.result)
    few c.requires.step (c.from-length.ensures ∙ c.length.ensures.is) (omega (arith, c.from-length.ensures, c.length.ensures.some)) fits
    c.next.ensures.is c.next.ensures.there c.requires.counted (c.from.ensures ∙ c.gain.ensures) c.places.ensures.is
    refl c.raised.ensures.told right
